-- These lemmas are about the gaps that calls find.
use Rattle.std.proofs.Common.{◌≡◌, ◌≢◌, ◌↔◌, ℕ, Option, Some, Bool, true, false, not, refl, sym, ◌∙◌, subst}
use Rattle.ic_link_ops.specs.Prelude.{Place, Cut, first, last}
use Rattle.ic_raw.specs.declared.gap.Gap.{Gap}
use Rattle.ic_raw.specs.declared.status.TheConstants.{OK}
use Rattle.ic_raw.specs.Gaps.{BeginApart, gap_of}

-- two places are the gap of a cut if they are the last place before the cut and the first place after it
pub gap_is : (cut : Cut) {before after : Option Place} → before ≡ last cut.front → after ≡ first cut.back
    → ◌≡◌ {A = Option Gap} (Some (record { before = before; after = after })) (Some (gap_of cut))
gap_is cut b e = λ k. Some (record { before = b k; after = e k })

-- a test cannot fail and succeed at once
pub never : {b : Bool} → b ≡ false → b ≡ true → ⊥
never off on = let no : false ≡ true = sym off ∙ on in cc

-- if the negation of a truth value is false, the value is true
pub not_is : (b : Bool) → false ≡ not b → b ≡ true
not_is true e = refl
not_is false e = cc

-- if the negation of a truth value is true, the value is not true
pub not_so : (b : Bool) → not b ≡ true → b ≡ true → ⊥
not_so true other on = cc
not_so false other on = cc

pub is_not : (b : Bool) → (b ≡ true → ⊥) → not b ≡ true
is_not true off = absurd (off refl)
is_not false off = refl

-- A TEST DECIDES WHETHER A CALL IS ACCEPTED. The test succeeds exactly if the statement `Seen` holds of a view. For the words, the statement `Found`
-- is equivalent to `Seen`. The call is accepted exactly if `Found` holds
module _ {made : Bool} {Seen Found : Type 0} (links_back : (made ≡ true) ↔ Seen) (same : Seen ↔ Found) {status : ℕ} where
  pub accepts : made ≡ true → status ≡ OK → (status ≡ OK) ↔ Found
  accepts on ok = ((λ e. same.0 (links_back.0 on)), (λ found. ok))

  pub refuses : made ≡ false → status ≢ OK → (status ≡ OK) ↔ Found
  refuses off other = ((λ e. absurd (other e)), (λ found. absurd (never off (links_back.1 (same.1 found)))))

-- if two statements are equivalent to two others, their conjunctions are equivalent
pub both : {A B C D : Type 0} → A ↔ B → C ↔ D → (A × C) ↔ (B × D)
both one other = ((λ x. (one.0 x.0, other.0 x.1)), (λ y. (one.1 y.0, other.1 y.1)))

pub three : {A B C D E F : Type 0} → A ↔ B → C ↔ D → E ↔ F → (A × C × E) ↔ (B × D × F)
three one other last = ((λ x. (one.0 x.0, other.0 x.1, last.0 x.2)), (λ y. (one.1 y.0, other.1 y.1, last.1 y.2)))

-- if two pairs of lists have the same first members, one pair begins apart exactly if the second pair does
pub apart_same : {one other first second : Option Place} → one ≡ first → other ≡ second → BeginApart one other ↔ BeginApart first second
apart_same {one} {other} {first} {second} is are =
    let same : BeginApart one other ↔ BeginApart one other = ((λ x. x), (λ x. x)) in
    subst (λ o. BeginApart one other ↔ BeginApart first o) are (subst (λ o. BeginApart one other ↔ BeginApart o other) is same)
