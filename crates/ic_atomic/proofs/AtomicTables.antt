-- The places that a table links stay exactly the places that its holder holds.
use Rattle.std.proofs.Common.{◌≡◌, ◌≢◌, Bool, true, false, Result, Ok, Err, OnOk, OnErr, IfErr, List, sym, ap, ◌∙◌, subst, true≢false}
use Rattle.std.specs.Result.{is_ok}
use Rattle.std.specs.Bool.{OnTrue, OnFalse}
use mathlib.Core.Logic.{dite}
use native.Mathlib.Decide.{ℕ_discrete}
use Rattle.ic_link_ops.specs.Prelude.{Place, index_of, Table, LinksAlso}
use Rattle.ic_unsafe_ref.proofs.PlaceLemmas.{same_index}
use Rattle.ic_atomic.specs.declared.step.Event.{Event}
use Rattle.ic_atomic.specs.Records.{holds, HoldsAlso}

-- if a call cannot return false, the guarantee P that the call gives for the result true holds
pub certain : {P : Type 0} (r : Bool) → (OnFalse r ⊥) → OnTrue r P → P
certain true never h = h
certain false never h = absurd never

-- if a call returns false only for a linked place (b is true), the call cannot return false for an unlinked place (b is false)
pub not_refused : {Q : Type 0} (r : Bool) {b : Bool} → b ≡ false → (Q → b ≡ true) → OnFalse r Q → OnFalse r ⊥
not_refused true free linked h = tt
not_refused false free linked h = true≢false (sym (linked h) ∙ free)

-- if the result is `Ok`, the guarantee P that the contract gives for `Ok` holds. The same is true of `Err`
pub had : {X Y : Type 0} {P : Type 0} (r : Result X Y) → is_ok r ≡ true → OnOk r P → P
had (Ok x) is h = h
had (Err y) is h = absurd (true≢false (sym is))

pub not_had : {X Y : Type 0} {P : Type 0} (r : Result X Y) → is_ok r ≡ false → OnErr r P → P
not_had (Ok x) is h = absurd (true≢false is)
not_had (Err y) is h = h

pub as_it_was : {X Y : Type 0} (P : Y → Type 0) {Q : Type 0} (r : Result X Y) → is_ok r ≡ false → IfErr r (λ y. P y × Q) → Q
as_it_was P (Ok x) is h = absurd (true≢false is)
as_it_was P (Err y) is h = h.1

-- let two tests a and b of places agree everywhere. If c is the same as a and d the same as b except at p, and c and d agree at p, c and d agree everywhere
agree : (a b c d : Place → Bool) (p : Place) → c p ≡ d p → ((q : Place) → q ≢ p → c q ≡ a q) → ((q : Place) → q ≢ p → d q ≡ b q)
    → ((q : Place) → a q ≡ b q) → (q : Place) → c q ≡ d q
agree a b c d p here left right was q = dite (ℕ_discrete (index_of q) (index_of p))
    (λ same. subst (λ (x : Place). c x ≡ d x) (sym (same_index q p same)) here)
    (λ apart. let ne : q ≢ p = λ e. apart (ap index_of e) in left q ne ∙ was q ∙ sym (right q ne))

module _ {E : Type 0} (linked : E → Bool) {t u : Table E} {r w : List Event} {p : Place} where
  -- if the linked places are the held places, and p becomes linked and held, the linked places are still the held places
  pub held_with : LinksAlso linked t u p → HoldsAlso r w p → ((q : Place) → linked (t.entry q) ≡ holds q r) → (q : Place) → linked (u.entry q) ≡ holds q w
  held_with links held was = agree (λ q. linked (t.entry q)) (λ q. holds q r) (λ q. linked (u.entry q)) (λ q. holds q w) p (links.is ∙ sym held.is) links.others held.others was
