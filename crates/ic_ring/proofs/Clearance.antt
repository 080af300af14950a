-- Lemmas about a ring whose members are unlinked one after the other, from the front.
use Rattle.std.proofs.Common.{◌≡◌, Option, Some, None, IsSome, List, [], ◌∷◌, ◌++◌, drop, refl, sym, subst, ap, ◌∙◌, append_assoc, append-nil, is_some, false}
use Rattle.ic_link_ops.specs.Prelude.{Place, IsAbsent, first, Table, ChangesOnlyIn, Neighbors}
use Rattle.ic_link_ops.proofs.SequenceLemmas.{absent_right, nothing_first}
use Rattle.ic_ring.specs.Rings.{Represents}

module _ {E : Type 0} (n : E → Neighbors) where
  -- of the members s, the members `done` were removed from the ring, and the members `rest` are still in the ring
  pub record Clears (old new : Table E) (head : Place) (s : List Place) : Type 0 where
    pub done : List Place
    pub rest : List Place
    pub parts : s ≡ done ++ rest
    pub shown : Represents n new head rest
    pub kept : ChangesOnlyIn old new (head ∷ s)

-- if an option is not `Some`, it is none. `not_some` says that a none is not `Some`
pub none_is : (r : Option Place) → is_some r ≡ false → r ≡ None
none_is None e = refl
none_is (Some x) e = cc

not_some : (r : Option Place) → r ≡ None → IsSome r → ⊥
not_some None e some = cc
not_some (Some x) e some = cc

module _ {E : Type 0} {n : E → Neighbors} where
  -- AT FIRST no member was removed, and all members s are in the ring
  unfoldable pub clears_none : {t : Table E} {head : Place} {s : List Place} → Represents n t head s → Clears n t t head s
  clears_none {s = s} shown = record { done = []; rest = s; parts = refl; shown = shown; kept = record { extent = refl; others = λ q out. refl } }

  -- ONE STEP removes the first member of `rest` from the ring
  pub clears_more : {old mid new : Table E} {head : Place} {s : List Place} (k : Clears n old mid head s) {result : Option Place} → IsSome result
      → ((r : List Place) → Represents n mid head r → result ≡ first r) → ((r : List Place) → Represents n mid head r → Represents n new head (drop 1 r))
      → ((r : List Place) → Represents n mid head r → ChangesOnlyIn mid new (head ∷ r))
      → (x : Place) × (result ≡ Some x) × (k' : Clears n old new head s) × (k.rest ≡ x ∷ k'.rest) × (k'.done ≡ k.done ++ x ∷ [])
  clears_more {old} {mid} {new} {head} {s} k {result} some is removed frame = more k.rest k.parts k.shown where
    more : (rest : List Place) → s ≡ k.done ++ rest → Represents n mid head rest
        → (x : Place) × (result ≡ Some x) × (k' : Clears n old new head s) × (rest ≡ x ∷ k'.rest) × (k'.done ≡ k.done ++ x ∷ [])
    more [] parts shown = absurd (not_some result (is [] shown) some)
    more (x ∷ rest) parts shown =
        let step = frame (x ∷ rest) shown in (
          x,
          is (x ∷ rest) shown,
          record {
            done = k.done ++ x ∷ [];
            rest = rest;
            parts = parts ∙ sym (append_assoc k.done (x ∷ []) rest);
            shown = removed (x ∷ rest) shown;
            kept = record {
              extent = step.extent ∙ k.kept.extent;
              others = λ q out. step.others q (out.0, absent_right q k.done (x ∷ rest) (subst (IsAbsent q) parts out.1)) ∙ k.kept.others q out;
            };
          },
          refl,
          refl,
        )

  -- THE END: if the ring has no members left, all members of s were removed
  pub clears_all : {old mid : Table E} {head : Place} {s : List Place} (k : Clears n old mid head s) {result : Option Place} → result ≡ None
      → ((r : List Place) → Represents n mid head r → result ≡ first r) → k.done ≡ s
  clears_all k none is =
      let over = nothing_first k.rest (sym none ∙ is k.rest k.shown) in
      sym (k.parts ∙ ap (λ (r : List Place). k.done ++ r) over ∙ append-nil k.done)
