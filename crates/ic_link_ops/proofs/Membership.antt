-- This file is about a walk from the front that tests whether a place q is a member of a list. The facts in this file hold for
-- every kind of list.
use Rattle.std.proofs.Common.{◌≡◌, ◌≢◌, ◌↔◌, Option, Some, None, List, [], ◌∷◌, ◌++◌, drop, true, false, IsTrue, nat_eq, refl, sym, ◌∙◌, ap, subst, eqb-true}
use Rattle.std.proofs.lemmas.Bool.{eqb-false}
use Rattle.ic_link_ops.specs.Base.{Place, IsAbsent, IsMember, IsDistinct, first, last, Table, IsCovered}
use Rattle.ic_unsafe_ref.proofs.PlaceLemmas.{same_index, word_tells}
use Rattle.ic_link_ops.specs.Chains.{IsChain}
use Rattle.ic_link_ops.specs.Walk.{walked}
use Rattle.ic_link_ops.proofs.SequenceLemmas.{absent_right, absent_both, first_is}
use Rattle.ic_link_ops.proofs.Clearing.{Releases, releases_none, releases_more, releases_all, releases_left, next_between}

module _ {E : Type 0} (between : E → Option Place → Option Place → Type 0) where
  -- The walk has come to `current`, and q is none of the members before `current`. The definition uses `Releases`, which
  -- describes a walk that clears a list. Here the table is the same before and after, because no entry changes.
  pub record Seeks (t : Table E) (s : List Place) (q : Place) (current : Option Place) : Type 0 where
    pub walk : Releases between t t s current
    pub passed : IsAbsent q walk.done

module _ {E : Type 0} {between : E → Option Place → Option Place → Type 0} where
  -- Before the first step no member is passed.
  unfoldable pub seeks_none : {t : Table E} {s : List Place} {q : Place} {current : Option Place} → IsChain between t.entry None s None → current ≡ first s
      → Seeks between t s q current
  unfolding releases_none
  seeks_none chain starts = record { walk = releases_none chain starts; passed = tt }

  -- In one step the walk finds that the current member p is not q, and the member after p becomes the current member.
  pub seeks_more : {t : Table E} {s : List Place} {q p : Place} {current : Option Place} → IsDistinct s → (k : Seeks between t s q (Some p))
      → nat_eq p.word q.word ≡ false → current ≡ first (drop 1 k.walk.rest)
      → (k' : Seeks between t s q current) × (k.walk.rest ≡ p ∷ k'.walk.rest) × (k'.walk.done ≡ k.walk.done ++ p ∷ [])
  seeks_more {q = q} {p = p} d k differs next =
      let other : q ≢ p = λ same. eqb-false p.word q.word differs (ap (λ x. x.word) (sym same)) in
      let more = releases_more d k.walk (λ x apart. refl) next in (
        record { walk = more.0; passed = subst (IsAbsent q) (sym more.2) (absent_both q k.walk.done (p ∷ []) k.passed (other, tt)) },
        more.1,
        more.2,
      )

  -- If a step to the next member needs the previous member, the walk stores the previous member as `before`.
  module _ (step : E → Option Place → Option Place) (law : (e : E) (b a : Option Place) → between e b a → step e b ≡ a) where
    pub kept_next : {t : Table E} {s : List Place} {q p : Place} {before next : Option Place} (k : Seeks between t s q (Some p)) → before ≡ last k.walk.done
        → next ≡ step (t.entry p) before → next ≡ first (drop 1 k.walk.rest)
    kept_next {t} {p = p} k keeps read = read ∙ ap (step (t.entry p)) keeps ∙ law _ _ _ (next_between k.walk)

    -- A walk from `current` on along the entries reaches exactly the members that are left.
    pub kept_left : {t : Table E} {s : List Place} {q : Place} {current before : Option Place} → ((q : Place) (b a : Option Place) → between (t.entry q) b a → IsCovered t q)
        → IsDistinct s → (k : Seeks between t s q current) → before ≡ last k.walk.done → walked step t before current None ≡ k.walk.rest
    kept_left covered d k keeps = rw keeps (releases_left step law covered d k.walk)

  -- If the current member is q, q is a member of s.
  pub found : {t : Table E} {s : List Place} {q p : Place} → Seeks between t s q (Some p) → nat_eq p.word q.word ≡ true
      → IsTrue true ↔ IsMember q s
  found {s = s} {q = q} {p = p} k equal =
      let same : q ≡ p = sym (same_index p q (eqb-true _ _ (sym (word_tells p q) ∙ equal))) in
      let parts : s ≡ k.walk.done ++ p ∷ drop 1 k.walk.rest = k.walk.parts ∙ ap (λ (l : List Place). k.walk.done ++ l) (first_is k.walk.rest k.walk.at) in
      ((λ _ out. (absent_right q k.walk.done (p ∷ drop 1 k.walk.rest) (subst (IsAbsent q) parts out)).0 same), (λ _. refl))

  -- If no member is left, q is not a member of s.
  pub nowhere : {t : Table E} {s : List Place} {q : Place} {current : Option Place} → Seeks between t s q current → current ≡ None
      → IsTrue false ↔ IsMember q s
  nowhere {q = q} k over = ((λ yes. cc), (λ member. absurd (member (subst (IsAbsent q) (releases_all k.walk over) k.passed))))
