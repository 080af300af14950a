-- A member of a tree is replaced by another place.
use Rattle.std.proofs.Common.{◌≡◌, ◌≢◌, Bool, Option, Some, List, [], ◌∷◌, ◌++◌, sym, ap, ◌∙◌, subst, arith, drop}
use Rattle.ic_link_ops.specs.Prelude.{Place, Cut, join, first, IsAbsent, Table, ChangesOnly, IsLinked, IsUnlinked, Replaces, one_at, times, times_in}
use Rattle.ic_link_ops.specs.RedBlackTree.{Node, Represents}
use Rattle.ic_link_ops.proofs.Times.{one_at_other, apart, times_order, absent_times, times_append}
use Rattle.ic_link_ops.proofs.RepresentedTrees.{represents_beside}
use Rattle.ic_rbtree.specs.Prelude.{loose, Represented, TakesPlace}
use Rattle.ic_rbtree.proofs.Removing.{placed, PositionWithNext, represents_of, loose_absent, front_represented}
use Rattle.ic_rbtree.proofs.Attaching.{acquired_represented}

module _ {E : Type 0} (n : E → Node) where
  -- THE TREE AND A NEW PLACE: after the place `new` has been linked, the table consists of the tree with the member p and of the place `new`
  pub member_represented : (linked : E → Bool) → ((e : E) → (n e).linked ≡ linked e) → (old v : Table E) (root : Option Place) (gap : Cut) (p new : Place) → Represents n old root (join gap) → first gap.back ≡ Some p
      → IsUnlinked linked old new → IsLinked linked v new → ChangesOnly old v new → (rest : List Place) × (gap.back ≡ p ∷ rest) × Represented n v v root (gap.front ++ p ∷ rest) (loose new ∷ [])
  member_represented linked alike old v root gap p new shown e was is only =
      let f = front_represented n gap p shown e in
      let s = acquired_represented n linked alike old v root (join gap) new shown was is only in
      (f.0, f.1, subst (λ (x : List Place). Represented n v v root (gap.front ++ x) (loose new ∷ [])) f.1 s)

  pub replaces : (old v w z : Table E) (root new_root : Option Place) (p new : Place) (gap : Cut) (rest : List Place)
      → gap.back ≡ p ∷ rest → ChangesOnly old v new → PositionWithNext n v v root gap.front p rest (loose new ∷ []) → TakesPlace n v w root new_root p new
      → ChangesOnly w z p → Replaces (Represents n) old z new_root gap new
  replaces old v w z root new_root p new gap rest is only x swapped only' =
      let h = placed n new x swapped in
      record {
        shows = subst (λ (s : List Place). Represents n z new_root (gap.front ++ new ∷ s)) (sym (ap (λ (s : List Place). drop 1 s) is)) (represents_beside (represents_of n h) (loose_absent n h) only'.others);
        frame = record {
          extent = only'.extent ∙ (h.stands.extent ∙ only.extent);
          others = λ q out. others h q out.0 out.1;
        };
      }
    where
      others : Represented n v w new_root (gap.front ++ new ∷ rest) (loose p ∷ []) → (q : Place) → q ≢ new → IsAbsent q (gap.front ++ gap.back) → z.entry q ≡ old.entry q
      others h q i out =
          let a : times_in q (gap.front ++ (p ∷ rest)) ≡ 0 = absent_times q (gap.front ++ p ∷ rest) (subst (λ (s : List Place). IsAbsent q (gap.front ++ s)) is out) in
          let b : times_in q (gap.front ++ new ∷ rest) ≡ 0 = omega (arith, times_append q gap.front (p ∷ rest), times_append q gap.front (new ∷ rest), one_at_other q new i) in
          let c : times q h.tree ≡ 0 = sym (times_order q h.tree) ∙ (ap (λ (s : List Place). times_in q s) h.order ∙ b) in
          let d : one_at q p ≡ 0 = omega (arith, times_append q gap.front (p ∷ rest)) in
          only'.others q (apart q p d) ∙ (h.stands.beside q (omega arith) ∙ only.others q i)
