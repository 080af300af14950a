-- Lemmas on two trees of one table that share no member.
use Rattle.std.proofs.Common.{◌≡◌, Bool, true, Option, None, IsSome, [], ◌∷◌, Result, Ok, Err, OnOk, sym, subst, Ordering}
use Rattle.ic_link_ops.specs.Prelude.{Place, Objects, object_at, is_placed, IsDisjoint, join, insert, Table, IsUnlinked, ArePlaced}
use Rattle.ic_link_ops.specs.RedBlackTree.{Node, Represents}
use Rattle.ic_link_ops.proofs.Prelude.{all_with, absent_swap, absent_with, disjoint_cons, disjoint_sym}
use Rattle.ic_link_ops.proofs.RepresentedTrees.{red_black_trees, represents_frame, represents_nothing}
use Rattle.ic_rbtree.specs.Ordered.{InsertsInOrder}
use Rattle.ic_tree_merges.specs.TwoTrees.{TwoRepresented}

module _ {E V : Type 0} {n : E → Node} {objects : Objects V} where
  -- two trees with no roots represent two empty sequences, which share no member
  pub two_new : {t : Table E} {a b : Option Place} → a ≡ None → b ≡ None → TwoRepresented (Represents n) objects t a b
  two_new {t} none other_none = record {
    first = [];
    second = [];
    shown = rw none (represents_nothing t);
    other = rw other_none (represents_nothing t);
    apart = tt;
    placed = tt;
    other_placed = tt;
  }

  -- if an unlinked place is inserted into the first tree, then the two trees still share no member, and there is an object at each member
  pub one_more : {linked : E → Bool} → ((e : E) → (n e).linked ≡ linked e) → {old new : Table E} {a more b : Option Place} {p : Place} {at : Place → Ordering}
      → (q : TwoRepresented (Represents n) objects old a b) → is_placed objects p ≡ true → IsUnlinked linked old p → InsertsInOrder (Represents n) at old new more q.first p
      → TwoRepresented (Represents n) objects new more b
  one_more alike {old} {new} {b = b} {p = p} q placed free put =
      let g = put.gap in
      let out = (red_black_trees alike).free old b q.second p q.other free in
      let beside : IsDisjoint q.second (p ∷ join g) = disjoint_cons p q.second (join g) out (subst (IsDisjoint q.second) (sym put.same) (disjoint_sym q.first q.second q.apart)) in
      record {
        first = insert g p;
        second = q.second;
        shown = put.inserted.shows;
        other = represents_frame q.other beside put.inserted.frame;
        apart = disjoint_sym q.second (insert g p) (absent_swap q.second (p ∷ join g) beside (insert g p) (λ x o. absent_with g.front g.back p x o.0 o.1));
        placed = all_with (λ p. IsSome (object_at objects p)) g.front p g.back placed (subst (ArePlaced objects) (sym put.same) q.placed);
        other_placed = q.other_placed;
      }

-- if `P` holds when the result `r` is `Ok`, and `Q` also holds then, then `P × Q` holds when `r` is `Ok`
pub both_ways : {A X : Type 0} (P Q : Type 0) (r : Result A X) → OnOk r P → OnOk r Q → OnOk r (P × Q)
both_ways P Q (Ok a) p q = (p, q)
both_ways P Q (Err e) p q = tt
