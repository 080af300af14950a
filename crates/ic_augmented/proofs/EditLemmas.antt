-- Edits of a tree keep each fresh summary right. The edge is the place whose summary may be wrong during an edit.
use Rattle.std.proofs.Common.{◌≡◌, ◌≢◌, ◌≤◌, ◌+◌, Bool, true, false, Option, Some, None, List, [], ◌∷◌, ◌++◌, refl, sym, ap, ◌∙◌, subst, arith, inl, inr, Ordering}
use Rattle.ic_link_ops.specs.Prelude.{Place, Objects, Cut, join, insert, IsAbsent, IsDisjoint, Table, ChangesOnly, Removes, top, in_order, one_at, times, times_in}
use Rattle.ic_link_ops.proofs.Prelude.{same_or_not, one_at_self, one_at_other, times_append, times_order, absent_times, disjoint_cons, some_same}
use Rattle.ic_link_ops.specs.declared.side.Side.{Side}
use Rattle.ic_link_ops.specs.RedBlackTree.{Node, Represents}
use Rattle.ic_link_ops.proofs.RepresentedTrees.{holds_once, represents_beside, represents_frame, free_absent, one_sequence}
use Rattle.ic_rbtree.specs.Prelude.{IsIn, AreIn, IsNode, IsClosed, IsClosedBut, compared, own_order, height, IsInsertPos, Attaches, InsertsInOrder, loose, Represented, TakesAway}
use Rattle.ic_rbtree.proofs.Attaching.{inserts}
use Rattle.ic_rbtree.proofs.Removing.{removes, loose_absent, represented_of, represents_of}
use Rattle.ic_rbtree.proofs.Climbed.{path_few}
use Rattle.ic_rbtree.proofs.RepresentedClosed.{among_there, with_itself, represented_closed, represented_closed_but, insert_pos_in}
use Rattle.ic_augmented.specs.Summaries.{Summaries, is_fresh, Invalidates}
use Rattle.ic_augmented.specs.Consistent.{IsSameAt, IsConsistentBut, IsConsistent, IsConsistentTree, KeepsConsistent, RepresentsConsistent, RepresentsAugmented, Refreshes, IsJoined}
use Rattle.ic_augmented.specs.Beside.{IsEdgeOf}
use Rattle.ic_augmented.specs.Fresh.{RepresentsFresh}
use Rattle.ic_augmented.proofs.BesideLemmas.{edge_of}
use Rattle.ic_augmented.proofs.FenceLemmas.{fence_of, fence_is, members_of, members_are}
use Rattle.ic_augmented.proofs.ConsistencyLemmas.{not_stale, invalidated_same, times_top, summed_top, fresh_summed, consistent_tree, tree_consistent, consistent_kept, summed_consistent_tree}

module _ {E : Type 0} (n : E → Node) where
  -- a table that is unchanged has changed at most at the place p
  pub unchanged : (v : Table E) (p : Place) → ChangesOnly v v p
  unchanged v p = record { extent = refl; others = λ q other. refl }

  -- a linked place that is no member of a represented tree is beside this tree
  loose_represented : (v : Table E) (root : Option Place) (s : List Place) (p : Place) → Represents n v root s → IsAbsent p s → (n (v.entry p)).linked ≡ true → Represented n v v root s (loose p ∷ [])
  loose_represented v root s p h out linked = record {
    tree = h.tree;
    stands = record {
      are = ((tt, h.starts), (h.held.entries, (linked, tt)));
      once = λ q. once q;
      beside = λ q none. refl;
      linked = λ q. refl;
      extent = refl;
    };
    order = h.held.order;
    shape = h.shape;
  } where
    out_of : times p h.tree ≡ 0
    out_of = let k : times_in p (in_order h.tree) ≡ 0 = ap (times_in p) h.held.order ∙ absent_times p s out in omega (arith, k, times_order p h.tree)

    once : (q : Place) → 0 + (times q h.tree + (one_at q p + 0)) ≤ 1
    once q = elim (same_or_not q p) [
      | inl e ↦ let none : times q h.tree ≡ 0 = subst (λ (z : Place). times z h.tree ≡ 0) (sym e) out_of in let one : one_at q p ≡ 1 = subst (λ (z : Place). one_at z p ≡ 1) (sym e) (one_at_self p) in omega arith
      | inr k ↦ omega (arith, one_at_other q p k, holds_once h.held q)
    ]

  -- a place that is not linked is no member of the represented sequence
  pub free_member : (old : Table E) (root : Option Place) (s t : List Place) (p : Place) → t ≡ s → Represents n old root s → (n (old.entry p)).linked ≡ false → IsAbsent p t
  free_member old root s t p e h free = subst (IsAbsent p) (sym e) (free_absent h free)

  -- a place is in the tree as often as in the represented sequence
  member_times : (v : Table E) (root : Option Place) (s : List Place) (h : Represents n v root s) (q : Place) → times q h.tree ≡ times_in q s
  member_times v root s h q = sym (times_order q h.tree) ∙ ap (times_in q) h.held.order

  -- after a place was inserted, the table represents the sequence with this place
  pub attached_represents : (v w : Table E) (root new_root parent : Option Place) (d : Side) (p : Place) (gap : Cut) → Attaches n v w root new_root parent d p
      → IsNode n v p → IsAbsent p (join gap) → Represents n v root (join gap) → IsInsertPos n v parent d gap → Represents n w new_root (insert gap p)
  attached_represents v w root new_root parent d p gap done linked out h insert_pos = represents_of n (done v gap [] (loose_represented v root (join gap) p h out linked) insert_pos)

  -- the set of the tree's members and the inserted place is closed, and it contains the inserted place and its parent
  pub attach_closed : (v : Table E) (root parent : Option Place) (d : Side) (p : Place) (gap : Cut) → IsNode n v p → IsAbsent p (join gap) → Represents n v root (join gap) → IsInsertPos n v parent d gap
      → IsClosedBut n v root (Some p) (fence_of n v root p) × AreIn (fence_of n v root p) (Some p ∷ parent ∷ [])
  attach_closed v root parent d p gap linked out h insert_pos =
      let there = loose_represented v root (join gap) p h out linked in
      subst (λ (S : Place → Bool). IsClosedBut n v root (Some p) S × AreIn S (Some p ∷ parent ∷ [])) (sym (fence_is n p h))
      (represented_closed_but n there, (with_itself n there, (insert_pos_in n v p parent d gap insert_pos, tt)))

  -- the set of the tree's members is closed, and it contains the member that is to be removed
  pub unlink_closed : (v : Table E) (root : Option Place) (front : List Place) (p : Place) (back : List Place) → Represents n v root (front ++ p ∷ back)
      → IsClosed n v root (members_of n v root) × (members_of n v root p ≡ true)
  unlink_closed v root front p back h =
      subst (λ (S : Place → Bool). IsClosed n v root S × (S p ≡ true)) (sym (members_are n h)) (represented_closed n (represented_of n h), among_there p front back)

  -- if the edge is a member of the tree, it is the member p that is to be removed, or another member
  pub unlinked_edge : (v : Table E) (root edge : Option Place) (front : List Place) (p : Place) (back : List Place) → Represents n v root (front ++ p ∷ back) → IsIn (members_of n v root) edge
      → IsEdgeOf edge p (front ++ back)
  unlinked_edge v root edge front p back h i = edge_of edge front p back (subst (λ (S : Place → Bool). IsIn S edge) (members_are n h) i)

  module _ (v w : Table E) (root new_root : Option Place) (front : List Place) (p : Place) (back : List Place) (taken : TakesAway n v w root new_root p) (h : Represents n v root (front ++ p ∷ back)) where
    pub unlinked_absent : IsAbsent p (front ++ back)
    unlinked_absent = loose_absent n (taken v front back [] (represented_of n h))

    -- after a removal the other members are represented, and only entries of members have changed
    pub unlinked : {z : Table E} → ChangesOnly w z p → Removes (Represents n) v z new_root (record { front = front; back = p ∷ back })
    unlinked {z} only = removes n v w z root new_root p (record { front = front; back = p ∷ back }) back refl (represented_of n h) (taken v front back [] (represented_of n h)) only

  -- after an insert the table covers as many places as before
  pub attached_extent : (v w : Table E) (root new_root parent : Option Place) (d : Side) (p : Place) (gap : Cut) → Attaches n v w root new_root parent d p
      → IsNode n v p → IsAbsent p (join gap) → Represents n v root (join gap) → IsInsertPos n v parent d gap → w.extent ≡ v.extent
  attached_extent v w root new_root parent d p gap done linked out h insert_pos =
      (inserts n v v w root new_root p gap (unchanged v p) (done v gap [] (loose_represented v root (join gap) p h out linked) insert_pos)).frame.extent

  -- after an insert, another tree that shares no place with the edited tree is represented as before
  pub attached_others : (v w : Table E) (root new_root parent other : Option Place) (d : Side) (p : Place) (gap : Cut) (t : List Place) → Attaches n v w root new_root parent d p
      → IsNode n v p → IsAbsent p (join gap) → Represents n v root (join gap) → IsInsertPos n v parent d gap → IsDisjoint t (join gap) → IsAbsent p t → Represents n v other t → Represents n w other t
  attached_others v w root new_root parent other d p gap t done linked out h insert_pos apart absent k =
      let put = inserts n v v w root new_root p gap (unchanged v p) (done v gap [] (loose_represented v root (join gap) p h out linked) insert_pos) in
      represents_frame k (disjoint_cons p t (join gap) absent apart) put.frame

-- if p is no member of s, a member of s is another place than p
member_other : (q p : Place) (s : List Place) → IsAbsent p s → 1 ≤ times_in q s → q ≢ p
member_other q p s out m i = let k : times_in q s ≡ 0 = subst (λ (y : Place). times_in y s ≡ 0) (sym i) (absent_times p s out) in absurd (omega (arith, m, k))

-- an insert in order compares the key of the new object with the keys that the members had before
pub own_searched : {E H V K : Type 0} {Represents : Table E → H → List Place → Type 0} {old w : Table E} {head : H} {s : List Place} (cmp : K → K → Ordering) (key_of : V → K)
    {order : V → Ordering} {before after : Objects V} {place object : Place} → place ≡ object → after ≡ before → order ≡ own_order cmp key_of after place
    → InsertsInOrder Represents (compared order after) old w head s place → InsertsInOrder Represents (compared (own_order cmp key_of before object) before) old w head s object
own_searched {V = V} {Represents = Represents} {old} {w} {head} {s} cmp key_of {before = before} {after} {place} same stay own i =
    subst (λ (p : Place). InsertsInOrder Represents (compared (own_order cmp key_of before p) before) old w head s p) same
    (subst (λ (o : Objects V). InsertsInOrder Represents (compared (own_order cmp key_of o place) o) old w head s place) stay
    (subst (λ (o : V → Ordering). InsertsInOrder Represents (compared o after) old w head s place) own i))

module _ {E S : Type 0} (n : E → Node) where
  fewer_consistent : (v : Table E) (z : Summaries S) (edge : Option Place) (s t : List Place) → ((q : Place) → times_in q t ≤ times_in q s) → IsConsistentBut n v z s edge → IsConsistentBut n v z t edge
  fewer_consistent v z edge s t k h q m but x e = h q (omega (arith, m, k q)) but x e

  -- if the edge is no member of a sequence, each fresh summary of the sequence is right
  pub edge_absent : (v : Table E) (z : Summaries S) (s : List Place) (p : Place) (edge : Option Place) → edge ≡ Some p → IsAbsent p s → IsConsistentBut n v z s edge → IsConsistent n v z s
  edge_absent v z s p edge is out h q m but x e = h q m (λ i. member_other q p s out m (sym (some_same (sym is ∙ i)))) x e

  -- if each fresh summary of a sequence is right, except maybe at the edge, this also holds without one member
  pub without_member : (v : Table E) (z : Summaries S) (edge : Option Place) (front : List Place) (p : Place) (back : List Place) → IsConsistentBut n v z (front ++ p ∷ back) edge
      → IsConsistentBut n v z (front ++ back) edge
  without_member v z edge front p back h = fewer_consistent v z edge (front ++ p ∷ back) (front ++ back) (λ q. omega (arith, times_append q front back, times_append q front (p ∷ back))) h

  stale_more : (v : Table E) (z : Summaries S) (s : List Place) (p : Place) → z.fresh p ≡ None → IsConsistent n v z s → IsConsistent n v z (p ∷ s)
  stale_more v z s p none h q m but x e = h q (omega (arith, m, one_at_other q p (not_stale z p q x none e))) but x e

  -- if a place with a stale summary is inserted into a sequence, each fresh summary is right
  pub stale_with : (v : Table E) (z y : Summaries S) (p : Place) (gap : Cut) → y.fresh p ≡ None → KeepsConsistent n v v z y → IsConsistent n v z (join gap) → IsConsistent n v y (insert gap p)
  stale_with v z y p gap none invalidated h =
      fewer_consistent v y None (p ∷ join gap) (insert gap p) (λ q. omega (arith, times_append q gap.front gap.back, times_append q gap.front (p ∷ gap.back)))
      (stale_more v y (join gap) p none (invalidated.consistent (join gap) h))

  -- if each fresh summary of a represented sequence is right, its tree is consistent
  pub consistent_represented : (v : Table E) (z : Summaries S) (root : Option Place) (s : List Place) (h : RepresentsConsistent n z v root s) → IsConsistentTree z h.0.tree
  consistent_represented v z root s h = consistent_tree n v z s None h.0.tree h.1 h.0.held.entries (λ q. omega (arith, member_times n v root s h.0 q))

  -- AFTER A REFRESH each summary of a represented tree is fresh, if the tree was consistent
  pub refreshed_tree : (v : Table E) (z y : Summaries S) (root : Option Place) (s : List Place) (h : Represents n v root s) → IsConsistentTree z h.tree → Refreshes IsConsistentTree z y None h.tree 67 → RepresentsAugmented n y v root s
  refreshed_tree v z y root s h k f = record {
    shows = h;
    summed = f.summed (holds_once h.held) k (omega (arith, low));
  } where
    low : height h.tree ≤ 66
    low = path_few n h [] h.tree (height h.tree) refl (omega arith)

  pub refreshed : (v : Table E) (z y : Summaries S) (root : Option Place) (s : List Place) (h : RepresentsConsistent n z v root s) → Refreshes IsConsistentTree z y None h.0.tree 67 → RepresentsAugmented n y v root s
  refreshed v z y root s h f = refreshed_tree v z y root s h.0 (consistent_represented v z root s h) f

  -- if a represented tree is consistent, each fresh summary of its sequence is right
  represented_consistent : (v : Table E) (z : Summaries S) (root : Option Place) (s : List Place) (h : Represents n v root s) → IsConsistentTree z h.tree → IsConsistent n v z s
  represented_consistent v z root s h k q m but x e = tree_consistent n v z None h.tree k h.held.entries q (omega (arith, m, member_times n v root s h q)) x e

  -- if a represented tree is summed, each fresh summary of its sequence is right
  pub still_consistent : (v : Table E) (z : Summaries S) (root : Option Place) (s : List Place) → RepresentsAugmented n z v root s → RepresentsConsistent n z v root s
  still_consistent v z root s h = (h.shows, represented_consistent v z root s h.shows (summed_consistent_tree z None h.shows.tree h.summed))

  -- IF ALL MEMBERS KEEP their summaries and their stored parents, each fresh summary of the tree stays right
  pub others_consistent : (v : Table E) (z w : Summaries S) (root : Option Place) (s : List Place) → w.join ≡ z.join → ((q : Place) → 1 ≤ times_in q s → IsSameAt z w q)
      → RepresentsConsistent n z v root s → RepresentsConsistent n w v root s
  others_consistent v z w root s ej same h =
      let members : (q : Place) → 1 ≤ times q h.0.tree → IsSameAt z w q = λ q m. same q (omega (arith, m, member_times n v root s h.0 q)) in
      (h.0, represented_consistent v w root s h.0 (consistent_kept z w h.0.tree ej members (consistent_represented v z root s h)))

  -- IF ALL MEMBERS KEEP their summaries and their stored parents, a summed tree stays summed
  pub still_summed : (v w : Table E) (z y : Summaries S) (root : Option Place) (s : List Place) → ((q : Place) → 1 ≤ times_in q s → IsSameAt z y q)
      → RepresentsAugmented n z v root s → RepresentsConsistent n y w root s → RepresentsAugmented n y w root s
  still_summed v w z y root s same h k = record { shows = k.0; summed = fresh_summed y None k.0.tree (λ p e. at p e) (consistent_represented w y root s k) } where
    at : (p : Place) → top k.0.tree ≡ Some p → (is_fresh (y.fresh p) ≡ true) × (y.upper p ≡ None)
    at p e =
        let was : top h.shows.tree ≡ Some p = sym h.shows.starts ∙ (k.0.starts ∙ e) in
        let kept = same p (omega (arith, times_top p h.shows.tree was, member_times n v root s h.shows p)) in
        let printed = summed_top z None h.shows.tree p h.summed was in
        (ap is_fresh kept.fresh ∙ printed.0, kept.upper ∙ printed.1)

  -- IF THE SUMMARY of a place that is no member is made stale, each fresh summary of the tree stays right
  pub invalidated_represents : (v : Table E) (z y : Summaries S) (root : Option Place) (s : List Place) (p : Place) → IsAbsent p s → Invalidates z y p → RepresentsConsistent n z v root s → RepresentsConsistent n y v root s
  invalidated_represents v z y root s p out k h = others_consistent v z y root s k.join (λ q m. invalidated_same z y p q k (member_other q p s out m)) h

  pub invalidated_summed : (v : Table E) (z y : Summaries S) (root : Option Place) (s : List Place) (p : Place) → IsAbsent p s → Invalidates z y p → RepresentsAugmented n z v root s → RepresentsAugmented n y v root s
  invalidated_summed v z y root s p out k h =
      still_summed v v z y root s (λ q m. invalidated_same z y p q k (member_other q p s out m)) h (invalidated_represents v z y root s p out k (still_consistent v z root s h))

  -- if only the entry of a place that is no member changes, each fresh summary of the sequence stays right
  pub beside_consistent : (v w : Table E) (z : Summaries S) (t : List Place) (p : Place) → IsAbsent p t → ChangesOnly v w p → IsConsistent n v z t → IsConsistent n w z t
  beside_consistent v w z t p out only h q m but x k = subst (λ (y : E). IsJoined z q (n y).left (n y).right x) (sym (only.others q other)) (h q m but x k) where
    other : q ≢ p
    other = member_other q p t out m

  pub beside_represents : (v w : Table E) (z : Summaries S) (root : Option Place) (s : List Place) (p : Place) → IsAbsent p s → ChangesOnly v w p → RepresentsConsistent n z v root s → RepresentsConsistent n z w root s
  beside_represents v w z root s p out only h = (represents_beside h.0 out only.others, beside_consistent v w z s p out only h.1)

  pub beside_summed : (v w : Table E) (z : Summaries S) (root : Option Place) (s : List Place) (p : Place) → IsAbsent p s → ChangesOnly v w p → RepresentsAugmented n z v root s → RepresentsAugmented n z w root s
  beside_summed v w z root s p out only h = still_summed v w z z root s (λ q m. record { fresh = refl; upper = refl }) h (beside_represents v w z root s p out only (still_consistent v z root s h))

  pub acquired_consistent : (old v : Table E) (z : Summaries S) (root : Option Place) (s t : List Place) (p : Place) → t ≡ s → (n (old.entry p)).linked ≡ false → ChangesOnly old v p
      → RepresentsConsistent n z old root s → RepresentsConsistent n z v root t
  acquired_consistent old v z root s t p e free only h = subst (RepresentsConsistent n z v root) (sym e) (beside_represents old v z root s p (free_absent h.0 free) only h)

  -- a summed tree has no stale summary
  pub all_fresh : (v : Table E) (z : Summaries S) (root : Option Place) (s : List Place) → RepresentsAugmented n z v root s → RepresentsFresh n z v root s
  all_fresh v z root s h = record { summed = h; consistent = still_consistent v z root s h }

  -- an insert in order, after which no summary is stale, is also an insert in order for `RepresentsFresh`
  pub inserts_fresh : {at : Place → Ordering} (old w : Table E) (x : Summaries S) (root : Option Place) (s : List Place) (p : Place) (gap : Cut) → RepresentsFresh n x w root (insert gap p)
      → InsertsInOrder (Represents n) at old w root s p → InsertsInOrder (RepresentsFresh n x) at old w root s p
  inserts_fresh old w x root s p gap h i = record {
    gap = i.gap;
    same = i.same;
    border = i.border;
    inserted = record { shows = subst (RepresentsFresh n x w root) (one_sequence h.summed.shows i.inserted.shows) h; frame = i.inserted.frame };
  }
