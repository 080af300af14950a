-- A new member is inserted into an insert position, which is a missing child.
use Rattle.std.proofs.Common.{◌≡◌, ◌≢◌, ◌+◌, ◌≤◌, Bool, true, false, Option, Some, None, List, [], ◌∷◌, ◌++◌, refl, sym, ap, ◌∙◌, subst, arith, append-nil, append_assoc, inl, inr}
use Rattle.ic_link_ops.specs.Prelude.{Place, Cut, join, first, last_or, IsAbsent, Table, ChangesOnly, IsLinked, IsUnlinked, Inserts, Tree, leaf, fork, top, in_order, IsRight, one_at, times, times_in}
use Rattle.ic_link_ops.proofs.Prelude.{same_or_not, none_not, some_same, one_at_self, one_at_other, times_order, absent_times, times_append, holds_once, holds_out}
use Rattle.ic_link_ops.specs.declared.color.Color.{Color}
use Rattle.ic_link_ops.specs.declared.color.Color.TheVariants.{Red, Black}
use Rattle.ic_link_ops.specs.declared.side.Side.{Side}
use Rattle.ic_link_ops.specs.declared.side.Side.TheVariants.{Left, Right}
use Rattle.ic_link_ops.specs.RedBlackTree.{Node, Holds, Represents}
use Rattle.ic_link_ops.specs.Frames.{child_on, Frame, frame, with_child, plug, above, before, after}
use Rattle.ic_link_ops.proofs.Frames.{in_order_parts}
use Rattle.ic_link_ops.proofs.RepresentedTrees.{free_absent, represents_beside}
use Rattle.ic_link_ops.proofs.Trees.{leaf_is}
use Rattle.ic_rbtree.specs.Prelude.{Piece, cell, loose, below, around, ClimbState, Represented, RedAt, IsInsertPos}
use Rattle.ic_rbtree.proofs.Branches.{side_linked, top_leaf}
use Rattle.ic_rbtree.proofs.Pieces.{regroup, node_set}
use Rattle.ic_rbtree.proofs.Rotations.{changes_child_side, close_below}
use Rattle.ic_rbtree.proofs.Zipper.{go_down}
use Rattle.ic_rbtree.proofs.InsertionShapes.{red_not_black}
use Rattle.ic_rbtree.proofs.RemovalShapes.{shape_open}
use Rattle.ic_rbtree.proofs.Removing.{spot, represented_of, represents_of}

begins : (s : List Place) (p : Place) → first s ≡ Some p → (rest : List Place) × (s ≡ p ∷ rest)
begins [] p e = absurd (none_not p e)
begins (x ∷ s) p e = (s, ap (λ (y : Place). y ∷ s) (some_same e))

ends : (o : Option Place) (s : List Place) (p : Place) → last_or o s ≡ Some p → (o ≡ Some p → ⊥) → (rest : List Place) × (s ≡ rest ++ p ∷ [])
ends o [] p e h = absurd (h e)
ends o (x ∷ []) p e h = ([], ap (λ (y : Place). y ∷ []) (some_same e))
ends o (x ∷ z ∷ s) p e h = let r = ends_on x z s p e in (x ∷ r.0, ap (λ (y : List Place). x ∷ y) r.1) where
  ends_on : (x z : Place) (s : List Place) (p : Place) → last_or (Some z) s ≡ Some p → (rest : List Place) × (z ∷ s ≡ rest ++ p ∷ [])
  ends_on x z [] p e = ([], ap (λ (y : Place). y ∷ []) (some_same e))
  ends_on x z (y ∷ s) p e = let r = ends_on z y s p e in (z ∷ r.0, ap (λ (k : List Place). z ∷ k) r.1)

module _ {E : Type 0} (n : E → Node) where
  -- THE INSERT POSITION IN THE TREE: the member q has no child on side d. The tree has the members `front` before this insert position, and the members `back`
  -- after it
  pub record InsertPos (base v : Table E) (root : Option Place) (d : Side) (q : Place) (front back : List Place) (ps : List Piece) : Type 0 where
    pub c : Color
    pub b : Tree
    pub fs : List Frame
    pub stands : ClimbState n base v root (frame d c q b ∷ fs) leaf ps
    pub right : IsRight (plug (frame d c q b ∷ fs) leaf)
    pub front_is : before (frame d c q b ∷ fs) ≡ front
    pub back_is : after (frame d c q b ∷ fs) ≡ back

  pub insert_pos : {base v : Table E} {root : Option Place} (parent : Option Place) (q : Place) (d : Side) (gap : Cut) {ps : List Piece} → parent ≡ Some q
      → Represented n base v root (gap.front ++ gap.back) ps → IsInsertPos n v parent d gap → InsertPos base v root d q gap.front gap.back ps
  insert_pos {base} {v} {root} parent q d gap {ps} is h at' = at_side d (subst (λ (o : Option Place). IsInsertPos n v o d gap) is at') where
    at_side : (d : Side) → IsInsertPos n v (Some q) d gap → InsertPos base v root d q gap.front gap.back ps
    at_side Left at =
        let r = begins gap.back q (sym at.1) in
        let x = spot n gap.front q r.0 (subst (λ (s : List Place). Represented n base v root (gap.front ++ s) ps) r.1 h) in
        let none : x.a ≡ leaf = top_leaf x.a (sym x.stands.are.1.0.0.left ∙ at.0) in
        record {
          c = x.c;
          b = x.b;
          fs = x.fs;
          stands = subst (λ (t : Tree). ClimbState n base v root (frame Left x.c q x.b ∷ x.fs) t ps) none (go_down n Left x.c q x.b x.a x.stands);
          right = subst (λ (t : Tree). IsRight (plug (frame Left x.c q x.b ∷ x.fs) t)) none x.right;
          front_is = sym (append-nil (before x.fs)) ∙ (ap (λ (t : Tree). before x.fs ++ in_order t) (sym none) ∙ x.front_is);
          back_is = ap (λ (s : List Place). q ∷ s) x.back_is ∙ sym r.1;
        }
    at_side Right at =
        let r = ends None gap.front q (sym at.1) (none_not q) in
        let both : gap.front ++ gap.back ≡ r.0 ++ q ∷ gap.back = ap (λ (s : List Place). s ++ gap.back) r.1 ∙ append_assoc r.0 (q ∷ []) gap.back in
        let x = spot n r.0 q gap.back (subst (λ (s : List Place). Represented n base v root s ps) both h) in
        let none : x.b ≡ leaf = top_leaf x.b (sym x.stands.are.1.0.0.right ∙ at.0) in
        record {
          c = x.c;
          b = x.a;
          fs = x.fs;
          stands = subst (λ (t : Tree). ClimbState n base v root (frame Right x.c q x.a ∷ x.fs) t ps) none (go_down n Right x.c q x.a x.b x.stands);
          right = subst (λ (t : Tree). IsRight (plug (frame Right x.c q x.a ∷ x.fs) t)) none x.right;
          front_is = sym (append_assoc (before x.fs) (in_order x.a) (q ∷ [])) ∙ (ap (λ (s : List Place). s ++ q ∷ []) x.front_is ∙ sym r.1);
          back_is = ap (λ (t : Tree). in_order t ++ after x.fs) (sym none) ∙ x.back_is;
        }

  -- a place that is inserted into an empty tree is the root and the only member, in black
  pub attached_first : {base v v4 : Table E} {root : Option Place} (parent : Option Place) (d : Side) (gap : Cut) (p : Place) {ps : List Piece}
      → n (v4.entry p) ≡ record (n (v.entry p)) { left = None; right = None; parent = None; color = Black } → ChangesOnly v v4 p
      → parent ≡ None → Represented n base v root (gap.front ++ gap.back) (loose p ∷ ps) → IsInsertPos n v parent d gap → Represented n base v4 (Some p) (gap.front ++ p ∷ gap.back) ps
  attached_first {base} {v} {v4} {root} parent d gap p {ps} set4 only4 is h at' =
      let at = subst (λ (o : Option Place). IsInsertPos n v o d gap) is at' in
      let none : h.tree ≡ leaf = leaf_is h.tree (h.order ∙ (ap (λ (s : List Place). s ++ gap.back) at.0 ∙ at.1)) in
      let st = subst (λ (t : Tree). ClimbState n base v root [] t (loose p ∷ ps)) none h.stands in
      let h0 = regroup n (loose p ∷ ps) st (λ q. omega arith) (st.are.1.1.0, st.are.1.1.1) in
      let h1 = node_set n set4 only4 h0 in
      let h2 = regroup n (cell Left p Black None None None ∷ below (Some p) leaf ∷ below (Some p) leaf ∷ ps) h1 (λ q. omega arith) (h1.are.0, (tt, (tt, h1.are.1))) in
      let h3 = close_below n None None None Left Black leaf p leaf ps refl refl h2 in
      record {
        tree = fork Black leaf p leaf;
        stands = regroup n (around (Some p) [] (Some p) ∷ below None (fork Black leaf p leaf) ∷ ps) h3 (λ q. omega arith) ((tt, refl), (h3.are.0, h3.are.1));
        order = sym (ap (λ (s : List Place). s ++ p ∷ gap.back) at.0 ∙ ap (λ (s : List Place). p ∷ s) at.1);
        shape = record { black_root = refl; no_red_pair = (red_not_black, tt, tt); even = (refl, tt, tt) };
      }

  -- a place that is inserted as a red child below the parent q is the red member at which the repair begins
  pub attached_red : {base v v4 v5 : Table E} {root : Option Place} (q : Place) (d : Side) (front back : List Place) (p : Place) {ps : List Piece}
      → n (v4.entry p) ≡ record (n (v.entry p)) { left = None; right = None; parent = Some q; color = Red } → ChangesOnly v v4 p → n (v5.entry q) ≡ with_child d (n (v4.entry q)) (Some p) → ChangesOnly v4 v5 q
      → (x : InsertPos base v root d q front back (loose p ∷ ps)) → RedAt n v5 root p (record { base = base; sequence = front ++ p ∷ back; frames = frame d x.c q x.b ∷ x.fs; subtree = fork Red leaf p leaf; pieces = ps })
  attached_red {base} {v} {v4} {v5} {root} q d front back p {ps} set4 only4 set only x =
      let gs : List Frame = frame d x.c q x.b ∷ x.fs in
      let h0 = regroup n (loose p ∷ around root gs None ∷ ps) x.stands (λ r. omega arith) (x.stands.are.1.1.0, (x.stands.are.0, x.stands.are.1.1.1)) in
      let h1 = node_set n set4 only4 h0 in
      let h2 = regroup n (around root gs None ∷ cell Left p Red None None (Some q) ∷ ps) h1 (λ r. omega arith) (h1.are.1.0, (h1.are.0, h1.are.1.1)) in
      let h3 = changes_child_side n root q None (Some p) (Some p) d x.c q x.b x.fs (cell Left p Red None None (Some q) ∷ ps) refl refl set only h2 in
      let h4 = regroup n (cell Left p Red None None (Some q) ∷ below (Some p) leaf ∷ below (Some p) leaf ∷ around root gs (Some p) ∷ ps) h3 (λ r. omega arith) (h3.are.1.0, (tt, (tt, (h3.are.0, h3.are.1.1)))) in
      let h5 = close_below n (Some q) None None Left Red leaf p leaf (around root gs (Some p) ∷ ps) refl refl h4 in
      let o = shape_open gs leaf x.right in
      record {
        stands = regroup n (around root gs (Some p) ∷ below (Some q) (fork Red leaf p leaf) ∷ ps) h5 (λ r. omega arith) (h5.are.1.0, (h5.are.0, h5.are.1.1));
        top_is = refl;
        nearly = record { painted = refl; pairs = (λ e. (refl, refl), tt, tt); even = (refl, tt, tt); pairs_around = o.2; even_around = o.3 };
        order = in_order_parts gs (fork Red leaf p leaf) ∙ (ap (λ (s : List Place). s ++ p ∷ after gs) x.front_is ∙ ap (λ (s : List Place). front ++ p ∷ s) x.back_is);
      }

  -- THE TREE AND A NEW PLACE: after the place p has been linked, the table consists of the represented tree and of p as a piece of its own
  pub acquired_represented : (linked : E → Bool) → ((e : E) → (n e).linked ≡ linked e) → (old v : Table E) (root : Option Place) (s : List Place) (p : Place) → Represents n old root s
      → IsUnlinked linked old p → IsLinked linked v p → ChangesOnly old v p → Represented n v v root s (loose p ∷ [])
  acquired_represented linked alike old v root s p h was is only =
      let out : IsAbsent p s = free_absent h (alike (old.entry p) ∙ was) in
      let k = represents_beside h out only.others in
      record {
        tree = k.tree;
        stands = record {
          are = ((tt, k.starts), (k.held.entries, (alike (v.entry p) ∙ is, tt)));
          once = λ q. once k.tree s k.held out q (λ z. holds_once k.held z);
          beside = λ q none. refl;
          linked = λ q. refl;
          extent = refl;
        };
        order = k.held.order;
        shape = k.shape;
      }
    where
      once : (t : Tree) (s : List Place) → Holds n v t s → IsAbsent p s → (q : Place) → ((z : Place) → times z t ≤ 1) → 0 + (times q t + (one_at q p + 0)) ≤ 1
      once t s held out q all = elim (same_or_not q p) [
        | inl e ↦ let none : times q t ≡ 0 = subst (λ (z : Place). times z t ≡ 0) (sym e) (holds_out held p out) in let one : one_at q p ≡ 1 = subst (λ (z : Place). one_at z p ≡ 1) (sym e) (one_at_self p) in omega arith
        | inr k ↦ omega (arith, one_at_other q p k, all q)
      ]

  -- THE WHOLE INSERT: if p is linked and then inserted into the tree, the two changes together insert p at the gap, as `Inserts` states
  pub inserts : (old v w : Table E) (root new_root : Option Place) (p : Place) (gap : Cut)
      → ChangesOnly old v p → Represented n v w new_root (gap.front ++ p ∷ gap.back) []
      → Inserts (Represents n) old w new_root gap p
  inserts old v w root new_root p gap only h = record {
    shows = represents_of n h;
    frame = record {
      extent = h.stands.extent ∙ only.extent;
      others = λ q out. others q out.0 out.1;
    };
  } where
    others : (q : Place) → q ≢ p → IsAbsent q (gap.front ++ gap.back) → w.entry q ≡ old.entry q
    others q k out =
        let a : times_in q (gap.front ++ gap.back) ≡ 0 = absent_times q (gap.front ++ gap.back) out in
        let b : times_in q (gap.front ++ p ∷ gap.back) ≡ 0 = omega (arith, times_append q gap.front (p ∷ gap.back), times_append q gap.front gap.back, one_at_other q p k) in
        let c : times q h.tree ≡ 0 = sym (times_order q h.tree) ∙ (ap (λ (s : List Place). times_in q s) h.order ∙ b) in
        h.stands.beside q (omega arith) ∙ only.others q k

  pub insert_pos_linked : {base v : Table E} {root : Option Place} {d : Side} {q : Place} {front back : List Place} {ps : List Piece} → InsertPos base v root d q front back ps → (n (v.entry q)).linked ≡ true
  insert_pos_linked {base} {v} {root} {d} {q} x = side_linked n v.entry d q x.c None (top x.b) (above x.fs) x.stands.are.0.0.0

  -- if another place p is linked, an insert position of the tree is still at the gap where it was
  pub insert_pos_kept : (linked : E → Bool) → ((e : E) → (n e).linked ≡ linked e) → (old v : Table E) (root parent : Option Place) (d : Side) (gap : Cut) (p : Place) → Represents n old root (join gap)
      → IsUnlinked linked old p → ChangesOnly old v p → IsInsertPos n old parent d gap → IsInsertPos n v parent d gap
  insert_pos_kept linked alike old v root None d gap p h was only at = at
  insert_pos_kept linked alike old v root (Some q) d gap p h was only at =
      let l = insert_pos_linked (insert_pos (Some q) q d gap refl (represented_of n h) at) in
      let other : q ≢ p = λ e. let m : true ≡ false = sym l ∙ (alike (old.entry q) ∙ (ap (λ (z : Place). linked (old.entry z)) e ∙ was)) in cc in
      (ap (λ (e : E). child_on d (n e)) (only.others q other) ∙ at.0, at.1)
