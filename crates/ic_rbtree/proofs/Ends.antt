-- A tree is given by its two ends. The member at one end is removed, and the child of this member takes its position.
use Rattle.std.proofs.Common.{◌≡◌, ◌+◌, true, Option, Some, None, List, [], ◌∷◌, ◌++◌, drop, refl, sym, ap, ◌∙◌, subst, arith, append-nil}
use Rattle.std.specs.Option.{option_and}
use Rattle.ic_link_ops.specs.Prelude.{Place, first, last, but_last, IsAbsent, Table, ChangesOnly, ChangesOnlyIn, Tree, leaf, fork, top, in_order, Node, Holds, one_at, times, times_in, times_around}
use Rattle.ic_link_ops.specs.declared.color.Color.{Color}
use Rattle.ic_link_ops.specs.declared.side.Side.{Side}
use Rattle.ic_link_ops.specs.declared.side.Side.TheVariants.{Left, Right}
use Rattle.ic_link_ops.specs.Frames.{Frame, frame, with_child, branch, plug, above, topmost, across, child_on, before, after}
use Rattle.ic_link_ops.proofs.Times.{one_at_self, apart, times_order, times_distinct, times_absent, absent_times, times_plug, times_branch}
use Rattle.ic_link_ops.proofs.Frames.{focus, in_order_parts}
use Rattle.ic_link_ops.proofs.SequenceLemmas.{none_not, some_same, first_is, split_last, last_some, but_last_of_none, first_or-append, last_or-append}
use Rattle.ic_link_ops.proofs.RepresentedTrees.{holds_beside}
use Rattle.ic_link_ops.proofs.Trees.{leaf_is}
use Rattle.ic_rbtree.specs.Ends.{end_on, others_on, RepresentsFrom, Hangs, CanDescend, IsOuter}
use Rattle.ic_rbtree.specs.Prelude.{cell, loose, below, around, Held, ClimbState, IsOn, Adopts}
use Rattle.ic_rbtree.specs.Sides.{IsOutermost, beyond, nearest}
use Rattle.ic_rbtree.proofs.Branches.{side_far, side_up, side_linked, top_leaf}
use Rattle.ic_rbtree.proofs.Members.{stands_of}
use Rattle.ic_rbtree.proofs.Nearest.{nearest_or, nearest_there, nearest_plain, nearest_frame, beyond_nothing, nearest_nothing, nothing_both}
use Rattle.ic_rbtree.proofs.Pieces.{regroup}
use Rattle.ic_rbtree.proofs.Removing.{go_into}
use Rattle.ic_rbtree.proofs.Rotations.{open_at, below_linked, around_linked, changes_child_side}
use Rattle.ic_rbtree.proofs.Zipper.{go_top}

-- if no member is beyond the subtree on side d, the lowest frame is a frame on side d
pub on_side : (d : Side) (fs : List Frame) → beyond d fs ≡ [] → IsOn d fs
on_side d [] e = tt
on_side Left (frame Left c p b ∷ fs) e = refl
on_side Left (frame Right c p b ∷ fs) e = absurd (none_not p (sym (ap last e) ∙ nearest_frame Left c p b fs))
on_side Right (frame Left c p b ∷ fs) e = absurd (none_not p (sym (ap first e)))
on_side Right (frame Right c p b ∷ fs) e = refl

-- if the lowest frame is on side d, its member is the nearest member beyond the subtree on the other side
above_nearest : (d : Side) (fs : List Frame) → IsOn d fs → above fs ≡ nearest (across d) (beyond (across d) fs)
above_nearest d [] on = sym (beyond_nothing (across d))
above_nearest Left (frame Left c p b ∷ fs) on = refl
above_nearest Left (frame Right c p b ∷ fs) on = cc
above_nearest Right (frame Left c p b ∷ fs) on = cc
above_nearest Right (frame Right c p b ∷ fs) on = sym (nearest_frame Left c p b fs)

-- if no member is beyond the subtree t on side d, the end of the whole tree on side d is the end of t. If t is empty, the end is the nearest member beyond t on
-- the other side
end_around : (d : Side) (fs : List Frame) (t : Tree) → beyond d fs ≡ []
    → end_on d (in_order (plug fs t)) ≡ nearest_or (across d) (in_order t) (nearest (across d) (beyond (across d) fs))
end_around Left fs t e =
    ap first (in_order_parts fs t ∙ ap (λ (s : List Place). s ++ (in_order t ++ after fs)) e) ∙ first_or-append (in_order t) (after fs) None
end_around Right fs t e =
    ap last (in_order_parts fs t ∙ ap (λ (s : List Place). before fs ++ (in_order t ++ s)) e ∙ ap (λ (s : List Place). before fs ++ s) (append-nil (in_order t)))
    ∙ last_or-append None (before fs) (in_order t)

-- if a list has no member at its end on side d, it is empty, and the list without this end is the same list
pub none_others : (d : Side) (w : List Place) → end_on d w ≡ None → others_on d w ≡ w
none_others Left [] e = refl
none_others Left (x ∷ w) e = absurd (none_not x (sym e))
none_others Right w e = but_last_of_none w e

-- the far end of a list stays if the near end is removed, unless no member is left
far_front : (w : List Place) (next far : Option Place) → next ≡ first (drop 1 w) → far ≡ last w → option_and next far ≡ last (drop 1 w)
far_front [] None far e i = refl
far_front (x ∷ []) None far e i = refl
far_front (x ∷ y ∷ s) None far e i = absurd (none_not y e)
far_front [] (Some q) far e i = absurd (none_not q (sym e))
far_front (x ∷ []) (Some q) far e i = absurd (none_not q (sym e))
far_front (x ∷ y ∷ s) (Some q) far e i = i

far_back : (w : List Place) (next far : Option Place) → next ≡ last (but_last w) → far ≡ first w → option_and next far ≡ first (but_last w)
far_back [] None far e i = refl
far_back (x ∷ []) None far e i = refl
far_back (x ∷ y ∷ s) None far e i = absurd (last_some x (but_last (y ∷ s)) (sym e))
far_back [] (Some q) far e i = absurd (none_not q (sym e))
far_back (x ∷ []) (Some q) far e i = absurd (none_not q (sym e))
far_back (x ∷ y ∷ s) (Some q) far e i = i

module _ {E : Type 0} (n : E → Node) where
  -- if `to` is written as the child of q on side d, the subtree with the root `to` is below q on this side
  pub hangs_some : (v w : Table E) (q : Place) (parent to : Option Place) (d : Side) → parent ≡ Some q
      → n (w.entry q) ≡ with_child d (n (v.entry q)) to → ChangesOnly v w q → Hangs n v w parent d to
  hangs_some v w q parent to d is set only base root [] was x ps e on ex h = absurd (none_not q (sym e ∙ is))
  hangs_some v w q parent to d is set only base root (frame k c p b ∷ fs) was x ps e on ex h =
      let set' : n (w.entry q) ≡ with_child k (n (v.entry q)) to = subst (λ (z : Side). n (w.entry q) ≡ with_child z (n (v.entry q)) to) on set in
      subst (λ (r : Option Place). Held n base w (around r (frame k c p b ∷ fs) x ∷ ps)) h.are.0.1
      (changes_child_side n root q was to x k c p b fs ps (some_same (sym is ∙ e)) ex set' only h)

  pub hangs_none : (v : Table E) (parent to : Option Place) (d : Side) → parent ≡ None → Hangs n v v parent d to
  hangs_none v parent to d is base root [] was x ps e on ex h = regroup n (around x [] x ∷ ps) h (λ q. refl) ((tt, refl), h.are.1)
  hangs_none v parent to d is base root (frame k c p b ∷ fs) was x ps e on ex h = absurd (none_not p (sym is ∙ e))

  -- if the child `child` is the place q, the new end of the tree on side d is y, the outermost member at or below q
  pub outer_below : (v : Table E) (q y : Place) (child parent : Option Place) (d : Side) → child ≡ Some q → IsOutermost n v q d y → IsOuter n v child parent d (Some y)
  outer_below v q y child parent d is out base root fs t ps st ec ep bare =
      let here : top t ≡ Some q = sym ec ∙ is in
      sym (out base root fs t ps st here).nearest_is ∙ nearest_plain (across d) (in_order t)
      ∙ nearest_there (across d) t q None (nearest (across d) (beyond (across d) fs)) here ∙ sym (end_around d fs t bare)

  -- if `child` is none, the new end of the tree on side d is `parent`
  pub outer_above : (v : Table E) (child parent : Option Place) (d : Side) → child ≡ None → IsOuter n v child parent d parent
  outer_above v child parent d none base root fs t ps st ec ep bare =
      let empty : in_order t ≡ [] = ap in_order (top_leaf t (sym ec ∙ none)) in
      ep ∙ above_nearest d fs (on_side d fs bare) ∙ sym (nearest_nothing (across d) (nearest (across d) (beyond (across d) fs)))
      ∙ ap (λ (s : List Place). nearest_or (across d) s (nearest (across d) (beyond (across d) fs))) (sym empty) ∙ sym (end_around d fs t bare)

  -- AT THE END on side d: the outermost member p has no child on this side, and no member is beyond p
  pub record AtEnd (v : Table E) (d : Side) (p : Place) (w : List Place) : Type 0 where
    pub root : Option Place
    pub fs : List Frame
    pub c : Color
    pub b : Tree
    pub stands : ClimbState n v v root fs (branch d c leaf p b) []
    pub bare : beyond d fs ≡ []
    pub order : in_order (plug fs (branch d c leaf p b)) ≡ w
    pub rest : in_order (plug fs b) ≡ others_on d w

  at_front : {v : Table E} (tree : Tree) (p : Place) (w : List Place) → Holds n v tree w → Some p ≡ first w → AtEnd v Left p w
  at_front {v} tree p w h e =
      let f = focus tree [] [] p (drop 1 w) (h.order ∙ first_is w e) in
      let none = nothing_both (before f.0) (in_order f.2) f.5 in
      let bare : f.2 ≡ leaf = leaf_is f.2 none.1 in
      let all : plug f.0 (fork f.1 leaf p f.3) ≡ tree = ap (λ (x : Tree). plug f.0 (fork f.1 x p f.3)) (sym bare) ∙ f.4 in
      record {
        root = top tree;
        fs = f.0;
        c = f.1;
        b = f.3;
        stands = go_into n (top tree) f.0 (fork f.1 leaf p f.3) [] (subst (λ (x : Tree). ClimbState n v v (top tree) [] x []) (sym all) (stands_of n h));
        bare = none.0;
        order = ap in_order all ∙ h.order;
        rest = in_order_parts f.0 f.3 ∙ ap (λ (s : List Place). s ++ (in_order f.3 ++ after f.0)) none.0 ∙ f.6 ∙ append-nil (drop 1 w);
      }

  at_back : {v : Table E} (tree : Tree) (p : Place) (w : List Place) → Holds n v tree w → last w ≡ Some p → AtEnd v Right p w
  at_back {v} tree p w h e =
      let f = focus tree [] (but_last w) p [] (h.order ∙ split_last w e) in
      let none = nothing_both (in_order f.3) (after f.0) f.6 in
      let bare : f.3 ≡ leaf = leaf_is f.3 none.0 in
      let all : plug f.0 (fork f.1 f.2 p leaf) ≡ tree = ap (λ (x : Tree). plug f.0 (fork f.1 f.2 p x)) (sym bare) ∙ f.4 in
      record {
        root = top tree;
        fs = f.0;
        c = f.1;
        b = f.2;
        stands = go_into n (top tree) f.0 (fork f.1 f.2 p leaf) [] (subst (λ (x : Tree). ClimbState n v v (top tree) [] x []) (sym all) (stands_of n h));
        bare = none.1;
        order = ap in_order all ∙ h.order;
        rest = in_order_parts f.0 f.2 ∙ ap (λ (s : List Place). before f.0 ++ (in_order f.2 ++ s)) none.1
            ∙ ap (λ (s : List Place). before f.0 ++ s) (append-nil (in_order f.2)) ∙ f.5;
      }

  pub at_end : (v : Table E) (d : Side) (near far : Option Place) (p : Place) (w : List Place) → near ≡ Some p → RepresentsFrom n d v near far w → AtEnd v d p w
  at_end v Left near far p w is h = at_front h.tree p w h.held (sym is ∙ h.starts)
  at_end v Right near far p w is h = at_back h.tree p w h.held (sym h.ends ∙ is)

  -- the stored near end of a tree is the member at this end of the sequence
  pub near_is : (v : Table E) (d : Side) (near far : Option Place) (w : List Place) → RepresentsFrom n d v near far w → near ≡ end_on d w
  near_is v Left near far w h = h.starts
  near_is v Right near far w h = h.ends

  pub none_left : (v : Table E) (d : Side) (near far : Option Place) (w : List Place) → near ≡ None → RepresentsFrom n d v near far w → RepresentsFrom n d v near far (others_on d w)
  none_left v d near far w is h = subst (λ (s : List Place). RepresentsFrom n d v near far s) (sym (none_others d w (sym (near_is v d near far w h) ∙ is))) h

  module _ {v : Table E} {d : Side} {p : Place} {w : List Place} (x : AtEnd v d p w) where
    open_end : Held n v v (cell d p x.c None (top x.b) (above x.fs) ∷ below (Some p) leaf ∷ below (Some p) x.b ∷ around x.root x.fs (Some p) ∷ [])
    open_end = open_at n x.root x.fs d x.c leaf p x.b [] x.stands

    pub end_linked : (n (v.entry p)).linked ≡ true
    end_linked = side_linked n v.entry d p x.c None (top x.b) (above x.fs) open_end.are.0

    pub end_child : (o : Side) (child : Option Place) → o ≡ across d → child ≡ child_on o (n (v.entry p)) → child ≡ top x.b
    end_child o child eo ec = ec ∙ ap (λ (k : Side). child_on k (n (v.entry p))) eo ∙ side_far n v.entry d p x.c None (top x.b) (above x.fs) open_end.are.0

    pub end_parent : (parent : Option Place) → parent ≡ (n (v.entry p)).parent → parent ≡ above x.fs
    end_parent parent ep = ep ∙ side_up n v.entry d p x.c None (top x.b) (above x.fs) open_end.are.0

    pub child_linked : (child : Option Place) → child ≡ top x.b → (q : Place) → child ≡ Some q → (n (v.entry q)).linked ≡ true
    child_linked child ec q is = below_linked n v.entry (Some p) x.b q open_end.are.1.1.0 (sym ec ∙ is)

    pub parent_linked : (parent : Option Place) → parent ≡ above x.fs → (q : Place) → parent ≡ Some q → (n (v.entry q)).linked ≡ true
    parent_linked parent ep q is = around_linked n v.entry x.fs (Some p) q open_end.are.1.1.1.0.0 (sym ep ∙ is)

    -- THE MEMBER AT AN END IS REMOVED by two writes: its child gets the parent of the member, and this parent gets the child
    module _ {v1 v2 : Table E} {child parent : Option Place} (ec : child ≡ top x.b) (ep : parent ≡ above x.fs) (f1 : Adopts n v v1 child parent) (f2 : Hangs n v1 v2 parent d child) where
      pub off : ClimbState n v v2 (topmost x.fs (top x.b)) x.fs x.b (loose p ∷ [])
      off =
          let h0 = open_end in
          let h1 = regroup n (below (Some p) x.b ∷ loose p ∷ around x.root x.fs (Some p) ∷ []) h0 (λ q. omega arith) (h0.are.1.1.0, (end_linked, h0.are.1.1.1)) in
          let h2 = f1 v (Some p) (above x.fs) x.b (loose p ∷ around x.root x.fs (Some p) ∷ []) ec ep h1 in
          let h3 = regroup n (around x.root x.fs (Some p) ∷ below (above x.fs) x.b ∷ loose p ∷ []) h2 (λ q. omega arith) (h2.are.1.1.0, (h2.are.0, (h2.are.1.0, tt))) in
          f2 v x.root x.fs (Some p) (top x.b) (below (above x.fs) x.b ∷ loose p ∷ []) ep (on_side d x.fs x.bare) ec h3

      pub off_can : CanDescend n v2 child
      off_can q is = (v, topmost x.fs (top x.b), x.fs, x.b, loose p ∷ [], off, sym ec ∙ is)

      pub off_next : (next : Option Place) → IsOuter n v2 child parent d next → next ≡ end_on d (others_on d w)
      off_next next is = is v (topmost x.fs (top x.b)) x.fs x.b (loose p ∷ []) off ec ep x.bare ∙ ap (end_on d) x.rest

      off_whole : ClimbState n v v2 (topmost x.fs (top x.b)) [] (plug x.fs x.b) (loose p ∷ [])
      off_whole = go_top n off

      pub off_holds : {v3 : Table E} → ChangesOnly v2 v3 p → Holds n v3 (plug x.fs x.b) (others_on d w)
      off_holds {v3} only =
          let h : Holds n v2 (plug x.fs x.b) (in_order (plug x.fs x.b)) = record {
            order = refl;
            distinct = times_distinct (in_order (plug x.fs x.b)) (λ q. omega (arith, off_whole.once q, times_order q (plug x.fs x.b)));
            entries = off_whole.are.1.0;
          } in
          let out : IsAbsent p (in_order (plug x.fs x.b)) =
          times_absent p (in_order (plug x.fs x.b)) (omega (arith, off_whole.once p, one_at_self p, times_order p (plug x.fs x.b))) in
          subst (λ (s : List Place). Holds n v3 (plug x.fs x.b) s) x.rest (holds_beside h out only.others)

      pub off_frame : {v3 : Table E} → ChangesOnly v2 v3 p → ChangesOnlyIn v v3 w
      off_frame {v3} only = record {
        extent = only.extent ∙ off.extent;
        others = λ q out. others q out;
      } where
        others : (q : Place) → IsAbsent q w → v3.entry q ≡ v.entry q
        others q out =
            let all : times q (plug x.fs (branch d x.c leaf p x.b)) ≡ 0 =
            sym (times_order q (plug x.fs (branch d x.c leaf p x.b))) ∙ ap (times_in q) x.order ∙ absent_times q w out in
            let parts : times q (plug x.fs (branch d x.c leaf p x.b)) ≡ times q (branch d x.c leaf p x.b) + times_around q x.fs = times_plug q x.fs (branch d x.c leaf p x.b) in
            let here : times q (branch d x.c leaf p x.b) ≡ times q leaf + one_at q p + times q x.b = times_branch q d x.c leaf p x.b in
            only.others q (apart q p (omega (arith, all, parts, here))) ∙ off.beside q (omega (arith, all, parts, here))

  -- AFTER THE MEMBER AT THE NEAR END is removed, the table represents the other members between the new ends
  pub taken_off : {v w : Table E} (tree : Tree) (d : Side) (near far next here there : Option Place) (s : List Place) → RepresentsFrom n d v near far s
      → Holds n w tree (others_on d s) → next ≡ end_on d (others_on d s) → here ≡ next → there ≡ option_and next far → RepresentsFrom n d w here there (others_on d s)
  taken_off tree Left near far next here there s h held is eh et = record { tree = tree; held = held; starts = eh ∙ is; ends = et ∙ far_front s next far is h.ends }
  taken_off tree Right near far next here there s h held is eh et = record { tree = tree; held = held; starts = et ∙ far_back s next far is h.starts; ends = eh ∙ is }
