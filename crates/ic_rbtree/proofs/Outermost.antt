-- Lemmas about a descent to the outermost member below a place, and about a climb to the nearest member above a place.
use Rattle.std.proofs.Common.{◌≡◌, ◌≢◌, ◌-◌, ◌<◌, true, suc, Option, Some, None, List, [], ◌∷◌, length, refl, sym, ap, ◌∙◌, subst, arith}
use Rattle.ic_link_ops.specs.Prelude.{Place, Table, IsCovered, Tree, leaf, top, in_order, top_color, Node}
use Rattle.ic_link_ops.specs.declared.color.Color.{Color}
use Rattle.ic_link_ops.specs.declared.side.Side.{Side}
use Rattle.ic_link_ops.specs.declared.side.Side.TheVariants.{Left, Right}
use Rattle.ic_link_ops.specs.Frames.{Frame, frame, across, child_on, branch, plug, above}
use Rattle.ic_link_ops.proofs.SequenceLemmas.{none_not, some_same}
use Rattle.ic_link_ops.proofs.Trees.{top_parent}
use Rattle.ic_rbtree.specs.Climb.{depth}
use Rattle.ic_rbtree.specs.Pieces.{Piece, ClimbState}
use Rattle.ic_rbtree.specs.Sides.{beyond, nearest, IsEnd}
use Rattle.ic_rbtree.proofs.Branches.{as_branch, top_branch, side_near, side_far, side_linked, top_leaf}
use Rattle.ic_rbtree.proofs.Rotations.{open_at, times_top}
use Rattle.ic_rbtree.proofs.Zipper.{go_up, go_down}
use Rattle.ic_rbtree.proofs.ParentClimbs.{depth_top}
use Rattle.ic_rbtree.proofs.Nearest.{nearest_branch, nearest_there, nearest_plain, beyond_same, nearest_frame, beyond_nothing, nearest_nothing}

module _ {E : Type 0} (n : E → Node) where
  -- THE SUBTREE t IS OPENED at its root p: it is a branch of p, as seen from side d, with a subtree on each side
  pub record Opened (base v : Table E) (root : Option Place) (d : Side) (p : Place) (fs : List Frame) (t : Tree) (ps : List Piece) : Type 0 where
    pub c : Color
    pub a : Tree
    pub b : Tree
    pub is : t ≡ branch d c a p b
    pub stands : ClimbState n base v root fs (branch d c a p b) ps
    pub linked : (n (v.entry p)).linked ≡ true
    pub near : child_on d (n (v.entry p)) ≡ top a
    pub down : ClimbState n base v root (frame d c p b ∷ fs) a ps

  pub opened : {base v : Table E} {root : Option Place} (d : Side) {p : Place} (fs : List Frame) (t : Tree) {ps : List Piece} → ClimbState n base v root fs t ps → top t ≡ Some p
      → Opened base v root d p fs t ps
  opened {base} {v} {root} d {p} fs t {ps} h e =
      let k = as_branch d t p e in
      let s : ClimbState n base v root fs (branch d (top_color t) k.0 p k.1) ps = subst (λ (x : Tree). ClimbState n base v root fs x ps) k.2 h in
      let o = open_at n root fs d (top_color t) k.0 p k.1 ps s in
      record {
        c = top_color t;
        a = k.0;
        b = k.1;
        is = k.2;
        stands = s;
        linked = side_linked n v.entry d p (top_color t) (top k.0) (top k.1) (above fs) o.are.0;
        near = side_near n v.entry d p (top_color t) (top k.0) (top k.1) (above fs) o.are.0;
        down = go_down n d (top_color t) p k.1 k.0 s;
      }

  -- A DESCENT to side d begins at the subtree t below the frames fs and has come to p. p is the root of the subtree u below the frames gs
  pub record Down (base v : Table E) (root : Option Place) (d : Side) (p : Place) (fs : List Frame) (t : Tree) (ps : List Piece) (gs : List Frame) (u : Tree) : Type 0 where
    pub stands : ClimbState n base v root gs u ps
    pub top_is : top u ≡ Some p
    pub same : plug gs u ≡ plug fs t
    pub beside : beyond d gs ≡ beyond d fs
    pub nearest_is : nearest (across d) (in_order u) ≡ nearest (across d) (in_order t)

  module _ {base v : Table E} {root : Option Place} {d : Side} {p : Place} (fs : List Frame) (t : Tree) {ps : List Piece} (gs : List Frame) (u : Tree)
      (h : Down base v root d p fs t ps gs u) where
    pub step_down : {q : Place} → child_on d (n (v.entry p)) ≡ Some q
        → (gs' : List Frame) × (u' : Tree) × Down base v root d q fs t ps gs' u' × (length gs' ≡ suc (length gs))
    step_down {q} is =
        let o = opened d gs u h.stands h.top_is in
        let below : top o.a ≡ Some q = sym o.near ∙ is in (
          frame d o.c p o.b ∷ gs,
          o.a,
          record {
            stands = o.down;
            top_is = below;
            same = sym (ap (plug gs) o.is) ∙ h.same;
            beside = beyond_same d o.c p o.b gs ∙ h.beside;
            nearest_is = nearest_plain (across d) (in_order o.a) ∙ nearest_there (across d) o.a q None (Some p) below ∙ sym (nearest_branch d o.c o.a p o.b)
                ∙ ap (λ (x : Tree). nearest (across d) (in_order x)) (sym o.is) ∙ h.nearest_is;
          },
          refl,
        )

    pub down_ends : child_on d (n (v.entry p)) ≡ None → IsEnd n v d p fs t
    down_ends none =
        let o = opened d gs u h.stands h.top_is in
        let bare : o.a ≡ leaf = top_leaf o.a (sym o.near ∙ none) in
        let is : u ≡ branch d o.c leaf p o.b = o.is ∙ ap (λ (x : Tree). branch d o.c x p o.b) bare in
        record {
          gs = gs;
          c = o.c;
          b = o.b;
          same = sym (ap (plug gs) is) ∙ h.same;
          beside = h.beside;
          nearest_is = sym h.nearest_is ∙ ap (λ (x : Tree). nearest (across d) (in_order x)) is ∙ nearest_branch d o.c leaf p o.b ∙ nearest_nothing (across d) (Some p);
          childless = none;
        }

  pub down_starts : {base v : Table E} {root : Option Place} {d : Side} {p : Place} (fs : List Frame) (t : Tree) {ps : List Piece} → ClimbState n base v root fs t ps → top t ≡ Some p
      → Down base v root d p fs t ps fs t
  down_starts fs t h e = record { stands = h; top_is = e; same = refl; beside = refl; nearest_is = refl }

  -- each step of a descent goes to a member with a greater distance from the root
  pub down_falls : {v : Table E} (law : (x : Place) → (n (v.entry x)).linked ≡ true → IsCovered v x) {base : Table E} {root : Option Place} (d : Side) {p q : Place}
      (gs : List Frame) (u : Tree) {ps : List Piece} → ClimbState n base v root gs u ps → top u ≡ Some p → child_on d (n (v.entry p)) ≡ Some q
      → v.extent.places - depth n v (Some q) < v.extent.places - depth n v (Some p)
  down_falls {v} law {base} {root} d {p} {q} gs u {ps} s e is =
      let k = step_down gs u gs u (down_starts {d = d} gs u s e) is in
      let old = depth_top n law root gs u ps p s e in
      let new = depth_top n law root k.0 k.1 ps q k.2.stands k.2.top_is in
      omega (arith, old.0, old.1, new.0, new.1, k.3)

  -- A CLIMB to side d begins at the subtree below the frames fs and has come to p. p is the root of the subtree u below the frames gs
  pub record Up (base v : Table E) (root : Option Place) (d : Side) (p : Place) (fs : List Frame) (ps : List Piece) (gs : List Frame) (u : Tree) : Type 0 where
    pub stands : ClimbState n base v root gs u ps
    pub top_is : top u ≡ Some p
    pub nearest_is : nearest d (beyond d gs) ≡ nearest d (beyond d fs)

  pub up_starts : {base v : Table E} {root : Option Place} {d : Side} {p : Place} (fs : List Frame) (t : Tree) {ps : List Piece} → ClimbState n base v root fs t ps → top t ≡ Some p
      → Up base v root d p fs ps fs t
  up_starts fs t h e = record { stands = h; top_is = e; nearest_is = refl }

  -- the frame right above the subtree u with the root p is the frame of q, the parent of p
  pub record Framed (base v : Table E) (root : Option Place) (p q : Place) (gs : List Frame) (u : Tree) (ps : List Piece) : Type 0 where
    pub k : Side
    pub c : Color
    pub b : Tree
    pub rest : List Frame
    pub is : gs ≡ frame k c q b ∷ rest
    pub linked : (n (v.entry q)).linked ≡ true
    pub near : child_on k (n (v.entry q)) ≡ Some p
    pub far : child_on (across k) (n (v.entry q)) ≢ Some p
    pub stands : ClimbState n base v root rest (branch k c u q b) ps

  pub framed : {base v : Table E} {root : Option Place} {p q : Place} (gs : List Frame) (u : Tree) {ps : List Piece} → ClimbState n base v root gs u ps → top u ≡ Some p
      → (n (v.entry p)).parent ≡ Some q → Framed base v root p q gs u ps
  framed {base} {v} {root} {p} {q} gs u {ps} h e up = by gs h (sym (top_parent n v.entry (above gs) u p h.are.1.0 e) ∙ up) where
    by : (gs : List Frame) → ClimbState n base v root gs u ps → above gs ≡ Some q → Framed base v root p q gs u ps
    by [] h is = absurd (none_not q is)
    by (frame k c r b ∷ rest) h is =
        subst (λ (z : Place). Framed base v root p z (frame k c r b ∷ rest) u ps) (some_same is) (record {
          k = k;
          c = c;
          b = b;
          rest = rest;
          is = refl;
          linked = side_linked n v.entry k r c (top u) (top b) (above rest) h.are.0.0.0;
          near = side_near n v.entry k r c (top u) (top b) (above rest) h.are.0.0.0 ∙ e;
          far = λ f.
              let there : top b ≡ Some p = sym (side_far n v.entry k r c (top u) (top b) (above rest) h.are.0.0.0) ∙ f in
              absurd (omega (arith, h.once p, times_top p u e, times_top p b there));
          stands = go_up n h;
        })

  module _ {base v : Table E} {root : Option Place} {d : Side} {p q : Place} (fs gs : List Frame) (u : Tree) {ps : List Piece} (h : Up base v root d p fs ps gs u)
      (up : (n (v.entry p)).parent ≡ Some q) where
    -- if p is not the child of q on side d, then q is the nearest member beyond the subtree where the climb began, on side d
    pub up_ends : child_on d (n (v.entry q)) ≢ Some p → Some q ≡ nearest d (beyond d fs)
    up_ends other =
        let f = framed gs u h.stands h.top_is up in
        by d f.k f.c f.b f.rest f.is f.near other h.nearest_is
      where
        by : (d k : Side) (c : Color) (b : Tree) (rest : List Frame) → gs ≡ frame k c q b ∷ rest → child_on k (n (v.entry q)) ≡ Some p → child_on d (n (v.entry q)) ≢ Some p
            → nearest d (beyond d gs) ≡ nearest d (beyond d fs) → Some q ≡ nearest d (beyond d fs)
        by Left Left c b rest is near other same = absurd (other near)
        by Left Right c b rest is near other same = sym (nearest_frame Left c q b rest) ∙ ap (λ (x : List Frame). nearest Left (beyond Left x)) (sym is) ∙ same
        by Right Left c b rest is near other same = sym (nearest_frame Right c q b rest) ∙ ap (λ (x : List Frame). nearest Right (beyond Right x)) (sym is) ∙ same
        by Right Right c b rest is near other same = absurd (other near)

    -- if p is the child of q on side d, the climb goes on at q
    pub step_up : child_on d (n (v.entry q)) ≡ Some p → (gs' : List Frame) × (u' : Tree) × Up base v root d q fs ps gs' u' × (suc (length gs') ≡ length gs)
    step_up there =
        let f = framed gs u h.stands h.top_is up in (
          f.rest,
          branch f.k f.c u q f.b,
          record {
            stands = f.stands;
            top_is = top_branch f.k f.c u q f.b;
            nearest_is = by d f.k f.c f.b f.rest f.is f.far there ∙ h.nearest_is;
          },
          ap length (sym f.is),
        )
      where
        by : (d k : Side) (c : Color) (b : Tree) (rest : List Frame) → gs ≡ frame k c q b ∷ rest → child_on (across k) (n (v.entry q)) ≢ Some p → child_on d (n (v.entry q)) ≡ Some p
            → nearest d (beyond d rest) ≡ nearest d (beyond d gs)
        by Left Left c b rest is far there = ap (λ (x : List Frame). nearest Left (beyond Left x)) (sym is)
        by Left Right c b rest is far there = absurd (far there)
        by Right Left c b rest is far there = absurd (far there)
        by Right Right c b rest is far there = ap (λ (x : List Frame). nearest Right (beyond Right x)) (sym is)

  -- each step of a climb goes to a member with a smaller distance from the root
  pub up_falls : {v : Table E} (law : (x : Place) → (n (v.entry x)).linked ≡ true → IsCovered v x) {base : Table E} {root : Option Place} {p q : Place} (gs : List Frame) (u : Tree) {ps : List Piece}
      → ClimbState n base v root gs u ps → top u ≡ Some p → (n (v.entry p)).parent ≡ Some q → depth n v (Some q) < depth n v (Some p)
  up_falls {v} law {base} {root} {p} {q} gs u {ps} s e up =
      let f = framed gs u s e up in
      let old = depth_top n law root gs u ps p s e in
      let new = depth_top n law root f.rest (branch f.k f.c u q f.b) ps q f.stands (top_branch f.k f.c u q f.b) in
      omega (arith, old.0, new.0, ap length f.is)

  -- if the climb has come to a member without a parent, no member is beyond on side d
  pub no_more_up : {base v : Table E} {root : Option Place} {d : Side} {p : Place} (fs gs : List Frame) (u : Tree) {ps : List Piece} → Up base v root d p fs ps gs u
      → (n (v.entry p)).parent ≡ None → None ≡ nearest d (beyond d fs)
  no_more_up {base} {v} {root} {d} {p} fs gs u h none = by d gs (sym (top_parent n v.entry (above gs) u p h.stands.are.1.0 h.top_is) ∙ none) h.nearest_is where
    by : (d : Side) (gs : List Frame) → above gs ≡ None → nearest d (beyond d gs) ≡ nearest d (beyond d fs) → None ≡ nearest d (beyond d fs)
    by d [] e same = sym (beyond_nothing d) ∙ same
    by d (frame k c r b ∷ rest) e same = absurd (none_not r (sym e))
