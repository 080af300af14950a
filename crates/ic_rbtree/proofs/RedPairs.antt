-- A red pair is a red member below a red parent. The repair recolors a red pair, or rotates the upper member of the pair above the grandparent.
use Rattle.std.proofs.Common.{◌≡◌, ℕ, ◌+◌, ◌<◌, Bool, true, false, cond, not, is_some, Option, Some, None, List, [], ◌∷◌, length, refl, sym, ap, ◌∙◌, subst, arith, IsSome}
use Rattle.ic_link_ops.specs.Prelude.{Place, Table, ChangesOnly, Tree, leaf, fork, top, in_order, top_color, weight, blacks, IsRight, Node, IsTree}
use Rattle.ic_link_ops.specs.declared.color.Color.{Color}
use Rattle.ic_link_ops.specs.declared.color.Color.TheVariants.{Red, Black}
use Rattle.ic_link_ops.specs.declared.side.Side.{Side}
use Rattle.ic_link_ops.specs.declared.side.Side.TheVariants.{Left, Right}
use Rattle.ic_link_ops.specs.Frames.{Frame, frame, branch, plug, above, across, child_on}
use Rattle.ic_link_ops.proofs.SequenceLemmas.{none_not, some_same}
use Rattle.ic_link_ops.proofs.Trees.{top_parent}
use Rattle.ic_rbtree.specs.Prelude.{ClimbState, Rotates, IsSideOf, is_red, red_at}
use Rattle.ic_rbtree.specs.Focus.{Focus}
use Rattle.ic_rbtree.specs.Shortage.{wanted, color_above, IsNearlyRight}
use Rattle.ic_rbtree.specs.Insertion.{color_below, are_across, RedPair, above_pair, blackened, RedAt, IsRestoredWith, IsFixedOrHigher, PairAt, Recolors, HasOuterGrandchild}
use Rattle.ic_rbtree.proofs.Branches.{branch_across, top_branch, as_branch, order_plug, order_branch, order_rotated, side_far, side_tint, side_up}
use Rattle.ic_rbtree.proofs.Rotations.{turn}
use Rattle.ic_rbtree.proofs.Zipper.{go_up, go_down, go_across, go_top, painted_top, painted_above}
use Rattle.ic_rbtree.proofs.InsertionShapes.{recolored, restored, inner_rotated, right_plug, through, pair_blacks, recolored_blacks, restored_blacks}
use Rattle.ic_rbtree.proofs.RemovalShapes.{shape_open}
use Rattle.ic_rbtree.proofs.ParentClimbs.{side_found}
use Rattle.ic_rbtree.proofs.RedSiblings.{black_is, some_is, red_tells}

pub across_is : (a b : Side) → are_across a b ≡ true → a ≡ across b
across_is Left Left e = cc
across_is Left Right e = refl
across_is Right Left e = refl
across_is Right Right e = cc

pub same_is : (a b : Side) → are_across a b ≡ false → a ≡ b
same_is Left Left e = refl
same_is Left Right e = cc
same_is Right Left e = cc
same_is Right Right e = refl

wanted_is : (fs : List Frame) → color_below (above fs) ≡ wanted fs
wanted_is [] = refl
wanted_is (frame d c p b ∷ fs) = refl

-- if there is a frame above the subtree, the color `wanted` of its root is red, and red has the weight 0
pub red_below : (fs : List Frame) {m : ℕ} → m < length fs → weight (wanted fs) ≡ 0
red_below [] few = absurd (omega (arith, few))
red_below (f ∷ fs) few = refl

pub red_there : (fs : List Frame) (q : Place) → above fs ≡ Some q → weight (wanted fs) ≡ 0
red_there [] q e = absurd (none_not q e)
red_there (f ∷ fs) q e = refl

-- the tree has grown exactly if the repair has reached the root
pub grown_is : (fs : List Frame) (o : Option Place) (r : Bool) → o ≡ above fs → is_some o ≡ not r → cond r 1 0 ≡ weight (wanted fs)
grown_is [] None true e is = refl
grown_is [] None false e is = cc
grown_is [] (Some p) r e is = absurd (none_not p (sym e))
grown_is (frame d c p b ∷ fs) None r e is = absurd (none_not p e)
grown_is (frame d c p b ∷ fs) (Some q) true e is = cc
grown_is (frame d c p b ∷ fs) (Some q) false e is = refl

module _ {E : Type 0} (n : E → Node) where
  -- THE RED PARENT q of x has a parent g, because the root is black
  pub record Pair (v : Table E) (root : Option Place) (x : Place) (k : Focus E) (q : Place) : Type 0 where
    pub g : Place
    pub side : Side
    pub around : RedPair
    pub fs : List Frame
    pub at : PairAt n v root x q g side around (record k { frames = fs })
    pub frames_are : k.frames ≡ above_pair q g side around fs

  module _ {v : Table E} {root : Option Place} {x : Place} {k : Focus E} (h : RedAt n v root x k) (o : Option Place) where
    pub red_parent : o ≡ (n (v.entry x)).parent → o ≡ above k.frames
    red_parent eo = eo ∙ top_parent n v.entry (above k.frames) k.subtree x h.stands.are.1.0 h.top_is

    done_at : (color_above k.frames ≡ Red → top_color k.subtree ≡ Black) → IsRestoredWith n v root k (blacks (plug k.frames k.subtree))
    done_at fits = (
      record {
        tree = plug k.frames k.subtree;
        stands = go_top n h.stands;
        order = h.order;
        shape = right_plug k.frames k.subtree h.nearly.pairs h.nearly.even h.nearly.pairs_around h.nearly.even_around fits;
      },
      refl,
    )

    -- if x has no parent, the tree is right
    pub done_top : o ≡ above k.frames → o ≡ None → IsRestoredWith n v root k (blacks (plug k.frames k.subtree))
    done_top up none = done_at (λ red. at k.frames (sym up ∙ none) h.nearly.painted) where
      at : (fs : List Frame) → above fs ≡ None → top_color k.subtree ≡ wanted fs → top_color k.subtree ≡ Black
      at [] e is = is
      at (frame d c p b ∷ fs) e is = absurd (none_not p (sym e))

    module _ (up : o ≡ above k.frames) (q : Place) (is : o ≡ Some q) (r : Bool) (er : r ≡ red_at n v (Some q)) where
      above_is : above k.frames ≡ Some q
      above_is = sym up ∙ is

      -- the color of the lowest frame is the color that is read at its member q
      tint : (d : Side) (c : Color) (p : Place) (b : Tree) (fs : List Frame) → RedAt n v root x (record k { frames = frame d c p b ∷ fs }) → p ≡ q → is_red c ≡ r
      tint d c p b fs h same =
          ap is_red (sym (subst (λ (z : Place). (n (v.entry z)).color ≡ c) same (side_tint n v.entry d p c (top k.subtree) (top b) (above fs) h.stands.are.0.0.0))) ∙ sym er

      -- if the parent of x is black, the tree is right
      pub done_black : r ≡ false → IsRestoredWith n v root k (blacks (plug k.frames k.subtree))
      done_black e = done_at (at k.frames h above_is) where
        at : (fs : List Frame) → RedAt n v root x (record k { frames = fs }) → above fs ≡ Some q → color_above fs ≡ Red → top_color k.subtree ≡ Black
        at [] h up red = absurd (none_not q up)
        at (frame d c p b ∷ fs) h up red = let black : c ≡ Black = black_is c (tint d c p b fs h (some_same up) ∙ e) in cc

      pub pair_at : r ≡ true → Pair v root x k q
      pair_at e = at k.frames h above_is refl where
        at : (fs : List Frame) → RedAt n v root x (record k { frames = fs }) → above fs ≡ Some q → k.frames ≡ fs → Pair v root x k q
        at [] h up l = absurd (none_not q up)
        at (frame d Black p b ∷ fs) h up l = let m : false ≡ true = tint d Black p b fs h (some_same up) ∙ e in cc
        at (frame d Red p b ∷ []) h up l = let m : Red ≡ Black = h.nearly.pairs_around.1 refl in cc
        at (frame d Red p b ∷ frame i c g u ∷ fs) h up l = record {
          g = g;
          side = i;
          around = record { low = d; sibling = b; color = c; uncle = u };
          fs = fs;
          at = record { red = subst (λ (z : Place). RedAt n v root x (record k { frames = frame d Red z b ∷ frame i c g u ∷ fs })) (some_same up) h };
          frames_are = l ∙ ap (λ (z : Place). frame d Red z b ∷ frame i c g u ∷ fs) (some_same up);
        }

  module _ {v : Table E} {root : Option Place} {x q g : Place} {i : Side} {m : RedPair} {k : Focus E} (h : PairAt n v root x q g i m k) where
    pub grand_is : (n (v.entry q)).parent ≡ Some g
    grand_is = side_up n v.entry m.low q Red (top k.subtree) (top m.sibling) (Some g) h.red.stands.are.0.0.0

    joined : ClimbState n k.base v root (frame i m.color g m.uncle ∷ k.frames) (branch m.low Red k.subtree q m.sibling) k.pieces
    joined = go_up n h.red.stands

    -- if the table has the parent q on side r of g, then r is the side i of the frame
    pub pair_side : (r : Side) → IsSideOf n v q g r → r ≡ i
    pair_side r is =
        side_found n v k.base root i m.color g m.uncle k.frames (branch m.low Red k.subtree q m.sibling) k.pieces q r joined (top_branch m.low Red k.subtree q m.sibling) is

    pub uncle_is : (far : Side) (o : Option Place) → far ≡ across i → o ≡ child_on far (n (v.entry g)) → o ≡ top m.uncle
    uncle_is far o ef eo =
        eo ∙ (ap (λ (y : Side). child_on y (n (v.entry g))) ef ∙ side_far n v.entry i g m.color (Some q) (top m.uncle) (above k.frames) h.red.stands.are.0.0.2.0)

    uncle_tree : IsTree n v.entry (Some g) m.uncle
    uncle_tree = h.red.stands.are.0.0.2.1

    pub uncle_red : (o : Option Place) → o ≡ top m.uncle → (r : Bool) → r ≡ red_at n v o → r ≡ is_red (top_color m.uncle)
    uncle_red o eo r er = er ∙ red_tells n v (Some g) o m.uncle eo uncle_tree

    pub uncle_some : is_red (top_color m.uncle) ≡ true → (o : Option Place) → o ≡ top m.uncle → IsSome o
    uncle_some red o eo = some m.uncle red eo where
      some : (u : Tree) → is_red (top_color u) ≡ true → o ≡ top u → IsSome o
      some leaf e eo = cc
      some (fork c a p b) e eo = some_is o p eo

    -- CASE 1, a red uncle: after the recoloring, the repair goes on at the grandparent g
    pub fixed_higher : {w : Table E} (y : Place) → top m.uncle ≡ Some y → is_red (top_color m.uncle) ≡ true → Recolors n v w q y g
        → IsFixedOrHigher n w root k (length k.frames + 2) (blacks (plug (above_pair q g i m k.frames) k.subtree)) (Some g)
    fixed_higher {w} y is red recolors = at m.uncle is red h.red where
      at : (u : Tree) → top u ≡ Some y → is_red (top_color u) ≡ true → RedAt n v root x (record k { frames = above_pair q g i (record m { uncle = u }) k.frames })
          → IsFixedOrHigher n w root k (length k.frames + 2) (blacks (plug (above_pair q g i (record m { uncle = u }) k.frames) k.subtree)) (Some g)
      at leaf is red h = absurd (none_not y is)
      at (fork Black a p b) is red h = cc
      at (fork Red a p b) is red h =
          let new : Tree = branch m.low Black k.subtree q m.sibling in
          let high : Tree = branch i (wanted k.frames) new g (fork Black a p b) in (
            k.frames,
            high,
            record {
              stands = recolors root i (record m { uncle = fork Red a p b }) k is h.stands;
              top_is = top_branch i (wanted k.frames) new g (fork Black a p b);
              nearly = recolored k.frames m.low q m.sibling i m.color g a p b k.subtree h.nearly;
              order = order_plug k.frames high (branch i m.color (branch m.low Red k.subtree q m.sibling) g (fork Red a p b))
                  (order_branch i (wanted k.frames) m.color new (branch m.low Red k.subtree q m.sibling) g (fork Black a p b) (fork Red a p b)
                  (order_branch m.low Black Red k.subtree k.subtree q m.sibling m.sibling refl refl) refl) ∙ h.order;
            },
            omega arith,
            recolored_blacks k.frames m.low q m.sibling i m.color g a p b k.subtree h.nearly
                ∙ ap (λ (z : ℕ). z + weight (wanted k.frames)) (sym (pair_blacks k.frames m.low q m.sibling i m.color g (fork Red a p b) k.subtree h.nearly)),
          )

    -- if x is on side i of q, as q is on side i of g, then x is an outer grandchild already
    pub outer_now : m.low ≡ i → HasOuterGrandchild n v root q g i m k
    outer_now e = (x, m.sibling, k.subtree, subst (λ (y : Side). PairAt n v root x q g i (record m { low = y }) k) e h)

    -- if the table has x on side r of q, then r is the side of the frame of q
    pub low_side : (r : Side) → IsSideOf n v x q r → r ≡ m.low
    low_side r is = side_found n v k.base root m.low Red q m.sibling (frame i m.color g m.uncle ∷ k.frames) k.subtree k.pieces x r h.red.stands h.red.top_is is

    module _ (bent : m.low ≡ across i) where
      x_open : (ta tb : Tree) × (k.subtree ≡ branch i Red ta x tb)
      x_open = let o = as_branch i k.subtree x h.red.top_is in (o.0, o.1, o.2 ∙ ap (λ (y : Color). branch i y o.0 x o.1) h.red.nearly.painted)

      turn_is : branch m.low Red k.subtree q m.sibling ≡ branch i Red m.sibling q (branch i Red x_open.0 x x_open.1)
      turn_is = (ap (λ (y : Side). branch y Red k.subtree q m.sibling) bent ∙ branch_across i Red m.sibling q k.subtree) ∙ ap (λ (y : Tree). branch i Red m.sibling q y) x_open.2

      bent_ready : ClimbState n k.base v root (frame i m.color g m.uncle ∷ k.frames) (branch i Red m.sibling q (branch i Red x_open.0 x x_open.1)) k.pieces
      bent_ready = subst (λ (y : Tree). ClimbState n k.base v root (frame i m.color g m.uncle ∷ k.frames) y k.pieces) turn_is joined

      pub outer_then : {w : Table E} {new_root : Option Place} → Rotates n v w root new_root q x i Red Red → HasOuterGrandchild n w new_root x g i m k
      outer_then {w} {new_root} rot =
          let o = x_open in
          let grand : Frame = frame i m.color g m.uncle in
          let st = rot k.base (grand ∷ k.frames) (turn Red m.sibling Red o.0 x o.1) k.pieces refl bent_ready in (
            q,
            o.1,
            branch i Red m.sibling q o.0,
            record {
              red = record {
                stands = go_down n i Red x o.1 (branch i Red m.sibling q o.0) st;
                top_is = top_branch i Red m.sibling q o.0;
                nearly = inner_rotated k.frames i q m.sibling grand o.0 x o.1
                    (subst (λ (y : Tree). IsNearlyRight (frame (across i) Red q m.sibling ∷ grand ∷ k.frames) y) o.2
                    (subst (λ (y : Side). IsNearlyRight (frame y Red q m.sibling ∷ grand ∷ k.frames) k.subtree) bent h.red.nearly));
                order = order_plug (grand ∷ k.frames) (branch i Red (branch i Red m.sibling q o.0) x o.1) (branch m.low Red k.subtree q m.sibling)
                    (sym (order_rotated i Red Red Red Red m.sibling q o.0 x o.1) ∙ sym (ap in_order turn_is)) ∙ h.red.order;
              };
            },
          )

  -- CASE 3, an outer grandchild: its parent `upper` is rotated above g. `upper` turns black, and g turns red
  module _ (v : Table E) (root : Option Place) (upper g : Place) (i j : Side) (ej : j ≡ across i) (m : RedPair) (k : Focus E)
      (h : ClimbState n k.base v root (above_pair upper g i (record m { low = i }) k.frames) k.subtree k.pieces) where
    grandparent_ready : ClimbState n k.base v root k.frames (branch (across i) m.color m.uncle g (branch (across i) Red m.sibling upper k.subtree)) k.pieces
    grandparent_ready =
        let low : Tree = branch i Red k.subtree upper m.sibling in
        subst (λ (z : Tree). ClimbState n k.base v root k.frames z k.pieces)
        (sym (branch_across i m.color low g m.uncle) ∙ ap (λ (z : Tree). branch (across i) m.color m.uncle g z) (sym (branch_across i Red k.subtree upper m.sibling))) (go_up n (go_up n h))

    pub rotates_grandparent : (w : Table E) (new_root : Option Place) → Rotates n v w root new_root g upper j Red Black
        → ClimbState n k.base w new_root k.frames (branch i Black k.subtree upper (branch i Red m.sibling g m.uncle)) k.pieces
    rotates_grandparent w new_root rot' =
        let rot : Rotates n v w root new_root g upper (across i) Red Black = subst (λ (z : Side). Rotates n v w root new_root g upper z Red Black) ej rot' in
        subst (λ (z : Tree). ClimbState n k.base w new_root k.frames z k.pieces)
        (branch_across i Black k.subtree upper (branch (across i) Red m.uncle g m.sibling) ∙ ap (λ (z : Tree). branch i Black k.subtree upper z) (branch_across i Red m.sibling g m.uncle))
        (rot k.base k.frames (turn m.color m.uncle Red m.sibling upper k.subtree) k.pieces refl grandparent_ready)

  -- after the rotation of the grandparent g in case 3, the tree is right
  pub fixed_here : {v w : Table E} {root new_root : Option Place} (upper g : Place) (i : Side) (m : RedPair) (k : Focus E)
      → HasOuterGrandchild n v root upper g i m k → is_red (top_color m.uncle) ≡ false
      → (j : Side) → j ≡ across i → Rotates n v w root new_root g upper j Red Black → IsRestoredWith n w new_root k (through k.frames (1 + blacks m.uncle))
  fixed_here {v} {w} {root} {new_root} upper g i m k (x, b, t, h) black j ej rotated =
      let all : Tree = branch i Black t upper (branch i Red b g m.uncle) in
      let right : IsRight (plug k.frames all) = restored k.frames i upper b m.color g m.uncle t h.red.nearly (black_is (top_color m.uncle) black) in (
        record {
          tree = plug k.frames all;
          stands = go_top n (rotates_grandparent v root upper g i j ej (record m { sibling = b }) (record k { subtree = t }) h.red.stands w new_root rotated);
          order = order_plug k.frames all (branch i m.color (branch i Red t upper b) g m.uncle) (order_rotated i Black Red Red m.color t upper b g m.uncle) ∙ h.red.order;
          shape = right;
        },
        restored_blacks k.frames i upper b m.color g m.uncle t h.red.nearly (shape_open k.frames all right).3,
      )

  -- after case 3, each path down has as many black members as a path of the tree with the red pair had
  pub fixed_pair : {v w : Table E} {root new_root : Option Place} {x q g : Place} {i : Side} {m : RedPair} {k : Focus E} → PairAt n v root x q g i m k
      → IsRestoredWith n w new_root k (through k.frames (1 + blacks m.uncle)) → IsRestoredWith n w new_root k (blacks (plug (above_pair q g i m k.frames) k.subtree))
  fixed_pair {q = q} {g} {i} {m} {k} h (r, same) = (r, same ∙ sym (pair_blacks k.frames m.low q m.sibling i m.color g m.uncle k.subtree h.red.nearly))

  -- THE WRITES of the recoloring in case 1: q and y turn black, and g turns red unless it is the root
  pub recolors : (v v1 v2 w : Table E) (q y g : Place) (x : Color) → x ≡ color_below (n (v.entry g)).parent
      → n (v1.entry q) ≡ record (n (v.entry q)) { color = Black } → ChangesOnly v v1 q
      → n (v2.entry y) ≡ record (n (v1.entry y)) { color = Black } → ChangesOnly v1 v2 y
      → n (w.entry g) ≡ record (n (v2.entry g)) { color = x } → ChangesOnly v2 w g → Recolors n v w q y g
  recolors v v1 v2 w q y g x ex set1 only1 set2 only2 set3 only3 root i m k is h = at m.uncle is h where
    at : (u : Tree) → top u ≡ Some y → ClimbState n k.base v root (above_pair q g i (record m { uncle = u }) k.frames) k.subtree k.pieces
        → ClimbState n k.base w root k.frames (branch i (wanted k.frames) (branch m.low Black k.subtree q m.sibling) g (blackened u)) k.pieces
    at leaf is h = absurd (none_not y is)
    at (fork z a p b) is h =
        let U : Tree = fork z a p b in
        let U' : Tree = fork Black a p b in
        let low : Tree = branch m.low Black k.subtree q m.sibling in
        let tint : x ≡ wanted k.frames = ex ∙ (ap color_below (side_up n v.entry i g m.color (Some q) (top U) (above k.frames) h.are.0.0.2.0) ∙ wanted_is k.frames) in
        let h1 = go_up n (painted_above n refl refl set1 only1 h) in
        let h2 = go_across n h1 in
        let h3 = painted_top n Left z a p b (some_same (sym is)) refl set2 only2 h2 in
        let h4 = go_up n h3 in
        let h5 = subst (λ (t : Tree). ClimbState n k.base v2 root k.frames t k.pieces) (branch_across i m.color low g U') h4 in
        painted_top n i m.color low g U' refl tint set3 only3 h5

  -- the result of a step, which is stated for the frames above g, also holds for the frames above x
  pub fixed_below : (w : Table E) (root : Option Place) (k : Focus E) (q g : Place) (i : Side) (m : RedPair) (fs : List Frame) (o : Option Place) → k.frames ≡ above_pair q g i m fs
      → IsFixedOrHigher n w root (record k { frames = fs }) (length fs + 2) (blacks (plug (above_pair q g i m fs) k.subtree)) o
      → IsFixedOrHigher n w root k (length k.frames) (blacks (plug k.frames k.subtree)) o
  fixed_below w root k q g i m fs None e (h, same) = (h, same ∙ ap (λ (gs : List Frame). blacks (plug gs k.subtree)) (sym e))
  fixed_below w root k q g i m fs (Some y) e (gs, t, red, fewer, same) = (
    gs,
    t,
    red,
    omega (arith, ap length e, fewer),
    same ∙ ap (λ (hs : List Frame). blacks (plug hs k.subtree) + weight (wanted gs)) (sym e),
  )

  module _ {v : Table E} {root : Option Place} {x : Place} {k : Focus E} {q : Place} (y : Pair v root x k q) (o : Option Place) (g : Place)
      (eo : o ≡ (n (v.entry q)).parent) (is : o ≡ Some g) where
    grand_there : y.g ≡ g
    grand_there = some_same (sym (grand_is y.at) ∙ (sym eo ∙ is))

    pub grand_same : PairAt n v root x q g y.side y.around (record k { frames = y.fs })
    grand_same = subst (λ (z : Place). PairAt n v root x q z y.side y.around (record k { frames = y.fs })) grand_there y.at

    pub grand_frames : k.frames ≡ above_pair q g y.side y.around y.fs
    grand_frames = y.frames_are ∙ ap (λ (z : Place). above_pair q z y.side y.around y.fs) grand_there
