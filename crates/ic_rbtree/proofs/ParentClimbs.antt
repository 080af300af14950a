-- Lemmas about a climb along the parents, and about the steps of the repair after a removal, which climbs along the parents.
use Rattle.std.proofs.Common.{◌≡◌, ℕ, suc, zero, ◌+◌, ◌-◌, ◌≤◌, Bool, true, false, Option, Some, None, List, [], ◌∷◌, length, refl, sym, ap, ◌∙◌, subst, arith, length-append}
use Rattle.ic_link_ops.specs.Prelude.{Place, Table, IsCovered, Tree, leaf, fork, top, in_order, Node, Holds}
use Rattle.ic_link_ops.specs.declared.color.Color.{Color}
use Rattle.ic_link_ops.specs.declared.side.Side.{Side}
use Rattle.ic_link_ops.specs.declared.side.Side.TheVariants.{Left, Right}
use Rattle.ic_link_ops.specs.Frames.{Frame, frame, branch, plug, above, IsAround}
use Rattle.ic_link_ops.proofs.Prelude.{none_not, some_same, times_order, times_distinct, holds_length}
use Rattle.ic_link_ops.proofs.Trees.{top_parent}
use Rattle.ic_rbtree.specs.Climb.{steps_up, depth}
use Rattle.ic_rbtree.specs.Prelude.{Piece, ClimbState, IsSideOf}
use Rattle.ic_rbtree.specs.Focus.{Focus, IsRestored}
use Rattle.ic_rbtree.specs.Removal.{IsOn, Short, ShortAt, Rises, FixesDeletionStep}
use Rattle.ic_rbtree.proofs.Branches.{side_near, side_far, side_up}
use Rattle.ic_rbtree.proofs.Rotations.{times_top}
use Rattle.ic_rbtree.proofs.Zipper.{go_top}
use Rattle.ic_rbtree.proofs.RemovalShapes.{short_root}

length_branch : (d : Side) (c : Color) (a : Tree) (p : Place) (b : Tree) → length (in_order (branch d c a p b)) ≡ suc (length (in_order a) + length (in_order b))
length_branch Left c a p b = omega (arith, length-append (in_order a) (p ∷ in_order b))
length_branch Right c a p b = omega (arith, length-append (in_order b) (p ∷ in_order a))

-- the number of frames above a subtree and the number of its members are together at most the number of all members
pub length_frames : (fs : List Frame) (t : Tree) → length fs + length (in_order t) ≤ length (in_order (plug fs t))
length_frames [] t = omega arith
length_frames (frame d c p b ∷ fs) t = omega (arith, length_frames fs (branch d c t p b), length_branch d c t p b)

module _ {E : Type 0} (n : E → Node) where
  above_steps : (v : Table E) (fs : List Frame) (o : Option Place) (k : ℕ) → IsAround n v.entry fs o → length fs ≤ k
      → steps_up k (λ q. (n (v.entry q)).parent) (above fs) ≡ length fs
  unfolding steps_up
  above_steps v [] o zero h fits = refl
  above_steps v [] o (suc k) h fits = refl
  above_steps v (frame d c p b ∷ fs) o zero h fits = absurd (omega arith)
  above_steps v (frame d c p b ∷ fs) o (suc k) h fits =
      ap suc (ap (λ (x : Option Place). steps_up k (λ q. (n (v.entry q)).parent) x) (side_up n v.entry d p c o (top b) (above fs) h.0)
      ∙ above_steps v fs (Some p) k h.2 (omega arith))

  pub stands_holds : {base v : Table E} (root : Option Place) (t : Tree) (ps : List Piece) → ClimbState n base v root [] t ps → Holds n v t (in_order t)
  stands_holds root t ps h = record {
    order = refl;
    distinct = times_distinct (in_order t) (λ q. omega (arith, h.once q, times_order q t));
    entries = h.are.1.0;
  }

  some_steps : (v : Table E) (k : ℕ) (p : Place) → 1 ≤ k → steps_up k (λ q. (n (v.entry q)).parent) (Some p) ≡ suc (steps_up (k - 1) (λ q. (n (v.entry q)).parent) ((n (v.entry p)).parent))
  unfolding steps_up
  some_steps v zero p h = absurd (omega arith)
  some_steps v (suc k) p h = let e : k ≡ suc k - 1 = omega arith in ap suc (ap (λ (m : ℕ). steps_up m (λ q. (n (v.entry q)).parent) ((n (v.entry p)).parent)) e)

  top_length : (t : Tree) (p : Place) → top t ≡ Some p → 1 ≤ length (in_order t)
  top_length leaf p e = absurd (none_not p e)
  top_length (fork c a q b) p e = omega (arith, length-append (in_order a) (q ∷ in_order b))

  -- the depth of a member p is one more than the number of frames above p, and is at most the number of places
  pub depth_top : {base v : Table E} (law : (q : Place) → (n (v.entry q)).linked ≡ true → IsCovered v q) (root : Option Place) (fs : List Frame) (t : Tree) (ps : List Piece) (p : Place)
      → ClimbState n base v root fs t ps → top t ≡ Some p → (depth n v (Some p) ≡ suc (length fs)) × (suc (length fs) ≤ v.extent.places)
  depth_top {base} {v} law root fs t ps p h e =
      let few : length (in_order (plug fs t)) ≤ v.extent.places = holds_length v law (stands_holds root (plug fs t) ps (go_top n h)) in
      let fits : suc (length fs) ≤ v.extent.places = omega (arith, length_frames fs t, top_length t p e) in
      let up : (n (v.entry p)).parent ≡ above fs = top_parent n v.entry (above fs) t p h.are.1.0 e in
      let rest : steps_up (v.extent.places - 1) (λ q. (n (v.entry q)).parent) (above fs) ≡ length fs = above_steps v fs (top t) (v.extent.places - 1) h.are.0.0 (omega arith) in
      (some_steps v v.extent.places p (omega arith) ∙ ap suc (ap (λ (x : Option Place). steps_up (v.extent.places - 1) (λ q. (n (v.entry q)).parent) x) up ∙ rest), fits)

  -- if the table has the member q on side d of its parent p, the lowest frame is on side d
  pub side_found : (v : Table E) (base : Table E) (root : Option Place) (k : Side) (c : Color) (p : Place) (b : Tree) (fs : List Frame) (t : Tree) (ps : List Piece) (q : Place) (d : Side)
      → ClimbState n base v root (frame k c p b ∷ fs) t ps → top t ≡ Some q → IsSideOf n v q p d → d ≡ k
  side_found v base root Left c p b fs t ps q Left h e is = refl
  side_found v base root Right c p b fs t ps q Right h e is = refl
  side_found v base root Left c p b fs t ps q Right h e is = absurd (is (side_near n v.entry Left p c (top t) (top b) (above fs) h.are.0.0.0 ∙ e))
  side_found v base root Right c p b fs t ps q Left h e is =
      let m : top b ≡ Some q = sym (side_far n v.entry Right p c (top t) (top b) (above fs) h.are.0.0.0) ∙ is in
      absurd (omega (arith, h.once q, times_top q b m, times_top q t e))

  module _ {v : Table E} {root : Option Place} where
    -- THE LOOP'S INVARIANT below a member q: if `parent` is q, the lowest frame is a frame of q
    pub short_at : {d : Side} {parent : Option Place} (q : Place) (k : Focus E) → parent ≡ Some q → Short n v root parent d k
        → (c : Color) × (sibling : Tree) × (gs : List Frame) × ShortAt n v root q d c sibling (record k { frames = gs }) × (length k.frames ≡ suc (length gs))
    short_at {d} {parent} q k e h = at k.frames h where
      at : (fs : List Frame) → Short n v root parent d (record k { frames = fs })
          → (c : Color) × (sibling : Tree) × (gs : List Frame) × ShortAt n v root q d c sibling (record k { frames = gs }) × (length fs ≡ suc (length gs))
      at [] h = absurd (none_not q (sym h.parent_is ∙ e))
      at (frame i c p b ∷ fs) h =
          let here : ShortAt n v root p i c b (record k { frames = fs }) = record { stands = h.stands; short = h.short; order = h.order } in (
            c,
            b,
            fs,
            subst (λ (x : Place). ShortAt n v root x d c b (record k { frames = fs })) (some_same (sym h.parent_is ∙ e))
                (subst (λ (x : Side). ShortAt n v root p x c b (record k { frames = fs })) (sym h.side_is) here),
            refl,
          )

    -- if the short subtree has no parent, it is the whole tree, and the tree is right
    pub short_ended : {d : Side} {parent : Option Place} (k : Focus E) → parent ≡ None → Short n v root parent d k → IsRestored n v root k
    short_ended {d} {parent} k e h = at k.frames h where
      at : (fs : List Frame) → Short n v root parent d (record k { frames = fs }) → IsRestored n v root k
      at [] h = record { tree = k.subtree; stands = h.stands; order = h.order; shape = short_root k.subtree h.short }
      at (frame i c p b ∷ fs) h = absurd (none_not p (sym e ∙ h.parent_is))

    -- the loop goes one member up: the subtree with the root q is short, and the parent o of q is the member of the lowest frame
    module _ {q : Place} {k : Focus E} (h : Rises n v root q k) (o : Option Place) (eo : o ≡ (n (v.entry q)).parent) where
      pub rises_parent : o ≡ above k.frames
      rises_parent = eo ∙ top_parent n v.entry (above k.frames) k.subtree q h.stands.are.1.0 h.top_is

      pub rises_on : (d : Side) → ((p : Place) → o ≡ Some p → IsSideOf n v q p d) → Short n v root o d k
      rises_on d side = record {
        stands = h.stands;
        parent_is = rises_parent;
        side_is = on k.frames (λ p e. side p (rises_parent ∙ e)) h.stands;
        short = h.short;
        order = h.order;
      } where
        on : (gs : List Frame) → ((p : Place) → above gs ≡ Some p → IsSideOf n v q p d) → ClimbState n k.base v root gs k.subtree k.pieces → IsOn d gs
        on [] tell st = tt
        on (frame i c p b ∷ gs) tell st = side_found v k.base root i c p b gs k.subtree k.pieces q d st h.top_is (tell p refl)

  -- ONE TURN OF THE LOOP: the subtree at q is short after the step, and the loop goes on at the parent of q
  module _ {v w : Table E} {root new_root : Option Place} {d : Side} {parent : Option Place} (q : Place) (is : parent ≡ Some q) (done : Bool) (step : FixesDeletionStep n v w root new_root q d done) (no : done ≡ false) where
    rise : (k : Focus E) → Short n v root parent d k
        → (gs : List Frame) × (u : Tree) × Rises n w new_root q (record k { frames = gs; subtree = u }) × (length k.frames ≡ suc (length gs))
    rise k h =
        let a = short_at q k is h in
        let r = (step a.0 a.1 (record k { frames = a.2 }) a.3).1 no in (a.2, r.0, r.1, a.4)

    module _ {o : Option Place} (eo : o ≡ (n (w.entry q)).parent) where
      module _ (i : Side) (tells : (p : Place) → o ≡ Some p → IsSideOf n w q p i) where
        pub next_each : (k : Focus E) → Short n v root parent d k → (gs : List Frame) × (u : Tree) × Short n w new_root o i (record k { frames = gs; subtree = u }) × (length k.frames ≡ suc (length gs))
        next_each k h = let r = rise k h in (r.0, r.1, rises_on r.2 o eo i tells, r.3)
