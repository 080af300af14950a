-- The next member z takes the position of a member p with two children. The paths through the old position of z may have one black member too few.
use Rattle.std.proofs.Common.{◌≡◌, ℕ, ◌+◌, ◌≤◌, suc, Option, Some, List, [], ◌∷◌, ◌++◌, length, refl, sym, ap, ◌∙◌, subst, arith, append_assoc}
use Rattle.std.proofs.lemmas.List.{append_cancel_right}
use Rattle.ic_link_ops.specs.Prelude.{Place, last, Table, Tree, in_order, weight, Node, one_at, times_around}
use Rattle.ic_link_ops.specs.declared.color.Color.{Color}
use Rattle.ic_link_ops.specs.declared.side.Side.{Side}
use Rattle.ic_link_ops.specs.declared.side.Side.TheVariants.{Left, Right}
use Rattle.ic_link_ops.specs.Frames.{Frame, frame, branch, plug, above, before, after}
use Rattle.ic_link_ops.proofs.Prelude.{none_not, some_same, last_of_push, one_at_self}
use Rattle.ic_link_ops.proofs.Frames.{in_order_parts}
use Rattle.ic_rbtree.specs.Prelude.{Piece, loose, ClimbState, color_above, EvenAround, PairsAround, IsOn, Short, TakesPlace}
use Rattle.ic_rbtree.proofs.Zipper.{go_up, go_down}

-- THE FRAMES of the next member: the frames below the right child of p, then the frame of p, and then the frames above p
pub record PathTo (gs : List Frame) (front : List Place) (p : Place) : Type 0 where
  pub low : List Frame
  pub c : Color
  pub a : Tree
  pub high : List Frame
  pub is : gs ≡ low ++ frame Right c p a ∷ high
  pub start : (q : Place) → before (low ++ frame Right c q a ∷ high) ≡ front ++ q ∷ []

pub way : (gs : List Frame) (front : List Place) (p : Place) → before gs ≡ front ++ p ∷ [] → PathTo gs front p
way [] front p e = absurd (none_not p (ap last e ∙ last_of_push front p))
way (frame Left c q b ∷ gs) front p e =
    let r = way gs front p e in
    record { low = frame Left c q b ∷ r.low; c = r.c; a = r.a; high = r.high; is = ap (λ (x : List Frame). frame Left c q b ∷ x) r.is; start = r.start }
way (frame Right c q b ∷ gs) front p e =
    let all : List Place = before gs ++ in_order b in
    let glue : (x : Place) → before gs ++ (in_order b ++ x ∷ []) ≡ all ++ x ∷ [] = λ x. sym (append_assoc (before gs) (in_order b) (x ∷ [])) in
    let there : all ++ q ∷ [] ≡ front ++ p ∷ [] = sym (glue q) ∙ e in
    let same : q ≡ p = some_same (sym (last_of_push all q) ∙ (ap last there ∙ last_of_push front p)) in
    let is : all ≡ front = append_cancel_right all front (p ∷ []) (subst (λ (x : Place). all ++ x ∷ [] ≡ front ++ p ∷ []) same there) in
    record { low = []; c = c; a = b; high = gs; is = ap (λ (x : Place). frame Right c x b ∷ gs) same; start = λ x. glue x ∙ ap (λ (s : List Place). s ++ x ∷ []) is }

-- a list of frames before and after the place z replaces the member p in one of them
module _ (fs : List Frame) (c : Color) (p z : Place) (a : Tree) where
  abbrev old : List Frame → List Frame
  old hs = hs ++ frame Right c p a ∷ fs

  abbrev new : List Frame → List Frame
  new hs = hs ++ frame Right c z a ∷ fs

  after_same : (hs : List Frame) → after (new hs) ≡ after (old hs)
  after_same [] = refl
  after_same (frame Left k r b ∷ hs) = ap (λ (s : List Place). r ∷ (in_order b ++ s)) (after_same hs)
  after_same (frame Right k r b ∷ hs) = after_same hs

  color_same : (hs : List Frame) → color_above (new hs) ≡ color_above (old hs)
  color_same [] = refl
  color_same (frame d k r b ∷ hs) = refl

  pairs_same : (hs : List Frame) → PairsAround (old hs) → PairsAround (new hs)
  pairs_same [] h = h
  pairs_same (frame d k r b ∷ hs) h = (h.0, λ e. h.1 (sym (color_same hs) ∙ e), h.2, pairs_same hs h.3)

  even_same : (hs : List Frame) (n : ℕ) → EvenAround (old hs) n → EvenAround (new hs) n
  even_same [] n h = h
  even_same (frame d k r b ∷ hs) n h = (h.0, h.1, even_same hs (weight k + n) h.2)

  on_same : (d : Side) (hs : List Frame) → IsOn d (old hs) → IsOn d (new hs)
  on_same d [] h = h
  on_same d (frame k i r b ∷ hs) h = h

  pub length_same : (hs : List Frame) → length (new hs) ≡ length (old hs)
  length_same [] = refl
  length_same (frame d k r b ∷ hs) = ap suc (length_same hs)

  there : (hs : List Frame) → 1 ≤ times_around p (old hs)
  there [] = omega (arith, one_at_self p)
  there (frame d k r b ∷ hs) = omega (arith, there hs)

  above_new : (hs : List Frame) {up up' : Option Place} → up ≡ above (old hs) → times_around p (old hs) ≤ 1 → (up ≡ Some p → up' ≡ Some z) → ((up ≡ Some p → ⊥) → up' ≡ up) → up' ≡ above (new hs)
  above_new [] e once moved kept = moved e
  above_new (frame d k r b ∷ hs) {up} {up'} e once moved kept = kept other ∙ e where
    other : up ≡ Some p → ⊥
    other s =
        let one : one_at p r ≡ 1 = subst (λ (x : Place). one_at p x ≡ 1) (some_same (sym s ∙ e)) (one_at_self p) in
        absurd (omega (arith, one, there hs, once))

module _ {E : Type 0} (n : E → Node) where
  go_over : {base v : Table E} {root : Option Place} (hs fs : List Frame) (t : Tree) {ps : List Piece} → ClimbState n base v root (hs ++ fs) t ps → ClimbState n base v root fs (plug hs t) ps
  go_over [] fs t h = h
  go_over (frame d c p b ∷ hs) fs t h = go_over hs fs (branch d c t p b) (go_up n h)

  go_back : {base v : Table E} {root : Option Place} (hs fs : List Frame) (t : Tree) {ps : List Piece} → ClimbState n base v root fs (plug hs t) ps → ClimbState n base v root (hs ++ fs) t ps
  go_back [] fs t h = h
  go_back (frame d c p b ∷ hs) fs t h = go_down n d c p b t (go_back hs fs (branch d c t p b) h)

  -- A SHORT SUBTREE STAYS at its position. If its parent was p, its parent is z after z has taken the position of p
  pub short_placed : {base w u : Table E} {root new_root up up' : Option Place} {d : Side} {s : List Place} (gs : List Frame) (front : List Place) (p z : Place) (m : Tree) {ps : List Piece}
      → (k : PathTo gs front p) → Short n w root up d (record { base = base; sequence = s; frames = gs; subtree = m; pieces = loose z ∷ ps }) → TakesPlace n w u root new_root p z
      → (up ≡ Some p → up' ≡ Some z) → ((up ≡ Some p → ⊥) → up' ≡ up)
      → Short n u new_root up' d (record { base = base; sequence = front ++ z ∷ (in_order m ++ after gs); frames = k.low ++ frame Right k.c z k.a ∷ k.high; subtree = m; pieces = loose p ∷ ps })
  short_placed {base} {w} {u} {root} {new_root} {up} {up'} {d} {s} gs front p z m {ps} k h swapped moved kept =
      let record { low = low; c = c; a = a; high = high; is = _; start = _ } = k in
      let was : List Frame = low ++ frame Right c p a ∷ high in
      let now : List Frame = low ++ frame Right c z a ∷ high in
      let x : Short n w root up d (record { base = base; sequence = s; frames = was; subtree = m; pieces = loose z ∷ ps }) =
      subst (λ (fs : List Frame). Short n w root up d (record { base = base; sequence = s; frames = fs; subtree = m; pieces = loose z ∷ ps })) k.is h in
      let old_tree : ClimbState n base w root high (branch Right c (plug low m) p a) (loose z ∷ ps) = go_up n (go_over low (frame Right c p a ∷ high) m x.stands) in
      let new_tree : ClimbState n base u new_root high (branch Right c (plug low m) z a) (loose p ∷ ps) = swapped base high (record { color = c; left = a; right = plug low m }) ps old_tree in
      let rest : after now ≡ after gs = after_same high c p z a low ∙ ap after (sym k.is) in
      record {
        stands = go_back low (frame Right c z a ∷ high) m (go_down n Right c z a (plug low m) new_tree);
        parent_is = above_new high c p z a low x.parent_is (omega (arith, x.stands.once p)) moved kept;
        side_is = on_same high c p z a d low x.side_is;
        short = record {
          black = x.short.black;
          pairs = x.short.pairs;
          even = x.short.even;
          pairs_around = pairs_same high c p z a low x.short.pairs_around;
          even_around = even_same high c p z a low _ x.short.even_around;
        };
        order = in_order_parts now m
            ∙ (ap (λ (t : List Place). t ++ (in_order m ++ after now)) (k.start z)
            ∙ (append_assoc front (z ∷ []) (in_order m ++ after now)
            ∙ ap (λ (t : List Place). front ++ z ∷ (in_order m ++ t)) rest));
      }
