-- Lemmas about the cases of a repair after a removal, as statements about trees alone: which subtree is one black member short before each case and after
-- it.
use Rattle.std.proofs.Common.{◌≡◌, ℕ, suc, ◌+◌, List, [], ◌∷◌, refl, sym, ap, ◌∙◌, subst, arith}
use Rattle.ic_link_ops.specs.Prelude.{Place, Tree, leaf, fork, top_color, weight, blacks, IsEven, NoRedPair, IsRight}
use Rattle.ic_link_ops.specs.declared.color.Color.{Color}
use Rattle.ic_link_ops.specs.declared.color.Color.TheVariants.{Red, Black}
use Rattle.ic_link_ops.specs.declared.side.Side.{Side}
use Rattle.ic_link_ops.specs.Frames.{Frame, frame, branch, plug}
use Rattle.ic_rbtree.specs.Shortage.{color_above, EvenAround, PairsAround, IsShort}
use Rattle.ic_rbtree.proofs.InsertionShapes.{top_color_branch, blacks_branch, even_branch, pairs_branch, of_pairs, of_even, right_plug, not_red, red_not_black}

-- a tree with a black member on each of its paths is not empty
pub not_leaf : (t : Tree) (n : ℕ) → blacks t ≡ suc n → t ≡ leaf → ⊥
not_leaf leaf n e h = omega arith
not_leaf (fork c a p b) n e h = cc

pub short_root : (t : Tree) → IsShort [] t → IsRight t
short_root t s = record { black_root = s.black; no_red_pair = s.pairs; even = s.even }

-- CASE 1: the sibling is red. It is rotated above its parent q, and then the short subtree has a black sibling
pub short_lowered : (fs : List Frame) (d : Side) (c : Color) (q : Place) (a : Tree) (w : Place) (b t : Tree) →
    IsShort (frame d c q (branch d Red a w b) ∷ fs) t →
    IsShort (frame d Red q a ∷ frame d Black w b ∷ fs) t × (top_color a ≡ Black)
short_lowered fs d c q a w b t s =
    let pa = s.pairs_around in
    let ea = s.even_around in
    let wp = of_pairs d Red a w b pa.2 in
    let we = of_even d Red a w b ea.1 in
    let black : c ≡ Black = not_red c (λ r. sym (top_color_branch d Red a w b) ∙ pa.0 r) in
    let heavy : weight c ≡ 1 = ap weight black in
    let same : blacks (branch d Red a w b) ≡ 0 + blacks a = blacks_branch d Red a w b we.0 in
    let e : weight c + (1 + blacks t) ≡ weight Black + (weight Red + (1 + blacks t)) = omega (arith, heavy) in (
      record {
        black = s.black;
        pairs = s.pairs;
        even = s.even;
        pairs_around = (λ r. (wp.0 refl).0, λ r. red_not_black r, wp.1, (red_not_black, λ r. refl, wp.2, pa.3));
        even_around = (omega (arith, same, ea.0), we.1, (omega (arith, same, we.0, ea.0), we.2, subst (λ (k : ℕ). EvenAround fs k) e ea.2));
      },
      (wp.0 refl).0,
    )

-- CASE 2: the sibling and its children are black. The sibling turns red, and the subtree with the root q is one black member short
module _ (fs : List Frame) (d : Side) (q : Place) (a : Tree) (w : Place) (b t : Tree) where
  pub short_up : IsShort (frame d Black q (branch d Black a w b) ∷ fs) t → top_color a ≡ Black → top_color b ≡ Black →
      IsShort fs (branch d Black t q (branch d Red a w b))
  short_up s ha hb =
      let pa = s.pairs_around in
      let ea = s.even_around in
      let wp = of_pairs d Black a w b pa.2 in
      let we = of_even d Black a w b ea.1 in
      let same : blacks (branch d Black a w b) ≡ 1 + blacks a = blacks_branch d Black a w b we.0 in
      let new : blacks (branch d Red a w b) ≡ 0 + blacks a = blacks_branch d Red a w b we.0 in
      let level : blacks t ≡ blacks (branch d Red a w b) = omega (arith, same, new, ea.0) in
      let all : blacks (branch d Black t q (branch d Red a w b)) ≡ 1 + blacks t = blacks_branch d Black t q (branch d Red a w b) level in
      let e : weight Black + (1 + blacks t) ≡ 1 + blacks (branch d Black t q (branch d Red a w b)) = omega (arith, all) in
      record {
        black = top_color_branch d Black t q (branch d Red a w b);
        pairs = pairs_branch d Black t q (branch d Red a w b) red_not_black red_not_black s.pairs (pairs_branch d Red a w b (λ r. ha) (λ r. hb) wp.1 wp.2);
        even = even_branch d Black t q (branch d Red a w b) level s.even (even_branch d Red a w b we.0 we.1 we.2);
        pairs_around = pa.3;
        even_around = subst (λ (k : ℕ). EvenAround fs k) e ea.2;
      }

  -- if the parent q is red in case 2, it turns black, and the tree is right
  pub short_ends : IsShort (frame d Red q (branch d Black a w b) ∷ fs) t → top_color a ≡ Black → top_color b ≡ Black →
      IsRight (plug fs (branch d Black t q (branch d Red a w b)))
  short_ends s ha hb =
      let pa = s.pairs_around in
      let ea = s.even_around in
      let wp = of_pairs d Black a w b pa.2 in
      let we = of_even d Black a w b ea.1 in
      let same : blacks (branch d Black a w b) ≡ 1 + blacks a = blacks_branch d Black a w b we.0 in
      let new : blacks (branch d Red a w b) ≡ 0 + blacks a = blacks_branch d Red a w b we.0 in
      let level : blacks t ≡ blacks (branch d Red a w b) = omega (arith, same, new, ea.0) in
      let all : blacks (branch d Black t q (branch d Red a w b)) ≡ 1 + blacks t = blacks_branch d Black t q (branch d Red a w b) level in
      let e : weight Red + (1 + blacks t) ≡ blacks (branch d Black t q (branch d Red a w b)) = omega (arith, all) in
      right_plug fs (branch d Black t q (branch d Red a w b))
      (pairs_branch d Black t q (branch d Red a w b) red_not_black red_not_black s.pairs (pairs_branch d Red a w b (λ r. ha) (λ r. hb) wp.1 wp.2))
      (even_branch d Black t q (branch d Red a w b) level s.even (even_branch d Red a w b we.0 we.1 we.2))
      pa.3 (subst (λ (k : ℕ). EvenAround fs k) e ea.2) (λ r. top_color_branch d Black t q (branch d Red a w b))

-- CASE 3: the sibling is black, its near child red and its far child black. The near child is rotated above the sibling
pub short_turned : (fs : List Frame) (d : Side) (c : Color) (q : Place) (m : Tree) (z : Place) (n : Tree) (w : Place) (b t : Tree) →
    IsShort (frame d c q (branch d Black (branch d Red m z n) w b) ∷ fs) t → top_color b ≡ Black →
    IsShort (frame d c q (branch d Black m z (branch d Red n w b)) ∷ fs) t
short_turned fs d c q m z n w b t s hb =
    let pa = s.pairs_around in
    let ea = s.even_around in
    let wp = of_pairs d Black (branch d Red m z n) w b pa.2 in
    let we = of_even d Black (branch d Red m z n) w b ea.1 in
    let zp = of_pairs d Red m z n wp.1 in
    let ze = of_even d Red m z n we.1 in
    let zs : blacks (branch d Red m z n) ≡ 0 + blacks m = blacks_branch d Red m z n ze.0 in
    let ws : blacks (branch d Black (branch d Red m z n) w b) ≡ 1 + blacks (branch d Red m z n) = blacks_branch d Black (branch d Red m z n) w b we.0 in
    let low : blacks n ≡ blacks b = omega (arith, zs, ze.0, we.0) in
    let lows : blacks (branch d Red n w b) ≡ 0 + blacks n = blacks_branch d Red n w b low in
    let level : blacks m ≡ blacks (branch d Red n w b) = omega (arith, lows, ze.0) in
    let all : blacks (branch d Black m z (branch d Red n w b)) ≡ 1 + blacks m = blacks_branch d Black m z (branch d Red n w b) level in
    record {
      black = s.black;
      pairs = s.pairs;
      even = s.even;
      pairs_around = (
        λ r. top_color_branch d Black m z (branch d Red n w b),
        pa.1,
        pairs_branch d Black m z (branch d Red n w b) red_not_black red_not_black zp.1 (pairs_branch d Red n w b (λ r. (zp.0 refl).1) (λ r. hb) zp.2 wp.2),
        pa.3,
      );
      even_around = (omega (arith, all, ws, zs, ea.0), even_branch d Black m z (branch d Red n w b) level ze.1 (even_branch d Red n w b low ze.2 we.2), ea.2);
    }

-- CASE 4: the sibling is black and its far child red. The sibling is rotated above q and gets the color of q, and the tree is right
pub short_restored : (fs : List Frame) (d : Side) (c : Color) (q : Place) (a : Tree) (w : Place) (k : Side) (m : Tree) (f : Place) (n t : Tree) →
    IsShort (frame d c q (branch d Black a w (branch k Red m f n)) ∷ fs) t →
    IsRight (plug fs (branch d c (branch d Black t q a) w (branch k Black m f n)))
short_restored fs d c q a w k m f n t s =
    let pa = s.pairs_around in
    let ea = s.even_around in
    let wp = of_pairs d Black a w (branch k Red m f n) pa.2 in
    let we = of_even d Black a w (branch k Red m f n) ea.1 in
    let fp = of_pairs k Red m f n wp.2 in
    let fe = of_even k Red m f n we.2 in
    let ws : blacks (branch d Black a w (branch k Red m f n)) ≡ 1 + blacks a = blacks_branch d Black a w (branch k Red m f n) we.0 in
    let fs1 : blacks (branch k Red m f n) ≡ 0 + blacks m = blacks_branch k Red m f n fe.0 in
    let fs2 : blacks (branch k Black m f n) ≡ 1 + blacks m = blacks_branch k Black m f n fe.0 in
    let level : blacks t ≡ blacks a = omega (arith, ws, ea.0) in
    let qs : blacks (branch d Black t q a) ≡ 1 + blacks t = blacks_branch d Black t q a level in
    let high : blacks (branch d Black t q a) ≡ blacks (branch k Black m f n) = omega (arith, qs, fs1, fs2, level, we.0) in
    let all : blacks (branch d c (branch d Black t q a) w (branch k Black m f n)) ≡ weight c + blacks (branch d Black t q a) = blacks_branch d c (branch d Black t q a) w (branch k Black m f n) high in
    let e : weight c + (1 + blacks t) ≡ blacks (branch d c (branch d Black t q a) w (branch k Black m f n)) = omega (arith, all, qs) in
    right_plug fs (branch d c (branch d Black t q a) w (branch k Black m f n))
    (pairs_branch d c (branch d Black t q a) w (branch k Black m f n) (λ r. top_color_branch d Black t q a) (λ r. top_color_branch k Black m f n)
    (pairs_branch d Black t q a red_not_black red_not_black s.pairs wp.1) (pairs_branch k Black m f n red_not_black red_not_black fp.1 fp.2))
    (even_branch d c (branch d Black t q a) w (branch k Black m f n) high (even_branch d Black t q a level s.even we.1) (even_branch k Black m f n fe.0 fe.1 fe.2))
    pa.3 (subst (λ (k : ℕ). EvenAround fs k) e ea.2) (λ r. top_color_branch d c (branch d Black t q a) w (branch k Black m f n) ∙ pa.1 r)

-- A TREE OF THE RIGHT SHAPE is opened at one of its subtrees t: both t and the frames above t have right colors
pub shape_open : (fs : List Frame) (t : Tree) → IsRight (plug fs t)
    → NoRedPair t × IsEven t × PairsAround fs × EvenAround fs (blacks t) × (color_above fs ≡ Red → top_color t ≡ Black)
shape_open [] t r = (r.no_red_pair, r.even, tt, tt, λ e. r.black_root)
shape_open (frame d c p b ∷ fs) t r =
    let o = shape_open fs (branch d c t p b) r in
    let pairs = of_pairs d c t p b o.0 in
    let even = of_even d c t p b o.1 in
    let same : blacks (branch d c t p b) ≡ weight c + blacks t = blacks_branch d c t p b even.0 in (
      pairs.1,
      even.1,
      (λ e. (pairs.0 e).1, λ e. sym (top_color_branch d c t p b) ∙ o.4 e, pairs.2, o.2),
      (sym even.0, even.2, subst (λ (k : ℕ). EvenAround fs k) same o.3),
      λ e. (pairs.0 e).0,
    )
