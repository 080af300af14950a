-- Lemmas about the cases of a repair after an insert, as statements about trees alone, without a table.
use Rattle.std.proofs.Common.{◌≡◌, ℕ, ◌+◌, List, [], ◌∷◌, refl, sym, ap, ◌∙◌, subst, arith}
use Rattle.ic_link_ops.specs.Prelude.{Place, Tree, fork, top_color, weight, blacks, IsEven, NoRedPair, IsRight}
use Rattle.ic_link_ops.specs.declared.color.Color.{Color}
use Rattle.ic_link_ops.specs.declared.color.Color.TheVariants.{Red, Black}
use Rattle.ic_link_ops.specs.declared.side.Side.{Side}
use Rattle.ic_link_ops.specs.declared.side.Side.TheVariants.{Left, Right}
use Rattle.ic_link_ops.specs.Frames.{Frame, frame, branch, plug, across}
use Rattle.ic_rbtree.specs.Shortage.{color_above, EvenAround, PairsAround, wanted, IsNearlyRight}

pub top_color_branch : (d : Side) (c : Color) (a : Tree) (p : Place) (b : Tree) → top_color (branch d c a p b) ≡ c
top_color_branch Left c a p b = refl
top_color_branch Right c a p b = refl

pub blacks_branch : (d : Side) (c : Color) (a : Tree) (p : Place) (b : Tree) → blacks a ≡ blacks b → blacks (branch d c a p b) ≡ weight c + blacks a
blacks_branch Left c a p b e = refl
blacks_branch Right c a p b e = ap (λ n. weight c + n) (sym e)

pub even_branch : (d : Side) (c : Color) (a : Tree) (p : Place) (b : Tree) → blacks a ≡ blacks b → IsEven a → IsEven b → IsEven (branch d c a p b)
even_branch Left c a p b e ea eb = (e, ea, eb)
even_branch Right c a p b e ea eb = (sym e, eb, ea)

pub pairs_branch : (d : Side) (c : Color) (a : Tree) (p : Place) (b : Tree) → (c ≡ Red → top_color a ≡ Black) → (c ≡ Red → top_color b ≡ Black) → NoRedPair a → NoRedPair b → NoRedPair (branch d c a p b)
pairs_branch Left c a p b ha hb na nb = (λ r. (ha r, hb r), na, nb)
pairs_branch Right c a p b ha hb na nb = (λ r. (hb r, ha r), nb, na)

pub of_pairs : (d : Side) (c : Color) (a : Tree) (p : Place) (b : Tree) → NoRedPair (branch d c a p b) → (c ≡ Red → (top_color a ≡ Black) × (top_color b ≡ Black)) × NoRedPair a × NoRedPair b
of_pairs Left c a p b h = h
of_pairs Right c a p b h = (λ r. ((h.0 r).1, (h.0 r).0), h.2, h.1)

pub of_even : (d : Side) (c : Color) (a : Tree) (p : Place) (b : Tree) → IsEven (branch d c a p b) → (blacks a ≡ blacks b) × IsEven a × IsEven b
of_even Left c a p b h = h
of_even Right c a p b h = (sym h.0, h.2, h.1)

-- if the colors of the subtree t and of the frames above t are right, the whole tree has the right shape. Below a red member, and at the root, t must have
-- a black root
pub right_plug : (fs : List Frame) (t : Tree) → NoRedPair t → IsEven t → PairsAround fs → EvenAround fs (blacks t) → (color_above fs ≡ Red → top_color t ≡ Black) → IsRight (plug fs t)
right_plug [] t n e pa ea fits = record { black_root = fits refl; no_red_pair = n; even = e }
right_plug (frame d c p b ∷ fs) t n e pa ea fits =
    right_plug fs (branch d c t p b)
    (pairs_branch d c t p b fits pa.0 n pa.2)
    (even_branch d c t p b (sym ea.0) e ea.1)
    pa.3
    (subst (λ (k : ℕ). EvenAround fs k) (sym (blacks_branch d c t p b (sym ea.0))) ea.2)
    (λ r. top_color_branch d c t p b ∙ pa.1 r)

pub not_red : (c : Color) → (c ≡ Red → Red ≡ Black) → c ≡ Black
not_red Red h = h refl
not_red Black h = refl

pub red_not_black : {A : Type 0} → Black ≡ Red → A
red_not_black h = cc

-- if the frames fit a subtree with m black members on each path, and m equals n or there is no frame, they also fit a subtree with n black members on each path
pub even_wanted : (fs : List Frame) (m n : ℕ) → (wanted fs ≡ Red → m ≡ n) → EvenAround fs m → EvenAround fs n
even_wanted [] m n e h = tt
even_wanted (f ∷ fs) m n e h = subst (λ (k : ℕ). EvenAround (f ∷ fs) k) (e refl) h

-- CASE 1: both children of the grandparent g are red and turn black. g turns red unless it is the root
pub recolored : (fs : List Frame) (d : Side) (q : Place) (b : Tree) (k : Side) (c : Color) (g : Place) (ua : Tree) (u : Place) (ub : Tree) (t : Tree) →
    IsNearlyRight (frame d Red q b ∷ frame k c g (fork Red ua u ub) ∷ fs) t →
    IsNearlyRight fs (branch k (wanted fs) (branch d Black t q b) g (fork Black ua u ub))
recolored fs d q b k c g ua u ub t n =
    let pa = n.pairs_around in
    let ea = n.even_around in
    let black : c ≡ Black = not_red c pa.1 in
    let heavy : weight c ≡ 1 = ap weight black in
    let uncle : Tree = fork Black ua u ub in
    let low : Tree = branch d Black t q b in
    let low_even : blacks t ≡ blacks b = sym ea.0 in
    let low_blacks : blacks low ≡ 1 + blacks t = blacks_branch d Black t q b low_even in
    let same : blacks low ≡ blacks uncle = omega (arith, low_blacks, ea.2.0) in
    record {
      painted = top_color_branch k (wanted fs) low g uncle;
      pairs = pairs_branch k (wanted fs) low g uncle
          (λ r. top_color_branch d Black t q b) (λ r. refl)
          (pairs_branch d Black t q b red_not_black red_not_black n.pairs pa.2)
          (red_not_black, pa.3.2.1, pa.3.2.2);
      even = even_branch k (wanted fs) low g uncle same (even_branch d Black t q b low_even n.even ea.1) ea.2.1;
      pairs_around = pa.3.3;
      even_around = even_wanted fs (weight c + (0 + blacks t)) (blacks (branch k (wanted fs) low g uncle))
          (λ r. omega (arith, heavy, low_blacks, blacks_branch k (wanted fs) low g uncle same, ap weight r))
          ea.2.2;
    }

-- CASE 3: the uncle is black and the lower member of the red pair is an outer grandchild. The parent q of this member is rotated above the grandparent
pub restored : (fs : List Frame) (d : Side) (q : Place) (b : Tree) (c : Color) (g : Place) (u t : Tree) →
    IsNearlyRight (frame d Red q b ∷ frame d c g u ∷ fs) t → top_color u ≡ Black →
    IsRight (plug fs (branch d Black t q (branch d Red b g u)))
restored fs d q b c g u t n uncle =
    let pa = n.pairs_around in
    let ea = n.even_around in
    let heavy : weight c ≡ 1 = ap weight (not_red c pa.1) in
    let low : Tree = branch d Red b g u in
    let low_even : blacks b ≡ blacks u = omega (arith, ea.0, ea.2.0) in
    let low_blacks : blacks low ≡ 0 + blacks b = blacks_branch d Red b g u low_even in
    let same : blacks t ≡ blacks low = omega (arith, low_blacks, ea.0) in
    let all : blacks (branch d Black t q low) ≡ 1 + blacks t = blacks_branch d Black t q low same in
    right_plug fs (branch d Black t q low)
    (pairs_branch d Black t q low red_not_black red_not_black n.pairs (pairs_branch d Red b g u (λ r. pa.0 refl) (λ r. uncle) pa.2 pa.3.2))
    (even_branch d Black t q low same n.even (even_branch d Red b g u low_even ea.1 ea.2.1))
    pa.3.3
    (let e : weight c + (0 + blacks t) ≡ blacks (branch d Black t q low) = omega (arith, heavy, all) in subst (λ (k : ℕ). EvenAround fs k) e ea.2.2)
    (λ r. top_color_branch d Black t q low)

-- CASE 2: the lower member x of the red pair is an inner grandchild. A rotation makes x the parent of an outer grandchild
pub inner_rotated : (fs : List Frame) (d : Side) (q : Place) (b : Tree) (f : Frame) (ta : Tree) (x : Place) (tb : Tree) →
    IsNearlyRight (frame (across d) Red q b ∷ f ∷ fs) (branch d Red ta x tb) →
    IsNearlyRight (frame d Red x tb ∷ f ∷ fs) (branch d Red b q ta)
inner_rotated fs d q b f ta x tb n =
    let pa = n.pairs_around in
    let ea = n.even_around in
    let tp = of_pairs d Red ta x tb n.pairs in
    let te = of_even d Red ta x tb n.even in
    let all : blacks (branch d Red ta x tb) ≡ 0 + blacks ta = blacks_branch d Red ta x tb te.0 in
    let same : blacks b ≡ blacks ta = omega (arith, all, ea.0) in
    let new : blacks (branch d Red b q ta) ≡ 0 + blacks b = blacks_branch d Red b q ta same in
    let e : 0 + blacks (branch d Red ta x tb) ≡ 0 + blacks (branch d Red b q ta) = omega (arith, all, new, same) in
    record {
      painted = top_color_branch d Red b q ta;
      pairs = pairs_branch d Red b q ta (λ r. pa.0 refl) (λ r. (tp.0 refl).0) pa.2 tp.1;
      even = even_branch d Red b q ta same ea.1 te.1;
      pairs_around = (λ r. (tp.0 refl).1, pa.1, tp.2, pa.3);
      even_around = (omega (arith, all, new, same, te.0), te.2, subst (λ (k : ℕ). EvenAround (f ∷ fs) k) e ea.2);
    }

-- the number of black members on a path down through the frames and through a subtree that has the given number of them on each path
abbrev pub through : List Frame → ℕ → ℕ
through [] m = m
through (frame d c p b ∷ fs) m = through fs (weight c + m)

pub blacks_plug : (fs : List Frame) (t : Tree) → EvenAround fs (blacks t) → blacks (plug fs t) ≡ through fs (blacks t)
blacks_plug [] t e = refl
blacks_plug (frame d c p b ∷ fs) t e =
    let same : blacks (branch d c t p b) ≡ weight c + blacks t = blacks_branch d c t p b (sym e.0) in
    blacks_plug fs (branch d c t p b) (subst (λ (k : ℕ). EvenAround fs k) (sym same) e.2) ∙ ap (through fs) same

-- a black root of the whole tree adds one black member to each path, and the red root of a subtree below frames adds none
through_wanted : (fs : List Frame) (m : ℕ) → through fs (weight (wanted fs) + m) ≡ through fs m + weight (wanted fs)
through_wanted [] m = omega arith
through_wanted (f ∷ fs) m = let same : 0 + m ≡ m = omega arith in omega (arith, ap (through (f ∷ fs)) same)

module _ (fs : List Frame) (d : Side) (q : Place) (b : Tree) (k : Side) (c : Color) (g : Place) where
  -- the number of black members on each path of a tree with a red pair, counted by the path through the uncle
  pub pair_blacks : (u t : Tree) → IsNearlyRight (frame d Red q b ∷ frame k c g u ∷ fs) t → blacks (plug (frame d Red q b ∷ frame k c g u ∷ fs) t) ≡ through fs (1 + blacks u)
  pair_blacks u t n =
      let heavy : weight c ≡ 1 = ap weight (not_red c n.pairs_around.1) in
      let same : weight c + (0 + blacks t) ≡ 1 + blacks u = omega (arith, heavy, n.even_around.2.0) in
      blacks_plug (frame d Red q b ∷ frame k c g u ∷ fs) t n.even_around ∙ ap (through fs) same

  -- after the recoloring of case 1 each path has as many black members as before, and one more if the grandparent is the root
  pub recolored_blacks : (ua : Tree) (u : Place) (ub t : Tree) → IsNearlyRight (frame d Red q b ∷ frame k c g (fork Red ua u ub) ∷ fs) t →
      blacks (plug fs (branch k (wanted fs) (branch d Black t q b) g (fork Black ua u ub))) ≡ through fs (1 + blacks (fork Red ua u ub)) + weight (wanted fs)
  recolored_blacks ua u ub t n =
      let low : Tree = branch d Black t q b in
      let high : Tree = branch k (wanted fs) low g (fork Black ua u ub) in
      let low_blacks : blacks low ≡ 1 + blacks t = blacks_branch d Black t q b (sym n.even_around.0) in
      let same : blacks low ≡ blacks (fork Black ua u ub) = omega (arith, low_blacks, n.even_around.2.0) in
      let all : blacks high ≡ weight (wanted fs) + (1 + blacks (fork Red ua u ub)) =
      omega (arith, blacks_branch k (wanted fs) low g (fork Black ua u ub) same, low_blacks, n.even_around.2.0) in
      blacks_plug fs high (recolored fs d q b k c g ua u ub t n).even_around ∙ ap (through fs) all ∙ through_wanted fs (1 + blacks (fork Red ua u ub))

-- after the rotation of case 3 each path has as many black members as before
pub restored_blacks : (fs : List Frame) (d : Side) (q : Place) (b : Tree) (c : Color) (g : Place) (u t : Tree) →
    IsNearlyRight (frame d Red q b ∷ frame d c g u ∷ fs) t → EvenAround fs (blacks (branch d Black t q (branch d Red b g u))) →
    blacks (plug fs (branch d Black t q (branch d Red b g u))) ≡ through fs (1 + blacks u)
restored_blacks fs d q b c g u t n even =
    let ea = n.even_around in
    let low : Tree = branch d Red b g u in
    let low_blacks : blacks low ≡ 0 + blacks b = blacks_branch d Red b g u (omega (arith, ea.0, ea.2.0)) in
    let all : blacks (branch d Black t q low) ≡ 1 + blacks t = blacks_branch d Black t q low (omega (arith, low_blacks, ea.0)) in
    let same : blacks (branch d Black t q low) ≡ 1 + blacks u = omega (arith, all, ea.2.0) in
    blacks_plug fs (branch d Black t q low) even ∙ ap (through fs) same
