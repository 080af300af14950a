-- The counts of subtrees give the positions of members.
use Rattle.std.proofs.Common.{◌≡◌, ◌≢◌, ◌≤◌, ◌<◌, ◌+◌, ◌-◌, ◌^◌, ℕ, suc, zero, Option, Some, None, List, [], ◌∷◌, ◌++◌, length, min, refl, sym, ap, ◌∙◌, subst, arith, length-append, slice_get}
use Rattle.std.specs.Bool.{⊤}
use Rattle.std.proofs.Math.Nat.{min-eq_left, le-max_left, le-max_right}
use Rattle.ic_link_ops.specs.Prelude.{Place, Table, Tree, leaf, fork, top, in_order, Node, IsTree}
use Rattle.ic_link_ops.specs.declared.color.Color.{Color}
use Rattle.ic_link_ops.proofs.Prelude.{none_not, some_same, few_places}
use Rattle.ic_rbtree.specs.Height.{height}
use Rattle.ic_rbtree.proofs.Climbed.{path_few}
use Rattle.ic_augmented.specs.declared.augmented_table.Cell.{Cell}
use Rattle.ic_augmented.specs.Prelude.{seen, total, IsSummed, or_zero, RepresentsAugmented}
use Rattle.ic_augmented.specs.Counts.{counts_in}
use Rattle.ic_augmented.proofs.ConsistencyLemmas.{summed_seen}

-- THE COUNT OF A TREE is the number of its members
pub total_count : (es : List (Cell ⊤ ℕ)) (t : Tree) → length (in_order t) ≤ 8589934591 → or_zero (total (counts_in es) t) ≡ length (in_order t)
total_count es leaf few = refl
total_count es (fork c a p b) few =
    let long : length (in_order (fork c a p b)) ≡ length (in_order a) + suc (length (in_order b)) = length-append (in_order a) (p ∷ in_order b) in
    let left : or_zero (total (counts_in es) a) ≡ length (in_order a) = total_count es a (omega (arith, long, few)) in
    let right : or_zero (total (counts_in es) b) ≡ length (in_order b) = total_count es b (omega (arith, long, few)) in
    let i : ℕ = or_zero (total (counts_in es) a) in
    let k : ℕ = or_zero (total (counts_in es) b) in
    let one : min (i + k) (2 ^ 64 - 1) ≡ i + k = min-eq_left (omega (arith, left, right, long, few)) in
    let two : min (i + k + 1) (2 ^ 64 - 1) ≡ i + k + 1 = min-eq_left (omega (arith, left, right, long, few)) in
    ap (λ (z : ℕ). min (z + 1) (2 ^ 64 - 1)) one ∙ (two ∙ omega (arith, left, right, long))

pub seen_count : (es : List (Cell ⊤ ℕ)) (up : Option Place) (t : Tree) → IsSummed (counts_in es) up t → length (in_order t) ≤ 8589934591 → or_zero (seen (counts_in es) (top t)) ≡ length (in_order t)
seen_count es up t h few = ap or_zero (summed_seen (counts_in es) up t h) ∙ total_count es t few

-- a position in a sequence with the member p is before the position of p, the position of p, or after it
get_left : (a b : List Place) (p : Place) (i : ℕ) → i < length a → slice_get (a ++ p ∷ b) i ≡ slice_get a i
get_left [] b p i h = absurd (omega (arith, h))
get_left (x ∷ a) b p zero h = refl
get_left (x ∷ a) b p (suc i) h = get_left a b p i (omega (arith, h))

get_here : (a b : List Place) (p : Place) → slice_get (a ++ p ∷ b) (length a) ≡ Some p
get_here [] b p = refl
get_here (x ∷ a) b p = get_here a b p

get_right : (a b : List Place) (p : Place) (k : ℕ) → slice_get (a ++ p ∷ b) (length a + suc k) ≡ slice_get b k
get_right [] b p k = let e : 0 + suc k ≡ suc k = omega arith in ap (slice_get (p ∷ b)) e
get_right (x ∷ a) b p k = let e : length (x ∷ a) + suc k ≡ suc (length a + suc k) = omega arith in ap (slice_get (x ∷ (a ++ p ∷ b))) e ∙ get_right a b p k

module _ {E : Type 0} (n : E → Node) (v : Table E) (es : List (Cell ⊤ ℕ)) (u : Option Place) where
  -- the count of the left subtree of the place p is the number of members before p in the subtree at p
  record Split (t : Tree) (p : Place) (l : Option Place) (before turns : ℕ) : Type 0 where
    c : Color
    a : Tree
    b : Tree
    is : t ≡ fork c a p b
    tree : IsTree n v.entry u (fork c a p b)
    left : l ≡ top a
    summed_left : IsSummed (counts_in es) (Some p) a
    summed_right : IsSummed (counts_in es) (Some p) b
    counted : before ≡ length (in_order a)
    few_left : length (in_order a) ≤ 8589934591
    few_right : length (in_order b) ≤ 8589934591
    low_left : height a ≤ turns - 1
    low_right : height b ≤ turns - 1

  split : (t : Tree) (p : Place) (l : Option Place) (before turns : ℕ) → IsTree n v.entry u t → Some p ≡ top t → l ≡ (n (v.entry p)).left → before ≡ or_zero (seen (counts_in es) l)
      → IsSummed (counts_in es) u t → length (in_order t) ≤ 8589934591 → height t ≤ turns → Split t p l before turns
  split leaf p l before turns h e el eb s few low = absurd (none_not p (sym e))
  split (fork c a q b) p l before turns h e el eb s few low =
      let same : q ≡ p = sym (some_same e) in
      let long : length (in_order (fork c a q b)) ≡ length (in_order a) + suc (length (in_order b)) = length-append (in_order a) (q ∷ in_order b) in
      let here : IsTree n v.entry u (fork c a p b) = subst (λ (y : Place). IsTree n v.entry u (fork c a y b)) same h in
      let la : l ≡ top a = el ∙ here.0.left in
      let sa : IsSummed (counts_in es) (Some p) a = subst (λ (y : Place). IsSummed (counts_in es) (Some y) a) same s.2 in
      let sb : IsSummed (counts_in es) (Some p) b = subst (λ (y : Place). IsSummed (counts_in es) (Some y) b) same s.3 in
      record {
        c = c;
        a = a;
        b = b;
        is = ap (λ (y : Place). fork c a y b) same;
        tree = here;
        left = la;
        summed_left = sa;
        summed_right = sb;
        counted = eb ∙ (ap (λ (o : Option Place). or_zero (seen (counts_in es) o)) la ∙ seen_count es (Some p) a sa (omega (arith, long, few)));
        few_left = omega (arith, long, few);
        few_right = omega (arith, long, few);
        low_left = omega (arith, low, le-max_left (height a) (height b));
        low_right = omega (arith, low, le-max_right (height a) (height b));
      }

  -- the result of a search in the subtree at `place` is the member at `position`
  abbrev pub Answers : Option Place → ℕ → ℕ → Option Place → Type 0
  Answers place position turns result = (x : Option Place) (t : Tree) → IsTree n v.entry x t → place ≡ top t → IsSummed (counts_in es) x t
      → length (in_order t) ≤ 8589934591 → height t ≤ turns → result ≡ slice_get (in_order t) position

  module _ (t : Tree) (p : Place) (l : Option Place) (before turns position : ℕ) (h : IsTree n v.entry u t) (e : Some p ≡ top t) (el : l ≡ (n (v.entry p)).left) (eb : before ≡ or_zero (seen (counts_in es) l))
      (s : IsSummed (counts_in es) u t) (few : length (in_order t) ≤ 8589934591) (low : height t ≤ turns) where
    pub nth_left : (result : Option Place) → position < before → Answers l position (turns - 1) result → result ≡ slice_get (in_order t) position
    nth_left result less f =
        let k = split t p l before turns h e el eb s few low in
        f (Some p) k.a k.tree.1 k.left k.summed_left k.few_left k.low_left
        ∙ (sym (get_left (in_order k.a) (in_order k.b) p position (omega (arith, less, k.counted))) ∙ ap (λ (y : Tree). slice_get (in_order y) position) (sym k.is))

    pub nth_here : position ≡ before → Some p ≡ slice_get (in_order t) position
    nth_here is =
        let k = split t p l before turns h e el eb s few low in
        sym (get_here (in_order k.a) (in_order k.b) p) ∙ (ap (slice_get (in_order (fork k.c k.a p k.b))) (sym (is ∙ k.counted)) ∙ ap (λ (y : Tree). slice_get (in_order y) position) (sym k.is))

    pub nth_right : (r : Option Place) (result : Option Place) → r ≡ (n (v.entry p)).right → before ≤ position → position ≢ before → Answers r (position - before - 1) (turns - 1) result
        → result ≡ slice_get (in_order t) position
    nth_right r result er more other f =
        let k = split t p l before turns h e el eb s few low in
        let there : length (in_order k.a) + suc (position - before - 1) ≡ position = omega (arith, k.counted, more, other) in
        f (Some p) k.b k.tree.2 (er ∙ k.tree.0.right) k.summed_right k.few_right k.low_right
        ∙ (sym (get_right (in_order k.a) (in_order k.b) p (position - before - 1)) ∙ (ap (slice_get (in_order (fork k.c k.a p k.b))) there ∙ ap (λ (y : Tree). slice_get (in_order y) position) (sym k.is)))

module _ {E : Type 0} (n : E → Node) (v : Table E) (es : List (Cell ⊤ ℕ)) (root : Option Place) (s : List Place) (h : RepresentsAugmented n (counts_in es) v root s) where
  few_members : length (in_order h.shows.tree) ≤ 8589934591
  few_members = subst (λ (y : List Place). length y ≤ 8589934591) (sym h.shows.held.order) (few_places s h.shows.held.distinct)

  -- the count that the root stores is the length of the sequence
  pub length_is : (o : Option Place) → o ≡ root → or_zero (seen (counts_in es) o) ≡ length s
  length_is o e =
      ap (λ (y : Option Place). or_zero (seen (counts_in es) y)) (e ∙ h.shows.starts) ∙ (seen_count es None h.shows.tree h.summed few_members ∙ ap length h.shows.held.order)

  pub nth_is : (o : Option Place) (position : ℕ) (result : Option Place) → o ≡ root
      → ((x : Option Place) (t : Tree) → IsTree n v.entry x t → o ≡ top t → IsSummed (counts_in es) x t → length (in_order t) ≤ 8589934591 → height t ≤ 67 → result ≡ slice_get (in_order t) position)
      → result ≡ slice_get s position
  nth_is o position result e f =
      let low : height h.shows.tree ≤ 66 = path_few n h.shows [] h.shows.tree (height h.shows.tree) refl (omega arith) in
      f None h.shows.tree h.shows.held.entries (e ∙ h.shows.starts) h.summed few_members (omega (arith, low)) ∙ ap (λ (y : List Place). slice_get y position) h.shows.held.order
