-- Lemmas about vines: a vine is cut at a member and put together again, a place is appended, a vine becomes a tree, and a tree becomes a vine.
use Rattle.std.proofs.Common.{◌≡◌, ℕ, zero, suc, max, inl, inr, ◌+◌, ◌-◌, ◌/◌, ◌^◌, ◌≤◌, ◌<◌, true, Option, Some, None, List, [], ◌∷◌, ◌++◌, length, refl, sym, ap, ◌∙◌, subst, arith, length-append}
use Rattle.std.proofs.Math.Nat.{le-max_left, le-max_right, max-eq_left, max-eq_right}
use Rattle.std.proofs.lemmas.Bool.{cases_lt}
use Rattle.std.proofs.lemmas.Nat.{pow-add, pow_pos}
use Rattle.ic_link_ops.specs.Prelude.{Place, IsAbsent, IsMember, IsDistinct, IsDisjoint, first_or, Table, ChangesOnly, ChangesOnlyIn, top_color, weight, IsFollowed, one_at, times, times_in, Tree, leaf, fork, in_order, Node, IsTree}
use Rattle.ic_link_ops.specs.declared.color.Color.{Color}
use Rattle.ic_link_ops.specs.declared.color.Color.TheVariants.{Red, Black}
use Rattle.ic_link_ops.specs.declared.side.Side.TheVariants.{Left}
use Rattle.ic_link_ops.specs.Chains.{IsChain}
use Rattle.ic_link_ops.proofs.Prelude.{chain_frame, chain_cut, chain_glue, first_or-append, absent_left, absent_right, distinct_left, distinct_right, distinct_disjoint, disjoint_sym, disjoint_right, some_same, times_order, absent_times, times_append, distinct_times}
use Rattle.ic_link_ops.proofs.Trees.{tree_kept}
use Rattle.ic_rbtree.specs.Prelude.{IsNode, IsNamed, Piece, cell, loose, below, Held, Adopts, height, IsLowest}
use Rattle.ic_rbtree.specs.Vines.{along, IsVine, IsVineOf, IsTreeOf, BecomesTree, BecomesVine}
use Rattle.ic_rbtree.proofs.Pieces.{regroup, node_set}
use Rattle.ic_rbtree.proofs.Rotations.{below_linked, close_below}
use Rattle.ic_rbtree.proofs.Branches.{as_branch, top_leaf}

-- a sequence with more than k members consists of k members, the next member p, and the rest
pub split_at : (k : ℕ) (s : List Place) → k < length s → (a : List Place) × (p : Place) × (b : List Place) × (s ≡ a ++ p ∷ b) × (length a ≡ k)
split_at k [] h = absurd (omega (arith, h))
split_at zero (x ∷ s) h = ([], x, s, refl, refl)
split_at (suc k) (x ∷ s) h =
    let r = split_at k s (omega (arith, h)) in (x ∷ r.0, r.1, r.2, ap (λ (l : List Place). x ∷ l) r.3, omega (arith, r.4))

-- if the places of the sequence a ++ p ∷ b are distinct, then a and b have distinct places, p is in neither of them, and they share no place
pub record Apart (a : List Place) (p : Place) (b : List Place) : Type 0 where
  pub front : IsDistinct a
  pub back : IsDistinct b
  pub not_front : IsAbsent p a
  pub not_back : IsAbsent p b
  pub front_back : IsDisjoint a b
  pub back_front : IsDisjoint b a

pub apart_at : (a : List Place) (p : Place) (b : List Place) → IsDistinct (a ++ p ∷ b) → Apart a p b
apart_at a p b d =
    let k = distinct_disjoint a (p ∷ b) d in
    let m = disjoint_sym a (p ∷ b) k in
    let r = distinct_right a (p ∷ b) d in
    record { front = distinct_left a (p ∷ b) d; back = r.1; not_front = m.0; not_back = r.0; front_back = disjoint_right a (p ∷ []) b k; back_front = m.1 }

outside : (q : Place) (s t : List Place) → IsDisjoint s t → IsMember q t → IsAbsent q s
outside q [] t d m = tt
outside q (x ∷ s) t d m = ((λ e. m (rw e d.0)), outside q s t d.1 m)

-- `count` members are divided into `before` members, one middle member, and the rest. A tree of the black height `lower` can have `before` members, and it can
-- have as many members as the rest
pub record Halved (count height before lower : ℕ) : Type 0 where
  pub enough : 2 ^ lower ≤ before + 1
  pub few : before + 1 ≤ 2 ^ (lower + 1)
  pub enough_after : 2 ^ lower ≤ (count - 1 - before) + 1
  pub few_after : (count - 1 - before) + 1 ≤ 2 ^ (lower + 1)

halved : (count height before lower : ℕ) → 1 ≤ count → before ≡ (count - 1) / 2 → lower ≡ height - 1 → 2 ^ height ≤ count + 1 → count + 1 ≤ 2 ^ (height + 1)
    → Halved count height before lower
halved count zero before lower some half low enough few =
    let e : lower ≡ 0 = omega (arith, low) in
    record {
      enough = rw e (omega (arith, half, enough, few));
      few = rw e (omega (arith, half, enough, few));
      enough_after = rw e (omega (arith, half, enough, few));
      few_after = rw e (omega (arith, half, enough, few));
    }
halved count (suc h) before lower some half low enough few =
    let e : lower ≡ h = omega (arith, low) in
    record {
      enough = rw e (omega (arith, half, enough, few, some, pow-add 2 1 h, pow-add 2 h 1, pow-add 2 (suc h) 1));
      few = rw e (omega (arith, half, enough, few, some, pow-add 2 1 h, pow-add 2 h 1, pow-add 2 (suc h) 1));
      enough_after = rw e (omega (arith, half, enough, few, some, pow-add 2 1 h, pow-add 2 h 1, pow-add 2 (suc h) 1));
      few_after = rw e (omega (arith, half, enough, few, some, pow-add 2 1 h, pow-add 2 h 1, pow-add 2 (suc h) 1));
    }

pub nothing_black : (t : Tree) → length (in_order t) ≡ 0 → top_color t ≡ Black
nothing_black leaf e = refl
nothing_black (fork c a p b) e = absurd (omega (arith, e, length-append (in_order a) (p ∷ in_order b)))

nothing_is : (s : List Place) → length s ≡ 0 → s ≡ []
nothing_is [] e = refl
nothing_is (x ∷ s) e = absurd (omega (arith, e))

flat : (h : ℕ) → 2 ^ h ≤ 1 → h ≡ 0
flat zero e = refl
flat (suc h) e = absurd (omega (arith, e, pow-add 2 1 h, pow_pos h))

black_if : (c : Color) → 1 ≤ weight c → c ≡ Black
black_if Red e = absurd (omega (arith, e))
black_if Black e = refl

pow_max : (a b m : ℕ) → 2 ^ a ≤ m → 2 ^ b ≤ m → 2 ^ max a b ≤ m
pow_max a b m h k = elim (cases_lt a b) [
  | inl less ↦ omega (arith, k, ap (λ (z : ℕ). 2 ^ z) (max-eq_right {n = a} {m = b} (omega (arith, less))))
  | inr more ↦ omega (arith, h, ap (λ (z : ℕ). 2 ^ z) (max-eq_left {n = a} {m = b} more))
]

-- if a tree has the least height, and at most m + 1 members, then 2 ^ height is at most the number of its members plus m + 1
lowest_even : (t : Tree) (m : ℕ) → IsLowest t → length (in_order t) ≤ m + 1 → 2 ^ height t ≤ length (in_order t) + m + 1
lowest_even leaf m low few = omega arith
lowest_even (fork c a p b) m low few = omega (arith, low, few, pow-add 2 1 (max (height a) (height b)))

lowest_fork : (c : Color) (a : Tree) (p : Place) (b : Tree) → length (in_order a) ≤ length (in_order b) → length (in_order b) ≤ length (in_order a) + 1 → IsLowest a → IsLowest b
    → IsLowest (fork c a p b)
lowest_fork c a p b less few low_a low_b =
    let all : length (in_order a ++ p ∷ in_order b) ≡ length (in_order a) + (length (in_order b) + 1) = omega (arith, length-append (in_order a) (p ∷ in_order b)) in
    let most : 2 ^ max (height a) (height b) ≤ length (in_order a) + length (in_order b) + 1 =
    pow_max (height a) (height b) (length (in_order a) + length (in_order b) + 1) (omega (arith, low_a, less)) (omega (arith, lowest_even b (length (in_order a)) low_b few)) in
    omega (arith, all, most, pow-add 2 1 (max (height a) (height b)))

module _ {E : Type 0} (n : E → Node) where
  -- a vine stays a vine if the place before it is another one
  pub vine_from : (t : Place → E) (b b' : Option Place) (s : List Place) (a : Option Place) → IsChain (IsFollowed (along n)) t b s a → IsChain (IsFollowed (along n)) t b' s a
  vine_from t b b' [] a c = tt
  vine_from t b b' (x ∷ s) a c = (record { linked = c.0.linked; next = c.0.next }, c.1)

  -- a vine is cut at its member p into the vine before p and the vine after p
  pub vine_cut : (t : Place → E) (s : List Place) (p : Place) (r : List Place) (a : Option Place) → IsVine n t (s ++ p ∷ r) a
      → IsVine n t s (Some p) × ((n (t p)).linked ≡ true) × ((n (t p)).right ≡ first_or r a) × IsVine n t r a
  vine_cut t s p r a c =
      let k = chain_cut (IsFollowed (along n)) t None s (p ∷ r) a c in (k.0, k.1.0.linked, k.1.0.next, vine_from t (Some p) None r a k.1.1)

  -- a vine that ends before p, the linked place p, and the vine that follows p are one vine
  pub vine_glue : (t : Place → E) (s : List Place) (p : Place) (r : List Place) (a : Option Place) → IsVine n t s (Some p)
      → (n (t p)).linked ≡ true → (n (t p)).right ≡ first_or r a → IsVine n t r a → IsVine n t (s ++ p ∷ r) a
  vine_glue t s p r a front linked right back =
      chain_glue (IsFollowed (along n)) t None s (p ∷ r) a front (record { linked = linked; next = right }, vine_from t None (Some p) r a back)

  -- the first member of a vine, or the end after it if the vine is empty, is none or linked
  pub vine_named : (v : Table E) (s : List Place) (a : Option Place) → IsVine n v.entry s a → IsNamed n v a → IsNamed n v (first_or s a)
  vine_named v [] a c named = named
  vine_named v (x ∷ s) a c named = λ q e. subst (λ z. IsNode n v z) (some_same e) c.0.linked

  -- trees and vines stay as they are if only entries of other places are changed
  pub tree_beside : (v w : Table E) (up : Option Place) (t : Tree) (s : List Place) → IsDisjoint s (in_order t) → ChangesOnlyIn v w s → IsTree n v.entry up t → IsTree n w.entry up t
  tree_beside v w up t s d keeps = tree_kept n v.entry w.entry up t (λ q m. keeps.others q (outside q s (in_order t) d m))

  pub vine_beside : (v w : Table E) (r : List Place) (a : Option Place) (s : List Place) → IsDisjoint r s → ChangesOnlyIn v w s → IsVine n v.entry r a → IsVine n w.entry r a
  vine_beside v w r a s d keeps = chain_frame (IsFollowed (along n)) v.entry w.entry None r a s d keeps.others

  -- A VINE IS CUT IN TWO HALVES at its middle member
  module _ {v : Table E} {first : Option Place} {count height : ℕ} {s : List Place} {after : Option Place} (x : IsVineOf n v first count height s after)
      {before lower : ℕ} (some : 1 ≤ count) (half : before ≡ (count - 1) / 2) (low : lower ≡ height - 1) where
    abbrev pub halves : (a : List Place) × (p : Place) × (b : List Place) × (s ≡ a ++ p ∷ b) × (length a ≡ before)
    halves = split_at before s (omega (arith, some, half, x.counted))

    sizes : Halved count height before lower
    sizes = halved count height before lower some half low x.enough x.few

    cut : IsVine n v.entry halves.0 (Some halves.1) × ((n (v.entry halves.1)).linked ≡ true) × ((n (v.entry halves.1)).right ≡ first_or halves.2 after) × IsVine n v.entry halves.2 after
    cut = vine_cut v.entry halves.0 halves.1 halves.2 after (subst (λ z. IsVine n v.entry z after) halves.3 x.vine)

    parts : Apart halves.0 halves.1 halves.2
    parts = apart_at halves.0 halves.1 halves.2 (subst IsDistinct halves.3 x.distinct)

    pub front_half : IsVineOf n v first before lower halves.0 (Some halves.1)
    front_half = record {
      vine = cut.0;
      distinct = parts.front;
      starts = x.starts ∙ ap (λ (z : List Place). first_or z after) halves.3 ∙ first_or-append halves.0 (halves.1 ∷ halves.2) after;
      counted = sym halves.4;
      enough = sizes.enough;
      few = sizes.few;
    }

    -- the front half of the vine has become a tree, and `place` is the middle member
    module _ {v1 : Table E} {left middle : Option Place} (g : BecomesTree n v v1 left middle lower halves.0 (Some halves.1)) {place : Place} (is : middle ≡ Some place) where
      abbrev pub at_place : halves.1 ≡ place
      at_place = some_same (sym g.next_is ∙ is)

      entry_same : v1.entry place ≡ v.entry place
      entry_same = subst (λ z. v1.entry z ≡ v.entry z) at_place (g.frame.others halves.1 parts.not_front)

      pub place_linked : IsNode n v1 place
      place_linked = ap (λ (e : E). (n e).linked) entry_same ∙ subst (λ z. (n (v.entry z)).linked ≡ true) at_place cut.1

      -- after the front half has become a tree, the back half is still a vine, which begins at the right child of the middle member
      pub back_half : {next : Option Place} → next ≡ (n (v1.entry place)).right → IsVineOf n v1 next (count - 1 - before) lower halves.2 after
      back_half read = record {
        vine = vine_beside v v1 halves.2 after halves.0 parts.back_front g.frame cut.3;
        distinct = parts.back;
        starts = read ∙ ap (λ (e : E). (n e).right) entry_same ∙ subst (λ z. (n (v.entry z)).right ≡ first_or halves.2 after) at_place cut.2;
        counted = omega (arith, x.counted, ap length halves.3, length-append halves.0 (halves.1 ∷ halves.2), halves.4);
        enough = sizes.enough_after;
        few = sizes.few_after;
      }

      -- BOTH HALVES HAVE BECOME TREES and are made the left and the right subtree of the middle member
      module _ {v2 : Table E} {right rest : Option Place} (h : BecomesTree n v1 v2 right rest lower halves.2 after) where
        whole : s ≡ halves.0 ++ place ∷ halves.2
        whole = subst (λ z. s ≡ halves.0 ++ z ∷ halves.2) at_place halves.3

        apart : Apart halves.0 place halves.2
        apart = apart_at halves.0 place halves.2 (subst IsDistinct whole x.distinct)

        two_once : (q : Place) → one_at q place + (times q g.tree + (times q h.tree + 0)) ≤ 1
        two_once q =
            omega (
              arith,
              distinct_times s x.distinct q,
              ap (λ (z : List Place). times_in q z) whole,
              times_append q halves.0 (place ∷ halves.2),
              times_order q g.tree,
              ap (λ (z : List Place). times_in q z) g.order,
              times_order q h.tree,
              ap (λ (z : List Place). times_in q z) h.order,
            )

        pub two_trees : Held n v2 v2 (loose place ∷ below None g.tree ∷ below None h.tree ∷ [])
        two_trees = record {
          are = (
            ap (λ (e : E). (n e).linked) (h.frame.others place apart.not_back) ∙ place_linked,
            (tree_beside v1 v2 None g.tree halves.2 (subst (λ z. IsDisjoint halves.2 z) (sym g.order) apart.back_front) h.frame g.entries, (h.entries, tt)),
          );
          once = two_once;
          beside = λ q none. refl;
          linked = λ q. refl;
          extent = refl;
        }

        pub both_named : IsNode n v2 place × IsNamed n v2 left × IsNamed n v2 right
        both_named = (
          two_trees.are.0,
          (λ q e. below_linked n v2.entry None g.tree q two_trees.are.1.0 (sym g.root_is ∙ e)),
          (λ q e. below_linked n v2.entry None h.tree q h.entries (sym h.root_is ∙ e)),
        )

        module _ {v3 v4 v5 : Table E} {c : Color} (weighs : weight c + (height - 1) ≡ height)
            (set3 : n (v3.entry place) ≡ record (n (v2.entry place)) { left = left; right = right; parent = None; color = c }) (only3 : ChangesOnly v2 v3 place)
            (f4 : Adopts n v3 v4 left (Some place)) (f5 : Adopts n v4 v5 right (Some place)) where
          hung : Held n v2 v5 (below None (fork c g.tree place h.tree) ∷ [])
          hung =
              let P : Piece = cell Left place c left right None in
              let h3 = node_set n set3 only3 two_trees in
              let g4 = regroup n (below None g.tree ∷ P ∷ below None h.tree ∷ []) h3 (λ q. omega arith) (h3.are.1.0, (h3.are.0, h3.are.1.1)) in
              let h4 = f4 v2 None (Some place) g.tree (P ∷ below None h.tree ∷ []) g.root_is refl g4 in
              let A : Piece = below (Some place) g.tree in
              let g5 = regroup n (below None h.tree ∷ P ∷ A ∷ []) h4 (λ q. omega arith) (h4.are.1.1.0, (h4.are.1.0, (h4.are.0, tt))) in
              let h5 = f5 v2 None (Some place) h.tree (P ∷ A ∷ []) h.root_is refl g5 in
              let g6 = regroup n (P ∷ A ∷ below (Some place) h.tree ∷ []) h5 (λ q. omega arith) (h5.are.1.0, (h5.are.1.1.0, (h5.are.0, tt))) in
              close_below n None left right Left c g.tree place h.tree [] g.root_is h.root_is g6

          all : in_order g.tree ++ place ∷ in_order h.tree ≡ s
          all = ap (λ (z : List Place). z ++ place ∷ in_order h.tree) g.order ∙ ap (λ (z : List Place). halves.0 ++ place ∷ z) h.order ∙ sym whole

          others : (q : Place) → IsAbsent q s → v5.entry q ≡ v.entry q
          others q out =
              let o = subst (λ z. IsAbsent q z) whole out in
              let none : times q (fork c g.tree place h.tree) ≡ 0 =
              sym (times_order q (fork c g.tree place h.tree)) ∙ (ap (λ (z : List Place). times_in q z) all ∙ absent_times q s out) in
              hung.beside q (omega (arith, none)) ∙ (h.frame.others q (absent_right q halves.0 (place ∷ halves.2) o).1 ∙ g.frame.others q (absent_left q halves.0 (place ∷ halves.2) o))

          sizes_are : (length (in_order g.tree) ≡ before) × (length (in_order h.tree) ≡ count - 1 - before)
          sizes_are = (
            omega (arith, ap length g.order, halves.4),
            omega (arith, ap length h.order, x.counted, ap length halves.3, length-append halves.0 (halves.1 ∷ halves.2), halves.4),
          )

          -- if the middle member is red, both subtrees are empty, so a red member has no red child
          below_red : c ≡ Red → (top_color g.tree ≡ Black) × (top_color h.tree ≡ Black)
          below_red e =
              let none : height ≡ 0 = omega (arith, weighs, ap weight e) in
              let one : count ≡ 1 = omega (arith, some, x.few, ap (λ (m : ℕ). 2 ^ (m + 1)) none) in (
                nothing_black g.tree (omega (arith, sizes_are.0, half, one)),
                nothing_black h.tree (omega (arith, sizes_are.1, one)),
              )

          pub hung_below : BecomesTree n v v5 (Some place) rest height s after
          hung_below = record {
            tree = fork c g.tree place h.tree;
            entries = hung.are.0;
            root_is = refl;
            next_is = h.next_is;
            order = all;
            blacks_are = omega (arith, weighs, g.blacks_are, low);
            even = (g.blacks_are ∙ sym h.blacks_are, g.even, h.even);
            no_red_pair = (below_red, g.no_red_pair, h.no_red_pair);
            black_root = λ high. black_if c (omega (arith, weighs, high));
            lowest = lowest_fork c g.tree place h.tree (omega (arith, sizes_are.0, sizes_are.1, some, half)) (omega (arith, sizes_are.0, sizes_are.1, some, half)) g.lowest h.lowest;
            frame = record { extent = hung.extent ∙ (h.frame.extent ∙ g.frame.extent); others = others };
          }

  -- A VINE WITHOUT MEMBERS becomes the empty tree
  pub none_left : {v : Table E} {first : Option Place} {count height : ℕ} {s : List Place} {after : Option Place} → IsVineOf n v first count height s after → count ≡ 0
      → BecomesTree n v v None first height s after
  none_left {v} {first} {count} {height} {s} {after} x none =
      let bare = nothing_is s (omega (arith, x.counted, none)) in
      let low : height ≡ 0 = flat height (omega (arith, x.enough, none)) in
      record {
        tree = leaf;
        entries = tt;
        root_is = refl;
        next_is = x.starts ∙ ap (λ (z : List Place). first_or z after) bare;
        order = sym bare;
        blacks_are = sym low;
        even = tt;
        no_red_pair = tt;
        black_root = λ high. refl;
        lowest = omega arith;
        frame = record { extent = refl; others = λ q out. refl };
      }

  -- A TREE BECOMES A VINE in three steps. The right subtree of the root becomes a vine, the root is put before this vine, and the left subtree becomes a
  -- vine before the root
  module _ {v : Table E} {root up : Option Place} {t : Tree} (x : IsTreeOf n v root up t) {place : Place} (is : root ≡ Some place) where
    abbrev pub opened : (a : Tree) × (b : Tree) × (t ≡ fork (top_color t) a place b)
    opened = as_branch Left t place (sym x.root_is ∙ is)

    entries : IsTree n v.entry up (fork (top_color t) opened.0 place opened.1)
    entries = subst (λ z. IsTree n v.entry up z) opened.2 x.entries

    parts_below : Apart (in_order opened.0) place (in_order opened.1)
    parts_below = apart_at (in_order opened.0) place (in_order opened.1) (subst (λ z. IsDistinct (in_order z)) opened.2 x.distinct)

    pub root_linked : IsNode n v place
    root_linked = entries.0.linked

    pub low_right : {m : ℕ} → height t ≤ m → height opened.1 ≤ m - 1
    low_right low = omega (arith, low, ap height opened.2, le-max_right (height opened.0) (height opened.1))

    pub low_left : {m : ℕ} → height t ≤ m → height opened.0 ≤ m - 1
    low_left low = omega (arith, low, ap height opened.2, le-max_left (height opened.0) (height opened.1))

    pub right_part : {right : Option Place} → right ≡ (n (v.entry place)).right → IsTreeOf n v right (Some place) opened.1
    right_part read = record { entries = entries.2; distinct = parts_below.back; root_is = read ∙ entries.0.right }

    module _ {v1 : Table E} {next after : Option Place} (r : BecomesVine n v v1 next (in_order opened.1) after) where
      pub next_named : IsNamed n v1 after → IsNamed n v1 next
      next_named named q e = vine_named v1 (in_order opened.1) after r.vine named q (sym r.first_is ∙ e)

      module _ {v2 : Table E} (set2 : n (v2.entry place) ≡ record (n (v1.entry place)) { right = next }) (only2 : ChangesOnly v1 v2 place) where
        pub left_part : {left : Option Place} → left ≡ (n (v.entry place)).left → IsTreeOf n v2 left (Some place) opened.0
        left_part read = record {
          entries = tree_beside v1 v2 (Some place) opened.0 (place ∷ []) (parts_below.not_front, tt) (record { extent = only2.extent; others = λ q out. only2.others q out.0 })
              (tree_beside v v1 (Some place) opened.0 (in_order opened.1) parts_below.back_front r.frame entries.1);
          distinct = parts_below.front;
          root_is = read ∙ entries.0.left;
        }

        module _ {w : Table E} {first : Option Place} (l : BecomesVine n v2 w first (in_order opened.0) (Some place)) where
          at_same : w.entry place ≡ v2.entry place
          at_same = l.frame.others place parts_below.not_front

          linked_still : IsNode n w place
          linked_still =
              ap (λ (e : E). (n e).linked) at_same
              ∙ (ap (λ (e : Node). e.linked) set2 ∙ (ap (λ (e : E). (n e).linked) (r.frame.others place parts_below.not_back) ∙ root_linked))

          order : in_order opened.0 ++ place ∷ in_order opened.1 ≡ in_order t
          order = sym (ap in_order opened.2)

          whole_frame : (q : Place) → IsAbsent q (in_order opened.0 ++ place ∷ in_order opened.1) → w.entry q ≡ v.entry q
          whole_frame q out =
              let o = absent_right q (in_order opened.0) (place ∷ in_order opened.1) out in
              l.frame.others q (absent_left q (in_order opened.0) (place ∷ in_order opened.1) out) ∙ (only2.others q o.0 ∙ r.frame.others q o.1)

          laid_parts : BecomesVine n v w first (in_order opened.0 ++ place ∷ in_order opened.1) after
          laid_parts = record {
            vine = vine_glue w.entry (in_order opened.0) place (in_order opened.1) after l.vine linked_still
                (ap (λ (e : E). (n e).right) at_same ∙ (ap (λ (e : Node). e.right) set2 ∙ r.first_is))
                (vine_beside v2 w (in_order opened.1) after (in_order opened.0) parts_below.back_front l.frame
                (vine_beside v1 v2 (in_order opened.1) after (place ∷ []) back_alone (record { extent = only2.extent; others = λ q out. only2.others q out.0 }) r.vine));
            first_is = l.first_is ∙ sym (first_or-append (in_order opened.0) (place ∷ in_order opened.1) after);
            frame = record { extent = l.frame.extent ∙ (only2.extent ∙ r.frame.extent); others = whole_frame };
          } where
            back_alone : IsDisjoint (in_order opened.1) (place ∷ [])
            back_alone = disjoint_sym (place ∷ []) (in_order opened.1) (parts_below.not_back, tt)

          pub laid_out : BecomesVine n v w first (in_order t) after
          laid_out = subst (λ z. BecomesVine n v w first z after) order laid_parts

  pub laid_nothing : {v : Table E} {root up : Option Place} {t : Tree} (after : Option Place) → IsTreeOf n v root up t → root ≡ None → BecomesVine n v v after (in_order t) after
  laid_nothing {v} {root} {up} {t} after x is =
      subst (λ z. BecomesVine n v v after (in_order z) after) (sym (top_leaf t (sym x.root_is ∙ is)))
      (record { vine = tt; first_is = refl; frame = record { extent = refl; others = λ q out. refl } })
