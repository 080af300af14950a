-- A search finds the first interval that overlaps [from, to), below a place or after it.
use Rattle.std.proofs.Common.{◌≡◌, ◌≢◌, ◌≤◌, ◌<◌, ◌-◌, ◌&&◌, nat_lt, ◌⊎◌, ℕ, Bool, true, false, cond, Option, Some, None, List, [], ◌∷◌, ◌++◌, length, map, max, refl, sym, ap, ◌∙◌, subst, arith, inl, inr, append_assoc, ltb-true, ltb-false, lt-ltb, le-ltb, filter, nat_cmp, Equal, Greater}
use Rattle.std.proofs.Math.Nat.{le-max_left, le-max_right, max-le}
use Rattle.std.proofs.lemmas.List.Elements.{filter-append}
use Rattle.std.specs.Cmp.{nat_cmp_is}
use Rattle.ic_link_ops.specs.Prelude.{Place, Objects, is_placed, first, Table, ArePlaced, is_end, Node, IsTree, Tree, leaf, fork, top, in_order}
use Rattle.ic_link_ops.specs.declared.color.Color.{Color}
use Rattle.ic_link_ops.specs.declared.side.Side.TheVariants.{Left, Right}
use Rattle.ic_link_ops.specs.Frames.{Frame, frame, plug, above, after}
use Rattle.ic_link_ops.proofs.Prelude.{none_not, some_same, times_plug}
use Rattle.ic_rbtree.specs.Prelude.{IsSorted, height}
use Rattle.ic_rbtree.proofs.Climbed.{path_few}
use Rattle.ic_augmented.specs.declared.augmented_table.Cell.{Cell}
use Rattle.ic_augmented.specs.Prelude.{RepresentsAugmented, overlaps, or_zero, seen, total, IsSummed}
use Rattle.ic_augmented.specs.Greatest.{number_in, greatest_in}
use Rattle.ic_augmented.proofs.ConsistencyLemmas.{summed_seen, times_top}
use Rattle.ic_augmented.specs.Subtrees.{IsSubtree}
use Rattle.ic_augmented.proofs.SubtreeLemmas.{lower, member_subtree, subtree_left, subtree_right}
use Rattle.ic_augmented.proofs.RankLemmas.{end_is, not_end, summed_below}

below_or_not : (a b : ℕ) → (a < b) ⊎ (b ≤ a)
below_or_not a b = pick (nat_lt a b) refl where
  pick : (c : Bool) → nat_lt a b ≡ c → (a < b) ⊎ (b ≤ a)
  pick true e = inl (ltb-true a b e)
  pick false e = inr (ltb-false a b e)

and_false : (b : Bool) → b && false ≡ false
and_false true = refl
and_false false = refl

nothing_after : (s t : List Place) → s ++ t ≡ [] → t ≡ []
nothing_after [] t e = e
nothing_after (x ∷ s) t e = cc

-- THE MEMBERS ARE IN THE ORDER of the starts of their intervals
module _ (start : Place → ℕ) where
  not_later : (q r : Place) → nat_cmp (start q) (start r) ≢ Greater → start q ≤ start r
  not_later q r h = elim (below_or_not (start r) (start q)) [
    | inl less ↦ absurd (h (sym (nat_cmp_is (start q) (start r) Greater less)))
    | inr more ↦ more
  ]

  sorted_tail : (x : Place) (s : List Place) → IsSorted nat_cmp (map start (x ∷ s)) → IsSorted nat_cmp (map start s)
  sorted_tail x [] h = tt
  sorted_tail x (y ∷ s) h = h.1

  pub sorted_after : (f g : List Place) → IsSorted nat_cmp (map start (f ++ g)) → IsSorted nat_cmp (map start g)
  sorted_after [] g h = h
  sorted_after (x ∷ f) g h = sorted_after f g (sorted_tail x (f ++ g) h)

  pub sorted_front : (f g : List Place) → IsSorted nat_cmp (map start (f ++ g)) → IsSorted nat_cmp (map start f)
  sorted_front [] g h = tt
  sorted_front (x ∷ []) g h = tt
  sorted_front (x ∷ y ∷ f) g h = (h.0, sorted_front (y ∷ f) g h.1)

-- if all starts are 0, every sequence is in the order of the starts
pub none_unsorted : (s : List Place) → IsSorted nat_cmp (map (λ (q : Place). 0) s)
none_unsorted [] = tt
none_unsorted (x ∷ []) = tt
none_unsorted (x ∷ y ∷ s) = (λ e. let k : Equal ≡ Greater = e in cc, none_unsorted (y ∷ s))

-- AN INTERVAL OVERLAPS [from, to) if it starts before `to` and ends after `from`
module _ (start : Place → ℕ) (es : List (Cell ℕ ℕ)) (from to : ℕ) where
  abbrev pub end : Place → ℕ
  end q = number_in es q

  abbrev pub test : Place → Bool
  test q = overlaps start end from to q

  over : (q : Place) → start q < to → from < end q → test q ≡ true
  over q starts ends = ap (λ (b : Bool). b && nat_lt from (end q)) (lt-ltb (start q) to starts) ∙ lt-ltb from (end q) ends

  ends_before : (q : Place) → end q ≤ from → test q ≡ false
  ends_before q h = ap (λ (b : Bool). nat_lt (start q) to && b) (le-ltb from (end q) h) ∙ and_false (nat_lt (start q) to)

  starts_after : (q : Place) → to ≤ start q → test q ≡ false
  starts_after q h = ap (λ (b : Bool). b && nat_lt from (end q)) (le-ltb (start q) to h)

  must_start_after : (q : Place) → from < end q → test q ≡ false → to ≤ start q
  must_start_after q ends none = elim (below_or_not (start q) to) [
    | inl starts ↦ let k : true ≡ false = sym (over q starts ends) ∙ none in cc
    | inr h ↦ h
  ]

  drops : (q : Place) (s : List Place) → test q ≡ false → filter test (q ∷ s) ≡ filter test s
  drops q s e = ap (λ (b : Bool). cond b (q ∷ filter test s) (filter test s)) e

  takes : (q : Place) (s : List Place) → test q ≡ true → filter test (q ∷ s) ≡ q ∷ filter test s
  takes q s e = ap (λ (b : Bool). cond b (q ∷ filter test s) (filter test s)) e

  must_fail : (q : Place) (s : List Place) → filter test (q ∷ s) ≡ [] → test q ≡ false
  must_fail q s e = pick (test q) refl where
    pick : (b : Bool) → test q ≡ b → test q ≡ false
    pick true k = let l : q ∷ filter test s ≡ [] = sym (takes q s k) ∙ e in cc
    pick false k = k

  -- if a member starts at `to` or later, no later member overlaps [from, to)
  late : (q : Place) (s : List Place) → to ≤ start q → IsSorted nat_cmp (map start (q ∷ s)) → filter test (q ∷ s) ≡ []
  late q [] h sorted = drops q [] (starts_after q h)
  late q (r ∷ s) h sorted = drops q (r ∷ s) (starts_after q h) ∙ late r s (omega (arith, h, not_later start q r sorted.0)) sorted.1

  -- if the greatest end in a tree is not after `from`, no member of the tree overlaps [from, to)
  none_below : (t : Tree) → or_zero (total (greatest_in es) t) ≤ from → filter test (in_order t) ≡ []
  none_below leaf h = refl
  none_below (fork c a p b) h =
      let x : ℕ = or_zero (total (greatest_in es) a) in
      let y : ℕ = or_zero (total (greatest_in es) b) in
      let m1 : end p ≤ max (end p) (max x y) = le-max_left (end p) (max x y) in
      let m2 : max x y ≤ max (end p) (max x y) = le-max_right (end p) (max x y) in
      filter-append test (in_order a) (p ∷ in_order b)
      ∙ (ap (λ (s : List Place). s ++ filter test (p ∷ in_order b)) (none_below a (omega (arith, h, m2, le-max_left x y)))
      ∙ (drops p (in_order b) (ends_before p (omega (arith, h, m1))) ∙ none_below b (omega (arith, h, m2, le-max_right x y))))

  -- if the greatest end in a tree is after `from`, some member q of the tree ends after `from`
  record Reaches (s : List Place) : Type 0 where
    front : List Place
    back : List Place
    q : Place
    is : s ≡ front ++ q ∷ back
    ends : from < end q

  reaches : (t : Tree) → from < or_zero (total (greatest_in es) t) → Reaches (in_order t)
  reaches leaf h = absurd (omega (arith, h))
  reaches (fork c a p b) h = elim (below_or_not from (end p)) [
    | inl here ↦ record { front = in_order a; back = in_order b; q = p; is = refl; ends = here }
    | inr low ↦ elim (below_or_not from (or_zero (total (greatest_in es) a))) [
      | inl left ↦
          let r = reaches a left in
          record { front = r.front; back = r.back ++ p ∷ in_order b; q = r.q; is = ap (λ (s : List Place). s ++ p ∷ in_order b) r.is ∙ append_assoc r.front (r.q ∷ r.back) (p ∷ in_order b); ends = r.ends }
      | inr lower ↦
          let r = reaches b (right (end p) (or_zero (total (greatest_in es) a)) (or_zero (total (greatest_in es) b)) h low lower) in
          record { front = in_order a ++ p ∷ r.front; back = r.back; q = r.q; is = ap (λ (s : List Place). in_order a ++ p ∷ s) r.is ∙ sym (append_assoc (in_order a) (p ∷ r.front) (r.q ∷ r.back)); ends = r.ends }
    ]
  ] where
    right : (e x y : ℕ) → from < max e (max x y) → e ≤ from → x ≤ from → from < y
    right e x y h low lower = elim (below_or_not from y) [
      | inl more ↦ more
      | inr less ↦ absurd (omega (arith, h, max-le low (max-le lower less)))
    ]

  -- if some member of the front part ends after `from`, the first member that overlaps [from, to) is in the front part, or no member overlaps it
  first_left : (s rest : List Place) → Reaches s → IsSorted nat_cmp (map start (s ++ rest)) → first (filter test s) ≡ first (filter test (s ++ rest))
  first_left s rest r sorted = pick (filter test s) refl where
    pick : (w : List Place) → filter test s ≡ w → first (filter test s) ≡ first (filter test (s ++ rest))
    pick (x ∷ w) e = ap first e ∙ sym (ap first (filter-append test s rest ∙ ap (λ (y : List Place). y ++ filter test rest) e))
    pick [] e =
        let both : filter test r.front ++ filter test (r.q ∷ r.back) ≡ [] = sym (filter-append test r.front (r.q ∷ r.back)) ∙ (ap (filter test) (sym r.is) ∙ e) in
        let following : to ≤ start r.q = must_start_after r.q r.ends (must_fail r.q r.back (nothing_after (filter test r.front) (filter test (r.q ∷ r.back)) both)) in
        let split : s ++ rest ≡ r.front ++ (r.q ∷ (r.back ++ rest)) = ap (λ (y : List Place). y ++ rest) r.is ∙ append_assoc r.front (r.q ∷ r.back) rest in
        let on : IsSorted nat_cmp (map start (r.q ∷ (r.back ++ rest))) = sorted_after start r.front (r.q ∷ (r.back ++ rest)) (subst (λ (y : List Place). IsSorted nat_cmp (map start y)) split sorted) in
        let none : filter test (r.q ∷ r.back) ++ filter test rest ≡ [] = sym (filter-append test (r.q ∷ r.back) rest) ∙ late r.q (r.back ++ rest) following on in
        let rest_none : filter test rest ≡ [] = nothing_after (filter test (r.q ∷ r.back)) (filter test rest) none in
        ap first (e ∙ sym (filter-append test s rest ∙ (ap (λ (y : List Place). y ++ filter test rest) e ∙ rest_none)))

  -- if the greatest end in the left subtree is not after `from`, the search skips the left subtree
  skipped : (a : Tree) (rest : List Place) → or_zero (total (greatest_in es) a) ≤ from → filter test (in_order a ++ rest) ≡ filter test rest
  skipped a rest low = filter-append test (in_order a) rest ∙ ap (λ (y : List Place). y ++ filter test rest) (none_below a low)

  module _ {E : Type 0} (n : E → Node) (v : Table E) (u : Option Place) (turns : ℕ) where
    -- the result of a search in a subtree is the first member of the subtree that overlaps [from, to)
    abbrev pub FindsFirst : Option Place → ℕ → Option Place → Type 0
    FindsFirst o fuel result = (x : Option Place) (t : Tree) → IsTree n v.entry x t → o ≡ top t → IsSummed (greatest_in es) x t → IsSorted nat_cmp (map start (in_order t)) → height t ≤ fuel
        → result ≡ first (filter test (in_order t))

    abbrev Finds : Option Place → Tree → Type 0
    Finds result t = IsTree n v.entry u t → IsSummed (greatest_in es) u t → IsSorted nat_cmp (map start (in_order t)) → height t ≤ turns → result ≡ first (filter test (in_order t))

    at_root : (p : Place) (result : Option Place) → ((c : Color) (a b : Tree) → Finds result (fork c a p b)) → (t : Tree) → Some p ≡ top t → Finds result t
    at_root p result f leaf e = absurd (none_not p (sym e))
    at_root p result f (fork c a q b) e = subst (λ (y : Place). Finds result (fork c a y b)) (some_same e) (f c a b)

    module _ (p : Place) (l r : Option Place) (g : ℕ) (el : l ≡ (n (v.entry p)).left) (eg : g ≡ or_zero (seen (greatest_in es) l)) (er : r ≡ (n (v.entry p)).right) where
      left_greatest : (c : Color) (a b : Tree) → IsTree n v.entry u (fork c a p b) → IsSummed (greatest_in es) u (fork c a p b) → g ≡ or_zero (total (greatest_in es) a)
      left_greatest c a b h s = eg ∙ ap or_zero (ap (seen (greatest_in es)) (el ∙ h.0.left) ∙ summed_seen (greatest_in es) (Some p) a s.2)

      pub overlap_left : (result : Option Place) → from < g → FindsFirst l (turns - 1) result → (t : Tree) → Some p ≡ top t → Finds result t
      overlap_left result more found = at_root p result (λ c a b h s sorted low.
          found (Some p) a h.1 (el ∙ h.0.left) s.2 (sorted_front start (in_order a) (p ∷ in_order b) sorted) (omega (arith, low, le-max_left (height a) (height b)))
          ∙ first_left (in_order a) (p ∷ in_order b) (reaches a (omega (arith, more, left_greatest c a b h s))) sorted)

      pub overlap_none : g ≤ from → to ≤ start p → (t : Tree) → Some p ≡ top t → Finds None t
      overlap_none less following = at_root p None (λ c a b h s sorted low.
          sym (ap first (skipped a (p ∷ in_order b) (omega (arith, less, left_greatest c a b h s)) ∙ late p (in_order b) following (sorted_after start (in_order a) (p ∷ in_order b) sorted))))

      pub overlap_here : g ≤ from → start p < to → from < end p → (t : Tree) → Some p ≡ top t → Finds (Some p) t
      overlap_here less starts ends = at_root p (Some p) (λ c a b h s sorted low.
          sym (ap first (skipped a (p ∷ in_order b) (omega (arith, less, left_greatest c a b h s)) ∙ takes p (in_order b) (over p starts ends))))

      pub overlap_right : (result : Option Place) → g ≤ from → end p ≤ from → FindsFirst r (turns - 1) result → (t : Tree) → Some p ≡ top t → Finds result t
      overlap_right result less ends found = at_root p result (λ c a b h s sorted low.
          found (Some p) b h.2 (er ∙ h.0.right) s.3 (sorted_tail start p (in_order b) (sorted_after start (in_order a) (p ∷ in_order b) sorted)) (omega (arith, low, le-max_right (height a) (height b)))
          ∙ sym (ap first (skipped a (p ∷ in_order b) (omega (arith, less, left_greatest c a b h s)) ∙ drops p (in_order b) (ends_before p ends))))

  module _ {E : Type 0} (n : E → Node) (v : Table E) where
    -- a search from the root finds the first member that overlaps [from, to)
    pub first_is : {root : Option Place} (s : List Place) (h : RepresentsAugmented n (greatest_in es) v root s) → IsSorted nat_cmp (map start s) → (o result : Option Place) → o ≡ root → FindsFirst n v None 67 o 67 result
        → result ≡ first (filter test s)
    first_is s h sorted o result e found =
        let low : height h.shows.tree ≤ 66 = path_few n h.shows [] h.shows.tree (height h.shows.tree) refl (omega arith) in
        found None h.shows.tree h.shows.held.entries (e ∙ h.shows.starts) h.summed (subst (λ (y : List Place). IsSorted nat_cmp (map start y)) (sym h.shows.held.order) sorted) (omega (arith, low))
        ∙ ap (λ (y : List Place). first (filter test y)) h.shows.held.order

-- if each member of a sequence has an object, so has each member of its front part and of its back part
pub placed_left : {T : Type 0} (objects : Objects T) (f g : List Place) → ArePlaced objects (f ++ g) → ArePlaced objects f
placed_left objects [] g h = tt
placed_left objects (x ∷ f) g h = (h.0, placed_left objects f g h.1)

pub placed_right : {T : Type 0} (objects : Objects T) (f g : List Place) → ArePlaced objects (f ++ g) → ArePlaced objects g
placed_right objects [] g h = h
placed_right objects (x ∷ f) g h = placed_right objects f g h.1

module _ {E T : Type 0} (n : E → Node) (v : Table E) (objects : Objects T) (u : Option Place) (p : Place) where
  -- the place is the root of a tree whose members all have objects, or it is none
  abbrev pub HasTree : Option Place → Type 0
  HasTree o = (x : Option Place) × (t : Tree) × IsTree n v.entry x t × (o ≡ top t) × ArePlaced objects (in_order t)

  pub has_left : (t : Tree) (l : Option Place) → IsTree n v.entry u t → Some p ≡ top t → ArePlaced objects (in_order t) → l ≡ (n (v.entry p)).left → HasTree l
  has_left leaf l h e placed el = absurd (none_not p (sym e))
  has_left (fork c a q b) l h e placed el =
      (Some q, a, h.1, el ∙ (ap (λ (y : Place). (n (v.entry y)).left) (some_same e) ∙ h.0.left), placed_left objects (in_order a) (q ∷ in_order b) placed)

  pub has_right : (t : Tree) (r : Option Place) → IsTree n v.entry u t → Some p ≡ top t → ArePlaced objects (in_order t) → r ≡ (n (v.entry p)).right → HasTree r
  has_right leaf r h e placed er = absurd (none_not p (sym e))
  has_right (fork c a q b) r h e placed er =
      (Some q, b, h.2, er ∙ (ap (λ (y : Place). (n (v.entry y)).right) (some_same e) ∙ h.0.right), (placed_right objects (in_order a) (q ∷ in_order b) placed).1)

  pub has_here : (t : Tree) → Some p ≡ top t → ArePlaced objects (in_order t) → is_placed objects p ≡ true
  has_here leaf e placed = absurd (none_not p (sym e))
  has_here (fork c a q b) e placed = subst (λ (y : Place). is_placed objects y ≡ true) (sym (some_same e)) (placed_right objects (in_order a) (q ∷ in_order b) placed).0

module _ {E : Type 0} (n : E → Node) (v : Table E) where
  module _ {T : Type 0} (objects : Objects T) where
    -- if the members after a subtree have objects, so have the members after the subtree of its parent
    pub after_up : (fs : List Frame) (t : Tree) (up : Place) → IsSubtree n v fs t → ArePlaced objects (after fs) → above fs ≡ Some up
        → (gs : List Frame) × (u : Tree) × IsSubtree n v gs u × (top u ≡ Some up) × ArePlaced objects (after gs)
    after_up [] t up h placed e = absurd (none_not up e)
    after_up (frame Left c q b ∷ fs) t up h placed e = (fs, fork c t q b, subtree_left n v c q b fs t h, e, placed_right objects (in_order b) (after fs) placed.1)
    after_up (frame Right c q b ∷ fs) t up h placed e = (fs, fork c b q t, subtree_right n v c q b fs t h, e, placed)

    module _ (p up : Place) (right : Option Place) (right_is : right ≡ (n (v.entry up)).right) (other : is_end right p ≡ false) where
      -- if p is not the right child of its parent, the parent and the members of the parent's right subtree come after the subtree of p, and they have
      -- objects
      absurd_right : (fs : List Frame) (t : Tree) (c : Color) (q : Place) (b : Tree) → IsSubtree n v (frame Right c q b ∷ fs) t → top t ≡ Some p → Some q ≡ Some up → ⊥
      absurd_right fs t c q b h e eu = not_end right p other (right_is ∙ (ap (λ (y : Place). (n (v.entry y)).right) (sym (some_same eu)) ∙ (h.around.0.right ∙ e)))

      pub after_here : (fs : List Frame) (t : Tree) → IsSubtree n v fs t → top t ≡ Some p → ArePlaced objects (after fs) → above fs ≡ Some up → is_placed objects up ≡ true
      after_here [] t h e placed eu = absurd (none_not up eu)
      after_here (frame Left c q b ∷ fs) t h e placed eu = subst (λ (y : Place). is_placed objects y ≡ true) (some_same eu) placed.0
      after_here (frame Right c q b ∷ fs) t h e placed eu = absurd (absurd_right fs t c q b h e eu)

      pub after_tree : (fs : List Frame) (t : Tree) → IsSubtree n v fs t → top t ≡ Some p → ArePlaced objects (after fs) → above fs ≡ Some up → HasTree n v objects None up right
      after_tree [] t h e placed eu = absurd (none_not up eu)
      after_tree (frame Left c q b ∷ fs) t h e placed eu =
          (Some q, b, h.around.1, right_is ∙ (ap (λ (y : Place). (n (v.entry y)).right) (sym (some_same eu)) ∙ h.around.0.right), placed_left objects (in_order b) (after fs) placed.1)
      after_tree (frame Right c q b ∷ fs) t h e placed eu = absurd (absurd_right fs t c q b h e eu)

  module _ (start : Place → ℕ) (es : List (Cell ℕ ℕ)) (from to : ℕ) where
    -- the result of a search after the subtree at p is the first later member that overlaps [from, to)
    abbrev pub FindsAfter : Place → ℕ → Option Place → Type 0
    FindsAfter p turns result = (fs : List Frame) (t : Tree) → IsSubtree n v fs t → IsSummed (greatest_in es) None (plug fs t) → top t ≡ Some p → IsSorted nat_cmp (map start (after fs)) → length fs ≤ turns
        → result ≡ first (filter (test start es from to) (after fs))

    module _ (p up : Place) (turns : ℕ) (right : Option Place) (right_is : right ≡ (n (v.entry up)).right) (result : Option Place) where
      -- after the subtree of a right child, a search finds what it finds after the subtree of the parent
      pub after_right : FindsAfter up (turns - 1) result → is_end right p ≡ true → (fs : List Frame) (t : Tree) → above fs ≡ Some up → IsSubtree n v fs t → IsSummed (greatest_in es) None (plug fs t) → top t ≡ Some p
          → IsSorted nat_cmp (map start (after fs)) → length fs ≤ turns → result ≡ first (filter (test start es from to) (after fs))
      after_right on same [] t eu h s e sorted low = absurd (none_not up eu)
      after_right on same (frame Left c q b ∷ fs) t eu h s e sorted low =
          let twice : top b ≡ Some p = sym h.around.0.right ∙ (ap (λ (y : Place). (n (v.entry y)).right) (some_same eu) ∙ (sym right_is ∙ end_is right p same)) in
          absurd (omega (arith, h.once p, times_plug p fs (fork c t q b), times_top p t e, times_top p b twice))
      after_right on same (frame Right c q b ∷ fs) t eu h s e sorted low = on fs (fork c b q t) (subtree_right n v c q b fs t h) s eu sorted (omega (arith, low))

      -- after the subtree of a left child come the parent, the parent's right subtree, and the members after the parent's subtree
      module _ (found : (b : Tree) (fs : List Frame) (c : Color) (t : Tree) → IsSubtree n v fs (fork c t up b) → IsSummed (greatest_in es) None (plug fs (fork c t up b)) → IsSummed (greatest_in es) (Some up) b → right ≡ top b
          → IsTree n v.entry (Some up) b → IsSorted nat_cmp (map start (up ∷ (in_order b ++ after fs))) → length fs ≤ turns - 1 → result ≡ first (filter (test start es from to) (up ∷ (in_order b ++ after fs)))) where
        pub after_left : is_end right p ≡ false → (fs : List Frame) (t : Tree) → above fs ≡ Some up → IsSubtree n v fs t → IsSummed (greatest_in es) None (plug fs t) → top t ≡ Some p
            → IsSorted nat_cmp (map start (after fs)) → length fs ≤ turns → result ≡ first (filter (test start es from to) (after fs))
        after_left other [] t eu h s e sorted low = absurd (none_not up eu)
        after_left other (frame Right c q b ∷ fs) t eu h s e sorted low =
            absurd (not_end right p other (right_is ∙ (ap (λ (y : Place). (n (v.entry y)).right) (sym (some_same eu)) ∙ (h.around.0.right ∙ e))))
        after_left other (frame Left c q b ∷ fs) t eu h s e sorted low = at q (sym (some_same eu)) (subtree_left n v c q b fs t h) s h.around.0.right h.around.1 sorted where
          at : (y : Place) → up ≡ y → IsSubtree n v fs (fork c t y b) → IsSummed (greatest_in es) None (plug fs (fork c t y b)) → (n (v.entry y)).right ≡ top b → IsTree n v.entry (Some y) b
              → IsSorted nat_cmp (map start (y ∷ (in_order b ++ after fs))) → result ≡ first (filter (test start es from to) (y ∷ (in_order b ++ after fs)))
          at y is = subst (λ (x : Place). IsSubtree n v fs (fork c t x b) → IsSummed (greatest_in es) None (plug fs (fork c t x b)) → (n (v.entry x)).right ≡ top b → IsTree n v.entry (Some x) b
              → IsSorted nat_cmp (map start (x ∷ (in_order b ++ after fs))) → result ≡ first (filter (test start es from to) (x ∷ (in_order b ++ after fs)))) is
              (λ h2 s2 r2 t2 sorted2. found b fs c t h2 s2 (summed_below (greatest_in es) fs (fork c t up b) s2).3 (right_is ∙ r2) t2 sorted2 (omega (arith, low)))

      pub after_none : result ≡ None → to ≤ start up → is_end right p ≡ false → (fs : List Frame) (t : Tree) → above fs ≡ Some up → IsSubtree n v fs t → IsSummed (greatest_in es) None (plug fs t) → top t ≡ Some p
          → IsSorted nat_cmp (map start (after fs)) → length fs ≤ turns → result ≡ first (filter (test start es from to) (after fs))
      after_none none following = after_left (λ b fs c t h s sb rb tb sorted low. none ∙ sym (ap first (late start es from to up (in_order b ++ after fs) following sorted)))

      pub after_this : result ≡ Some up → start up < to → from < number_in es up → is_end right p ≡ false → (fs : List Frame) (t : Tree) → above fs ≡ Some up → IsSubtree n v fs t → IsSummed (greatest_in es) None (plug fs t)
          → top t ≡ Some p → IsSorted nat_cmp (map start (after fs)) → length fs ≤ turns → result ≡ first (filter (test start es from to) (after fs))
      after_this is starts ends = after_left (λ b fs c t h s sb rb tb sorted low. is ∙ sym (ap first (takes start es from to up (in_order b ++ after fs) (over start es from to up starts ends))))

      module _ (g : ℕ) (g_is : g ≡ or_zero (seen (greatest_in es) right)) (ends : number_in es up ≤ from) where
        greatest_is : (b : Tree) → right ≡ top b → IsSummed (greatest_in es) (Some up) b → g ≡ or_zero (total (greatest_in es) b)
        greatest_is b rb sb = g_is ∙ ap or_zero (ap (seen (greatest_in es)) rb ∙ summed_seen (greatest_in es) (Some up) b sb)

        pub after_below : from < g → FindsFirst start es from to n v None 67 right 67 result → is_end right p ≡ false → (fs : List Frame) (t : Tree) → above fs ≡ Some up → IsSubtree n v fs t
            → IsSummed (greatest_in es) None (plug fs t) → top t ≡ Some p → IsSorted nat_cmp (map start (after fs)) → length fs ≤ turns → result ≡ first (filter (test start es from to) (after fs))
        after_below more below = after_left (λ b fs c t h s sb rb tb sorted low.
            let rest = sorted_tail start up (in_order b ++ after fs) sorted in
            below (Some up) b tb rb sb (sorted_front start (in_order b) (after fs) rest) (omega (arith, h.low, lower fs (fork c t up b), le-max_right (height t) (height b)))
            ∙ (first_left start es from to (in_order b) (after fs) (reaches start es from to b (omega (arith, more, greatest_is b rb sb))) rest
            ∙ sym (ap first (drops start es from to up (in_order b ++ after fs) (ends_before start es from to up ends)))))

        pub after_on : g ≤ from → FindsAfter up (turns - 1) result → is_end right p ≡ false → (fs : List Frame) (t : Tree) → above fs ≡ Some up → IsSubtree n v fs t → IsSummed (greatest_in es) None (plug fs t) → top t ≡ Some p
            → IsSorted nat_cmp (map start (after fs)) → length fs ≤ turns → result ≡ first (filter (test start es from to) (after fs))
        after_on less on = after_left (λ b fs c t h s sb rb tb sorted low.
            on fs (fork c t up b) h s refl (sorted_after start (in_order b) (after fs) (sorted_tail start up (in_order b ++ after fs) sorted)) low
            ∙ sym (ap first (drops start es from to up (in_order b ++ after fs) (ends_before start es from to up ends) ∙ skipped start es from to b (after fs) (omega (arith, less, greatest_is b rb sb)))))

    pub after_root : (fs : List Frame) → above fs ≡ None → None ≡ first (filter (test start es from to) (after fs))
    after_root [] e = refl
    after_root (frame d c p b ∷ fs) e = absurd (none_not p (sym e))

    pub after_spent : (fs : List Frame) → length fs ≤ 0 → None ≡ first (filter (test start es from to) (after fs))
    after_spent [] e = refl
    after_spent (f ∷ fs) e = absurd (omega (arith, e))

    module _ (root : Option Place) (front : List Place) (p : Place) (back : List Place) (right : Option Place) (g : ℕ) (result : Option Place) (right_is : right ≡ (n (v.entry p)).right) (g_is : g ≡ or_zero (seen (greatest_in es) right)) where
      -- the result of a search after the member p is the first later member that overlaps [from, to)
      abbrev FindsNext : Type 0
      FindsNext = RepresentsAugmented n (greatest_in es) v root (front ++ p ∷ back) → IsSorted nat_cmp (map start (front ++ p ∷ back)) → result ≡ first (filter (test start es from to) back)

      after_sorted : (s : List Place) → s ≡ back → IsSorted nat_cmp (map start (front ++ p ∷ back)) → IsSorted nat_cmp (map start s)
      after_sorted s e sorted = subst (λ (y : List Place). IsSorted nat_cmp (map start y)) (sym e) (sorted_tail start p back (sorted_after start front (p ∷ back) sorted))

      pub next_below : from < g → FindsFirst start es from to n v None 67 right 67 result → FindsNext
      next_below more below h sorted =
          let x = member_subtree n v root front p back h.shows in
          let t : Tree = fork x.c x.a p x.b in
          let summed = subst (λ (y : Tree). IsSummed (greatest_in es) None y) (sym x.same) h.summed in
          let sb = (summed_below (greatest_in es) x.fs t summed).3 in
          let rb : right ≡ top x.b = right_is ∙ x.subtree.tree.0.right in
          let many : g ≡ or_zero (total (greatest_in es) x.b) = g_is ∙ ap or_zero (ap (seen (greatest_in es)) rb ∙ summed_seen (greatest_in es) (Some p) x.b sb) in
          let rest = after_sorted (in_order x.b ++ after x.fs) x.back_is sorted in
          below (Some p) x.b x.subtree.tree.2 rb sb (sorted_front start (in_order x.b) (after x.fs) rest) (omega (arith, x.subtree.low, lower x.fs t, le-max_right (height x.a) (height x.b)))
          ∙ (first_left start es from to (in_order x.b) (after x.fs) (reaches start es from to x.b (omega (arith, more, many))) rest ∙ ap (λ (y : List Place). first (filter (test start es from to) y)) x.back_is)

      pub next_after : g ≤ from → FindsAfter p 67 result → FindsNext
      next_after less following h sorted =
          let x = member_subtree n v root front p back h.shows in
          let t : Tree = fork x.c x.a p x.b in
          let summed = subst (λ (y : Tree). IsSummed (greatest_in es) None y) (sym x.same) h.summed in
          let sb = (summed_below (greatest_in es) x.fs t summed).3 in
          let rb : right ≡ top x.b = right_is ∙ x.subtree.tree.0.right in
          let many : g ≡ or_zero (total (greatest_in es) x.b) = g_is ∙ ap or_zero (ap (seen (greatest_in es)) rb ∙ summed_seen (greatest_in es) (Some p) x.b sb) in
          let rest = after_sorted (in_order x.b ++ after x.fs) x.back_is sorted in
          following x.fs t x.subtree summed refl (sorted_after start (in_order x.b) (after x.fs) rest) (omega (arith, x.low))
          ∙ (sym (ap first (skipped start es from to x.b (after x.fs) (omega (arith, less, many)))) ∙ ap (λ (y : List Place). first (filter (test start es from to) y)) x.back_is)
