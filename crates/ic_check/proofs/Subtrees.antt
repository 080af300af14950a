-- A walk down a tree whose children name their parents visits no place twice, and its result says whether the entries represent a subtree.
use Rattle.std.proofs.Common.{◌≡◌, ℕ, ◌+◌, ◌≤◌, true, MatchOption, Option, Some, None, List, [], ◌∷◌, ◌++◌, length, length-append, refl, sym, ap, ◌∙◌, subst, arith, append_assoc}
use Rattle.std.proofs.Math.Nat.{max-le, le-max_left, le-max_right}
use Rattle.std.specs.List.{AllByRecursion}
use Rattle.ic_link_ops.specs.Prelude.{Place, IsAbsent, IsDistinct, IsDisjoint, Table, Tree, leaf, fork, top, in_order, top_color, weight, blacks}
use Rattle.ic_link_ops.specs.declared.color.Color.{Color}
use Rattle.ic_link_ops.specs.declared.color.Color.TheVariants.{Red, Black}
use Rattle.ic_link_ops.specs.RedBlackTree.{Node, IsTree, Represents}
use Rattle.ic_link_ops.proofs.Prelude.{all_both, all_map, none_not, some_same, absent_both, distinct_left, distinct_right, distinct_insert, distinct_disjoint, distinct_splice, few_places}
use Rattle.ic_link_ops.proofs.Trees.{top_not, one_tree}
use Rattle.ic_rbtree.specs.Height.{height}
use Rattle.ic_rbtree.proofs.Heights.{height_few, exponent_small}
use Rattle.ic_check.specs.declared.tree.Subtree.{Subtree}
use Rattle.ic_check.specs.Subtrees.{AreApart, AreNoRedPair, AreUnlike, IsJoined, IsPathUp, HasPathUp, IsSound, IsTreeBelow, HasNoTree}

-- if two equal lists end with r ∷ w and with q ∷ w, the places r and q are the same
same_before : (f g w : List Place) (r q : Place) → f ++ r ∷ w ≡ g ++ q ∷ w → r ≡ q
same_before [] [] w r q e = cc
same_before [] (y ∷ g) w r q e = absurd (omega (arith, ap length e, length-append g (q ∷ w)))
same_before (x ∷ f) [] w r q e = absurd (omega (arith, ap length e, length-append f (r ∷ w)))
same_before (x ∷ f) (y ∷ g) w r q e = same_before f g w r q (cc)

-- if no place satisfies both P and Q, a list of places that satisfy P and a list of places that satisfy Q share no place
apart_all : {P Q : Place → Type 0} → ((x : Place) → P x → Q x → ⊥) → (s t : List Place) → AllByRecursion P s → AllByRecursion Q t → IsDisjoint s t
apart_all {P} {Q} apart [] t h k = tt
apart_all {P} {Q} apart (x ∷ s) t h k = (absent t k, apart_all apart s t h.1 k) where
  absent : (t : List Place) → AllByRecursion Q t → IsAbsent x t
  absent [] k = tt
  absent (y ∷ t) k = ((λ e. apart y (subst P e h.0) k.0), absent t k.1)

absent_all : (P : Place → Type 0) (p : Place) → (P p → ⊥) → (s : List Place) → AllByRecursion P s → IsAbsent p s
absent_all P p never [] h = tt
absent_all P p never (x ∷ s) h = ((λ e. never (subst P (sym e) h.0)), absent_all P p never s h.1)

-- a member of t is not a member of s if the two lists share no member
outside : (q : Place) (s t : List Place) → (IsAbsent q t → ⊥) → IsDisjoint s t → IsAbsent q s
outside q [] t m d = tt
outside q (x ∷ s) t m d = ((λ e. m (rw e d.0)), outside q s t m d.1)

pub blacks_low : (t : Tree) → blacks t ≤ height t
blacks_low leaf = omega arith
blacks_low (fork Red a p b) = omega (arith, blacks_low a, le-max_left (height a) (height b))
blacks_low (fork Black a p b) = omega (arith, blacks_low a, le-max_left (height a) (height b))

module _ {E : Type 0} (n : E → Node) (entry : Place → E) where
  -- there is only one path up from o
  one_path : (v w : List Place) (o : Option Place) → IsPathUp n entry o v → IsPathUp n entry o w → v ≡ w
  one_path [] [] o h k = refl
  one_path [] (q ∷ w) o h k = absurd (none_not q (sym h ∙ k.0))
  one_path (p ∷ v) [] o h k = absurd (none_not p (sym k ∙ h.0))
  one_path (p ∷ v) (q ∷ w) o h k =
      let same : q ≡ p = some_same (sym k.0 ∙ h.0) in
      rw same (ap (λ (l : List Place). p ∷ l) (one_path v w (n (entry p)).parent h.1 (subst (λ (x : Place). IsPathUp n entry (n (entry x)).parent w) same k.1)))

  -- the path of parents up from x leads through the root `o` of a tree, and from there on through the places w
  abbrev Comes : Option Place → List Place → Place → Type 0
  Comes o w x = (f : List Place) × (r : Place) × (o ≡ Some r) × IsPathUp n entry (Some x) (f ++ r ∷ w)

  -- the path of parents up from each member of a tree leads through the root of the tree, and from there on through the places w
  paths : (t : Tree) (up : Option Place) (w : List Place) → IsTree n entry up t → IsPathUp n entry up w → AllByRecursion (Comes (top t) w) (in_order t)
  paths leaf up w h k = tt
  paths (fork c a p b) up w h k =
      let here : IsPathUp n entry (Some p) (p ∷ w) = (refl, rw h.0.parent k) in
      all_both (Comes (Some p) w) (in_order a) (p ∷ in_order b)
      (all_map (longer (top a)) (in_order a) (paths a (Some p) (p ∷ w) h.1 here))
      (([], p, refl, here), all_map (longer (top b)) (in_order b) (paths b (Some p) (p ∷ w) h.2 here))
    where
      longer : (o : Option Place) (z : Place) → Comes o (p ∷ w) z → Comes (Some p) w z
      longer o z k = (k.0 ++ k.1 ∷ [], p, refl, subst (IsPathUp n entry (Some z)) (sym (append_assoc k.0 (k.1 ∷ []) (p ∷ w))) k.3)

  -- if two different children name p as their parent, the subtrees below them share no place, and p is in neither subtree
  pub fork_distinct : (c : Color) (a : Tree) (p : Place) (b : Tree) (w : List Place) → IsPathUp n entry (Some p) (p ∷ w)
      → IsTree n entry (Some p) a → IsTree n entry (Some p) b → AreApart (top a) (top b) → IsDistinct (in_order a) → IsDistinct (in_order b)
      → IsDistinct (in_order (fork c a p b))
  fork_distinct c a p b w here left right apart d e =
      let from_left = paths a (Some p) (p ∷ w) left here in
      let from_right = paths b (Some p) (p ∷ w) right here in
      let disjoint = apart_all other (in_order a) (in_order b) from_left from_right in
      distinct_insert (in_order a) (in_order b) p (distinct_splice [] (in_order a) (in_order b) e d disjoint)
      (absent_both p (in_order a) (in_order b) (absent_all (Comes (top a) (p ∷ w)) p (above (top a)) (in_order a) from_left) (absent_all (Comes (top b) (p ∷ w)) p (above (top b)) (in_order b) from_right))
    where
      above : (o : Option Place) → Comes o (p ∷ w) p → ⊥
      above o k = let same = one_path (k.0 ++ k.1 ∷ p ∷ w) (p ∷ w) (Some p) k.3 here in omega (arith, ap length same, length-append k.0 (k.1 ∷ p ∷ w))

      other : (z : Place) → Comes (top a) (p ∷ w) z → Comes (top b) (p ∷ w) z → ⊥
      other z u v =
          let same = one_path (u.0 ++ u.1 ∷ p ∷ w) (v.0 ++ v.1 ∷ p ∷ w) (Some z) u.3 v.3 in
          apart u.1 u.2 (v.2 ∙ ap Some (sym (same_before u.0 v.0 (p ∷ w) u.1 v.1 same)))

  -- the place p can be a member below `up`: its entry is linked, names `up` as its parent, and names two different children
  pub record MayStandBelow (up : Option Place) (p : Place) : Type 0 where
    pub linked : (n (entry p)).linked ≡ true
    pub parent : (n (entry p)).parent ≡ up
    pub apart : AreApart (n (entry p)).left (n (entry p)).right

  pub stands_there : {up left right : Option Place} {p : Place} → (n (entry p)).linked ≡ true → (n (entry p)).parent ≡ up
      → left ≡ (n (entry p)).left → right ≡ (n (entry p)).right → AreApart left right → MayStandBelow up p
  stands_there linked parent left right apart = record { linked = linked; parent = parent; apart = λ q e f. apart q (left ∙ e) (right ∙ f) }

  -- if there is a path up from `up`, and p has the parent `up`, there is a path up from p
  pub path_through : {up : Option Place} {p : Place} → (n (entry p)).parent ≡ up → HasPathUp n entry up → HasPathUp n entry (Some p)
  path_through {up} {p} parent path = (p ∷ path.0, (refl, rw parent path.1))

  -- a sound subtree with the root p is made of p and two sound subtrees, and the entry of p names the roots of these subtrees
  pub record Parts (up : Option Place) (p : Place) (t : Tree) : Type 0 where
    pub a : Tree
    pub b : Tree
    pub is : t ≡ fork (n (entry p)).color a p b
    pub stands : MayStandBelow up p
    pub left : IsSound n entry (Some p) (n (entry p)).left a
    pub right : IsSound n entry (Some p) (n (entry p)).right b
    pub no_red_pair : AreNoRedPair (n (entry p)).color (top_color a) (top_color b)
    pub even : blacks a ≡ blacks b

  pub parts : (t : Tree) (up : Option Place) (p : Place) → IsSound n entry up (Some p) t → Parts up p t
  parts leaf up p s = absurd (none_not p (sym s.starts))
  parts (fork c a q b) up p s =
      let color : (n (entry q)).color ≡ c = s.entries.0.color in
      let same : p ≡ q = some_same s.starts in
      rw same (record {
        a = a;
        b = b;
        is = ap (λ (x : Color). fork x a q b) (sym color);
        stands = record { linked = s.entries.0.linked; parent = s.entries.0.parent; apart = λ r e f. twice r (sym s.entries.0.left ∙ e) (sym s.entries.0.right ∙ f) };
        left = record {
          entries = s.entries.1;
          starts = s.entries.0.left;
          distinct = distinct_left (in_order a) (q ∷ in_order b) s.distinct;
          no_red_pair = s.no_red_pair.1;
          even = s.even.1;
        };
        right = record {
          entries = s.entries.2;
          starts = s.entries.0.right;
          distinct = (distinct_right (in_order a) (q ∷ in_order b) s.distinct).1;
          no_red_pair = s.no_red_pair.2;
          even = s.even.2;
        };
        no_red_pair = λ red. s.no_red_pair.0 (sym color ∙ red);
        even = s.even.0;
      })
    where
      twice : (r : Place) → top a ≡ Some r → top b ≡ Some r → ⊥
      twice r e f = top_not a r (outside r (in_order a) (q ∷ in_order b) (λ out. top_not b r out.1 f) (distinct_disjoint (in_order a) (q ∷ in_order b) s.distinct)) e

  -- if there is no root, the subtree is the empty tree, which is sound
  pub nothing_below : (up : Option Place) → IsSound n entry up None leaf
  nothing_below up = record { entries = tt; starts = refl; distinct = tt; no_red_pair = tt; even = tt }

  -- if no level is left, there is no subtree with the root p
  pub no_levels : {levels : ℕ} {up : Option Place} {p : Place} → levels ≡ 0 → HasNoTree n entry levels up (Some p)
  no_levels {levels} {up} {p} none t s low =
      let k = parts t up p s in omega (arith, none, low, ap height k.is, le-max_left (height k.a) (height k.b))

  -- if the entry of p does not allow that p is a member below `up`, there is no subtree with the root p below `up`
  pub stands_not : {levels : ℕ} {up : Option Place} {p : Place} → (MayStandBelow up p → ⊥) → HasNoTree n entry levels up (Some p)
  stands_not {levels} {up} {p} never t s low = never (parts t up p s).stands

  -- if there is no subtree on one side below p, there is no subtree with the root p
  pub none_left : {levels few : ℕ} {up at : Option Place} {p : Place} → levels ≤ few + 1 → at ≡ (n (entry p)).left → HasNoTree n entry few (Some p) at → HasNoTree n entry levels up (Some p)
  none_left {levels} {few} {up} {at} {p} fits is none t s low =
      let k = parts t up p s in
      subst (HasNoTree n entry few (Some p)) is none k.a k.left (omega (arith, fits, low, ap height k.is, le-max_left (height k.a) (height k.b)))

  pub none_right : {levels few : ℕ} {up at : Option Place} {p : Place} → levels ≤ few + 1 → at ≡ (n (entry p)).right → HasNoTree n entry few (Some p) at → HasNoTree n entry levels up (Some p)
  none_right {levels} {few} {up} {at} {p} fits is none t s low =
      let k = parts t up p s in
      subst (HasNoTree n entry few (Some p)) is none k.b k.right (omega (arith, fits, low, ap height k.is, le-max_right (height k.a) (height k.b)))

  -- there are at most as many black members on a way down as the subtree has levels
  pub few_blacks : {few : ℕ} {up at : Option Place} {found : Subtree} → IsTreeBelow n entry few up at found → found.blacks ≤ few
  few_blacks x = omega (arith, x.3.blacks, blacks_low x.0, x.2)

  pub tree_at : {few : ℕ} {up at o : Option Place} {found : Subtree} → at ≡ o → IsTreeBelow n entry few up at found → IsTreeBelow n entry few up o found
  tree_at {few} {up} {at} {o} {found} e h = subst (λ (x : Option Place). IsTreeBelow n entry few up x found) e h

  module _ {p : Place} {few : ℕ} {left right : Subtree}
      (x : IsTreeBelow n entry few (Some p) (n (entry p)).left left) (y : IsTreeBelow n entry few (Some p) (n (entry p)).right right) where
    both_distinct : {up : Option Place} → HasPathUp n entry up → MayStandBelow up p → IsDistinct (in_order (fork (n (entry p)).color x.0 p y.0))
    both_distinct path stands =
        fork_distinct (n (entry p)).color x.0 p y.0 path.0 (refl, rw stands.parent path.1) x.1.entries y.1.entries
        (λ q e f. stands.apart q (x.1.starts ∙ e) (y.1.starts ∙ f)) x.1.distinct y.1.distinct

    -- the two subtrees below p have at most 8,589,934,591 members together
    pub few_members : {up : Option Place} → HasPathUp n entry up → MayStandBelow up p → left.members + right.members ≤ 8589934591
    few_members path stands =
        let few = few_places (in_order (fork (n (entry p)).color x.0 p y.0)) (both_distinct path stands) in
        omega (arith, few, x.3.members, y.3.members, length-append (in_order x.0) (p ∷ in_order y.0))

    -- if `found` joins the results for the two subtrees below p, there is a subtree with the root p and the result `found`
    pub joined : {up : Option Place} {levels : ℕ} {found : Subtree} → HasPathUp n entry up → MayStandBelow up p → few + 1 ≤ levels → IsJoined (n (entry p)).color left right found → IsTreeBelow n entry levels up (Some p) found
    joined {up} {levels} {found} path stands fits j = (
      fork (n (entry p)).color x.0 p y.0,
      record {
        entries = (record { linked = stands.linked; left = x.1.starts; right = y.1.starts; parent = stands.parent; color = refl }, x.1.entries, y.1.entries);
        starts = refl;
        distinct = both_distinct path stands;
        no_red_pair = (reds, x.1.no_red_pair, y.1.no_red_pair);
        even = (sym x.3.blacks ∙ j.even ∙ y.3.blacks, x.1.even, y.1.even);
      },
      omega (arith, fits, max-le x.2 y.2),
      record {
        members = omega (arith, j.members, x.3.members, y.3.members, length-append (in_order x.0) (p ∷ in_order y.0));
        blacks = j.blacks ∙ ap (λ (k : ℕ). weight (n (entry p)).color + k) x.3.blacks;
        color = j.color;
      },
    ) where
      reds : AreNoRedPair (n (entry p)).color (top_color x.0) (top_color y.0)
      reds red = let k = j.no_red_pair red in (sym x.3.color ∙ k.0, sym y.3.color ∙ k.1)

    -- if the results for the two subtrees below p cannot be joined, there is no subtree with the root p
    pub unlike : {up : Option Place} {levels : ℕ} → AreUnlike (n (entry p)).color left right → HasNoTree n entry levels up (Some p)
    unlike {up} {levels} never t s low =
        let k = parts t up p s in
        let a : x.0 ≡ k.a = one_tree n entry (Some p) x.0 k.a x.1.entries k.left.entries (sym x.1.starts ∙ k.left.starts) in
        let b : y.0 ≡ k.b = one_tree n entry (Some p) y.0 k.b y.1.entries k.right.entries (sym y.1.starts ∙ k.right.starts) in
        never (x.3.blacks ∙ ap blacks a ∙ k.even ∙ sym (y.3.blacks ∙ ap blacks b))
        (λ red. let r = k.no_red_pair red in (x.3.color ∙ ap top_color a ∙ r.0, y.3.color ∙ ap top_color b ∙ r.1))

    -- whether there is a subtree with the root p follows from whether the results for its two subtrees can be joined
    pub told : {up : Option Place} {levels : ℕ} {c : Color} → HasPathUp n entry up → MayStandBelow up p → few + 1 ≤ levels → c ≡ (n (entry p)).color → (o : Option Subtree)
        → MatchOption o (AreUnlike c left right) (IsJoined c left right) → MatchOption o (HasNoTree n entry levels up (Some p)) (IsTreeBelow n entry levels up (Some p))
    told path stands fits color None h = unlike (subst (λ (k : Color). AreUnlike k left right) color h)
    told path stands fits color (Some found) h = joined path stands fits (subst (λ (k : Color). IsJoined k left right found) color h)

module _ {E : Type 0} {n : E → Node} {t : Table E} {root : Option Place} where
  -- a tree that the table represents is sound, and has at most 66 levels
  pub sound : {s : List Place} (shown : Represents n t root s) → IsSound n t.entry None root shown.tree
  sound shown = record {
    entries = shown.held.entries;
    starts = shown.starts;
    distinct = rw shown.held.order shown.held.distinct;
    no_red_pair = shown.shape.no_red_pair;
    even = shown.shape.even;
  }

  pub low : {s : List Place} (shown : Represents n t root s) → height shown.tree ≤ 66
  low shown =
      let few = few_places (in_order shown.tree) (sound shown).distinct in
      exponent_small (height shown.tree) (length (in_order shown.tree) + 1) (omega (arith, few)) (height_few shown.tree shown.shape)

  -- if the check finds no tree of at most 66 levels with this root, the table represents no sequence for the tree
  pub none_represented : HasNoTree n t.entry 66 None root → (s : List Place) → Represents n t root s → ⊥
  none_represented none s shown = none shown.tree (sound shown) (low shown)

  -- if the check finds a tree with a red root, the table represents no sequence for the tree
  pub red_not_represented : {levels : ℕ} {found : Subtree} → IsTreeBelow n t.entry levels None root found → found.color ≡ Red → (s : List Place) → Represents n t root s → ⊥
  red_not_represented x red s shown =
      let same = one_tree n t.entry None x.0 shown.tree x.1.entries shown.held.entries (sym x.1.starts ∙ shown.starts) in
      let color : Red ≡ Black = sym red ∙ x.3.color ∙ ap top_color same ∙ shown.shape.black_root in
      cc

  -- if the check finds a tree with a black root, the table represents a sequence with as many members as the check has found
  pub black_represented : {levels : ℕ} {found : Subtree} → IsTreeBelow n t.entry levels None root found → found.color ≡ Black
      → (s : List Place) × Represents n t root s × (length s ≡ found.members)
  black_represented x black = (
    in_order x.0,
    record {
      tree = x.0;
      held = record { order = refl; distinct = x.1.distinct; entries = x.1.entries };
      starts = x.1.starts;
      shape = record { black_root = sym x.3.color ∙ black; no_red_pair = x.1.no_red_pair; even = x.1.even };
    },
    sym x.3.members,
  )
