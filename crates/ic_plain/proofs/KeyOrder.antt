-- A caller needs these lemmas about trees in the order of their keys. They say what a search finds, and that the order stays after an insert and a removal.
use Rattle.std.proofs.Common.{◌≡◌, ◌≢◌, Bool, true, false, cond, Option, Some, None, IsSome, not, List, [], ◌∷◌, ◌++◌, map, drop, refl, sym, ap, ◌∙◌, subst, true≢false, is_gt, Ordering, Less, Equal, Greater}
use Rattle.std.proofs.lemmas.List.Elements.{filter_map-append}
use Rattle.std.specs.Cmp.{IsTotalOrder, upto}
use Rattle.std.specs.List.{cons_option, filter}
use Rattle.ic_link_ops.specs.Prelude.{Place, Objects, Places, object_at, join, insert, first, last, but_last, Table, HasMember, ArePlaced, RepresentsPlaced, values_at}
use Rattle.ic_link_ops.proofs.Prelude.{others_placed, all_back, all_with, all_without, stand_beside, vacant_absent, first_is, none_not, some_same, split_last}
use Rattle.ic_link_ops.specs.RedBlackTree.{Node, Represents}
use Rattle.ic_link_ops.proofs.RepresentedTrees.{represents_kept, represents_nothing}
use Rattle.ic_rbtree.specs.Prelude.{Finds, IsBorder, IsLowerBorder, IsSorted, IsSortedFor, at_most_at, equal_at, less_at, compared, order_of, own_order, InsertsInOrder}
use Rattle.ic_rbtree.specs.Tree.{adapter_of, root_of}
use Rattle.ic_rbtree.specs.declared.tree.RBTree.{RBTree}
use Rattle.ic_rbtree.specs.declared.keys.key_adapter.Bound.TheVariants.{Included}
use Rattle.ic_rbtree.proofs.KeyLaws.{cuts_at_most, found_is, lower_is, sorted_for, stays_sorted, value_there}
use Rattle.ic_rbtree.proofs.SortedAnswers.{put_after}
use Rattle.ic_rbtree.proofs.SortedValues.{own_order_is}
use Rattle.ic_plain.specs.SortedTrees.{IsInOrder, RepresentsInOrder}

-- the first place of a represented sequence is a member. `last_member` says the same of the last place
pub first_member : {shows : List Place → Type 0} (s : List Place) → shows s → {p : Place} → Some p ≡ first s → HasMember shows p
first_member {shows} s shown is = record { front = []; back = drop 1 s; shown = subst shows (first_is s is) shown }

pub last_member : {shows : List Place → Type 0} (s : List Place) → shows s → {p : Place} → Some p ≡ last s → HasMember shows p
last_member {shows} s shown is = record { front = but_last s; back = []; shown = subst shows (split_last s (sym is)) shown }

-- the first place of s that passes a test occurs in s. `passing_member` says that it is a member if s is represented
first_passing : (test : Place → Bool) (s : List Place) (p : Place) → Some p ≡ first (filter test s) → (front : List Place) × (back : List Place) × (s ≡ front ++ p ∷ back)
first_passing test [] p is = absurd (none_not p (sym is))
first_passing test (x ∷ s) p is = by (test x) is (λ rest. first_passing test s p rest) where
  by : (b : Bool) → Some p ≡ first (cond b (x ∷ filter test s) (filter test s)) → (Some p ≡ first (filter test s) → (front : List Place) × (back : List Place) × (s ≡ front ++ p ∷ back))
      → (front : List Place) × (back : List Place) × (x ∷ s ≡ front ++ p ∷ back)
  by true is rest = ([], s, ap (λ (y : Place). y ∷ s) (some_same (sym is)))
  by false is rest = let r = rest is in (x ∷ r.0, r.1, ap (λ (t : List Place). x ∷ t) r.2)

pub passing_member : {shows : List Place → Type 0} (s : List Place) → shows s → (test : Place → Bool) {p : Place} → Some p ≡ first (filter test s) → HasMember shows p
passing_member {shows} s shown test {p} is = let r = first_passing test s p is in record { front = r.0; back = r.1; shown = subst shows r.2 shown }

-- a sorted sequence stays sorted if one member is left out
module _ {T K : Type 0} {cmp : K → K → Ordering} (total : IsTotalOrder cmp) (key : T → K) where
  level : (r : Ordering) → r ≢ Greater → is_gt r ≡ false
  level Less h = refl
  level Equal h = refl
  level Greater h = absurd (h refl)

  upward : (k l m : K) → cmp k l ≢ Greater → cmp l m ≢ Greater → cmp k m ≢ Greater
  upward k l m h g = λ e. true≢false (sym (ap is_gt e) ∙ upto total k l m (level (cmp k l) h) (level (cmp l m) g))

  skip : (p q : T) (s : List T) → IsSorted cmp (map key (p ∷ q ∷ s)) → IsSorted cmp (map key (p ∷ s))
  skip p q [] h = tt
  skip p q (r ∷ s) h = (upward (key p) (key q) (key r) h.0 h.1.0, h.1.1)

  rises_without : (front : List T) (p : T) (back : List T) → IsSorted cmp (map key (front ++ p ∷ back)) → IsSorted cmp (map key (front ++ back))
  rises_without [] p [] h = tt
  rises_without [] p (x ∷ back) h = h.1
  rises_without (f ∷ []) p back h = skip f p back h
  rises_without (f ∷ g ∷ front) p back h = (h.0, rises_without (g ∷ front) p back h.1)

module _ {T K : Type 0} {cmp : K → K → Ordering} (key : T → K) where
  -- A NEW TREE is in the order of the keys, because it has no members
  pub nothing_in_order : {E : Type 0} {n : E → Node} (t : Table E) {root : Option Place} (objects : Objects T) → root ≡ None → RepresentsInOrder cmp key (Represents n t root) objects
  nothing_in_order {n = n} t objects none = record { placed = record { members = []; shown = rw none (represents_nothing {n = n} t); placed = tt }; sorted = tt }

module _ {T K : Type 0} {cmp : K → K → Ordering} (total : IsTotalOrder cmp) (key : T → K) {old : List Place → Type 0} (one : (s u : List Place) → old s → old u → s ≡ u) where
  module _ (objects : Objects T) (o : RepresentsInOrder cmp key old objects) where
    -- in each represented sequence, an object is at each member. `sorted_in` says that these members are sorted for each key
    placed_in : (s : List Place) → old s → ArePlaced objects s
    placed_in s shown = subst (ArePlaced objects) (one o.placed.members s o.placed.shown shown) o.placed.placed

    sorted_in : (s : List Place) → old s → (k : K) → IsSortedFor (compared (order_of cmp key k) objects) s
    sorted_in s shown k =
        sorted_for total key objects k s (placed_in s shown) (subst (λ (u : List Place). IsSorted cmp (map key (values_at objects u))) (one o.placed.members s o.placed.shown shown) o.sorted)

    -- a search finds the first member with the key (`found`). A search by a lower bound finds the first member with the key or a greater key (`bounded`)
    pub found : (k : K) (s : List Place) → old s → {position : Option Place} → Finds (compared (order_of cmp key k) objects) s position
        → position ≡ first (filter (equal_at (compared (order_of cmp key k) objects)) s)
    found k s shown finds = found_is (sorted_in s shown k) finds

    pub bounded : (k : K) (s : List Place) → old s → {position : Option Place} → IsLowerBorder (Included (compared (order_of cmp key k) objects)) s position
        → position ≡ first (filter (at_most_at (compared (order_of cmp key k) objects)) s)
    bounded k s shown border = lower_is (cuts_at_most (sorted_in s shown k)) border

    -- an insert in order places the object after the members whose keys are not greater, and the tree stays in the order of the keys
    module _ {E H : Type 0} {Represents : Table E → H → List Place → Type 0} {t u : Table E} {head : H} {p : Place} (there : IsSome (object_at objects p)) where
      pub inserted : (s : List Place) → old s → InsertsInOrder Represents (compared (own_order cmp key objects p) objects) t u head s p
          → Represents u head (filter (λ q. not (less_at (compared (own_order cmp key objects p) objects) q)) s ++ p ∷ filter (less_at (compared (own_order cmp key objects p) objects)) s)
      inserted s shown x =
          let v = value_there total key objects (object_at objects p) there in
          let sorted = subst (λ at. IsSortedFor at s) (sym (own_order_is cmp key objects p v.1)) (sorted_in s shown (key v.0)) in
          subst (Represents u head) (put_after sorted x.gap x.same x.border p) x.inserted.shows

      pub inserted_in_order : InsertsInOrder Represents (compared (own_order cmp key objects p) objects) t u head o.placed.members p → RepresentsInOrder cmp key (Represents u head) objects
      inserted_in_order x =
          let v = value_there total key objects (object_at objects p) there in
          let placed : ArePlaced objects (join x.gap) = subst (ArePlaced objects) (sym x.same) o.placed.placed in
          let sorted : IsSorted cmp (map key (values_at objects (join x.gap))) = subst (λ (s : List Place). IsSorted cmp (map key (values_at objects s))) (sym x.same) o.sorted in
          let border = subst (λ at. IsBorder (less_at at) x.gap) (own_order_is cmp key objects p v.1) x.border in
          record {
            placed = record {
              members = insert x.gap p;
              shown = x.inserted.shows;
              placed = all_with (λ q. IsSome (object_at objects q)) x.gap.front p x.gap.back there placed;
            };
            sorted = stays_sorted total key objects p v.1 x.gap placed sorted border;
          }

  -- A REMOVAL of a member leaves the tree in the order of the keys
  pub removed_in_order : {new : List Place → Type 0} {p : Place} → HasMember old p → ((front back : List Place) → old (front ++ p ∷ back) → new (front ++ back))
      → (objects : Objects T) → RepresentsInOrder cmp key old objects → RepresentsInOrder cmp key new objects
  removed_in_order {p = p} m off objects o =
      let whole = m.front ++ p ∷ m.back in
      let placed = placed_in objects o whole m.shown in
      let v = value_there total key objects (object_at objects p) (all_back (λ q. IsSome (object_at objects q)) m.front (p ∷ m.back) placed).0 in
      let sorted : IsSorted cmp (map key (values_at objects whole)) =
      subst (λ (s : List Place). IsSorted cmp (map key (values_at objects s))) (one o.placed.members whole o.placed.shown m.shown) o.sorted in
      let are : values_at objects whole ≡ values_at objects m.front ++ v.0 ∷ values_at objects m.back =
      filter_map-append (object_at objects) m.front (p ∷ m.back) ∙ ap (λ (x : Option T). values_at objects m.front ++ cons_option x (values_at objects m.back)) v.1 in
      record {
        placed = record {
          members = m.front ++ m.back;
          shown = off m.front m.back m.shown;
          placed = all_without (λ q. IsSome (object_at objects q)) m.front p m.back placed;
        };
        sorted = subst (λ (l : List T). IsSorted cmp (map key l)) (sym (filter_map-append (object_at objects) m.front m.back))
            (rises_without total key (values_at objects m.front) v.0 (values_at objects m.back) (subst (λ (l : List T). IsSorted cmp (map key l)) are sorted));
      }

-- in each of the following lemmas the tree is in order: its members are in the order of their keys
module _ {D T K E : Type 0} (cmp : K → K → Ordering) (key_of : D → T → K) (node : E → Node) (t : Table E) (tree : RBTree D (Option Place)) (objects : Objects T) (o : IsInOrder cmp key_of node t tree objects) where
  -- if a tree is in order, the table represents its members, and an object is at each member
  pub in_order_placed : RepresentsPlaced (Represents node t (root_of tree)) objects
  unfolding IsInOrder
  in_order_placed = o.placed

  -- the tree is still in order after a call of `Pool::place`, which grows the table and places a new object. `keeps.entries` and `placed` are clauses
  -- of this call
  pub in_order_grown : (grown : Table E) {more : Objects T} {p : Place} {v : T} → ((q : Place) → grown.entry q ≡ t.entry q) → Places objects more p v → IsInOrder cmp key_of node grown tree more
  unfolding IsInOrder
  in_order_grown grown {more} {p} entries places =
      let s = o.placed.members in
      let stood = stand_beside objects more p (others_placed places) (vacant_absent objects p places.vacant s o.placed.placed) (record { placed = o.placed.placed; are = refl }) in
      record {
        placed = record { members = s; shown = represents_kept o.placed.shown (λ q m. entries q); placed = stood.placed };
        sorted = subst (λ (l : List T). IsSorted cmp (map (key_of (adapter_of tree)) l)) (sym stood.are) o.sorted;
      }
