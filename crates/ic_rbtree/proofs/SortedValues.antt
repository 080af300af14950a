-- Laws for callers about a tree and its objects after each kind of step.
use Rattle.std.proofs.Common.{◌≡◌, ◌≢◌, Bool, true, Option, Some, None, IsSome, List, [], ◌∷◌, ◌++◌, map, drop, refl, sym, ap, ◌∙◌, subst, true≢false, is_lt, Ordering}
use Rattle.std.proofs.lemmas.List.Elements.{filter_map-append}
use Rattle.std.specs.Cmp.{IsTotalOrder}
use Rattle.std.specs.List.{AllByRecursion, cons_option}
use Rattle.ic_link_ops.specs.Prelude.{Place, Objects, Places, object_at, Cut, join, insert, IsAbsent, first, Table, IsUnlinked, LinksAlso, Unlinks, ArePlaced, StandAt, values_at}
use Rattle.ic_link_ops.proofs.Prelude.{placed_there, others_placed, IsKind, kept_represented, absent_without, first_is, split_member, all_back}
use Rattle.ic_link_ops.proofs.LinkedSets.{everywhere}
use Rattle.ic_link_ops.proofs.PlacedValues.{stand_beside, stand_put, stand_first, stand_rest, vacant_absent}
use Rattle.ic_rbtree.specs.Prelude.{IsBorder, IsSorted, less_at, answer_at, compared, order_of, own_order, InsertsInOrder}
use Rattle.ic_rbtree.specs.SortedValues.{HasSorted, InsertsValue}
use Rattle.ic_rbtree.proofs.KeyLaws.{cuts_less, one_border, sorted_for, sorted_tail, stays_sorted}

module _ {V K : Type 0} (cmp : K → K → Ordering) (key_of : V → K) (objects : Objects V) where
  -- THE ORDER OF AN OBJECT'S OWN KEY, by which an insert compares, is the order of the key of the value at its place
  pub own_order_is : (p : Place) {v : V} → object_at objects p ≡ Some v → compared (own_order cmp key_of objects p) objects ≡ compared (order_of cmp key_of (key_of v)) objects
  own_order_is p there = ap (λ (o : Option V). compared (λ value. answer_at (λ own. cmp (key_of own) (key_of value)) o) objects) there

module _ {V K : Type 0} {cmp : K → K → Ordering} (total : IsTotalOrder cmp) (key_of : V → K) (objects : Objects V) where
  less_values : (k : K) (s : List Place) → ArePlaced objects s → AllByRecursion (λ q. less_at (compared (order_of cmp key_of k) objects) q ≡ true) s
      → AllByRecursion (λ x. is_lt (cmp k (key_of x)) ≡ true) (values_at objects s)
  less_values k [] placed less = tt
  less_values k (q ∷ s) placed less = by (object_at objects q) placed.0 less.0 (less_values k s placed.1 less.1) where
    by : (o : Option V) → IsSome o → is_lt (answer_at (order_of cmp key_of k) o) ≡ true → AllByRecursion (λ x. is_lt (cmp k (key_of x)) ≡ true) (values_at objects s)
        → AllByRecursion (λ x. is_lt (cmp k (key_of x)) ≡ true) (cons_option o (values_at objects s))
    by None here less rest = absurd (true≢false (sym here))
    by (Some x) here less rest = (less, rest)

  -- AFTER A BORDER OF A KEY in a sorted sequence, all keys are greater than this key
  pub greater_after : (k : K) (gap : Cut) → ArePlaced objects (join gap) → IsSorted cmp (map key_of (values_at objects (join gap)))
      → IsBorder (less_at (compared (order_of cmp key_of k) objects)) gap → AllByRecursion (λ x. is_lt (cmp k (key_of x)) ≡ true) (values_at objects gap.back)
  greater_after k gap placed sorted border =
      let at = compared (order_of cmp key_of k) objects in
      let c = cuts_less (sorted_for total key_of objects k (join gap) placed sorted) in
      let r = one_border (less_at at) c.front c.back gap.front gap.back c.same c.fail c.pass border.fails border.passes in
      less_values k gap.back (all_back (λ q. IsSome (object_at objects q)) gap.front gap.back placed) (subst (AllByRecursion (λ q. less_at at q ≡ true)) (sym r.1) c.pass)

module _ {V K E H : Type 0} {Represents : Table E → H → List Place → Type 0} {linked : E → Bool} {empty : H} (kind : IsKind Represents linked empty)
    {cmp : K → K → Ordering} (total : IsTotalOrder cmp) {key_of : V → K} where
  -- A TABLE WITHOUT LINKED PLACES has a tree without members
  pub has_none : {t : Table E} {root : H} (objects : Objects V) → root ≡ empty → ((p : Place) → IsUnlinked linked t p) → HasSorted cmp key_of Represents linked t root objects []
  has_none {t} objects none unlinked = record {
    members = [];
    shown = rw none (kind.nothing t);
    stand = record { placed = tt; are = refl };
    sorted = tt;
    only = λ p out. unlinked p;
  }

  module _ {old : Table E} {root : H} {objects : Objects V} {values : List V} (has : HasSorted cmp key_of Represents linked old root objects values) where
    -- AFTER `cover`, whatever its result is, the table still has the tree with these values
    pub has_covered : {new : Table E} → ((q : Place) → new.entry q ≡ old.entry q) → HasSorted cmp key_of Represents linked new root objects values
    has_covered stays = record {
      members = has.members;
      shown = kept_represented kind stays has.shown;
      stand = has.stand;
      sorted = has.sorted;
      only = λ p out. ap linked (stays p) ∙ has.only p out;
    }

    -- AFTER AN OBJECT THAT IS NOT LINKED was placed or taken out, the table still has the tree with these values
    pub has_beside : {new : Objects V} {p : Place} → IsUnlinked linked old p → ((q : Place) → q ≢ p → object_at new q ≡ object_at objects q)
        → HasSorted cmp key_of Represents linked old root new values
    has_beside {new} {p} off same = record {
      members = has.members;
      shown = has.shown;
      stand = stand_beside objects new p same (kind.free old root has.members p has.shown off) has.stand;
      sorted = has.sorted;
      only = has.only;
    }

    -- AFTER `from_box` AND AN INSERT IN ORDER of the new object, the table has the tree with one value more
    module _ {new : Table E} {after : H} {more : Objects V} {p : Place} {v : V} (places : Places objects more p v)
        (put : (s : List Place) → Represents old root s → InsertsInOrder Represents (compared (own_order cmp key_of more p) more) old new after s p) (also : LinksAlso linked old new p) where
      pub has_inserted : (all : List V) × InsertsValue cmp key_of values v all × HasSorted cmp key_of Represents linked new after more all
      has_inserted = let x = put has.members has.shown in by x.gap x.same (subst (λ at. IsBorder (less_at at) x.gap) (own_order_is cmp key_of more p (placed_there places)) x.border) x.inserted.shows where
        by : (gap : Cut) → join gap ≡ has.members → IsBorder (less_at (compared (order_of cmp key_of (key_of v)) more)) gap → Represents new after (insert gap p)
            → (all : List V) × InsertsValue cmp key_of values v all × HasSorted cmp key_of Represents linked new after more all
        by gap same border shown = (
          values_at more gap.front ++ v ∷ values_at more gap.back,
          record {
            front = values_at more gap.front;
            back = values_at more gap.back;
            was = sym stood.are ∙ filter_map-append (object_at more) gap.front gap.back;
            is = refl;
            greater = greater_after total key_of more (key_of v) gap stood.placed sorted border;
            sorted = rises;
          },
          record {
            members = insert gap p;
            shown = shown;
            stand = stand;
            sorted = rises;
            only = λ q. everywhere (λ q. IsAbsent q (insert gap p) → IsUnlinked linked new q) p q (λ out. absurd (split_member gap.front p gap.back out))
                (λ n out. also.others q n ∙ has.only q (subst (IsAbsent q) same (absent_without gap.front gap.back p q out)));
          },
        ) where
          stood : StandAt more (join gap) values
          stood = subst (λ s. StandAt more s values) (sym same)
              (stand_beside objects more p (others_placed places) (vacant_absent objects p places.vacant has.members has.stand.placed) has.stand)

          sorted : IsSorted cmp (map key_of (values_at more (join gap)))
          sorted = subst (λ l. IsSorted cmp (map key_of l)) (sym stood.are) has.sorted

          stand : StandAt more (insert gap p) (values_at more gap.front ++ v ∷ values_at more gap.back)
          stand = stand_put more p (placed_there places) gap.front gap.back stood.placed

          rises : IsSorted cmp (map key_of (values_at more gap.front ++ v ∷ values_at more gap.back))
          rises = subst (λ l. IsSorted cmp (map key_of l)) stand.are (stays_sorted total key_of more p (placed_there places) gap stood.placed sorted border)

    -- AFTER A REMOVAL OF THE FIRST MEMBER, whose object stays placed, the table has the tree without the first value
    module _ {p : Place} {v : V} (is : Some p ≡ first has.members) (there : object_at objects p ≡ Some v) where
      pub has_first : values ≡ v ∷ drop 1 values
      has_first = stand_first objects p there is has.stand

      pub has_first_taken : {new : Table E} {after : H} → Represents new after (drop 1 has.members) → Unlinks linked old new p
          → HasSorted cmp key_of Represents linked new after objects (drop 1 values)
      has_first_taken {new} shown off = record {
        members = drop 1 has.members;
        shown = shown;
        stand = stand_rest objects p there is has.stand;
        sorted = sorted_rest values has.sorted;
        only = λ q. everywhere (λ q. IsAbsent q (drop 1 has.members) → IsUnlinked linked new q) p q (λ out. off.is)
            (λ n out. off.others q n ∙ has.only q (subst (IsAbsent q) (sym (first_is has.members is)) (n, out)));
      } where
        sorted_rest : (l : List V) → IsSorted cmp (map key_of l) → IsSorted cmp (map key_of (drop 1 l))
        sorted_rest [] sorted = tt
        sorted_rest (x ∷ l) sorted = sorted_tail total key_of objects (key_of x) (map key_of l) sorted
