-- Laws for callers: after each kind of step, a tree still has each of the objects.
use Rattle.std.proofs.Common.{◌≡◌, ◌≢◌, ℕ, Option, Some, None, IsSome, is_some, List, [], ◌∷◌, ◌++◌, map, sym, ap, ◌∙◌, subst, true≢false, nat_cmp}
use Rattle.std.proofs.lemmas.Cmp.{nat_cmp_total}
use Rattle.std.proofs.lemmas.List.Elements.{filter_map-append}
use Rattle.std.specs.List.{AllByRecursion, cons_option}
use Rattle.ic_link_ops.specs.Prelude.{Place, Objects, Places, Frees, object_at, is_placed, IsAbsent, IsLinked, IsUnlinked, LinksAlso, Unlinks, ArePlaced, RepresentsPlaced, StandAt, values_at}
use Rattle.ic_link_ops.proofs.Prelude.{placed_there, others_placed, gone_there, others_left, all_back, all_without, all_beside, values_beside, stand_put, absent_left, absent_right, absent_with, distinct_middle, member_split}
use Rattle.ic_link_ops.proofs.LinkedSets.{everywhere}
use Rattle.ic_rbtree.specs.Prelude.{IsSorted, compared, own_order, InsertsInOrder}
use Rattle.ic_rbtree.specs.PlainTrees.{TreeLinkOps, RepresentsTree, PlainRepresents, is_linked, plain_table}
use Rattle.ic_rbtree.specs.SortedValues.{HasSorted, InsertsValue}
use Rattle.ic_rbtree.proofs.PlainTrees.{plain_trees}
use Rattle.ic_rbtree.proofs.SortedValues.{has_none, has_covered, has_beside, has_inserted}
use Rattle.ic_rbtree.specs.EachObject.{HasEach}
use Rattle.ic_rbtree.proofs.SortedKeys.{sorted_without}

module _ {V A : Type 0} {key_of : V → ℕ} {w : TreeLinkOps A} {root : Option Place} {objects : Objects V} where
  -- a tree without a root has each object if no place is linked and no object is placed
  pub each_none : ((p : Place) → IsUnlinked is_linked (plain_table w) p) → root ≡ None → ((p : Place) → object_at objects p ≡ None) → HasEach key_of w root objects []
  each_none free none vacant = record {
    sorted = has_none plain_trees nat_cmp_total objects none free;
    exact = λ p. free p ∙ sym (ap is_some (vacant p));
  }

  module _ {values : List V} (each : HasEach key_of w root objects values) where
    -- AFTER `cover`, which changes no entry, the tree still has each object
    pub each_covered : (v : TreeLinkOps A) → ((q : Place) → (plain_table v).entry q ≡ (plain_table w).entry q) → HasEach key_of v root objects values
    each_covered v stays = record { sorted = has_covered plain_trees nat_cmp_total each.sorted stays; exact = λ p. ap is_linked (stays p) ∙ each.exact p }

    -- a place without an object is not linked, and the members of the tree are still placed after another object has been placed
    pub vacant_free : (p : Place) → object_at objects p ≡ None → IsUnlinked is_linked (plain_table w) p
    vacant_free p vacant = each.exact p ∙ ap is_some vacant

    pub each_ready : {more : Objects V} {p : Place} {r : V} → Places objects more p r → RepresentsPlaced (PlainRepresents w root) more
    each_ready {more} {p} places =
        let has = has_beside plain_trees nat_cmp_total each.sorted {new = more} (vacant_free p places.vacant) (others_placed places) in record { members = has.members; shown = has.shown; placed = has.stand.placed }

    -- if a new object at p is inserted in order, the tree has each object again, and its list of values has one value more
    pub each_new : {more : Objects V} {p : Place} {r : V} {v : TreeLinkOps A} {top : Option Place} → Places objects more p r
        → ((s : List Place) → PlainRepresents w root s → InsertsInOrder RepresentsTree (compared (own_order nat_cmp key_of more p) more) (plain_table w) (plain_table v) top s p)
        → LinksAlso is_linked (plain_table w) (plain_table v) p → (all : List V) × InsertsValue nat_cmp key_of values r all × HasEach key_of v top more all
    each_new {more} {p} {r} {v} {top} places put also =
        let a = has_inserted plain_trees nat_cmp_total each.sorted places put also in (
          a.0,
          a.1,
          record {
            sorted = a.2;
            exact = λ q. everywhere (λ q. is_linked ((plain_table v).entry q) ≡ is_placed more q) p q (also.is ∙ sym (ap is_some (placed_there places)))
                (λ n. also.others q n ∙ each.exact q ∙ sym (ap is_some (others_placed places q n)));
          },
        )

    -- if an object with the value `out` is at the place p, then p is a member of the tree, and `out` is among the values of the tree
    module _ (p : Place) {out : V} (there : object_at objects p ≡ Some out) where
      pub each_linked : IsLinked is_linked (plain_table w) p
      each_linked = each.exact p ∙ ap is_some there

      pub each_member : (front : List Place) × (back : List Place) × (each.sorted.members ≡ front ++ p ∷ back)
      each_member = member_split p each.sorted.members (λ absent. true≢false (sym each_linked ∙ each.sorted.only p absent))

      pub each_value : (front back : List Place) → each.sorted.members ≡ front ++ p ∷ back → values ≡ values_at objects front ++ out ∷ values_at objects back
      each_value front back at = sym each.sorted.stand.are ∙ ap (values_at objects) at ∙ filter_map-append (object_at objects) front (p ∷ back)
          ∙ ap (λ (o : Option V). values_at objects front ++ cons_option o (values_at objects back)) there

      -- if P holds for each value of the tree, then P holds for the value `out` of the object at p
      pub at_each : (P : V → Type 0) → AllByRecursion P values → P out
      at_each P all = let m = each_member in (all_back P (values_at objects m.0) (out ∷ values_at objects m.1) (subst (AllByRecursion P) (each_value m.0 m.1 m.2) all)).0

      -- if the object at p is removed, and the place p is removed from the tree and unlinked, the tree has each of the other objects
      module _ {new : Objects V} {v : TreeLinkOps A} {top : Option Place} (removed : (front back : List Place) → PlainRepresents w root (front ++ p ∷ back) → PlainRepresents v top (front ++ back))
          (off : Unlinks is_linked (plain_table w) (plain_table v) p) (frees : Frees objects new p) where
        pub each_taken : (front : List V) × (back : List V) × (values ≡ front ++ out ∷ back) × HasEach key_of v top new (front ++ back)
        each_taken = by each_member.0 each_member.1 each_member.2 where
          by : (front back : List Place) → each.sorted.members ≡ front ++ p ∷ back → (front : List V) × (back : List V) × (values ≡ front ++ out ∷ back) × HasEach key_of v top new (front ++ back)
          by front back at = (
            values_at objects front,
            values_at objects back,
            is,
            record {
              sorted = has_beside plain_trees nat_cmp_total less {new = new} off.is (others_left frees);
              exact = λ q. everywhere (λ q. is_linked ((plain_table v).entry q) ≡ is_placed new q) p q (off.is ∙ sym (ap is_some (gone_there frees)))
                  (λ n. off.others q n ∙ each.exact q ∙ sym (ap is_some (others_left frees q n)));
            },
          ) where
            is : values ≡ values_at objects front ++ out ∷ values_at objects back
            is = each_value front back at

            less : HasSorted nat_cmp key_of RepresentsTree is_linked (plain_table v) top objects (values_at objects front ++ values_at objects back)
            less = record {
              members = front ++ back;
              shown = removed front back (subst (PlainRepresents w root) at each.sorted.shown);
              stand = record {
                placed = all_without (λ q. IsSome (object_at objects q)) front p back (subst (ArePlaced objects) at each.sorted.stand.placed);
                are = filter_map-append (object_at objects) front back;
              };
              sorted = sorted_without key_of (values_at objects front) out (values_at objects back) (subst (λ (l : List V). IsSorted nat_cmp (map key_of l)) is each.sorted.sorted);
              only = λ q. everywhere (λ q. IsAbsent q (front ++ back) → IsUnlinked is_linked (plain_table v) q) p q (λ absent. off.is)
                  (λ n absent. off.others q n ∙ each.sorted.only q (subst (IsAbsent q) (sym at) (absent_with front back p q n absent)));
            }

      -- THE VALUE AT p CHANGES to r: if the list of values is still sorted by keys, the tree has each object again
      module _ {new : Objects V} {r : V} (is : object_at new p ≡ Some r) (others : (q : Place) → q ≢ p → object_at new q ≡ object_at objects q) where
        pub each_changed : (front : List V) × (back : List V) × (values ≡ front ++ out ∷ back) × (IsSorted nat_cmp (map key_of (front ++ r ∷ back)) → HasEach key_of w root new (front ++ r ∷ back))
        each_changed = by each_member.0 each_member.1 each_member.2 where
          by : (front back : List Place) → each.sorted.members ≡ front ++ p ∷ back
              → (front : List V) × (back : List V) × (values ≡ front ++ out ∷ back) × (IsSorted nat_cmp (map key_of (front ++ r ∷ back)) → HasEach key_of w root new (front ++ r ∷ back))
          by front back at = (
            values_at objects front,
            values_at objects back,
            each_value front back at,
            λ rises. record {
              sorted = record {
                members = front ++ p ∷ back;
                shown = subst (PlainRepresents w root) at each.sorted.shown;
                stand = subst (λ (l : List V). StandAt new (front ++ p ∷ back) (l ++ r ∷ values_at objects back)) (values_beside objects new p others front (absent_left p front back out_of))
                    (subst (λ (l : List V). StandAt new (front ++ p ∷ back) (values_at new front ++ r ∷ l)) (values_beside objects new p others back (absent_right p front back out_of)) (stand_put new p is front back placed));
                sorted = rises;
                only = λ q absent. each.sorted.only q (subst (IsAbsent q) (sym at) absent);
              };
              exact = λ q. everywhere (λ q. is_linked ((plain_table w).entry q) ≡ is_placed new q) p q (each_linked ∙ sym (ap is_some is)) (λ n. each.exact q ∙ sym (ap is_some (others q n)));
            },
          ) where
            out_of : IsAbsent p (front ++ back)
            out_of = distinct_middle front back p (plain_trees.distinct (plain_table w) root (front ++ p ∷ back) (subst (PlainRepresents w root) at each.sorted.shown))

            placed : ArePlaced new (front ++ back)
            placed = all_beside objects new p others IsSome (front ++ back) out_of (all_without (λ q. IsSome (object_at objects q)) front p back (subst (ArePlaced objects) at each.sorted.stand.placed))
