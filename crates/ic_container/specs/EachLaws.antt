-- These lemmas say that after each kind of step, a container's tree still has each object of the container. They hold for links of either width.
use Rattle.std.proofs.Common.{◌≡◌, ◌≢◌, ℕ, Bool, Option, Some, None, IsSome, is_some, List, [], ◌∷◌, ◌++◌, map, refl, sym, ap, ◌∙◌, subst, false, true≢false}
use Rattle.std.proofs.lemmas.Cmp.{nat_cmp_total}
use Rattle.std.proofs.lemmas.List.Elements.{filter_map-append}
use Rattle.std.specs.List.{AllByRecursion, cons_option}
use Rattle.std.specs.Ordering.{nat_cmp}
use Rattle.ic_link_ops.specs.Prelude.{Place, index_of, Objects, Places, Frees, object_at, is_placed, IsAbsent, Table, IsLinked, IsUnlinked, LinksAlso, Unlinks, ArePlaced, RepresentsPlaced, StandAt, values_at, link_of, words_of, entries, linked_by, Width, nameable, wide}
use Rattle.ic_link_ops.proofs.Prelude.{placed_there, others_placed, gone_there, others_left, IsKind, all_back, all_without, all_beside, values_beside, stand_put, red_black_trees, absent_left, absent_right, absent_with, distinct_middle, member_split}
use Rattle.ic_link_ops.specs.EntryLaws.{linked_in_range}
use Rattle.ic_link_ops.specs.PlainTables as plain
use Rattle.ic_link_ops.specs.RedBlackTree.{Node, Represents}
use Rattle.ic_link_ops.specs.ThreeWords.{has_link, no_words, node_in, node_of}
use Rattle.ic_link_ops.proofs.LinkedSets.{everywhere}
use Rattle.ic_rbtree.specs.Prelude.{IsSorted, compared, own_order, InsertsInOrder, is_linked, node_by, plain_table}
use Rattle.ic_rbtree.specs.SortedValues.{HasSorted, InsertsValue}
use Rattle.ic_rbtree.proofs.SortedValues.{has_none, has_covered, has_beside, has_inserted}
use Rattle.ic_container.specs.EachObject.{HasEachIn, ReadsTrees}
use Rattle.ic_rbtree.proofs.SortedKeys.{sorted_without}

module _ {L E V : Type 0} {node : E → Node} {linked : E → Bool} {table : L → Table E} {key_of : V → ℕ} {w : L} {root : Option Place} {objects : Objects V} where
  -- AT FIRST the tree has each object: there is no object, the root is none, and no place is linked
  pub each_first : ReadsTrees node linked table → ((p : Place) → IsUnlinked linked (table w) p) → root ≡ None → ((p : Place) → object_at objects p ≡ None) → HasEachIn node linked table key_of w root objects []
  each_first reads free none vacant = record {
    reads = reads;
    sorted = has_none (red_black_trees reads.alike) nat_cmp_total objects none free;
    exact = λ p. free p ∙ sym (ap is_some (vacant p));
  }

  module _ {values : List V} (each : HasEachIn node linked table key_of w root objects values) where
    abbrev kind : IsKind (Represents node) linked None
    kind = red_black_trees each.reads.alike

    -- AFTER `cover`, which keeps each entry and makes room for more, the tree still has each object
    pub each_covered : (v : L) → ((q : Place) → (table v).entry q ≡ (table w).entry q) → HasEachIn node linked table key_of v root objects values
    each_covered v stays = record { reads = each.reads; sorted = has_covered kind nat_cmp_total each.sorted stays; exact = λ p. ap linked (stays p) ∙ each.exact p }

    -- a place without an object is not linked. If another object is stored, each member of the tree still has an object
    pub vacant_free : (p : Place) → object_at objects p ≡ None → IsUnlinked linked (table w) p
    vacant_free p vacant = each.exact p ∙ ap is_some vacant

    pub each_ready : {more : Objects V} {p : Place} {r : V} → Places objects more p r → RepresentsPlaced (Represents node (table w) root) more
    each_ready {more} {p} places =
        let has = has_beside kind nat_cmp_total each.sorted {new = more} (vacant_free p places.vacant) (others_placed places) in record { members = has.members; shown = has.shown; placed = has.stand.placed }

    -- A NEW OBJECT is stored and inserted in order, and the tree has each object afterwards
    pub each_new : {more : Objects V} {p : Place} {r : V} {v : L} {top : Option Place} → Places objects more p r
        → ((s : List Place) → Represents node (table w) root s → InsertsInOrder (Represents node) (compared (own_order nat_cmp key_of more p) more) (table w) (table v) top s p)
        → LinksAlso linked (table w) (table v) p → (all : List V) × InsertsValue nat_cmp key_of values r all × HasEachIn node linked table key_of v top more all
    each_new {more} {p} {r} {v} {top} places put also =
        let a = has_inserted kind nat_cmp_total each.sorted places put also in (
          a.0,
          a.1,
          record {
            reads = each.reads;
            sorted = a.2;
            exact = λ q. everywhere (λ q. linked ((table v).entry q) ≡ is_placed more q) p q (also.is ∙ sym (ap is_some (placed_there places)))
                (λ n. also.others q n ∙ each.exact q ∙ sym (ap is_some (others_placed places q n)));
          },
        )

    -- AN OBJECT HAS A POSITION among the members, and its value has the same position among the values
    module _ (p : Place) {out : V} (there : object_at objects p ≡ Some out) where
      pub each_linked : IsLinked linked (table w) p
      each_linked = each.exact p ∙ ap is_some there

      pub each_member : (front : List Place) × (back : List Place) × (each.sorted.members ≡ front ++ p ∷ back)
      each_member = member_split p each.sorted.members (λ absent. true≢false (sym each_linked ∙ each.sorted.only p absent))

      pub each_value : (front back : List Place) → each.sorted.members ≡ front ++ p ∷ back → values ≡ values_at objects front ++ out ∷ values_at objects back
      each_value front back at = sym each.sorted.stand.are ∙ ap (values_at objects) at ∙ filter_map-append (object_at objects) front (p ∷ back)
          ∙ ap (λ (o : Option V). values_at objects front ++ cons_option o (values_at objects back)) there

      -- if each value has a property, the value of the object at the place p has the property
      pub at_each : (P : V → Type 0) → AllByRecursion P values → P out
      at_each P all = let m = each_member in (all_back P (values_at objects m.0) (out ∷ values_at objects m.1) (subst (AllByRecursion P) (each_value m.0 m.1 m.2) all)).0

      -- AFTER A REMOVAL of the object at the place p, the tree has each object that is left
      module _ {new : Objects V} {v : L} {top : Option Place} (removed : (front back : List Place) → Represents node (table w) root (front ++ p ∷ back) → Represents node (table v) top (front ++ back))
          (off : Unlinks linked (table w) (table v) p) (frees : Frees objects new p) where
        pub each_taken : (front : List V) × (back : List V) × (values ≡ front ++ out ∷ back) × HasEachIn node linked table key_of v top new (front ++ back)
        each_taken = by each_member.0 each_member.1 each_member.2 where
          by : (front back : List Place) → each.sorted.members ≡ front ++ p ∷ back → (front : List V) × (back : List V) × (values ≡ front ++ out ∷ back) × HasEachIn node linked table key_of v top new (front ++ back)
          by front back at = (
            values_at objects front,
            values_at objects back,
            is,
            record {
              reads = each.reads;
              sorted = has_beside kind nat_cmp_total less {new = new} off.is (others_left frees);
              exact = λ q. everywhere (λ q. linked ((table v).entry q) ≡ is_placed new q) p q (off.is ∙ sym (ap is_some (gone_there frees)))
                  (λ n. off.others q n ∙ each.exact q ∙ sym (ap is_some (others_left frees q n)));
            },
          ) where
            is : values ≡ values_at objects front ++ out ∷ values_at objects back
            is = each_value front back at

            less : HasSorted nat_cmp key_of (Represents node) linked (table v) top objects (values_at objects front ++ values_at objects back)
            less = record {
              members = front ++ back;
              shown = removed front back (subst (Represents node (table w) root) at each.sorted.shown);
              stand = record {
                placed = all_without (λ q. IsSome (object_at objects q)) front p back (subst (ArePlaced objects) at each.sorted.stand.placed);
                are = filter_map-append (object_at objects) front back;
              };
              sorted = sorted_without key_of (values_at objects front) out (values_at objects back) (subst (λ (l : List V). IsSorted nat_cmp (map key_of l)) is each.sorted.sorted);
              only = λ q. everywhere (λ q. IsAbsent q (front ++ back) → IsUnlinked linked (table v) q) p q (λ absent. off.is)
                  (λ n absent. off.others q n ∙ each.sorted.only q (subst (IsAbsent q) (sym at) (absent_with front back p q n absent)));
            }

      -- AFTER ANOTHER VALUE has replaced the value of an object, the tree still has each object, if the keys are still in order
      module _ {new : Objects V} {r : V} (is : object_at new p ≡ Some r) (others : (q : Place) → q ≢ p → object_at new q ≡ object_at objects q) where
        pub each_changed : (front : List V) × (back : List V) × (values ≡ front ++ out ∷ back) × (IsSorted nat_cmp (map key_of (front ++ r ∷ back)) → HasEachIn node linked table key_of w root new (front ++ r ∷ back))
        each_changed = by each_member.0 each_member.1 each_member.2 where
          by : (front back : List Place) → each.sorted.members ≡ front ++ p ∷ back
              → (front : List V) × (back : List V) × (values ≡ front ++ out ∷ back) × (IsSorted nat_cmp (map key_of (front ++ r ∷ back)) → HasEachIn node linked table key_of w root new (front ++ r ∷ back))
          by front back at = (
            values_at objects front,
            values_at objects back,
            each_value front back at,
            λ rises. record {
              reads = each.reads;
              sorted = record {
                members = front ++ p ∷ back;
                shown = subst (Represents node (table w) root) at each.sorted.shown;
                stand = subst (λ (l : List V). StandAt new (front ++ p ∷ back) (l ++ r ∷ values_at objects back)) (values_beside objects new p others front (absent_left p front back out_of))
                    (subst (λ (l : List V). StandAt new (front ++ p ∷ back) (values_at new front ++ r ∷ l)) (values_beside objects new p others back (absent_right p front back out_of)) (stand_put new p is front back placed));
                sorted = rises;
                only = λ q absent. each.sorted.only q (subst (IsAbsent q) (sym at) absent);
              };
              exact = λ q. everywhere (λ q. linked ((table w).entry q) ≡ is_placed new q) p q (each_linked ∙ sym (ap is_some is)) (λ n. each.exact q ∙ sym (ap is_some (others q n)));
            },
          ) where
            out_of : IsAbsent p (front ++ back)
            out_of = distinct_middle front back p (kind.distinct (table w) root (front ++ p ∷ back) (subst (Represents node (table w) root) at each.sorted.shown))

            placed : ArePlaced new (front ++ back)
            placed = all_beside objects new p others IsSome (front ++ back) out_of (all_without (λ q. IsSome (object_at objects q)) front p back (subst (ArePlaced objects) at each.sorted.stand.placed))

-- A PLAIN TABLE obeys the laws of a table of trees, for words of any width
module _ {W A : Type 0} (width : Width) (unlinked : W) (is_linked : W → Bool) (node : W → Node) where
  pub plain_reads : is_linked unlinked ≡ false → ((w : W) → (node w).linked ≡ is_linked w) → ReadsTrees (node_by node) (linked_by is_linked) (plain.table {A = A} width unlinked)
  plain_reads starts alike = record {
    alike = λ e. alike (words_of e);
    covered = λ links p is. linked_in_range (linked_by is_linked) (link_of unlinked) starts (nameable width (entries links)) (index_of p) is;
  }

-- a plain table of 8-byte words obeys the laws of a table of trees
pub wide_reads : {A : Type 0} → ReadsTrees node_of is_linked (plain_table {A = A})
wide_reads = plain_reads wide no_words has_link node_in refl (λ w. refl)
