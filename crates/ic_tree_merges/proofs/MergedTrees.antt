-- These lemmas lead from runs to trees: they say what several steps of a call make of its trees.
use Rattle.std.proofs.Common.{◌≡◌, ◌+◌, ◌≤◌, inl, inr, Option, None, IsSome, List, [], ◌∷◌, ◌++◌, length, sym, ◌∙◌, ap, subst, arith, Ordering}
use Rattle.std.specs.List.{AllByRecursion}
use Rattle.ic_link_ops.specs.Prelude.{Place, Objects, object_at, IsAbsent, IsDistinct, IsDisjoint, Table, ChangesOnlyIn, ArePlaced, Ends}
use Rattle.ic_link_ops.specs.RedBlackTree.{Node, Represents}
use Rattle.ic_link_ops.proofs.SequenceLemmas.{absent_left, absent_right, absent_both, absent_swap, disjoint_sym, distinct_splice}
use Rattle.ic_link_ops.proofs.RepresentedTrees.{holds_frame, represents_frame, one_sequence}
use Rattle.ic_link_ops.proofs.Trees.{one_tree}
use Rattle.ic_rbtree.specs.Height.{IsLowest}
use Rattle.ic_rbtree.specs.Vines.{RepresentsVine, Rearranges}
use Rattle.ic_rbtree.proofs.Vines.{vine_beside}
use Rattle.ic_tree_merges.specs.Merges.{Interleaves}
use Rattle.ic_tree_merges.specs.TwoTrees.{TwoRepresented, MergesTo, PartsTo, UnitesTo, RepresentsLowest}
use Rattle.ic_tree_merges.specs.Vines.{IsRun, MergesRuns, PartsRun}

-- if s interleaves a and b, these have only members of s, and together the length of s. Each property of all members of s holds for all their members
pub absent_parts : (q : Place) (a b s : List Place) → Interleaves a b s → IsAbsent q s → IsAbsent q a × IsAbsent q b
absent_parts q a b [] h o = (rw h.0 tt, rw h.1 tt)
absent_parts q a b (z ∷ s) (inl h) o = let r = absent_parts q h.0 b s h.2 o.1 in (rw h.1 (o.0, r.0), r.1)
absent_parts q a b (z ∷ s) (inr h) o = let r = absent_parts q a h.0 s h.2 o.1 in (r.0, rw h.1 (o.0, r.1))

pub all_parts : (P : Place → Type 0) (a b s : List Place) → Interleaves a b s → AllByRecursion P s → AllByRecursion P a × AllByRecursion P b
all_parts P a b [] h o = (rw h.0 tt, rw h.1 tt)
all_parts P a b (z ∷ s) (inl h) o = let r = all_parts P h.0 b s h.2 o.1 in (rw h.1 (o.0, r.0), r.1)
all_parts P a b (z ∷ s) (inr h) o = let r = all_parts P a h.0 s h.2 o.1 in (r.0, rw h.1 (o.0, r.1))

pub length_parts : (a b s : List Place) → Interleaves a b s → length a + length b ≡ length s
length_parts a b [] h = omega (arith, ap length h.0, ap length h.1)
length_parts a b (z ∷ s) (inl h) = omega (arith, ap length h.1, length_parts h.0 b s h.2)
length_parts a b (z ∷ s) (inr h) = omega (arith, ap length h.1, length_parts a h.0 s h.2)

module _ {E V : Type 0} {n : E → Node} {objects : Objects V} where
  -- if two trees are represented with an object at each member, there is an object at each member of any sequence that is represented for them
  pub placed_first : {v : Table E} {a b : Option Place} {s : List Place} → TwoRepresented (Represents n) objects v a b → Represents n v a s → ArePlaced objects s
  placed_first two shown = subst (ArePlaced objects) (one_sequence two.shown shown) two.placed

  pub placed_second : {v : Table E} {a b : Option Place} {u : List Place} → TwoRepresented (Represents n) objects v a b → Represents n v b u → ArePlaced objects u
  placed_second two other = subst (ArePlaced objects) (one_sequence two.other other) two.other_placed

  -- two trees that share no member can be named in the other order
  pub swapped : {v : Table E} {a b : Option Place} → TwoRepresented (Represents n) objects v a b → TwoRepresented (Represents n) objects v b a
  swapped two = record { first = two.second; second = two.first; shown = two.other; other = two.shown; apart = disjoint_sym two.first two.second two.apart; placed = two.other_placed; other_placed = two.placed }

  pub vine_run : {v w : Table E} {ends : Ends} {front : Option Place} {s : List Place} → Rearranges (RepresentsVine n) v w ends s → front ≡ ends.head → ArePlaced objects s → IsRun n objects w front s
  vine_run one is placed = record { chain = one.shows.chain; starts = is ∙ one.shows.head; placed = placed }

  pub run_beside : {v w : Table E} {front : Option Place} {s u : List Place} → IsRun n objects v front s → IsDisjoint s u → ChangesOnlyIn v w u → IsRun n objects w front s
  run_beside {v} {w} {front} {s} {u} run apart keeps = record { chain = vine_beside n v w s None u apart keeps run.chain; starts = run.starts; placed = run.placed }

module _ {E : Type 0} {n : E → Node} where
  pub both_distinct : {v w : Table E} {a b : Option Place} {s u : List Place} → Represents n v a s → Represents n w b u → IsDisjoint s u → IsDistinct (s ++ u)
  both_distinct {v} {w} {a} {b} {s} {u} shown other apart = distinct_splice [] s u other.held.distinct shown.held.distinct apart

  -- a tree keeps the least height if only entries of places outside it are changed
  pub lowest_still : {v w : Table E} {root : Option Place} {s t : List Place} → Represents n v root s → IsDisjoint s t → ChangesOnlyIn v w t → RepresentsLowest n v root → RepresentsLowest n w root
  lowest_still {v} {w} {root} {s} {t} shown apart frame low r h =
      let still = holds_frame shown.held apart frame in
      subst IsLowest (one_tree n w.entry None shown.tree h.tree still.entries h.held.entries (sym shown.starts ∙ h.starts)) (low s shown)

  -- the other tree stays as it is when one tree becomes a vine, and the vine stays as it is when the other tree becomes a vine
  pub other_still : {v w : Table E} {ends : Ends} {b : Option Place} {s u : List Place} → Rearranges (RepresentsVine n) v w ends s → IsDisjoint s u → Represents n v b u → Represents n w b u
  other_still {v} {w} {ends} {b} {s} {u} one apart other = represents_frame other (disjoint_sym s u apart) one.frame

  module _ {cmp : Place → Place → Ordering} where
    -- if two trees become vines, the vines are merged, and the merged vine becomes a tree, this tree has merged both trees
    pub merged_trees : {v0 v1 v2 v3 v4 : Table E} {one two three : Ends} {root : Option Place} {s u : List Place} → Rearranges (RepresentsVine n) v0 v1 one s → Rearranges (RepresentsVine n) v1 v2 two u
        → (m : MergesRuns n cmp v2 v3 three s u) → Rearranges (Represents n) v3 v4 root m.0.merged → MergesTo (Represents n) cmp v0 v4 root s u
    merged_trees {s = s} {u = u} first second m built = record {
      merged = m.0.merged;
      shown = built.shows;
      is = m.0.is;
      frame = record {
        extent = built.frame.extent ∙ (m.0.frame.extent ∙ (second.frame.extent ∙ first.frame.extent));
        others = λ q o. built.frame.others q (m.1 q o) ∙ (m.0.frame.others q o ∙ (second.frame.others q (absent_right q s u o) ∙ first.frame.others q (absent_left q s u o)));
      };
    }

    -- the vine of the remaining members stays a vine when the vine of the common members becomes a tree
    pub rest_still : {v1 v2 v3 : Table E} {common_ends rest_ends : Ends} {root : Option Place} {s u : List Place} (m : PartsRun n cmp v1 v2 common_ends rest_ends s u)
        → Rearranges (Represents n) v2 v3 root m.0.common → RepresentsVine n v3 rest_ends m.0.rest
    rest_still {v1} {v2} {v3} m built =
        let r = m.0.rest_represented in
        record {
          distinct = r.distinct;
          chain = vine_beside n v2 v3 m.0.rest None m.0.common (disjoint_sym m.0.common m.0.rest m.0.apart) built.frame r.chain;
          head = r.head;
          tail = r.tail;
        }

    -- if a tree becomes a vine, the vine is split in two, and both vines become trees, these trees have split the first tree
    pub parted_tree : {v0 v1 v2 v3 v4 : Table E} {ends common_ends rest_ends : Ends} {root rest_root : Option Place} {s u : List Place} → Rearranges (RepresentsVine n) v0 v1 ends s
        → (m : PartsRun n cmp v1 v2 common_ends rest_ends s u) → Rearranges (Represents n) v2 v3 root m.0.common → Rearranges (Represents n) v3 v4 rest_root m.0.rest
        → PartsTo (Represents n) cmp v0 v4 root rest_root s u
    parted_tree first m built last = record {
      common = m.0.common;
      rest = m.0.rest;
      common_represented = represents_frame built.shows m.0.apart last.frame;
      rest_represented = last.shows;
      apart = m.0.apart;
      is = m.0.is;
      frame = record {
        extent = last.frame.extent ∙ (built.frame.extent ∙ (m.0.frame.extent ∙ first.frame.extent));
        others = λ q o.
            last.frame.others q (absent_right q m.0.common m.0.rest (m.1 q o)) ∙ (built.frame.others q (absent_left q m.0.common m.0.rest (m.1 q o)) ∙ (m.0.frame.others q o ∙ first.frame.others q o));
      };
    }

    -- TWO TREES ARE UNITED: first the other tree is split by this tree. Then its members that are equal to no member of this tree are merged into this
    -- tree
    module _ {v0 v1 : Table E} {root doubles_root added_root : Option Place} {s u : List Place} (shown : Represents n v0 root s) (apart : IsDisjoint s u)
        (m : PartsTo (Represents n) cmp v0 v1 doubles_root added_root u s) where
      pub tree_still : Represents n v1 root s
      tree_still = represents_frame shown apart m.frame

      pub added_apart : IsDisjoint s m.rest
      added_apart = absent_swap s u apart m.rest (λ q o. (absent_parts q m.common m.rest u m.is.interleaved o).1)

      doubles_apart : IsDisjoint m.common (s ++ m.rest)
      doubles_apart = both_apart m.common (disjoint_sym s m.common (absent_swap s u apart m.common (λ q o. (absent_parts q m.common m.rest u m.is.interleaved o).0))) m.apart where
        both_apart : (a : List Place) → IsDisjoint a s → IsDisjoint a m.rest → IsDisjoint a (s ++ m.rest)
        both_apart [] h k = tt
        both_apart (x ∷ a) h k = (absent_both x s m.rest h.0 k.0, both_apart a h.1 k.1)

      pub can_merge : {V : Type 0} (objects : Objects V) → ArePlaced objects s → ArePlaced objects u → TwoRepresented (Represents n) objects v1 root added_root
      can_merge objects placed other_placed = record {
        first = s;
        second = m.rest;
        shown = tree_still;
        other = m.rest_represented;
        apart = added_apart;
        placed = placed;
        other_placed = (all_parts (λ p. IsSome (object_at objects p)) m.common m.rest u m.is.interleaved other_placed).1;
      }

      pub united_trees : {v2 : Table E} {new_root : Option Place} → MergesTo (Represents n) cmp v1 v2 new_root s m.rest → UnitesTo (Represents n) cmp v0 v2 new_root doubles_root s u
      united_trees merged = record {
        united = merged.merged;
        doubles = m.common;
        added = m.rest;
        shown = merged.shown;
        doubles_represented = represents_frame m.common_represented doubles_apart merged.frame;
        parts = m.is;
        is = merged.is;
        frame = record {
          extent = merged.frame.extent ∙ m.frame.extent;
          others = λ q o.
              let in_u = absent_right q s u o in
              merged.frame.others q (absent_both q s m.rest (absent_left q s u o) (absent_parts q m.common m.rest u m.is.interleaved in_u).1) ∙ m.frame.others q in_u;
        };
      }

      pub doubles_lowest : {v2 : Table E} {new_root : Option Place} → MergesTo (Represents n) cmp v1 v2 new_root s m.rest → RepresentsLowest n v1 doubles_root → RepresentsLowest n v2 doubles_root
      doubles_lowest merged low = lowest_still m.common_represented doubles_apart merged.frame low

      pub few_added : length m.rest ≤ length u
      few_added = omega (arith, length_parts m.common m.rest u m.is.interleaved)
