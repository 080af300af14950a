-- What a world guarantees of a call that gives a part of a collection away follows from the contract of the collection's own call, whatever the kind.
use Rattle.std.proofs.Common.{◌≡◌, Option, None, List, [], refl, subst, sym}
use Rattle.ic_link_ops.specs.Prelude.{Place, Cut, join, IsAfter, IsBefore, IsAbsent, IsDisjoint, IsDistinct, Table, ChangesOnlyIn, KeepsLinked}
use Rattle.ic_link_ops.proofs.SequenceLemmas.{absent_both, absent_left, absent_right, distinct_disjoint, disjoint_sym}
use Rattle.ic_any_collection.specs.declared.entry.Entry.{Entry}
use Rattle.ic_any_collection.specs.Entries.{is_linked}
use Rattle.ic_any_collection.specs.declared.any_collection.AnyCollection.{AnyCollection}
use Rattle.ic_any_collection.specs.AnyCollection.{cursor_in, members_in, Keeps, Held, Alike}
use Rattle.ic_any_collection.specs.Edits.{Parts}
use Rattle.ic_any_collection.proofs.AllKinds.{IsLawful, one_sequence, distinct, held_of}
use Rattle.ic_world.specs.Calls.{State, having}
use Rattle.ic_world.specs.Turns.{HandsOut, state_of}
use Rattle.ic_world.specs.Several.{PartsOf}
use Rattle.ic_world.specs.declared.taken_part.TakenPart.TheVariants.{All, After, Before}
use Rattle.ic_world.proofs.Linked.{linked_same}

-- the two sides of a gap share no member, and a place that is no member of the collection is on neither side
apart_gap : {V : Type 0} {t : Table Entry} {m : AnyCollection V} → Held t m → (gap : Cut) → join gap ≡ members_in t m → IsDisjoint gap.front gap.back
apart_gap {t} {m} held gap cut = distinct_disjoint gap.front gap.back (subst IsDistinct (sym cut) (distinct t m (members_in t m) held.shown))

absent_gap : {s : List Place} (gap : Cut) → join gap ≡ s → (q : Place) → IsAbsent q s → IsAbsent q (join gap)
absent_gap gap cut q out = subst (IsAbsent q) (sym cut) out

module _ {V : Type 0} {old new : Table Entry} {m m' part : AnyCollection V} (law : IsLawful old) (law' : IsLawful new) where
  -- the members s stay in the collection, and the members u become the new collection
  hands_by : {P : State → State → State → Type 0} (s u : List Place) (cursor : Option Place) → Keeps new m' s → Keeps new part u → Alike m m' → Alike m part
      → cursor_in m' ≡ cursor → cursor_in part ≡ None → KeepsLinked is_linked old new → ChangesOnlyIn old new (members_in old m)
      → ((q : Place) → IsAbsent q (members_in old m) → IsAbsent q s × IsAbsent q u) → IsDisjoint s u
      → P (state_of old m) (having (state_of old m) s cursor) (having (state_of old m) u None) → HandsOut P old new m m' part
  hands_by {P} s u cursor kept handed alike part_alike at null links frame adds_none apart parts =
      let shown = one_sequence new law' m' s kept.shown in
      let part_represented = one_sequence new law' part u handed.shown in
      let linked = linked_same old new law law' links in
      let stays : state_of new m' ≡ having (state_of old m) s cursor = λ i. record { kind = alike i; members = shown i; cursor = at i; linked = linked i } in
      let goes : state_of new part ≡ having (state_of old m) u None = λ i. record { kind = part_alike i; members = part_represented i; cursor = null i; linked = linked i } in
      record {
        held = held_of law' m' s kept;
        hands_out = held_of law' part u handed;
        alike = alike;
        part_alike = part_alike;
        links = links;
        frame = frame;
        adds_none = λ q out. rw (shown, part_represented) (adds_none q out);
        apart = rw (shown, part_represented) apart;
        parts = subst (P (state_of old m) (state_of new m')) (sym goes) (subst (λ t. P (state_of old m) t (having (state_of old m) u None)) (sym stays) parts);
      }

  -- a collection is split at a gap: the members that stay and the members that are given away are on the two sides of the gap
  by_gap : {P : State → State → State → Type 0} (kept handed : List Place) → Parts old new m m' kept handed part
      → ((q : Place) → IsAbsent q (members_in old m) → IsAbsent q kept × IsAbsent q handed) → IsDisjoint kept handed
      → P (state_of old m) (having (state_of old m) kept (cursor_in m)) (having (state_of old m) handed None) → HandsOut P old new m m' part
  by_gap kept handed e adds_none apart parts =
      hands_by kept handed (cursor_in m) e.leaves.kept e.hands_out e.leaves.alike e.part_alike e.leaves.cursor_is e.null e.links
      (record { extent = e.leaves.frame.extent; others = λ q out. e.leaves.frame.others q (absent_both q kept handed (adds_none q out).0 (adds_none q out).1) })
      adds_none apart parts

  module _ (held : Held old m) (gap : Cut) (cut : join gap ≡ members_in old m) where
    -- the members after the cursor are given away
    pub hands_after : IsAfter gap (cursor_in m) → Parts old new m m' gap.front gap.back part → HandsOut (PartsOf After) old new m m' part
    hands_after after e =
        by_gap gap.front gap.back e (λ q out. let a = absent_gap gap cut q out in (absent_left q gap.front gap.back a, absent_right q gap.front gap.back a))
        (apart_gap held gap cut) (gap, cut, (after, refl, refl))

    -- the members before the cursor are given away
    pub hands_before : IsBefore gap (cursor_in m) → Parts old new m m' gap.back gap.front part → HandsOut (PartsOf Before) old new m m' part
    hands_before before e =
        by_gap gap.back gap.front e (λ q out. let a = absent_gap gap cut q out in (absent_right q gap.front gap.back a, absent_left q gap.front gap.back a))
        (disjoint_sym gap.front gap.back (apart_gap held gap cut)) (gap, cut, (before, refl, refl))

-- all members are given away, and no entry of the table changes
pub hands_all : {V : Type 0} {t : Table Entry} {m m' part : AnyCollection V} → IsLawful t → Keeps t m' [] → Keeps t part (members_in t m) → Alike m m' → Alike m part
    → cursor_in m' ≡ None → cursor_in part ≡ None → HandsOut (PartsOf All) t t m m' part
hands_all {t} {m} law kept handed alike part_alike null part_null =
    hands_by law law [] (members_in t m) None kept handed alike part_alike null part_null (λ q. refl)
    (record { extent = refl; others = λ q out. refl }) (λ q out. (tt, out)) tt (refl, refl)
