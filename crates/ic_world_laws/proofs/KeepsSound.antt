-- EACH STEP KEEPS A FAMILY SOUND: a call leads from a sound family to a sound family.
use Rattle.std.proofs.Common.{◌≡◌, ◌≢◌, inl, inr, ℕ, Bool, true, false, not, ◌&&◌, List, [], ◌++◌, Option, Some, None, refl, sym, ap, ◌∙◌, subst, true≢false, eq-eqb, Ordering}
use Rattle.std.proofs.lemmas.List.{get_or-set_same, get_or-set_other, set-get_or}
use Rattle.std.proofs.lemmas.List.Folds.{list_any_at}
use Rattle.std.specs.List.{list_all}
use Rattle.std.specs.FinSet as set_of
use Rattle.ic_link_ops.specs.Prelude.{Place, index_of, Cut, join, splice, IsAbsent, IsMember, IsDistinct, IsDisjoint, IsAfter, IsBefore}
use Rattle.ic_link_ops.proofs.SequenceLemmas.{absent_left, absent_right, absent_both, distinct_left, distinct_right, distinct_disjoint, disjoint_sym, distinct_splice, some_same, none_not}
use Rattle.ic_any_collection.specs.declared.kind.Kind.{Kind}
use Rattle.ic_any_collection.specs.Kinds.{carries}
use Rattle.ic_any_collection.specs.declared.kind.Kind.TheVariants.{Singly}
use Rattle.ic_any_collection.specs.AnyCollection.{is_list, is_two_way_list}
use Rattle.ic_world.specs.declared.call.Refusal.{Refusal}
use Rattle.ic_world.specs.declared.call.Refusal.TheVariants.{NoSuchField, NoSuchObject, WrongKind, IsMember as IsMemberRefusal, StillLinked, TooManyObjects, OutOfMemory}
use Rattle.ic_world.specs.declared.call.Command.{Command}
use Rattle.ic_world.specs.declared.call.Command.TheVariants as call
use Rattle.ic_world.specs.declared.calls.collection_call.Call.{Call}
use Rattle.ic_world.specs.declared.taken_part.TakenPart.{TakenPart}
use Rattle.ic_world.specs.declared.taken_part.TakenPart.TheVariants.{All, After, Before}
use Rattle.ic_world.specs.Family.{Family, LinkField, Sequence, is_among, has_member_in, collection, field_of, linked_of, has_field, is_placed, is_linked_somewhere, is_member_in, objects_of, with_linked, with_collection, with_opened}
use Rattle.ic_world.specs.Prelude.{State, Reply, object, field, opened, items, refused, asks, names, refusal_of, unlinked, Step, StepOn, Accepts, AcceptsOn, refusal, refusal_on, IsSoundIn, IsSound}
use Rattle.ic_world.specs.Several.{StepBy, PartsOf, OpensWith, SplicesAt, asks_collection, with_members, state_in, with_state, sequence_of, refusal_of_part, refusal_of_splice}
use Rattle.ic_world.proofs.CanSplice.{can_splice_of}
use Rattle.ic_world.proofs.Linked.{absent_or}
use Rattle.ic_world.proofs.Readings.{some_within}
use Rattle.ic_world.proofs.Steps.{asks_none}
use Rattle.ic_world_laws.proofs.SoundCalls.{IsRight, KeepsRight, keeps_right, keeps_part, first_member, last_member, all_out, member_among, in_rest, still_unlinked}
use Rattle.ic_world_laws.proofs.SoundFamilies.{which_at, linked_there, outside, Fits, changed_sound, freed_sound, opened_sound, added_sound, set_sound, removed_sound}

abbrev no_field : LinkField
no_field = record { kind = Singly; linked = set_of.empty }

-- A PART IS GIVEN AWAY: the members of `handed` are distinct, they were members of s, and none of them stays in t
record HandsRight (has : Place → Bool) (s t handed : State) : Type 0 where
  kept : KeepsRight has s t
  kind : handed.kind ≡ s.kind
  linked : t.linked ≡ s.linked
  distinct : IsDistinct handed.members
  adds_none : (q : Place) → IsAbsent q s.members → IsAbsent q handed.members
  apart : IsDisjoint t.members handed.members
  null : handed.cursor ≡ None

module _ (has : Place → Bool) (s : State) (right : IsRight has s) where
  hands_cut : (front back : List Place) → front ++ back ≡ s.members → (t handed : State) → (o : Option Place) → ((p : Place) → o ≡ Some p → IsMember p front)
      → t ≡ record { kind = s.kind; members = front; cursor = o; linked = s.linked } → handed ≡ record { kind = s.kind; members = back; cursor = None; linked = s.linked } → HandsRight has s t handed
  hands_cut front back cut t handed o at is is_handed =
      let distinct = subst IsDistinct (sym cut) right.distinct in
      subst (λ x. HandsRight has s x handed) (sym is) (subst (λ x. HandsRight has s (record { kind = s.kind; members = front; cursor = o; linked = s.linked }) x) (sym is_handed) (record {
        kept = keeps_part has s right front o (distinct_left front back distinct) (λ q out. absent_left q front back (subst (IsAbsent q) (sym cut) out)) at;
        kind = refl;
        linked = refl;
        distinct = distinct_right front back distinct;
        adds_none = λ q out. absent_right q front back (subst (IsAbsent q) (sym cut) out);
        apart = distinct_disjoint front back distinct;
        null = refl;
      }))

  hands_back : (front back : List Place) → front ++ back ≡ s.members → (t handed : State) → (o : Option Place) → ((p : Place) → o ≡ Some p → IsMember p back)
      → t ≡ record { kind = s.kind; members = back; cursor = o; linked = s.linked } → handed ≡ record { kind = s.kind; members = front; cursor = None; linked = s.linked } → HandsRight has s t handed
  hands_back front back cut t handed o at is is_handed =
      let distinct = subst IsDistinct (sym cut) right.distinct in
      subst (λ x. HandsRight has s x handed) (sym is) (subst (λ x. HandsRight has s (record { kind = s.kind; members = back; cursor = o; linked = s.linked }) x) (sym is_handed) (record {
        kept = keeps_part has s right back o (distinct_right front back distinct) (λ q out. absent_right q front back (subst (IsAbsent q) (sym cut) out)) at;
        kind = refl;
        linked = refl;
        distinct = distinct_left front back distinct;
        adds_none = λ q out. absent_left q front back (subst (IsAbsent q) (sym cut) out);
        apart = disjoint_sym front back (distinct_disjoint front back distinct);
        null = refl;
      }))

  hands_right : (part : TakenPart) (t handed : State) → PartsOf part s t handed → HandsRight has s t handed
  hands_right All t handed h = hands_cut [] s.members refl t handed None (λ p e. absurd (none_not p e)) h.0 h.1
  hands_right After t handed h = hands_cut h.0.front h.0.back h.1 t handed s.cursor (λ p e. last_member h.0.front (sym e ∙ h.2.0)) h.2.1 h.2.2
  hands_right Before t handed h = hands_back h.0.front h.0.back h.1 t handed s.cursor (λ p e. first_member h.0.back (sym e ∙ h.2.0)) h.2.1 h.2.2

module _ {A V : Type 0} (old : Family A V) (sound : IsSound old) where
  right_of : (c : ℕ) (s : Sequence) → collection old c ≡ Some s → IsRight (is_placed old) (state_in old s)
  right_of c s is =
      let k = sound.collections c s is in
      record { distinct = sound.apart.0 c s is; linked = k.linked; cursor = k.cursor; placed = sound.placed s.field }

  -- if one collection gets another state that is right, the family stays sound
  restated : (c : ℕ) (s : Sequence) → collection old c ≡ Some s → (t : State) → KeepsRight (is_placed old) (state_in old s) t → IsSound (with_state old c s.field t)
  restated c s is t k =
      changed_sound old sound c s is (Some (sequence_of s.field t)) t.linked
      (λ x e. subst (Fits old c s t.linked) (some_same e) (record {
        field = refl;
        kind = k.kind;
        distinct = k.right.distinct;
        linked = k.right.linked;
        cursor = k.right.cursor;
        beside = λ d r n is_r same. all_out r.members t.members (λ p member. let away = outside old sound c s is d r n is_r same p member in (k.others p away.0 away.1).1);
      }))
      (record { others = λ q h out. (k.others q h out).0; placed = k.right.placed })

  -- if one collection gets other members and the linked places stay, the family stays sound
  regathered : (c : ℕ) (s x : Sequence) → collection old c ≡ Some s → Fits old c s (linked_of old s.field) x → IsSound (with_collection old c (Some x))
  regathered c s x is fits =
      let same : with_linked (with_collection old c (Some x)) s.field (linked_of old s.field) ≡ with_collection old c (Some x) = λ i. record (with_collection old c (Some x)) { fields = set-get_or old.fields s.field no_field i } in
      subst IsSound same (changed_sound old sound c s is (Some x) (linked_of old s.field) (λ y e. subst (Fits old c s (linked_of old s.field)) (some_same e) fits)
      (record { others = λ q h out. h; placed = λ q h. sound.placed s.field q h }))

  emptied : (c : ℕ) (s : Sequence) → collection old c ≡ Some s → IsSound (with_collection old c (Some (with_members s [] None)))
  emptied c s is = regathered c s (with_members s [] None) is (record {
    field = refl;
    kind = refl;
    distinct = tt;
    linked = λ p there. absurd (there tt);
    cursor = λ p e. absurd (none_not p e);
    beside = λ d r n is_r same. all_out r.members [] (λ p member. tt);
  })

  -- if a collection is disposed of and its members are unlinked, the family stays sound
  disposed : (c : ℕ) (s : Sequence) → collection old c ≡ Some s → IsSound (with_linked (with_collection old c None) s.field (unlinked (linked_of old s.field) s.members))
  disposed c s is = changed_sound old sound c s is None (unlinked (linked_of old s.field) s.members) (λ x e. absurd (none_not x e)) (record {
    others = λ q h out. in_rest (linked_of old s.field) s.members q out h;
    placed = λ q h. sound.placed s.field q (still_unlinked (linked_of old s.field) s.members q h).1;
  })

  -- if a part of a collection becomes a new collection, the family stays sound
  handed_out : (c : ℕ) (s : Sequence) → collection old c ≡ Some s → (t handed : State) → HandsRight (is_placed old) (state_in old s) t handed → IsSound (with_opened (with_state old c s.field t) (sequence_of s.field handed))
  handed_out c s is t handed h =
      opened_sound (with_state old c s.field t) whole (sequence_of s.field handed)
      (record {
        in_field = here.in_field;
        carried = ap (carries (field_of (with_state old c s.field t) s.field).kind) (h.kind ∙ sym h.kept.kind) ∙ here.carried;
        linked = λ p member.
            ap (λ u. set_of.contains u (index_of p)) (linked_there (with_collection old c (Some (sequence_of s.field t))) s.field t.linked k.in_field ∙ h.linked)
            ∙ k.linked p (λ out. member (h.adds_none p out));
        cursor = λ p e. absurd (none_not p (sym h.null ∙ e));
      })
      h.distinct
      (λ d r is_r same. elim (which_at old.collections c (Some (sequence_of s.field t)) is d r is_r) [
        | inl e ↦ subst (λ (x : Sequence). IsDisjoint x.members handed.members) (some_same e.1) h.apart
        | inr e ↦ all_out r.members handed.members (λ p member. h.adds_none p (outside old sound c s is d r e.0 e.1 same p member).1)
      ])
    where
      k : IsSoundIn old s
      k = sound.collections c s is

      whole : IsSound (with_state old c s.field t)
      whole = restated c s is t h.kept

      here : IsSoundIn (with_state old c s.field t) (sequence_of s.field t)
      here = whole.collections c (sequence_of s.field t) (get_or-set_same old.collections c (Some (sequence_of s.field t)) None (some_within old.collections c is))

  -- if all members of the collection d are inserted into the collection c, the family stays sound
  module _ (c d : ℕ) (s t : Sequence) (gap : Cut) (is_s : collection old c ≡ Some s) (is_t : collection old d ≡ Some t) (differ : c ≢ d) (same : s.field ≡ t.field) (cut : join gap ≡ s.members) where
    abbrev given : Sequence
    given = with_members t [] None

    abbrev mid : Family A V
    mid = with_collection old d (Some given)

    abbrev to : Sequence
    to = with_members s (splice gap t.members) s.cursor

    mid_sound : IsSound mid
    mid_sound = emptied d t is_t

    still_s : collection mid c ≡ Some s
    still_s = get_or-set_other old.collections d c (Some given) None differ ∙ is_s

    parts_absent : (p : Place) → IsAbsent p s.members → IsAbsent p t.members → IsAbsent p (splice gap t.members)
    parts_absent p out_s out_t =
        let parts = subst (IsAbsent p) (sym cut) out_s in
        absent_both p gap.front (t.members ++ gap.back) (absent_left p gap.front gap.back parts) (absent_both p t.members gap.back out_t (absent_right p gap.front gap.back parts))

    part_absent : (p : Place) → IsAbsent p (splice gap t.members) → IsAbsent p s.members
    part_absent p out =
        let rest = absent_right p gap.front (t.members ++ gap.back) out in
        subst (IsAbsent p) cut (absent_both p gap.front gap.back (absent_left p gap.front (t.members ++ gap.back) out) (absent_right p t.members gap.back rest))

    linked_s : (p : Place) → IsMember p (splice gap t.members) → set_of.contains (linked_of old s.field) (index_of p) ≡ true
    linked_s p there = elim (absent_or s.members p) [
      | inl out_s ↦ elim (absent_or t.members p) [
        | inl out_t ↦ absurd (there (parts_absent p out_s out_t))
        | inr in_t ↦ ap (λ g. set_of.contains (linked_of old g) (index_of p)) same ∙ (sound.collections d t is_t).linked p in_t
      ]
      | inr in_s ↦ (sound.collections c s is_s).linked p in_s
    ]

    spliced : IsSound (with_collection mid c (Some to))
    spliced = regathered_in (record {
      field = refl;
      kind = refl;
      distinct = distinct_splice gap.front t.members gap.back (subst IsDistinct (sym cut) (sound.apart.0 c s is_s)) (sound.apart.0 d t is_t)
          (subst (IsDisjoint t.members) (sym cut) (sound.apart.1 d c t s (λ e. differ (sym e)) is_t is_s (sym same)));
      linked = linked_s;
      cursor = λ p e out. (sound.collections c s is_s).cursor p e (part_absent p out);
      beside = λ e r n is_r field. elim (which_at old.collections d (Some given) is_t e r is_r) [
        | inl k ↦ subst (λ (x : Sequence). IsDisjoint x.members (splice gap t.members)) (some_same k.1) tt
        | inr k ↦ all_out r.members (splice gap t.members) (λ p member.
            parts_absent p (outside old sound c s is_s e r n k.1 field p member).1 (outside old sound d t is_t e r k.0 k.1 (field ∙ same) p member).1)
      ];
    })
      where
        regathered_in : Fits mid c s (linked_of mid s.field) to → IsSound (with_collection mid c (Some to))
        regathered_in fits =
            let same : with_linked (with_collection mid c (Some to)) s.field (linked_of mid s.field) ≡ with_collection mid c (Some to) = λ i. record (with_collection mid c (Some to)) { fields = set-get_or mid.fields s.field no_field i } in
            subst IsSound same (changed_sound mid mid_sound c s still_s (Some to) (linked_of mid s.field) (λ y e. subst (Fits mid c s (linked_of mid s.field)) (some_same e) fits)
            (record { others = λ q h out. h; placed = λ q h. mid_sound.placed s.field q h }))

  -- a place that is a member of no collection of the field is absent from each collection of the field
  absent_in : (f : ℕ) (p : Place) → is_member_in old f p ≡ false → (c : ℕ) (s : Sequence) → collection old c ≡ Some s → s.field ≡ f → IsAbsent p s.members
  absent_in f p none c s is same = elim (absent_or s.members p) [
    | inl out ↦ out
    | inr there ↦
        let has : has_member_in f p (collection old c) ≡ true = ap (has_member_in f p) is ∙ ap (λ x. x && is_among p s.members) (eq-eqb s.field f same) ∙ member_among p s.members there in
        absurd (true≢false (sym (list_any_at (has_member_in f p) old.collections c None (some_within old.collections c is) has) ∙ none))
  ]

  not_false : (b : Bool) → not b ≡ true → b ≡ false
  not_false true e = absurd (true≢false (sym e))
  not_false false e = refl

  module _ (new : Family A V) where
    left : {w : Family A V} → new ≡ w → IsSound w → IsSound new
    left e h = subst IsSound (sym e) h

    out_keeps : (c : ℕ) (part : TakenPart) (reply : Reply) → StepBy (refusal_of_part old c part) (OpensWith old c part) old reply new → IsSound new
    out_keeps c part reply step = by (refusal_of_part old c part) reply step where
      by : (o : Option Refusal) (reply : Reply) → StepBy o (OpensWith old c part) old reply new → IsSound new
      by (Some r) reply h = left h.1 sound
      by None (opened d) h = left h.6 (handed_out c h.1 h.4 h.2 h.3 (hands_right (is_placed old) (state_in old h.1) (right_of c h.1 h.4) part h.2 h.3 h.5))
      by None (refused OutOfMemory) h = left h sound
      by None _ h = absurd h

    splice_keeps : (Beside : Cut → Option Place → Type 0) (has : Kind → Bool) (c d : ℕ) (reply : Reply) → StepBy (refusal_of_splice old has c d) (SplicesAt Beside old c d) old reply new → IsSound new
    splice_keeps Beside has c d reply step = by (refusal_of_splice old has c d) refl step where
      by : (o : Option Refusal) → refusal_of_splice old has c d ≡ o → StepBy o (SplicesAt Beside old c d) old reply new → IsSound new
      by (Some r) e h = left h.1 sound
      by None e h = let can = can_splice_of old has c d h.1 h.5 h.3 h.6 e in left h.8 (spliced c d h.1 h.5 h.2 h.3 h.6 can.2 can.3 h.4)

    -- `cmp` is the order of the keys, and `key_of` computes the key of a value
    module _ {K : Type 0} (cmp : K → K → Ordering) (key_of : A → V → K) where
      on_keeps : (c : ℕ) (call : Call K) (reply : Reply) → StepOn cmp key_of old c call reply new → IsSound new
      on_keeps c call reply step = by (refusal_on old c call) refl step where
        by : (o : Option Refusal) → refusal_on old c call ≡ o → StepBy o (AcceptsOn cmp key_of old c call) old reply new → IsSound new
        by (Some r) e h = left h.1 sound
        by None e h =
            let tests = asks_none (list_all (is_placed old) (names call)) NoSuchObject (refusal_of call (state_in old h.0))
            (sym (ap (λ o. asks_collection o (λ s. asks (list_all (is_placed old) (names call)) NoSuchObject (refusal_of call (state_in old s)))) h.2) ∙ e) in
            left h.4 (restated c h.0 h.2 h.1 (keeps_right (is_placed old) (state_in old h.0) (right_of c h.0 h.2) cmp (key_of old.adapter) (objects_of old) h.1 call reply tests.1 tests.0 h.3))

      -- a step leads to a sound family, because a refused call changes nothing, and an accepted call leads to a sound family
      accepted : (o : Option Refusal) (Accepted : Reply → Family A V → Type 0) (reply : Reply) → StepBy o Accepted old reply new → (o ≡ None → Accepted reply new → IsSound new) → IsSound new
      accepted (Some r) Accepted reply h keeps = left h.1 sound
      accepted None Accepted reply h keeps = keeps refl h

      add_keeps : (k : Kind) (reply : Reply) → Accepts cmp key_of old (call.AddField k) reply new → IsSound new
      add_keeps k (field f) h = left h.1 (added_sound old sound k)
      add_keeps k (refused OutOfMemory) h = left h sound
      add_keeps k _ h = absurd h

      open_keeps : (f : ℕ) (k : Kind) (reply : Reply) → refusal {K = K} old (call.Open f k) ≡ None → Accepts cmp key_of old (call.Open f k) reply new → IsSound new
      open_keeps f k (opened c) e h =
          let there = asks_none (has_field old f) NoSuchField (asks (carries (field_of old f).kind k) WrongKind None) e in
          let fits = asks_none (carries (field_of old f).kind k) WrongKind None there.1 in
          left h.1 (opened_sound old sound (record { field = f; kind = k; members = []; cursor = None })
          (record { in_field = there.0; carried = fits.0; linked = λ p member. absurd (member tt); cursor = λ p is. absurd (none_not p is) }) tt (λ d r is same. all_out r.members [] (λ p member. tt)))
      open_keeps f k (refused OutOfMemory) e h = left h sound
      open_keeps f k _ e h = absurd h

      place_keeps : (v : V) (reply : Reply) → Accepts cmp key_of old (call.Place v) reply new → IsSound new
      place_keeps v (object p) h = left h.2 (set_sound old sound p h.1 v)
      place_keeps v (refused TooManyObjects) h = left h sound
      place_keeps v (refused OutOfMemory) h = left h sound
      place_keeps v _ h = absurd h

      show_keeps : (c : ℕ) (reply : Reply) → Accepts cmp key_of old (call.Show c) reply new → IsSound new
      show_keeps c (items places) h = left h.3 sound
      show_keeps c (refused OutOfMemory) h = left h sound
      show_keeps c _ h = absurd h

      show_back_keeps : (c : ℕ) (reply : Reply) → Accepts cmp key_of old (call.ShowBack c) reply new → IsSound new
      show_back_keeps c (items places) h = left h.3 sound
      show_back_keeps c (refused OutOfMemory) h = left h sound
      show_back_keeps c _ h = absurd h

      -- A STEP from a sound family leads to a sound family
      pub keeps_sound : (command : Command V K) (reply : Reply) → Step cmp key_of old command reply new → IsSound new
      keeps_sound (call.AddField k) reply step = add_keeps k reply step
      keeps_sound (call.Open f k) reply step = accepted (refusal {K = K} old (call.Open f k)) (Accepts cmp key_of old (call.Open f k)) reply step (open_keeps f k reply)
      keeps_sound (call.Place v) reply step = place_keeps v reply step
      keeps_sound (call.RemoveObject p) reply step = accepted (refusal {K = K} old (call.RemoveObject p)) (Accepts cmp key_of old (call.RemoveObject p)) reply step (λ e h.
          let there = asks_none (is_placed old p) NoSuchObject (asks (not (is_linked_somewhere old p)) StillLinked None) e in
          left h.1 (removed_sound old sound p (not_false (is_linked_somewhere old p) (asks_none (not (is_linked_somewhere old p)) StillLinked None there.1).0)))
      keeps_sound (call.SetValue p v) reply step = accepted (refusal {K = K} old (call.SetValue p v)) (Accepts cmp key_of old (call.SetValue p v)) reply step (λ e h. left h.1 (set_sound old sound p (sound.below p (asks_none (is_placed old p) NoSuchObject None e).0) v))
      keeps_sound (call.Dispose c) reply step = accepted (refusal {K = K} old (call.Dispose c)) (Accepts cmp key_of old (call.Dispose c)) reply step (λ e h. left h.3 (disposed c h.0 h.1))
      keeps_sound (call.FastClear c) reply step = accepted (refusal {K = K} old (call.FastClear c)) (Accepts cmp key_of old (call.FastClear c)) reply step (λ e h. left h.3 (emptied c h.0 h.1))
      keeps_sound (call.Take c) reply step = out_keeps c All reply step
      keeps_sound (call.SplitAfter c) reply step = out_keeps c After reply step
      keeps_sound (call.SplitBefore c) reply step = out_keeps c Before reply step
      keeps_sound (call.Current c) reply step = accepted (refusal {K = K} old (call.Current c)) (Accepts cmp key_of old (call.Current c)) reply step (λ e h. left h.3 sound)
      keeps_sound (call.Show c) reply step = accepted (refusal {K = K} old (call.Show c)) (Accepts cmp key_of old (call.Show c)) reply step (λ e. show_keeps c reply)
      keeps_sound (call.ShowBack c) reply step = accepted (refusal {K = K} old (call.ShowBack c)) (Accepts cmp key_of old (call.ShowBack c)) reply step (λ e. show_back_keeps c reply)
      keeps_sound (call.SpliceAfter c d) reply step = splice_keeps IsAfter is_list c d reply step
      keeps_sound (call.SpliceBefore c d) reply step = splice_keeps IsBefore is_two_way_list c d reply step
      keeps_sound (call.Range c min max) reply step = accepted (refusal {K = K} old (call.Range c min max)) (Accepts cmp key_of old (call.Range c min max)) reply step (λ e h. left h.3 sound)
      keeps_sound (call.IsLinked f p) reply step = accepted (refusal {K = K} old (call.IsLinked f p)) (Accepts cmp key_of old (call.IsLinked f p)) reply step (λ e h. left h.1 sound)
      keeps_sound (call.ForceUnlink f p) reply step = accepted (refusal {K = K} old (call.ForceUnlink f p)) (Accepts cmp key_of old (call.ForceUnlink f p)) reply step (λ e h.
          let there = asks_none (has_field old f) NoSuchField _ e in
          let placed = asks_none (is_placed old p) NoSuchObject _ there.1 in
          let none = not_false (is_member_in old f p) (asks_none (not (is_member_in old f p)) IsMemberRefusal None placed.1).0 in
          left h.1 (freed_sound old sound f p there.0 (absent_in f p none)))
      keeps_sound (call.On c one) reply step = on_keeps c one reply step
