-- From the invariant of a world it follows that its family is sound.
use Rattle.std.proofs.Common.{◌≡◌, ℕ, zero, suc, ◌<◌, inl, inr, Bool, true, false, List, [], ◌∷◌, length, map, Option, Some, refl, sym, ap, ◌∙◌, subst, true≢false, lt-ltb, nat_cmp}
use Rattle.std.proofs.lemmas.List.{length-map, get_or_past}
use Rattle.std.specs.FinSet as set
use Rattle.std.specs.FinSet.{contains-empty}
use Rattle.ic_link_ops.specs.Prelude.{Place, index_of, Objects, Cut, join, last, but_last, IsAbsent, IsMember, Table}
use Rattle.ic_link_ops.proofs.SequenceLemmas.{absent_left, absent_right, split_last}
use Rattle.ic_any_collection.specs.declared.entry.Entry.{Entry}
use Rattle.ic_any_collection.specs.declared.kind.Kind.TheVariants.{Singly as SinglyKind}
use Rattle.ic_any_collection.specs.Entries.{is_linked}
use Rattle.ic_any_collection.specs.Kinds.{carries}
use Rattle.ic_any_collection.specs.declared.any_collection.AnyCollection.{AnyCollection}
use Rattle.ic_any_collection.specs.declared.any_collection.AnyCollection.TheVariants.{Singly, Doubly, Xor, Tree}
use Rattle.ic_any_collection.specs.AnyCollection.{kind_in, cursor_in, IsCursorIn}
use Rattle.ic_any_collection.proofs.AllKinds.{IsLawful, lawful, unlinked_absent}
use Rattle.ic_world.specs.declared.collection.Collection.{Collection}
use Rattle.ic_world.specs.declared.field.WorldField.{WorldField}
use Rattle.ic_world.specs.Prelude.{Family, LinkField, linked_of, IsKept, table, table_of, field_in, sequence, seen_as, at, family_of, IsSoundIn, IsSound}
use Rattle.ic_world.proofs.Apart.{seen_at, are_apart}
use Rattle.ic_world.proofs.Linked.{side, in_linked}
use Rattle.ic_world.proofs.Readings.{field_at, linked_at}

-- the last member before a gap is a member of the whole sequence
last_member : (gap : Cut) (s : List Place) (p : Place) → join gap ≡ s → Some p ≡ last gap.front → IsMember p s
last_member gap s p cut e out =
    (absent_right p (but_last gap.front) (p ∷ []) (subst (IsAbsent p) (split_last gap.front (sym e)) (absent_left p gap.front gap.back (subst (IsAbsent p) (sym cut) out)))).0 refl

-- if the cursor of m is at a position in s and is not null, it is on a member of s
stands_on : {V : Type 0} (m : AnyCollection V) (s : List Place) → IsCursorIn s m → (p : Place) → cursor_in m ≡ Some p → IsMember p s
stands_on (Singly l at) s h p e = last_member h.0 s p h.1 (sym e ∙ h.2)
stands_on (Doubly l at) s h p e = last_member h.0 s p h.1 (sym e ∙ h.2)
stands_on (Xor l at) s h p e = last_member h.0 s p h.1 (sym e ∙ h.2)
stands_on (Tree l at) s h p e = last_member h.0 s p h.1 (sym e ∙ h.2)

-- only covered places are linked in the table of every field. No place is linked in a field that does not exist
lawful_at : {M : Type 0} (fields : List (WorldField M)) (f : ℕ) → IsLawful (table (map table_of fields) f)
lawful_at [] f = λ q h. absurd (true≢false (sym h))
lawful_at (x ∷ fields) zero = lawful x.links
lawful_at (x ∷ fields) (suc f) = lawful_at fields f

module _ {A V M : Type 0} (adapter : A) {objects : Objects V} {room : ℕ} (fields : List (WorldField M)) {cs : List (Option (Collection V))} (kept : IsKept adapter objects room fields cs) where
  abbrev ts : List (Table Entry)
  ts = map table_of fields

  abbrev w : Family A V
  w = family_of adapter objects ts cs

  linked_read : (f : ℕ) → f < length ts → (p : Place) → set.contains (linked_of w f) (index_of p) ≡ is_linked ((table ts f).entry p)
  linked_read f in_bounds p = ap (λ l. set.contains l (index_of p)) (linked_at adapter objects ts cs f in_bounds) ∙ in_linked (table ts f) (lawful_at fields f) p

  none_past : (f : ℕ) (p : Place) → set.contains (linked_of w f) (index_of p) ≡ true → f < length ts
  none_past f p h = elim (side (length ts) f) [
    | inl past ↦
        let none : set.contains (linked_of w f) (index_of p) ≡ false =
        ap (λ (x : LinkField). set.contains x.linked (index_of p)) (get_or_past (map field_in ts) f (record { kind = SinglyKind; linked = set.empty }) (rw length-map past)) ∙ contains-empty nat_cmp (index_of p) in
        absurd (true≢false (sym h ∙ none))
    | inr in_bounds ↦ in_bounds
  ]

  member_linked : (c : ℕ) (k : Collection V) → at cs c ≡ Some k → (p : Place) → IsMember p (sequence ts k) → (b : Bool) → is_linked ((table ts k.field).entry p) ≡ b → b ≡ true
  member_linked c k is p there true e = refl
  member_linked c k is p there false e = absurd (there (unlinked_absent (table ts k.field) k.members (sequence ts k) (kept.0.held c k is).shown e))

  sound_at : (c : ℕ) (k : Collection V) → at cs c ≡ Some k → IsSoundIn w (seen_as k (sequence ts k))
  sound_at c k is =
      let in_bounds = kept.0.in_field c k is in
      let held = kept.0.held c k is in
      record {
        in_field = lt-ltb k.field (length (map field_in ts)) (rw (length-map ts field_in) in_bounds);
        carried = ap (λ (x : LinkField). carries x.kind (kind_in k.members)) (field_at adapter objects ts cs k.field in_bounds) ∙ held.carried;
        linked = λ p there. linked_read k.field in_bounds p ∙ member_linked c k is p there (is_linked ((table ts k.field).entry p)) refl;
        cursor = stands_on k.members (sequence ts k) held.stands;
      }

  pub is_sound : IsSound w
  is_sound = record {
    below = λ p has. (kept.0.in_bounds (index_of p) has).1;
    placed = λ f p h. kept.0.placed f p (sym (linked_read f (none_past f p h) p) ∙ h);
    collections = λ c s is. let k = seen_at adapter kept.0 c s is in subst (IsSoundIn w) k.2 (sound_at c k.0 k.1);
    apart = are_apart adapter kept.0;
  }
