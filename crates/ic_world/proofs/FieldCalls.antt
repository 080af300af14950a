-- Calls of one field: `is_linked` says whether an object is linked in the field, and `force_unlink` unlinks an object.
use Rattle.std.proofs.Common.{◌≡◌, ◌≢◌, ℕ, ◌<◌, inl, inr, true, false, not, ◌&&◌, List, [], ◌∷◌, length, map, get_or, Option, Some, None, refl, sym, ap, ◌∙◌, subst, arith, Bool, eq-eqb, ne_eqb, ltb-true, ◌↔◌, IsTrue, Ordering}
use Rattle.std.proofs.Common.{set as set_at}
use Rattle.std.proofs.lemmas.Bool.{cases_eq}
use Rattle.std.proofs.lemmas.List.{length-map, map-set, get_or-map, get_or_default}
use Rattle.std.proofs.lemmas.List.Folds.{list_any_at, list_any_none}
use Rattle.std.proofs.Math.ListN.{get_or-map as map_at}
use Rattle.std.specs.FinSet as set
use Rattle.ic_link_ops.specs.Prelude.{Place, index_of, Objects, is_placed as place_is_placed, IsAbsent, IsMember, IsCovered, IsUnlinked, ChangesOnly}
use Rattle.ic_unsafe_ref.proofs.PlaceLemmas.{same_index}
use Rattle.ic_any_collection.specs.declared.any_table.AnyTable.{AnyTable}
use Rattle.ic_any_collection.specs.AnyTables.{table_in}
use Rattle.ic_world.specs.declared.field.WorldField.{WorldField}
use Rattle.ic_any_collection.specs.Entries.{is_linked}
use Rattle.ic_any_collection.specs.AnyCollection.{Held, members_in}
use Rattle.ic_any_collection.proofs.AllKinds.{lawful as lawful_field, unlinked_absent}
use Rattle.ic_world.specs.declared.collection.Collection.{Collection}
use Rattle.ic_world.specs.declared.call.Command.TheVariants.{IsLinked, ForceUnlink}
use Rattle.ic_world.specs.declared.call.Refusal.TheVariants.{NoSuchObject}
use Rattle.ic_world.specs.declared.call.Refusal.TheVariants.{IsMember as IsMemberRefusal}
use Rattle.ic_world.specs.Family.{Family, Sequence, is_among, collection, linked_of, has_field, is_placed, has_member_in, is_member_in}
use Rattle.ic_world.specs.Collections.{HasMember}
use Rattle.ic_world.specs.Prelude.{IsKept, table, table_of, left_in, sequence, seen_as, represented_as, at, family_of, IsWhole, Step}
use Rattle.ic_world.specs.LinkedSets.{linked_in}
use Rattle.ic_world.specs.Calls.{linked, done}
use Rattle.ic_world.proofs.Linked.{in_linked, absent_or}
use Rattle.ic_world.proofs.Readings.{table_read, set_back, left_back, some_within, collection_is, linked_at}
use Rattle.ic_world.proofs.Growth.{freed_whole, freed_family}
use Rattle.ic_world.proofs.LeftLinked.{none_freed}
use Rattle.ic_world.proofs.Steps.{step_accepted, field_there, passes}

module _ {A V M : Type 0} {adapter : A} {objects : Objects V} {room : ℕ} (tables : List (WorldField M)) {cs : List (Option (Collection V))} (kept : IsKept adapter objects room tables cs) where
  -- if the family has the field f, the world has a table for f
  pub within_by : (f : ℕ) → has_field (family_of adapter objects (map table_of tables) cs) f ≡ true → f < length tables
  within_by f there = let low = ltb-true f _ there in rw (length-map, length-map) at low

  -- each table covers the place of each object
  pub covers_object : (f : ℕ) (t : WorldField M) (p : Place) → f < length tables → t ≡ get_or tables f t → place_is_placed objects p ≡ true → IsCovered (table_of t) p
  covers_object f t p in_bounds read has =
      let reach = (kept.0.in_bounds (index_of p) has).0 in
      let covers = kept.0.covered f (rw length-map in_bounds) in
      let same = ap (λ u. u.extent.places) (table_read tables f t in_bounds read) in
      omega (arith, reach, covers, same)

  -- a place is in the linked set of the family's field exactly if its entry in the table is linked
  linked_read : (f : ℕ) (t : WorldField M) (p : Place) → f < length tables → t ≡ get_or tables f t
      → set.contains (linked_of (family_of adapter objects (map table_of tables) cs) f) (index_of p) ≡ is_linked ((table_of t).entry p)
  linked_read f t p in_bounds read =
      ap (λ l. set.contains l (index_of p)) (linked_at adapter objects (map table_of tables) cs f (rw length-map in_bounds) ∙ ap linked_in (table_read tables f t in_bounds read)) ∙ in_linked (table_of t) (lawful_field t.links) p

  pub is_linked_step : {K : Type 0} (cmp : K → K → Ordering) (key_of : A → V → K) (f : ℕ) (t : WorldField M) (p : Place) → f < length tables → t ≡ get_or tables f t → place_is_placed objects p ≡ true
      → (answer : Bool) → answer ≡ is_linked ((table_of t).entry p)
      → Step cmp key_of (family_of adapter objects (map table_of tables) cs) (IsLinked f p) (linked answer) (family_of adapter objects (map table_of tables) cs)
  is_linked_step cmp key_of f t p in_bounds read has answer is =
      let w = family_of adapter objects (map table_of tables) cs in
      step_accepted cmp key_of w (IsLinked f p) (linked answer) w (field_there w f _ (rw (length-map, length-map) in_bounds) ∙ passes (is_placed w p) NoSuchObject None has) (ap linked (is ∙ sym (linked_read f t p in_bounds read)), refl)

-- the function `is_among` says whether p is a member of s: `false` if p is absent, and `true` if p is a member
absent_among : (p : Place) (s : List Place) → IsAbsent p s → is_among p s ≡ false
absent_among p [] out = refl
absent_among p (x ∷ s) out = rw (ne_eqb (index_of x) (index_of p) (λ e. out.0 (sym (same_index x p e)))) (absent_among p s out.1)

member_among : (p : Place) (s : List Place) → IsMember p s → is_among p s ≡ true
member_among p [] there = absurd (there tt)
member_among p (x ∷ s) there =
    elim (cases_eq (index_of x) (index_of p)) [
      | inl e ↦ rw (eq-eqb (index_of x) (index_of p) e) refl
      | inr d ↦ rw (ne_eqb (index_of x) (index_of p) d) (member_among p s (λ out. there ((λ e. d (ap index_of (sym e))), out)))
    ]

pub among_is : (p : Place) (s : List Place) (b : Bool) → (IsTrue b ↔ IsMember p s) → is_among p s ≡ b
among_is p s true tells = member_among p s (tells.0 refl)
among_is p s false tells = elim (absent_or s p) [
  | inl out ↦ absent_among p s out
  | inr there ↦ absurd (let no = tells.1 there in cc)
]

-- if `is_among` says that p is not a member of s, p is absent from s
pub not_among : (p : Place) (s : List Place) → is_among p s ≡ false → IsAbsent p s
not_among p s lacks = elim (absent_or s p) [
  | inl out ↦ out
  | inr there ↦ absurd (let yes = member_among p s there in let both : true ≡ false = sym yes ∙ lacks in cc)
]

-- if p is a member of no collection of the field f, p is absent from each collection of the field
absent_in : {A V : Type 0} (w : Family A V) (f : ℕ) (p : Place) → is_member_in w f p ≡ false → (c : ℕ) (s : Sequence) → collection w c ≡ Some s → s.field ≡ f → IsAbsent p s.members
absent_in w f p none c s is same = not_among p s.members (by (is_among p s.members) refl)
  where
    by : (b : Bool) → is_among p s.members ≡ b → is_among p s.members ≡ false
    by false e = e
    by true e =
        let has : has_member_in f p (collection w c) ≡ true = ap (has_member_in f p) is ∙ ap (λ x. x && is_among p s.members) (eq-eqb s.field f same) ∙ e in
        let yes = list_any_at (has_member_in f p) w.collections c None (some_within w.collections c is) has in
        absurd (let both : true ≡ false = sym yes ∙ none in cc)

module _ {A V M : Type 0} {adapter : A} {objects : Objects V} {room : ℕ} (tables : List (WorldField M)) (cs : List (Option (Collection V))) (kept : IsKept adapter objects room tables cs) (f : ℕ) (p : Place) where
  abbrev whole : IsWhole objects room (map table_of tables) cs
  whole = kept.0

  -- the table that a call reads for the field f represents the members of each collection of the field
  pub held_read : (c : ℕ) (k : Collection V) (t : WorldField M) → at cs c ≡ Some k → k.field ≡ f → t ≡ get_or tables f t → Held (table_of t) k.members
  held_read c k t is same read =
      let in_bounds : f < length tables = let a = whole.in_field c k is in omega (arith, a, same, length-map tables table_of) in
      subst (λ u. Held u k.members) (ap (table (map table_of tables)) same ∙ table_read tables f t in_bounds read) (whole.held c k is)

  has_at : (c : ℕ) → has_member_in f p (get_or (map (represented_as (map table_of tables)) cs) c None) ≡ has_member_in f p (represented_as (map table_of tables) (at cs c))
  has_at c = ap (has_member_in f p) (map_at (represented_as (map table_of tables)) cs c None)

  -- let b be true exactly if the table represents p as a member of the collection k of the field f. Then b is `has_member_in` of this collection in
  -- the family
  here_is : (c : ℕ) (k : Collection V) (t : WorldField M) → at cs c ≡ Some k → k.field ≡ f → t ≡ get_or tables f t → (b : Bool) → (IsTrue b ↔ IsMember p (members_in (table_of t) k.members))
      → has_member_in f p (get_or (map (represented_as (map table_of tables)) cs) c None) ≡ b
  here_is c k t is same read b tells =
      let in_bounds : f < length tables = let a = whole.in_field c k is in omega (arith, a, same, length-map tables table_of) in
      let seen : members_in (table_of t) k.members ≡ sequence (map table_of tables) k = ap (λ u. members_in u k.members) (sym (ap (table (map table_of tables)) same ∙ table_read tables f t in_bounds read)) in
      has_at c ∙ ap (λ o. has_member_in f p (represented_as (map table_of tables) o)) is
      ∙ ap (λ x. x && is_among p (sequence (map table_of tables) k)) (eq-eqb k.field f same)
      ∙ ap (is_among p) (sym seen) ∙ among_is p (members_in (table_of t) k.members) b tells

  -- `has_member_in f p` is false of a collection of another field, and of a number without a collection
  other_is : (c : ℕ) (k : Collection V) → at cs c ≡ Some k → k.field ≢ f → has_member_in f p (get_or (map (represented_as (map table_of tables)) cs) c None) ≡ false
  other_is c k is other =
      has_at c ∙ ap (λ o. has_member_in f p (represented_as (map table_of tables) o)) is ∙ ap (λ x. x && is_among p (sequence (map table_of tables) k)) (ne_eqb k.field f other)

  none_is : (c : ℕ) → at cs c ≡ None → has_member_in f p (get_or (map (represented_as (map table_of tables)) cs) c None) ≡ false
  none_is c is = has_at c ∙ ap (λ o. has_member_in f p (represented_as (map table_of tables) o)) is

  -- if no stored collection of the field f has p as a member, then no collection of the family's field f has it
  none_has : (t : WorldField M) → t ≡ get_or tables f t → ((c : ℕ) (k : Collection V) → at cs c ≡ Some k → k.field ≡ f → IsMember p (members_in (table_of t) k.members) → ⊥)
      → is_member_in (family_of adapter objects (map table_of tables) cs) f p ≡ false
  none_has t read lacks =
      list_any_none (has_member_in f p) xs (λ c d low. ap (has_member_in f p) (get_or_default xs c d None low) ∙ by c (at cs c) refl)
    where
      xs : List (Option Sequence)
      xs = map (represented_as (map table_of tables)) cs

      by : (c : ℕ) (o : Option (Collection V)) → at cs c ≡ o → has_member_in f p (get_or xs c None) ≡ false
      by c None is = none_is c is
      by c (Some k) is = elim (cases_eq k.field f) [
        | inl same ↦ here_is c k t is same read false ((λ never. absurd (let no = never in cc)), (λ there. absurd (lacks c k is same there)))
        | inr other ↦ other_is c k is other
      ]

  -- AN UNLINKED OBJECT is a member of no collection of the field
  pub in_none : (t : WorldField M) → t ≡ get_or tables f t → IsUnlinked is_linked (table_of t) p → is_member_in (family_of adapter objects (map table_of tables) cs) f p ≡ false
  in_none t read free =
      none_has t read (λ c k is same there. there (unlinked_absent (table_of t) k.members (members_in (table_of t) k.members) (held_read c k t is same read).shown free))

  -- A TEST OF ALL COLLECTIONS OF THE FIELD f: if its result b is true exactly if p is a member of one of them, then b is `is_member_in` of the family
  pub asked : (t : WorldField M) → t ≡ get_or tables f t → (b : Bool) → (IsTrue b ↔ HasMember cs f (table_of t) p) → b ≡ is_member_in (family_of adapter objects (map table_of tables) cs) f p
  asked t read true tells =
      let h = tells.0 refl in
      let here = here_is h.number h.one t h.is h.field read true ((λ _. h.member), (λ _. refl)) in
      sym (list_any_at (has_member_in f p) (map (represented_as (map table_of tables)) cs) h.number None (rw length-map (some_within cs h.number h.is)) here)
  asked t read false tells =
      sym (none_has t read (λ c k is same there. let no = tells.1 (record { number = c; one = k; is = is; field = same; member = there }) in cc))

  -- A LINKED OBJECT is a member of a collection of the field, if `fast_clear` left no member linked in the field
  pub in_some : (t : WorldField M) → f < length tables → t ≡ get_or tables f t → is_linked ((table_of t).entry p) ≡ true → t.left_linked ≡ false
      → is_member_in (family_of adapter objects (map table_of tables) cs) f p ≡ true
  in_some t in_bounds read held left = by (is_member_in w f p) refl
    where
      w : Family A V
      w = family_of adapter objects (map table_of tables) cs

      kept_in : get_or (left_in tables) f true ≡ false
      kept_in = get_or-map (λ (x : WorldField M). x.left_linked) tables f t true in_bounds ∙ ap (λ (x : WorldField M). x.left_linked) (sym read) ∙ left

      by : (b : Bool) → is_member_in w f p ≡ b → is_member_in w f p ≡ true
      by true e = e
      by false e = absurd (kept.1.none f p kept_in (linked_read tables kept f t p in_bounds read ∙ held, absent_in w f p e))

  -- AN OBJECT IS UNLINKED BY FORCE, if it is a member of no collection of the field
  module _ (in_bounds : f < length tables) (t : WorldField M) (read : t ≡ get_or tables f t) (links : AnyTable M) (free : IsUnlinked is_linked (table_in links) p) (frame : ChangesOnly (table_of t) (table_in links) p)
      {old : Family A V} (view : family_of adapter objects (map table_of tables) cs ≡ old) (none : is_member_in old f p ≡ false) where
    in_map : f < length (map table_of tables)
    in_map = rw length-map in_bounds

    changes : ChangesOnly (table (map table_of tables) f) (table_in links) p
    changes = subst (λ u. ChangesOnly u (table_in links) p) (sym (table_read tables f t in_bounds read)) frame

    absent : (c : ℕ) (k : Collection V) → at cs c ≡ Some k → k.field ≡ f → IsAbsent p (sequence (map table_of tables) k)
    absent c k is same =
        absent_in (family_of adapter objects (map table_of tables) cs) f p (rw (← view) at none) c (seen_as k (sequence (map table_of tables) k)) (collection_is adapter objects (map table_of tables) cs c k is) same

    unlinked_step : {K : Type 0} (cmp : K → K → Ordering) (key_of : A → V → K) → place_is_placed objects p ≡ true
        → Step cmp key_of (family_of adapter objects (map table_of tables) cs) (ForceUnlink f p) done (family_of adapter objects (map table_of (set_at tables f (record t { links = links }))) cs)
    unlinked_step cmp key_of has =
        let w = family_of adapter objects (map table_of tables) cs in
        rw map-set (step_accepted cmp key_of w (ForceUnlink f p) done _ (field_there w f _ (rw length-map in_map) ∙ passes (is_placed w p) NoSuchObject _ has ∙ passes _ IsMemberRefusal None (ap not (rw (← view) at none)))
        (refl, freed_family whole f in_map (table_in links) p free changes absent))

    pub unlinked_by : {K : Type 0} (cmp : K → K → Ordering) (key_of : A → V → K) → place_is_placed objects p ≡ true
        → IsKept adapter objects room (set_at tables f (record t { links = links })) cs × Step cmp key_of old (ForceUnlink f p) done (family_of adapter objects (map table_of (set_at tables f (record t { links = links }))) cs)
    unlinked_by cmp key_of has =
        let step = unlinked_step cmp key_of has in
        ((rw map-set (freed_whole whole f in_map (table_in links) p free changes absent), rw (left_back tables f t links (set_back tables f t read)) (none_freed kept.1 cmp key_of f p done step)), rw (← view) step)
