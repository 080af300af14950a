-- What holds of a splice that no test refuses, and how the splice follows from its parts.
use Rattle.std.proofs.Common.{◌≡◌, ◌≢◌, ℕ, Bool, true, false, not, nat_eq, List, [], ◌∷◌, set, Option, Some, None, map, get_or, refl, sym, ap, ◌∙◌, subst, inl, inr, ne_eqb, eq-eqb, ◌<◌, length, arith}
use Rattle.std.proofs.lemmas.Bool.{cases_eq}
use Rattle.std.proofs.lemmas.Option.{same_Some}
use Rattle.std.proofs.lemmas.List.{get_or-set_other, length-map, map-set}
use Rattle.ic_link_ops.specs.Prelude.{Place, Objects, IsDisjoint, Table}
use Rattle.ic_any_collection.specs.declared.entry.Entry.{Entry}
use Rattle.ic_any_collection.specs.declared.kind.Kind.{Kind}
use Rattle.ic_any_collection.specs.Kinds.{number_of, kind_with}
use Rattle.ic_world.specs.declared.field.WorldField.{WorldField}
use Rattle.ic_any_collection.specs.declared.any_collection.AnyCollection.{AnyCollection}
use Rattle.ic_any_collection.specs.AnyCollection.{Keeps, Held, kind_in, members_in}
use Rattle.ic_any_collection.proofs.AllKinds.{lawful as lawful_field}
use Rattle.ic_any_collection.proofs.AllKinds.{IsLawful, one_sequence}
use Rattle.ic_any_collection.specs.Edits.{PutsAll}
use Rattle.ic_world.specs.declared.collection.Collection.{Collection}
use Rattle.ic_world.specs.declared.call.Refusal.TheVariants.{WrongKind, SameCollection, OtherField}
use Rattle.ic_world.specs.Family.{Family, Sequence, collection, same_kind}
use Rattle.ic_world.specs.FamilyCodes.{kind_again}
use Rattle.ic_world.specs.Splices.{IsBesideOf, can_splice, Emptied, PutsBeside, CanJoin, CanBeJoined, PutsTogether, IsJoined, AreJoined}
use Rattle.ic_world.specs.Collections.{its_field, its_members, having, with_members}
use Rattle.ic_world.specs.Prelude.{done, table, table_of, sequence, seen_as, at, family_of, IsWhole}
use Rattle.ic_world.specs.Several.{StepSplice, refusal_of_splice}
use Rattle.ic_world.proofs.Readings.{collection_at, collection_is, table_read, one_read, with_is}
use Rattle.ic_world.proofs.Edits.{after}
use Rattle.ic_world.proofs.Splices.{splice_whole, splice_family}
use Rattle.ic_world.proofs.Steps.{asks_none}

pub eq_of : (m n : ℕ) → nat_eq m n ≡ true → m ≡ n
eq_of m n t = elim (cases_eq m n) [ inl e ↦ e | inr d ↦ absurd (let f : nat_eq m n ≡ false = ne_eqb m n d in cc) ]

-- if no test refuses a splice, the two collections differ, have one kind and one field, and their kind has the call
pub can_splice_of : {A V : Type 0} (old : Family A V) (has : Kind → Bool) (c d : ℕ) (s t : Sequence) → collection old c ≡ Some s → collection old d ≡ Some t → refusal_of_splice old has c d ≡ None
    → (has s.kind ≡ true) × (same_kind s.kind t.kind ≡ true) × (c ≢ d) × (s.field ≡ t.field)
can_splice_of old has c d s t is_s is_t e =
    let one = asks_none (has s.kind) WrongKind _ (rw (is_s, is_t) at e) in
    let two = asks_none (same_kind s.kind t.kind) WrongKind _ one.1 in
    let three = asks_none (not (nat_eq c d)) SameCollection _ two.1 in (
      one.0,
      two.0,
      (λ same. let yes : nat_eq c d ≡ true = eq-eqb c d same in let no = three.0 in cc),
      eq_of s.field t.field (asks_none (nat_eq s.field t.field) OtherField None three.1).0,
    )

module _ {V : Type 0} where
  -- the collections k and l, with the numbers c and d, can be spliced
  record CanSplice (has : Kind → Bool) (cs : List (Option (Collection V))) (c d : ℕ) (k l : Collection V) : Type 0 where
    is_k : at cs c ≡ Some k
    is_l : at cs d ≡ Some l
    can : has (kind_in k.members) ≡ true
    kinds : kind_in k.members ≡ kind_in l.members
    differ : c ≢ d
    fields : k.field ≡ l.field

  module _ {A : Type 0} (has : Kind → Bool) (adapter : A) (objects : Objects V) (ts : List (Table Entry)) (cs : List (Option (Collection V))) (c d : ℕ) where
    fit : (k l : Collection V) → refusal_of_splice (family_of adapter objects ts cs) has c d ≡ None → at cs c ≡ Some k → at cs d ≡ Some l → CanSplice has cs c d k l
    fit k l none is_k is_l =
        let all = can_splice_of (family_of adapter objects ts cs) has c d _ _ (collection_is adapter objects ts cs c k is_k) (collection_is adapter objects ts cs d l is_l) none in
        let numbers : number_of (kind_in k.members) ≡ number_of (kind_in l.members) = eq_of _ _ all.1 in record {
          is_k = is_k;
          is_l = is_l;
          can = all.0;
          kinds = sym (kind_again (kind_in k.members)) ∙ ap (λ n. kind_with (n ∷ [])) numbers ∙ kind_again (kind_in l.members);
          differ = all.2;
          fields = all.3;
        }

    two : (o p : Option (Collection V)) → refusal_of_splice (family_of adapter objects ts cs) has c d ≡ None → at cs c ≡ o → at cs d ≡ p → (k l : Collection V) × CanSplice has cs c d k l
    two None p none is_k is_l = absurd (let e = rw (collection_at adapter objects ts cs c, is_k) at none in cc)
    two (Some k) None none is_k is_l = absurd (let e = rw (collection_is adapter objects ts cs c k is_k, collection_at adapter objects ts cs d, is_l) at none in cc)
    two (Some k) (Some l) none is_k is_l = (k, l, fit k l none is_k is_l)

-- A SPLICE that no test refuses: `none` says that no refusal applies
module _ {A V : Type 0} {adapter : A} {objects : Objects V} {room : ℕ} {ts : List (Table Entry)} {cs : List (Option (Collection V))} (whole : IsWhole objects room ts cs)
    {old : Family A V} (view : family_of adapter objects ts cs ≡ old) (before : Bool) (c d : ℕ) (none : refusal_of_splice old (can_splice before) c d ≡ None) where
  none_now : refusal_of_splice (family_of adapter objects ts cs) (can_splice before) c d ≡ None
  none_now = rw (← view) at none

  both : (k l : Collection V) × CanSplice (can_splice before) cs c d k l
  both = two (can_splice before) adapter objects ts cs c d (at cs c) (at cs d) none_now refl refl

  abbrev k : Collection V
  k = both.0

  abbrev l : Collection V
  l = both.1

  fits : CanSplice (can_splice before) cs c d k l
  fits = both.2

  given_is : members_in (table ts k.field) l.members ≡ sequence ts l
  given_is = ap (λ f. members_in (table ts f) l.members) fits.fields

  fit_together : CanJoin before ts k l
  fit_together = record {
    there = whole.in_field c k fits.is_k;
    held = whole.held c k fits.is_k;
    given = subst (λ f. Held (table ts f) l.members) (sym fits.fields) (whole.held d l fits.is_l);
    can = fits.can;
    kinds = sym fits.kinds;
    apart = subst (λ s. IsDisjoint s (sequence ts k)) (sym given_is) (whole.apart d c l k (λ e. fits.differ (sym e)) fits.is_l fits.is_k (sym fits.fields));
  }

  -- the two collections meet what the splice requires
  pub can_be_joined : CanBeJoined before ts cs c d
  can_be_joined = record { list = k; given = l; list_is = fits.is_k; given_is = fits.is_l; differ = fits.differ; can = fit_together }

  -- THE INVARIANT of the world holds after the splice, and the call is THE STEP `StepSplice` of the model
  pub joined : {us : List (Table Entry)} {new : List (Option (Collection V))} → AreJoined before ts us cs new c d
      → IsWhole objects room us new × StepSplice (IsBesideOf before) (can_splice before) old c d done (family_of adapter objects us new)
  joined {us} joins =
      let j = joins k l fits.is_k fits.is_l in
      subst (λ x. IsWhole objects room us x × StepSplice (IsBesideOf before) (can_splice before) old c d done (family_of adapter objects us x)) (sym j.is) (by j.list j.given j.puts)
    where
      by : {us : List (Table Entry)} (k' l' : Collection V) → PutsTogether before ts us k l k' l'
          → IsWhole objects room us (set (set cs d (Some l')) c (Some k')) × StepSplice (IsBesideOf before) (can_splice before) old c d done (family_of adapter objects us (set (set cs d (Some l')) c (Some k')))
      by k' l' j =
          let same : k' ≡ after k k'.members = λ i. record { field = j.field i; members = k'.members } in
          let given_same : l' ≡ after l l'.members = λ i. record { field = j.given_field i; members = l'.members } in
          let put : PutsAll (table ts k.field) j.t k.members k'.members j.puts.0 (sequence ts l) = subst (PutsAll (table ts k.field) j.t k.members k'.members j.puts.0) given_is j.puts.2.1 in
          rw (j.tables, same, given_same) (
            splice_whole whole c d k l fits.is_k fits.is_l fits.differ fits.fields j.t k'.members l'.members j.emptied j.puts.0 j.puts.1 put,
            subst (λ w. StepSplice (IsBesideOf before) (can_splice before) w c d done (family_of adapter objects (set ts k.field j.t) (set (set cs d (Some (after l l'.members))) c (Some (after k k'.members))))) view (rw none_now (
              refl,
              seen_as k (sequence ts k),
              j.puts.0,
              collection_is adapter objects ts cs c k fits.is_k,
              j.puts.1,
              seen_as l (sequence ts l),
              collection_is adapter objects ts cs d l fits.is_l,
              j.puts.2.0,
              splice_family whole c d k l fits.is_k fits.is_l fits.differ fits.fields j.t k'.members l'.members j.emptied j.puts.0 j.puts.1 put,
            )),
          )

-- TWO COLLECTIONS THAT CAN BE SPLICED, as the call reads them. `field` and `k` are the field and the members of the first collection. `l` are the
-- members of the given collection. The call takes them out of this collection before it reads `k`
module _ {V M : Type 0} {before : Bool} (tables : List (WorldField M)) {cs : List (Option (Collection V))} {c d : ℕ} (can : CanBeJoined before (map table_of tables) cs c d) (field : ℕ) (has : Some field ≡ its_field (at cs c)) where
  field_within : field < length tables
  field_within =
      let same : field ≡ can.list.field = same_Some _ _ (has ∙ ap its_field can.list_is) in
      omega (arith, can.can.there, same, length-map tables table_of)

  module _ (emptied : AnyCollection V) where
    abbrev between : List (Option (Collection V))
    between = with_members cs d emptied

    first_stays : at between c ≡ at cs c
    first_stays = get_or-set_other cs d c (having emptied (at cs d)) None can.differ

    module _ (l : AnyCollection V) (given : Some l ≡ its_members (at cs d)) (k : AnyCollection V) (list : Some k ≡ its_members (at between c)) where
      abbrev one : Collection V
      one = record { field = field; members = k }

      abbrev other : Collection V
      other = record { field = can.given.field; members = l }

      one_is : at cs c ≡ Some one
      one_is = one_read (at cs c) field k has (list ∙ ap its_members first_stays)

      other_is : at cs d ≡ Some other
      other_is = one_read (at cs d) can.given.field l (sym (ap its_field can.given_is)) given

      pair_fits : CanJoin before (map table_of tables) one other
      pair_fits =
          subst (CanJoin before (map table_of tables) one) (same_Some _ _ (sym can.given_is ∙ other_is))
          (subst (λ x. CanJoin before (map table_of tables) x can.given) (same_Some _ _ (sym can.list_is ∙ one_is)) can.can)

      module _ (now : WorldField M) (links : now ≡ get_or tables field now) (taken : AnyCollection V) (same : (t : Table Entry) (s : List Place) → Keeps t l s → Keeps t taken s) where
        abbrev t : Table Entry
        t = table (map table_of tables) field

        read : t ≡ table_of now
        read = table_read tables field now field_within links

        all : members_in t taken ≡ members_in t l
        all = one_sequence t (subst IsLawful (sym read) (lawful_field now.links)) taken (members_in t l) (same t (members_in t l) pair_fits.given).shown

        -- the table represents the taken members, as `Held` says. The call that inserts them beside the cursor of the first list requires this
        pub taken_held : Held (table_of now) taken
        taken_held = subst (λ u. Held u taken) read (subst (Keeps t taken) (sym all) (same t (members_in t l) pair_fits.given))

        -- if the given list was emptied and its members were inserted beside the cursor of the first list, the collections c and d are spliced
        pub joined_by : Emptied l emptied → (nf : WorldField M) (m : AnyCollection V) → PutsBeside before (table_of now) (table_of nf) k m (members_in (table_of now) taken)
            → AreJoined before (map table_of tables) (map table_of (set tables field nf)) cs (with_members between c m) c d
        joined_by e nf m puts x y is_x is_y =
            subst (λ z. IsJoined before (map table_of tables) (map table_of (set tables field nf)) cs (with_members between c m) c d z y) (same_Some _ _ (sym one_is ∙ is_x))
            (subst (λ z. IsJoined before (map table_of tables) (map table_of (set tables field nf)) cs (with_members between c m) c d one z) (same_Some _ _ (sym other_is ∙ is_y)) (record {
              list = after one m;
              given = after other emptied;
              puts = record {
                t = table_of nf;
                tables = map-set table_of tables field nf;
                field = refl;
                given_field = refl;
                emptied = e;
                puts = subst (PutsBeside before t (table_of nf) k m) all (rw read puts);
              };
              is = with_is between c one (first_stays ∙ one_is) m ∙ ap (λ z. set z c (Some (after one m))) (with_is cs d other other_is emptied);
            }))
