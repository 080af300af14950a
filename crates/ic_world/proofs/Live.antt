-- The live collections of a field are those in the list of the field.
use Rattle.std.proofs.Common.{◌≡◌, ℕ, ◌<◌, ◌≤◌, ◌+◌, inl, inr, List, [], length, map, get_or, Option, Some, None, refl, sym, ap, ◌∙◌, subst, arith, Bool, true, false, ◌↔◌, IsTrue, slice_get, Vec}
use Rattle.std.proofs.lemmas.Bool.{cases_eq}
use Rattle.std.proofs.lemmas.List.{get_or_past, get_or-map}
use Rattle.std.proofs.lemmas.Option.{same_Some, slice_get_read, slice_get_within}
use Rattle.ic_link_ops.specs.Prelude.{Place, IsMember, Table}
use Rattle.ic_any_collection.specs.declared.entry.Entry.{Entry}
use Rattle.ic_any_collection.specs.AnyCollection.{members_in, Held}
use Rattle.ic_world.specs.declared.collection.Collection.{Collection}
use Rattle.ic_world.specs.declared.collections_by_number.Slot.{Slot}
use Rattle.ic_world.specs.declared.collections_by_number.Numbered.{Numbered}
use Rattle.ic_world.specs.Tables.{at}
use Rattle.ic_world.specs.Collections.{AreHeld, HasMember}
use Rattle.ic_world.specs.ByNumber.{items_of, live_in, lying, in_field, by_number, AreNumbered, EachHeld, SomeHas}
use Rattle.ic_world.proofs.ByNumber.{Lists, shown, represented_is, some_not_none}

module _ {V : Type 0} {cs : List (Option (Collection V))} (ls : Lists V) (ns : List Slot) (are : AreNumbered ls ns) (view : by_number ls ns ≡ cs) where
  -- if the list of the field f has the collection n, then n is the collection with the number `n.number`
  live_represented : (f i : ℕ) (n : Numbered V) → lying ls f i ≡ Some n → at cs n.number ≡ Some (record { field = f; members = n.members })
  live_represented f i n lies = represented_is ls ns n.number (record { field = f; index = i }) view ∙ ap (shown ls) (are.found f i n lies) ∙ ap (in_field f) lies

  -- a collection that has a number is in the list of its field
  represented_live : (c : ℕ) (k : Collection V) → at cs c ≡ Some k → (i : ℕ) × (n : Numbered V) × (lying ls k.field i ≡ Some n) × (n.members ≡ k.members)
  represented_live c k is = by (slice_get ns c) refl
    where
      there : (s : Slot) (o : Option (Numbered V)) → lying ls s.field s.index ≡ o → in_field s.field o ≡ Some k → (i : ℕ) × (n : Numbered V) × (lying ls k.field i ≡ Some n) × (n.members ≡ k.members)
      there s None e h = absurd cc
      there s (Some n) e h =
          let same = same_Some _ _ h in
          (s.index, n, ap (λ f. lying ls f s.index) (sym (ap (λ (x : Collection V). x.field) same)) ∙ e, ap (λ (x : Collection V). x.members) same)

      by : (o : Option Slot) → slice_get ns c ≡ o → (i : ℕ) × (n : Numbered V) × (lying ls k.field i ≡ Some n) × (n.members ≡ k.members)
      by None e = absurd (some_not_none is (represented_is ls ns c (record { field = 0; index = 0 }) view ∙ ap (shown ls) e))
      by (Some s) e = there s (lying ls s.field s.index) refl (sym (represented_is ls ns c s view ∙ ap (shown ls) e) ∙ is)

  module _ (f : ℕ) (t : Table Entry) where
    pub each_held : AreHeld cs f t → EachHeld t (live_in ls f)
    each_held held i n e = held n.number (record { field = f; members = n.members }) (live_represented f i n e) refl

    pub has_member : (p : Place) (b : Bool) → (IsTrue b ↔ SomeHas t p (live_in ls f)) → (IsTrue b ↔ HasMember cs f t p)
    has_member p b tells = (
      (λ yes. let one = tells.0 yes in record {
        number = one.one.number;
        one = record { field = f; members = one.one.members };
        is = live_represented f one.index one.one one.is;
        field = refl;
        member = one.member;
      }),
      (λ has. tells.1 (let n = represented_live has.number has.one has.is in record {
        index = n.0;
        one = n.1;
        is = ap (λ g. lying ls g n.0) (sym has.field) ∙ n.2;
        member = subst (λ m. IsMember p (members_in t m)) (sym n.3) has.member;
      })),
    )

    -- a field whose number is past the lists has no collection, so no place is a member of one
    pub has_none : (p : Place) → length ls ≤ f → HasMember cs f t p → ⊥
    has_none p past has =
        let n = represented_live has.number has.one has.is in
        some_not_none n.2 (ap (λ xs. slice_get xs n.0) (get_or_past ls has.one.field [] (omega (arith, past, has.field))))

-- THE LIST OF A FIELD IS SEARCHED from its front for a collection with the member p
module _ {V : Type 0} (t : Table Entry) (p : Place) (list : List (Numbered V)) where
  abbrev Lack : ℕ → Type 0
  Lack i = (j : ℕ) → j < i → (n : Numbered V) → slice_get list j ≡ Some n → IsMember p (members_in t n.members) → ⊥

  pub one_held : EachHeld t list → (i : ℕ) (n : Numbered V) → i < length list → n ≡ get_or list i n → Held t n.members
  one_held held i n in_bounds read = held i n (slice_get_read list (length list) i n refl in_bounds read)

  pub some_has : (i : ℕ) (n : Numbered V) → i < length list → n ≡ get_or list i n → IsMember p (members_in t n.members) → IsTrue true ↔ SomeHas t p list
  some_has i n in_bounds read member = ((λ _. record { index = i; one = n; is = slice_get_read list (length list) i n refl in_bounds read; member = member }), (λ _. refl))

  pub none_more : (i : ℕ) (n : Numbered V) → i < length list → n ≡ get_or list i n → (IsMember p (members_in t n.members) → ⊥) → Lack i → Lack (i + 1)
  none_more i n in_bounds read lacks before j low m is = elim (cases_eq j i) [
    | inl same ↦
        let this : n ≡ m = same_Some _ _ (sym (slice_get_read list (length list) i n refl in_bounds read) ∙ ap (slice_get list) (sym same) ∙ is) in
        subst (λ (x : Numbered V). IsMember p (members_in t x.members) → ⊥) this lacks
    | inr other ↦ before j (omega (arith, low, other)) m is
  ]

  pub none_has : (i : ℕ) → length list ≤ i → Lack i → IsTrue false ↔ SomeHas t p list
  none_has i past lacks =
      ((λ never. absurd (let no = never in cc)), (λ has. absurd (let low = slice_get_within list has.index has.one has.is in lacks has.index (omega (arith, low, past)) has.one has.is has.member)))

-- the list that a call reads for the field f has the live collections of the field
pub field_list : {V M : Type 0} (lists : List (Vec (Numbered V) M)) (f : ℕ) (list : Vec (Numbered V) M) → f < length lists → list ≡ get_or lists f list → live_in (map items_of lists) f ≡ list.items
field_list {V} {M} lists f list in_bounds read = get_or-map items_of lists f list [] in_bounds ∙ ap (λ (v : Vec (Numbered V) M). v.items) (sym read)
