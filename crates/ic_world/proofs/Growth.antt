-- The tables grow to cover more places, and the family stays as it is. A field is added, and the other fields stay as they are.
use Rattle.std.proofs.Common.{◌≡◌, ◌≢◌, ℕ, ◌<◌, ◌≤◌, ◌+◌, get_or, is_ok, inl, inr, Bool, true, false, List, [], ◌∷◌, ◌++◌, length, map, set, Option, Some, None, refl, sym, ap, ◌∙◌, subst, arith, length-append, max, Result, Ok, Err, OnOk, OnErr, Ordering}
use Rattle.std.proofs.lemmas.Bool.{cases_eq}
use Rattle.std.proofs.lemmas.List.{get_or_past, map-append, map-set, length-map, length-set, get_or-set_same, get_or-set_other, ext_get_or, get_or_append_left, get_or_push, get_or-map}
use Rattle.std.proofs.Math.ListN.{get_or-map as map_at}
use Rattle.std.specs.FinSet as set_of
use Rattle.ic_link_ops.specs.Prelude.{Place, index_of, Objects, IsAbsent, Table, Extent, IsCovered, IsUnlinked, ChangesOnly, ChangesOnlyIn}
use Rattle.ic_link_ops.proofs.Prelude.{same_index, disjoint_cons}
use Rattle.ic_any_collection.specs.declared.entry.Entry.{Entry}
use Rattle.ic_any_collection.specs.declared.any_table.AnyTable.{AnyTable}
use Rattle.ic_any_collection.specs.declared.kind.Kind.{Kind}
use Rattle.ic_any_collection.specs.AnyTables.{table_in}
use Rattle.ic_any_collection.specs.Kinds.{kind_with}
use Rattle.ic_any_collection.specs.Entries.{is_linked, kind_of}
use Rattle.ic_any_collection.specs.AnyCollection.{Keeps}
use Rattle.ic_any_collection.proofs.AllKinds.{lawful as lawful_field}
use Rattle.ic_any_collection.proofs.AllKinds.{IsLawful, one_sequence, represented_frame, keeps_frame}
use Rattle.ic_world.specs.declared.collection.Collection.{Collection}
use Rattle.ic_world.specs.declared.field.WorldField.{WorldField}
use Rattle.ic_world.specs.Prelude.{Family, Sequence, LinkField, with_linked, linked_of, field_of, IsKept, table, table_of, no_table, field_in, sequence, seen_as, represented_as, at, family_of, IsWhole, HasObject, field, Step}
use Rattle.ic_world.specs.LinkedSets.{linked_in}
use Rattle.ic_world.specs.declared.call.Refusal.{Refusal}
use Rattle.ic_world.specs.declared.call.Command.TheVariants.{AddField}
use Rattle.ic_world.specs.Replies.{reply_of}
use Rattle.ic_world.specs.Pieces.{Appends, IsFresh}
use Rattle.ic_world.proofs.Readings.{field_at}
use Rattle.ic_world.specs.Growth.{Cover, GrowsTo, Grown, Grows}
use Rattle.ic_world.proofs.Steps.{from_ok}
use Rattle.ic_world.proofs.Linked.{side, linked_empty, linked_same, linked_loses}
use Rattle.ic_world.proofs.Edits.{lawful}
use Rattle.ic_world.proofs.Opened.{disjoint_none}
use Rattle.ic_world.proofs.LeftLinked.{none_added}

-- while the tables grow one after the other, each of the first f tables already covers at least `count` places
pub record GrownTo (ts us : List (Table Entry)) (f count : ℕ) : Type 0 where
  pub grown : Grown ts us
  pub done : (g : ℕ) → g < f → count ≤ (table us g).extent.places

grows_on : (t u v : Table Entry) → GrowsTo t u → GrowsTo u v → GrowsTo t v
grows_on t u v a b = record {
  longer = let x = a.longer in let y = b.longer in omega (arith, x, y);
  identity = b.identity ∙ a.identity;
  entries = λ q. b.entries q ∙ a.entries q;
}

-- if the table of the field f grows once more, the tables have still grown from `ts`
grown_more : (ts us : List (Table Entry)) (f : ℕ) (t : Table Entry) → Grown ts us → f < length us → GrowsTo (table us f) t → Grown ts (set us f t)
grown_more ts us f t so in_bounds more = record {
  count = length-set us f t ∙ so.count;
  each = λ g. elim (cases_eq g f) [
    | inl e ↦ rw (e, get_or-set_same us f t no_table in_bounds) (grows_on (table ts f) (table us f) t (so.each f) more)
    | inr d ↦ rw (get_or-set_other us f g t no_table d) (so.each g)
  ];
}

-- after a call that should make a table cover n places, the table covers at least as many places as before
covers_more : {A E : Type 0} (r : Result A E) (old new : Extent) (n : ℕ) → OnOk r (new.places ≡ max old.places n) → OnErr r (new ≡ old) → old.places ≤ new.places
covers_more (Ok a) old new n ok err = omega (arith, ok)
covers_more (Err e) old new n ok err = let same = ap (λ (x : Extent). x.places) err in omega (arith, same)

-- the contract of a call that should make a table cover `count` places
abbrev Covering : {A E : Type 0} → ℕ → Result A E → (too_many : Type 0) → (old new : Table Entry) → (enough : Type 0) → Type 0
Covering count r said old new is_enough = record {
  too_many : said;
  covers : OnOk r (new.extent.places ≡ max old.extent.places count);
  stays : (q : Place) → new.entry q ≡ old.entry q;
  identity : new.extent.identity ≡ old.extent.identity;
  enough : is_enough;
  refused : OnErr r (new.extent ≡ old.extent);
}

-- the table that grows is the table of the field f, which the call has read
module _ {M A E : Type 0} {said is_enough : Type 0} (ts : List (Table Entry)) (tables : List (WorldField M)) (f count : ℕ) (in_bounds : f < length tables) (x : WorldField M) (links : AnyTable M) (r : Result A E)
    (e : Covering count r said (table_of (get_or tables f x)) (table_in links) is_enough) where
  abbrev u : WorldField M
  u = record (get_or tables f x) { links = links }

  pub covered_more : Grown ts (map table_of tables) → Grown ts (map table_of (set tables f u))
  covered_more so =
      let t = table_of (get_or tables f x) in
      let more : GrowsTo t (table_of u) = record { longer = covers_more r t.extent (table_of u).extent count e.covers e.refused; identity = e.identity; entries = e.stays } in
      rw map-set (grown_more ts (map table_of tables) f (table_of u) so (rw length-map in_bounds) (subst (λ v. GrowsTo v (table_of u)) (sym (get_or-map table_of tables f x no_table in_bounds)) more))

  pub covered_next : is_ok r ≡ true → GrownTo ts (map table_of tables) f count → GrownTo ts (map table_of (set tables f u)) (f + 1) count
  covered_next ok so = record {
    grown = covered_more so.grown;
    done = λ g h. elim (cases_eq g f) [
      | inl same ↦ let all = from_ok r ok e.covers in rw (map-set, same, get_or-set_same (map table_of tables) f (table_of u) no_table (rw length-map in_bounds)) (omega (arith, all))
      | inr d ↦ rw (map-set, get_or-set_other (map table_of tables) f g (table_of u) no_table d) (so.done g (omega (arith, h, d)))
    ];
  }

-- if some tables grew, each still covers at least `room` places. If all grew, each covers at least `room` and `count` places
pub grows_some : (room : ℕ) (ts us : List (Table Entry)) → Grown ts us → Grows room ts room us
grows_some room ts us so = record {
  grown = so;
  more = omega arith;
  covered = λ old f h. let n = so.count in let a = old f (omega (arith, h, n)) in let b = (so.each f).longer in omega (arith, a, b);
}

pub grows_all : (room room' count f : ℕ) (ts us : List (Table Entry)) → GrownTo ts us f count → length ts ≤ f → room' ≡ max room count → Grows room ts room' us
grows_all room room' count f ts us so past e = record {
  grown = so.grown;
  more = omega (arith, e);
  covered = λ old g h. let n = so.grown.count in let a = (grows_some room ts us so.grown).covered old g h in let b = so.done g (omega (arith, h, n, past)) in omega (arith, a, b, e);
}

-- OTHER TABLES `us`: each represents the sequences that the old table of the same field represents
module _ {V : Type 0} {objects : Objects V} {room : ℕ} {ts : List (Table Entry)} {cs : List (Option (Collection V))} (whole : IsWhole objects room ts cs) (us : List (Table Entry))
    (law : (f : ℕ) → IsLawful (table us f)) (kept : (c : ℕ) (k : Collection V) → at cs c ≡ Some k → Keeps (table us k.field) k.members (sequence ts k)) where
  kept_sequence : (c : ℕ) (k : Collection V) → at cs c ≡ Some k → sequence us k ≡ sequence ts k
  kept_sequence c k is = one_sequence (table us k.field) (law k.field) k.members (sequence ts k) (kept c k is).shown

  alike : (c : ℕ) (o : Option (Collection V)) → at cs c ≡ o → represented_as us o ≡ represented_as ts o
  alike c None is = refl
  alike c (Some k) is = ap (λ (s : List Place). let r : Option Sequence = Some (seen_as k s) in r) (kept_sequence c k is)

  pub kept_collections : map (represented_as us) cs ≡ map (represented_as ts) cs
  kept_collections =
      ext_get_or None (map (represented_as us) cs) (map (represented_as ts) cs) (length-map cs (represented_as us) ∙ sym (length-map cs (represented_as ts))) (λ c h.
      map_at (represented_as us) cs c None ∙ alike c (at cs c) refl ∙ sym (map_at (represented_as ts) cs c None))

  pub kept_whole : (more : ℕ) → room ≤ more → length ts ≤ length us → ((f : ℕ) → f < length us → more ≤ (table us f).extent.places)
      → ((f : ℕ) (q : Place) → is_linked ((table us f).entry q) ≡ true → HasObject objects (index_of q)) → IsWhole objects more us cs
  kept_whole more reach longer covered placed = record {
    in_bounds = λ i has. let h = whole.in_bounds i has in (let low = h.0 in omega (arith, low, reach), h.1);
    covered = covered;
    placed = placed;
    in_field = λ c k is. let old = whole.in_field c k is in omega (arith, old, longer);
    held = λ c k is. subst (Keeps (table us k.field) k.members) (sym (kept_sequence c k is)) (kept c k is);
    apart = λ a b x y n is_x is_y same. rw (kept_sequence a x is_x, kept_sequence b y is_y) (whole.apart a b x y n is_x is_y same);
  }

module _ {A V : Type 0} (adapter : A) (objects : Objects V) (ts us : List (Table Entry)) (cs : List (Option (Collection V))) {room : ℕ} (whole : IsWhole objects room ts cs) (grown : Grown ts us) where
  grown_lawful : (f : ℕ) → IsLawful (table us f)
  grown_lawful f q h = let a = lawful whole f q (rw ((grown.each f).entries q) at h) in let b = (grown.each f).longer in omega (arith, a, b)

  grown_kept : (c : ℕ) (k : Collection V) → at cs c ≡ Some k → Keeps (table us k.field) k.members (sequence ts k)
  grown_kept c k is =
      let old = whole.held c k is in record {
        carried = rw (grown.each k.field).identity old.carried;
        shown = represented_frame (table ts k.field) (table us k.field) k.members (sequence ts k) [] old.shown (disjoint_none (sequence ts k)) (λ q out. (grown.each k.field).entries q);
        stands = old.stands;
      }

  grown_field : (f : ℕ) → field_in (table us f) ≡ field_in (table ts f)
  grown_field f =
      let kinds : kind_of (table us f) ≡ kind_of (table ts f) = ap kind_with (grown.each f).identity in
      let links = linked_same (table ts f) (table us f) (lawful whole f) (grown_lawful f) (λ q. ap is_linked ((grown.each f).entries q)) in
      λ i. record { kind = kinds i; linked = links i }

  -- THE FAMILY IS THE SAME after the tables have grown
  pub grown_family : family_of adapter objects us cs ≡ family_of adapter objects ts cs
  grown_family =
      let fields : map field_in us ≡ map field_in ts =
      ext_get_or (field_in no_table) (map field_in us) (map field_in ts) (length-map us field_in ∙ grown.count ∙ sym (length-map ts field_in)) (λ f h.
      map_at field_in us f no_table ∙ grown_field f ∙ sym (map_at field_in ts f no_table)) in
      let collections = kept_collections whole us grown_lawful grown_kept in
      λ i. record { adapter = adapter; objects = objects.values; fields = fields i; collections = collections i }

  -- the invariant holds with the grown tables, if each of them covers at least `more` places
  pub grown_whole : (more : ℕ) → room ≤ more → Cover more us → IsWhole objects more us cs
  grown_whole more reach covered =
      kept_whole whole us grown_lawful grown_kept more reach (let n = grown.count in omega (arith, n)) covered (λ f q h. whole.placed f q (rw ((grown.each f).entries q) at h))

-- no place is linked in a table that covered no place when it was made, and this stays true when the table grows
pub nothing_linked : {M : Type 0} (links : AnyTable M) (t : Table Entry) → (table_in links).extent.places ≡ 0 → ((q : Place) → t.entry q ≡ (table_in links).entry q) → (q : Place) → is_linked (t.entry q) ≡ false
nothing_linked links t covers same q = by (is_linked (t.entry q)) refl
  where
    by : (b : Bool) → is_linked (t.entry q) ≡ b → is_linked (t.entry q) ≡ false
    by true e = let h : IsCovered (table_in links) q = lawful_field links q (rw (same q) at e) in absurd (omega (arith, h, covers))
    by false e = e

-- A FIELD IS ADDED. No place is linked in its table t
module _ {V : Type 0} {objects : Objects V} {room : ℕ} {ts : List (Table Entry)} {cs : List (Option (Collection V))} (whole : IsWhole objects room ts cs) (t : Table Entry)
    (none : (q : Place) → is_linked (t.entry q) ≡ false) where
  abbrev more : List (Table Entry)
  more = ts ++ t ∷ []

  in_old : (f : ℕ) → f < length ts → table more f ≡ table ts f
  in_old f h = get_or_append_left ts (t ∷ []) no_table f h

  last : (f : ℕ) → length ts ≤ f → f < length more → table more f ≡ t
  last f past in_bounds = get_or_push ts t no_table f (let n = length-append ts (t ∷ []) in omega (arith, in_bounds, past, n))

  -- no place is linked in a field whose number is past the old fields
  unlinked : (f : ℕ) (q : Place) → length ts ≤ f → is_linked ((table more f).entry q) ≡ false
  unlinked f q past = elim (side (length more) f) [
    | inl beyond ↦ rw (get_or_past more f no_table beyond) refl
    | inr in_bounds ↦ rw (last f past in_bounds) (none q)
  ]

  -- in each table, also in the added one, only covered places are linked. The table of each collection still represents its members
  law : (f : ℕ) → IsLawful (table more f)
  law f q h = elim (side (length ts) f) [
    | inl past ↦ absurd (let both : true ≡ false = sym h ∙ unlinked f q past in cc)
    | inr old ↦ rw (in_old f old) (lawful whole f q (rw (in_old f old) at h))
  ]

  kept : (c : ℕ) (k : Collection V) → at cs c ≡ Some k → Keeps (table more k.field) k.members (sequence ts k)
  kept c k is = rw (in_old k.field (whole.in_field c k is)) (whole.held c k is)

  pub field_family : {A : Type 0} {adapter : A} → (kind : Kind) → kind_of t ≡ kind
      → family_of adapter objects more cs ≡ record (family_of adapter objects ts cs) { fields = (family_of adapter objects ts cs).fields ++ record { kind = kind; linked = set_of.empty } ∷ [] }
  field_family {adapter = adapter} kind is =
      let lawful_t : IsLawful t = λ q h. let no = none q in absurd (let both : true ≡ false = sym h ∙ no in cc) in
      let empty : linked_in t ≡ set_of.empty = linked_same no_table t (λ q h. cc) lawful_t (λ q. none q) ∙ linked_empty in
      let new : field_in t ≡ record { kind = kind; linked = set_of.empty } = λ i. record { kind = is i; linked = empty i } in
      let fields = map-append field_in ts (t ∷ []) ∙ ap (λ x. map field_in ts ++ x ∷ []) new in
      let collections = kept_collections whole more law kept in
      λ i. record { adapter = adapter; objects = objects.values; fields = fields i; collections = collections i }

  pub field_whole : room ≤ t.extent.places → IsWhole objects room more cs
  field_whole reach =
      kept_whole whole more law kept room (omega arith) (let n = length-append ts (t ∷ []) in omega (arith, n)) (λ f h. elim (side (length ts) f) [
        | inl past ↦ rw (last f past h) reach
        | inr old ↦ rw (in_old f old) (whole.covered f old)
      ]) (λ f q h. elim (side (length ts) f) [
        | inl past ↦ absurd (let both : true ≡ false = sym h ∙ unlinked f q past in cc)
        | inr old ↦ whole.placed f q (rw (in_old f old) at h)
      ])

-- adding the field is the step `AddField` of the model, and the invariant of the world holds after it
module _ {A V K M : Type 0} {adapter : A} {objects : Objects V} {room : ℕ} (tables : List (WorldField M)) {cs : List (Option (Collection V))} (kept : IsKept adapter objects room tables cs)
    {old : Family A V} (view : family_of adapter objects (map table_of tables) cs ≡ old) (cmp : K → K → Ordering) (key_of : A → V → K) where
  pub field_added : (kind : Kind) (links : AnyTable M) → IsFresh kind room (table_in links) → (r : Result ℕ Refusal) (news : List (WorldField M)) → Appends tables (record { links = links; left_linked = false }) r news
      → IsKept adapter objects room news cs × Step cmp key_of old (AddField kind) (reply_of (λ f. field f) r) (family_of adapter objects (map table_of news) cs)
  field_added kind links fresh (Ok f) news e =
      let new : WorldField M = record { links = links; left_linked = false } in
      let tables_are = map-append table_of tables (new ∷ []) in
      let left_are = map-append (λ (x : WorldField M). x.left_linked) tables (new ∷ []) in
      let family = field_family kept.0 (table_in links) fresh.free {adapter = adapter} kind fresh.kind_is in
      let none = none_added kept.1 (length-map tables _ ∙ sym (length-map (map table_of tables) field_in ∙ length-map tables table_of)) kind in
      rw (← view, e.1, tables_are, left_are) ((field_whole kept.0 (table_in links) fresh.free fresh.covers, rw family none), (rw (length-map, length-map) e.0, family))
  field_added kind links fresh (Err r) news e = rw (e.0, e.1) (kept, view)

-- A PLACE p IS UNLINKED in the table of the field f. The place p is a member of no collection of the field
module _ {V : Type 0} {objects : Objects V} {room : ℕ} {ts : List (Table Entry)} {cs : List (Option (Collection V))} (whole : IsWhole objects room ts cs) (f : ℕ) (in_bounds : f < length ts)
    (t : Table Entry) (p : Place) (free : IsUnlinked is_linked t p) (frame : ChangesOnly (table ts f) t p)
    (none : (c : ℕ) (k : Collection V) → at cs c ≡ Some k → k.field ≡ f → IsAbsent p (sequence ts k)) where
  abbrev us : List (Table Entry)
  us = set ts f t

  here : table us f ≡ t
  here = get_or-set_same ts f t no_table in_bounds

  there : (g : ℕ) → g ≢ f → table us g ≡ table ts g
  there g d = get_or-set_other ts f g t no_table d

  fewer : (q : Place) → is_linked (t.entry q) ≡ true → is_linked ((table ts f).entry q) ≡ true
  fewer q h = elim (cases_eq (index_of q) (index_of p)) [
    | inl e ↦ absurd (let no : is_linked (t.entry q) ≡ false = rw (same_index q p e) free in let both : true ≡ false = sym h ∙ no in cc)
    | inr d ↦ ap is_linked (sym (frame.others q (λ x. d (ap index_of x)))) ∙ h
  ]

  law_here : IsLawful t
  law_here q h = let a = lawful whole f q (fewer q h) in let e = ap (λ (x : Extent). x.places) frame.extent in omega (arith, a, e)

  law_all : (g : ℕ) → IsLawful (table us g)
  law_all g = elim (cases_eq g f) [
    | inl same ↦ rw (same, here) law_here
    | inr other ↦ rw (there g other) (lawful whole g)
  ]

  kept_all : (c : ℕ) (k : Collection V) → at cs c ≡ Some k → Keeps (table us k.field) k.members (sequence ts k)
  kept_all c k is = elim (cases_eq k.field f) [
    | inl same ↦
        let was : Keeps (table ts f) k.members (sequence ts k) = subst (λ g. Keeps (table ts g) k.members (sequence ts k)) same (whole.held c k is) in
        let beside : ChangesOnlyIn (table ts f) t (p ∷ []) = record { extent = frame.extent; others = λ q out. frame.others q out.0 } in
        let now : Keeps t k.members (sequence ts k) = keeps_frame k.members (sequence ts k) (p ∷ []) was (disjoint_cons p (sequence ts k) [] (none c k is same) (disjoint_none (sequence ts k))) beside in
        subst (λ g. Keeps (table us g) k.members (sequence ts k)) (sym same) (subst (λ u. Keeps u k.members (sequence ts k)) (sym here) now)
    | inr other ↦ subst (λ u. Keeps u k.members (sequence ts k)) (sym (there k.field other)) (whole.held c k is)
  ]

  pub freed_whole : IsWhole objects room us cs
  freed_whole =
      kept_whole whole us law_all kept_all room (omega arith) (let n = length-set ts f t in omega (arith, n)) (λ g h. elim (cases_eq g f) [
        | inl same ↦ rw (same, here, frame.extent) (whole.covered f in_bounds)
        | inr other ↦ rw (there g other) (whole.covered g (rw length-set at h))
      ]) (λ g q h. elim (cases_eq g f) [
        | inl same ↦ whole.placed f q (fewer q (rw (same, here) at h))
        | inr other ↦ whole.placed g q (rw (there g other) at h)
      ])

  pub freed_family : {A : Type 0} {adapter : A} → family_of adapter objects us cs ≡ with_linked (family_of adapter objects ts cs) f (set_of.remove (linked_of (family_of adapter objects ts cs) f) (index_of p))
  freed_family {adapter = adapter} =
      let at_f = field_at adapter objects ts cs f in_bounds in
      let kinds : kind_of t ≡ (field_of (family_of adapter objects ts cs) f).kind = ap (λ (x : Extent). kind_with x.identity) frame.extent ∙ ap (λ (x : LinkField). x.kind) (sym at_f) in
      let links = linked_loses (table ts f) t (lawful whole f) law_here p free (λ q d. ap is_linked (frame.others q d)) ∙ ap (λ (x : LinkField). set_of.remove x.linked (index_of p)) (sym at_f) in
      let field : field_in t ≡ record { kind = (field_of (family_of adapter objects ts cs) f).kind; linked = set_of.remove (linked_of (family_of adapter objects ts cs) f) (index_of p) } = λ i. record { kind = kinds i; linked = links i } in
      let fields = map-set field_in ts f t ∙ ap (set (map field_in ts) f) field in
      let collections = kept_collections whole us law_all kept_all in
      λ i. record { adapter = adapter; objects = objects.values; fields = fields i; collections = collections i }
