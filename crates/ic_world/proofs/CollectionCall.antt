-- A CALL OF ONE COLLECTION of a world. What the world guarantees is proved once for all such calls, from the contract of the collection's own call.
use Rattle.std.proofs.Common.{◌≡◌, ℕ, ◌⊎◌, inl, inr, true, false, List, [], ◌∷◌, ◌++◌, map, set, Option, Some, None, Bool, refl, sym, ap, ◌∙◌, subst, arith, Result, Ok, Err, OnErr, IfOk, Ordering}
use Rattle.std.proofs.lemmas.Bool.{cases_eq, and_parts}
use Rattle.std.proofs.lemmas.List.{map-set, set-get_or}
use Rattle.std.specs.List.{list_all}
use Rattle.ic_link_ops.specs.Prelude.{Place, index_of, Objects, is_placed as place_is_placed, IsAbsent, IsDisjoint, Table, IsCovered, IsUnlinked, ArePlaced}
use Rattle.ic_link_ops.proofs.Prelude.{same_index, all_members, disjoint_cons}
use Rattle.ic_any_collection.specs.declared.entry.Entry.{Entry}
use Rattle.ic_any_collection.specs.declared.any_table.AnyTable.{AnyTable}
use Rattle.ic_world.specs.declared.field.WorldField.{WorldField}
use Rattle.ic_any_collection.specs.Entries.{is_linked}
use Rattle.ic_any_collection.specs.AnyCollection.{kind_in, cursor_in, members_in}
use Rattle.ic_any_collection.specs.declared.any_collection.AnyCollection.{AnyCollection}
use Rattle.ic_any_collection.specs.Edits.{IsUnchanged}
use Rattle.ic_any_collection.proofs.AllKinds.{lawful as lawful_field, unlinked_absent}
use Rattle.ic_world.specs.declared.collection.Collection.{Collection}
use Rattle.ic_world.specs.declared.call.Refusal.{Refusal}
use Rattle.ic_world.specs.declared.call.Refusal.TheVariants.{NoSuchObject, AlreadyLinked}
use Rattle.ic_world.specs.declared.calls.collection_call.Call.TheVariants as one
use Rattle.ic_world.specs.declared.calls.seek.Seek.TheVariants.{Null, On, With}
use Rattle.ic_world.specs.declared.calls.bulk_edit.BulkEdit.TheVariants.{Clear, Reverse}
use Rattle.ic_world.specs.declared.calls.insertion.Insertion.TheVariants.{Insert, CursorInsert}
use Rattle.ic_world.specs.declared.calls.search.Search.TheVariants.{Find, LowerBound, UpperBound}
use Rattle.ic_world.specs.Prelude.{Family, Sequence, is_placed, objects_of, with_collection, Call, State, Reply, refused, found, looked, entry, asks, names, refusal_of, Replies, IsKept, table, table_of, sequence, seen_as, at, family_of, IsWhole, HasObject, StepOn, refusal_on, state_in, asks_collection}
use Rattle.ic_world.specs.Replies.{reply_of}
use Rattle.ic_world.specs.Turns.{Each, Turns, Ran, refusal_in, state_of}
use Rattle.ic_world.specs.Seen.{Sees}
use Rattle.ic_world.proofs.Readings.{Found, left_back, collection_is, linked_at}
use Rattle.ic_world.proofs.Edits.{Edit, after, edited_family, edited_whole, unlinked_family}
use Rattle.ic_world.proofs.LeftLinked.{none_on}
use Rattle.ic_world.proofs.Turned.{turns_still}

-- if P holds of each place of s, then q is absent from s, or P holds of q
each_or : (P : Place → Type 0) (s : List Place) (q : Place) → Each P s → IsAbsent q s ⊎ P q
each_or P [] q h = inl tt
each_or P (x ∷ s) q h =
    elim (cases_eq (index_of q) (index_of x)) [
      | inl e ↦ inr (subst P (sym (same_index q x e)) h.0)
      | inr d ↦ elim (each_or P s q h.1) [
        | inl out ↦ inl ((λ e. d (ap index_of e)), out)
        | inr has ↦ inr has
      ]
    ]

each_map : (P Q : Place → Type 0) → ((p : Place) → P p → Q p) → (s : List Place) → Each P s → Each Q s
each_map P Q f [] h = tt
each_map P Q f (x ∷ s) h = (f x h.0, each_map P Q f s h.1)

each_named : (P : Place → Type 0) (fresh named : List Place) → (fresh ≡ []) ⊎ (fresh ≡ named) → Each P named → Each P fresh
each_named P fresh named (inl e) h = subst (Each P) (sym e) tt
each_named P fresh named (inr e) h = subst (Each P) (sym e) h

-- the reply of a call depends only on the values of the objects, and not on which place the next object gets
module _ {V K : Type 0} (cmp : K → K → Ordering) (key_of : V → K) (objects other : Objects V) (same : other.values ≡ objects.values) where
  replies_of : (call : Call K) (s : State) (reply : Reply) (t : State) → Replies cmp key_of objects call s reply t → Replies cmp key_of other call s reply t
  replies_of (one.Put at p) s reply t h = h
  replies_of (one.Take at) s reply t h = h
  replies_of (one.Swap at p) s reply t h = h
  replies_of (one.Move way) s reply t h = h
  replies_of (one.Seek Null) s reply t h = h
  replies_of (one.Seek (On p)) s reply t h = h
  replies_of (one.Seek (With way p beside)) s reply t h = h
  replies_of (one.BulkEdit Clear) s reply t h = h
  replies_of (one.BulkEdit Reverse) s reply t h = h
  replies_of (one.Search (Find key)) s (found p n) t h = rw same h
  replies_of (one.Search (LowerBound bound)) s (found p n) t h = rw same h
  replies_of (one.Search (UpperBound bound)) s (found p n) t h = rw same h
  replies_of (one.Insertion (Insert p)) s (looked n) t h = rw same h
  replies_of (one.Insertion (CursorInsert p)) s (looked n) t h = rw same h
  replies_of (one.Enter key p) s (entry true q n) t h = rw same h
  replies_of (one.Enter key p) s (entry false q n) t h = rw same h
  replies_of (one.Enter key p) s (refused AlreadyLinked) t h = rw same h
  replies_of _ s _ t h = absurd h

module _ {V : Type 0} {objects : Objects V} {room : ℕ} {ts : List (Table Entry)} {cs : List (Option (Collection V))} (whole : IsWhole objects room ts cs)
    (c : ℕ) (k : Collection V) (is : at cs c ≡ Some k) where
  -- the state of the collection in the family is the state that the table represents
  pub same_state : {A : Type 0} (adapter : A) → state_in (family_of adapter objects ts cs) (seen_as k (sequence ts k)) ≡ state_of (table ts k.field) k.members
  same_state adapter = λ i. record { kind = kind_in k.members; members = sequence ts k; cursor = cursor_in k.members; linked = linked_at adapter objects ts cs k.field (whole.in_field c k is) i }

  -- there is an object at each member of the collection
  pub all_placed : ArePlaced objects (sequence ts k)
  all_placed = all_members (sequence ts k) (λ q there. whole.placed k.field q (linked q there (is_linked ((table ts k.field).entry q)) refl)) where
    linked : (q : Place) → (IsAbsent q (sequence ts k) → ⊥) → (b : Bool) → is_linked ((table ts k.field).entry q) ≡ b → is_linked ((table ts k.field).entry q) ≡ true
    linked q there true e = e
    linked q there false e = absurd (there (unlinked_absent (table ts k.field) k.members (sequence ts k) (whole.held c k is).shown e))

  module _ {named : List Place} {Accepts : State → State → Type 0} {new : Table Entry} {m : AnyCollection V} (turns : Turns named Accepts (table ts k.field) new k.members m)
      (has : Each (λ p. HasObject objects (index_of p)) named) where
    turn_edit : Edit objects ts cs c k new m (members_in new m) (turns.fresh ++ sequence ts k)
    turn_edit = record {
      was = is;
      kept = turns.held;
      alike = turns.alike;
      frame = turns.frame;
      placed = λ q h. elim (each_or (λ p. HasObject objects (index_of p)) turns.fresh q (each_named (λ p. HasObject objects (index_of p)) turns.fresh named turns.named has)) [
        | inl out ↦ whole.placed k.field q (turns.only q out h)
        | inr there ↦ there
      ];
      adds_none = turns.adds_none;
      beside = λ d l n is_l same. apart l (λ p free. unlinked_absent (table ts l.field) l.members (sequence ts l) (whole.held d l is_l).shown
          (subst (λ f. IsUnlinked is_linked (table ts f) p) (sym same) free)) (whole.apart d c l k n is_l is same) turns.fresh turns.free;
    }
      where
        apart : (l : Collection V) → ((p : Place) → IsUnlinked is_linked (table ts k.field) p → IsAbsent p (sequence ts l)) → IsDisjoint (sequence ts l) (sequence ts k)
            → (fresh : List Place) → Each (IsUnlinked is_linked (table ts k.field)) fresh → IsDisjoint (sequence ts l) (fresh ++ sequence ts k)
        apart l absent rest [] free = rest
        apart l absent rest (p ∷ s) free = disjoint_cons p (sequence ts l) (s ++ sequence ts k) (absent p free.0) (apart l absent rest s free.1)

    pub turn_whole : IsWhole objects room (set ts k.field new) (set cs c (Some (after k m)))
    turn_whole = edited_whole whole turn_edit

module _ {A V M : Type 0} {adapter : A} {objects : Objects V} {room : ℕ} {tables : List (WorldField M)} {cs : List (Option (Collection V))} (kept : IsKept adapter objects room tables cs)
    {c : ℕ} {k : Collection V} {now : WorldField M} (at_k : Found tables cs c k now) where
  abbrev ts : List (Table Entry)
  ts = map table_of tables

  abbrev whole : IsWhole objects room ts cs
  whole = kept.0

  -- there is an object at each member, as the call of the collection requires
  pub placed_by : ArePlaced objects (members_in (table_of now) k.members)
  placed_by = subst (λ t. ArePlaced objects (members_in t k.members)) at_k.read (all_placed whole c k at_k.is)

  -- a call that only reads finds `k.members`, which represents the collection with number c of the family
  pub sees_by : {old : Family A V} → family_of adapter objects ts cs ≡ old → Sees old c (table_of now) k.members
  sees_by view = subst (λ w. Sees w c (table_of now) k.members) view (record {
    s = seen_as k (sequence ts k);
    is = collection_is adapter objects ts cs c k at_k.is;
    state = same_state whole c k at_k.is adapter ∙ ap (λ t. state_of t k.members) at_k.read;
    held = at_k.held;
    placed = placed_by;
  })

  pub placed_each : (s : List Place) → list_all (place_is_placed objects) s ≡ true → Each (λ p. HasObject objects (index_of p)) s
  placed_each [] e = tt
  placed_each (p ∷ s) e = let h = and_parts (place_is_placed objects p) _ e in (h.0, placed_each s h.1)

  pub room_for : (s : List Place) → list_all (place_is_placed objects) s ≡ true → Each (IsCovered (table_of now)) s
  room_for s e = each_map (λ p. HasObject objects (index_of p)) (IsCovered (table_of now)) (λ p has. let a = (whole.in_bounds (index_of p) has).0 in let b = rw at_k.read at (whole.covered k.field at_k.field) in omega (arith, a, b)) s (placed_each s e)

  module _ {K : Type 0} (cmp : K → K → Ordering) (key_of : A → V → K) (call : Call K) (placed : list_all (place_is_placed objects) (names call) ≡ true) {R : Type 0} (accepted : R → Reply) (r : Result R Refusal) (links : AnyTable M) (m : AnyCollection V)
      (ran : Ran (names call) (refusal_of call) (λ a s t. Replies cmp (key_of adapter) objects call s (accepted a) t) now.links links k.members m r) where
    abbrev nf : WorldField M
    nf = record now { links = links }

    -- if the call has changed nothing, the collection is in the state in which it was before
    stays_by : IsUnchanged now.links links k.members m → Turns [] (λ s t. t ≡ s) (table_of now) (table_of nf) k.members m
    stays_by same = rw same.0 (turns_still (lawful_field now.links) same.1 (λ e. e))

    same_family : IsUnchanged now.links links k.members m → family_of adapter objects (set ts k.field (table_of nf)) (set cs c (Some (after k m))) ≡ family_of adapter objects ts cs
    same_family same =
        let stays : Turns [] (λ s t. t ≡ s) (table ts k.field) (table_of nf) k.members m = rw at_k.read (stays_by same) in
        let edit = turn_edit whole c k at_k.is {named = []} {Accepts = λ s t. t ≡ s} stays tt in
        let seen : seen_as (after k m) (members_in (table_of nf) m) ≡ seen_as k (sequence ts k) =
        λ i. record { field = k.field; kind = (stays.accepts i).kind; members = (stays.accepts i).members; cursor = (stays.accepts i).cursor } in
        let w = family_of adapter objects ts cs in
        let back : set w.collections c (Some (seen_as k (sequence ts k))) ≡ w.collections = rw (← collection_is adapter objects ts cs c k at_k.is) (set-get_or w.collections c None) in
        unlinked_family whole edit (ap (λ s. s.linked) stays.accepts) ∙ ap (λ (s : Sequence). with_collection w c (Some s)) seen
        ∙ (λ i. record { adapter = adapter; objects = w.objects; fields = w.fields; collections = back i })

    -- THE INVARIANT of the world holds after the call, and the call is THE STEP `StepOn` of the model, whether it is accepted or refused
    whole_by : IsWhole objects room (map table_of (set tables k.field nf)) (set cs c (Some (after k m)))
    whole_by = by r ran.turned ran.unchanged
      where
        by : (r : Result R Refusal) → IfOk r (λ a. Turns (names call) (λ s t. Replies cmp (key_of adapter) objects call s (accepted a) t) (table_of now) (table_of nf) k.members m) → OnErr r (IsUnchanged now.links links k.members m)
            → IsWhole objects room (map table_of (set tables k.field nf)) (set cs c (Some (after k m)))
        by (Ok a) turned same = rw map-set (turn_whole whole c k at_k.is {named = names call} {Accepts = λ s t. Replies cmp (key_of adapter) objects call s (accepted a) t} (rw at_k.read turned) (placed_each (names call) placed))
        by (Err x) turned same = rw map-set (turn_whole whole c k at_k.is {named = []} {Accepts = λ s t. t ≡ s} (rw at_k.read (stays_by same)) tt)

    pub step_by : {old : Family A V} → family_of adapter objects ts cs ≡ old
        → StepOn cmp key_of old c call (reply_of accepted r) (family_of adapter objects (map table_of (set tables k.field nf)) (set cs c (Some (after k m))))
    step_by view =
        let tests : refusal_on (family_of adapter objects ts cs) c call ≡ refusal_in r = ap (λ o. asks_collection o (λ s. asks (list_all (is_placed (family_of adapter objects ts cs)) (names call)) NoSuchObject (refusal_of call (state_in (family_of adapter objects ts cs) s)))) (collection_is adapter objects ts cs c k at_k.is)
        ∙ ap (λ b. asks b NoSuchObject (refusal_of call (state_in (family_of adapter objects ts cs) (seen_as k (sequence ts k))))) placed
        ∙ ap (refusal_of call) (same_state whole c k at_k.is adapter ∙ ap (λ t. state_of t k.members) at_k.read) ∙ sym ran.tested in
        subst (λ w. StepOn cmp key_of w c call (reply_of accepted r) (family_of adapter objects (map table_of (set tables k.field nf)) (set cs c (Some (after k m))))) view (by r ran.turned ran.unchanged tests)
      where
        by : (r : Result R Refusal) → IfOk r (λ a. Turns (names call) (λ s t. Replies cmp (key_of adapter) objects call s (accepted a) t) (table_of now) (table_of nf) k.members m) → OnErr r (IsUnchanged now.links links k.members m)
            → refusal_on (family_of adapter objects ts cs) c call ≡ refusal_in r
            → StepOn cmp key_of (family_of adapter objects ts cs) c call (reply_of accepted r) (family_of adapter objects (map table_of (set tables k.field nf)) (set cs c (Some (after k m))))
        by (Ok a) turned same e =
            let Accepts : State → State → Type 0 = λ s t. Replies cmp (key_of adapter) objects call s (accepted a) t in
            let here : Turns (names call) Accepts (table ts k.field) (table_of nf) k.members m = rw at_k.read turned in
            let edit = turn_edit whole c k at_k.is {named = names call} {Accepts = Accepts} here (placed_each (names call) placed) in
            rw (e, map-set) (
              seen_as k (sequence ts k),
              state_of (table_of nf) m,
              collection_is adapter objects ts cs c k at_k.is,
              replies_of cmp (key_of adapter) objects (objects_of (family_of adapter objects ts cs)) refl call _ (accepted a) _ (subst (λ s. Accepts s (state_of (table_of nf) m)) (sym (same_state whole c k at_k.is adapter)) here.accepts),
              edited_family whole edit _ refl,
            )
        by (Err x) turned same e = rw (e, map-set) (refl, same_family same)

    pub kept_by : IsKept adapter objects room (set tables k.field nf) (set cs c (Some (after k m)))
    kept_by =
        (whole_by, rw (left_back tables k.field now links at_k.table_back) (none_on kept.1 cmp key_of c call (reply_of accepted r) (step_by refl)))

-- the call is refused before the collection is edited, because there is no object at a place that the call names
module _ {A V K : Type 0} (cmp : K → K → Ordering) (key_of : A → V → K) (adapter : A) (objects : Objects V) (ts : List (Table Entry)) (cs : List (Option (Collection V))) (c : ℕ) (k : Collection V)
    (call : Call K) {old : Family A V} (view : family_of adapter objects ts cs ≡ old) (is : at cs c ≡ Some k) where
  abbrev w : Family A V
  w = family_of adapter objects ts cs

  pub step_unplaced : list_all (place_is_placed objects) (names call) ≡ false → StepOn cmp key_of old c call (refused NoSuchObject) old
  step_unplaced lacks =
      let e : refusal_on w c call ≡ Some NoSuchObject =
      ap (λ o. asks_collection o (λ s. asks (list_all (is_placed w) (names call)) NoSuchObject (refusal_of call (state_in w s)))) (collection_is adapter objects ts cs c k is)
      ∙ ap (λ b. asks b NoSuchObject (refusal_of call (state_in w (seen_as k (sequence ts k))))) lacks in
      rw (← view, e) (refl, refl)
