-- A splice is two edits: the given collection is emptied, and then its members are inserted into the first collection.
use Rattle.std.proofs.Common.{◌≡◌, ◌≢◌, ℕ, inl, inr, List, [], ◌∷◌, ◌++◌, set, Option, Some, None, refl, sym, ap, ◌∙◌, subst}
use Rattle.std.proofs.lemmas.List.{get_or-set_other, set-get_or}
use Rattle.ic_link_ops.specs.Prelude.{Place, Objects, Cut, join, splice, IsDisjoint, Table}
use Rattle.ic_link_ops.proofs.SequenceLemmas.{disjoint_sym, disjoint_both}
use Rattle.ic_any_collection.specs.declared.entry.Entry.{Entry}
use Rattle.ic_any_collection.specs.declared.any_collection.AnyCollection.{AnyCollection}
use Rattle.ic_any_collection.specs.AnyCollection.{Alike, cursor_in}
use Rattle.ic_any_collection.specs.Edits.{PutsAll}
use Rattle.ic_any_collection.proofs.AllKinds.{one_sequence}
use Rattle.ic_world.specs.declared.collection.Collection.{Collection}
use Rattle.ic_world.specs.Prelude.{Family, Sequence, with_collection, table, no_table, sequence, seen_as, at, family_of, IsWhole}
use Rattle.ic_world.specs.Splices.{Emptied}
use Rattle.ic_world.specs.Several.{with_members}
use Rattle.ic_world.proofs.Linked.{linked_same}
use Rattle.ic_world.proofs.Edits.{Edit, after, lawful, edited_lawful, edited_whole, unlinked_family, at_after}
use Rattle.ic_world.proofs.Opened.{disjoint_none}

-- after an edit puts m in place of `k.members`, with the same kind, the family has the old collection with the members t and the cursor of m
pub seen_after : {V : Type 0} (m : AnyCollection V) (k : Collection V) (s t : List Place) {cursor : Option Place} → Alike k.members m → cursor_in m ≡ cursor
    → seen_as (after k m) t ≡ with_members (seen_as k s) t cursor
seen_after m k s t alike cursor_is = λ i. record { field = k.field; kind = alike i; members = t; cursor = cursor_is i }

module _ {V : Type 0} {objects : Objects V} {room : ℕ} {ts : List (Table Entry)} {cs : List (Option (Collection V))} (whole : IsWhole objects room ts cs)
    (c : ℕ) (k : Collection V) (is : at cs c ≡ Some k) (m : AnyCollection V) (e : Emptied k.members m) where
  -- A COLLECTION IS EMPTIED, and its members stay linked
  pub emptied_edit : Edit objects ts cs c k (table ts k.field) m [] []
  emptied_edit = record {
    was = is;
    kept = e.kept (table ts k.field) (sequence ts k) (whole.held c k is);
    alike = e.alike;
    frame = record { extent = refl; others = λ q out. refl };
    placed = whole.placed k.field;
    adds_none = λ q out. tt;
    beside = λ d l n is_l same. disjoint_none (sequence ts l);
  }

  same_tables : set ts k.field (table ts k.field) ≡ ts
  same_tables = set-get_or ts k.field no_table

  pub emptied_whole : IsWhole objects room ts (set cs c (Some (after k m)))
  emptied_whole =
      let P : List (Table Entry) → Type 0 = λ us. IsWhole objects room us (set cs c (Some (after k m))) in
      subst P same_tables (edited_whole whole emptied_edit)

  pub emptied_family : {A : Type 0} {adapter : A} → family_of adapter objects ts (set cs c (Some (after k m))) ≡ with_collection (family_of adapter objects ts cs) c (Some (with_members (seen_as k (sequence ts k)) [] None))
  emptied_family {adapter = adapter} =
      ap (λ us. family_of adapter objects us (set cs c (Some (after k m)))) (sym same_tables) ∙ unlinked_family whole emptied_edit refl
      ∙ ap (λ (x : Sequence). with_collection (family_of adapter objects ts cs) c (Some x)) (seen_after m k (sequence ts k) [] e.alike e.null)

-- THE SPLICE of the collection d into the collection c
module _ {V : Type 0} {objects : Objects V} {room : ℕ} {ts : List (Table Entry)} {cs : List (Option (Collection V))} (whole : IsWhole objects room ts cs)
    (c d : ℕ) (k l : Collection V) (is_k : at cs c ≡ Some k) (is_l : at cs d ≡ Some l) (differ : c ≢ d) (fields : k.field ≡ l.field)
    (new : Table Entry) (m emptied : AnyCollection V) (e : Emptied l.members emptied) (gap : Cut) (cut : join gap ≡ sequence ts k)
    (puts : PutsAll (table ts k.field) new k.members m gap (sequence ts l)) where
  abbrev pub between : List (Option (Collection V))
  between = set cs d (Some (after l emptied))

  still : at between c ≡ Some k
  still = get_or-set_other cs d c (Some (after l emptied)) None differ ∙ is_k

  first_whole : IsWhole objects room ts between
  first_whole = emptied_whole whole d l is_l emptied e

  -- no other collection of the field shares a member with the spliced sequence
  others_apart : (x : ℕ) (o : Collection V) → x ≢ c → at between x ≡ Some o → o.field ≡ k.field → IsDisjoint (sequence ts o) (splice gap (sequence ts l))
  others_apart x o n is_o same =
      elim (at_after whole (emptied_edit whole d l is_l emptied e) x o is_o) [
        | inl given ↦
            let none : sequence ts o ≡ [] =
            ap (sequence ts) given.1 ∙ one_sequence (table ts l.field) (lawful whole l.field) emptied [] (e.kept (table ts l.field) (sequence ts l) (whole.held d l is_l)).shown in
            let P : List Place → Type 0 = λ r. IsDisjoint r (splice gap (sequence ts l)) in
            subst P (sym none) tt
        | inr old ↦
            let with_k = subst (λ s. IsDisjoint s (sequence ts o)) (sym cut) (disjoint_sym _ _ (whole.apart x c o k n old.1 is_k same)) in
            let with_l = disjoint_sym _ _ (whole.apart x d o l old.0 old.1 is_l (same ∙ fields)) in
            let back_front = disjoint_split gap.front gap.back (sequence ts o) with_k in
            disjoint_sym _ _ (disjoint_both gap.front (sequence ts l ++ gap.back) (sequence ts o) back_front.0 (disjoint_both (sequence ts l) gap.back (sequence ts o) with_l back_front.1))
      ]
    where
      disjoint_split : (a b u : List Place) → IsDisjoint (a ++ b) u → IsDisjoint a u × IsDisjoint b u
      disjoint_split [] b u h = (tt, h)
      disjoint_split (x ∷ a) b u h = let r = disjoint_split a b u h.1 in ((h.0, r.0), r.1)

  splice_edit : Edit objects ts between c k new m (splice gap (sequence ts l)) (splice gap (sequence ts l))
  splice_edit = record {
    was = still;
    kept = puts.leaves.kept;
    alike = puts.leaves.alike;
    frame = puts.leaves.frame;
    placed = λ q h. whole.placed k.field q (sym (puts.links q) ∙ h);
    adds_none = λ q out. out;
    beside = others_apart;
  }

  pub splice_whole : IsWhole objects room (set ts k.field new) (set between c (Some (after k m)))
  splice_whole = edited_whole first_whole splice_edit

  pub splice_family : {A : Type 0} {adapter : A} → family_of adapter objects (set ts k.field new) (set between c (Some (after k m)))
      ≡ with_collection (with_collection (family_of adapter objects ts cs) d (Some (with_members (seen_as l (sequence ts l)) [] None))) c
      (Some (with_members (seen_as k (sequence ts k)) (splice gap (sequence ts l)) (cursor_in k.members)))
  splice_family {A} {adapter} =
      unlinked_family first_whole splice_edit (linked_same (table ts k.field) new (lawful whole k.field) (edited_lawful first_whole splice_edit) puts.links)
      ∙ ap (λ (w : Family A V). with_collection w c (Some (seen_as (after k m) (splice gap (sequence ts l))))) (emptied_family whole d l is_l emptied e)
      ∙ ap (λ (x : Sequence). with_collection (with_collection (family_of adapter objects ts cs) d (Some (with_members (seen_as l (sequence ts l)) [] None))) c (Some x))
      (seen_after m k (sequence ts k) (splice gap (sequence ts l)) puts.leaves.alike puts.leaves.cursor_is)
