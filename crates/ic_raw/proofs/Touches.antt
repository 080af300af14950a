-- These lemmas say what an edit touches. An edit links or unlinks a place, and changes the links of the place's neighbors.
use Rattle.std.proofs.Common.{◌≡◌, ◌≢◌, Bool, Option, Some, List, [], ◌∷◌, ◌++◌, sym, ap, subst, ◌∙◌}
use Rattle.ic_link_ops.specs.Prelude.{Place, Table, ChangesOnly, IsLinked, KeepsLinked, LinksAlso, Unlinks, LinkStep, acquires, releases, table_of}
use Rattle.ic_link_ops.specs.StepLaws.{trace_within}
use Rattle.ic_raw.specs.declared.table.RawTable.{RawTable}
use Rattle.ic_raw.specs.Prelude.{IsFree, raw_entries, raw_table, Touches}

-- two places differ if the options of these places differ
pub other_place : {p q : Place} → (Some p ≢ Some q) → q ≢ p
other_place away same = away (ap (λ x. Some x) (sym same))

module _ {E : Type 0} {linked : E → Bool} where
  -- if a place is linked first, and later changes keep all marks, the whole edit links exactly this place
  pub links_first : {old mid new : Table E} {p : Place} → IsFree linked old p → IsLinked linked mid p → ChangesOnly old mid p → KeepsLinked linked mid new
      → LinksAlso linked old new p
  links_first free is only keeps = record { was = free.unlinked; is = keeps _ ∙ is; others = λ q n. keeps q ∙ ap linked (only.others q n) }

  -- if changes keep all marks, and a place is then unlinked, the whole edit unlinks exactly this place
  pub unlinks_last : {old mid new : Table E} {p : Place} → KeepsLinked linked old mid → Unlinks linked mid new p → Unlinks linked old new p
  unlinks_last keeps off = record { was = sym (keeps _) ∙ off.was; is = off.is; others = λ q n. off.others q n ∙ keeps q }

  -- `Names` says that the entry of a place also names the place before it
  module _ {Names : Type 0} {old mid new : Table E} {before following : Option Place} where
    -- INSERT: p is marked as linked, and then linked between its neighbors. The edit touches only p and its neighbors
    pub touches_insert : {p : Place} → IsFree linked old p → IsLinked linked mid p → ChangesOnly old mid p → KeepsLinked linked mid new
        → ((q : Place) → before ≢ Some q → q ≢ p → (Names → following ≢ Some q) → new.entry q ≡ mid.entry q)
        → Touches linked old new (acquires p ∷ []) (Some p ∷ before ∷ following ∷ [])
    touches_insert free is only keeps others = record {
      steps_are = links_first free is only keeps;
      others = λ q out. let away = other_place out.0 in others q out.1.0 away (λ _. out.1.1.0) ∙ only.others q away;
    }

    -- REMOVE: the neighbors of p are linked to each other, and p is then unlinked. The edit touches only p and its neighbors
    pub touches_remove : {p : Place} → KeepsLinked linked old mid → ((q : Place) → before ≢ Some q → (Names → following ≢ Some q) → mid.entry q ≡ old.entry q)
        → Unlinks linked mid new p → ChangesOnly mid new p → Touches linked old new (releases p ∷ []) (Some p ∷ before ∷ following ∷ [])
    touches_remove keeps others off only = record {
      steps_are = unlinks_last keeps off;
      others = λ q out. only.others q (other_place out.0) ∙ others q out.1.0 (λ _. out.1.1.0);
    }

  module _ {Names : Type 0} {old new : Table E} {before following : Option Place} where
    -- SPLIT: the links across a gap are replaced by none. The edit touches only the two sides of the gap
    pub touches_split : KeepsLinked linked old new → ((q : Place) → before ≢ Some q → (Names → following ≢ Some q) → new.entry q ≡ old.entry q)
        → Touches linked old new [] (before ∷ following ∷ [])
    touches_split keeps others = record { steps_are = keeps; others = λ q out. others q out.0 (λ _. out.1.0) }

    -- SPLICE: the sides of a gap are linked to the ends of the inserted list. The edit touches only these four places
    pub touches_splice : {head end : Option Place} → KeepsLinked linked old new
        → ((q : Place) → before ≢ Some q → (Names → following ≢ Some q) → (Names → head ≢ Some q) → end ≢ Some q → new.entry q ≡ old.entry q)
        → Touches linked old new [] (before ∷ following ∷ head ∷ end ∷ [])
    touches_splice keeps others = record { steps_are = keeps; others = λ q out. others q out.0 (λ _. out.1.0) (λ _. out.1.1.0) out.1.1.1.0 }

    -- MOVE: the neighbors of p are linked to each other, and p is then linked between two other places. The edit touches only p and these four places
    pub touches_move : (mid : Table E) {p : Place} {ahead after : Option Place} → KeepsLinked linked old mid → KeepsLinked linked mid new
        → ((q : Place) → before ≢ Some q → (Names → following ≢ Some q) → mid.entry q ≡ old.entry q)
        → ((q : Place) → ahead ≢ Some q → q ≢ p → (Names → after ≢ Some q) → new.entry q ≡ mid.entry q)
        → Touches linked old new [] (Some p ∷ before ∷ following ∷ ahead ∷ after ∷ [])
    touches_move mid off on others others' = record {
      steps_are = λ q. on q ∙ off q;
      others = λ q out. others' q out.1.1.1.0 (other_place out.0) (λ _. out.1.1.1.1.0) ∙ others q out.1.0 (λ _. out.1.1.0);
    }

  -- REPLACE: p is marked as linked and linked between the neighbors of `gone`, and `gone` is then unlinked. The edit touches only p, `gone` and the
  -- neighbors
  pub touches_replace : {Names : Type 0} {old mid turned new : Table E} {before following : Option Place} {p gone : Place} → IsFree linked old p → IsLinked linked mid p
      → ChangesOnly old mid p → KeepsLinked linked mid turned
      → ((q : Place) → before ≢ Some q → q ≢ p → (Names → following ≢ Some q) → turned.entry q ≡ mid.entry q)
      → Unlinks linked turned new gone → ChangesOnly turned new gone
      → Touches linked old new (acquires p ∷ releases gone ∷ []) (Some p ∷ Some gone ∷ before ∷ following ∷ [])
  touches_replace {turned} free is only keeps others off gone_only = record {
    steps_are = (turned, links_first free is only keeps, off);
    others = λ q out.
        let away = other_place out.0 in
        gone_only.others q (other_place out.1.0) ∙ others q out.1.1.0 away (λ _. out.1.1.1.0) ∙ only.others q away;
  }

  -- `Touches` stays true if the list of places is replaced by an equal list
  pub touches_same : {old new : Table E} {steps : List LinkStep} {places places' : List (Option Place)} → places ≡ places'
      → Touches linked old new steps places → Touches linked old new steps places'
  touches_same {old} {new} {steps} same touched = subst (λ named. Touches linked old new steps named) same touched

  -- an edit that changes nothing touches nothing
  pub touches_nothing : {old new : Table E} {places : List (Option Place)} → new ≡ old → Touches linked old new [] places
  touches_nothing same = record { steps_are = λ q. ap (λ t. linked (t.entry q)) same; others = λ q out. ap (λ t. t.entry q) same }

  -- what an edit touches in a view is what it touches in the words that the caller lent
  pub touched_back : (unlinked : E) (a b : RawTable E) {es fs : List E} {steps : List LinkStep} {places places' : List (Option Place)} → raw_entries a ≡ es → fs ≡ raw_entries b
      → places' ≡ places → Touches linked (raw_table unlinked a) (raw_table unlinked b) steps places
      → Touches linked (table_of unlinked es) (table_of unlinked fs) steps places'
  touched_back unlinked a b {steps} {places} e f same touched =
      let back : Touches linked (table_of unlinked (raw_entries a)) (table_of unlinked (raw_entries b)) steps places =
      record { steps_are = trace_within linked _ _ steps _ _ touched.steps_are; others = touched.others } in
      rw (← e, f, same) back
