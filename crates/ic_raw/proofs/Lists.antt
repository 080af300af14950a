-- These lemmas hold for every kind of lists. They say what a call reads from the words, and what an edit of the list results in.
use Rattle.std.proofs.Common.{◌≡◌, ◌≢◌, Bool, true, Option, Some, List, [], ◌∷◌, ◌++◌, sym, ◌∙◌}
use Rattle.ic_link_ops.specs.Prelude.{Place, Cut, join, first, last, IsAbsent, IsDisjoint, IsAfter, IsBefore, Table, ChangesOnly, ListHead, RepresentsChain, Inserts, Removes, Replaces}
use Rattle.ic_link_ops.proofs.SequenceLemmas.{none_not, some_same, absent_right, absent_with, distinct_middle, gap_not, beside_not}
use Rattle.ic_link_ops.proofs.RepresentedLists.{represents_kept, represents_beside, gap_linked, gap_after_linked, free_absent}
use Rattle.ic_raw.specs.Prelude.{IsNoneOrLinked, IsFree}
use Rattle.ic_raw.specs.Gaps as gaps

-- two lists that share no member begin with different members
pub begin_apart : (s t : List Place) {p : Place} → IsDisjoint t s → first t ≡ Some p → first s ≡ Some p → ⊥
begin_apart s [] {p} d a b = none_not p a
begin_apart [] (x ∷ t) {p} d a b = none_not p b
begin_apart (y ∷ s) (x ∷ t) d a b = d.0.0 (some_same a ∙ sym (some_same b))

module _ {E W : Type 0} {between : E → Option Place → Option Place → Type 0} {keep : Option Place → W} where
  -- a table still represents a sequence if no entry changes
  pub kept : (t u : Table E) (list : ListHead W) (s : List Place) → RepresentsChain between keep t list s → ((q : Place) → u.entry q ≡ t.entry q) → RepresentsChain between keep u list s
  kept t u list s shown same = represents_kept shown (λ q member. same q)

  -- `Names` says that the entry of a place also names the place before it. REMOVE: a member p is removed if its two neighbors are linked to each
  -- other and p is then unlinked
  pub removed : {Names : Type 0} {old mid new : Table E} {list list' : ListHead W} (front : List Place) (p : Place) (back : List Place) {before following : Option Place}
      → before ≡ last front → following ≡ first back → RepresentsChain between keep old list (front ++ p ∷ back)
      → ((front back : List Place) → RepresentsChain between keep old list (front ++ p ∷ back) → before ≡ last front → following ≡ first back
      → RepresentsChain between keep mid list' (front ++ back))
      → mid.extent ≡ old.extent → ((q : Place) → before ≢ Some q → (Names → following ≢ Some q) → mid.entry q ≡ old.entry q)
      → ChangesOnly mid new p → Removes (RepresentsChain between keep) old new list' (gaps.before p front back)
  removed {new} front p back is_before is_after shown off extent others released = record {
    shows = represents_beside {new = new} (off front back shown is_before is_after) (distinct_middle front back p shown.distinct) released.others;
    frame = record {
      extent = released.extent ∙ extent;
      others = λ q out.
          let sides = beside_not front back p is_before is_after out in released.others q (absent_right q front (p ∷ back) out).0 ∙ others q sides.0 (λ _. sides.1);
    };
  }

  -- MOVE: a member p is moved if its two neighbors are linked to each other, and p is then linked into the gap `cut` of the other members
  pub moved : {Names : Type 0} {old mid new : Table E} {list off_list list' : ListHead W} (front : List Place) (p : Place) (back : List Place) (cut : Cut) {b a before following : Option Place}
      → b ≡ last front → a ≡ first back → IsAfter cut before → IsBefore cut following → join cut ≡ front ++ back → RepresentsChain between keep old list (front ++ p ∷ back)
      → ((front back : List Place) → RepresentsChain between keep old list (front ++ p ∷ back) → b ≡ last front → a ≡ first back → RepresentsChain between keep mid off_list (front ++ back))
      → mid.extent ≡ old.extent → ((q : Place) → b ≢ Some q → (Names → a ≢ Some q) → mid.entry q ≡ old.entry q)
      → ((front back : List Place) → RepresentsChain between keep mid off_list (front ++ back) → before ≡ last front → following ≡ first back → IsAbsent p (front ++ back)
      → RepresentsChain between keep new list' (front ++ p ∷ back))
      → new.extent ≡ mid.extent → ((q : Place) → before ≢ Some q → q ≢ p → (Names → following ≢ Some q) → new.entry q ≡ mid.entry q)
      → Inserts (RepresentsChain between keep) old new list' cut p
  moved front p back cut is_b is_a after ahead same shown off extent others put extent' others' = record {
    shows = put cut.front cut.back (rw same (off front back shown is_b is_a)) after ahead (rw same (distinct_middle front back p shown.distinct));
    frame = record {
      extent = extent' ∙ extent;
      others = λ q away.
          let from = gap_not front back is_b is_a (rw same at away.1) in
          let to = gap_not cut.front cut.back after ahead away.1 in
          others' q to.0 away.0 (λ _. to.1) ∙ others q from.0 (λ _. from.1);
    };
  }

  -- `law` says that an entry that names the neighbors of a member is the entry of a linked place
  module _ {linked : E → Bool} (law : (e : E) (b a : Option Place) → between e b a → linked e ≡ true) where
    module _ {t : Table E} {list : ListHead W} (front back : List Place) (shown : RepresentsChain between keep t list (front ++ back)) where
      -- a place beside a gap is none or linked
      pub before_stands : {at : Option Place} → at ≡ last front → IsNoneOrLinked linked t at
      before_stands e q k = gap_linked law front back shown (sym k ∙ e)

      pub after_stands : {at : Option Place} → at ≡ first back → IsNoneOrLinked linked t at
      after_stands e q k = gap_after_linked law front back shown (sym k ∙ e)

    -- INSERT: a free place p is inserted if it is marked as linked and then linked between the two places beside the gap
    pub inserted : {Names : Type 0} {old mid new : Table E} {list list' : ListHead W} (cut : Cut) {p : Place} {before following : Option Place}
        → IsAfter cut before → IsBefore cut following → RepresentsChain between keep old list (join cut) → IsFree linked old p → ChangesOnly old mid p
        → ((front back : List Place) → RepresentsChain between keep mid list (front ++ back) → before ≡ last front → following ≡ first back → IsAbsent p (front ++ back)
        → RepresentsChain between keep new list' (front ++ p ∷ back))
        → new.extent ≡ mid.extent → ((q : Place) → before ≢ Some q → q ≢ p → (Names → following ≢ Some q) → new.entry q ≡ mid.entry q)
        → Inserts (RepresentsChain between keep) old new list' cut p
    inserted {mid} cut after ahead shown free acquired put extent others =
        let out = free_absent law shown free.unlinked in record {
          shows = put cut.front cut.back (represents_beside {new = mid} shown out acquired.others) after ahead out;
          frame = record {
            extent = extent ∙ acquired.extent;
            others = λ q away.
                let sides = gap_not cut.front cut.back after ahead away.1 in others q sides.0 away.0 (λ _. sides.1) ∙ acquired.others q away.0;
          };
        }

    -- REPLACE: a free place p replaces the member `out` if p is marked as linked, p is linked between the neighbors of `out`, and `out` is then
    -- unlinked
    pub replaced : {Names : Type 0} {old mid late new : Table E} {list list' : ListHead W} (front : List Place) (out : Place) (back : List Place) {p : Place} {before following : Option Place}
        → before ≡ last front → following ≡ first back → RepresentsChain between keep old list (front ++ out ∷ back) → IsFree linked old p → ChangesOnly old mid p
        → ((front back : List Place) → RepresentsChain between keep mid list (front ++ out ∷ back) → before ≡ last front → following ≡ first back → IsAbsent p (front ++ out ∷ back)
        → RepresentsChain between keep late list' (front ++ p ∷ back))
        → late.extent ≡ mid.extent → ((q : Place) → before ≢ Some q → q ≢ p → (Names → following ≢ Some q) → late.entry q ≡ mid.entry q)
        → ChangesOnly late new out → Replaces (RepresentsChain between keep) old new list' (gaps.before out front back) p
    replaced {mid} {new} front out back {p} is_before is_after shown free acquired put extent others released =
        let absent = free_absent law shown free.unlinked in
        let apart = (absent_right p front (out ∷ back) absent).0 in record {
          shows = represents_beside {new = new} (put front back (represents_beside {new = mid} shown absent acquired.others) is_before is_after absent)
              (absent_with front back p out (λ e. apart (sym e)) (distinct_middle front back out shown.distinct)) released.others;
          frame = record {
            extent = released.extent ∙ extent ∙ acquired.extent;
            others = λ q away.
                let sides = beside_not front back out is_before is_after away.1 in
                released.others q (absent_right q front (out ∷ back) away.1).0 ∙ others q sides.0 away.0 (λ _. sides.1) ∙ acquired.others q away.0;
          };
        }
