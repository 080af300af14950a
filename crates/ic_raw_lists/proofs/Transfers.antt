-- Lemmas on a member that moves from one list into another. Of the other members, only the old and the new neighbors of this member change.
use Rattle.std.proofs.Common.{◌≡◌, ◌≢◌, Option, Some, List, [], ◌∷◌, ◌++◌, refl, ◌∙◌}
use Rattle.ic_link_ops.specs.Prelude.{Place, Cut, join, insert, first, last, IsAbsent, IsAfter, IsBefore, IsDisjoint, Table, Ends}
use Rattle.ic_link_ops.proofs.SequenceLemmas.{absent_left, absent_right, absent_without, disjoint_cons, disjoint_remove, disjoint_sym, distinct_middle, gap_not}
use Rattle.ic_link_ops.proofs.RepresentedLists.{represents_frame}
use Rattle.ic_raw.specs.declared.table.RawTable.{RawTable}
use Rattle.ic_raw.specs.Doubly.{Represents}
use Rattle.ic_raw.specs.LinkWords.{LinkWords, lent_table, table_of}
use Rattle.ic_raw.specs.Tables.{raw_entries}
use Rattle.ic_raw.proofs.Lists.{kept}
use Rattle.ic_raw.proofs.LinkViews.{frame_back}
use Rattle.ic_raw_lists.specs.TransferCalls.{Transfers}

-- if two lists share no member, a member p of the first list is not in the second
pub apart_at : (front : List Place) (p : Place) (back u : List Place) → IsDisjoint (front ++ p ∷ back) u → IsAbsent p u
apart_at [] p back u apart = apart.0
apart_at (x ∷ front) p back u apart = apart_at front p back u apart.1

-- first the neighbors of p are linked to each other, and then p is linked into the other list at the gap `cut`
pub transferred : {W : Type 0} (words : LinkWords W) {Names : Type 0} {old mid new : Table W} {list list' given given' : Ends} (cut : Cut) (front : List Place) (p : Place) (back : List Place)
    {b a before following : Option Place} → b ≡ last front → a ≡ first back → IsAfter cut before → IsBefore cut following
    → Represents words old list (join cut) → Represents words old given (front ++ p ∷ back) → IsDisjoint (front ++ p ∷ back) (join cut)
    → ((front back : List Place) → Represents words old given (front ++ p ∷ back) → b ≡ last front → a ≡ first back → Represents words mid given' (front ++ back))
    → mid.extent ≡ old.extent → ((q : Place) → b ≢ Some q → (Names → a ≢ Some q) → mid.entry q ≡ old.entry q)
    → ((front back : List Place) → Represents words mid list (front ++ back) → before ≡ last front → following ≡ first back → IsAbsent p (front ++ back) → Represents words new list' (front ++ p ∷ back))
    → new.extent ≡ mid.extent → ((q : Place) → before ≢ Some q → q ≢ p → (Names → following ≢ Some q) → new.entry q ≡ mid.entry q)
    → Transfers words old new list' given' cut front p back
transferred words {old = old} {mid} {new} {list} {given' = given'} cut front p back is_b is_a after ahead shown given apart off extent others put extent' others' =
    let out = apart_at front p back (join cut) apart in
    let rest = disjoint_remove front back (join cut) p apart in
    let first_edit : (q : Place) → IsAbsent q (front ++ back) → mid.entry q ≡ old.entry q =
    λ q away. let sides = gap_not front back is_b is_a away in others q sides.0 (λ _. sides.1) in
    let second_edit : (q : Place) → IsAbsent q (p ∷ join cut) → new.entry q ≡ mid.entry q =
    λ q away. let sides = gap_not cut.front cut.back after ahead away.1 in others' q sides.0 away.0 (λ _. sides.1) in
    let between : Represents words mid list (join cut) = represents_frame {new = mid} (front ++ back) shown (disjoint_sym (front ++ back) (join cut) rest) first_edit in
    let own : IsAbsent p (front ++ back) = distinct_middle front back p given.distinct in
    record {
      shows = put cut.front cut.back between after ahead out;
      keeps = represents_frame {new = new} (p ∷ join cut) (off front back given is_b is_a) (disjoint_cons p (front ++ back) (join cut) own rest) second_edit;
      frame = record {
        extent = extent' ∙ extent;
        others = λ q away.
            let inserted = absent_left q (insert cut p) (front ++ back) away in
            second_edit q ((absent_right q cut.front (p ∷ cut.back) inserted).0, absent_without cut.front cut.back p q inserted)
            ∙ first_edit q (absent_right q (insert cut p) (front ++ back) away);
      };
    }

-- if a transfer was made in a view of the words and the words of both lists were stored, the transfer was made in the words
pub transfers_back : {W : Type 0} (words : LinkWords W) (a b : RawTable W) {es fs : List W} {h h' g g' : Ends} {cut : Cut} {front : List Place} {p : Place} {back : List Place}
    → raw_entries a ≡ es → fs ≡ raw_entries b → h' ≡ h → g' ≡ g → Transfers words (lent_table words a) (lent_table words b) h g cut front p back
    → Transfers words (table_of words es) (table_of words fs) h' g' cut front p back
transfers_back words a b {h = h} {g = g} {cut} {front} {p} {back} e f k l done =
    let whole : Transfers words (table_of words (raw_entries a)) (table_of words (raw_entries b)) h g cut front p back =
    record { shows = kept _ _ _ _ done.shows (λ q. refl); keeps = kept _ _ _ _ done.keeps (λ q. refl); frame = frame_back words a b done.frame } in
    rw (← e, f, k, l) whole
