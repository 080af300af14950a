-- These lemmas say what the calls of a doubly linked list read from the words, if the words represent a list.
use Rattle.std.proofs.Common.{◌≡◌, Option, Some, None, List, [], ◌∷◌, ◌++◌, true, refl, sym, ◌∙◌, append_assoc, append-nil, subst}
use Rattle.ic_link_ops.specs.Prelude.{Place, Cut, join, first, last, Table, Ends, IsBetween}
use Rattle.ic_link_ops.proofs.SequenceLemmas.{first_of_back, last_of_front, last_of_push, last_or-append, none_not, nothing_first}
use Rattle.ic_link_ops.proofs.RepresentedLists.{before_gap, after_gap, represents_middle}
use Rattle.ic_link_ops.proofs.DoublyLists.{between_linked}
use Rattle.ic_raw.specs.declared.table.RawTable.{RawTable}
use Rattle.ic_raw.specs.declared.gap.Gap.{Gap}
use Rattle.ic_raw.specs.declared.gap.GapSide.{GapSide}
use Rattle.ic_raw.specs.declared.gap.GapSide.TheVariants.{After, Before}
use Rattle.ic_raw.specs.declared.words.RawEnds.{RawEnds}
use Rattle.ic_raw.specs.LinkWords.{LinkWords, lent_table, neighbors, table_of}
use Rattle.ic_raw.specs.Prelude.{IsBeside, IsNoneOrLinked, gap_of, outermost, raw_entries}
use Rattle.ic_raw.specs.Doubly.{Represents, RepresentsList, Split, SplitsBeside, TellsGap, around, ends_of, gap_from, next_from, prev_from}
use Rattle.ic_raw.proofs.Lists.{before_stands, after_stands, kept}
use Rattle.ic_raw.proofs.LinkViews.{splits_back}

-- if a call names no member, the gap on this side is the outermost gap of the list
pub outermost_is : (side : GapSide) (cut : Cut) → IsBeside side cut None → gap_of (outermost side (join cut)) ≡ gap_of cut
outermost_is After cut e = λ k. record { before = e k; after = first_of_back cut.front cut.back e k }
outermost_is Before cut e = λ k. record { before = last_of_front cut.front cut.back e k; after = e k }

-- `after` is the gap after the member p
abbrev pub after : Place → (front back : List Place) → Cut
after p front back = record { front = front ++ p ∷ []; back = back }

-- if members are added after a sequence that is not empty, its first member stays. If a member is inserted before the last member of a sequence, the
-- last member stays
pub first_kept : (s t : List Place) {q : Place} → Some q ≡ last s → first (s ++ t) ≡ first s
first_kept [] t {q} e = absurd (none_not q (sym e))
first_kept (x ∷ s) t e = refl

pub last_kept : (front : List Place) (p : Place) (back : List Place) {q : Place} → Some q ≡ first back → last (front ++ p ∷ back) ≡ last (front ++ back)
last_kept front p [] {q} e = absurd (none_not q (sym e))
last_kept front p (x ∷ s) e = last_or-append None front (p ∷ x ∷ s) ∙ sym (last_or-append None front (x ∷ s))

-- if the cut is before none, it is at the end of the sequence
pub at_end : (cut : Cut) → IsBeside Before cut None → cut ≡ record { front = cut.front; back = [] }
at_end cut e = let empty : cut.back ≡ [] = nothing_first cut.back e in λ k. record { front = cut.front; back = empty k }

-- `words` says how the two words of a place are read. Both have 8 bytes, or both have 4 bytes
module _ {W : Type 0} (words : LinkWords W) where
  -- an entry that names the neighbors of a member is the entry of a linked place
  pub law : (e : W) (b a : Option Place) → IsBetween (neighbors words) e b a → words.is_linked e ≡ true
  law = between_linked {n = neighbors words} {linked = words.is_linked} (λ e. refl)

  module _ {t : Table W} {list : Ends} (front back : List Place) (shown : Represents words t list (front ++ back)) where
    -- the links lead from the place before a gap to the place after it
    pub next_represented : (at : Option Place) → at ≡ last front → next_from words t list at ≡ first back
    next_represented None e = shown.head ∙ first_of_back front back e
    next_represented (Some q) e = (before_gap front back shown e).next

    pub prev_represented : (at : Option Place) → at ≡ first back → prev_from words t list at ≡ last front
    prev_represented None e = shown.tail ∙ last_of_front front back e
    prev_represented (Some q) e = (after_gap front back shown e).prev

  -- if the cut is beside `at`, then `at` is none or a linked place
  pub beside_stands : (side : GapSide) {t : Table W} {list : Ends} (cut : Cut) {at : Option Place} → Represents words t list (join cut) → IsBeside side cut at → IsNoneOrLinked words.is_linked t at
  beside_stands After cut shown e = before_stands law cut.front cut.back shown e
  beside_stands Before cut shown e = after_stands law cut.front cut.back shown e

  -- if the words of a view confirm a gap, the words that the caller lent confirm the gap
  pub told_back : (side : GapSide) {es : List W} (t : RawTable W) (list : Ends) (at : Option Place) → raw_entries t ≡ es → TellsGap words side (lent_table words t) list at
      → TellsGap words side (table_of words es) list at
  told_back After t list at e links_back =
      let back : TellsGap words After (table_of words (raw_entries t)) list at = links_back in subst (λ es. TellsGap words After (table_of words es) list at) e back
  told_back Before t list at e links_back =
      let back : TellsGap words Before (table_of words (raw_entries t)) list at = links_back in subst (λ es. TellsGap words Before (table_of words es) list at) e back

  pub told_viewed : (side : GapSide) (t : RawTable W) {es : List W} {list edited : Ends} {at named : Option Place} → raw_entries t ≡ es → edited ≡ list → at ≡ named
      → TellsGap words side (lent_table words t) edited at → TellsGap words side (table_of words es) list named
  told_viewed side t {list} {named} view read same links_back = told_back side t list named view (rw (← read, ← same) links_back)

  -- a gap that a call found in a view of the table is the gap that the words of the table name. This also holds for the two neighbors of a member
  pub gap_viewed : (side : GapSide) (t : RawTable W) {es : List W} {list edited : Ends} {at named : Option Place} {found : Gap} → raw_entries t ≡ es → edited ≡ list
      → at ≡ named → found ≡ gap_from words side (lent_table words t) edited at → gap_from words side (table_of words es) list named ≡ found
  gap_viewed After t view read same is = sym (is ∙ (λ k. gap_from words After (table_of words (view k)) (read k) (same k)))
  gap_viewed Before t view read same is = sym (is ∙ (λ k. gap_from words Before (table_of words (view k)) (read k) (same k)))

  pub around_viewed : (t : RawTable W) {es : List W} {list edited : Ends} {at named : Option Place} {found : Gap} → raw_entries t ≡ es → edited ≡ list
      → at ≡ named → found ≡ around words (lent_table words t) edited at → around words (table_of words es) list named ≡ found
  around_viewed t view read same is = sym (is ∙ (λ k. around words (table_of words (view k)) (read k) (same k)))

  -- A CUT OF THE LIST IN A VIEW is a cut of the list in the words that the caller lent, once both lists are written back
  pub split_back : (side : GapSide) (a b : RawTable W) {es fs : List W} (list list' rest : RawEnds) {keeps handed : Ends} (cut : Cut)
      → raw_entries a ≡ es → fs ≡ raw_entries b → ends_of list' ≡ keeps → ends_of rest ≡ handed
      → (RepresentsList words es list (join cut) → SplitsBeside words side (lent_table words a) (lent_table words b) keeps handed cut) → Split words es fs list list' 0 side rest cut
  split_back After a b list list' rest cut e f k l does = λ shown. record { accepted = refl; done = splits_back words kept a b e f k l (does shown) }
  split_back Before a b list list' rest cut e f k l does = λ shown. record { accepted = refl; done = splits_back words kept a b e f k l (does shown) }

  -- THE WORDS CONFIRM A GAP on a side of the place `at`, if the neighbor on this side is none or linked, and leads back to `at`
  pub told_after : (t : Table W) (list : Ends) (at next : Option Place) → next_from words t list at ≡ next → IsNoneOrLinked words.is_linked t next → prev_from words t list next ≡ at
      → TellsGap words After t list at
  told_after t list at next e stands back = (rw e stands, rw e back)

  pub told_before : (t : Table W) (list : Ends) (at prev : Option Place) → prev_from words t list at ≡ prev → IsNoneOrLinked words.is_linked t prev → next_from words t list prev ≡ at
      → TellsGap words Before t list at
  told_before t list at prev e stands back = (rw e stands, rw e back)

  pub represented_after : {t : Table W} {list : Ends} (front : List Place) (p : Place) (back : List Place) → Represents words t list (front ++ p ∷ back) → Represents words t list (join (after p front back))
  represented_after front p back shown = rw append_assoc shown

  -- `at` is between the two sides of a cut, and the links of both sides lead to `at`. `at` is a member between its neighbors, or none, between the
  -- last and the first member
  pub record IsAround (t : Table W) (list : Ends) (at : Option Place) (cut : Cut) : Type 0 where
    pub stands : IsNoneOrLinked words.is_linked t at
    pub prev : prev_from words t list at ≡ last cut.front
    pub next : next_from words t list at ≡ first cut.back
    pub led_to : (before : Option Place) → before ≡ last cut.front → IsNoneOrLinked words.is_linked t before × (at ≡ next_from words t list before)
    pub followed : (after : Option Place) → after ≡ first cut.back → IsNoneOrLinked words.is_linked t after × (at ≡ prev_from words t list after)

  pub around_member : {t : Table W} {list : Ends} (front : List Place) (p : Place) (back : List Place) → Represents words t list (front ++ p ∷ back) → {at : Option Place} → at ≡ Some p
      → IsAround t list at (record { front = front; back = back })
  around_member {t} {list} front p back shown {at} is =
      let cut : Represents words t list ((front ++ p ∷ []) ++ back) = rw append_assoc shown in
      let there = represents_middle front back shown in
      rw is (record {
        stands = after_stands law front (p ∷ back) shown refl;
        prev = there.prev;
        next = there.next;
        led_to = λ b e. (before_stands law front (p ∷ back) shown e, sym (next_represented front (p ∷ back) shown b e));
        followed = λ b e. (after_stands law (front ++ p ∷ []) back cut e, sym (prev_represented (front ++ p ∷ []) back cut b e ∙ last_of_push front p));
      })

  pub around_ends : {t : Table W} {list : Ends} (s : List Place) → Represents words t list s → {at : Option Place} → at ≡ None → IsAround t list at (record { front = s; back = s })
  around_ends {t} {list} s shown {at} is =
      let whole : Represents words t list (s ++ []) = rw append-nil shown in
      rw is (record {
        stands = λ q e. absurd (none_not q e);
        prev = shown.tail;
        next = shown.head;
        led_to = λ b e. (before_stands law s [] whole e, sym (next_represented s [] whole b e));
        followed = λ b e. (after_stands law [] s shown e, sym (prev_represented [] s shown b e));
      })
