-- These lemmas say which ends a list has after a splice or a cut.
use Rattle.std.proofs.Common.{◌≡◌, Option, Some, None, refl, sym, subst}
use Rattle.ic_link_ops.specs.Prelude.{Place, Table, Ends, TurnsEnds, end_of}
use Rattle.ic_link_ops.proofs.SequenceLemmas.{none_not}
use Rattle.ic_chain.specs.SplitEnds.{SplitsEnds}
use Rattle.ic_raw.specs.declared.gap.Gap.{Gap}
use Rattle.ic_raw.specs.declared.gap.GapSide.{GapSide}
use Rattle.ic_raw.specs.declared.gap.GapSide.TheVariants.{After, Before}
use Rattle.ic_raw.specs.Doubly.{TellsGap, gap_from, next_from, prev_from}
use Rattle.ic_raw.specs.Gaps.{AllPutIn, IsCutAt, IsCutBeside, PutIn, TakenOut}
use Rattle.ic_raw.specs.LinkWords.{LinkWords}

-- A GAP IS CONFIRMED BY THE WORDS: if no member is on one side of the gap, the place on the opposite side is an end of the list
module _ {W : Type 0} (words : LinkWords W) (t : Table W) (list : Ends) where
  begins_after : (prev at : Option Place) → next_from words t list prev ≡ at → list.head ≡ end_of prev at list.head
  begins_after None at e = e
  begins_after (Some q) at e = refl

  ends_before : (next at : Option Place) → prev_from words t list next ≡ at → list.tail ≡ end_of next at list.tail
  ends_before None at e = e
  ends_before (Some q) at e = refl

  pub stays_cut : (side : GapSide) (at : Option Place) → TellsGap words side t list at → TakenOut (gap_from words side t list at) list list
  stays_cut After at links_back = record { head = begins_after at (next_from words t list at) refl; tail = ends_before (next_from words t list at) at links_back.1 }
  stays_cut Before at links_back = record { head = begins_after (prev_from words t list at) at links_back.1; tail = ends_before at (prev_from words t list at) refl }

-- if the links confirm both ends of a list and one end is none, both ends are none
module _ {W : Type 0} (words : LinkWords W) (t : Table W) (given : Ends) where
  no_tail : TellsGap words After t given None → given.head ≡ None → given.tail ≡ None
  no_tail links_back none = subst (λ at. prev_from words t given at ≡ None) none links_back.1

  no_head : TellsGap words Before t given None → given.tail ≡ None → given.head ≡ None
  no_head links_back none = subst (λ at. next_from words t given at ≡ None) none links_back.1

-- ALL MEMBERS OF A LIST MOVE INTO A GAP. This list has the ends `head` and `tail`, which are both none or both places
module _ {gap : Gap} {old new : Ends} where
  ends_put_in : (head tail : Option Place) → (head ≡ None → tail ≡ None) → (tail ≡ None → head ≡ None) → TakenOut gap old old → (head ≡ None → new ≡ old)
      → ((first : Place) → head ≡ Some first → TurnsEnds (λ last. last) old new gap.before gap.after (Some first) tail)
      → AllPutIn gap (record { head = head; tail = tail }) old new
  ends_put_in None None tailless headless stays kept turns = rw (kept refl) stays
  ends_put_in None (Some q) tailless headless stays kept turns = absurd (none_not q (sym (tailless refl)))
  ends_put_in (Some p) None tailless headless stays kept turns = absurd (none_not p (sym (headless refl)))
  ends_put_in (Some p) (Some q) tailless headless stays kept turns = let made = turns p refl in record { head = made.head; tail = made.tail _ refl }

pub all_put_in : {W : Type 0} (words : LinkWords W) (side : GapSide) (t : Table W) {list given new : Ends} (at : Option Place) {end : Option Place} {found : Gap} → found ≡ gap_from words side t list at → end ≡ given.tail
    → TellsGap words side t list at → TellsGap words After t given None → TellsGap words Before t given None → (given.head ≡ None → new ≡ list)
    → ((first : Place) → given.head ≡ Some first → TurnsEnds (λ last. last) list new found.before found.after (Some first) end)
    → AllPutIn (gap_from words side t list at) given list new
all_put_in words side t {list} {given} at same is links_back front back kept turns =
    ends_put_in given.head given.tail (no_tail words t given front) (no_head words t given back) (stays_cut words t list side at links_back) kept (rw (← same, ← is) turns)

-- if a list is cut into two lists at a gap, the ends of both lists are those of the two parts
pub cut_at : {gap : Gap} {old new rest : Ends} → SplitsEnds (λ last. last) old new rest gap.before gap.after → IsCutAt gap old new rest
cut_at split = record { front_head = split.head; front_tail = split.tail; back_head = split.rest_head; back_tail = split.rest_tail _ refl }

-- `IsCutBeside` stays true if the gap and the ends are replaced by equal ones
pub cut_same : (side : GapSide) {gap gap' : Gap} {old old' kept kept' handed handed' : Ends} → gap' ≡ gap → old' ≡ old → kept' ≡ kept → handed' ≡ handed
    → IsCutBeside side gap old kept handed → IsCutBeside side gap' old' kept' handed'
cut_same side a b c d cut = rw (a, b, c, d) cut

pub put_same : {to to' : Gap} {p p' : Option Place} {old old' new new' : Ends} → to' ≡ to → p' ≡ p → old' ≡ old → new' ≡ new → PutIn to p old new → PutIn to' p' old' new'
put_same a b c d put = rw (a, b, c, d) put

pub taken_same : {from from' : Gap} {old old' new new' : Ends} → from' ≡ from → old' ≡ old → new' ≡ new → TakenOut from old new → TakenOut from' old' new'
taken_same a b c taken = rw (a, b, c) taken

pub all_put_same : {to to' : Gap} {given given' old old' new new' : Ends} → to' ≡ to → given' ≡ given → old' ≡ old → new' ≡ new → AllPutIn to given old new
    → AllPutIn to' given' old' new'
all_put_same a b c d put = rw (a, b, c, d) put
