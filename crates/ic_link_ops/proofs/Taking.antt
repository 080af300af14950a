-- A walk removes the members of a collection one by one. Each call leaves fewer members, and all calls together return the whole
-- sequence.
use Rattle.std.proofs.Common.{◌≡◌, ◌<◌, Bool, Option, Some, None, List, [], ◌++◌, reverse, drop, length, sym, ap, arith}
use Rattle.std.specs.Iterator.{MakesProgress, item_count}
use Rattle.ic_link_ops.specs.Base.{Place, but_last, Table, LinkStep}
use Rattle.ic_link_ops.specs.Taking.{Taking, Leaves, TakesFirst, TakesLast}
use Rattle.ic_link_ops.specs.BothEnds.{Item, Leads, from_front, from_back}
use Rattle.ic_link_ops.proofs.BothEnds.{both_ends}
use Rattle.ic_link_ops.proofs.SequenceLemmas.{split_last, first_is}
use Rattle.ic_link_ops.proofs.CollectionLaws.{IsKind, one_sequence_is_represented}

-- `Left s w` says that w is the list of members left in the state s. The function `left` computes this list.
module _ {S : Type 0} (Left : S → List Place → Type 0) (left : S → List Place) (law : (s : S) (w : List Place) → Left s w → left s ≡ w) where
  -- A call that returned a member leaves fewer members.
  pub goes : (end : List Place → Option Place) (others : List Place → List Place) → ((w : List Place) (p : Place) → Some p ≡ end w → length (others w) < length w)
      → (s t : S) (r : Option Place) → (can : (w : List Place) × Left s w) → r ≡ end can.0 → Left t (others can.0)
      → MakesProgress (λ s. (w : List Place) × Left s w) (item_count left) s r t
  goes end others less s t None can answer rest = record { on = λ _. tt; keeps = tt; rests = λ _. tt }
  goes end others less s t (Some x) can answer rest = record {
    on = λ _. ((others can.0, rest), tt, omega (arith, less can.0 x answer, ap length (law s can.0 can.1), ap length (law t (others can.0) rest)));
    keeps = (others can.0, rest);
    rests = λ _. tt;
  }

-- `rest s` consists of the head of the part of the collection that the walk s has not removed yet, and of the table that the walk
-- borrows.
module _ {S L E H : Type 0} {Represents : Table E → H → List Place → Type 0} {linked : E → Bool} {empty : H} (kind : IsKind Represents linked empty)
    (table : L → Table E) (Trace : L → L → List LinkStep → Type 0) (rest : S → Taking L H) where
  -- If a walk from both ends has ended with no member left, it has removed each member of its sequence w once. The sequence w
  -- consists of the members from the front, followed by the members from the back in reverse order.
  pub two_ended_taking : (start end : S) (w : List Place) (items : List (Item Place)) → Leaves Represents table (rest start) w
      → Leads (λ s r t. TakesFirst Represents table Trace (rest s) r (rest t)) (λ s r t. TakesLast Represents table Trace (rest s) r (rest t)) start items end
      → Leaves Represents table (rest end) [] → from_front (λ p. p) items ++ reverse (from_back (λ p. p) items) ≡ w
  two_ended_taking start end w items left leads over =
      both_ends (λ p. p) (λ s r t. TakesFirst Represents table Trace (rest s) r (rest t)) (λ s r t. TakesLast Represents table Trace (rest s) r (rest t))
      (λ s u. Leaves Represents table (rest s) u)
      (λ s t x u takes is. (drop 1 u, first_is u (takes.answer u is), takes.removed u is))
      (λ s t x u takes is. (but_last u, split_last u (sym (takes.answer u is)), takes.removed u is))
      start end items w leads left (λ r is. one_sequence_is_represented kind is over)
