use Rattle.std.proofs.Common.{◌∙◌, append-nil}
use Rattle.ic_link_ops.specs.Sequences.{at_back}
use Rattle.ic_link_ops.proofs.CollectionLaws as laws
use Rattle.ic_link_ops.proofs.SequenceLemmas.{disjoint_sym, distinct_disjoint}
use Rattle.ic_chain.proofs.Standing.{chain_lists}
use Rattle.ic_chain.proofs.laws.split_then_splice.Goals as goal

pub returns-clause-apart : goal.returns-clause-apart
returns-clause-apart g c old split handed stands splits =
    let gap = stands.gap in
    let parts = splits.split gap stands.shown stands.after in
    record {
      gap = at_back gap.front;
      rest = gap.back;
      shown = rw (append-nil gap.front) parts.keeps;
      after = splits.position ∙ stands.after;
      other_represented = parts.hands_out;
      apart = rw (append-nil gap.front) (disjoint_sym gap.front gap.back (distinct_disjoint gap.front gap.back stands.shown.distinct));
    }

pub returns-clause-as_it_was : goal.returns-clause-as_it_was
returns-clause-as_it_was g c old split new handed stands splits splices =
    let kind = chain_lists g.met.K.ForwardLinks.leads g.met.K.ForwardLinks.between_linked in
    let whole = laws.split_then_splice kind stands.gap stands.shown stands.after splits.split
    (λ gap s kept after given apart. splices.spliced gap s kept (splits.position ∙ after) given apart) in
    record {
      sequence = λ s shown. rw (← laws.one_sequence_is_represented kind stands.shown shown) whole.0;
      frame = λ s shown. rw (← laws.one_sequence_is_represented kind stands.shown shown) whole.1;
      position = splices.position ∙ splits.position;
      trace_stays = g.met.L.LinkOps.does_on _ _ _ _ _ splits.trace_stays splices.trace_stays;
    }
