use Rattle.std.proofs.Common.{ap}
use Rattle.ic_link_ops.proofs.SequenceLemmas.{absent_turned}
use Rattle.ic_raw.proofs.Ends.{cut_at}
use Rattle.ic_raw.proofs.Touches.{touches_split}
use Rattle.ic_raw.proofs.LinkViews.{link_words, end_has_room}
use Rattle.ic_raw.proofs.list.split.Goals as goal

pub returns-in-After-clause-split : goal.returns-in-After-clause-split
returns-in-After-clause-split g c cut shown gap =
    rw c.in-After.is (c.split_between-back.ensures.split cut shown (ap (λ g. g.before) gap) (ap (λ g. g.after) gap))

pub returns-in-Before-clause-split : goal.returns-in-Before-clause-split
returns-in-Before-clause-split g c cut shown gap =
    let split = c.split_between-back.ensures.split cut shown (ap (λ g. g.before) gap) (ap (λ g. g.after) gap) in
    rw c.in-Before.is (record {
      keeps = rw c.replace.ensures.after split.hands_out;
      hands_out = rw c.replace.ensures.value split.keeps;
      frame = record { extent = split.frame.extent; others = λ q out. split.frame.others q (absent_turned q cut.front cut.back out) };
    })

pub returns-in-After-clause-touched : goal.returns-in-After-clause-touched
returns-in-After-clause-touched g c = touches_split c.split_between-back.ensures.trace_stays c.split_between-back.ensures.others

pub returns-in-Before-clause-touched : goal.returns-in-Before-clause-touched
returns-in-Before-clause-touched g c = touches_split c.split_between-back.ensures.trace_stays c.split_between-back.ensures.others

pub returns-in-After-clause-own : goal.returns-in-After-clause-own
returns-in-After-clause-own g c = rw c.in-After.is (cut_at c.split_between-back.ensures.ends)

pub returns-in-Before-clause-own : goal.returns-in-Before-clause-own
returns-in-Before-clause-own g c = rw (c.in-Before.is, c.replace.ensures.after, c.replace.ensures.value) (cut_at c.split_between-back.ensures.ends)

pub split_between-back-requires-clause-next : goal.split_between-back-requires-clause-next
split_between-back-requires-clause-next g c =
    let words = link_words g.W.Words g.W.NextWord g.W.PrevPlace in
    end_has_room words g.met.W.Words.starts_unlinked c.args.links.now c.args.gap.after c.requires.gap.1
