use Rattle.std.proofs.Common.{refl, sym, ◌∙◌}
use Rattle.ic_link_ops.specs.Sequences.{join}
use Rattle.ic_raw.proofs.Lists.{begin_apart}
use Rattle.ic_raw.proofs.Touches.{touches_splice}
use Rattle.ic_raw.proofs.xor_list.splice.Goals as goal

pub returns-then-begin_alike-clause-spliced : goal.returns-then-begin_alike-clause-spliced
returns-then-begin_alike-clause-spliced c cut t shown after following given apart =
    let alike = c.begin_alike.ensures.alike c.if-begin_alike.true in
    absurd (begin_apart (join cut) t apart (sym given.head ∙ alike.1) (sym shown.head ∙ alike.2))

pub returns-clause-touched : goal.returns-clause-touched
returns-clause-touched c made =
    let put = c.splice_between.ensures in
    rw (sym c.last-end.ensures) (touches_splice put.trace_stays put.others)

pub returns-clause-own : goal.returns-clause-own
returns-clause-own c first is made =
    let turns = c.splice_between.ensures.ends first is in
    record { head = turns.head; tail = rw (sym c.last-end.ensures) (turns.tail _ refl) }
