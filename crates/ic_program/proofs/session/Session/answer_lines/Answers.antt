use Rattle.std.proofs.Common.{drop, arith, sym, ◌∙◌}
use Rattle.std.proofs.lemmas.Option.{same_Some}
use Rattle.ic_program.proofs.AnsweredLemmas.{none_first, then_next, then_stop, then_short, then_room, left_as, passed_far, lost_far, unless_loss_map}
use Rattle.ic_program.proofs.LinesLemmas.{no_lines}
use Rattle.ic_program.proofs.TextLemmas.{slice_from}
use Rattle.ic_program.proofs.session.Session.answer_lines.Goals as goal

pub loop-rest-init : goal.loop-rest-init
loop-rest-init g c = none_first _ _ _ _ (λ others is. (omega arith, sym (same_Some _ _ is)))

pub loop-rest-preserved : goal.loop-rest-preserved
loop-rest-preserved g c =
    then_next c.args.text.now c.loop-rest.rest.now _ c.in_ok-taken.taken _ _ _ _ _ _ _ _ _ (g.W.Write.contents c.loop-rest.writer) _ _ _ _ c.loop-rest.invariant c.in_ok-taken.ensures.answered
    (slice_from c.in_ok-taken.taken c.loop-rest.rest.now) c.in_ok-make_room.ensures.written c.make_room.ensures.world c.make_room.ensures.lines

pub returns-in_err-taken : goal.returns-in_err-taken
returns-in_err-taken g c =
    passed_far _ c.in_err-taken.field-0.0 _ _ _ _ _ _ _ _ c.from_residual.ensures
    (unless_loss_map c.in_err-taken.field-0.0
    (λ short. then_short c.args.text.now c.loop-rest.rest.now _ _ _ _ _ (g.W.Write.contents c.loop-rest.writer) _ _ c.loop-rest.invariant short)
    (λ stopped. then_stop c.args.text.now c.loop-rest.rest.now c.in_err-taken.field-0.0 _ _ _ _ _ _ _ (g.W.Write.contents c.loop-rest.writer) _ _ c.loop-rest.invariant stopped)
    c.in_err-taken.ensures.answered)

pub returns-in_err-make_room : goal.returns-in_err-make_room
returns-in_err-make_room g c = lost_far _ _ _ _ _ _ _ _ _ _ c.from_residual-in_err-make_room.ensures c.in_err-make_room.ensures.lost
    (then_room c.args.text.now c.loop-rest.rest.now (drop c.in_ok-taken.taken c.loop-rest.rest.now) _ _ _ _ _ _ _ (g.W.Write.contents c.loop-rest.writer) _ _ _ _ c.loop-rest.invariant c.in_ok-taken.ensures.answered
    c.in_err-make_room.ensures.cut)

pub returns : goal.returns
returns g c = left_as _ _ _ _ _ _ _ c.loop-rest.invariant (λ count others next. (next.0, next.1 ∙ no_lines c.loop-rest.rest.now c.loop-rest-test.ensures))
