use Rattle.std.proofs.Common.{◌∙◌, append-nil}
use Rattle.ic_link_ops.specs.Sequences.{at_front, at_back}
use Rattle.ic_chain.proofs.laws.null_there_and_back.Goals as goal

pub returns-clause-there : goal.returns-clause-there
returns-clause-there g c s shown = c.get_ptr-front.ensures ∙ c.move_next.ensures.moved.leads (at_front s) shown c.requires.null

pub returns-clause-back : goal.returns-clause-back
returns-clause-back g c s shown =
    let on = c.move_next.ensures in
    let back = c.move_prev.ensures in
    let null = back.moved.leads (at_front s) (rw (on.list, on.links) shown) (on.moved.leads (at_front s) shown c.requires.null) in
    c.get_ptr-back.ensures ∙ c.move_prev-2.ensures.moved.leads (at_back s) (rw (append-nil s, back.list, back.links, on.list, on.links) shown) null

pub returns-clause-again : goal.returns-clause-again
returns-clause-again g c s shown =
    let on = c.move_next.ensures in
    let back = c.move_prev.ensures in
    let again = c.move_prev-2.ensures in
    let null = back.moved.leads (at_front s) (rw (on.list, on.links) shown) (on.moved.leads (at_front s) shown c.requires.null) in
    let last = again.moved.leads (at_back s) (rw (append-nil s, back.list, back.links, on.list, on.links) shown) null in
    c.move_next-2.ensures.moved.leads (at_back s) (rw (append-nil s, again.list, again.links, back.list, back.links, on.list, on.links) shown) last
