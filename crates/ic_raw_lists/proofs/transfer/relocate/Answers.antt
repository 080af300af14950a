use Rattle.std.proofs.Common.{refl, ap}
use Rattle.ic_raw.proofs.Own.{put_in, taken_out}
use Rattle.ic_raw.proofs.Touches.{touches_move}
use Rattle.ic_raw_lists.proofs.Transfers.{transferred}
use Rattle.ic_raw.specs.LinkWords.{lent_table}
use Rattle.ic_raw.proofs.LinkViews.{link_words, end_has_room, linked_has_room}
use Rattle.ic_raw_lists.proofs.transfer.relocate.Goals as goal

pub returns-clause-moved : goal.returns-clause-moved
returns-clause-moved g c cut front back shown given apart from to =
    let words = link_words g.W.Words g.W.NextWord g.W.PrevPlace in
    let off = c.bypass.ensures in
    let put = c.insert_linked.ensures in
    transferred words cut front c.args.member back (ap (λ g. g.before) from) (ap (λ g. g.after) from) (ap (λ g. g.before) to) (ap (λ g. g.after) to) shown given apart off.shows off.extent
    off.others put.shows put.extent put.others

pub returns-clause-touched : goal.returns-clause-touched
returns-clause-touched g c =
    let words = link_words g.W.Words g.W.NextWord g.W.PrevPlace in
    touches_move (lent_table words c.bypass.new.links) c.bypass.ensures.trace_stays c.insert_linked.ensures.trace_stays c.bypass.ensures.others c.insert_linked.ensures.others

pub returns-clause-own : goal.returns-clause-own
returns-clause-own g c = put_in refl refl c.insert_linked.ensures.ends

pub returns-clause-given : goal.returns-clause-given
returns-clause-given g c = taken_out refl c.bypass.ensures.ends

pub bypass-requires-clause-next : goal.bypass-requires-clause-next
bypass-requires-clause-next g c =
    let words = link_words g.W.Words g.W.NextWord g.W.PrevPlace in
    end_has_room words g.met.W.Words.starts_unlinked c.args.links.now c.args.from.after c.requires.from.1

pub bypass-requires-clause-out : goal.bypass-requires-clause-out
bypass-requires-clause-out g c =
    let words = link_words g.W.Words g.W.NextWord g.W.PrevPlace in
    linked_has_room words g.met.W.Words.starts_unlinked c.args.links.now c.args.member (c.requires.member _ refl)

pub insert_linked-requires-clause-next : goal.insert_linked-requires-clause-next
insert_linked-requires-clause-next g c =
    let words = link_words g.W.Words g.W.NextWord g.W.PrevPlace in
    end_has_room words g.met.W.Words.starts_unlinked c.args.links.now c.args.to.after c.requires.to.1
