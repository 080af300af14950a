use Rattle.std.proofs.Common.{◌∷◌, [], sym, ap, ◌∙◌}
use Rattle.ic_link_ops.specs.Sequences.{join}
use Rattle.ic_raw.proofs.Ends.{all_put_in}
use Rattle.ic_raw.proofs.Lists.{begin_apart}
use Rattle.ic_raw.proofs.Touches.{touches_splice, touches_same}
use Rattle.ic_raw.specs.LinkWords.{lent_table}
use Rattle.ic_raw.proofs.LinkViews.{link_words, end_has_room}
use Rattle.ic_raw.proofs.list.splice.Goals as goal

pub returns-then-begin_alike-clause-spliced : goal.returns-then-begin_alike-clause-spliced
returns-then-begin_alike-clause-spliced g c cut t shown beside given apart =
    let alike = c.begin_alike.ensures.alike c.if-begin_alike.true in
    absurd (begin_apart (join cut) t apart (sym given.head ∙ alike.1) (sym shown.head ∙ alike.2))

pub returns-clause-touched : goal.returns-clause-touched
returns-clause-touched g c made =
    let found = c.gap_at.ensures.sides _ c.in-Some.is in
    let ends = c.beside.ensures.sides _ c.in-Some-beside.is in
    let put = c.splice_between.ensures in
    touches_same (λ k. (found k).before ∷ (found k).after ∷ c.args.given.head ∷ (ends k).before ∷ []) (touches_splice put.trace_stays put.others)

pub returns-clause-own : goal.returns-clause-own
returns-clause-own g c made =
    let words = link_words g.W.Words g.W.NextWord g.W.PrevPlace in
    let given = c.beside.ensures in
    let ends = c.in-Some-beside.is in
    let put = c.splice_between.ensures in
    all_put_in words c.args.side (lent_table words c.args.links.now) c.args.at (c.gap_at.ensures.sides _ c.in-Some.is) (ap (λ g. g.before) (given.sides _ ends))
    (c.gap_at.ensures.links_back _ c.in-Some.is) (given.after _ ends) (given.before _ ends) (λ none. (put.nothing none).0) put.ends

pub splice_between-requires-clause-next : goal.splice_between-requires-clause-next
splice_between-requires-clause-next g c =
    let words = link_words g.W.Words g.W.NextWord g.W.PrevPlace in
    end_has_room words g.met.W.Words.starts_unlinked c.args.links.now c.in-Some.gap.after (c.gap_at.ensures.stands _ c.in-Some.is).1

pub splice_between-requires-clause-given : goal.splice_between-requires-clause-given
splice_between-requires-clause-given g c =
    let words = link_words g.W.Words g.W.NextWord g.W.PrevPlace in
    end_has_room words g.met.W.Words.starts_unlinked c.args.links.now c.args.given.head (c.beside.ensures.after _ c.in-Some-beside.is).0
