use Rattle.std.proofs.Common.{◌≡◌, ◌∷◌, [], Option, Some, None, false, is_some, inl, refl, sym, ap, subst, ◌∙◌}
use Rattle.ic_link_ops.specs.Prelude.{Place, join}
use Rattle.ic_raw.specs.Gaps.{IsBeside}
use Rattle.ic_raw.proofs.Doubly.{outermost_is}
use Rattle.ic_raw.proofs.Ends.{all_put_in}
use Rattle.ic_raw.proofs.Touches.{touches_splice, touches_same}
use Rattle.ic_raw.specs.LinkWords.{lent_table}
use Rattle.ic_raw.proofs.LinkViews.{link_words, end_has_room}
use Rattle.ic_raw.proofs.list.splice_at_end.Goals as goal

is_none : (at : Option Place) → is_some at ≡ false → at ≡ None
is_none None off = refl
is_none (Some q) off = cc

pub returns-clause-spliced : goal.returns-clause-spliced
returns-clause-spliced g c cut t made shown beside given apart =
    let side = c.args.side in
    let none = subst (λ at. IsBeside side cut at) (is_none c.args.at (sym c.is_some.ensures ∙ c.if-is_some.false)) beside in
    let gap = c.gap_at_end.ensures.shown _ (join cut) c.in-Some.is shown ∙ outermost_is side cut none in
    let end = c.gap_at_end-3.ensures.shown _ t c.in-Some-gap_at_end-2.is given in
    c.splice_between.ensures.spliced cut t shown (ap (λ g. g.before) gap) (ap (λ g. g.after) gap) given (inl (ap (λ g. g.before) end)) apart

pub returns-clause-touched : goal.returns-clause-touched
returns-clause-touched g c made =
    let found = c.gap_at_end.ensures.sides _ c.in-Some.is in
    let end = c.gap_at_end-3.ensures.sides _ c.in-Some-gap_at_end-2.is in
    let put = c.splice_between.ensures in
    touches_same (λ k. (found k).before ∷ (found k).after ∷ c.args.given.head ∷ (end k).before ∷ []) (touches_splice put.trace_stays put.others)

pub returns-clause-own : goal.returns-clause-own
returns-clause-own g c made =
    let words = link_words g.W.Words g.W.NextWord g.W.PrevPlace in
    let end = c.in-Some-gap_at_end-2.is in
    let put = c.splice_between.ensures in
    all_put_in words c.args.side (lent_table words c.args.links.now) None (c.gap_at_end.ensures.sides _ c.in-Some.is) (ap (λ g. g.before) (c.gap_at_end-3.ensures.sides _ end))
    (c.gap_at_end.ensures.links_back _ c.in-Some.is) (c.gap_at_end-2.ensures.links_back _ c.in-Some-gap_at_end.is) (c.gap_at_end-3.ensures.links_back _ end) (λ none. (put.nothing none).0) put.ends

pub splice_between-requires-clause-next : goal.splice_between-requires-clause-next
splice_between-requires-clause-next g c =
    let words = link_words g.W.Words g.W.NextWord g.W.PrevPlace in
    end_has_room words g.met.W.Words.starts_unlinked c.args.links.now c.in-Some.gap.after (c.gap_at_end.ensures.stands _ c.in-Some.is).1

pub splice_between-requires-clause-given : goal.splice_between-requires-clause-given
splice_between-requires-clause-given g c =
    let words = link_words g.W.Words g.W.NextWord g.W.PrevPlace in
    end_has_room words g.met.W.Words.starts_unlinked c.args.links.now c.args.given.head (c.gap_at_end-2.ensures.links_back _ c.in-Some-gap_at_end.is).0
