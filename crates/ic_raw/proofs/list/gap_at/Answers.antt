use Rattle.std.proofs.Common.{◌≡◌, ◌∙◌, sym}
use Rattle.ic_link_ops.specs.Sequences.{first, last}
use Rattle.ic_raw.proofs.Gaps.{gap_is, never}
use Rattle.ic_raw.proofs.Doubly.{law, beside_stands, next_represented, prev_represented}
use Rattle.ic_raw.proofs.Lists.{before_stands, after_stands}
use Rattle.ic_raw.proofs.LinkViews.{link_words}
use Rattle.ic_raw.proofs.list.gap_at.Goals as goal

pub returns-then-not-stands-clause-shown : goal.returns-then-not-stands-clause-shown
returns-then-not-stands-clause-shown g c cut shown beside =
    let words = link_words g.W.Words g.W.NextWord g.W.PrevPlace in
    absurd (never c.if-not-stands.true (c.stands.ensures.1 (beside_stands words c.args.side cut shown beside)))

pub returns-then-not-follows-clause-shown : goal.returns-then-not-follows-clause-shown
returns-then-not-follows-clause-shown g c cut shown beside =
    let words = link_words g.W.Words g.W.NextWord g.W.PrevPlace in
    let at : c.args.at ≡ last cut.front = rw c.in-After.is at beside in
    let after = c.next_of-after.ensures ∙ next_represented words cut.front cut.back shown c.args.at at in
    absurd (never c.if-not-follows.true (c.follows.ensures.follows (after_stands (law words) cut.front cut.back shown after)
    (at ∙ sym (prev_represented words cut.front cut.back shown c.next_of-after.result after))))

pub returns-then-not-leads-clause-shown : goal.returns-then-not-leads-clause-shown
returns-then-not-leads-clause-shown g c cut shown beside =
    let words = link_words g.W.Words g.W.NextWord g.W.PrevPlace in
    let at : c.args.at ≡ first cut.back = rw c.in-Before.is at beside in
    let before = c.prev_of-before.ensures ∙ prev_represented words cut.front cut.back shown c.args.at at in
    absurd (never c.if-not-leads.true (c.leads.ensures.leads (before_stands (law words) cut.front cut.back shown before)
    (at ∙ sym (next_represented words cut.front cut.back shown c.prev_of-before.result before))))

pub returns-else-not-follows-clause-shown : goal.returns-else-not-follows-clause-shown
returns-else-not-follows-clause-shown g c cut shown beside =
    let words = link_words g.W.Words g.W.NextWord g.W.PrevPlace in
    let at : c.args.at ≡ last cut.front = rw c.in-After.is at beside in
    gap_is cut at (c.next_of-after.ensures ∙ next_represented words cut.front cut.back shown c.args.at at)

pub returns-else-not-leads-clause-shown : goal.returns-else-not-leads-clause-shown
returns-else-not-leads-clause-shown g c cut shown beside =
    let words = link_words g.W.Words g.W.NextWord g.W.PrevPlace in
    let at : c.args.at ≡ first cut.back = rw c.in-Before.is at beside in
    gap_is cut (c.prev_of-before.ensures ∙ prev_represented words cut.front cut.back shown c.args.at at) at
