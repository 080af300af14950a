use Rattle.std.proofs.Common.{◌∙◌}
use Rattle.ic_raw.proofs.Gaps.{gap_is, never}
use Rattle.ic_raw.proofs.Doubly.{around_member, around_ends}
use Rattle.ic_raw.proofs.LinkViews.{link_words}
use Rattle.ic_raw.proofs.list.beside.Goals as goal

pub returns-then-not-stands-clause-member : goal.returns-then-not-stands-clause-member
returns-then-not-stands-clause-member g c front back p shown is =
    let words = link_words g.W.Words g.W.NextWord g.W.PrevPlace in
    absurd (never c.if-not-stands.true (c.stands.ensures.1 (around_member words front p back shown is).stands))

pub returns-then-not-stands-clause-ends : goal.returns-then-not-stands-clause-ends
returns-then-not-stands-clause-ends g c s shown is =
    let words = link_words g.W.Words g.W.NextWord g.W.PrevPlace in
    absurd (never c.if-not-stands.true (c.stands.ensures.1 (around_ends words s shown is).stands))

pub returns-then-not-leads-clause-member : goal.returns-then-not-leads-clause-member
returns-then-not-leads-clause-member g c front back p shown is =
    let words = link_words g.W.Words g.W.NextWord g.W.PrevPlace in
    let there = around_member words front p back shown is in
    let led = there.led_to _ (c.prev_of-before.ensures ∙ there.prev) in
    absurd (never c.if-not-leads.true (c.leads.ensures.leads led.0 led.1))

pub returns-then-not-leads-clause-ends : goal.returns-then-not-leads-clause-ends
returns-then-not-leads-clause-ends g c s shown is =
    let words = link_words g.W.Words g.W.NextWord g.W.PrevPlace in
    let there = around_ends words s shown is in
    let led = there.led_to _ (c.prev_of-before.ensures ∙ there.prev) in
    absurd (never c.if-not-leads.true (c.leads.ensures.leads led.0 led.1))

pub returns-then-not-follows-clause-member : goal.returns-then-not-follows-clause-member
returns-then-not-follows-clause-member g c front back p shown is =
    let words = link_words g.W.Words g.W.NextWord g.W.PrevPlace in
    let there = around_member words front p back shown is in
    let f = there.followed _ (c.next_of-after.ensures ∙ there.next) in
    absurd (never c.if-not-follows.true (c.follows.ensures.follows f.0 f.1))

pub returns-then-not-follows-clause-ends : goal.returns-then-not-follows-clause-ends
returns-then-not-follows-clause-ends g c s shown is =
    let words = link_words g.W.Words g.W.NextWord g.W.PrevPlace in
    let there = around_ends words s shown is in
    let f = there.followed _ (c.next_of-after.ensures ∙ there.next) in
    absurd (never c.if-not-follows.true (c.follows.ensures.follows f.0 f.1))

pub returns-clause-member : goal.returns-clause-member
returns-clause-member g c front back p shown is =
    let words = link_words g.W.Words g.W.NextWord g.W.PrevPlace in
    let there = around_member words front p back shown is in
    gap_is (record { front = front; back = back }) (c.prev_of-before.ensures ∙ there.prev) (c.next_of-after.ensures ∙ there.next)

pub returns-clause-ends : goal.returns-clause-ends
returns-clause-ends g c s shown is =
    let words = link_words g.W.Words g.W.NextWord g.W.PrevPlace in
    let there = around_ends words s shown is in
    gap_is (record { front = s; back = s }) (c.prev_of-before.ensures ∙ there.prev) (c.next_of-after.ensures ∙ there.next)
