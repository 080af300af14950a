use Rattle.std.proofs.Common.{◌≡◌, Some, [], sym, ap, ◌∙◌, None, subst}
use Rattle.ic_link_ops.specs.Sequences.{first, last}
use Rattle.ic_link_ops.proofs.SequenceLemmas.{none_not, some_same, last_of_push}
use Rattle.ic_raw.specs.Gaps.{before}
use Rattle.ic_raw.proofs.Doubly.{after, represented_after}
use Rattle.ic_raw.specs.Doubly.{around, next_from, prev_from}
use Rattle.ic_raw.proofs.Own.{sides_are}
use Rattle.ic_raw.specs.LinkWords.{lent_table}
use Rattle.ic_raw.proofs.LinkViews.{link_words}
use Rattle.ic_raw.proofs.list.end_at.Goals as goal

pub returns-in_default-clause-shown : goal.returns-in_default-clause-shown
returns-in_default-clause-shown g c front back p shown there =
    let end : front ≡ [] = rw c.in-After.is at there in
    let outer = c.gap_at.ensures.shown (before p front back) shown (sym (ap last end)) in
    absurd (none_not _ (sym c.in_default.is ∙ outer))

pub returns-in_default-after-clause-shown : goal.returns-in_default-after-clause-shown
returns-in_default-after-clause-shown g c front back p shown there =
    let end : front ≡ [] = rw c.in-After.is at there in
    let outer = c.gap_at.ensures.shown (before p front back) shown (sym (ap last end)) in
    let found = ap (λ g. g.after) (some_same (sym c.in-Some.is ∙ outer)) in
    absurd (none_not _ (sym c.in_default-after.is ∙ found))

pub returns-in_default-gap_at-clause-shown : goal.returns-in_default-gap_at-clause-shown
returns-in_default-gap_at-clause-shown g c front back p shown there =
    let words = link_words g.W.Words g.W.NextWord g.W.PrevPlace in
    let end : front ≡ [] = rw c.in-After.is at there in
    let outer = c.gap_at.ensures.shown (before p front back) shown (sym (ap last end)) in
    let found = ap (λ g. g.after) (some_same (sym c.in-Some.is ∙ outer)) in
    let one = some_same (sym c.in-Some-after.is ∙ found) in
    let inner = c.gap_at-in-After.ensures.shown (after p front back) (represented_after words front p back shown) (ap (λ q. Some q) one ∙ sym (last_of_push front p)) in
    absurd (none_not _ (sym c.in_default-gap_at.is ∙ inner))

pub returns-in-Some-gap_at-clause-shown : goal.returns-in-Some-gap_at-clause-shown
returns-in-Some-gap_at-clause-shown g c front back p shown there =
    let words = link_words g.W.Words g.W.NextWord g.W.PrevPlace in
    let end : front ≡ [] = rw c.in-After.is at there in
    let outer = c.gap_at.ensures.shown (before p front back) shown (sym (ap last end)) in
    let found = ap (λ g. g.after) (some_same (sym c.in-Some.is ∙ outer)) in
    let one = some_same (sym c.in-Some-after.is ∙ found) in
    let inner = c.gap_at-in-After.ensures.shown (after p front back) (represented_after words front p back shown) (ap (λ q. Some q) one ∙ sym (last_of_push front p)) in
    let next = ap (λ g. g.after) (some_same (sym c.in-Some-gap_at.is ∙ inner)) in
    λ k. Some (one k, record { before = sym (ap last end) k; after = next k })

pub returns-in-Some-gap_at-clause-end : goal.returns-in-Some-gap_at-clause-end
returns-in-Some-gap_at-clause-end g c p gap is =
    let one = ap (λ m. m.0) (some_same is) in
    let outer = ap (λ g. g.after) (c.gap_at.ensures.sides _ c.in-Some.is) in
    rw c.in-After.is (sym outer ∙ c.in-Some-after.is ∙ ap (λ q. Some q) one)

pub returns-in_default-gap_at-2-clause-shown : goal.returns-in_default-gap_at-2-clause-shown
returns-in_default-gap_at-2-clause-shown g c front back p shown there =
    let words = link_words g.W.Words g.W.NextWord g.W.PrevPlace in
    let end : back ≡ [] = rw c.in-Before.is at there in
    let outer = c.gap_at-in-Before.ensures.shown (after p front back) (represented_after words front p back shown) (sym (ap first end)) in
    absurd (none_not _ (sym c.in_default-gap_at-2.is ∙ outer))

pub returns-in_default-before-clause-shown : goal.returns-in_default-before-clause-shown
returns-in_default-before-clause-shown g c front back p shown there =
    let words = link_words g.W.Words g.W.NextWord g.W.PrevPlace in
    let end : back ≡ [] = rw c.in-Before.is at there in
    let outer = c.gap_at-in-Before.ensures.shown (after p front back) (represented_after words front p back shown) (sym (ap first end)) in
    let found = ap (λ g. g.before) (some_same (sym c.in-Some-gap_at-2.is ∙ outer)) ∙ last_of_push front p in
    absurd (none_not _ (sym c.in_default-before.is ∙ found))

pub returns-in_default-gap_at-3-clause-shown : goal.returns-in_default-gap_at-3-clause-shown
returns-in_default-gap_at-3-clause-shown g c front back p shown there =
    let words = link_words g.W.Words g.W.NextWord g.W.PrevPlace in
    let end : back ≡ [] = rw c.in-Before.is at there in
    let outer = c.gap_at-in-Before.ensures.shown (after p front back) (represented_after words front p back shown) (sym (ap first end)) in
    let found = ap (λ g. g.before) (some_same (sym c.in-Some-gap_at-2.is ∙ outer)) ∙ last_of_push front p in
    let one = some_same (sym c.in-Some-before.is ∙ found) in
    let inner = c.gap_at-in-Before-2.ensures.shown (before p front back) shown (ap (λ q. Some q) one) in
    absurd (none_not _ (sym c.in_default-gap_at-3.is ∙ inner))

pub returns-in-Some-gap_at-3-clause-shown : goal.returns-in-Some-gap_at-3-clause-shown
returns-in-Some-gap_at-3-clause-shown g c front back p shown there =
    let words = link_words g.W.Words g.W.NextWord g.W.PrevPlace in
    let end : back ≡ [] = rw c.in-Before.is at there in
    let outer = c.gap_at-in-Before.ensures.shown (after p front back) (represented_after words front p back shown) (sym (ap first end)) in
    let found = ap (λ g. g.before) (some_same (sym c.in-Some-gap_at-2.is ∙ outer)) ∙ last_of_push front p in
    let one = some_same (sym c.in-Some-before.is ∙ found) in
    let inner = c.gap_at-in-Before-2.ensures.shown (before p front back) shown (ap (λ q. Some q) one) in
    let prev = ap (λ g. g.before) (some_same (sym c.in-Some-gap_at-3.is ∙ inner)) in
    λ k. Some (one k, record { before = prev k; after = sym (ap first end) k })

pub returns-in-Some-gap_at-3-clause-end : goal.returns-in-Some-gap_at-3-clause-end
returns-in-Some-gap_at-3-clause-end g c p gap is =
    let one = ap (λ m. m.0) (some_same is) in
    let outer = ap (λ g. g.before) (c.gap_at-in-Before.ensures.sides _ c.in-Some-gap_at-2.is) in
    rw c.in-Before.is (sym outer ∙ c.in-Some-before.is ∙ ap (λ q. Some q) one)

-- no place is before the first member, and no place is after the last member
pub returns-in-Some-gap_at-clause-sides : goal.returns-in-Some-gap_at-clause-sides
returns-in-Some-gap_at-clause-sides g c p gap is =
    let words = link_words g.W.Words g.W.NextWord g.W.PrevPlace in
    let t = lent_table words c.args.links.now in
    let list = c.args.list.now in
    let first = sym (ap (λ g. g.after) (c.gap_at.ensures.sides _ c.in-Some.is)) ∙ c.in-Some-after.is in
    let prev = subst (λ at. prev_from words t list at ≡ None) first (c.gap_at.ensures.links_back _ c.in-Some.is).1 in
    let next = ap (λ g. g.after) (c.gap_at-in-After.ensures.sides _ c.in-Some-gap_at.is) in
    subst (λ q. gap ≡ around words t list (Some q)) (ap (λ m. m.0) (some_same is)) (sym (ap (λ m. m.1) (some_same is)) ∙ sides_are (sym prev) next)

pub returns-in-Some-gap_at-3-clause-sides : goal.returns-in-Some-gap_at-3-clause-sides
returns-in-Some-gap_at-3-clause-sides g c p gap is =
    let words = link_words g.W.Words g.W.NextWord g.W.PrevPlace in
    let t = lent_table words c.args.links.now in
    let list = c.args.list.now in
    let last = sym (ap (λ g. g.before) (c.gap_at-in-Before.ensures.sides _ c.in-Some-gap_at-2.is)) ∙ c.in-Some-before.is in
    let next = subst (λ at. next_from words t list at ≡ None) last (c.gap_at-in-Before.ensures.links_back _ c.in-Some-gap_at-2.is).1 in
    let prev = ap (λ g. g.before) (c.gap_at-in-Before-2.ensures.sides _ c.in-Some-gap_at-3.is) in
    subst (λ q. gap ≡ around words t list (Some q)) (ap (λ m. m.0) (some_same is)) (sym (ap (λ m. m.1) (some_same is)) ∙ sides_are prev (sym next))
