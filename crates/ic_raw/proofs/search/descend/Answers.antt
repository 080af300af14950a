use Rattle.std.proofs.Common.{◌≡◌, ◌+◌, [], refl, sym, ◌∙◌, subst, arith}
use Rattle.ic_link_ops.proofs.SequenceLemmas.{none_not}
use Rattle.ic_rbtree.proofs.Closed.{in_there}
use Rattle.ic_rbtree.proofs.Sending.{sent_over}
use Rattle.ic_raw.specs.Prelude.{against, seen_node}
use Rattle.ic_raw.specs.Tree.{lent_table}
use Rattle.ic_raw.proofs.Keys.{IsAt, at_next, at_end, comes_first, turned_nowhere}
use Rattle.ic_raw.proofs.Trees.{in_range, has}
use Rattle.ic_raw.proofs.search.descend.Goals as goal

pub loop-init : goal.loop-init
loop-init c =
    let t = lent_table c.args.links.now in
    let top = sym c.in-Some.is ∙ c.root.ensures in
    record {
      each = λ s h. comes_first t c.new-way.ensures top h;
      down = ([], sym top);
      turned = turned_nowhere _ c.new-way.ensures;
      here = has t (in_range c.args.links.now) c.in-Some.root (c.requires.root c.in-Some.root (sym top));
      inside = λ S h. (in_there S h.starts (sym top), rw c.new-way.ensures (tt, (tt, (tt, tt))));
    }

pub returns-in_default-named-clause-ends : goal.returns-in_default-named-clause-ends
returns-in_default-named-clause-ends c s h =
    let down = at_end c.loop.invariant c.look_at-first.ensures.passed (sym c.look_at-first.ensures.below ∙ (sym c.named.ensures ∙ c.in_default-named.is)) in
    (_, c.end.ensures, down.ends s h)

pub returns-in_default-named-clause-down : goal.returns-in_default-named-clause-down
returns-in_default-named-clause-down c some =
    let down = at_end c.loop.invariant c.look_at-first.ensures.passed (sym c.look_at-first.ensures.below ∙ (sym c.named.ensures ∙ c.in_default-named.is)) in
    down.down

pub returns-in_default-named-clause-in_closed_set : goal.returns-in_default-named-clause-in_closed_set
returns-in_default-named-clause-in_closed_set c S h =
    let down = at_end c.loop.invariant c.look_at-first.ensures.passed (sym c.look_at-first.ensures.below ∙ (sym c.named.ensures ∙ c.in_default-named.is)) in
    rw c.end.ensures (down.in_closed_set S h)

pub returns-in_default-named-2-clause-ends : goal.returns-in_default-named-2-clause-ends
returns-in_default-named-2-clause-ends c s h =
    let down = at_end (at_next c.loop.invariant c.look_at-first.ensures.passed (sym c.look_at-first.ensures.below ∙ (sym c.named.ensures ∙ c.in-Some-named.is))) c.look_at-next.ensures.passed (sym c.look_at-next.ensures.below ∙ (sym c.named-in-loop.ensures ∙ c.in_default-named-2.is)) in
    (_, c.end-in_default-named-2.ensures, down.ends s h)

pub returns-in_default-named-2-clause-down : goal.returns-in_default-named-2-clause-down
returns-in_default-named-2-clause-down c some =
    let down = at_end (at_next c.loop.invariant c.look_at-first.ensures.passed (sym c.look_at-first.ensures.below ∙ (sym c.named.ensures ∙ c.in-Some-named.is))) c.look_at-next.ensures.passed (sym c.look_at-next.ensures.below ∙ (sym c.named-in-loop.ensures ∙ c.in_default-named-2.is)) in
    down.down

pub returns-in_default-named-2-clause-in_closed_set : goal.returns-in_default-named-2-clause-in_closed_set
returns-in_default-named-2-clause-in_closed_set c S h =
    let down = at_end (at_next c.loop.invariant c.look_at-first.ensures.passed (sym c.look_at-first.ensures.below ∙ (sym c.named.ensures ∙ c.in-Some-named.is))) c.look_at-next.ensures.passed (sym c.look_at-next.ensures.below ∙ (sym c.named-in-loop.ensures ∙ c.in_default-named-2.is)) in
    rw c.end-in_default-named-2.ensures (down.in_closed_set S h)

pub returns-in_default-named-3-clause-ends : goal.returns-in_default-named-3-clause-ends
returns-in_default-named-3-clause-ends c s h =
    let down = at_end (at_next (at_next c.loop.invariant c.look_at-first.ensures.passed (sym c.look_at-first.ensures.below ∙ (sym c.named.ensures ∙ c.in-Some-named.is))) c.look_at-next.ensures.passed (sym c.look_at-next.ensures.below ∙ (sym c.named-in-loop.ensures ∙ c.in-Some-named-2.is))) c.look_at-last.ensures.passed (sym c.look_at-last.ensures.below ∙ (sym c.named-in-loop-2.ensures ∙ c.in_default-named-3.is)) in
    (_, c.end-in_default-named-3.ensures, down.ends s h)

pub returns-in_default-named-3-clause-down : goal.returns-in_default-named-3-clause-down
returns-in_default-named-3-clause-down c some =
    let down = at_end (at_next (at_next c.loop.invariant c.look_at-first.ensures.passed (sym c.look_at-first.ensures.below ∙ (sym c.named.ensures ∙ c.in-Some-named.is))) c.look_at-next.ensures.passed (sym c.look_at-next.ensures.below ∙ (sym c.named-in-loop.ensures ∙ c.in-Some-named-2.is))) c.look_at-last.ensures.passed (sym c.look_at-last.ensures.below ∙ (sym c.named-in-loop-2.ensures ∙ c.in_default-named-3.is)) in
    down.down

pub returns-in_default-named-3-clause-in_closed_set : goal.returns-in_default-named-3-clause-in_closed_set
returns-in_default-named-3-clause-in_closed_set c S h =
    let down = at_end (at_next (at_next c.loop.invariant c.look_at-first.ensures.passed (sym c.look_at-first.ensures.below ∙ (sym c.named.ensures ∙ c.in-Some-named.is))) c.look_at-next.ensures.passed (sym c.look_at-next.ensures.below ∙ (sym c.named-in-loop.ensures ∙ c.in-Some-named-2.is))) c.look_at-last.ensures.passed (sym c.look_at-last.ensures.below ∙ (sym c.named-in-loop-2.ensures ∙ c.in_default-named-3.is)) in
    rw c.end-in_default-named-3.ensures (down.in_closed_set S h)

pub loop-preserved : goal.loop-preserved
loop-preserved c =
    let n = c.loop.counter in
    let same : n + n + n + 1 + 1 + 1 ≡ n + 1 + (n + 1) + (n + 1) = omega (arith) in
    subst (λ looks. IsAt (lent_table c.args.links.now) c.args.tree.now.head (against c.args.key c.args.keys.now) c.args.equals c.look_at-last.new.way c.in-Some-named-3.below looks) same
    (at_next (at_next (at_next c.loop.invariant c.look_at-first.ensures.passed (sym c.look_at-first.ensures.below ∙ (sym c.named.ensures ∙ c.in-Some-named.is))) c.look_at-next.ensures.passed (sym c.look_at-next.ensures.below ∙ (sym c.named-in-loop.ensures ∙ c.in-Some-named-2.is))) c.look_at-last.ensures.passed (sym c.look_at-last.ensures.below ∙ (sym c.named-in-loop-2.ensures ∙ c.in-Some-named-3.is)))

pub returns-clause-ends : goal.returns-clause-ends
returns-clause-ends c s h =
    let x = c.loop.invariant.each s h in
    absurd (none_not c.loop.place (sym (sent_over seen_node x.sent h refl (omega (arith, c.loop-test.false, x.sent.counted)))))
