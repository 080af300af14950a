use Rattle.std.proofs.Common.{◌≡◌, ◌+◌, ◌-◌, ◌≤◌, ℕ, sym, ap, ◌∙◌, subst, arith}
use Rattle.ic_lock_free_stack.specs.Prelude.{record_of, spent_by, pushes_and_takes}
use Rattle.stack_uses.specs.Delivery.{Sends, HasSent}
use Rattle.stack_uses.proofs.DeliveryLemmas.{sends_none, sends_more}
use Rattle.stack_uses.proofs.delivery.send_each.Goals as goal
use Rattle.stack_uses.proofs.delivery.send_each.Goals.{in-Some, in_default}

pub loop-index-init : goal.loop-index-init
loop-index-init g c =
    let r = c.requires in
    let first : ℕ = c.args.sender.first in
    let none : 0 ≡ first - first = omega arith in
    record {
      sent = record { made = r.made; sends = subst (λ n. Sends first n (record_of c.args.sender.holder)) none (subst (Sends first 0) (sym r.fresh) (sends_none first)) };
      spent = let e = ap pushes_and_takes r.fresh in omega (arith, e);
      some = r.some;
      inside = r.inside;
      small = r.small;
    }

pub loop-index-preserved : goal.loop-index-preserved
loop-index-preserved g c =
    let was = c.loop-index.invariant in
    let first : ℕ = c.args.sender.first in
    let at : ℕ = c.loop-index.index in
    let low = c.loop-index.auto.index in
    let test = c.loop-index-test.true in
    elim c.match-new.branch [
      | in-Some w ↦ record {
        sent = subst (HasSent c.args.sender.stacks.now first (at + 1 - first)) (sym w.holder-is) record {
          made = w.send-is_sent.ensures.made;
          sends = subst (λ n. Sends first n (record_of w.send-is_sent.new.sender)) (next first at low)
              (subst (Sends first (at - first + 1)) (sym w.send-is_sent.ensures.steps)
              (sends_more first (at - first) (record_of c.loop-index.holder) w.in-Some.place w.send-is_sent.result was.sent.sends (w.in-Some.ensures.0 ∙ sum first at low)));
        };
        spent = (let s = ap spent_by w.holder-is in let e = w.send-is_sent.ensures.spent in let f = was.spent in omega (arith, s, e, f));
        some = was.some;
        inside = was.inside;
        small = was.small;
      }
      | in_default w ↦ absurd (let over = w.in_default.ensures in let i = was.inside in let s = was.small in omega (arith, over, i, s, test))
    ]
  where
    next : (first at : ℕ) → first ≤ at → at - first + 1 ≡ at + 1 - first
    next first at low = omega (arith, low)

    sum : (first at : ℕ) → first ≤ at → at ≡ first + (at - first)
    sum first at low = omega (arith, low)
