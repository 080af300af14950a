use Rattle.std.proofs.Common.{◌≡◌, ◌+◌, ◌*◌, [], ℕ, All, sym, ap, ◌∙◌, subst, arith, length, vec_len, refl}
use Rattle.std.proofs.lemmas.List.Elements.{All-rest, All-head}
use Rattle.std.specs.Vec.Iter.{into_iter_items, into_iter_len}
use Rattle.ic_lock_free_stack.specs.Holders.{record_of, IsOf}
use Rattle.stack_uses.specs.Delivery.{AreReady}
use Rattle.stack_uses.proofs.DeliveryLemmas.{ready_more}
use Rattle.stack_uses.proofs.delivery.senders.Goals as goal

pub loop-holder-preserved : goal.loop-holder-preserved
loop-holder-preserved g c =
    let stacks = c.args.stacks.now in
    let was = c.loop-holder.invariant in
    let step = c.in-Some.ensures.steps in
    let one = All-head (λ h. IsOf stacks h × (record_of h ≡ [])) c.in-Some.holder (into_iter_items c.next.new.self) (subst (All (λ h. IsOf stacks h × (record_of h ≡ []))) step.0 was.fresh) in
    let at : c.loop-holder.first ≡ 0 + length c.loop-holder.senders.items * c.args.count = (let f = was.first in let e = ap (λ n. n * c.args.count) c.loop-holder.senders.ok.0 in omega (arith, f, e)) in
    let left : into_iter_len c.loop-holder.holder-iterator * c.args.count ≡ c.args.count + into_iter_len c.next.new.self * c.args.count = ap (λ n. n * c.args.count) (sym step.1) ∙ one_more (into_iter_len c.next.new.self) c.args.count in
    let first : ℕ = c.loop-holder.first in
    record {
      ready = subst (AreReady stacks 0 c.args.count) (sym c.in_ok-push.ensures.items)
          (ready_more stacks 0 c.args.count c.loop-holder.senders.items _ was.ready record {
            stacks_are = refl;
            first_is = at;
            count_is = refl;
            made = one.0;
            fresh = one.1;
            some = c.requires.some;
            inside = (let r = was.room in omega (arith, r, left, at));
            small = c.requires.small;
          });
      fresh = All-rest (λ h. IsOf stacks h × (record_of h ≡ [])) c.in-Some.holder (into_iter_items c.next.new.self) (into_iter_items c.loop-holder.holder-iterator) step.0 was.fresh;
      len = omega (arith, was.len, step.1, c.in_ok-push.ensures.len);
      first = (let f = was.first in let m = one_more (vec_len c.loop-holder.senders) c.args.count in let e = ap (λ n. n * c.args.count) c.in_ok-push.ensures.len in omega (arith, f, m, e));
      room = (let r = was.room in omega (arith, r, left));
    }
  where
    one_more : (n m : ℕ) → (n + 1) * m ≡ m + n * m
    one_more n m = omega arith
