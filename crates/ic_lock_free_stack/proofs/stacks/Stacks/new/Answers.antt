use Rattle.std.proofs.Common.{◌≡◌, ◌<◌, ◌+◌, ◌-◌, suc, ◌∙◌, sym, ap, subst, arith, All}
use Rattle.std.proofs.lemmas.List.Elements.{All-push}
use Rattle.ic_lock_free_stack.specs.declared.held.Account.{Account}
use Rattle.ic_lock_free_stack.specs.declared.stacks.Holder.{Holder}
use Rattle.ic_lock_free_stack.specs.Prelude.{fresh, IsOf, IsNew}
use Rattle.ic_lock_free_stack.proofs.HolderLemmas.{account_is, is_of, dealt_rest, dealt_first, named_more}
use Rattle.ic_lock_free_stack.proofs.stacks.Stacks.new.Goals as goal

pub loop-preserved : goal.loop-preserved
loop-preserved g c =
    let was = c.loop.invariant in
    let made = c.in-Ok.made in
    let size = made.table.shared.key in
    let before : c.loop.counter < c.args.holders = c.loop-test.true in
    let one : c.args.holders - c.loop.counter ≡ suc (c.args.holders - (c.loop.counter + 1)) = omega (arith, before) in
    let new : Holder = record { seat = c.first_of.result } in
    let hand = c.first_of.ensures.first ∙ dealt_first size _ _ _ c.loop.dealer.me.0 was.left one in
    let is = account_is made new (fresh c.loop.counter) c.first_of.ensures.made.0 hand in
    record {
      count = omega (arith, c.push_reserved.ensures.len, was.count);
      room = omega (arith, c.push_reserved.ensures.capacity, was.room);
      dealer = c.first_of.ensures.seat;
      left = c.first_of.ensures.rest ∙ dealt_rest size _ _ _ c.loop.dealer.me.0 was.left one;
      fresh = subst (All (λ h. IsOf made h × IsNew h)) (sym c.push_reserved.ensures.items)
          (All-push (λ h. IsOf made h × IsNew h) _ _ was.fresh (is_of made new (fresh c.loop.counter) c.first_of.ensures.made.0 hand, (ap (λ (a : Account). a.steps) is, ap (λ (a : Account). a.seen) is)));
      named = named_more c.loop.all.items _ new c.loop.counter was.named c.push_reserved.ensures.items is;
    }
