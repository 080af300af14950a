use Rattle.std.proofs.Common.{◌≡◌, ◌<◌, ◌+◌, ◌-◌, suc, [], ◌∙◌, sym, subst, arith, All}
use Rattle.std.proofs.lemmas.List.Elements.{All-push}
use Rattle.ic_atomic.specs.Holders.{record_of, IsOf}
use Rattle.ic_atomic.proofs.HolderLemmas.{is_of, dealt_rest, dealt_first}
use Rattle.ic_atomic.proofs.claims.Claims.new.Goals as goal

pub loop-preserved : goal.loop-preserved
loop-preserved g c =
    let was = c.loop.invariant in
    let claims = c.in-Ok.claims in
    let size = claims.table.shared.key in
    let before : c.loop.counter < c.args.holders = c.loop-test.true in
    let one : c.args.holders - c.loop.counter ≡ suc (c.args.holders - (c.loop.counter + 1)) = omega (arith, before) in
    record {
      count = omega (arith, c.push_reserved.ensures.len, was.count);
      room = omega (arith, c.push_reserved.ensures.capacity, was.room);
      dealer = c.first_of.ensures.seat;
      left = c.first_of.ensures.rest ∙ dealt_rest size _ _ c.loop.dealer.me.0 was.left one;
      fresh = subst (All (λ h. IsOf claims h × (record_of h ≡ []))) (sym c.push_reserved.ensures.items)
          (All-push (λ h. IsOf claims h × (record_of h ≡ [])) _ _ was.fresh (is_of claims _ [] c.first_of.ensures.made.0 (c.first_of.ensures.first ∙ dealt_first size _ _ c.loop.dealer.me.0 was.left one)));
    }
