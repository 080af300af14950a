use Rattle.std.proofs.Common.{◌≡◌, ◌++◌, [], ◌∷◌, All, sym, ap, ◌∙◌, subst, arith}
use Rattle.std.specs.List.{AllZip}
use Rattle.std.proofs.lemmas.List.Elements.{All-rest, All-head}
use Rattle.std.specs.Vec.Iter.{into_iter_items}
use Rattle.ic_workers.specs.Parties.{HasGathered, HasTaken}
use Rattle.ic_workers.specs.SharedOut.{places_in}
use Rattle.ic_workers.proofs.TakenPlaces.{taken_more, has_taken, places_more}
use Rattle.ic_workers.proofs.sharing.take_apart.Goals as goal

pub loop-gathered-preserved : goal.loop-gathered-preserved
loop-gathered-preserved g c =
    let was = c.loop-gathered.invariant in
    let step = c.in-Some.ensures.steps in
    let gathered = All-head (HasGathered c.args.claims.now) c.in-Some.gathered (into_iter_items c.next.new.self) (subst (All (HasGathered c.args.claims.now)) step.0 was.left) in
    let one : HasTaken c.args.claims.now c.in_ok-holder.holder c.in_ok-holder.places.items = has_taken c.args.claims.now c.in-Some.gathered gathered c.in_ok-holder.ensures.holder (c.in_ok-holder.ensures.places gathered.list gathered.shows) in
    let lists_are : places_in c.push-in-loop-gathered.new.self.items ≡ places_in c.loop-gathered.lists.items ++ c.in_ok-holder.places.items ∷ [] =
    ap places_in c.in_ok-push-2.ensures.items ∙ places_more c.loop-gathered.lists.items c.in_ok-holder.places in
    record {
      taken = subst (λ hs. AllZip (HasTaken c.args.claims.now) hs (places_in c.push-in-loop-gathered.new.self.items)) (sym c.in_ok-push.ensures.items)
          (subst (λ ls. AllZip (HasTaken c.args.claims.now) (c.loop-gathered.holders.items ++ c.in_ok-holder.holder ∷ []) ls) (sym lists_are)
          (taken_more c.args.claims.now c.loop-gathered.holders.items (places_in c.loop-gathered.lists.items) c.in_ok-holder.holder c.in_ok-holder.places.items was.taken one));
      left = All-rest (HasGathered c.args.claims.now) c.in-Some.gathered (into_iter_items c.next.new.self) (into_iter_items c.loop-gathered.gathered-iterator) step.0 was.left;
      count = omega (arith, was.count, step.1, c.in_ok-push-2.ensures.len);
    }
