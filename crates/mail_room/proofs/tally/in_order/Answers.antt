use Rattle.std.proofs.Common.{◌≡◌, ℕ, ◌+◌, [], ◌∷◌, ◌++◌, cond, take, sym, ap, ◌∙◌, subst, arith}
use Rattle.std.proofs.lemmas.List.{take_more}
use Rattle.ic_unsafe_ref.specs.declared.place.Place.{Place}
use Rattle.mail_room.proofs.TallyLemmas.{IsTally, tally_none, tally_more}
use Rattle.mail_room.proofs.tally.in_order.Goals.{then-is_next, else-is_next}
use Rattle.mail_room.proofs.tally.in_order.Goals as goal

pub loop-place-init : goal.loop-place-init
loop-place-init g c = record {
  tally = subst (λ ns. IsTally c.args.senders c.args.places ns 0 []) (sym (c.in_ok-numbers.ensures.items_if_clones_equal (λ y is. is))) (tally_none c.args.senders c.args.places);
  few = omega arith;
}

pub loop-place-preserved : goal.loop-place-preserved
loop-place-preserved g c =
    let p : Place = c.place-item.result in
    let i : ℕ = c.loop-place.place-index in
    let all : ℕ = c.loop-place.count in
    let told = c.is_next.ensures in
    let one_more : take (i + 1) c.args.came.now ≡ take i c.args.came.now ++ p ∷ [] =
    take_more c.args.came.now i p c.loop-place-test.true ∙ ap (λ q. take i c.args.came.now ++ q ∷ []) (sym c.place-item.is) in
    let count_is : c.if-is_next.count ≡ cond c.is_next.result (all + 1) all = elim c.if-is_next.branch [
      | then-is_next w ↦ w.count-is ∙ ap (λ b. cond b (all + 1) all) (sym w.if-is_next.true)
      | else-is_next w ↦ w.count-is ∙ ap (λ b. cond b (all + 1) all) (sym w.if-is_next.false)
    ] in
    record {
      tally = subst (IsTally c.args.senders c.args.places c.is_next.new.numbers.items c.if-is_next.count) (sym one_more)
          (tally_more c.args.senders c.args.places c.loop-place.numbers.items all (take i c.args.came.now) p c.loop-place.invariant.tally
          c.index.result (sym c.index.ensures.value) c.is_next.new.numbers.items c.is_next.result c.if-is_next.count
          told.next told.counted told.other told.same count_is);
      few = (let few = c.loop-place.invariant.few in elim c.if-is_next.branch [
        | then-is_next w ↦ (let e = w.count-is in omega (arith, e, few))
        | else-is_next w ↦ (let e = w.count-is in omega (arith, e, few))
      ]);
    }
