use Rattle.std.proofs.Common.{◌≡◌, ◌+◌, ℕ, suc, cond, ◌++◌, [], ◌∷◌, take, sym, ap, ◌∙◌, subst, arith}
use Rattle.std.proofs.Math.Seq.{take-suc}
use Rattle.ic_workers.specs.SharedOut.{has, Rises, places_in}
use Rattle.ic_workers.specs.Doubles.{times}
use Rattle.ic_workers.proofs.TakenPlaces.{places_more}
use Rattle.ic_workers.proofs.Searching.{times_more, rises_at}
use Rattle.ic_workers.proofs.doubled.lists_with.Given as given
use Rattle.ic_workers.proofs.doubled.lists_with.Goals as goal
use Rattle.ic_workers.proofs.doubled.lists_with.Goals.{then-stands_in, else-stands_in}

pub stands_in-requires : goal.stands_in-requires
stands_in-requires g c =
    let r = c.requires in
    (r.0, rw c.deref.ensures.value (subst (λ list. Rises 0 r.0 list.items) (sym c.list-item.is) (rises_at r.0 c.args.lists.now r.1 c.loop-list.list-index c.list-item.result c.loop-list-test.true)))

-- the number of lists that contain the index, up to and including the list of this turn
module _ (g : given.Over) (c : goal.Joined-stands_in g) where
  one_more : times (places_in (take (c.loop-list.list-index + 1) c.args.lists.now)) c.args.index ≡ c.loop-list.count + cond c.stands_in.result 1 0
  one_more =
      let i : ℕ = c.loop-list.list-index in
      let before = take i c.args.lists.now in
      let up : i + 1 ≡ suc i = omega arith in
      let cut : take (i + 1) c.args.lists.now ≡ before ++ c.list-item.result ∷ [] =
      ap (λ (k : ℕ). take k c.args.lists.now) up ∙ (take-suc c.args.lists.now i c.list-item.result c.loop-list-test.true ∙ ap (λ list. before ++ list ∷ []) (sym c.list-item.is)) in
      let reported : has c.list-item.result.items c.args.index ≡ c.stands_in.result = ap (λ s. has s c.args.index) (sym c.deref.ensures.value) ∙ sym c.stands_in.ensures in
      ap (λ lists. times (places_in lists) c.args.index) cut
      ∙ (ap (λ lists. times lists c.args.index) (places_more before c.list-item.result)
      ∙ (times_more (places_in before) c.list-item.result.items c.args.index
      ∙ (ap (λ (k : ℕ). k + cond (has c.list-item.result.items c.args.index) 1 0) (sym c.loop-list.invariant.counted)
      ∙ ap (λ b. c.loop-list.count + cond b 1 0) reported)))

pub loop-list-preserved : goal.loop-list-preserved
loop-list-preserved g c =
    let few = c.loop-list.invariant.few in
    elim c.if-stands_in.branch [
      | then-stands_in w ↦ record { counted = w.count-is ∙ sym (one_more g c ∙ ap (λ b. c.loop-list.count + cond b 1 0) w.if-stands_in.true); few = omega (arith, few, w.count-is) }
      | else-stands_in w ↦
          let same : c.loop-list.count + 0 ≡ c.loop-list.count = omega arith in
          record { counted = w.count-is ∙ sym (one_more g c ∙ (ap (λ b. c.loop-list.count + cond b 1 0) w.if-stands_in.false ∙ same)); few = omega (arith, few, w.count-is) }
    ]
