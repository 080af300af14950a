use Rattle.std.proofs.Common.{List, drop, sym, subst}
use Rattle.ic_unsafe_ref.specs.declared.place.Place.{Place}
use Rattle.ic_lock_free_stack.specs.declared.stacks.Holder.{Holder}
use Rattle.ic_lock_free_stack.specs.Prelude.{same, Stays, HasChain, KeepsChains}
use Rattle.ic_lock_free_stack.proofs.HolderLemmas.{apart_in}
use Rattle.ic_lock_free_stack.proofs.LeftLemmas.{left_fewer}
use Rattle.ic_lock_free_stack.proofs.TurnLemmas.{first_in, turns_first, turns_more, turned_round, turned_keeps}
use Rattle.ic_lock_free_stack.proofs.stacks.Stacks.reversed.Goals as goal

pub loop-place-init : goal.loop-place-init
loop-place-init g c = (c.requires.shown.0, turns_first c.args.self.now c.args.holder.now c.args.chain c.new-turned.result c.requires.shown.0 c.requires.made c.requires.shown.1 c.new-turned.ensures)

pub next-requires : goal.next-requires
next-requires g c = let t = c.loop-place.invariant.1 in record { made = t.made; shown = (t.rest, t.left_is) }

pub link-requires-clause-shown : goal.link-requires-clause-shown
link-requires-clause-shown g c =
    let t = c.loop-place.invariant.1 in (
      t.done,
      subst (λ (h : Holder). HasChain c.args.self.now h c.loop-place.turned t.done) (sym c.next.ensures.same) t.turned_is,
      t.apart c.in-Some.place (first_in t.rest c.in-Some.place (sym (c.in-Some.ensures.answer t.rest t.left_is))),
    )

pub loop-place-preserved : goal.loop-place-preserved
loop-place-preserved g c =
    let stacks = c.args.self.now in
    let t = c.loop-place.invariant.1 in
    let new : Holder = c.link.new.holder in
    let p : Place = c.in-Some.place in
    let is = c.next.ensures.same in (
      c.loop-place.invariant.0,
      turns_more stacks c.args.holder.now c.loop-place.holder new c.args.chain c.loop-place.chain c.loop-place.turned c.next.new.chain c.link.new.chain c.loop-place.invariant.0 p t
          (c.in-Some.ensures.answer t.rest t.left_is) (c.in-Some.ensures.found t.rest t.left_is).2 c.link.ensures.made (subst (λ (h : Holder). Stays h new) is c.link.ensures.stays)
          (subst (λ (h : Holder). HasChain stacks h c.next.new.chain (drop 1 t.rest)) is (c.next.ensures.rest t.rest t.left_is))
          (c.link.ensures.linked t.done (subst (λ (h : Holder). HasChain stacks h c.loop-place.turned t.done) (sym is) t.turned_is))
          (subst (λ (h : Holder). KeepsChains stacks h new (λ q. same q p)) is c.link.ensures.chains),
    )

pub loop-place-smaller : goal.loop-place-smaller
loop-place-smaller g c =
    let t = c.loop-place.invariant.1 in
    let p : Place = c.in-Some.place in
    let rest : List Place = drop 1 t.rest in
    let left = c.link.ensures.chains c.next.new.chain rest (c.next.ensures.rest t.rest t.left_is) (λ q e. apart_in rest p q (c.in-Some.ensures.found t.rest t.left_is).2 e) in
    left_fewer c.args.self.now c.loop-place.holder c.link.new.holder c.loop-place.chain c.next.new.chain t.rest p t.left_is (c.in-Some.ensures.answer t.rest t.left_is) left

pub returns-clause-reversed : goal.returns-clause-reversed
returns-clause-reversed g c s has =
    let stacks = c.args.self.now in
    let t = c.loop-place.invariant.1 in
    subst (λ (h : Holder). HasChain stacks h c.loop-place.turned (Rattle.std.proofs.Common.reverse s)) (sym c.next.ensures.same)
    (turned_round stacks c.args.holder.now c.loop-place.holder c.args.chain c.loop-place.chain c.loop-place.turned c.loop-place.invariant.0 t (c.in_default.ensures.answer t.rest t.left_is) s has)

pub returns-clause-chains : goal.returns-clause-chains
returns-clause-chains g c s has =
    let stacks = c.args.self.now in
    subst (λ (h : Holder). KeepsChains stacks c.args.holder.now h (λ p. Rattle.ic_lock_free_stack.specs.Moments.is_in p s)) (sym c.next.ensures.same)
    (turned_keeps stacks c.args.holder.now c.loop-place.holder c.args.chain c.loop-place.chain c.loop-place.turned c.loop-place.invariant.0 c.loop-place.invariant.1 s has)
