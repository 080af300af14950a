use Rattle.std.proofs.Common.{◌≤◌, ◌+◌, List, [], ◌∷◌, refl, ap, arith}
use Rattle.ic_unsafe_ref.specs.declared.place.Place.{Place}
use Rattle.ic_lock_free_stack.specs.Records.{pushes_and_takes}
use Rattle.ic_lock_free_stack.proofs.HolderLemmas.{empty_chain}
use Rattle.stack_uses.proofs.ReceiverLemmas.{not_free}
use Rattle.lock_free_stack_tests.proofs.places.put_pair.Goals as goal

pub link-requires-then-both-clause-shown : goal.link-requires-then-both-clause-shown
link-requires-then-both-clause-shown c =
    let stacks = c.args.stacks.now in
    let s : List Place = c.args.back ∷ [] in
    let one = c.link.ensures.linked [] (empty_chain stacks c.claim.new.holder c.new-chain.result c.new-chain.ensures) in
    (s, c.claim-both.ensures.chains c.link.new.chain s one (λ q m. refl), not_free stacks c.link.new.holder c.link.new.chain s c.args.front one c.if-both.ensures.claimed.was)

pub push_all-requires-clause-shown : goal.push_all-requires-clause-shown
push_all-requires-clause-shown c =
    let s : List Place = c.args.back ∷ [] in
    let one = c.link.ensures.linked [] (empty_chain c.args.stacks.now c.claim.new.holder c.new-chain.result c.new-chain.ensures) in
    (c.args.front ∷ s, c.link-then-both.ensures.linked s (c.claim-both.ensures.chains c.link.new.chain s one (λ q m. refl)), refl)

pub returns-then-both-clause-spent : goal.returns-then-both-clause-spent
returns-then-both-clause-spent c =
    let s : List Place = c.args.back ∷ [] in
    let one = c.link.ensures.linked [] (empty_chain c.args.stacks.now c.claim.new.holder c.new-chain.result c.new-chain.ensures) in
    let both = c.link-then-both.ensures.linked s (c.claim-both.ensures.chains c.link.new.chain s one (λ q m. refl)) in
    let first = c.claim.ensures.step.spends in
    let linked = ap pushes_and_takes c.link.ensures.stays.record_is in
    let second = c.claim-both.ensures.step.spends in
    let linked_too = ap pushes_and_takes c.link-then-both.ensures.stays.record_is in
    let pushed = (c.push_all.ensures.step (c.args.front ∷ s) both).spends in
    omega (arith, first, linked, second, linked_too, pushed)
