use Rattle.std.proofs.Common.{◌≡◌, ◌<◌, ◌+◌, List, ◌∷◌, [], ◌∙◌, sym, ap, subst, refl, arith}
use Rattle.ic_unsafe_ref.specs.Places.{index_of}
use Rattle.ic_lock_free_stack.specs.Prelude.{first, account_of, HasChain}
use Rattle.ic_lock_free_stack.specs.declared.stacks.Holder.{Holder}
use Rattle.ic_lock_free_stack.specs.declared.stacks.Chain.{Chain}
use Rattle.ic_lock_free_stack.proofs.RuleLemmas.{follows}
use Rattle.ic_lock_free_stack.proofs.HolderLemmas.{link_full, link_fits, chain_next, chain_rest, chain_found, known_link}
use Rattle.ic_lock_free_stack.proofs.stacks.Stacks.next.Goals as goal

pub load-found-requires : goal.load-found-requires
load-found-requires g c =
    let stacks = c.args.self.now in
    let h = c.args.holder.now in
    let p = c.in_ok-place.place in
    let x = chain_next stacks h c.args.chain.now p c.requires.shown.0 c.requires.shown.1 c.in_ok-place.was in
    let keyed : index_of p < stacks.table.shared.key.places = subst (λ k. index_of p < k) (sym stacks.keyed_places) x.inside in (
      c.requires.made.table,
      omega (arith, c.index.ensures.value, x.inside, stacks.words),
      follows stacks.table.shared.key stacks.table.shared.table_id.slots h.seat.id (account_of h) h.seat.me c.requires.made.hand p keyed _ c.index.ensures.value (known_link _ _ _ p x),
    )

pub overflow_sub-found : goal.overflow_sub-found
overflow_sub-found g c =
    let stacks = c.args.self.now in
    let h = c.args.holder.now in
    let p = c.in_ok-place.place in
    let x = chain_next stacks h c.args.chain.now p c.requires.shown.0 c.requires.shown.1 c.in_ok-place.was in
    let answered = c.load-found.ensures.2 stacks.table.shared.key (account_of h) p c.requires.made.hand (sym c.index.ensures.value) (known_link _ _ _ p x) in
    link_full (first x.rest) c.load-found.result (answered.1 ∙ x.known)

pub from_word-chain-requires : goal.from_word-chain-requires
from_word-chain-requires g c =
    let stacks = c.args.self.now in
    let h = c.args.holder.now in
    let p = c.in_ok-place.place in
    let x = chain_next stacks h c.args.chain.now p c.requires.shown.0 c.requires.shown.1 c.in_ok-place.was in
    let answered = c.load-found.ensures.2 stacks.table.shared.key (account_of h) p c.requires.made.hand (sym c.index.ensures.value) (known_link _ _ _ p x) in
    link_fits (first x.rest) c.load-found.result (answered.1 ∙ x.known)

pub returns-clause-same : goal.returns-clause-same
returns-clause-same g c =
    let stacks = c.args.self.now in
    let h = c.args.holder.now in
    let p = c.in_ok-place.place in
    let x = chain_next stacks h c.args.chain.now p c.requires.shown.0 c.requires.shown.1 c.in_ok-place.was in
    let answered = c.load-found.ensures.2 stacks.table.shared.key (account_of h) p c.requires.made.hand (sym c.index.ensures.value) (known_link _ _ _ p x) in
    λ i. record { seat = record { marker = h.seat.marker; table_id = c.load-found.ensures.0 i; id = c.load-found.ensures.1 i; me = answered.0 i } }

pub returns-clause-rest : goal.returns-clause-rest
returns-clause-rest g c s was =
    let stacks = c.args.self.now in
    let h = c.args.holder.now in
    let p = c.in_ok-place.place in
    let x = chain_next stacks h c.args.chain.now p c.requires.shown.0 c.requires.shown.1 c.in_ok-place.was in
    let answered = c.load-found.ensures.2 stacks.table.shared.key (account_of h) p c.requires.made.hand (sym c.index.ensures.value) (known_link _ _ _ p x) in
    let left : Chain = record { first = c.from_word-chain.result } in
    subst (λ (k : Holder). HasChain stacks k left (Rattle.std.proofs.Common.drop 1 s)) (sym (returns-clause-same g c))
    (chain_rest stacks h c.args.chain.now p s was c.in_ok-place.was c.load-found.result answered.1 left c.from_word-chain.ensures)

pub returns-clause-found : goal.returns-clause-found
returns-clause-found g c s was = chain_found c.args.self.now c.args.holder.now c.args.chain.now c.in_ok-place.place s was c.in_ok-place.was
