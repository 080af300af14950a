use Rattle.std.proofs.Common.{◌<◌, ◌+◌, ◌∙◌, sym, ap, subst, refl, arith}
use Rattle.ic_unsafe_ref.specs.Places.{index_of}
use Rattle.ic_lock_free_stack.specs.Prelude.{first, account_of, record_of}
use Rattle.ic_lock_free_stack.specs.declared.stacks.Holder.{Holder}
use Rattle.ic_lock_free_stack.specs.declared.stacks.Chain.{Chain}
use Rattle.ic_lock_free_stack.proofs.RuleLemmas.{takes}
use Rattle.ic_lock_free_stack.proofs.RecordLemmas.{take_holds}
use Rattle.ic_lock_free_stack.proofs.HolderLemmas.{link_full, link_fits, link_names, made_is_of, stepped, take_keeps, take_has}
use Rattle.ic_lock_free_stack.proofs.stacks.Stacks.take_all.Goals as goal

pub overflow_add-self : goal.overflow_add-self
overflow_add-self g c = omega (arith, c.args.self.now.fits, c.args.self.now.words, c.requires.stack)

pub swap-found-requires : goal.swap-found-requires
swap-found-requires g c =
    let stacks = c.args.self.now in
    let small : c.args.stack < stacks.table.shared.key.stacks = subst (λ k. c.args.stack < k) (sym stacks.keyed_stacks) c.requires.stack in (
      c.requires.made.table,
      omega (arith, c.requires.stack, stacks.words),
      takes stacks.table.shared.key stacks.table.shared.table_id.slots c.args.holder.now.seat.id (account_of c.args.holder.now) c.args.holder.now.seat.me c.requires.made.hand c.args.stack small _ (ap (λ p. p + c.args.stack) (sym stacks.keyed_places)) c.requires.room,
    )

pub overflow_sub-found : goal.overflow_sub-found
overflow_sub-found g c =
    let stacks = c.args.self.now in
    let answered = c.swap-found.ensures.2 stacks.table.shared.key (account_of c.args.holder.now) c.args.stack c.requires.made.hand (ap (λ p. p + c.args.stack) stacks.keyed_places) in
    link_full (first answered.members) c.swap-found.result answered.first_is

pub from_word-requires : goal.from_word-requires
from_word-requires g c =
    let stacks = c.args.self.now in
    let answered = c.swap-found.ensures.2 stacks.table.shared.key (account_of c.args.holder.now) c.args.stack c.requires.made.hand (ap (λ p. p + c.args.stack) stacks.keyed_places) in
    link_fits (first answered.members) c.swap-found.result answered.first_is

pub returns : goal.returns
returns g c =
    let stacks = c.args.self.now in
    let old = c.args.holder.now in
    let new : Holder = record { seat = c.swap-found.new.seat } in
    let chain : Chain = record { first = c.from_word.result } in
    let answered = c.swap-found.ensures.2 stacks.table.shared.key (account_of old) c.args.stack c.requires.made.hand (ap (λ p. p + c.args.stack) stacks.keyed_places) in
    let table = c.swap-found.ensures.0 ∙ c.requires.made.table in
    let is = stepped stacks old new (account_of old) _ _ table answered.made refl refl refl in
    let starts = c.from_word.ensures ∙ link_names (first answered.members) c.swap-found.result answered.first_is in
    record {
      made = made_is_of stacks old new (account_of old) _ _ table answered.made;
      took = (
        answered.members,
        answered.once,
        is.step,
        take_holds (record_of old) (record_of new) c.args.stack answered.members is.step.gained answered.free,
        take_has stacks old new c.args.stack answered.members answered.free is chain answered.once starts (λ p member. subst (λ k. index_of p < k) stacks.keyed_places (answered.inside p member)),
      );
      chains = take_keeps stacks old new c.args.stack answered.members answered.free is;
    }
