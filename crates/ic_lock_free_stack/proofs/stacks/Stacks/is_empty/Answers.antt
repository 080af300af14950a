use Rattle.std.proofs.Common.{◌<◌, ◌+◌, ◌∙◌, sym, ap, subst, arith}
use Rattle.ic_lock_free_stack.specs.declared.stacks.Holder.{Holder}
use Rattle.ic_lock_free_stack.specs.Holders.{account_of}
use Rattle.ic_lock_free_stack.proofs.RuleLemmas.{peeks}
use Rattle.ic_lock_free_stack.proofs.HolderLemmas.{sees_of, sees_looks, sees_keeps, tells_empty}
use Rattle.ic_lock_free_stack.proofs.stacks.Stacks.is_empty.Goals as goal

pub overflow_add-self : goal.overflow_add-self
overflow_add-self g c = omega (arith, c.args.self.now.fits, c.args.self.now.words, c.requires.stack)

pub load-requires : goal.load-requires
load-requires g c =
    let stacks = c.args.self.now in
    let small : c.args.stack < stacks.table.shared.key.stacks = subst (λ k. c.args.stack < k) (sym stacks.keyed_stacks) c.requires.stack in (
      c.requires.made.table,
      omega (arith, c.requires.stack, stacks.words),
      peeks stacks.table.shared.key stacks.table.shared.table_id.slots c.args.holder.now.seat.id (account_of c.args.holder.now) c.args.holder.now.seat.me c.requires.made.hand c.args.stack small _ (ap (λ p. p + c.args.stack) (sym stacks.keyed_places)),
    )

pub returns : goal.returns
returns g c =
    let stacks = c.args.self.now in
    let old = c.args.holder.now in
    let new : Holder = record { seat = c.load.new.seat } in
    let answered = c.load.ensures.2 stacks.table.shared.key (account_of old) c.args.stack c.requires.made.hand (ap (λ p. p + c.args.stack) stacks.keyed_places) in
    let table = c.load.ensures.0 ∙ c.requires.made.table in
    let tells = tells_empty stacks old new c.args.stack c.load.result table answered in
    record {
      made = sees_of stacks old new c.args.stack c.load.result table answered;
      looked = sees_looks stacks old new c.args.stack c.load.result table answered;
      empty = tells.0;
      some = tells.1;
      chains = sees_keeps stacks old new c.args.stack c.load.result table answered;
    }
