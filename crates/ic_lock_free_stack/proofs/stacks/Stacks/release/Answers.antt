use Rattle.std.proofs.Common.{◌<◌, ◌∙◌, sym, subst, refl, arith}
use Rattle.ic_unsafe_ref.specs.Places.{index_of}
use Rattle.ic_lock_free_stack.specs.declared.stacks.Holder.{Holder}
use Rattle.ic_lock_free_stack.specs.Holders.{account_of, record_of}
use Rattle.ic_lock_free_stack.proofs.RuleLemmas.{releases}
use Rattle.ic_lock_free_stack.proofs.RecordLemmas.{release_holds}
use Rattle.ic_lock_free_stack.proofs.HolderLemmas.{made_is_of, stepped, release_keeps}
use Rattle.ic_lock_free_stack.proofs.stacks.Stacks.release.Goals as goal

pub store-requires : goal.store-requires
store-requires g c =
    let stacks = c.args.self.now in
    let inside : index_of c.args.place < stacks.table.shared.table_id.words = omega (arith, c.requires.place, stacks.words) in
    let keyed : index_of c.args.place < stacks.table.shared.key.places = subst (λ k. index_of c.args.place < k) (sym stacks.keyed_places) c.requires.place in (
      c.requires.made.table,
      omega (arith, c.index.ensures.value, inside),
      releases stacks.table.shared.key stacks.table.shared.table_id.slots c.args.holder.now.seat.id (account_of c.args.holder.now) c.args.holder.now.seat.me c.requires.made.hand c.args.place keyed _ c.index.ensures.value c.requires.held,
    )

pub returns : goal.returns
returns g c =
    let stacks = c.args.self.now in
    let old = c.args.holder.now in
    let new : Holder = record { seat = c.store.new.seat } in
    let answered = c.store.ensures.2 stacks.table.shared.key (account_of old) c.args.place c.requires.made.hand (sym c.index.ensures.value) in
    let table = c.store.ensures.0 ∙ c.requires.made.table in
    let is = stepped stacks old new (account_of old) _ _ table answered refl refl refl in
    record {
      made = made_is_of stacks old new (account_of old) _ _ table answered;
      step = is.step;
      released = release_holds (record_of old) (record_of new) c.args.place is.step.gained c.requires.held;
      chains = release_keeps stacks old new c.args.place is;
    }
