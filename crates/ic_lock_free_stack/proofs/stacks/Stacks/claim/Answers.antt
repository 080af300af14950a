use Rattle.std.proofs.Common.{◌<◌, ◌==◌, eqb-true, ◌∙◌, sym, subst, refl, arith}
use Rattle.ic_unsafe_ref.specs.Places.{index_of}
use Rattle.ic_lock_free_stack.specs.declared.stacks.Holder.{Holder}
use Rattle.ic_lock_free_stack.specs.Holders.{account_of, record_of}
use Rattle.ic_lock_free_stack.proofs.RuleLemmas.{claims}
use Rattle.ic_lock_free_stack.proofs.RecordLemmas.{claim_by_zero}
use Rattle.ic_lock_free_stack.proofs.HolderLemmas.{made_is_of, stepped, claim_keeps}
use Rattle.ic_lock_free_stack.proofs.stacks.Stacks.claim.Goals as goal

pub compare_exchange-found-requires : goal.compare_exchange-found-requires
compare_exchange-found-requires g c =
    let stacks = c.args.self.now in
    let inside : index_of c.args.place < stacks.table.shared.table_id.words = omega (arith, c.requires.place, stacks.words) in
    let keyed : index_of c.args.place < stacks.table.shared.key.places = subst (λ k. index_of c.args.place < k) (sym stacks.keyed_places) c.requires.place in (
      c.requires.made.table,
      omega (arith, c.index.ensures.value, inside),
      claims stacks.table.shared.key stacks.table.shared.table_id.slots c.args.holder.now.seat.id (account_of c.args.holder.now) c.args.holder.now.seat.me c.requires.made.hand c.args.place keyed _ c.index.ensures.value,
    )

pub returns : goal.returns
returns g c =
    let stacks = c.args.self.now in
    let old = c.args.holder.now in
    let new : Holder = record { seat = c.compare_exchange-found.new.seat } in
    let answered = c.compare_exchange-found.ensures.2 stacks.table.shared.key (account_of old) c.args.place c.requires.made.hand (sym c.index.ensures.value) in
    let table = c.compare_exchange-found.ensures.0 ∙ c.requires.made.table in
    let is = stepped stacks old new (account_of old) _ _ table answered.0 refl refl refl in
    let holds = claim_by_zero c.args.place (c.compare_exchange-found.result == 0) (record_of old) (record_of new) is.step.gained (λ e. answered.1 (eqb-true c.compare_exchange-found.result 0 e)) in
    record {
      made = made_is_of stacks old new (account_of old) _ _ table answered.0;
      step = is.step;
      claimed = holds.0;
      refused = holds.1;
      chains = claim_keeps stacks old new c.args.place _ is;
    }
