use Rattle.std.proofs.Common.{◌≡◌, ◌<◌, ◌+◌, false, Some, List, ◌∙◌, refl, sym, ap, subst, arith}
use Rattle.ic_unsafe_ref.specs.declared.place.Place.{Place}
use Rattle.ic_unsafe_ref.specs.Places.{index_of}
use Rattle.ic_lock_free_stack.specs.declared.stacks.Holder.{Holder}
use Rattle.ic_lock_free_stack.specs.declared.stacks.Chain.{Chain}
use Rattle.ic_lock_free_stack.specs.Prelude.{is_in, account_of}
use Rattle.ic_lock_free_stack.proofs.RuleLemmas.{links}
use Rattle.ic_lock_free_stack.proofs.HolderLemmas.{linked_of, linked_stays, linked_keeps, linked_has, one_sequence}
use Rattle.ic_lock_free_stack.proofs.stacks.Stacks.link.Goals as goal

pub store-requires : goal.store-requires
store-requires g c =
    let stacks = c.args.self.now in
    let h = c.args.holder.now in
    let keyed : index_of c.args.place < stacks.table.shared.key.places = subst (λ k. index_of c.args.place < k) (sym stacks.keyed_places) c.requires.place in (
      c.requires.made.table,
      omega (arith, c.index.ensures.value, c.requires.place, stacks.words),
      links stacks.table.shared.key stacks.table.shared.table_id.slots h.seat.id (account_of h) h.seat.me c.requires.made.hand c.args.place keyed _ c.index.ensures.value _ c.requires.held
          (λ e. absurd (omega (arith, e))),
    )

pub returns : goal.returns
returns g c =
    let stacks = c.args.self.now in
    let old = c.args.holder.now in
    let new : Holder = record { seat = c.store.new.seat } in
    let longer : Chain = record { first = Some c.args.place } in
    let answered = c.store.ensures.2 stacks.table.shared.key (account_of old) c.args.place c.requires.made.hand (sym c.index.ensures.value) in
    let table = c.store.ensures.0 ∙ c.requires.made.table in
    record {
      made = linked_of stacks old new c.args.place _ table answered;
      stays = linked_stays stacks old new c.args.place _ table answered;
      linked = λ s was. linked_has stacks old new c.args.place _ table answered c.args.chain.now longer s was
          (subst (λ (t : List Place). is_in c.args.place t ≡ false) (one_sequence stacks old c.args.chain.now c.requires.shown.0 s c.requires.shown.1 was) c.requires.shown.2)
          c.requires.place c.requires.held (ap (λ k. k + 1) c.to_word-next.ensures.value) refl;
      chains = linked_keeps stacks old new c.args.place _ table answered;
    }
