use Rattle.std.proofs.Common.{sym, ap, ◌∙◌}
use Rattle.ic_hash_table.specs.Prelude.{number, slot_of}
use Rattle.ic_check.proofs.HashTables.{nothing_own, own_exactly}
use Rattle.ic_check.proofs.hash_table.is_own.Goals as goal

pub returns-then-not-tells_placed : goal.returns-then-not-tells_placed
returns-then-not-tells_placed g c = (
  (λ never. absurd (cc)),
  λ own. absurd
      (nothing_own c.args.table.now.slots (number g.A.HashAdapter.key_of g.A.HashAdapter.hash_of c.args.table.now.adapter) (g.O.Values.values c.args.objects.now) c.args.at c.args.place
      (sym c.tells_placed.ensures ∙ c.if-not-tells_placed.true) own),
)

pub returns : goal.returns
returns g c =
    own_exactly c.args.table.now.slots (number g.A.HashAdapter.key_of g.A.HashAdapter.hash_of c.args.table.now.adapter) (g.O.Values.values c.args.objects.now) c.args.at c.args.place
    c.value.result.now c.slot.result c.value.ensures
    (c.slot.ensures.slot ∙ ap (λ s. slot_of s c.hash.result) c.slots.ensures
    ∙ ap (λ h. slot_of c.args.table.now.slots h)
    (c.hash.ensures ∙ ap (λ a. g.A.HashAdapter.hash_of a c.get_key-key.result.now) c.adapter-adapter.ensures
    ∙ ap (λ k. g.A.HashAdapter.hash_of c.args.table.now.adapter k) (c.get_key-key.ensures ∙ ap (λ a. g.A.HashAdapter.key_of a c.value.result.now) c.adapter-adapter.ensures)))
