use Rattle.std.proofs.Common.{◌≡◌, ◌+◌, ◌*◌, subst, arith}
use Rattle.ic_hash_table.specs.Slots.{IsSplit}
use Rattle.ic_hash_table.proofs.SlotLemmas.{slots, twice, split_within, split_full}
use Rattle.ic_hash_table.proofs.slots.Slots.grown.Goals as goal
use Rattle.ic_hash_table.proofs.slots.Slots.grown.Goals.{then-self, else-self}

pub returns-clause-well_formed : goal.returns-clause-well_formed
returns-clause-well_formed c =
    let r = c.requires.well_formed in
    elim c.if-self.branch [
      | then-self w ↦ rw w.mask-is (record { half = omega (arith, w.if-self.true); in_bounds = omega (arith, w.if-self.true, r.in_bounds); mask = (1 + r.mask.0, twice c.args.self.mask r.mask.0 r.mask.1) })
      | else-self w ↦ rw w.mask-is (record { half = omega (arith, r.half); in_bounds = omega (arith, w.if-self.false); mask = r.mask })
    ]

pub returns-clause-splits : goal.returns-clause-splits
returns-clause-splits c =
    let r = c.requires.well_formed in
    elim c.if-self.branch [
      | then-self w ↦
          let full : c.args.self.mask + 1 ≡ c.args.self.used = omega (arith, w.if-self.true, r.in_bounds) in
          rw w.mask-is (subst (λ u. IsSplit (slots u c.args.self.mask) (slots (u + 1) (2 * c.args.self.mask + 1))) full (split_full c.args.self.mask r.mask.0 r.mask.1))
      | else-self w ↦ rw w.mask-is (split_within c.args.self.used c.args.self.mask (omega (arith, r.half)))
    ]
