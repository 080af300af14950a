use Rattle.std.proofs.Common.{◌≡◌, ◌+◌, ◌-◌, ◌/◌, sym, subst, arith}
use Rattle.ic_hash_table.specs.Slots.{IsSplit}
use Rattle.ic_hash_table.proofs.SlotLemmas.{slots, halved, split_within, split_full}
use Rattle.ic_hash_table.proofs.slots.Slots.shrunk.Goals as goal
use Rattle.ic_hash_table.proofs.slots.Slots.shrunk.Goals.{then-self-half, else-self-half}

pub returns-clause-well_formed : goal.returns-clause-well_formed
returns-clause-well_formed c =
    let r = c.requires.well_formed in
    let h = halved c.args.self.mask r.mask.0 r.mask.1 (omega (arith, r.in_bounds, c.requires.more)) in
    elim c.if-self-half.branch [
      | then-self-half w ↦ rw w.mask-is (record { half = omega (arith, h.2, w.if-self-half.true); in_bounds = omega (arith, w.if-self-half.true); mask = (h.0, h.1) })
      | else-self-half w ↦ rw w.mask-is (record { half = omega (arith, r.half, h.2, w.if-self-half.false); in_bounds = omega (arith, r.in_bounds); mask = r.mask })
    ]

pub returns-clause-splits : goal.returns-clause-splits
returns-clause-splits c =
    let r = c.requires.well_formed in
    let used = c.args.self.used in
    let mask = c.args.self.mask in
    let h = halved mask r.mask.0 r.mask.1 (omega (arith, r.in_bounds, c.requires.more)) in
    elim c.if-self-half.branch [
      | then-self-half w ↦
          let last : mask / 2 + 1 + 1 ≡ used = omega (arith, w.if-self-half.true) in
          let less : mask / 2 + 1 ≡ used - 1 = omega (arith, w.if-self-half.true) in
          rw w.mask-is
          (subst (λ x. IsSplit (slots x (mask / 2)) (slots used mask)) less
          (subst (λ x. IsSplit (slots (mask / 2 + 1) (mask / 2)) (slots x mask)) last
          (subst (λ x. IsSplit (slots (mask / 2 + 1) (mask / 2)) (slots (mask / 2 + 1 + 1) x)) (sym h.2) (split_full (mask / 2) h.0 h.1))))
      | else-self-half w ↦
          let last : used - 1 + 1 ≡ used = omega (arith, c.requires.more) in
          rw w.mask-is (subst (λ x. IsSplit (slots (used - 1) mask) (slots x mask)) last (split_within (used - 1) mask (omega (arith, r.half, h.2, w.if-self-half.false))))
    ]
