use Rattle.std.proofs.Common.{◌+◌, ◌-◌, ◌∷◌, sym, ap, ◌∙◌, arith}
use Rattle.ic_raw.specs.Fills.{run_faults, first_fault}
use Rattle.ic_raw.specs.Prelude.{nameable_table, place_fault, place_of}
use Rattle.ic_raw.proofs.Runs.{number_small, faults_left, free_of}
use Rattle.ic_raw.proofs.fill.run_fault.Goals as goal

pub overflow_add-number : goal.overflow_add-number
overflow_add-number g c =
    let t = nameable_table g.W.Words.width g.W.Words.unlinked c.args.links.now in
    let is = c.place_fault-fault.ensures.fault ∙ ap (λ p. place_fault g.W.Words.is_linked t p) c.place_of.ensures in
    let one = free_of g.W.Words.is_linked t (place_of c.loop-left.number) (sym is ∙ c.if-fault-ne-OK.false) in
    omega (arith, number_small c.loop-left.number one.0 one.1 c.loop-left.invariant.small)

pub loop-left-preserved : goal.loop-left-preserved
loop-left-preserved g c =
    let t = nameable_table g.W.Words.width g.W.Words.unlinked c.args.links.now in
    let fault = place_fault g.W.Words.is_linked t in
    let number = c.loop-left.number in
    let is = c.place_fault-fault.ensures.fault ∙ ap (λ p. place_fault g.W.Words.is_linked t p) c.place_of.ensures in
    let none = sym is ∙ c.if-fault-ne-OK.false in
    let one = free_of g.W.Words.is_linked t (place_of number) none in
    let left = ap first_fault (faults_left fault number c.loop-left.left (omega (arith, c.loop-left-test.true))) in
    record {
      small = number_small number one.0 one.1 c.loop-left.invariant.small;
      same = c.loop-left.invariant.same ∙ left ∙ ap (λ m. first_fault (m ∷ run_faults fault (number + 1) (c.loop-left.left - 1))) none;
    }
