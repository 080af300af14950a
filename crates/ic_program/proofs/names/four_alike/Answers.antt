use Rattle.std.proofs.Common.{arith}
use Rattle.ic_program.proofs.NameLemmas.{same_four}
use Rattle.ic_program.proofs.names.four_alike.Goals as goal

pub returns : goal.returns
returns c =
    same_four c.args.text.now c.args.name.now c.args.at c.four.result c.four-2.result (λ i. omega (arith, c.type_inv.text i)) (λ i. omega (arith, c.type_inv.name i))
    c.requires.0 c.requires.1 c.four.ensures c.four-2.ensures
