use Rattle.std.proofs.Common.{arith}
use Rattle.ic_program.proofs.NameLemmas.{same_eight}
use Rattle.ic_program.proofs.names.eight_alike.Goals as goal

pub returns : goal.returns
returns c =
    same_eight c.args.text.now c.args.name.now c.args.at c.eight.result c.eight-2.result (λ i. omega (arith, c.type_inv.text i)) (λ i. omega (arith, c.type_inv.name i))
    c.requires.0 c.requires.1 c.eight.ensures c.eight-2.ensures
