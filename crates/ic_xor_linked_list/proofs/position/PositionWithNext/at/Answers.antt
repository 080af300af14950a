use Rattle.std.proofs.Common.{ap}
use Rattle.ic_link_ops.specs.Words.{bits_of}
use Rattle.ic_link_ops.specs.XorLaws.{joins_finds_other}
use Rattle.ic_xor_linked_list.specs.Position.{position_on}
use Rattle.ic_xor_linked_list.proofs.position.PositionWithNext.at.Goals as goal

pub returns : goal.returns
returns c =
    rw c.of.ensures (ap (λ next. position_on c.args.current next) (joins_finds_other (bits_of c.between.result) c.args.current c.args.next c.between.ensures))
