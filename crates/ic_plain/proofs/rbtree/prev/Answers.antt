use Rattle.std.proofs.Common.{◌∷◌, ◌∙◌}
use Rattle.ic_link_ops.proofs.Positions.{stands_on}
use Rattle.ic_plain.proofs.rbtree.prev.Goals as goal

pub prev_of-requires : goal.prev_of-requires
prev_of-requires g c = record { stands = stands_on c.requires.member c.of.ensures }

pub returns : goal.returns
returns g c = record {
  prev = λ front back shown. c.get.ensures ∙ c.prev_of.ensures.moved.leads (record { front = front; back = c.args.place ∷ back }) shown c.of.ensures;
}
