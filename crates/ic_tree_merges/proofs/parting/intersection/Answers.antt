use Rattle.std.proofs.Common.{rules}
use Rattle.ic_tree_merges.proofs.parting.intersection.Goals as goal

pub part-common-requires : goal.part-common-requires
part-common-requires g c = record { two = rw c.take-whole.ensures.whole c.requires.two }

pub returns : goal.returns
returns g c = record {
  parted = λ s u shown other apart. c.part-common.ensures.parted s u (rw c.take-whole.ensures.whole shown) other apart;
  lowest = search rules;
  few = λ s u shown other apart. c.part-common.ensures.few s u (rw c.take-whole.ensures.whole shown) other apart;
  same = search rules;
  keeps_links = search rules;
  adapter = search rules;
  rest_adapter = search rules;
}
