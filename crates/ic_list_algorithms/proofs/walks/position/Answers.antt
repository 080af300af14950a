use Rattle.ic_list_algorithms.proofs.walks.position.Goals as goal

pub returns : goal.returns
returns g c = record {
  found = λ s holds shown computes. (_, rw c.in_ok-at.was at (c.find_first.ensures.found s holds shown computes));
  asked = λ s shown. (_, _, rw c.in_ok-at.was at (c.find_first.ensures.asked s shown));
}
