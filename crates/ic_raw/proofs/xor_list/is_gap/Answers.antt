use Rattle.ic_raw.proofs.Xor.{gap_told}
use Rattle.ic_raw.proofs.xor_list.is_gap.Goals as goal

pub returns-then-faces-clause-shown : goal.returns-then-faces-clause-shown
returns-then-faces-clause-shown c cut shown after following =
    c.faces-then-faces.ensures.links_back.1 (rw c.last.ensures (gap_told cut.front cut.back shown after following).1)

pub returns-else-faces-clause-shown : goal.returns-else-faces-clause-shown
returns-else-faces-clause-shown c cut shown after following =
    c.faces.ensures.links_back.1 (rw c.first.ensures (gap_told cut.front cut.back shown after following).0)
