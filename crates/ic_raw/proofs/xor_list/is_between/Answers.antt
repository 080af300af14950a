use Rattle.ic_raw.proofs.Xor.{member_told}
use Rattle.ic_raw.proofs.xor_list.is_between.Goals as goal

pub returns-then-faces-clause-shown : goal.returns-then-faces-clause-shown
returns-then-faces-clause-shown c front back shown before after =
    c.faces-then-faces.ensures.links_back.1 (rw c.last.ensures (member_told front c.args.member back shown before after).1)

pub returns-else-faces-clause-shown : goal.returns-else-faces-clause-shown
returns-else-faces-clause-shown c front back shown before after =
    c.faces.ensures.links_back.1 (rw c.first.ensures (member_told front c.args.member back shown before after).0)
