use Rattle.ic_raw.proofs.Xor.{ends_told}
use Rattle.ic_raw.proofs.xor_list.has_ends.Goals as goal

pub returns-then-faces-clause-shown : goal.returns-then-faces-clause-shown
returns-then-faces-clause-shown c s shown =
    c.faces-then-faces.ensures.links_back.1 (rw (c.first-first.ensures, c.last-last.ensures) (ends_told shown).1)

pub returns-else-faces-clause-shown : goal.returns-else-faces-clause-shown
returns-else-faces-clause-shown c s shown =
    c.faces.ensures.links_back.1 (rw (c.first-first.ensures, c.last-last.ensures) (ends_told shown).0)
