use Rattle.std.proofs.Common.{sym, ◌∙◌}
use Rattle.ic_chain.proofs.Standing.{stands}
use Rattle.collections_tests.proofs.Members.{member_before}
use Rattle.collections_tests.proofs.neighbors.last.Goals as goal

pub returns : goal.returns
returns g c =
    let h = member_before (stands c.requires.stands) c.peek_next.ensures.moved (sym c.clone_pointer.ensures ∙ c.expect.ensures) in
    rw c.clone_pointer-after.ensures h
