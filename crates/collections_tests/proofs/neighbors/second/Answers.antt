use Rattle.std.proofs.Common.{sym, ◌∙◌}
use Rattle.ic_chain.proofs.Standing.{stands}
use Rattle.collections_tests.proofs.Members.{member_after}
use Rattle.collections_tests.proofs.neighbors.second.Goals as goal

pub returns : goal.returns
returns g c =
    let h = member_after (stands c.requires.stands) c.move_next.ensures.moved (sym c.clone_pointer.ensures ∙ c.expect.ensures) in
    rw c.clone_pointer-first.ensures h
