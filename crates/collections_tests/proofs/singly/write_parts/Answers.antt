use Rattle.ic_chain.proofs.Standing.{stands}
use Rattle.collections_tests.proofs.Edits.{where_after}
use Rattle.collections_tests.proofs.singly.write_parts.Goals as goal

pub splice_after-requires-clause-given : goal.splice_after-requires-clause-given
splice_after-requires-clause-given g c =
    let a = c.split_then_splice.ensures.apart _ _ _ (stands c.requires.stands) c.split_after-rest.ensures.split in (a.rest, a.other_represented)

pub move_next-requires : goal.move_next-requires
move_next-requires g c =
    let a = c.split_then_splice.ensures.apart _ _ _ (stands c.requires.stands) c.split_after-rest.ensures.split in
    record { stands = where_after c.splice_after.ensures.spliced a c.splice_after.ensures.kept }
