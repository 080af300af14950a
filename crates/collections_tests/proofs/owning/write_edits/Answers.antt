use Rattle.std.proofs.Common.{arith}
use Rattle.ic_chain.proofs.Standing.{stands, chain_lists}
use Rattle.collections_tests.proofs.Edits.{covered_after, covered_before, parts_after, parts_before, where_after, where_before}
use Rattle.collections_tests.proofs.owning.write_edits.Goals as goal

pub replace_with-requires-clause-covered : goal.replace_with-requires-clause-covered
replace_with-requires-clause-covered g c =
    let at = c.front_owning-cursor.ensures.kept c.requires.shown in
    let after = covered_after g.met.L.LinkOps.refused_keeps (stands at) c.insert_after.result c.insert_after.ensures.inserted in
    let in_front = covered_before g.met.L.LinkOps.refused_keeps (stands c.move_next.ensures.kept) c.insert_before.result c.insert_before.ensures.inserted in
    rw (in_front, after, c.requires.covers, c.reference-3.ensures) (omega arith)

pub splice_before-requires-clause-given : goal.splice_before-requires-clause-given
splice_before-requires-clause-given g c =
    let kind = chain_lists g.met.K.ForwardLinks.leads g.met.K.ForwardLinks.between_linked in
    let a = parts_after kind (stands c.move_prev.ensures.kept) c.split_after-after.ensures.split in (a.rest, a.other_represented)

pub split_before-in_front-requires : goal.split_before-in_front-requires
split_before-in_front-requires g c =
    let kind = chain_lists g.met.K.ForwardLinks.leads g.met.K.ForwardLinks.between_linked in
    let a = parts_after kind (stands c.move_prev.ensures.kept) c.split_after-after.ensures.split in
    record { stands = where_before c.splice_before.ensures.spliced a c.splice_before.ensures.kept }

pub splice_after-requires-clause-given : goal.splice_after-requires-clause-given
splice_after-requires-clause-given g c =
    let kind = chain_lists g.met.K.ForwardLinks.leads g.met.K.ForwardLinks.between_linked in
    let a = parts_after kind (stands c.move_prev.ensures.kept) c.split_after-after.ensures.split in
    let b = parts_before kind (stands (where_before c.splice_before.ensures.spliced a c.splice_before.ensures.kept)) c.split_before-in_front.ensures.split in (b.rest, b.other_represented)

pub move_next-requires-2 : goal.move_next-requires-2
move_next-requires-2 g c =
    let kind = chain_lists g.met.K.ForwardLinks.leads g.met.K.ForwardLinks.between_linked in
    let a = parts_after kind (stands c.move_prev.ensures.kept) c.split_after-after.ensures.split in
    let b = parts_before kind (stands (where_before c.splice_before.ensures.spliced a c.splice_before.ensures.kept)) c.split_before-in_front.ensures.split in
    record { stands = where_after c.splice_after.ensures.spliced b c.splice_after.ensures.kept }
