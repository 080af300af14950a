use Rattle.ic_any_collection.proofs.Common.{◌∙◌, table_in, at_before, stands_plainly, next_known, leads_after, to_own}
use Rattle.ic_link_ops.specs.Sequences.{join}
use Rattle.ic_any_collection.proofs.any_collection.AnyCollection.after.Goals as goal

pub next_of-requires : goal.next_of-requires
next_of-requires g c =
    let held = rw (c.in-Singly.is) at c.requires.held in let gap = rw (c.in-Singly.is) at c.requires.member in
    record { stands = stands_plainly (join gap.0) (rw gap.1 held.shown) (rw c.of-at.ensures (at_before gap.0 gap.2.1)) }

pub returns-in-Singly : goal.returns-in-Singly
returns-in-Singly g c gap cut after before =
    let held = rw (c.in-Singly.is) at c.requires.held in c.get.ensures ∙ leads_after c.next_of.ensures.moved c.of-at.ensures held.shown gap (rw (c.in-Singly.is) at cut) before

pub next_of-requires-in-Doubly : goal.next_of-requires-in-Doubly
next_of-requires-in-Doubly g c =
    let held = rw (c.in-Doubly.is, c.with_prev.ensures) at c.requires.held in let gap = rw (c.in-Doubly.is, c.with_prev.ensures) at c.requires.member in
    record { stands = stands_plainly (join gap.0) (rw gap.1 held.shown) (rw c.of-at.ensures (at_before gap.0 gap.2.1)) }

pub returns-in-Doubly : goal.returns-in-Doubly
returns-in-Doubly g c gap cut after before =
    let held = rw (c.in-Doubly.is, c.with_prev.ensures) at c.requires.held in
    c.get-in-Doubly.ensures ∙ leads_after c.next_of-in-Doubly.ensures.moved c.of-at.ensures held.shown gap (rw (c.in-Doubly.is, c.with_prev.ensures) at cut) before

pub next_of-requires-in-Tree : goal.next_of-requires-in-Tree
next_of-requires-in-Tree g c =
    let held = rw (c.in-Tree.is, c.tree.ensures) at c.requires.held in let gap = rw (c.in-Tree.is, c.tree.ensures) at c.requires.member in
    let at = at_before gap.0 gap.2.1 in record { stands = record { gap = at.0; shown = to_own (rw (at.1, gap.1) held.shown); after = rw c.of-at.ensures at.2 } }

pub returns-in-Tree : goal.returns-in-Tree
returns-in-Tree g c gap cut after before =
    let held = rw (c.in-Tree.is, c.tree.ensures) at c.requires.held in
    c.get-in-Tree.ensures ∙ leads_after c.next_of-in-Tree.ensures.moved c.of-at.ensures (to_own held.shown) gap (rw (c.in-Tree.is, c.tree.ensures) at cut) before

pub position_at-requires : goal.position_at-requires
position_at-requires g c =
    let held = rw c.in-Xor.is at c.requires.held in let gap = rw c.in-Xor.is at c.requires.member in
    record { shown = λ reads. (gap.0, rw gap.1 held.shown, gap.2.0, gap.2.1) }

pub returns-in-Xor : goal.returns-in-Xor
returns-in-Xor g c gap cut after before =
    let held = rw c.in-Xor.is at c.requires.held in let same = rw c.in-Xor.is at cut in
    next_known {table = table_in} {links = c.args.links.now} held.shown (c.position_at.ensures.kept gap (rw same held.shown) after before) c.position_at.ensures.on c.next.ensures gap same before
