use Rattle.ic_any_collection.proofs.Common.{◌≡◌, ◌∙◌, Option, Some, List, refl, subst, Place, Cut, join, IsBefore, table_in, IsAt, at_before, known}
use Rattle.ic_any_collection.proofs.any_collection.AnyCollection.stand_on.Goals as goal

-- a cursor on the member p is at a position of the sequence s, if p is the member after a gap of s
on_member : {s : List Place} {position : Option Place} {p : Place} (gap : Cut) → join gap ≡ s → IsBefore gap (Some p) → position ≡ Some p → IsAt s position
on_member {position = position} gap same before is = subst (λ s. IsAt s position) same (at_before gap (is ∙ before))

pub returns-in-Singly : goal.returns-in-Singly
returns-in-Singly g c =
    let held = rw c.in-Singly.is at c.requires.held in let gap = rw c.in-Singly.is at c.requires.member in let is = c.of-there.ensures in
    rw c.in-Singly.is (record { kept = record { carried = held.carried; shown = held.shown; stands = on_member gap.0 gap.1 gap.2.0 is }; alike = refl; cursor_is = is })

pub returns-in-Doubly : goal.returns-in-Doubly
returns-in-Doubly g c =
    let held = rw c.in-Doubly.is at c.requires.held in let gap = rw c.in-Doubly.is at c.requires.member in let is = c.of-there.ensures in
    rw c.in-Doubly.is (record { kept = record { carried = held.carried; shown = held.shown; stands = on_member gap.0 gap.1 gap.2.0 is }; alike = refl; cursor_is = is })

pub returns-in-Tree : goal.returns-in-Tree
returns-in-Tree g c =
    let held = rw c.in-Tree.is at c.requires.held in let gap = rw c.in-Tree.is at c.requires.member in let is = c.of-there.ensures in
    rw c.in-Tree.is (record { kept = record { carried = held.carried; shown = held.shown; stands = on_member gap.0 gap.1 gap.2.0 is }; alike = refl; cursor_is = is })

pub position_at-requires : goal.position_at-requires
position_at-requires g c =
    let held = rw c.in-Xor.is at c.requires.held in let gap = rw c.in-Xor.is at c.requires.member in
    record { shown = λ reads. (gap.0, rw gap.1 held.shown, gap.2.1 refl, gap.2.0) }

pub returns-in-Xor : goal.returns-in-Xor
returns-in-Xor g c =
    let held = rw c.in-Xor.is at c.requires.held in let gap = rw c.in-Xor.is at c.requires.member in let at = c.position_at.ensures in
    let stands = known {table = table_in} {links = c.args.links.now} _ held.shown (at.kept gap.0 (rw gap.1 held.shown) (gap.2.1 refl) gap.2.0) in
    rw c.in-Xor.is (record { kept = record { carried = held.carried; shown = held.shown; stands = stands }; alike = refl; cursor_is = at.on })
