use Rattle.std.proofs.Common.{rules, ◌∙◌, sym, refl, ap, List, [], option_copied}
use Rattle.std.specs.Fn.{FnReturnsAt}
use Rattle.ic_cursors.specs.CursorMut.{site_of}
use Rattle.ic_unsafe_ref.specs.declared.place.Place.{Place}
use Rattle.ic_link_ops.specs.LinkedList.{Represents}
use Rattle.ic_link_ops.proofs.CollectionLaws.{one_sequence_is_represented}
use Rattle.ic_link_ops.proofs.DoublyLists.{neighbors_covered, doubly_lists}
use Rattle.ic_chain.proofs.Standing.{stands_here}
use Rattle.ic_link_ops.proofs.EditingWalks.{walk_begins}
use Rattle.uses.proofs.Retaining.{Turns, retains_gap, retains_kept, retains_gone, retains_all}
use Rattle.uses.proofs.retain.retain.Goals as goal
use Rattle.uses.proofs.retain.retain.Given.{Over}

pub loop-object-init : goal.loop-object-init
loop-object-init g c =
    let p = c.requires.placed in
    let e = c.front_mut-cursor.ensures in
    let kind = doubly_lists {n = g.L.LinkedListOps.neighbors} {linked = g.L.LinkOps.linked} g.met.L.LinkedListOps.linked_alike in
    record {
      borrows = (refl, refl);
      retains = λ s shown. (
        s,
        record {
          after = [];
          gone = [];
          walked = rw (← e.borrows.3) (walk_begins (g.met.L.LinkOps.does_nothing _) (rw (e.borrows.2, e.borrows.3) shown) (e.position s shown));
          parted = λ k g parts. parts;
          placed = rw (one_sequence_is_represented kind p.shown shown) at p.placed;
        },
      );
    }

pub move_next-requires : goal.move_next-requires
move_next-requires g c = let gap = retains_gap (c.loop-object.invariant.retains _ c.requires.placed.shown).1 in record { stands = stands_here gap.0 gap.1 gap.2 tt refl }

pub remove-requires : goal.remove-requires
remove-requires g c = let gap = retains_gap (c.loop-object.invariant.retains _ c.requires.placed.shown).1 in record { stands = stands_here gap.0 gap.1 gap.2 tt refl }

-- `kept` is a turn of the loop that keeps the member of the cursor. `gone` is a turn of the loop that removes it
kept : (g : Over) (c : goal.After-move_next g) (s : List Place) → Represents g.L.LinkedListOps.neighbors (g.L.LinkOps.table c.args.links.now) c.args.list.now s
    → Turns g.L.LinkedListOps.neighbors g.L.LinkOps.table g.L.LinkOps.Trace c.args.objects.now (FnReturnsAt g.F.Fn c.args.keeps) c.args.links.now s
    (site_of (λ list. list) (λ at. at) c.loop-object.cursor) (site_of (λ list. list) (λ at. at) c.move_next.new.self)
kept g c s shown =
    let h = c.loop-object.invariant.retains s shown in
    let m = c.move_next.ensures in
    let answered : FnReturnsAt g.F.Fn c.args.keeps c.in-Some.object.now c.keeps.result = record { shown = c.in-Some.object; shows = refl; says = record { met = c.keeps.ensures } } in
    rw (m.stays.2, m.stays.3)
    (retains_kept (neighbors_covered g.L.LinkedListOps.neighbors g.L.LinkOps.table g.met.L.LinkOps.linked_is_covered g.met.L.LinkedListOps.linked_alike)
    h.0 h.1 (sym c.get.ensures ∙ ap option_copied c.in-Some.is) (rw c.if-keeps.true at answered) m.moved)

gone : (g : Over) (c : goal.After-drop-remove g) (s : List Place) → Represents g.L.LinkedListOps.neighbors (g.L.LinkOps.table c.args.links.now) c.args.list.now s
    → Turns g.L.LinkedListOps.neighbors g.L.LinkOps.table g.L.LinkOps.Trace c.args.objects.now (FnReturnsAt g.F.Fn c.args.keeps) c.args.links.now s
    (site_of (λ list. list) (λ at. at) c.loop-object.cursor) (site_of (λ list. list) (λ at. at) c.remove.new.self)
gone g c s shown =
    let h = c.loop-object.invariant.retains s shown in
    let answered : FnReturnsAt g.F.Fn c.args.keeps c.in-Some.object.now c.keeps.result = record { shown = c.in-Some.object; shows = refl; says = record { met = c.keeps.ensures } } in
    retains_gone (neighbors_covered g.L.LinkedListOps.neighbors g.L.LinkOps.table g.met.L.LinkOps.linked_is_covered g.met.L.LinkedListOps.linked_alike)
    g.met.L.LinkOps.does_on h.0 h.1 (sym c.get.ensures ∙ ap option_copied c.in-Some.is) (rw c.if-keeps.false at answered) c.remove.ensures.removed

pub loop-object-smaller-then-keeps : goal.loop-object-smaller-then-keeps
loop-object-smaller-then-keeps g c = (kept g c _ c.requires.placed.shown).2

pub loop-object-smaller-else-keeps : goal.loop-object-smaller-else-keeps
loop-object-smaller-else-keeps g c = (gone g c _ c.requires.placed.shown).2

pub loop-object-preserved-then-keeps : goal.loop-object-preserved-then-keeps
loop-object-preserved-then-keeps g c =
    let b = c.loop-object.invariant.borrows in
    let m = c.move_next.ensures.stays in
    record { borrows = (m.0 ∙ b.0, m.1 ∙ b.1); retains = λ s shown. let turn = kept g c s shown in (turn.0, turn.1) }

pub loop-object-preserved-else-keeps : goal.loop-object-preserved-else-keeps
loop-object-preserved-else-keeps g c =
    let b = c.loop-object.invariant.borrows in
    let m = c.remove.ensures.kept.borrows in
    record { borrows = (m.0 ∙ b.0, m.1 ∙ b.1); retains = λ s shown. let turn = gone g c s shown in (turn.0, turn.1) }

pub returns-clause-retained : goal.returns-clause-retained
returns-clause-retained g c s shown =
    let h = c.loop-object.invariant.retains s shown in
    let all = retains_all h.0 h.1 (sym c.get.ensures ∙ ap option_copied c.in_default.is) in
    search rules

pub returns-clause-frame : goal.returns-clause-frame
returns-clause-frame g c s shown = let frame = (c.loop-object.invariant.retains s shown).1.walked.frame in search rules
