use Rattle.std.proofs.Common.{[], ◌++◌, ◌∷◌, List, drop, sym, ap, ◌∙◌, subst}
use Rattle.ic_link_ops.specs.Sequences.{join, IsDistinct}
use Rattle.ic_rbtree.specs.Kept.{root_kept, TellsEnds}
use Rattle.ic_rbtree.proofs.KeptHeads.{shown, printed, replaces_kept}
use Rattle.ic_rbtree.proofs.Removing.{spot, spot_linked}
use Rattle.ic_rbtree.proofs.Replacing.{member_represented, replaces}
use Rattle.ic_rbtree.proofs.RepresentedClosed.{with_place, among_there, represented_closed_but, with_itself, with_member, member_apart}
use Rattle.ic_rbtree.proofs.linking.replace.Goals as goal

pub take_place-requires-clause-safe : goal.take_place-requires-clause-safe
take_place-requires-clause-safe g c =
    let n = g.L.RBTreeOps.node in
    let r = c.requires.member in
    let l = g.met.L.LinkOps.does_replay _ _ _ c.if-not-acquire_link.ensures.acquired in
    let kept = g.E.TreeHead.kept c.args.head.now in
    let m = member_represented n g.L.LinkOps.linked g.met.L.RBTreeOps.linked_alike _ (g.L.LinkOps.table c.acquire_link.new.self) (root_kept kept) r.0 c.args.place c.args.new (shown kept r.1) (sym r.2) l.was l.is c.acquire_link.ensures.frame in
    (with_place c.args.new (r.0.front ++ c.args.place ∷ m.0), represented_closed_but n m.2, (with_member n m.2 c.args.place (among_there c.args.place r.0.front m.0), (with_itself n m.2, tt)))

pub take_place-requires-clause-apart : goal.take_place-requires-clause-apart
take_place-requires-clause-apart g c =
    let n = g.L.RBTreeOps.node in
    let r = c.requires.member in
    let l = g.met.L.LinkOps.does_replay _ _ _ c.if-not-acquire_link.ensures.acquired in
    let kept = g.E.TreeHead.kept c.args.head.now in
    let m = member_represented n g.L.LinkOps.linked g.met.L.RBTreeOps.linked_alike _ (g.L.LinkOps.table c.acquire_link.new.self) (root_kept kept) r.0 c.args.place c.args.new (shown kept r.1) (sym r.2) l.was l.is c.acquire_link.ensures.frame in
    member_apart n r.0.front c.args.place c.args.new m.0 m.2

pub release_link-requires : goal.release_link-requires
release_link-requires g c =
    let n = g.L.RBTreeOps.node in
    let r = c.requires.member in
    let l = g.met.L.LinkOps.does_replay _ _ _ c.if-not-acquire_link.ensures.acquired in
    let kept = g.E.TreeHead.kept c.args.head.now in
    let m = member_represented n g.L.LinkOps.linked g.met.L.RBTreeOps.linked_alike _ (g.L.LinkOps.table c.acquire_link.new.self) (root_kept kept) r.0 c.args.place c.args.new (shown kept r.1) (sym r.2) l.was l.is c.acquire_link.ensures.frame in
    record { linked = g.met.L.LinkOps.does_replay _ _ [] (c.take_place.ensures.keeps_links _ [] (g.met.L.LinkOps.does_nothing _)) c.args.place ∙ (sym (g.met.L.RBTreeOps.linked_alike _) ∙ spot_linked n (spot n r.0.front c.args.place m.0 m.2)) }

pub returns-clause-replaced : goal.returns-clause-replaced
returns-clause-replaced g c gap h is =
    let n = g.L.RBTreeOps.node in
    let l = g.met.L.LinkOps.does_replay _ _ _ c.if-not-acquire_link.ensures.acquired in
    let kept = g.E.TreeHead.kept c.args.head.now in
    let new = g.E.TreeHead.kept c.take_place.new.self in
    let was = shown kept h in
    let m = member_represented n g.L.LinkOps.linked g.met.L.RBTreeOps.linked_alike _ (g.L.LinkOps.table c.acquire_link.new.self) (root_kept kept) gap c.args.place c.args.new was (sym is) l.was l.is c.acquire_link.ensures.frame in
    let same = ap (λ (s : List _). gap.front ++ s) m.1 in
    replaces_kept g.E.TreeHead.kept c.take_place.new.self
    (replaces n _ _ _ _ (root_kept kept) (root_kept new) c.args.place c.args.new gap m.0 m.1 c.acquire_link.ensures.frame (spot n gap.front c.args.place m.0 m.2) c.take_place.ensures.taken c.release_link.ensures.frame)
    (subst (λ (s : List _). TellsEnds new (gap.front ++ c.args.new ∷ s)) (sym (ap (λ (s : List _). drop 1 s) m.1))
    (c.take_place.ensures.ends gap.front m.0 (subst IsDistinct same was.held.distinct) (subst (TellsEnds kept) same (printed n (g.L.LinkOps.table c.args.links.now) kept (join gap) h))))

pub returns-clause-exchanged : goal.returns-clause-exchanged
returns-clause-exchanged g c =
    g.met.L.LinkOps.does_on _ _ _ _ _ (c.take_place.ensures.keeps_links _ _ c.if-not-acquire_link.ensures.acquired) c.release_link.ensures.released
