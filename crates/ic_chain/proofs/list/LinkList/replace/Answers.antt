use Rattle.std.proofs.Common.{[], ◌∷◌, ◌∙◌, sym}
use Rattle.ic_link_ops.proofs.SequenceLemmas.{absent_right, absent_with, beside_not, distinct_middle}
use Rattle.ic_link_ops.proofs.RepresentedLists.{represents_middle, represents_beside, free_absent, gap_linked, next_linked}
use Rattle.ic_link_ops.proofs.Naming.{end_named}
use Rattle.ic_chain.proofs.list.LinkList.replace.Goals as goal

pub replace_linked-requires-clause-before : goal.replace_linked-requires-clause-before
replace_linked-requires-clause-before g c q e =
    let r = c.requires.shown in
    let a = c.if-not-acquire_link.ensures in
    let law = g.met.K.ForwardLinks.between_linked in
    let absent = free_absent law r.2 (g.met.L.LinkOps.does_replay _ _ _ a.acquired).was in
    gap_linked law r.0 (c.args.out ∷ r.1) (represents_beside {new = g.L.LinkOps.table c.acquire_link.new.self} r.2 absent a.frame.others) (sym e ∙ r.3)

pub replace_linked-requires-clause-after : goal.replace_linked-requires-clause-after
replace_linked-requires-clause-after g c names q e =
    let r = c.requires.shown in
    let a = c.if-not-acquire_link.ensures in
    let law = g.met.K.ForwardLinks.between_linked in
    let absent = free_absent law r.2 (g.met.L.LinkOps.does_replay _ _ _ a.acquired).was in
    next_linked law r.0 c.args.out r.1 (represents_beside {new = g.L.LinkOps.table c.acquire_link.new.self} r.2 absent a.frame.others) (sym e ∙ r.4)

pub replace_linked-requires-clause-next : goal.replace_linked-requires-clause-next
replace_linked-requires-clause-next g c =
    let L = g.met.L.LinkOps in
    let r = c.requires.shown in
    end_named _ _ (λ q e. L.covered_has_name _ q (L.linked_is_covered _ q (next_linked g.met.K.ForwardLinks.between_linked r.0 c.args.out r.1 r.2 (sym e ∙ r.4))))

pub replace_linked-requires-clause-out : goal.replace_linked-requires-clause-out
replace_linked-requires-clause-out g c =
    let L = g.met.L.LinkOps in
    let r = c.requires.shown in
    L.covered_has_name _ _ (L.linked_is_covered _ _ (g.met.K.ForwardLinks.between_linked _ _ _ (represents_middle r.0 r.1 r.2)))

pub release_link-requires : goal.release_link-requires
release_link-requires g c =
    let r = c.requires.shown in
    let a = c.if-not-acquire_link.ensures in
    let law = g.met.K.ForwardLinks.between_linked in
    let absent = free_absent law r.2 (g.met.L.LinkOps.does_replay _ _ _ a.acquired).was in
    let now = represents_beside {new = g.L.LinkOps.table c.acquire_link.new.self} r.2 absent a.frame.others in
    record { linked = g.met.L.LinkOps.does_replay _ _ [] c.replace_linked.ensures.trace_stays _ ∙ law _ _ _ (represents_middle r.0 r.1 now) }

pub returns-clause-replaced : goal.returns-clause-replaced
returns-clause-replaced g c front back shown before after =
    let a = c.if-not-acquire_link.ensures in
    let absent = free_absent g.met.K.ForwardLinks.between_linked shown (g.met.L.LinkOps.does_replay _ _ _ a.acquired).was in
    let now = represents_beside {new = g.L.LinkOps.table c.acquire_link.new.self} shown absent a.frame.others in
    let apart = (absent_right c.args.object front (c.args.out ∷ back) absent).0 in
    let put = c.replace_linked.ensures.shows front back now before after absent in
    represents_beside {new = g.L.LinkOps.table c.release_link.new.self} put
    (absent_with front back c.args.object c.args.out (λ e. apart (sym e)) (distinct_middle front back c.args.out shown.distinct)) c.release_link.ensures.frame.others

pub returns-clause-exchanged : goal.returns-clause-exchanged
returns-clause-exchanged g c =
    let L = g.met.L.LinkOps in L.does_on _ _ _ _ _ (L.does_on _ _ _ _ _ c.if-not-acquire_link.ensures.acquired c.replace_linked.ensures.trace_stays) c.release_link.ensures.released

pub returns-clause-frame : goal.returns-clause-frame
returns-clause-frame g c front back shown before after =
    let a = c.if-not-acquire_link.ensures in
    let put = c.replace_linked.ensures in
    let released = c.release_link.ensures.frame in
    record {
      extent = released.extent ∙ put.extent ∙ a.frame.extent;
      others = λ q out.
          let apart = beside_not front back c.args.out before after out.1 in
          released.others q (absent_right q front (c.args.out ∷ back) out.1).0 ∙ put.others q apart.0 out.0 (λ _. apart.1) ∙ a.frame.others q out.0;
    }
