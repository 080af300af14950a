use Rattle.std.proofs.Common.{[], ◌∷◌, ◌∙◌, sym}
use Rattle.ic_link_ops.proofs.SequenceLemmas.{absent_right, beside_not, distinct_middle}
use Rattle.ic_link_ops.proofs.RepresentedLists.{represents_middle, represents_beside, gap_linked, next_linked}
use Rattle.ic_link_ops.proofs.Naming.{end_named}
use Rattle.ic_chain.proofs.list.LinkList.unlink.Goals as goal

pub bypass-requires-clause-before : goal.bypass-requires-clause-before
bypass-requires-clause-before g c q e = let r = c.requires.shown in gap_linked g.met.K.ForwardLinks.between_linked r.0 (c.args.place ∷ r.1) r.2 (sym e ∙ r.3)

pub bypass-requires-clause-after : goal.bypass-requires-clause-after
bypass-requires-clause-after g c names q e = let r = c.requires.shown in next_linked g.met.K.ForwardLinks.between_linked r.0 c.args.place r.1 r.2 (sym e ∙ r.4)

pub bypass-requires-clause-next : goal.bypass-requires-clause-next
bypass-requires-clause-next g c =
    let L = g.met.L.LinkOps in
    let r = c.requires.shown in
    end_named _ _ (λ q e. L.covered_has_name _ q (L.linked_is_covered _ q (next_linked g.met.K.ForwardLinks.between_linked r.0 c.args.place r.1 r.2 (sym e ∙ r.4))))

pub bypass-requires-clause-out : goal.bypass-requires-clause-out
bypass-requires-clause-out g c =
    let L = g.met.L.LinkOps in
    let r = c.requires.shown in
    L.covered_has_name _ _ (L.linked_is_covered _ _ (g.met.K.ForwardLinks.between_linked _ _ _ (represents_middle r.0 r.1 r.2)))

pub release_link-requires : goal.release_link-requires
release_link-requires g c =
    let r = c.requires.shown in
    record { linked = g.met.L.LinkOps.does_replay _ _ [] c.bypass.ensures.trace_stays c.args.place ∙ g.met.K.ForwardLinks.between_linked _ _ _ (represents_middle r.0 r.1 r.2) }

pub returns-clause-removed : goal.returns-clause-removed
returns-clause-removed g c front back shown before after =
    let off = c.bypass.ensures.shows front back shown before after in
    represents_beside {new = g.L.LinkOps.table c.release_link.new.self} off (distinct_middle front back c.args.place shown.distinct) c.release_link.ensures.frame.others

pub returns-clause-released : goal.returns-clause-released
returns-clause-released g c = g.met.L.LinkOps.does_on _ _ _ _ _ c.bypass.ensures.trace_stays c.release_link.ensures.released

pub returns-clause-frame : goal.returns-clause-frame
returns-clause-frame g c front back shown before after =
    let released = c.release_link.ensures.frame in record {
      extent = released.extent ∙ c.bypass.ensures.extent;
      others = λ q out.
          let beside = beside_not front back c.args.place before after out in
          released.others q (absent_right q front (c.args.place ∷ back) out).0 ∙ c.bypass.ensures.others q beside.0 (λ _. beside.1);
    }
