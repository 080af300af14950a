use Rattle.std.proofs.Common.{◌∙◌, sym, None, ◌∷◌, []}
use Rattle.ic_link_ops.specs.Sequences.{first}
use Rattle.ic_link_ops.proofs.Prelude.{beside_not, represents_middle, gap_linked, next_linked}
use Rattle.ic_link_ops.proofs.Naming.{end_named}
use Rattle.ic_chain.proofs.Standing.{next_is, one_represented}
use Rattle.ic_chain.proofs.list.LinkList.detach.Goals as goal

pub prev-before-requires : goal.prev-before-requires
prev-before-requires g c = let m = c.requires.member in record { linked = g.met.K.ForwardLinks.between_linked _ _ _ (represents_middle m.front m.back m.shown) }

pub next-after-requires : goal.next-after-requires
next-after-requires g c = let m = c.requires.member in record { linked = g.met.K.ForwardLinks.between_linked _ _ _ (represents_middle m.front m.back m.shown) }

pub bypass-requires-clause-before : goal.bypass-requires-clause-before
bypass-requires-clause-before g c q e =
    let m = c.requires.member in
    let middle = represents_middle m.front m.back m.shown in
    let before = c.prev-before.ensures ∙ g.met.K.NamesBoth.tells_before _ None (first m.back) ∙ g.met.K.BidirectionalLinks.leads_back _ _ _ middle in
    gap_linked g.met.K.ForwardLinks.between_linked m.front (c.args.place ∷ m.back) m.shown (sym e ∙ before)

pub bypass-requires-clause-after : goal.bypass-requires-clause-after
bypass-requires-clause-after g c names q e =
    let m = c.requires.member in
    let middle = represents_middle m.front m.back m.shown in
    let before = c.prev-before.ensures ∙ g.met.K.NamesBoth.tells_before _ None (first m.back) ∙ g.met.K.BidirectionalLinks.leads_back _ _ _ middle in
    next_linked g.met.K.ForwardLinks.between_linked m.front c.args.place m.back m.shown (sym e ∙ next_is g.met.K.ForwardLinks.leads m.front m.back m.shown before c.next-after.ensures)

pub bypass-requires-clause-next : goal.bypass-requires-clause-next
bypass-requires-clause-next g c =
    let L = g.met.L.LinkOps in
    let m = c.requires.member in
    let middle = represents_middle m.front m.back m.shown in
    let before = c.prev-before.ensures ∙ g.met.K.NamesBoth.tells_before _ None (first m.back) ∙ g.met.K.BidirectionalLinks.leads_back _ _ _ middle in
    end_named _ _ (λ q e. L.covered_has_name _ q (L.linked_is_covered _ q (next_linked g.met.K.ForwardLinks.between_linked m.front c.args.place m.back m.shown (sym e ∙ next_is g.met.K.ForwardLinks.leads m.front m.back m.shown before c.next-after.ensures))))

pub bypass-requires-clause-out : goal.bypass-requires-clause-out
bypass-requires-clause-out g c =
    let L = g.met.L.LinkOps in
    let m = c.requires.member in
    L.covered_has_name _ _ (L.linked_is_covered _ _ (g.met.K.ForwardLinks.between_linked _ _ _ (represents_middle m.front m.back m.shown)))

pub returns-clause-removed : goal.returns-clause-removed
returns-clause-removed g c front back shown =
    let middle = represents_middle front back shown in
    let before = c.prev-before.ensures ∙ g.met.K.NamesBoth.tells_before _ None (first back) ∙ g.met.K.BidirectionalLinks.leads_back _ _ _ middle in
    c.bypass.ensures.shows front back shown before (next_is g.met.K.ForwardLinks.leads front back shown before c.next-after.ensures)

pub returns-clause-held : goal.returns-clause-held
returns-clause-held g c =
    let m = c.requires.member in
    g.met.L.LinkOps.does_replay _ _ [] c.bypass.ensures.trace_stays c.args.place ∙ g.met.K.ForwardLinks.between_linked _ _ _ (represents_middle m.front m.back m.shown)

pub returns-clause-frame : goal.returns-clause-frame
returns-clause-frame g c s shown =
    let m = c.requires.member in
    let middle = represents_middle m.front m.back m.shown in
    let before = c.prev-before.ensures ∙ g.met.K.NamesBoth.tells_before _ None (first m.back) ∙ g.met.K.BidirectionalLinks.leads_back _ _ _ middle in
    let after = next_is g.met.K.ForwardLinks.leads m.front m.back m.shown before c.next-after.ensures in
    rw (← one_represented g.met.K.ForwardLinks.leads m.shown shown) (record {
      extent = c.bypass.ensures.extent;
      others = λ q out.
          let apart = beside_not m.front m.back c.args.place before after out in
          c.bypass.ensures.others q apart.0 (λ _. apart.1);
    })
