use Rattle.std.proofs.Common.{inl, [], ◌++◌, ◌∙◌, append_assoc, sym, refl}
use Rattle.ic_link_ops.proofs.RepresentedLists.{gap_linked, gap_after_linked, last_linked}
use Rattle.ic_link_ops.proofs.Positions.{gap_there, put_before}
use Rattle.ic_link_ops.proofs.Naming.{end_named}
use Rattle.ic_chain.proofs.Standing.{stands, stays, last_kept}
use Rattle.ic_chain.proofs.edits.LinkListBidirectionalSplice.splice_before_at.Goals as goal

pub splice_between-requires-clause-before : goal.splice_between-requires-clause-before
splice_between-requires-clause-before g c q e =
    let k = gap_there (stands c.requires.stands) in
    gap_linked g.met.K.ForwardLinks.between_linked k.0.front k.0.back k.1 (sym e ∙ c.before-before.ensures k.0 k.1 k.2)

pub splice_between-requires-clause-after : goal.splice_between-requires-clause-after
splice_between-requires-clause-after g c names q e =
    let k = gap_there (stands c.requires.stands) in
    gap_after_linked g.met.K.ForwardLinks.between_linked k.0.front k.0.back k.1 (sym e ∙ c.get-current.ensures ∙ k.2)

pub splice_between-requires-clause-first : goal.splice_between-requires-clause-first
splice_between-requires-clause-first g c names q e =
    let given = c.requires.given in gap_after_linked g.met.K.ForwardLinks.between_linked [] given.0 given.1 (sym e ∙ given.1.head)

pub splice_between-requires-clause-end : goal.splice_between-requires-clause-end
splice_between-requires-clause-end g c q e =
    let given = c.requires.given in last_linked g.met.K.ForwardLinks.between_linked given.1 (sym e ∙ c.last-last.ensures ∙ last_kept g.K.ListKind.kept g.K.ListKind.kept_last g.met.K.DoubleEnded.keeps_both g.met.K.ListKind.tells_last given.1.tail)

pub splice_between-requires-clause-next : goal.splice_between-requires-clause-next
splice_between-requires-clause-next g c =
    let L = g.met.L.LinkOps in
    let k = gap_there (stands c.requires.stands) in
    end_named _ _ (λ q e. L.covered_has_name _ q (L.linked_is_covered _ q (gap_after_linked g.met.K.ForwardLinks.between_linked k.0.front k.0.back k.1 (sym e ∙ c.get-current.ensures ∙ k.2))))

pub returns-clause-spliced : goal.returns-clause-spliced
returns-clause-spliced g c =
    let e = c.splice_between.ensures in record {
      spliced = λ gap t shown before given apart.
          e.spliced gap t shown (c.before-before.ensures gap shown before) (c.get-current.ensures ∙ before) given (inl (c.last-last.ensures ∙ last_kept g.K.ListKind.kept g.K.ListKind.kept_last g.met.K.DoubleEnded.keeps_both g.met.K.ListKind.tells_last given.tail)) apart;
      trace_stays = e.trace_stays;
      position = refl;
      stands = λ gap t shown before given apart.
          put_before gap t (e.spliced gap t shown (c.before-before.ensures gap shown before) (c.get-current.ensures ∙ before) given (inl (c.last-last.ensures ∙ last_kept g.K.ListKind.kept g.K.ListKind.kept_last g.met.K.DoubleEnded.keeps_both g.met.K.ListKind.tells_last given.tail)) apart).shows before;
    }

pub returns-clause-kept : goal.returns-clause-kept
returns-clause-kept g c gap t shown before given apart =
    let put = c.splice_between.ensures.spliced gap t shown (c.before-before.ensures gap shown before) (c.get-current.ensures ∙ before) given (inl (c.last-last.ensures ∙ last_kept g.K.ListKind.kept g.K.ListKind.kept_last g.met.K.DoubleEnded.keeps_both g.met.K.ListKind.tells_last given.tail)) apart in
    stays g.met.K.ForwardLinks.leads c.requires.stands gap shown before (gap.front ++ t) (rw (append_assoc gap.front t gap.back) put.shows)
