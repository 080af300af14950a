use Rattle.std.proofs.Common.{[], inl, refl, sym, ◌∙◌, append-nil, rules}
use Rattle.ic_link_ops.specs.Sequences.{at_back}
use Rattle.ic_link_ops.proofs.RepresentedLists.{last_linked, gap_after_linked}
use Rattle.ic_chain.proofs.Standing.{last_kept}
use Rattle.ic_list_algorithms.proofs.whole.append.Goals as goal

pub splice_between-requires-clause-before : goal.splice_between-requires-clause-before
splice_between-requires-clause-before g c q e =
    let p = c.requires.two in
    last_linked g.met.K.ForwardLinks.between_linked p.shown (sym e ∙ c.last-last.ensures ∙ last_kept g.K.ListKind.kept g.K.ListKind.kept_last g.met.K.DoubleEnded.keeps_both g.met.K.ListKind.tells_last p.shown.tail)

pub splice_between-requires-clause-first : goal.splice_between-requires-clause-first
splice_between-requires-clause-first g c names q e =
    let p = c.requires.two in gap_after_linked g.met.K.ForwardLinks.between_linked [] p.second p.other (sym (rw c.take-given.ensures.whole at e) ∙ p.other.head)

pub splice_between-requires-clause-end : goal.splice_between-requires-clause-end
splice_between-requires-clause-end g c q e =
    let p = c.requires.two in
    last_linked g.met.K.ForwardLinks.between_linked p.other (sym e ∙ c.last-end.ensures ∙ last_kept g.K.ListKind.kept g.K.ListKind.kept_last g.met.K.DoubleEnded.keeps_both g.met.K.ListKind.tells_last p.other.tail)

pub returns : goal.returns
returns g c = record {
  appended = λ s u shown other apart.
      c.splice_between.ensures.spliced (at_back s) u (rw append-nil shown)
      (c.last-last.ensures ∙ last_kept g.K.ListKind.kept g.K.ListKind.kept_last g.met.K.DoubleEnded.keeps_both g.met.K.ListKind.tells_last shown.tail) refl (rw c.take-given.ensures.whole other)
      (inl (c.last-end.ensures ∙ last_kept g.K.ListKind.kept g.K.ListKind.kept_last g.met.K.DoubleEnded.keeps_both g.met.K.ListKind.tells_last other.tail)) (rw append-nil apart);
  empty = search rules;
  trace_stays = search rules;
}
