use Rattle.std.proofs.Common.{[], append-nil, refl, ◌∙◌, rules}
use Rattle.ic_link_ops.specs.Sequences.{at_back}
use Rattle.ic_link_ops.proofs.SequenceLemmas.{absent_both}
use Rattle.ic_chain.proofs.Standing.{last_kept}
use Rattle.ic_chain.proofs.list.LinkList.push_back.Goals as goal

pub insert_between-requires-clause-shown : goal.insert_between-requires-clause-shown
insert_between-requires-clause-shown g c =
    let s = c.requires.shown in
    (at_back s.0, rw append-nil s.1, c.last-tail.ensures ∙ last_kept g.K.ListKind.kept g.K.ListKind.kept_last g.met.K.DoubleEnded.keeps_both g.met.K.ListKind.tells_last s.1.tail, refl)

pub returns : goal.returns
returns g c = record {
  inserted = λ s shown.
      rw (← c.place.ensures) (c.if-not-insert_between.ensures.inserted (at_back s) (rw append-nil shown) (c.last-tail.ensures ∙ last_kept g.K.ListKind.kept g.K.ListKind.kept_last g.met.K.DoubleEnded.keeps_both g.met.K.ListKind.tells_last shown.tail) refl).shows;
  acquired = search rules;
  refused = search rules;
  unchanged = search rules;
  frame = λ s shown.
      let frame = c.insert_between.ensures.frame (at_back s) (rw append-nil shown) (c.last-tail.ensures ∙ last_kept g.K.ListKind.kept g.K.ListKind.kept_last g.met.K.DoubleEnded.keeps_both g.met.K.ListKind.tells_last shown.tail) refl in
      record { extent = frame.extent; others = λ q out. frame.others q (rw c.place.ensures out.0, absent_both q s [] out.1 tt) };
}
