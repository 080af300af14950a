use Rattle.std.proofs.Common.{◌∙◌, sym, refl, [], append-nil, rules}
use Rattle.ic_link_ops.specs.Sequences.{but_last}
use Rattle.ic_link_ops.proofs.Prelude.{but_last_of_none, split_last, represents_middle}
use Rattle.ic_chain.proofs.Standing.{last_kept}
use Rattle.ic_chain.proofs.list.LinkList.pop_back.Goals as goal

-- what happens in an empty list
pub returns-in_err-back : goal.returns-in_err-back
returns-in_err-back g c = record {
  answer = λ s shown. let e = sym (c.last.ensures ∙ last_kept g.K.ListKind.kept g.K.ListKind.kept_last g.met.K.DoubleEnded.keeps_both g.met.K.ListKind.tells_last shown.tail) ∙ c.in_err-back.was in search rules;
  removed = λ s shown.
      rw (but_last_of_none s (sym (c.last.ensures ∙ last_kept g.K.ListKind.kept g.K.ListKind.kept_last g.met.K.DoubleEnded.keeps_both g.met.K.ListKind.tells_last shown.tail) ∙ c.in_err-back.was)) shown;
  released = search rules;
  empty = search rules;
  frame = search rules;
}

pub prev-before-requires : goal.prev-before-requires
prev-before-requires g c =
    let s = c.requires.shown in
    record { linked = g.met.K.ForwardLinks.between_linked _ _ _ (represents_middle (but_last s.0) [] ((rw (split_last s.0 (sym (c.last.ensures ∙ last_kept g.K.ListKind.kept g.K.ListKind.kept_last g.met.K.DoubleEnded.keeps_both g.met.K.ListKind.tells_last s.1.tail) ∙ c.in_ok-back.was)) at s.1))) }

pub unlink-requires : goal.unlink-requires
unlink-requires g c =
    let s = c.requires.shown in
    let whole = rw (split_last s.0 (sym (c.last.ensures ∙ last_kept g.K.ListKind.kept g.K.ListKind.kept_last g.met.K.DoubleEnded.keeps_both g.met.K.ListKind.tells_last s.1.tail) ∙ c.in_ok-back.was)) at s.1 in record {
      shown = (
        but_last s.0,
        [],
        whole,
        c.prev-before.ensures ∙ g.met.K.BidirectionalLinks.leads_back _ _ _ (represents_middle (but_last s.0) [] whole),
        refl,
      );
    }

pub returns : goal.returns
returns g c = record {
  answer = λ s shown. let e = sym (c.last.ensures ∙ last_kept g.K.ListKind.kept g.K.ListKind.kept_last g.met.K.DoubleEnded.keeps_both g.met.K.ListKind.tells_last shown.tail) ∙ c.in_ok-back.was in search rules;
  removed = λ s shown.
      let whole = rw (split_last s (sym (c.last.ensures ∙ last_kept g.K.ListKind.kept g.K.ListKind.kept_last g.met.K.DoubleEnded.keeps_both g.met.K.ListKind.tells_last shown.tail) ∙ c.in_ok-back.was)) at shown in
      let off = c.unlink.ensures.removed (but_last s) [] whole
      (c.prev-before.ensures ∙ g.met.K.BidirectionalLinks.leads_back _ _ _ (represents_middle (but_last s) [] whole)) refl in
      rw append-nil at off;
  released = search rules;
  empty = search rules;
  frame = λ s shown.
      let is = split_last s (sym (c.last.ensures ∙ last_kept g.K.ListKind.kept g.K.ListKind.kept_last g.met.K.DoubleEnded.keeps_both g.met.K.ListKind.tells_last shown.tail) ∙ c.in_ok-back.was) in
      let whole = rw is at shown in
      rw is
      (c.unlink.ensures.frame (but_last s) [] whole
      (c.prev-before.ensures ∙ g.met.K.BidirectionalLinks.leads_back _ _ _ (represents_middle (but_last s) [] whole)) refl);
}
