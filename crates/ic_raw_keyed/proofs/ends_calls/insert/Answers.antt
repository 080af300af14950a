use Rattle.std.proofs.Common.{◌≡◌, Some, [], ◌∷◌, sym, ◌∙◌, refl}
use Rattle.ic_link_ops.specs.Sequences.{Cut, insert, join}
use Rattle.ic_link_ops.specs.declared.side.Side.{Side}
use Rattle.ic_link_ops.specs.declared.side.Side.TheVariants.{Left, Right}
use Rattle.ic_link_ops.proofs.SequenceLemmas.{some_same}
use Rattle.ic_rbtree.specs.Prelude.{end_on, AreIn}
use Rattle.ic_raw.specs.Seen.{has_place}
use Rattle.ic_raw.specs.Tree.{RepresentsTree, root_in, table_of}
use Rattle.ic_raw_keyed.specs.Ends.{EndWith, SaysEnds, end_in}
use Rattle.ic_raw_keyed.proofs.TreeEnds.{put_in}
use Rattle.ic_raw_keyed.proofs.ends_calls.insert.Goals as goal

pub returns-then-status-ne-OK : goal.returns-then-status-ne-OK
returns-then-status-ne-OK c = record {
  call = c.insert-status.ensures;
  ends_kept = λ cut p is made says shown. absurd (c.if-status-ne-OK.true made);
  own = λ made. absurd (c.if-status-ne-OK.true made);
  words = λ made. absurd (c.if-status-ne-OK.true made);
  refused = λ off. refl;
}

-- this case does not occur, because the insertion is refused if the given place is none
pub returns-in_default : goal.returns-in_default
returns-in_default c = absurd (c.insert-status.ensures.no_place (sym c.place_of.ensures ∙ c.in_default.is) c.if-status-ne-OK.false)

pub returns : goal.returns
returns c = record {
  call = rw c.end_with-last.ensures.same (rw c.end_with-first.ensures.same c.insert-status.ensures);
  ends_kept = λ cut p is made says shown.
      let one : p ≡ c.in-Some.new = some_same (sym is ∙ sym c.place_of.ensures ∙ c.in-Some.is) in
      let after : RepresentsTree c.insert-status.new.table c.insert-status.new.tree (insert cut c.in-Some.new) = rw (c.end_with-last.ensures.same, c.end_with-first.ensures.same, one) at shown in
      rw one (kept cut after says);
  own = λ made. rw (c.end_with-last.ensures.same, c.end_with-first.ensures.same, ← c.place_of.ensures, c.in-Some.is) new;
  words = λ made. c.of.ensures.words;
  refused = λ off. absurd (off c.if-status-ne-OK.false);
} where
  in_closed_set : AreIn (has_place (table_of c.insert-status.new.table)) (Some c.in-Some.new ∷ root_in c.insert-status.new.tree ∷ [])
  in_closed_set = put_in c.insert-status.ensures c.in-Some.new (sym c.place_of.ensures ∙ c.in-Some.is) c.if-status-ne-OK.false

  kept : (cut : Cut) → RepresentsTree c.insert-status.new.table c.insert-status.new.tree (insert cut c.in-Some.new) → SaysEnds c.args.ends.now (join cut)
      → (d : Side) → end_in d c.of.result ≡ end_on d (insert cut c.in-Some.new)
  kept cut after says Left = c.of.ensures.first ∙ c.end_with-first.ensures.shown cut after (c.end.ensures ∙ says Left)
  kept cut after says Right = c.of.ensures.last ∙ c.end_with-last.ensures.shown cut (rw c.end_with-first.ensures.same after) (c.end-2.ensures ∙ says Right)

  new : (d : Side) → EndWith (table_of c.insert-status.new.table) (root_in c.insert-status.new.tree) d (Some c.in-Some.new) (end_in d c.args.ends.now) (end_in d c.of.result)
  new Left = rw (← c.end.ensures, c.of.ensures.first) (c.end_with-first.ensures.own in_closed_set)
  new Right = rw (← c.end-2.ensures, c.of.ensures.last, ← c.end_with-first.ensures.same) (c.end_with-last.ensures.own (rw c.end_with-first.ensures.same in_closed_set))
