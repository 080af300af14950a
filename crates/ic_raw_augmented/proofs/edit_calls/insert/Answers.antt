use Rattle.std.proofs.Common.{List, refl, sym, ◌∙◌, subst}
use Rattle.ic_raw.specs.declared.words.RawThree.{RawThree}
use Rattle.ic_raw.specs.Tree.{Represents, table_of}
use Rattle.ic_raw.specs.Words.{place_of}
use Rattle.ic_raw.proofs.Faults.{by_others}
use Rattle.ic_raw_augmented.specs.Sums.{IsSummed}
use Rattle.ic_raw_augmented.proofs.Edits.{has_sums, put_in}
use Rattle.ic_raw_augmented.proofs.edit_calls.insert.Goals as goal

pub returns : goal.returns
returns c = record {
  call = λ enough. rw c.settle.ensures.same c.insert_by-status.ensures.call;
  summed = λ ok root s shown right.
      let shown' = subst (λ (ws : List RawThree). Represents (table_of ws) root s) c.settle.ensures.same shown in
      subst (λ (ws : List RawThree). IsSummed c.args.kind (table_of ws) c.settle.new.sums s) (sym c.settle.ensures.same)
      (c.settle.ensures.right ok root s shown'
      (put_in c.args.kind c.args.sums.now s c.of-written.result c.insert_by-status.new.by {old = c.args.table.now} {new = c.insert_by-status.new.table} (place_of c.args.place) (λ none. c.insert_by-status.ensures.call.no_place none ok)
      (λ p is. c.of-written.ensures p (c.place_of.ensures ∙ is)) (λ p is. c.insert_by-status.ensures.reported p is ok) right));
  values = c.settle.ensures.kept;
  has_sums = λ ok. c.if-sums-table.false;
  refused = λ no. let left = c.insert_by-status.ensures.call.refused no in (c.settle.ensures.same ∙ left.0, left.1, c.settle.ensures.refused no);
  why = λ no. c.insert_by-status.ensures.call.why no ∙ by_others _ (has_sums c.args.sums.now _ c.if-sums-table.false) refl;
}
