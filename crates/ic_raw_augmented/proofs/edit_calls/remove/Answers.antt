use Rattle.std.proofs.Common.{◌≡◌, List, refl, sym, ◌∙◌, subst, arith}
use Rattle.ic_link_ops.proofs.RepresentedTrees.{holds_linked}
use Rattle.ic_raw.proofs.Gaps.{never}
use Rattle.ic_raw.specs.declared.words.RawThree.{RawThree}
use Rattle.ic_raw.specs.Tree.{Represents, table_of}
use Rattle.ic_raw.specs.Words.{place_of}
use Rattle.ic_raw.proofs.Faults.{by_others}
use Rattle.ic_raw_augmented.specs.Sums.{IsSummed}
use Rattle.ic_raw_augmented.proofs.Edits.{has_sums, taken_out}
use Rattle.ic_raw_augmented.proofs.edit_calls.remove.Goals as goal

pub returns : goal.returns
returns c = record {
  call = λ enough. rw c.settle.ensures.same c.remove_by-status.ensures.call;
  summed = λ ok root s shown right.
      let shown' = subst (λ (ws : List RawThree). Represents (table_of ws) root s) c.settle.ensures.same shown in
      subst (λ (ws : List RawThree). IsSummed c.args.kind (table_of ws) c.settle.new.sums s) (sym c.settle.ensures.same)
      (c.settle.ensures.right ok root s shown'
      (taken_out c.args.kind c.args.sums.now s c.of-written.result c.remove_by-status.new.by {old = c.args.table.now} {new = c.remove_by-status.new.table} (place_of c.args.at)
      (λ none. let null : c.remove_by-status.result ≡ 4 = c.remove_by-status.ensures.call.null.1 none in omega (arith, null, ok))
      (λ p is m. let on = holds_linked shown'.held m in let off = (c.remove_by-status.ensures.call.unlinked p is ok).is in never off on)
      (λ p is. c.remove_by-status.ensures.reported p is ok) right));
  values = c.settle.ensures.kept;
  has_sums = λ ok. c.if-sums-table.false;
  refused = λ no. let left = c.remove_by-status.ensures.call.refused no in (c.settle.ensures.same ∙ left.0, left.1, c.settle.ensures.refused no);
  why = λ no null. c.remove_by-status.ensures.call.why no null ∙ by_others _ (has_sums c.args.sums.now _ c.if-sums-table.false) refl;
}
