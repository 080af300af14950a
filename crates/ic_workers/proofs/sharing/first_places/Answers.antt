use Rattle.std.proofs.Common.{◌≡◌, ◌+◌, sym, ap, ◌∙◌, subst, arith, length, vec_len}
use Rattle.ic_unsafe_ref.specs.Places.{index_of}
use Rattle.ic_workers.specs.Claimed.{IsRow}
use Rattle.ic_workers.proofs.Rows.{row_more}
use Rattle.ic_workers.proofs.sharing.first_places.Goals as goal
use Rattle.ic_workers.proofs.sharing.first_places.Goals.{in-Some+in_ok-push, in_default}

pub loop-index-preserved : goal.loop-index-preserved
loop-index-preserved g c =
    let was = c.loop-index.invariant in
    let below = c.loop-index-test.true in
    elim c.match-new.branch [
      | in-Some+in_ok-push w ↦
          let index : c.loop-index.index ≡ 0 + length c.loop-index.places.items = omega (arith, was.count, c.loop-index.places.ok.0) in
          let next = row_more 0 c.loop-index.places.items w.new-in-Some.result was.row (ap index_of w.new-in-Some.ensures ∙ (w.in-Some.ensures.0 ∙ index)) in
          let same = ap vec_len w.places-is in
          record {
            row = subst (λ v. IsRow 0 v.items) (sym w.places-is) (subst (IsRow 0) (sym w.in_ok-push.ensures.items) next);
            count = omega (arith, same, was.count, w.in_ok-push.ensures.len);
          }
      | in_default w ↦ let over = w.in_default.ensures in absurd (omega (arith, over, below, c.requires))
    ]
