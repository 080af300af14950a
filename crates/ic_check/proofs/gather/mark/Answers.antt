use Rattle.std.proofs.Common.{◌≡◌, ℕ, List, true, false, length, slice_index_or, refl, sym, ap, ◌∙◌, subst, arith}
use Rattle.ic_link_ops.specs.Prelude.{Place, at_front}
use Rattle.ic_link_ops.proofs.RepresentedTrees.{one_sequence}
use Rattle.ic_check.specs.WholeTables.{AreUnmarked, MarksAlso}
use Rattle.ic_check.proofs.Marking.{here, marks_none, marks_met, marks_more, marks_all}
use Rattle.ic_check.proofs.TreeWalks.{safe_null, member_linked, member_safe, member_next, member_marks}
use Rattle.ic_check.proofs.gather.mark.Goals as goal

pub step-current-requires : goal.step-current-requires
step-current-requires g c = safe_null g.L.RBTreeOps.node c.requires.shown.1

pub loop-current-init : goal.loop-current-init
loop-current-init g c =
    let k = c.requires.shown in
    (k.0, k.1, marks_none (c.step-current.ensures (at_front k.0) k.1 refl) (sym k.2))

pub bounds-marks-index : goal.bounds-marks-index
bounds-marks-index g c =
    let k = c.loop-current.invariant in
    let h = g.met.L.LinkOps.linked_is_covered c.args.links.now _ (sym (g.met.L.RBTreeOps.linked_alike _) ∙ member_linked g.L.RBTreeOps.node k.2 c.in-Some.is k.1) in
    omega (arith, h, k.2.also.long, c.requires.room, c.index-index.ensures.value)

pub returns-then-marks-index-clause-marked : goal.returns-then-marks-index-clause-marked
returns-then-marks-index-clause-marked g c s shown =
    let k = c.loop-current.invariant in (
      tt,
      λ free.
          marks_met k.2 c.in-Some.is (subst (λ (j : ℕ). slice_index_or c.loop-current.marks j false ≡ true) c.index-index.ensures.value c.if-marks-index.true) k.1.held.distinct
          (subst (AreUnmarked c.args.marks.now) (one_sequence shown k.1) free),
    )

pub bounds-marks-index-in-Some : goal.bounds-marks-index-in-Some
bounds-marks-index-in-Some g c =
    let k = c.loop-current.invariant in
    let h = g.met.L.LinkOps.linked_is_covered c.args.links.now _ (sym (g.met.L.RBTreeOps.linked_alike _) ∙ member_linked g.L.RBTreeOps.node k.2 c.in-Some.is k.1) in
    omega (arith, h, k.2.also.long, c.requires.room, c.index-index.ensures.value)

pub step-current-requires-in-Some : goal.step-current-requires-in-Some
step-current-requires-in-Some g c = let k = c.loop-current.invariant in member_safe g.L.RBTreeOps.node k.2 c.in-Some.is k.1

pub loop-current-preserved : goal.loop-current-preserved
loop-current-preserved g c =
    let k = c.loop-current.invariant in
    let h = g.met.L.LinkOps.linked_is_covered c.args.links.now _ (sym (g.met.L.RBTreeOps.linked_alike _) ∙ member_linked g.L.RBTreeOps.node k.2 c.in-Some.is k.1) in (
      k.0,
      k.1,
      marks_more k.2 c.in-Some.is (subst (λ (j : ℕ). slice_index_or c.loop-current.marks j false ≡ false) c.index-index.ensures.value c.if-marks-index.false) c.index-index.ensures.value
          (omega (arith, h, k.2.also.long, c.requires.room, c.index-index.ensures.value))
          (member_next g.L.RBTreeOps.node k.2 c.in-Some.is k.1 c.step-current-in-Some.ensures)
          (omega (arith, k.2.counted, ap length (here k.2 c.in-Some.is).rest_is)),
    )

pub returns-clause-marked : goal.returns-clause-marked
returns-clause-marked g c s shown =
    let k = c.loop-current.invariant in
    (subst (λ (x : List Place). AreUnmarked c.args.marks.now x × MarksAlso c.args.marks.now c.loop-current.marks x) (one_sequence k.1 shown) (marks_all k.2 c.in_default.is), tt)

pub returns-then-marks-index-clause-only : goal.returns-then-marks-index-clause-only
returns-then-marks-index-clause-only g c = let k = c.loop-current.invariant in member_marks g.L.RBTreeOps.node k.2 k.1 g.met.L.RBTreeOps.linked_alike

pub returns-clause-only : goal.returns-clause-only
returns-clause-only g c = let k = c.loop-current.invariant in member_marks g.L.RBTreeOps.node k.2 k.1 g.met.L.RBTreeOps.linked_alike
