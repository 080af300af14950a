use Rattle.std.proofs.Common.{◌≡◌, ℕ, true, false, slice_index_or, ◌+◌, refl, sym, ap, ◌∙◌, subst, arith}
use Rattle.ic_check.proofs.Checking.{checks_stands, checks_whole, stands_after}
use Rattle.ic_check.proofs.MarkedWalks.{walks_none, walks_more, walks_met, walks_few, walks_covered, walks_only, walks_all}
use Rattle.ic_check.proofs.gather.LinkListGather.gather.Goals as goal

pub loop-current-init : goal.loop-current-init
loop-current-init g c = record { walks = walks_none g.K.ForwardLinks.step g.met.K.ForwardLinks.leads c.args.marks.now (sym c.first-current.ensures) }

pub returns-then-not-tells_linked-clause-gathered : goal.returns-then-not-tells_linked-clause-gathered
returns-then-not-tells_linked-clause-gathered g c s shown free =
    let stands = checks_stands g.K.ForwardLinks.step g.met.K.ForwardLinks.leads c.loop-current.invariant.walks.checks c.in-Some.is s shown.chain shown.head in
    let linked = g.met.K.ForwardLinks.between_linked _ _ _ stands.2 in
    cc linked

pub returns-then-marks-index-clause-gathered : goal.returns-then-marks-index-clause-gathered
returns-then-marks-index-clause-gathered g c s shown free =
    walks_met g.K.ForwardLinks.step g.met.K.ForwardLinks.leads c.loop-current.invariant.walks c.in-Some.is
    (subst (λ (j : ℕ). slice_index_or c.loop-current.marks j false ≡ true) c.index-index.ensures.value c.if-marks-index.true) s shown.distinct shown.chain shown.head free

pub returns-then-not-names_prev-clause-gathered : goal.returns-then-not-names_prev-clause-gathered
returns-then-not-names_prev-clause-gathered g c s shown free =
    let stands = checks_stands g.K.ForwardLinks.step g.met.K.ForwardLinks.leads c.loop-current.invariant.walks.checks c.in-Some.is s shown.chain shown.head in
    let after = c.names_prev.ensures.1 (stands_after g.met.K.ForwardLinks.leads stands.2) in
    cc after

pub overflow_add-count : goal.overflow_add-count
overflow_add-count g c = let few = walks_few g.K.ForwardLinks.step g.met.K.ForwardLinks.leads c.loop-current.invariant.walks in omega (arith, few)

pub loop-current-smaller : goal.loop-current-smaller
loop-current-smaller g c =
    let k = c.loop-current.invariant.walks in
    let covered = g.met.L.LinkOps.linked_is_covered c.args.links.now _ (sym c.tells_linked.ensures ∙ c.if-not-tells_linked.false) in
    let more = walks_more g.K.ForwardLinks.step g.met.K.ForwardLinks.leads k {ahead = c.next-after.result} {more = c.loop-current.count + 1} c.in-Some.is
    (subst (λ (j : ℕ). slice_index_or c.loop-current.marks j false ≡ false) c.index-index.ensures.value c.if-marks-index.false)
    (rw c.next-after.ensures (c.names_prev.ensures.0 c.if-not-names_prev.false)) refl c.index-index.ensures.value (omega (arith, covered, k.also.long, c.requires.room, c.index-index.ensures.value)) in
    let in_bounds = walks_covered g.K.ForwardLinks.step g.met.K.ForwardLinks.leads more (λ q b a h. g.met.L.LinkOps.linked_is_covered c.args.links.now q (g.met.K.ForwardLinks.between_linked _ b a h)) in
    omega (arith, in_bounds)

pub loop-current-preserved : goal.loop-current-preserved
loop-current-preserved g c =
    let k = c.loop-current.invariant.walks in
    let covered = g.met.L.LinkOps.linked_is_covered c.args.links.now _ (sym c.tells_linked.ensures ∙ c.if-not-tells_linked.false) in
    record {
      walks = walks_more g.K.ForwardLinks.step g.met.K.ForwardLinks.leads k c.in-Some.is
          (subst (λ (j : ℕ). slice_index_or c.loop-current.marks j false ≡ false) c.index-index.ensures.value c.if-marks-index.false)
          (rw c.next-after.ensures (c.names_prev.ensures.0 c.if-not-names_prev.false)) refl c.index-index.ensures.value (omega (arith, covered, k.also.long, c.requires.room, c.index-index.ensures.value));
    }

pub returns-then-ends_with-clause-gathered : goal.returns-then-ends_with-clause-gathered
returns-then-ends_with-clause-gathered g c =
    walks_all g.K.ForwardLinks.step g.met.K.ForwardLinks.leads c.loop-current.invariant.walks c.in_default.is (c.ends_with.ensures.0 c.if-ends_with.true)

pub returns-else-ends_with-clause-gathered : goal.returns-else-ends_with-clause-gathered
returns-else-ends_with-clause-gathered g c s shown free =
    let whole = checks_whole g.K.ForwardLinks.step g.met.K.ForwardLinks.leads c.loop-current.invariant.walks.checks c.in_default.is s shown.chain shown.head in
    let ends = c.ends_with.ensures.1 (shown.tail ∙ ap g.K.ListKind.kept (sym whole)) in
    cc ends

pub returns-then-not-tells_linked-clause-length : goal.returns-then-not-tells_linked-clause-length
returns-then-not-tells_linked-clause-length g c = c.loop-current.invariant.walks.also.long

pub returns-then-not-tells_linked-clause-only : goal.returns-then-not-tells_linked-clause-only
returns-then-not-tells_linked-clause-only g c = walks_only g.K.ForwardLinks.step g.met.K.ForwardLinks.leads c.loop-current.invariant.walks g.L.LinkOps.linked g.met.K.ForwardLinks.between_linked

pub returns-then-marks-index-clause-only : goal.returns-then-marks-index-clause-only
returns-then-marks-index-clause-only g c = walks_only g.K.ForwardLinks.step g.met.K.ForwardLinks.leads c.loop-current.invariant.walks g.L.LinkOps.linked g.met.K.ForwardLinks.between_linked

pub returns-then-not-names_prev-clause-only : goal.returns-then-not-names_prev-clause-only
returns-then-not-names_prev-clause-only g c = walks_only g.K.ForwardLinks.step g.met.K.ForwardLinks.leads c.loop-current.invariant.walks g.L.LinkOps.linked g.met.K.ForwardLinks.between_linked

pub returns-then-ends_with-clause-only : goal.returns-then-ends_with-clause-only
returns-then-ends_with-clause-only g c = walks_only g.K.ForwardLinks.step g.met.K.ForwardLinks.leads c.loop-current.invariant.walks g.L.LinkOps.linked g.met.K.ForwardLinks.between_linked

pub returns-else-ends_with-clause-only : goal.returns-else-ends_with-clause-only
returns-else-ends_with-clause-only g c = walks_only g.K.ForwardLinks.step g.met.K.ForwardLinks.leads c.loop-current.invariant.walks g.L.LinkOps.linked g.met.K.ForwardLinks.between_linked
