use Rattle.std.proofs.Common.{◌≡◌, ◌++◌, ◌∷◌, Option, Some, refl, sym, ap, subst, ◌∙◌, eqb-true, arith, eq-eqb}
use Rattle.ic_link_ops.specs.Prelude.{Place, same_word}
use Rattle.ic_link_ops.proofs.SequenceLemmas.{none_not, some_same}
use Rattle.ic_raw.proofs.Gaps.{never}
use Rattle.ic_raw.proofs.Singly.{covered}
use Rattle.ic_raw.proofs.HashWalks.{comes_first, comes_linked, comes_on, comes_over, met, met_after, not_missed}
use Rattle.ic_raw.proofs.Own.{past_none, goes_past, is_first}
use Rattle.ic_raw.proofs.chain.place_before.Goals as goal

pub loop-left-init : goal.loop-left-init
loop-left-init c = record {
  stands = λ q none. absurd (none_not q none);
  leads = refl;
  past = past_none c.args.front c.args.member;
  comes = λ s shown. rw c.places-left.ensures (comes_first (covered c.args.links.now) shown);
}

pub returns-in_default-clause-found : goal.returns-in_default-clause-found
returns-in_default-clause-found c ahead back shown =
    absurd (not_missed c.args.member ahead back (c.loop-left.invariant.comes (ahead ++ c.args.member ∷ back) shown) c.in_default.is)

pub returns-then-not-is_linked-clause-found : goal.returns-then-not-is_linked-clause-found
returns-then-not-is_linked-clause-found c ahead back shown =
    let k = rw c.in-Some.is at (c.loop-left.invariant.comes (ahead ++ c.args.member ∷ back) shown) in
    absurd (never c.if-not-is_linked.true (c.is_linked.ensures ∙ comes_linked k))

pub returns-then-eq-clause-found : goal.returns-then-eq-clause-found
returns-then-eq-clause-found c ahead back shown =
    let k = rw c.in-Some.is at (c.loop-left.invariant.comes (ahead ++ c.args.member ∷ back) shown) in
    let same : c.in-Some.place ≡ c.args.member = same_word c.in-Some.place c.args.member (eqb-true _ _ (sym c.eq.ensures ∙ c.if-eq.true)) in
    ap Some (met_after c.args.member ahead back shown.distinct k same)

pub returns-then-eq-clause-member : goal.returns-then-eq-clause-member
returns-then-eq-clause-member c s b shown is =
    let k = rw c.in-Some.is at (c.loop-left.invariant.comes s shown) in
    met c.args.member k (same_word c.in-Some.place c.args.member (eqb-true _ _ (sym c.eq.ensures ∙ c.if-eq.true)))

pub returns-then-eq-clause-first : goal.returns-then-eq-clause-first
returns-then-eq-clause-first c b is =
    let same : c.in-Some.place ≡ c.args.member = same_word c.in-Some.place c.args.member (eqb-true _ _ (sym c.eq.ensures ∙ c.if-eq.true)) in
    rw (← some_same is) (is_first c.in-Some.is c.loop-left.before c.loop-left.invariant.past same)

pub returns-then-eq-clause-leads : goal.returns-then-eq-clause-leads
returns-then-eq-clause-leads c b is =
    let same : c.in-Some.place ≡ c.args.member = same_word c.in-Some.place c.args.member (eqb-true _ _ (sym c.eq.ensures ∙ c.if-eq.true)) in
    rw (← some_same is) (c.loop-left.invariant.leads ∙ c.in-Some.is ∙ ap Some same)

pub loop-left-preserved : goal.loop-left-preserved
loop-left-preserved c = record {
  past = goes_past c.in-Some.is c.loop-left.before c.loop-left.invariant.past
      (λ same. never (sym c.eq.ensures ∙ c.if-eq.false) (eq-eqb _ _ (ap (λ (p : Place). p.word) same))) c.next-current.result;
  stands = λ q is. rw (some_same is) at (sym c.is_linked.ensures ∙ c.if-not-is_linked.false);
  leads = sym c.next-current.ensures;
  comes = λ s shown.
      let k = rw c.in-Some.is at (c.loop-left.invariant.comes s shown) in
      comes_on k shown.distinct (sym c.eq.ensures ∙ c.if-eq.false) c.next-current.ensures;
}

pub returns-clause-found : goal.returns-clause-found
returns-clause-found c ahead back shown =
    let k = c.loop-left.invariant.comes (ahead ++ c.args.member ∷ back) shown in
    absurd (not_missed c.args.member ahead back k (comes_over k (omega (arith, c.loop-left-test.false))))
