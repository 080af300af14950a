use Rattle.std.proofs.Common.{◌≡◌, [], refl, sym, ◌∙◌, Some, None, subst}
use Rattle.ic_link_ops.proofs.SequenceLemmas.{some_same}
use Rattle.ic_raw.proofs.Lists.{removed}
use Rattle.ic_raw.proofs.Xor.{next_represented}
use Rattle.ic_raw.specs.Prelude.{TakenOut, gap_between, beyond}
use Rattle.ic_raw.specs.Singly.{lent_table}
use Rattle.ic_raw.proofs.Own.{sides_are, taken_out}
use Rattle.ic_raw.proofs.Touches.{touches_remove}
use Rattle.ic_raw.proofs.xor_list.pop_before_others.Goals as goal

pub returns-clause-removed : goal.returns-clause-removed
returns-clause-removed c p q s some shown' =
    let one : p ≡ c.in-Some.first = sym (some_same (sym c.in-Some.is ∙ c.first.ensures ∙ shown'.head)) in
    let shown = rw one at shown' in
    let after = sym c.in-Some-next.is ∙ c.next.ensures ∙ next_represented [] c.in-Some.first s shown refl in
    let off = c.bypass.ensures in
    let released = c.release_link.ensures in (
      sym (some_same some) ∙ sym one,
      rw one (removed [] c.in-Some.first s refl after shown off.shows off.extent off.others released.frame),
      rw one released.released.is,
    )

pub returns-clause-tail : goal.returns-clause-tail
returns-clause-tail c q is = c.bypass.ensures.ends.tail _ refl

pub returns-clause-own : goal.returns-clause-own
returns-clause-own c q is =
    subst (λ p. TakenOut (gap_between None (beyond (lent_table c.args.links.now) (Some p) None)) c.args.list.now c.bypass.new.self) (some_same is)
    (taken_out (sides_are refl (sym c.in-Some-next.is ∙ c.next.ensures)) c.bypass.ensures.ends)

pub returns-clause-touched : goal.returns-clause-touched
returns-clause-touched c q is =
    let off = c.bypass.ensures in
    let released = c.release_link.ensures in
    let second = sym c.in-Some-next.is ∙ c.next.ensures in
    rw (sym (some_same is), sym second) (touches_remove off.trace_stays off.others released.released released.frame)
