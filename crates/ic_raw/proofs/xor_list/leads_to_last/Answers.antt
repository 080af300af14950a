use Rattle.std.proofs.Common.{◌≡◌, [], ◌∷◌, length, refl, sym, ap, ◌∙◌, arith, rules}
use Rattle.ic_link_ops.specs.Sequences.{last}
use Rattle.ic_link_ops.proofs.Walks.{stretch_first, stretch_of}
use Rattle.ic_link_ops.proofs.XorLists.{represented_length}
use Rattle.ic_chain.proofs.Walking.{rest_more, rest_goes_on, rest_ends}
use Rattle.ic_raw.specs.Singly.{lent_table}
use Rattle.ic_raw.specs.Xor.{other}
use Rattle.ic_raw.proofs.DoublyWalks.{nothing_first}
use Rattle.ic_raw.proofs.Entries.{same_word}
use Rattle.ic_raw.proofs.Gaps.{never}
use Rattle.ic_raw.proofs.Singly.{covered}
use Rattle.ic_raw.proofs.Xor.{other_after}
use Rattle.ic_raw.proofs.xor_list.leads_to_last.Goals as goal

pub loop-left-init : goal.loop-left-init
loop-left-init c = record {
  leads = λ s on. (s, rw (sym c.first.ensures ∙ c.in-Some.is) on);
  rest = λ s shown.
      (s, rw (sym c.first.ensures ∙ c.in-Some.is) at (stretch_of shown), refl, rw c.places-left.ensures (represented_length (lent_table c.args.links.now) (covered c.args.links.now) shown));
}

pub returns-then-not-is_linked-clause-shown : goal.returns-then-not-is_linked-clause-shown
returns-then-not-is_linked-clause-shown c s shown =
    let rest = c.loop-left.invariant.rest s shown in
    absurd (never c.if-not-is_linked.true (c.is_linked.ensures ∙ (stretch_first rest.1).linked))

pub returns-in_default-next-clause-shown : goal.returns-in_default-next-clause-shown
returns-in_default-next-clause-shown c s shown =
    let rest = c.loop-left.invariant.rest s shown in
    let end = rest_ends {step = other} (λ e b a h. other_after e b a h.joined) rest.1 (sym c.next.ensures ∙ c.in_default-next.is) in
    let tail = c.last-in_default-next.ensures ∙ shown.tail ∙ rest.2 ∙ sym end in
    search (rules, tail)

pub returns-clause-shown : goal.returns-clause-shown
returns-clause-shown c s shown =
    let rest = c.loop-left.invariant.rest s shown in
    let more = rest_more {step = other} (λ e b a h. other_after e b a h.joined) rest.1 in
    absurd (omega (arith, rest.3, ap length {y = c.loop-left.at ∷ more.0} more.1, c.loop-left-test.false))

pub loop-left-preserved : goal.loop-left-preserved
loop-left-preserved c = record {
  leads = λ s on.
      c.loop-left.invariant.leads (c.loop-left.at ∷ s) (refl, sym c.is_linked.ensures ∙ c.if-not-is_linked.false, rw (sym c.next.ensures ∙ c.in-Some-next.is) on);
  rest = λ s shown.
      let rest = c.loop-left.invariant.rest s shown in
      let more = rest_goes_on {step = other} (λ e b a h. other_after e b a h.joined) rest.1 (sym c.next.ensures ∙ c.in-Some-next.is) in
      (more.0, more.2, rest.2 ∙ more.3, omega (arith, rest.3, ap length {y = c.loop-left.at ∷ more.0} more.1));
}

-- a list that has no first member has no last member
pub returns-in_default-clause-shown : goal.returns-in_default-clause-shown
returns-in_default-clause-shown c s shown =
    let nothing : s ≡ [] = nothing_first s (sym shown.head ∙ sym c.first.ensures ∙ c.in_default.is) in
    let tail = c.last.ensures ∙ shown.tail ∙ ap last nothing in
    search (rules, tail)

pub returns-in_default-clause-ended : goal.returns-in_default-clause-ended
returns-in_default-clause-ended c same =
    ([], (sym c.first.ensures ∙ c.in_default.is, sym c.last.ensures ∙ same_word _ _ c.to_word.ensures.value c.to_word-in_default.ensures.value same))

pub returns-in_default-next-clause-ended : goal.returns-in_default-next-clause-ended
returns-in_default-next-clause-ended c same =
    let tail = sym c.last-in_default-next.ensures ∙ same_word _ _ c.to_word-in_default-next.ensures.value c.to_word-in_default-next-2.ensures.value same in
    c.loop-left.invariant.leads (c.loop-left.at ∷ []) (refl, sym c.is_linked.ensures ∙ c.if-not-is_linked.false, (sym c.next.ensures ∙ c.in_default-next.is, tail))
