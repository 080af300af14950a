use Rattle.std.proofs.Common.{Some, [], ◌∷◌, length, refl, sym, ap, ◌∙◌, arith}
use Rattle.ic_link_ops.specs.SinglyLinkedList.{next_of}
use Rattle.ic_link_ops.proofs.SequenceLemmas.{some_same}
use Rattle.ic_link_ops.proofs.SinglyLists.{walk_of, walk_linked, represented_length}
use Rattle.ic_chain.proofs.Walking.{rest_goes_on, rest_ends}
use Rattle.ic_raw.specs.Singly.{lent_table, successor}
use Rattle.ic_raw.proofs.Gaps.{never}
use Rattle.ic_raw.proofs.Singly.{covered, leads_on, ends_there}
use Rattle.ic_raw.proofs.stack.last_from.Goals as goal

pub loop-left-init : goal.loop-left-init
loop-left-init c =
    let t = lent_table c.args.links.now in record {
      leads = record { walked = []; chain = tt; starts = refl };
      rest = λ s shown. (s, walk_of t shown, refl, rw c.places-left.ensures (represented_length t (covered c.args.links.now) _ s shown));
    }

pub returns-then-not-is_linked-clause-shown : goal.returns-then-not-is_linked-clause-shown
returns-then-not-is_linked-clause-shown c s shown =
    let rest = c.loop-left.invariant.rest s shown in
    absurd (never c.if-not-is_linked.true (c.is_linked.ensures ∙ walk_linked (lent_table c.args.links.now).entry c.loop-left.at rest.0 rest.1))

pub returns-in_default-clause-shown : goal.returns-in_default-clause-shown
returns-in_default-clause-shown c s shown =
    let rest = c.loop-left.invariant.rest s shown in
    rest_ends {step = next_of successor} (λ e b a h. h.next) rest.1.part (sym c.next.ensures ∙ c.in_default.is) ∙ sym rest.2

pub returns-in_default-clause-ended : goal.returns-in_default-clause-ended
returns-in_default-clause-ended c end is =
    rw (← some_same is)
    (ends_there c.loop-left.invariant.leads (sym c.is_linked.ensures ∙ c.if-not-is_linked.false) (sym c.next.ensures ∙ c.in_default.is))

pub loop-left-preserved : goal.loop-left-preserved
loop-left-preserved c = record {
  leads = leads_on c.loop-left.invariant.leads (sym c.is_linked.ensures ∙ c.if-not-is_linked.false) (sym c.next.ensures ∙ c.in-Some.is);
  rest = λ s shown.
      let rest = c.loop-left.invariant.rest s shown in
      let more = rest_goes_on {step = next_of successor} (λ e b a h. h.next) rest.1.part (sym c.next.ensures ∙ c.in-Some.is) in
      (more.0, record { before = Some c.loop-left.at; part = more.2 }, rest.2 ∙ more.3, omega (arith, rest.3, ap length {y = c.loop-left.at ∷ more.0} more.1));
}
