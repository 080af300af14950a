use Rattle.std.proofs.Common.{refl, ◌∙◌, arith}
use Rattle.ic_link_ops.specs.SinglyLinkedList.{list_from}
use Rattle.ic_link_ops.proofs.SinglyLists.{represented_length}
use Rattle.ic_raw.specs.Singly.{lent_table}
use Rattle.ic_raw.proofs.Singly.{covered}
use Rattle.ic_raw_keyed.proofs.MovedChains.{reverse_done, reverse_more, reverse_none, reverse_over, represented_linked}
use Rattle.ic_raw_keyed.proofs.growth.reverse.Goals as goal

pub loop-left-init : goal.loop-left-init
loop-left-init c = record {
  comes = λ s shown. reverse_none shown (rw c.places-left.ensures (represented_length (lent_table c.args.links.now) (covered c.args.links.now) (list_from c.args.front) s shown));
  links = λ q. refl;
}

pub turn-at-requires : goal.turn-at-requires
turn-at-requires c =
    let k = rw c.in-Some.is at (c.loop-left.invariant.comes c.requires.0 c.requires.1) in represented_linked k.rest k.after

pub returns-in_default-clause-reversed : goal.returns-in_default-clause-reversed
returns-in_default-clause-reversed c s shown = reverse_done (c.loop-left.invariant.comes s shown) c.in_default.is

pub returns-in_default-clause-frame : goal.returns-in_default-clause-frame
returns-in_default-clause-frame c s shown = (c.loop-left.invariant.comes s shown).frame

pub loop-left-preserved : goal.loop-left-preserved
loop-left-preserved c = record {
  comes = λ s shown.
      let k = rw c.in-Some.is at (c.loop-left.invariant.comes s shown) in
      reverse_more c.turn-at.result shown.distinct k c.turn-at.ensures.frame c.turn-at.ensures.set c.turn-at.ensures.next;
  links = λ q. c.turn-at.ensures.links q ∙ c.loop-left.invariant.links q;
}

pub returns-clause-reversed : goal.returns-clause-reversed
returns-clause-reversed c s shown =
    let k = c.loop-left.invariant.comes s shown in reverse_done k (reverse_over k (omega (arith, c.loop-left-test.false)))

pub returns-clause-frame : goal.returns-clause-frame
returns-clause-frame c s shown = (c.loop-left.invariant.comes s shown).frame
