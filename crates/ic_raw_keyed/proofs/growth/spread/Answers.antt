use Rattle.std.proofs.Common.{◌≡◌, ◌-◌, Option, Some, List, true, length, refl, sym, ap, ◌∙◌, subst, arith, length-set}
use Rattle.ic_link_ops.specs.Prelude.{Place, Extent, list_from, successor_at}
use Rattle.ic_link_ops.proofs.SinglyLists.{represented_length}
use Rattle.ic_raw.specs.declared.words.RawFront.{RawFront}
use Rattle.ic_raw.specs.Singly.{lent_table, successor, word_of_front}
use Rattle.ic_raw.proofs.Singly.{covered}
use Rattle.ic_raw_keyed.proofs.MovedChains.{SpreadsTo, represented_linked, spread_done, spread_more, spread_none, spread_over_now}
use Rattle.ic_raw_keyed.proofs.growth.spread.Goals as goal

pub loop-left-init : goal.loop-left-init
loop-left-init c = record {
  comes = λ r shown.
      spread_none c.args.links.now shown (rw c.places-left.ensures (represented_length (lent_table c.args.links.now) (covered c.args.links.now) (list_from c.args.front) r shown));
  links = λ q. refl;
  count = refl;
}

pub slot_for-slot-requires-clause-keys : goal.slot_for-slot-requires-clause-keys
slot_for-slot-requires-clause-keys c =
    let k = rw c.in-Some.is at (c.loop-left.invariant.comes c.requires.shown.0 c.requires.shown.1) in
    let inside = covered c.loop-left.links c.in-Some.place (represented_linked k.rest k.after) in
    let places = ap (λ (x : Extent). x.places) k.frame.extent in
    let keys = c.requires.keys in
    omega (arith, inside, places, keys)

pub turn-at-requires : goal.turn-at-requires
turn-at-requires c =
    let k = rw c.in-Some.is at (c.loop-left.invariant.comes c.requires.shown.0 c.requires.shown.1) in represented_linked k.rest k.after

pub returns-in_default-clause-spread : goal.returns-in_default-clause-spread
returns-in_default-clause-spread c r shown = spread_done (c.loop-left.invariant.comes r shown) c.in_default.is

pub loop-left-preserved : goal.loop-left-preserved
loop-left-preserved c = record {
  comes = λ r shown.
      let k = rw c.in-Some.is at (c.loop-left.invariant.comes r shown) in
      let set = subst (λ (o : Option Place). successor_at successor (lent_table c.turn-at.new.links) c.in-Some.place ≡ record { linked = true; next = o }) c.front_at.ensures c.turn-at.ensures.set in
      let more = spread_more c.turn-at.new.links c.turn-at.result c.slot_for-slot.result k c.loop-left.invariant.count c.turn-at.ensures.frame set c.turn-at.ensures.next
      c.slot_for-slot.ensures.slot c.slot_for-slot.ensures.fits in
      subst (λ (w : List RawFront). SpreadsTo c.args.hashes.now c.args.links.now c.turn-at.new.links c.args.buckets.now w r c.turn-at.result (c.loop-left.left - 1)) (sym c.set_front.ensures) more;
  links = λ q. c.turn-at.ensures.links q ∙ c.loop-left.invariant.links q;
  count = ap (λ (w : List RawFront). length w) c.set_front.ensures ∙ length-set c.loop-left.buckets c.slot_for-slot.result (word_of_front (Some c.in-Some.place)) ∙ c.loop-left.invariant.count;
}

pub returns-clause-spread : goal.returns-clause-spread
returns-clause-spread c r shown =
    let k = c.loop-left.invariant.comes r shown in spread_done k (spread_over_now k (omega (arith, c.loop-left-test.false)))
