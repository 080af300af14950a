-- This file proves that a change of one place's entry is a change of one neighbor of the place.
use Rattle.std.proofs.Common.{◌≡◌, Option, Some, sym, ap}
use Rattle.ic_link_ops.specs.Base.{Place, Table, ChangesOnly}
use Rattle.ic_link_ops.specs.Turns.{TurnsAfter, TurnsBefore}
use Rattle.ic_link_ops.proofs.SequenceLemmas.{some_same}

module _ {E : Type 0} {between : E → Option Place → Option Place → Type 0} where
  -- Only the entry of p changes. If the change replaces the place after p, `TurnsAfter` holds. If the change replaces the place
  -- before p, `TurnsBefore` holds.
  pub turns_after : {old new : Table E} {p : Place} {from to : Option Place} → ChangesOnly old new p
      → ((a : Option Place) → between (old.entry p) a from → between (new.entry p) a to) → TurnsAfter between old.entry new.entry (Some p) from to
  turns_after {old} {new} {p} {from} {to} frame turn = record {
    turned = λ q a e h. let k : p ≡ q = some_same e in rw (← k) (turn a (rw (← k) at h));
    others = λ q apart. frame.others q (λ e. apart (ap Some (sym e)));
  }

  pub turns_before : {old new : Table E} {p : Place} {from to : Option Place} → ChangesOnly old new p
      → ((b : Option Place) → between (old.entry p) from b → between (new.entry p) to b) → TurnsBefore between old.entry new.entry (Some p) from to
  turns_before {old} {new} {p} {from} {to} frame turn = record {
    turned = λ q b e h. let k : p ≡ q = some_same e in rw (← k) (turn b (rw (← k) at h));
    others = λ q apart. frame.others q (λ e. apart (ap Some (sym e)));
  }
