-- This file proves which places are linked after two edits.
use Rattle.std.proofs.Common.{◌≡◌, ◌≢◌, Some, Bool, true, false, refl, sym, ◌∙◌, ap, subst}
use Rattle.ic_link_ops.specs.Base.{Place, Table, LinksAlso, Unlinks, KeepsLinked}
use Rattle.ic_link_ops.specs.Walk.{is_end}
use Rattle.ic_link_ops.proofs.SequenceLemmas.{some_same}
use Rattle.ic_link_ops.proofs.Walks.{is_end_yes, is_end_no}

-- If a statement is true for the place p and for every other place, it is true for each place q.
pub everywhere : (P : Place → Type 0) (p q : Place) → P p → (q ≢ p → P q) → P q
everywhere P p q at other = by (is_end (Some p) q) refl where
  by : (b : Bool) → is_end (Some p) q ≡ b → P q
  by true e = subst P (some_same (is_end_yes (Some p) q e)) at
  by false e = other (λ h. is_end_no (Some p) q e (ap Some (sym h)))

module _ {E : Type 0} {linked : E → Bool} (t0 t1 t2 : Table E) (p : Place) where
  -- If a place is linked and then unlinked again, the same places are linked as before.
  pub unlinked_again : LinksAlso linked t0 t1 p → Unlinks linked t1 t2 p → KeepsLinked linked t0 t2
  unlinked_again on off q =
      everywhere (λ x. linked (t2.entry x) ≡ linked (t0.entry x)) p q (off.is ∙ sym on.was) (λ n. off.others q n ∙ on.others q n)

  -- If a place is unlinked and then linked again, the same places are linked as before.
  pub linked_again : Unlinks linked t0 t1 p → LinksAlso linked t1 t2 p → KeepsLinked linked t0 t2
  linked_again off on q =
      everywhere (λ x. linked (t2.entry x) ≡ linked (t0.entry x)) p q (on.is ∙ sym off.was) (λ n. on.others q n ∙ off.others q n)
