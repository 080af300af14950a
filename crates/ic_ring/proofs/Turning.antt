-- Lemmas about two writes: one sets the next place of a first place, and the other sets the previous place of a second place. The entries may contain any
-- words before.
use Rattle.std.proofs.Common.{◌≡◌, Some, inl, inr, ◌∙◌, ap, subst, sym}
use Rattle.ic_link_ops.specs.Prelude.{Place, Table, ChangesOnly, Neighbors, neighbors_at}
use Rattle.ic_unsafe_ref.proofs.PlaceLemmas.{same_or_not}
use Rattle.ic_ring.specs.Rings.{TurnsTo}

module _ {E : Type 0} (n : E → Neighbors) {old mid new : Table E} {first second next prev : Place} where
  -- two writes set the neighbors: first the next place of the first place, and then the previous place of the second place
  pub turned : ChangesOnly old mid first → neighbors_at n mid first ≡ record (neighbors_at n old first) { next = Some next }
      → ChangesOnly mid new second → neighbors_at n new second ≡ record (neighbors_at n mid second) { prev = Some prev }
      → TurnsTo n old new first second next prev
  turned frame set frame2 set2 = record {
    next_is = next_kept first ∙ ap (λ a. a.next) set;
    prev_is = ap (λ a. a.prev) set2;
    other_next = λ q out. next_kept q ∙ ap (λ e. (n e).next) (frame.others q out);
    other_prev = λ q out. ap (λ e. (n e).prev) (frame2.others q out) ∙ prev_kept q;
    linked = λ q. linked_kept q ∙ linked_before q;
  } where
    next_kept : (q : Place) → (neighbors_at n new q).next ≡ (neighbors_at n mid q).next
    next_kept q = elim (same_or_not q second) [
      | inl same ↦ subst (λ p. (neighbors_at n new p).next ≡ (neighbors_at n mid p).next) (sym same) (ap (λ a. a.next) set2)
      | inr out ↦ ap (λ e. (n e).next) (frame2.others q out)
    ]

    prev_kept : (q : Place) → (neighbors_at n mid q).prev ≡ (neighbors_at n old q).prev
    prev_kept q = elim (same_or_not q first) [
      | inl same ↦ subst (λ p. (neighbors_at n mid p).prev ≡ (neighbors_at n old p).prev) (sym same) (ap (λ a. a.prev) set)
      | inr out ↦ ap (λ e. (n e).prev) (frame.others q out)
    ]

    linked_kept : (q : Place) → (neighbors_at n new q).linked ≡ (neighbors_at n mid q).linked
    linked_kept q = elim (same_or_not q second) [
      | inl same ↦ subst (λ p. (neighbors_at n new p).linked ≡ (neighbors_at n mid p).linked) (sym same) (ap (λ a. a.linked) set2)
      | inr out ↦ ap (λ e. (n e).linked) (frame2.others q out)
    ]

    linked_before : (q : Place) → (neighbors_at n mid q).linked ≡ (neighbors_at n old q).linked
    linked_before q = elim (same_or_not q first) [
      | inl same ↦ subst (λ p. (neighbors_at n mid p).linked ≡ (neighbors_at n old p).linked) (sym same) (ap (λ a. a.linked) set)
      | inr out ↦ ap (λ e. (n e).linked) (frame.others q out)
    ]
