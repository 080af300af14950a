-- These lemmas say what the chains of a hash table are after an edit of one chain.
use Rattle.std.proofs.Common.{◌≡◌, ◌≢◌, ◌<◌, ◌%◌, ℕ, inl, inr, None, List, ◌∷◌, ◌++◌, length, slice_index_or, slice_set, sym, ap, subst, ◌∙◌}
use Rattle.std.proofs.lemmas.List.{length-set, get_or-set_same, get_or-set_other, get_or_default}
use Rattle.std.proofs.lemmas.Bool.Decides.{eqb_tells}
use Rattle.ic_link_ops.specs.Prelude.{Place, IsDisjoint, ChangesOnlyIn}
use Rattle.ic_link_ops.specs.NumberedCollections.{with_at}
use Rattle.ic_link_ops.proofs.SequenceLemmas.{disjoint_sym, disjoint_cons, disjoint_remove}
use Rattle.ic_link_ops.proofs.RepresentedLists.{represents_frame, free_absent}
use Rattle.ic_raw.specs.declared.words.RawOne.{RawOne}
use Rattle.ic_raw.specs.declared.words.RawFront.{RawFront}
use Rattle.ic_raw.specs.Hash.{slot_of, bucket_at, chain_of, HoldsChains, ChangesOnlyChain}
use Rattle.ic_raw.specs.Singly.{RepresentsList, FreeIn, table_of, word_of_front}
use Rattle.ic_raw.proofs.Singly.{law}

-- ONE BUCKET IS READ OR WRITTEN: the bucket with the number i, to which the hash leads
module _ (buckets : List RawFront) (hash i : ℕ) (at : i ≡ slot_of buckets hash) where
  pub chain_read : (w : RawFront) → i < length buckets → chain_of buckets hash ≡ slice_index_or buckets i w
  chain_read w fits = ap (bucket_at buckets) (sym at) ∙ get_or_default buckets i (word_of_front None) w fits

  pub chain_written : (w : RawFront) → i < length buckets → chain_of (slice_set buckets i w) hash ≡ w
  chain_written w fits =
      ap (λ n. bucket_at (slice_set buckets i w) (hash % n)) (length-set buckets i w) ∙ ap (bucket_at (slice_set buckets i w)) (sym at)
      ∙ get_or-set_same buckets i w (word_of_front None) fits

  pub changes_chain : (w : RawFront) → ChangesOnlyChain buckets (slice_set buckets i w) hash
  changes_chain w = record {
    count = length-set buckets i w;
    others = λ j other. get_or-set_other buckets i j w (word_of_front None) (λ e. other (e ∙ at));
  }

module _ {old new : List RawOne} {buckets buckets' : List RawFront} {chains : ℕ → List Place} (holds : HoldsChains old buckets chains) (hash : ℕ)
    (in_bounds : slot_of buckets hash < length buckets) (changes : ChangesOnlyChain buckets buckets' hash) where
  -- ONE CHAIN IS REPLACED by the chain `after`, and only entries of the places `touched` have changed. The table then holds the new chains, if no
  -- other chain has a member of `after` or `touched`
  pub holds_again : (after touched : List Place) → RepresentsList new (chain_of buckets' hash) after → ChangesOnlyIn (table_of old) (table_of new) touched
      → ((i : ℕ) → i < length buckets → i ≢ slot_of buckets hash → IsDisjoint (chains i) touched × IsDisjoint (chains i) after)
      → HoldsChains new buckets' (with_at chains (slot_of buckets hash) after)
  holds_again after touched shows frame away = record {
    shown = λ i fits. elim (eqb_tells (slot_of buckets hash) i) [
      | inl e ↦ rw e.0 (subst (λ j. RepresentsList new (bucket_at buckets' j) after) (ap (λ n. hash % n) changes.count ∙ e.1) shows)
      | inr n ↦
          let other : i ≢ slot_of buckets hash = λ e. n.1 (sym e) in
          let there = rw changes.count at fits in
          rw (n.0, changes.others i other) (represents_frame touched (holds.shown i there) (away i there other).0 frame.others)
    ];
    apart = λ i j fits fits' differ. elim (eqb_tells (slot_of buckets hash) i) [
      | inl e ↦ elim (eqb_tells (slot_of buckets hash) j) [
        | inl f ↦ absurd (differ (sym e.1 ∙ f.1))
        | inr n ↦ rw (e.0, n.0) (disjoint_sym (chains j) after (away j (rw changes.count at fits') (λ h. n.1 (sym h))).1)
      ]
      | inr m ↦ elim (eqb_tells (slot_of buckets hash) j) [
        | inl f ↦ rw (m.0, f.0) (away i (rw changes.count at fits) (λ h. m.1 (sym h))).1
        | inr n ↦ rw (m.0, n.0) (holds.apart i j (rw changes.count at fits) (rw changes.count at fits') differ)
      ]
    ];
  }

  -- INSERT: after a free place is inserted at the front of one chain, the table holds the new chains, because a free place is in no chain
  pub holds_inserted : (p : Place) → FreeIn old p → RepresentsList new (chain_of buckets' hash) (p ∷ chains (slot_of buckets hash))
      → ChangesOnlyIn (table_of old) (table_of new) (p ∷ chains (slot_of buckets hash))
      → HoldsChains new buckets' (with_at chains (slot_of buckets hash) (p ∷ chains (slot_of buckets hash)))
  holds_inserted p free shows frame = holds_again (p ∷ chains (slot_of buckets hash)) (p ∷ chains (slot_of buckets hash)) shows frame (λ i fits other.
      let away = disjoint_cons p (chains i) (chains (slot_of buckets hash)) (free_absent law (holds.shown i fits) free.unlinked) (holds.apart i (slot_of buckets hash) fits in_bounds other) in
      (away, away))

  -- REMOVE: after a member is removed from its chain, the table holds the remaining chains
  pub holds_removed : (front back : List Place) (p : Place) → chains (slot_of buckets hash) ≡ front ++ p ∷ back → RepresentsList new (chain_of buckets' hash) (front ++ back)
      → ChangesOnlyIn (table_of old) (table_of new) (front ++ p ∷ back) → HoldsChains new buckets' (with_at chains (slot_of buckets hash) (front ++ back))
  holds_removed front back p is shows frame = holds_again (front ++ back) (front ++ p ∷ back) shows frame (λ i fits other.
      let away : IsDisjoint (chains i) (front ++ p ∷ back) = rw (← is) (holds.apart i (slot_of buckets hash) fits in_bounds other) in
      (away, disjoint_sym (front ++ back) (chains i) (disjoint_remove front back (chains i) p (disjoint_sym (chains i) (front ++ p ∷ back) away))))
