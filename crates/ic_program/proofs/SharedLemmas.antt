-- Lemmas about workers. The arguments determine the numbers of workers and places, and `HaveShared` stays true if nothing more is written.
use Rattle.std.proofs.Common.{◌≡◌, Option, List, ℕ, [], ◌∷◌, String, inl, inr, sym, subst, ◌∙◌}
use Rattle.std.specs.Io.KnownBytes.{Appends, Keeps}
use Rattle.std.proofs.KnownBytes.{Keeps-trans}
use Rattle.std.proofs.lemmas.Option.{same_Some}
use Rattle.ic_workers.specs.Claimed.{ClaimedAsOneList}
use Rattle.ic_workers.specs.SharedOut.{SharedOut}
use Rattle.ic_program.specs.declared.workers.Workers.{Workers}
use Rattle.ic_program.specs.Arguments.{AskFor}
use Rattle.ic_program.specs.Printed.{workers_text}
use Rattle.ic_program.specs.Shared.{HaveShared, HaveSharedSoFar}
use Rattle.ic_program.proofs.CutLemmas.{cut_kept, cut_more}

-- the arguments give only one number of workers and one number of places
same_asked : {Z : Type 0} (words : List (String Z)) (a b : Workers) → AskFor words a → AskFor words b → (a.workers ≡ b.workers) × (a.places ≡ b.places)
same_asked [] a b p q = absurd p
same_asked (name ∷ []) a b p q = absurd p
same_asked (name ∷ workers ∷ []) a b p q = absurd p
same_asked (name ∷ workers ∷ places ∷ []) a b p q =
    (same_Some a.workers b.workers (sym p.1 ∙ q.1), same_Some a.places b.places (sym p.2 ∙ q.2))
same_asked (name ∷ workers ∷ places ∷ word ∷ words) a b p q = absurd p

shared_as : (a b : Workers) (output now : Option (List ℕ)) → (a.workers ≡ b.workers) × (a.places ≡ b.places) → HaveShared a output now → HaveShared b output now
shared_as a b output now same s = record {
  lists = s.lists;
  shared = subst (λ w. SharedOut w b.places s.lists) same.0 (subst (λ p. SharedOut a.workers p s.lists) same.1 s.shared);
  one_list = subst (λ w. ClaimedAsOneList w b.places s.lists) same.0 (subst (λ p. ClaimedAsOneList a.workers p s.lists) same.1 s.one_list);
  lines = subst (λ p. Appends output now (workers_text p s.lists)) same.1 s.lines;
}

module _ {Z : Type 0} (words : List (String Z)) (a b : Workers) (p : AskFor words a) (q : AskFor words b) (output mid now : Option (List ℕ)) (kept : Keeps mid now) where
  pub all_shared : HaveShared a output mid → HaveSharedSoFar b output now
  all_shared shared = inr (mid, shared_as a b output mid (same_asked words a b p q) shared, cut_kept mid now kept)

  pub some_shared : HaveSharedSoFar a output mid → HaveSharedSoFar b output now
  some_shared shared =
      elim shared [
        | inl none ↦ inl (Keeps-trans output mid now none kept)
        | inr some ↦ inr (some.0, shared_as a b output some.0 (same_asked words a b p q) some.1, cut_more some.0 mid now some.2 (cut_kept mid now kept))
      ]
