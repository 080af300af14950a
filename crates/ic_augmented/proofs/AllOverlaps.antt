-- A caller finds the first member that passes a test, and then again and again the next member that passes. These lemmas say that the caller gets all members
-- that pass, in order.
use Rattle.std.proofs.Common.{◌≡◌, Bool, true, false, cond, Some, None, List, [], ◌∷◌, ◌++◌, refl, sym, ap, ◌∙◌, filter}
use Rattle.ic_link_ops.specs.Prelude.{Place, first}
use Rattle.ic_link_ops.proofs.SequenceLemmas.{none_not, some_same}

-- p is a member of s and passes the test. The members of s that pass are p and the members after p that pass
pub record FirstFound (test : Place → Bool) (s : List Place) (p : Place) : Type 0 where
  pub front : List Place
  pub back : List Place
  pub same : s ≡ front ++ p ∷ back
  pub passing : filter test s ≡ p ∷ filter test back

module _ (test : Place → Bool) where
  -- THE FIRST MEMBER THAT PASSES begins the sequence of all members that pass, and the rest of this sequence comes after it in s
  pub first_found : (s : List Place) (p : Place) → first (filter test s) ≡ Some p → FirstFound test s p
  first_found [] p e = absurd (none_not p e)
  first_found (x ∷ s) p e = by (first_found s p) (test x) refl where
    passes : (b : Bool) → test x ≡ b → filter test (x ∷ s) ≡ cond b (x ∷ filter test s) (filter test s)
    passes b k = ap (λ (c : Bool). cond c (x ∷ filter test s) (filter test s)) k

    by : (first (filter test s) ≡ Some p → FirstFound test s p) → (b : Bool) → test x ≡ b → FirstFound test (x ∷ s) p
    by on true k =
        let here : x ≡ p = some_same (sym (ap first (passes true k)) ∙ e) in
        record { front = []; back = s; same = ap (λ (y : Place). y ∷ s) here; passing = passes true k ∙ ap (λ (y : Place). y ∷ filter test s) here }
    by on false k =
        let r = on (sym (ap first (passes false k)) ∙ e) in
        record { front = x ∷ r.front; back = r.back; same = ap (λ (t : List Place). x ∷ t) r.same; passing = passes false k ∙ r.passing }

  -- if there is no first member that passes, no member passes
  pub none_passes : (s : List Place) → first (filter test s) ≡ None → filter test s ≡ []
  none_passes s e = by (filter test s) refl where
    by : (w : List Place) → filter test s ≡ w → filter test s ≡ []
    by [] k = k
    by (x ∷ w) k = absurd (none_not x (sym e ∙ ap first k))
