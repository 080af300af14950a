-- How one holder claims places one after the other, and gets a list of the places whose claims succeeded.
use Rattle.std.proofs.Common.{◌≡◌, ◌+◌, ℕ, Bool, true, false, if◌then◌else◌, List, [], ◌∷◌, ◌++◌, length, refl, sym, ap, ◌∙◌, subst, arith, append_assoc, append-nil}
use Rattle.ic_link_ops.specs.Prelude.{Place, IsAbsent, Table, ChangesOnlyIn, Ends}
use Rattle.ic_link_ops.specs.LinkedList.{Neighbors, Represents}
use Rattle.ic_link_ops.proofs.SequenceLemmas.{absent_left, absent_right, absent_both}
use Rattle.ic_atomic.specs.declared.step.Step.TheVariants.{Claim}
use Rattle.ic_atomic.specs.declared.step.Event.{Event}
use Rattle.ic_atomic.specs.Records.{event}
use Rattle.ic_atomic.specs.Gathering.{claims_of_each, chosen}

-- the events of the claims of the places ps and then p are the events of the claims of ps, followed by the claim of p
claims_more : (ps : List Place) (got : List Bool) (p : Place) (b : Bool) → length got ≡ length ps
    → claims_of_each (ps ++ p ∷ []) (got ++ b ∷ []) ≡ claims_of_each ps got ++ event (Claim p) (if b then 0 else 1) ∷ []
claims_more [] [] p b e = refl
claims_more [] (c ∷ got) p b e = absurd (omega (arith, e))
claims_more (q ∷ ps) [] p b e = absurd (omega (arith, e))
claims_more (q ∷ ps) (c ∷ got) p b e = ap (λ (es : List Event). event (Claim q) (if c then 0 else 1) ∷ es) (claims_more ps got p b (omega (arith, e)))

chosen_more : (ps : List Place) (got : List Bool) (p : Place) (b : Bool) → length got ≡ length ps
    → chosen (ps ++ p ∷ []) (got ++ b ∷ []) ≡ chosen ps got ++ (if b then p ∷ [] else [])
chosen_more [] [] p true e = refl
chosen_more [] [] p false e = refl
chosen_more [] (c ∷ got) p b e = absurd (omega (arith, e))
chosen_more (q ∷ ps) [] p b e = absurd (omega (arith, e))
chosen_more (q ∷ ps) (true ∷ got) p b e = ap (λ (s : List Place). q ∷ s) (chosen_more ps got p b (omega (arith, e)))
chosen_more (q ∷ ps) (false ∷ got) p b e = chosen_more ps got p b (omega (arith, e))

one_more : {X : Type 0} (xs : List X) (x : X) → length (xs ++ x ∷ []) ≡ length xs + 1
one_more [] x = refl
one_more (y ∷ xs) x = let e = one_more xs x in omega (arith, e)

-- a place that is not among the offered places ps is not among the places of ps whose claims succeeded
absent_chosen : (q : Place) (ps : List Place) (got : List Bool) → IsAbsent q ps → IsAbsent q (chosen ps got)
absent_chosen q [] got h = tt
absent_chosen q (p ∷ ps) [] h = tt
absent_chosen q (p ∷ ps) (true ∷ got) h = (h.0, absent_chosen q ps got h.1)
absent_chosen q (p ∷ ps) (false ∷ got) h = absent_chosen q ps got h.1

module _ {E : Type 0} (n : E → Neighbors) where
  -- between the tables t and u, the holder claimed the places in `seen` one after the other, and the places whose claims succeeded were appended to the list
  pub record Gathered (t u : Table E) (list new_list : Ends) (r w : List Event) (seen : List Place) (pushed : ℕ) : Type 0 where
    pub got : List Bool
    pub each : length got ≡ length seen
    pub record_is : w ≡ r ++ claims_of_each seen got
    pub count : pushed ≡ length (chosen seen got)
    pub shows : (s : List Place) → Represents n t list s → Represents n u new_list (s ++ chosen seen got)
    pub frame : (s : List Place) → Represents n t list s → ChangesOnlyIn t u (seen ++ s)
    pub extent : u.extent ≡ t.extent

module _ {E : Type 0} {n : E → Neighbors} where
  pub none_gathered : {t : Table E} {list : Ends} {r : List Event} → Gathered n t t list list r r [] 0
  none_gathered {t} {list} {r} = record {
    got = [];
    each = refl;
    record_is = sym (append-nil r);
    count = refl;
    shows = λ s h. subst (Represents n t list) (sym (append-nil s)) h;
    frame = λ s h. record { extent = refl; others = λ q out. refl };
    extent = refl;
  }

  module _ {t u : Table E} {list new_list : Ends} {r w : List Event} {seen : List Place} {pushed : ℕ} (k : Gathered n t u list new_list r w seen pushed) (p : Place) {w' : List Event} where
    record_more : (b : Bool) → w' ≡ w ++ event (Claim p) (if b then 0 else 1) ∷ [] → w' ≡ r ++ claims_of_each (seen ++ p ∷ []) (k.got ++ b ∷ [])
    record_more b is = is ∙ ap (λ (es : List Event). es ++ event (Claim p) (if b then 0 else 1) ∷ []) k.record_is
        ∙ append_assoc r (claims_of_each seen k.got) (event (Claim p) (if b then 0 else 1) ∷ [])
        ∙ ap (λ (es : List Event). r ++ es) (sym (claims_more seen k.got p b k.each))

    -- if the claim of the next place succeeds, this place is appended to the list
    pub gathered_one : {v : Table E} {last_list : Ends} {more_pushed : ℕ} → more_pushed ≡ pushed + 1 → w' ≡ w ++ event (Claim p) 0 ∷ [] → ((s : List Place) → Represents n u new_list s → Represents n v last_list (s ++ p ∷ []))
        → ((s : List Place) → Represents n u new_list s → ChangesOnlyIn u v (p ∷ s)) → v.extent ≡ u.extent → Gathered n t v list last_list r w' (seen ++ p ∷ []) more_pushed
    gathered_one {v} {last_list} counts is joins keeps same =
        let more : chosen (seen ++ p ∷ []) (k.got ++ true ∷ []) ≡ chosen seen k.got ++ p ∷ [] = chosen_more seen k.got p true k.each in
        record {
          got = k.got ++ true ∷ [];
          each = one_more k.got true ∙ ap (λ (m : ℕ). m + 1) k.each ∙ sym (one_more seen p);
          record_is = record_more true is;
          count = counts ∙ ap (λ (m : ℕ). m + 1) k.count ∙ sym (one_more (chosen seen k.got) p) ∙ sym (ap length more);
          shows = λ s h. subst (Represents n v last_list) (append_assoc s (chosen seen k.got) (p ∷ []) ∙ ap (λ (x : List Place). s ++ x) (sym more)) (joins (s ++ chosen seen k.got) (k.shows s h));
          frame = λ s h. record {
            extent = same ∙ k.extent;
            others = λ q out.
                let around = absent_left q (seen ++ p ∷ []) s out in
                let outside = absent_right q (seen ++ p ∷ []) s out in
                let before = absent_left q seen (p ∷ []) around in
                (keeps (s ++ chosen seen k.got) (k.shows s h)).others q ((absent_right q seen (p ∷ []) around).0, absent_both q s (chosen seen k.got) outside (absent_chosen q seen k.got before))
                ∙ (k.frame s h).others q (absent_both q seen s before outside);
          };
          extent = same ∙ k.extent;
        }

    -- if the claim of the next place does not succeed, the list stays as it is
    pub gathered_none : {v : Table E} {last_list : Ends} {more_pushed : ℕ} → more_pushed ≡ pushed → w' ≡ w ++ event (Claim p) 1 ∷ [] → last_list ≡ new_list → v ≡ u
        → Gathered n t v list last_list r w' (seen ++ p ∷ []) more_pushed
    gathered_none {v} {last_list} counts is list_same same_table =
        let same : chosen (seen ++ p ∷ []) (k.got ++ false ∷ []) ≡ chosen seen k.got = chosen_more seen k.got p false k.each ∙ append-nil (chosen seen k.got) in
        record {
          got = k.got ++ false ∷ [];
          each = one_more k.got false ∙ ap (λ (m : ℕ). m + 1) k.each ∙ sym (one_more seen p);
          record_is = record_more false is;
          count = counts ∙ k.count ∙ ap length (sym same);
          shows = λ s h. subst (λ (x : List Place). Represents n v last_list (s ++ x)) (sym same) (rw (list_same, same_table) (k.shows s h));
          frame = λ s h. record {
            extent = ap (λ (x : Table E). x.extent) same_table ∙ k.extent;
            others = λ q out. ap (λ (x : Table E). x.entry q) same_table ∙ (k.frame s h).others q (absent_both q seen s (absent_left q seen (p ∷ []) (absent_left q (seen ++ p ∷ []) s out)) (absent_right q (seen ++ p ∷ []) s out));
          };
          extent = ap (λ (x : Table E). x.extent) same_table ∙ k.extent;
        }
