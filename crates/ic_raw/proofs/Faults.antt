-- These lemmas say why a call is refused. A call tests one place after the other.
use Rattle.std.proofs.Common.{◌≡◌, ◌≢◌, ℕ, zero, suc, Bool, cond, nat_lt, List, [], ◌∷◌, Option, Some, None, refl, sym, ap, subst, ◌∙◌}
use Rattle.ic_link_ops.specs.Prelude.{Place, index_of, Table, table_of, Width, nameable}
use Rattle.ic_raw.specs.declared.table.RawTable.{RawTable}
use Rattle.ic_raw.specs.Prelude.{refusal, IsNoneOrLinked, nameable_table, member_fault, place_fault, place_of}
use Rattle.ic_raw.proofs.Numbers.{none_named}

-- if the first fault in the list is not `OK`, a refused call returns it
pub by_first : {n m : ℕ} (faults : List ℕ) → n ≡ m → n ≢ 0 → n ≡ refusal (m ∷ faults)
by_first {n = zero} faults e fault = absurd (fault refl)
by_first {n = suc n} {m} faults e fault = ap (λ k. refusal (k ∷ faults)) e

-- if the first fault in the list is `OK`, a refused call returns the same status as for the rest of the list
pub by_others : {n m : ℕ} (faults : List ℕ) → n ≡ m → n ≡ 0 → refusal faults ≡ refusal (m ∷ faults)
by_others {n} {m} faults e none = ap (λ k. refusal (k ∷ faults)) (sym none ∙ e)

-- there is no fault if the caller names no member, or names a linked place as a member
pub faultless : {W : Type 0} (is_linked : W → Bool) (t : Table W) (at : Option Place) → IsNoneOrLinked is_linked t at → member_fault is_linked t at ≡ 0
faultless is_linked t None stands = refl
faultless is_linked t (Some p) stands = ap (λ b. cond b 0 (cond (nat_lt (index_of p) t.extent.places) 3 1)) (stands p refl)

-- if a place is to be inserted at an end of a list, a refusal depends only on the fault of this place. Its fault in a view is its fault in the words
-- that the caller lent
module _ {W : Type 0} (is_linked : W → Bool) (width : Width) (unlinked : W) (t : RawTable W) where
  pub place_fault_back : (place : Option Place) → place_fault is_linked (nameable_table width unlinked t) place ≡ place_fault is_linked (table_of unlinked (nameable width t.entries.now)) place
  place_fault_back None = refl
  place_fault_back (Some p) = refl

  pub end_fault : {es : List W} (place : Option Place) {n : ℕ} → t.entries.now ≡ es
      → n ≡ refusal (member_fault is_linked (nameable_table width unlinked t) (place_of 4294967295) ∷ place_fault is_linked (nameable_table width unlinked t) place ∷ [])
      → n ≡ refusal (place_fault is_linked (table_of unlinked (nameable width es)) place ∷ [])
  end_fault place {n} e why =
      let alone = subst (λ at. n ≡ refusal (member_fault is_linked (nameable_table width unlinked t) at ∷ place_fault is_linked (nameable_table width unlinked t) place ∷ [])) none_named why in
      rw (← e) (alone ∙ ap (λ m. refusal (m ∷ [])) (place_fault_back place))
