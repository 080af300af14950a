-- Lemmas on hash tables after a call of a test: the table still represents some sequence of members.
use Rattle.std.proofs.Common.{◌≡◌, ◌↔◌, ℕ, IsTrue, Bool, true, false, Option, Some, None, List, [], ◌∷◌, ◌++◌, Result, Ok, Err, IfOk, IfErr, IfSome, IfNone, refl, subst}
use Rattle.std.specs.Bool.{OnTrue, OnFalse}
use Rattle.ic_link_ops.specs.Prelude.{Place, Objects, Cut, join, first, IsAfter, IsMember, Table, Successor}
use Rattle.std.specs.Cmp.{IsPartialEquivalence}
use Rattle.ic_link_ops.proofs.SequenceLemmas.{member_split}
use Rattle.ic_hash_table.specs.declared.table.HashTable.{HashTable}
use Rattle.ic_hash_table.specs.Prelude.{BelongsIn, IsNew, AreSideBySide, HoldsSideBySide, Finds}
use Rattle.ic_hash_table.proofs.Chains.{chains_nothing}
use Rattle.ic_hash_table.proofs.SideBySideSequences.{take_beside}

-- `Goal` holds for every result of an insert of a new key if it holds in three cases: the object is inserted, a member has the key, and the insert is
-- refused
pub unique_either : {Y X P Q R S Goal : Type 0} (W : X → Type 0) (r : Result (Option Y) X) → IfOk r (λ found. IfSome found (λ member. Q)) → IfOk r (λ found. IfNone found P)
    → IfErr r (λ e. W e × S × R) → (P → Goal) → (Q → Goal) → (R → S → Goal) → Goal
unique_either W (Ok None) same inserted refused puts keeps refuses = puts inserted
unique_either W (Ok (Some y)) same inserted refused puts keeps refuses = keeps same
unique_either W (Err e) same inserted refused puts keeps refuses = refuses refused.2 refused.1

-- a removal by a key removes the member `r`, or finds none. If `H` holds of the sequence `s` before the removal, then `J` holds of some sequence after it
pub taken_either : (H J : List Place → Type 0) (is : Place → Bool) {Same : Type 0} (r : Option Place) (s : List Place) → H s → Finds is s r
    → IfSome r (λ p. (front back : List Place) → H (front ++ p ∷ back) → J (front ++ back)) → IfNone r Same → (Same → J s) → (u : List Place) × J u
taken_either H J is None s held found removed nothing same = (s, same nothing)
taken_either H J is (Some p) s held found removed nothing same = (found.0 ++ found.1, removed found.0 found.1 (subst H found.2 held))

-- the result `b` of a call says whether the call did something. If `Goal` holds both for true and for false, then it holds for `b`
pub told_either : {P Q Goal : Type 0} (b : Bool) → OnTrue b P → OnFalse b Q → (P → Goal) → (Q → Goal) → Goal
told_either true did not_done does keeps = does did
told_either false did not_done does keeps = keeps not_done

-- a cursor is on the first member of the sequence `s`, or at null if `s` is empty. Then `s` has a gap after the cursor
pub gap_after_first : (s : List Place) (r : Option Place) → r ≡ first s → (gap : Cut) × (join gap ≡ s) × IsAfter gap r
gap_after_first [] r is = (record { front = []; back = [] }, refl, is)
gap_after_first (x ∷ s) r is = (record { front = x ∷ []; back = s }, refl, is)

-- A NEW TABLE has no members, so members with equal keys are consecutive in it
pub new_beside : {E A B V K : Type 0} (successor : E → Successor) (hash : A → V → ℕ) (fronts : B → List (Option Place)) (eq : K → K → Bool) (key_of : A → V → K) (t : Table E)
    (table : HashTable A B) (objects : Objects V) → IsNew fronts table → HoldsSideBySide successor hash fronts eq key_of t table objects
new_beside successor hash fronts eq key_of t table objects new = (
  [],
  record {
    distinct = tt;
    chained = chains_nothing successor (BelongsIn table.slots (hash table.adapter) objects) t 0 (fronts table.buckets) new.none;
    placed = tt;
    counted = new.counted;
    well_formed = new.well_formed;
    enough = new.enough;
  },
  tt,
)

-- AFTER A REMOVAL, whatever its result is, alike members are still consecutive. `H` holds of the sequence before the removal, and `J` of the sequence after
-- it
pub removed_beside : (alike : Place → Place → Bool) → IsPartialEquivalence alike → (H J : List Place → Type 0) {Same : Type 0} (answer : Bool) {p : Place} (s : List Place) → H s
    → AreSideBySide alike s → (IsTrue answer ↔ IsMember p s) → ((front back : List Place) → H (front ++ p ∷ back) → J (front ++ back)) → OnFalse answer Same → (Same → J s)
    → (u : List Place) × J u × AreSideBySide alike u
removed_beside alike laws H J true {p} s held side iff removed nothing same =
    let m = member_split p s (iff.0 refl) in
    (m.0 ++ m.1, removed m.0 m.1 (subst H m.2 held), take_beside alike laws p m.0 m.1 (subst (AreSideBySide alike) m.2 side))
removed_beside alike laws H J false s held side iff removed nothing same = (s, same nothing, side)
