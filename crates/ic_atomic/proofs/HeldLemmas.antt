-- Lemmas on the records in all hands of seats, when one record changes, or records move from one hand to another.
use Rattle.std.proofs.Common.{◌≡◌, ℕ, zero, suc, ◌+◌, List, [], ◌∷◌, ◌++◌, length, set, sym, ap, ◌∙◌, subst, arith, append_assoc, append-nil, IsPermutation}
use Rattle.std.proofs.lemmas.List.{set_comm}
use Rattle.std.proofs.lemmas.List.Sorted.{IsPermutation-refl, IsPermutation-sym, IsPermutation-trans, IsPermutation-append_left, IsPermutation-append_right, IsPermutation-append_comm}
use Rattle.std.proofs.lemmas.Grind.{flat_map-append}
use mathlib.Core.Option.{some, some-injective, some-ne-none}
use lib.ListN.{get_elem?}
use Rattle.atomic_table.proofs.Lists.{set_else}
use Rattle.ic_atomic.specs.declared.step.Event.{Event}
use Rattle.ic_atomic.specs.declared.held.HeldRecords.{HeldRecords}
use Rattle.ic_atomic.specs.Held.{records_in}

module _ {A : Type 0} where
  at_append : (xs ys : List A) (k : ℕ) → get_elem? (xs ++ ys) (length xs + k) ≡ get_elem? ys k
  at_append [] ys k = let e : 0 + k ≡ k = omega arith in ap (get_elem? ys) e
  at_append (x ∷ xs) ys k = let e : suc (length xs) + k ≡ suc (length xs + k) = omega arith in ap (get_elem? (x ∷ (xs ++ ys))) e ∙ at_append xs ys k

  set_append : (xs ys : List A) (k : ℕ) (y : A) → set (xs ++ ys) (length xs + k) y ≡ xs ++ set ys k y
  set_append [] ys k y = let e : 0 + k ≡ k = omega arith in ap (λ j. set ys j y) e
  set_append (x ∷ xs) ys k y = let e : suc (length xs) + k ≡ suc (length xs + k) = omega arith in ap (λ j. set (x ∷ (xs ++ ys)) j y) e ∙ ap (λ l. x ∷ l) (set_append xs ys k y)

  -- if the second of three parts of a list is moved to the front, the list has the same elements
  pub second_first : (xs ys zs : List A) → IsPermutation (xs ++ (ys ++ zs)) (ys ++ (xs ++ zs))
  second_first xs ys zs = subst (λ l. IsPermutation l (ys ++ (xs ++ zs))) (append_assoc xs ys zs)
      (subst (IsPermutation ((xs ++ ys) ++ zs)) (append_assoc ys xs zs) (IsPermutation-append_left zs (xs ++ ys) (ys ++ xs) (IsPermutation-append_comm xs ys)))

-- the hand with the number `id` has only the record r. In the list of all records, r has the index `place`, and only the record at this index changes if the
-- hand changes
pub record IsAmong (views : List HeldRecords) (id : ℕ) (r : List Event) : Type 0 where
  pub place : ℕ
  pub at : get_elem? (records_in views) place ≡ some r
  pub changes : (w : HeldRecords) (new : List Event) → w.records ≡ new ∷ [] → records_in (set views id w) ≡ set (records_in views) place new

pub among : (views : List HeldRecords) (id : ℕ) (v : HeldRecords) (r : List Event) → get_elem? views id ≡ some v → v.records ≡ r ∷ [] → IsAmong views id r
among [] id v r e one = absurd (some-ne-none v (sym e))
among (x ∷ xs) zero v r e one =
    let is : x.records ≡ r ∷ [] = ap (λ (u : HeldRecords). u.records) (some-injective x v e) ∙ one in record {
      place = 0;
      at = ap (λ l. get_elem? (l ++ records_in xs) 0) is;
      changes = λ w new h. ap (λ l. l ++ records_in xs) h ∙ ap (λ l. set (l ++ records_in xs) 0 new) (sym is);
    }
among (x ∷ xs) (suc id) v r e one =
    let s = among xs id v r e one in record {
      place = length x.records + s.place;
      at = at_append x.records (records_in xs) s.place ∙ s.at;
      changes = λ w new h. ap (λ l. x.records ++ l) (s.changes w new h) ∙ sym (set_append x.records (records_in xs) s.place new);
    }

-- the records of all hands are those of v, the hand with the number `id`, and `others`. If this hand changes, `others` stays the same
pub record Apart (views : List HeldRecords) (id : ℕ) (v : HeldRecords) : Type 0 where
  pub others : List (List Event)
  pub all : IsPermutation (records_in views) (v.records ++ others)
  pub set_all : (w : HeldRecords) → IsPermutation (records_in (set views id w)) (w.records ++ others)

pub apart : (views : List HeldRecords) (id : ℕ) (v : HeldRecords) → get_elem? views id ≡ some v → Apart views id v
apart [] id v e = absurd (some-ne-none v (sym e))
apart (x ∷ xs) zero v e = record {
  others = records_in xs;
  all = subst (λ (u : HeldRecords). IsPermutation (x.records ++ records_in xs) (u.records ++ records_in xs)) (some-injective x v e) (IsPermutation-refl (x.records ++ records_in xs));
  set_all = λ w. IsPermutation-refl (w.records ++ records_in xs);
}
apart (x ∷ xs) (suc id) v e =
    let a = apart xs id v e in record {
      others = x.records ++ a.others;
      all = IsPermutation-trans _ _ _ (IsPermutation-append_right x.records (records_in xs) (v.records ++ a.others) a.all) (second_first x.records v.records a.others);
      set_all = λ w. IsPermutation-trans _ _ _ (IsPermutation-append_right x.records (records_in (set xs id w)) (w.records ++ a.others) (a.set_all w)) (second_first x.records w.records a.others);
    }

-- if a new seat is added, the records of its hand are added to all records
pub seat_more : (views : List HeldRecords) (w : HeldRecords) → records_in (views ++ w ∷ []) ≡ records_in views ++ w.records
seat_more views w = flat_map-append (λ (v : HeldRecords). v.records) views (w ∷ []) ∙ ap (λ l. records_in views ++ l) (append-nil w.records)

-- if a hand is divided into two hands, all records together stay the same
pub cut : (views : List HeldRecords) (id : ℕ) (v left right : HeldRecords) → get_elem? views id ≡ some v → right.records ++ left.records ≡ v.records
    → IsPermutation (records_in views) (records_in (set views id left ++ right ∷ []))
cut views id v left right at is =
    let a = apart views id v at in
    let l : List (List Event) = left.records in
    let r : List (List Event) = right.records in
    -- The records of all hands are those of the hand `right`, those of the hand `left`, and the others.
    let old : IsPermutation (records_in views) (r ++ (l ++ a.others)) = subst (IsPermutation (records_in views)) (ap (λ k. k ++ a.others) (sym is) ∙ append_assoc r l a.others) a.all in
    let new : IsPermutation (records_in (set views id left) ++ r) ((l ++ a.others) ++ r) = IsPermutation-append_left r (records_in (set views id left)) (l ++ a.others) (a.set_all left) in
    let turned : IsPermutation ((l ++ a.others) ++ r) (r ++ (l ++ a.others)) = IsPermutation-append_comm (l ++ a.others) r in
    subst (IsPermutation (records_in views)) (sym (seat_more (set views id left) right))
    (IsPermutation-trans _ _ _ old (IsPermutation-sym _ _ (IsPermutation-trans _ _ _ new turned)))

-- if the records of one hand move to another hand, all records together stay the same
pub glue : (views : List HeldRecords) (id other : ℕ) (v w both spent : HeldRecords) → get_elem? views id ≡ some v → (other ≡ id → ⊥) → get_elem? (set views id both) other ≡ some w
    → both.records ≡ v.records ++ w.records → spent.records ≡ []
    → IsPermutation (records_in views) (records_in (set (set views id both) other spent))
glue views id other v w both spent at apart_from there joined none =
    let there' : get_elem? views other ≡ some w = sym (set_else views id other both apart_from) ∙ there in
    let a = apart views other w there' in
    let views' : List HeldRecords = set views other spent in
    let at' : get_elem? views' id ≡ some v = set_else views other id spent (λ e. apart_from (sym e)) ∙ at in
    let b = apart views' id v at' in
    -- The records of all hands without those of the hand w.
    let less : IsPermutation (records_in views') a.others = subst (λ k. IsPermutation (records_in views') (k ++ a.others)) none (a.set_all spent) in
    let less' : IsPermutation a.others (v.records ++ b.others) = IsPermutation-trans _ _ _ (IsPermutation-sym _ _ less) b.all in
    let old : IsPermutation (records_in views) (w.records ++ (v.records ++ b.others)) = IsPermutation-trans _ _ _ a.all (IsPermutation-append_right w.records a.others (v.records ++ b.others) less') in
    let new : IsPermutation (records_in (set views' id both)) (v.records ++ (w.records ++ b.others)) = subst (IsPermutation (records_in (set views' id both))) (ap (λ k. k ++ b.others) joined ∙ append_assoc v.records w.records b.others) (b.set_all both) in
    subst (λ l. IsPermutation (records_in views) (records_in l)) (set_comm views other id spent both apart_from)
    (IsPermutation-trans _ _ _ old (IsPermutation-trans _ _ _ (second_first w.records v.records b.others) (IsPermutation-sym _ _ new)))
