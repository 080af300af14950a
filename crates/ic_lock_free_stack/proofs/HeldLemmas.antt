-- Lemmas about the accounts of seats: one account changes, or accounts move from one seat to another.
use Rattle.std.proofs.Common.{◌≡◌, ℕ, zero, suc, ◌+◌, List, [], ◌∷◌, ◌++◌, length, set, sym, ap, ◌∙◌, subst, arith, append_assoc, append-nil, IsPermutation}
use Rattle.std.proofs.lemmas.List.{set_comm}
use Rattle.std.proofs.lemmas.List.Sorted.{IsPermutation-refl, IsPermutation-sym, IsPermutation-trans, IsPermutation-append_left, IsPermutation-append_right, IsPermutation-append_comm}
use Rattle.std.proofs.lemmas.Grind.{flat_map-append}
use mathlib.Core.Option.{some, some-injective, some-ne-none}
use lib.ListN.{get_elem?}
use Rattle.atomic_table.proofs.Lists.{set_else}
use Rattle.ic_lock_free_stack.specs.declared.held.Account.{Account}
use Rattle.ic_lock_free_stack.specs.declared.held.HeldAccounts.{HeldAccounts}
use Rattle.ic_lock_free_stack.specs.Held.{accounts_in}

module _ {A : Type 0} where
  at_append : (xs ys : List A) (k : ℕ) → get_elem? (xs ++ ys) (length xs + k) ≡ get_elem? ys k
  at_append [] ys k = let e : 0 + k ≡ k = omega arith in ap (get_elem? ys) e
  at_append (x ∷ xs) ys k = let e : suc (length xs) + k ≡ suc (length xs + k) = omega arith in ap (get_elem? (x ∷ (xs ++ ys))) e ∙ at_append xs ys k

  set_append : (xs ys : List A) (k : ℕ) (y : A) → set (xs ++ ys) (length xs + k) y ≡ xs ++ set ys k y
  set_append [] ys k y = let e : 0 + k ≡ k = omega arith in ap (λ j. set ys j y) e
  set_append (x ∷ xs) ys k y = let e : suc (length xs) + k ≡ suc (length xs + k) = omega arith in ap (λ j. set (x ∷ (xs ++ ys)) j y) e ∙ ap (λ l. x ∷ l) (set_append xs ys k y)

  -- if the second of three parts of a list is moved to the front, the list has the same elements
  pub second_first : (xs ys zs : List A) → IsPermutation (xs ++ (ys ++ zs)) (ys ++ (xs ++ zs))
  second_first xs ys zs = subst (λ l. IsPermutation l (ys ++ (xs ++ zs))) (append_assoc xs ys zs)
      (subst (IsPermutation ((xs ++ ys) ++ zs)) (append_assoc ys xs zs) (IsPermutation-append_left zs (xs ++ ys) (ys ++ xs) (IsPermutation-append_comm xs ys)))

-- the position that the only account r of the seat `id` has in the list of all accounts
pub record IsAmong (views : List HeldAccounts) (id : ℕ) (r : Account) : Type 0 where
  pub place : ℕ
  pub at : get_elem? (accounts_in views) place ≡ some r
  pub changes : (w : HeldAccounts) (new : Account) → w.accounts ≡ new ∷ [] → accounts_in (set views id w) ≡ set (accounts_in views) place new

pub among : (views : List HeldAccounts) (id : ℕ) (v : HeldAccounts) (r : Account) → get_elem? views id ≡ some v → v.accounts ≡ r ∷ [] → IsAmong views id r
among [] id v r e one = absurd (some-ne-none v (sym e))
among (x ∷ xs) zero v r e one =
    let is : x.accounts ≡ r ∷ [] = ap (λ (u : HeldAccounts). u.accounts) (some-injective x v e) ∙ one in record {
      place = 0;
      at = ap (λ l. get_elem? (l ++ accounts_in xs) 0) is;
      changes = λ w new h. ap (λ l. l ++ accounts_in xs) h ∙ ap (λ l. set (l ++ accounts_in xs) 0 new) (sym is);
    }
among (x ∷ xs) (suc id) v r e one =
    let s = among xs id v r e one in record {
      place = length x.accounts + s.place;
      at = at_append x.accounts (accounts_in xs) s.place ∙ s.at;
      changes = λ w new h. ap (λ l. x.accounts ++ l) (s.changes w new h) ∙ sym (set_append x.accounts (accounts_in xs) s.place new);
    }

-- all accounts are the accounts v of the seat `id` and the accounts `others`, which stay if the accounts of this seat change
pub record Apart (views : List HeldAccounts) (id : ℕ) (v : HeldAccounts) : Type 0 where
  pub others : List Account
  pub all : IsPermutation (accounts_in views) (v.accounts ++ others)
  pub set_all : (w : HeldAccounts) → IsPermutation (accounts_in (set views id w)) (w.accounts ++ others)

pub apart : (views : List HeldAccounts) (id : ℕ) (v : HeldAccounts) → get_elem? views id ≡ some v → Apart views id v
apart [] id v e = absurd (some-ne-none v (sym e))
apart (x ∷ xs) zero v e = record {
  others = accounts_in xs;
  all = subst (λ (u : HeldAccounts). IsPermutation (x.accounts ++ accounts_in xs) (u.accounts ++ accounts_in xs)) (some-injective x v e) (IsPermutation-refl (x.accounts ++ accounts_in xs));
  set_all = λ w. IsPermutation-refl (w.accounts ++ accounts_in xs);
}
apart (x ∷ xs) (suc id) v e =
    let a = apart xs id v e in record {
      others = x.accounts ++ a.others;
      all = IsPermutation-trans _ _ _ (IsPermutation-append_right x.accounts (accounts_in xs) (v.accounts ++ a.others) a.all) (second_first x.accounts v.accounts a.others);
      set_all = λ w. IsPermutation-trans _ _ _ (IsPermutation-append_right x.accounts (accounts_in (set xs id w)) (w.accounts ++ a.others) (a.set_all w)) (second_first x.accounts w.accounts a.others);
    }

-- if a new seat is added, its accounts are added to all accounts
pub seat_more : (views : List HeldAccounts) (w : HeldAccounts) → accounts_in (views ++ w ∷ []) ≡ accounts_in views ++ w.accounts
seat_more views w = flat_map-append (λ (v : HeldAccounts). v.accounts) views (w ∷ []) ∙ ap (λ l. accounts_in views ++ l) (append-nil w.accounts)

-- if the accounts v of the seat `id` are divided between this seat and a new seat, all accounts together stay the same
pub cut : (views : List HeldAccounts) (id : ℕ) (v left right : HeldAccounts) → get_elem? views id ≡ some v → right.accounts ++ left.accounts ≡ v.accounts
    → IsPermutation (accounts_in views) (accounts_in (set views id left ++ right ∷ []))
cut views id v left right at is =
    let a = apart views id v at in
    let l : List Account = left.accounts in
    let r : List Account = right.accounts in
    -- The accounts of all seats are the accounts of `right`, those of `left`, and the others.
    let old : IsPermutation (accounts_in views) (r ++ (l ++ a.others)) = subst (IsPermutation (accounts_in views)) (ap (λ k. k ++ a.others) (sym is) ∙ append_assoc r l a.others) a.all in
    let new : IsPermutation (accounts_in (set views id left) ++ r) ((l ++ a.others) ++ r) = IsPermutation-append_left r (accounts_in (set views id left)) (l ++ a.others) (a.set_all left) in
    let turned : IsPermutation ((l ++ a.others) ++ r) (r ++ (l ++ a.others)) = IsPermutation-append_comm (l ++ a.others) r in
    subst (IsPermutation (accounts_in views)) (sym (seat_more (set views id left) right))
    (IsPermutation-trans _ _ _ old (IsPermutation-sym _ _ (IsPermutation-trans _ _ _ new turned)))

-- if the accounts of one seat move to another seat, all accounts together stay the same
pub glue : (views : List HeldAccounts) (id other : ℕ) (v w both spent : HeldAccounts) → get_elem? views id ≡ some v → (other ≡ id → ⊥) → get_elem? (set views id both) other ≡ some w
    → both.accounts ≡ v.accounts ++ w.accounts → spent.accounts ≡ []
    → IsPermutation (accounts_in views) (accounts_in (set (set views id both) other spent))
glue views id other v w both spent at apart_from there joined none =
    let there' : get_elem? views other ≡ some w = sym (set_else views id other both apart_from) ∙ there in
    let a = apart views other w there' in
    let views' : List HeldAccounts = set views other spent in
    let at' : get_elem? views' id ≡ some v = set_else views other id spent (λ e. apart_from (sym e)) ∙ at in
    let b = apart views' id v at' in
    -- The accounts of all seats without the accounts of w.
    let less : IsPermutation (accounts_in views') a.others = subst (λ k. IsPermutation (accounts_in views') (k ++ a.others)) none (a.set_all spent) in
    let less' : IsPermutation a.others (v.accounts ++ b.others) = IsPermutation-trans _ _ _ (IsPermutation-sym _ _ less) b.all in
    let old : IsPermutation (accounts_in views) (w.accounts ++ (v.accounts ++ b.others)) = IsPermutation-trans _ _ _ a.all (IsPermutation-append_right w.accounts a.others (v.accounts ++ b.others) less') in
    let new : IsPermutation (accounts_in (set views' id both)) (v.accounts ++ (w.accounts ++ b.others)) = subst (IsPermutation (accounts_in (set views' id both))) (ap (λ k. k ++ b.others) joined ∙ append_assoc v.accounts w.accounts b.others) (b.set_all both) in
    subst (λ l. IsPermutation (accounts_in views) (accounts_in l)) (set_comm views other id spent both apart_from)
    (IsPermutation-trans _ _ _ old (IsPermutation-trans _ _ _ (second_first w.accounts v.accounts b.others) (IsPermutation-sym _ _ new)))
