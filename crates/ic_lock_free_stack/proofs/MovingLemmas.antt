-- Lemmas about accounts that move from seat to seat, and about the accounts that the first seat has at the start.
use Rattle.std.proofs.Common.{◌≡◌, ◌≢◌, ℕ, zero, suc, ◌+◌, ◌<◌, ◌≤◌, eqb, true, false, List, [], ◌∷◌, ◌++◌, map, take, drop, length, get_or, set, sum_by, All, Contains, IsPermutation, ◌⊎◌, inl, inr, ⊎_elim, refl, sym, ap, ◌∙◌, subst, arith, eq-eqb, ne_eqb, append-nil, length-append, take-append-drop}
use Rattle.std.specs.List.{IsDistinct, range_with_len}
use Rattle.std.proofs.lemmas.List.{set-get_or}
use Rattle.std.proofs.lemmas.List.Elements.{All-nil, All-weaker}
use Rattle.std.proofs.lemmas.List.FromFn.{get_or-range_with_len, length-range_with_len}
use Rattle.std.proofs.lemmas.List.Sorted.{IsPermutation-sym, IsPermutation-map, length_permutation, All-permutation, Contains-permutation, sum_by-IsPermutation}
use Rattle.std.proofs.lemmas.List.Sums.{sum_by-cons}
use Rattle.std.proofs.lemmas.Map.Keys.{IsDistinct-IsPermutation, IsDistinct-from_apart}
use mathlib.Core.Logic.{dite}
use mathlib.Core.Option.{none, some, some-ne-none, some-injective}
use native.Mathlib.Decide.{ℕ_discrete}
use lib.ListN.{get_elem?}
use Rattle.atomic_table.specs.Table.{State, step, opening, keeps, Allows, Splits, Joins}
use Rattle.ic_unsafe_ref.specs.Places.{index_of}
use Rattle.ic_lock_free_stack.specs.declared.held.Size.{Size}
use Rattle.ic_lock_free_stack.specs.declared.held.Account.{Account}
use Rattle.ic_lock_free_stack.specs.declared.held.HeldAccounts.{HeldAccounts}
use Rattle.ic_lock_free_stack.specs.declared.step.Entry.{Entry}
use Rattle.ic_lock_free_stack.specs.Prelude.{at_first, head_at, Spells, IsKept, IsOneHistory}
use Rattle.ic_lock_free_stack.specs.Held.{hand, accounts_in, fresh, all_fresh, without_first, only_first, both_hands, nothing_left, sees}
use Rattle.ic_lock_free_stack.specs.Rule.{Rule, Mine}
use Rattle.ic_lock_free_stack.specs.Plays.{compared, Compares}
use Rattle.ic_lock_free_stack.proofs.Lists.{each_all, all_each}
use Rattle.ic_lock_free_stack.proofs.HeldLemmas.{apart, cut, glue}
use Rattle.ic_lock_free_stack.proofs.HistoryLemmas.{name_of_account, heads_of_account, seen_itself, kept_seen}

eqb_flips : (x y : ℕ) → eqb x y ≡ eqb y x
eqb_flips x y = dite (ℕ_discrete x y) (λ e. eq-eqb x y e ∙ sym (eq-eqb y x (sym e))) (λ ne. ne_eqb x y ne ∙ sym (ne_eqb y x (λ e. ne (sym e))))

-- whether accounts have one history does not depend on the order in which the accounts are listed
pub permuted : (size : Size) (words : List ℕ) (xs ys : List Account) → IsPermutation xs ys → IsOneHistory size words xs → IsOneHistory size words ys
permuted size words xs ys p was =
    let names : IsPermutation (map name_of_account xs) (map name_of_account ys) = IsPermutation-map name_of_account xs ys p in record {
      order = was.order;
      legal = was.legal;
      now = was.now;
      now_is = was.now_is;
      sound = was.sound;
      spells = was.spells;
      kept = all_each (IsKept size words was.order was.now) ys (All-permutation (IsKept size words was.order was.now) xs ys p (each_all (IsKept size words was.order was.now) xs was.kept));
      named = IsDistinct-IsPermutation eqb eqb_flips (map name_of_account xs) (map name_of_account ys) names was.named;
      by = All-weaker (λ (x : Entry). Contains (map name_of_account xs) x.holder) (λ (x : Entry). Contains (map name_of_account ys) x.holder)
          (λ x. Contains-permutation (map name_of_account xs) (map name_of_account ys) x.holder names) was.order was.by;
      counted = sum_by-IsPermutation heads_of_account xs ys p ∙ was.counted;
    }

-- if accounts have moved from seat to seat and no word has changed, the rule still holds
module _ (size : Size) (s t : State (Unit {0}) HeldAccounts) (words : t.words ≡ s.words) (moves : IsPermutation (accounts_in s.views) (accounts_in t.views)) where
  same_accounts : Rule size s → Rule size t
  same_accounts was = record {
    words = ap length words ∙ was.words;
    holders = length_permutation (accounts_in s.views) (accounts_in t.views) moves ∙ was.holders;
    few = was.few;
    one = subst (λ w. IsOneHistory size w (accounts_in t.views)) (sym words) (permuted size s.words (accounts_in s.views) (accounts_in t.views) moves was.one);
  }

-- the rule still holds if the first account of a seat moves to a new seat, or if the accounts of a seat move to another seat
pub splits : (size : Size) (id : ℕ) (v : HeldAccounts) → Splits (Rule size) id v (without_first v) (only_first v)
splits size id v s was at = same_accounts size s record { words = s.words; homes = s.homes; views = set s.views id (without_first v) ++ only_first v ∷ [] } refl
    (cut s.views id v (without_first v) (only_first v) at (take-append-drop 1 v.accounts)) was

pub joins : (size : Size) (id : ℕ) (v : HeldAccounts) (other : ℕ) (w : HeldAccounts) → Joins (Rule size) id v other w (both_hands v w) nothing_left
joins size id v other w s was at apart_from there = same_accounts size s record { words = s.words; homes = s.homes; views = set (set s.views id (both_hands v w)) other nothing_left } refl
    (glue s.views id other v w (both_hands v w) nothing_left at apart_from there refl refl) was

-- if some accounts see the whole history, the accounts still have one history
at_seen : (f : Account → Account) (xs ys : List Account) (i : ℕ) (a : Account) → get_elem? (map f xs ++ ys) i ≡ some a → (b : Account) × (get_elem? (xs ++ ys) i ≡ some b) × ((b ≡ a) ⊎ (f b ≡ a))
at_seen f [] ys i a e = (a, e, inl refl)
at_seen f (x ∷ xs) ys zero a e = (x, refl, inr (some-injective (f x) a e))
at_seen f (x ∷ xs) ys (suc i) a e = at_seen f xs ys i a e

names_seen : (o : List Entry) (xs ys : List Account) → map name_of_account (map (sees o) xs ++ ys) ≡ map name_of_account (xs ++ ys)
names_seen o [] ys = refl
names_seen o (x ∷ xs) ys = ap (λ l. x.name ∷ l) (names_seen o xs ys)

counted_seen : (o : List Entry) (xs ys : List Account) → sum_by heads_of_account (map (sees o) xs ++ ys) ≡ sum_by heads_of_account (xs ++ ys)
counted_seen o [] ys = refl
counted_seen o (x ∷ xs) ys =
    let r = counted_seen o xs ys in
    let n : ℕ = heads_of_account x in
    sum_by-cons heads_of_account (sees o x) (map (sees o) xs ++ ys) ∙ (ap (λ k. n + k) r ∙ sym (sum_by-cons heads_of_account x (xs ++ ys)))

all_see : (size : Size) (words : List ℕ) (xs ys : List Account) (was : IsOneHistory size words (xs ++ ys)) → IsOneHistory size words (map (sees was.order) xs ++ ys)
all_see size words xs ys was = record {
  order = was.order;
  legal = was.legal;
  now = was.now;
  now_is = was.now_is;
  sound = was.sound;
  spells = was.spells;
  kept = λ i a at. let t = at_seen (sees was.order) xs ys i a at in
      ⊎_elim (λ e. subst (IsKept size words was.order was.now) e (was.kept i t.0 t.1)) (λ e. subst (IsKept size words was.order was.now) e (kept_seen size words was.order was.now t.0 (was.kept i t.0 t.1))) t.2;
  named = subst (IsDistinct eqb) (sym (names_seen was.order xs ys)) was.named;
  by = subst (λ l. All (λ (x : Entry). Contains l x.holder) was.order) (sym (names_seen was.order xs ys)) was.by;
  counted = counted_seen was.order xs ys ∙ was.counted;
}

length_seen : (o : List Entry) (xs : List Account) → length (map (sees o) xs) ≡ length xs
length_seen o [] = refl
length_seen o (x ∷ xs) = ap suc (length_seen o xs)

-- after a load it is known that the accounts of all seats have one history, which the holders of this seat's accounts have seen
pub compares : (size : Size) (slots id : ℕ) (me : Mine) → me.0.size ≡ size → Allows (Rule size) slots id me 0 (λ n. n) (compared (step slots 0 0 0 none) me)
unfolding permuted
compares size slots id me sized s was homes at small =
    let a = apart s.views id me.0 at in
    let n : ℕ = get_or s.words 0 0 in
    let one : IsOneHistory size s.words (me.0.accounts ++ a.others) = permuted size s.words (accounts_in s.views) (me.0.accounts ++ a.others) a.all was.one in
    let w : HeldAccounts = hand size (map (sees was.one.order) me.0.accounts) in
    let counted : length me.0.accounts + length a.others ≡ size.holders = sym (length-append me.0.accounts a.others) ∙ (length_permutation (accounts_in s.views) (me.0.accounts ++ a.others) a.all ∙ was.holders) in
    let words : set s.words 0 n ≡ s.words = set-get_or s.words 0 0 in
    let moved : IsPermutation (accounts_in (set s.views id w)) (w.accounts ++ a.others) = a.set_all w in (
      w,
      keeps,
      tt,
      record {
        words = ap length words ∙ was.words;
        holders =
            let x = length_permutation (accounts_in (set s.views id w)) (w.accounts ++ a.others) moved in
            let y = length-append w.accounts a.others in
            let z = length_seen was.one.order me.0.accounts in
            omega (arith, x, y, z, counted);
        few = was.few;
        one = subst (λ l. IsOneHistory size l (accounts_in (set s.views id w))) (sym words)
            (permuted size s.words (w.accounts ++ a.others) (accounts_in (set s.views id w)) (IsPermutation-sym (accounts_in (set s.views id w)) (w.accounts ++ a.others) moved) (all_see size s.words me.0.accounts a.others one));
      },
      (λ z e. subst (λ (y : Size). Compares y me.0 w) (sym sized ∙ e) (record {
        others = a.others;
        all = counted;
        words = s.words;
        one = one;
        same = refl;
      })),
    )

-- THE TABLE AT THE START: the word of each place is 0, each head is the word of an empty stack, and no step has been made
names_fresh : (l : List ℕ) → map name_of_account (map fresh l) ≡ l
names_fresh [] = refl
names_fresh (x ∷ xs) = ap (λ l. x ∷ l) (names_fresh xs)

none_counted : (l : List ℕ) → sum_by heads_of_account (map fresh l) ≡ 0
none_counted [] = refl
none_counted (x ∷ xs) = let r = none_counted xs in omega (arith, r)

pub fresh_at : (l : List ℕ) (i : ℕ) (a : Account) → get_elem? (map fresh l) i ≡ some a → (h : ℕ) × (fresh h ≡ a)
fresh_at [] i a e = absurd (some-ne-none a (sym e))
fresh_at (x ∷ xs) zero a e = (x, some-injective (fresh x) a e)
fresh_at (x ∷ xs) (suc i) a e = fresh_at xs i a e

distinct_range : (n : ℕ) → IsDistinct eqb (range_with_len 0 n)
distinct_range n = IsDistinct-from_apart eqb (range_with_len 0 n) (λ i j d before inside.
    let long = length-range_with_len 0 n in
    let y : get_or (range_with_len 0 n) j d ≡ 0 + j = get_or-range_with_len 0 n j d (omega (arith, inside, long)) in
    let x : get_or (range_with_len 0 n) i d ≡ 0 + i = get_or-range_with_len 0 n i d (omega (arith, inside, long, before)) in
    ne_eqb (get_or (range_with_len 0 n) i d) (get_or (range_with_len 0 n) j d) (λ e. absurd (omega (arith, x, y, e, before))))

module _ (size : Size) (words : List ℕ) (long : length words ≡ size.places + size.stacks) (some_stack : 0 < size.stacks) (few : size.holders < 65536)
    (zeros : (i : ℕ) → i < size.places → get_or words i 0 ≡ 0) (ones : (i : ℕ) → size.places ≤ i → i < size.places + size.stacks → get_or words i 0 ≡ 1) where
  head_one : (k : ℕ) → k < size.stacks → head_at size words k ≡ 1
  head_one k small = ones (size.places + k) (omega arith) (omega (arith, small))

  first_spells : Spells size words at_first
  first_spells = record {
    free = λ p inside. ap (λ w. eqb w 0) (zeros (index_of p) inside);
    heads = λ k small. head_one k small;
    links = λ k. tt;
    inside = λ k p e. absurd (Rattle.std.proofs.Common.true≢false (sym e));
  }

  kept_fresh : (h : ℕ) → IsKept size words [] at_first (fresh h)
  kept_fresh h = record {
    own = refl;
    own_seen = refl;
    begun = seen_itself [];
    held = λ p. refl;
    known = λ p e. absurd (e refl);
    few = omega arith;
    earlier = omega arith;
    seen = λ e. head_one 0 some_stack;
  }

  abbrev numbers : List ℕ
  numbers = range_with_len 0 size.holders

  opens_one : IsOneHistory size words (map fresh numbers)
  opens_one = record {
    order = [];
    legal = tt;
    now = at_first;
    now_is = refl;
    sound = record { members = λ p k. refl; once = λ k. tt };
    spells = first_spells;
    kept = λ i a at. let f = fresh_at numbers i a at in subst (IsKept size words [] at_first) f.1 (kept_fresh f.0);
    named = subst (IsDistinct eqb) (sym (names_fresh numbers)) (distinct_range size.holders);
    by = All-nil (λ (x : Entry). Contains (map name_of_account (map fresh numbers)) x.holder);
    counted = none_counted numbers;
  }

  length_fresh : (l : List ℕ) → length (map fresh l) ≡ length l
  length_fresh [] = refl
  length_fresh (x ∷ xs) = ap suc (length_fresh xs)

  pub opens : Rule size (opening words [] (all_fresh size))
  opens =
      let same : map fresh numbers ≡ accounts_in (all_fresh size ∷ []) = sym (append-nil (map fresh numbers)) in record {
        words = long;
        holders = ap length (sym same) ∙ (length_fresh numbers ∙ length-range_with_len 0 size.holders);
        few = few;
        one = subst (IsOneHistory size words) same opens_one;
      }
