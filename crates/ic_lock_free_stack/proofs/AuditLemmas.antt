-- Lemmas about an audit, which moves the accounts of the given holders to one seat, and then moves them back to the holders' own seats.
use Rattle.std.proofs.Common.{◌≡◌, ◌≢◌, zero, suc, ℕ, ◌+◌, ◌<◌, ◌≤◌, eqb, false, List, [], ◌∷◌, ◌++◌, map, drop, append-nil, length, get_or, set, All, Contains, refl, sym, ap, ◌∙◌, subst, arith}
use Rattle.std.specs.List.{IsDistinct}
use Rattle.std.proofs.lemmas.List.{get_or-set_same, get_or-set_other, drop_more, nil_from_length, map-append, length-map}
use Rattle.std.proofs.lemmas.List.Elements.{All-map}
use mathlib.Core.Logic.{dite}
use mathlib.Core.Option.{some}
use native.Mathlib.Decide.{ℕ_discrete}
use lib.ListN.{get_elem?}
use Rattle.atomic_table.specs.declared.shared.Seat.{Seat}
use Rattle.atomic_table.proofs.Lists.{at_longer}
use Rattle.ic_unsafe_ref.specs.declared.place.Place.{Place}
use Rattle.ic_lock_free_stack.specs.declared.held.Size.{Size}
use Rattle.ic_lock_free_stack.specs.declared.held.Account.{Account}
use Rattle.ic_lock_free_stack.specs.declared.held.HeldAccounts.{HeldAccounts}
use Rattle.ic_lock_free_stack.specs.declared.stacks.Stacks.{Stacks}
use Rattle.ic_lock_free_stack.specs.declared.stacks.Holder.{Holder}
use Rattle.ic_lock_free_stack.specs.declared.step.Entry.{Entry}
use Rattle.ic_lock_free_stack.specs.Prelude.{Moment, at_first, is_with, moment_after, steps_of, holds, known_of, hand, fresh, sees, without_first, only_first}
use Rattle.ic_lock_free_stack.specs.OneHistory.{IsSound, IsSeen, IsOneHistory, Party, party_of_account, IsHistory}
use Rattle.ic_lock_free_stack.specs.Plays.{Compares}
use Rattle.ic_lock_free_stack.specs.Holders.{holders_of, IsSeatOf, hand_with, account_of, seen_of, party_of, IsOf, KeepsChains, AreOneHistory, NoneTwice}
use Rattle.ic_lock_free_stack.proofs.Lists.{each_all, all_each, named_apart}
use Rattle.ic_lock_free_stack.proofs.MomentLemmas.{with_is}
use Rattle.ic_lock_free_stack.proofs.HistoryLemmas.{name_of_account}
use Rattle.ic_lock_free_stack.proofs.HolderLemmas.{keeps_chains}

-- the seat of the holder h has exactly the given accounts
abbrev pub HasAccounts : {A : Type 0} → Stacks A → List Account → Holder → Type 0
HasAccounts stacks accounts h = IsSeatOf stacks h.seat × (h.seat.me.0 ≡ hand_with stacks accounts)

-- the account of the holder h after it has seen the history `order`
abbrev pub seeing : List Entry → Holder → Account
seeing order h = sees order (account_of h)

-- the first of the gathered accounts moves back to the seat of its holder
module _ (size : Size) (order : List Entry) (hs : List Holder) (i : ℕ) (d : Holder) (lt : i < length hs) (v : HeldAccounts) (has : v ≡ hand size (map (seeing order) (drop i hs))) where
  gathered : v ≡ hand size (seeing order (get_or hs i d) ∷ map (seeing order) (drop (i + 1) hs))
  gathered = has ∙ ap (λ (l : List Holder). hand size (map (seeing order) l)) (drop_more hs i d lt)

  pub rest_back : without_first v ≡ hand size (map (seeing order) (drop (i + 1) hs))
  rest_back = ap without_first gathered

  pub first_back : only_first v ≡ hand size (seeing order (get_or hs i d) ∷ [])
  first_back = ap only_first gathered

module _ {A : Type 0} (stacks : Stacks A) where
  -- if the first i holders have their accounts again and the next holder gets its account, the first i + 1 holders have their accounts
  pub one_back : (order : List Entry) (hs now : List Holder) (i : ℕ) (new : Holder) → i < length now
      → ((k : ℕ) (d : Holder) → k < i → HasAccounts stacks (seeing order (get_or hs k d) ∷ []) (get_or now k d))
      → ((d : Holder) → HasAccounts stacks (seeing order (get_or hs i d) ∷ []) new)
      → (k : ℕ) (d : Holder) → k < i + 1 → HasAccounts stacks (seeing order (get_or hs k d) ∷ []) (get_or (set now i new) k d)
  one_back order hs now i new inside done here k d below = dite (ℕ_discrete k i)
      (λ e. subst (λ j. HasAccounts stacks (seeing order (get_or hs j d) ∷ []) (get_or (set now i new) j d)) (sym e) (subst (HasAccounts stacks (seeing order (get_or hs i d) ∷ [])) (sym (get_or-set_same now i new d inside)) (here d)))
      (λ ne. subst (HasAccounts stacks (seeing order (get_or hs k d) ∷ [])) (sym (get_or-set_other now i k new d ne)) (done k d (omega (arith, ne, below))))

  pub others_empty : (now : List Holder) (i n : ℕ) (new : Holder)
      → ((k : ℕ) (d : Holder) → i ≤ k → k < n → HasAccounts stacks [] (get_or now k d))
      → (k : ℕ) (d : Holder) → i + 1 ≤ k → k < n → HasAccounts stacks [] (get_or (set now i new) k d)
  others_empty now i n new empty k d above inside =
      let ne : k ≢ i = λ e. absurd (omega (arith, e, above)) in
      subst (HasAccounts stacks []) (sym (get_or-set_other now i k new d ne)) (empty k d (omega (arith, above)) inside)

  -- a holder that has its account again has the same name and record as before, and has seen the history `order`
  module _ (order : List Entry) (x y : Holder) (back : HasAccounts stacks (seeing order x ∷ []) y) where
    pub account_back : account_of y ≡ seeing order x
    account_back = ap (λ (v : HeldAccounts). get_or v.accounts 0 (fresh 0)) back.1

    pub holder_back : IsOf stacks y
    holder_back = record { table = back.0; hand = back.1 ∙ ap (λ (a : Account). hand_with stacks (a ∷ [])) (sym account_back) }

    pub chain_back : KeepsChains stacks x y (λ p. false)
    chain_back = keeps_chains stacks x y (λ p. false) (subst (λ (a : Account). length (account_of x).known ≤ length a.known) (sym account_back) (omega arith)) (λ p clean held. (ap (λ (a : Account). known_of a.known p) account_back, ap (λ (a : Account). holds p a.steps) account_back ∙ held))

  -- if each holder has its account again, the names and records of all holders are as they were before
  pub all_back : (order : List Entry) (hs now : List Holder) → length now ≡ length hs
      → ((k : ℕ) (d : Holder) → k < length hs → HasAccounts stacks (seeing order (get_or hs k d) ∷ []) (get_or now k d))
      → map party_of now ≡ map party_of hs
  all_back order [] [] long back = refl
  all_back order [] (y ∷ ys) long back = absurd (omega (arith, long))
  all_back order (x ∷ xs) [] long back = absurd (omega (arith, long))
  all_back order (x ∷ xs) (y ∷ ys) long back =
      let one : party_of y ≡ party_of x = ap party_of_account (account_back order x y (back 0 x (omega arith))) in
      let rest = all_back order xs ys (omega (arith, long)) (λ k d h. back (suc k) d (omega (arith, h))) in
      λ i. one i ∷ rest i

-- what the rule of stacks says of accounts holds for the names and records in these accounts
names_same : (l : List Account) → map (λ (x : Party). x.name) (map party_of_account l) ≡ map name_of_account l
names_same [] = refl
names_same (x ∷ xs) = ap (λ l. x.name ∷ l) (names_same xs)

history : (size : Size) (words : List ℕ) (accounts : List Account) (was : IsOneHistory size words accounts) → IsHistory was.order (map party_of_account accounts)
history size words accounts was = record {
  legal = was.legal;
  own = All-map (λ (x : Party). steps_of x.name was.order ≡ x.steps) party_of_account accounts
      (each_all (λ (a : Account). steps_of a.name was.order ≡ a.steps) accounts (λ i a at. (was.kept i a at).own));
  by = subst (λ l. All (λ (x : Entry). Contains l x.holder) was.order) (sym (names_same accounts)) was.by;
  named = subst (IsDistinct eqb) (sym (names_same accounts)) was.named;
  held = subst (λ (m : Moment). All (λ (x : Party). (p : Place) → is_with x.name (m.place p) ≡ holds p x.steps) (map party_of_account accounts)) (sym was.now_is)
      (All-map (λ (x : Party). (p : Place) → is_with x.name (was.now.place p) ≡ holds p x.steps) party_of_account accounts
      (each_all (λ (a : Account). (p : Place) → is_with a.name (was.now.place p) ≡ holds p a.steps) accounts (λ i a at. (was.kept i a at).held)));
  sound = subst IsSound (sym was.now_is) was.sound;
}

pub parties_same : (hs : List Holder) → map party_of hs ≡ map party_of_account (map account_of hs)
parties_same [] = refl
parties_same (x ∷ xs) = ap (λ l. party_of x ∷ l) (parties_same xs)

module _ {A : Type 0} (stacks : Stacks A) where
  -- what is known after the accounts were gathered: the records are in one history with all others, and this history continues what each holder had seen
  pub record Told (hs : List Holder) (w : HeldAccounts) : Type 0 where
    pub order : List Entry
    pub one : AreOneHistory stacks order (map party_of hs)
    pub longer : (k : ℕ) (d : Holder) → k < length hs → IsSeen (seen_of (get_or hs k d)) order
    pub same : w ≡ hand_with stacks (map (seeing order) hs)

  map_seeing : (order : List Entry) (hs : List Holder) → map (sees order) (map account_of hs) ≡ map (seeing order) hs
  map_seeing order [] = refl
  map_seeing order (x ∷ xs) = ap (λ l. seeing order x ∷ l) (map_seeing order xs)

  begun : (order : List Entry) (hs : List Holder) (others : List Account) → ((i : ℕ) (a : Account) → get_elem? (map account_of hs ++ others) i ≡ some a → IsSeen a.seen order)
      → (k : ℕ) (d : Holder) → k < length hs → IsSeen (seen_of (get_or hs k d)) order
  begun order [] others each k d low = absurd (omega (arith, low))
  begun order (x ∷ xs) others each zero d low = each 0 (account_of x) refl
  begun order (x ∷ xs) others each (suc k) d low = begun order xs others (λ i a at. each (suc i) a at) k d (omega (arith, low))

  pub answered : (hs : List Holder) (v w : HeldAccounts) → v ≡ hand_with stacks (map account_of hs) → Compares stacks.table.shared.key v w → Told hs w
  answered hs v w has c =
      let here : Compares stacks.table.shared.key (hand_with stacks (map account_of hs)) w = subst (λ (y : HeldAccounts). Compares stacks.table.shared.key y w) has c in
      let one : IsHistory here.one.order (map party_of_account (map account_of hs ++ here.others)) = history stacks.table.shared.key here.words (map account_of hs ++ here.others) here.one in
      record {
        order = here.one.order;
        one = record {
          others = map party_of_account here.others;
          all = let n = here.all in let a = length-map here.others party_of_account in let b = length-map hs party_of in let d = length-map hs account_of in omega (arith, n, a, b, d);
          one = subst (IsHistory here.one.order) (map-append party_of_account (map account_of hs) here.others ∙ ap (λ l. l ++ map party_of_account here.others) (sym (parties_same hs))) one;
        };
        longer = begun here.one.order hs here.others (λ i a at. (here.one.kept i a at).begun);
        same = here.same ∙ ap (hand_with stacks) (map_seeing here.one.order hs);
      }

  -- if the given records are those of all holders, the history consists of their steps alone
  pub told_whole : (order : List Entry) (parties : List Party) → AreOneHistory stacks order parties → length parties ≡ holders_of stacks → IsHistory order parties
  told_whole order parties one all =
      let none : one.others ≡ [] = nil_from_length one.others (omega (arith, one.all, all)) in
      subst (IsHistory order) (ap (λ l. parties ++ l) none ∙ append-nil parties) one.one

  -- While the accounts are moved back, the holders with a number below i have their accounts again. The seat `all` still has the accounts of the other
  -- holders
  pub record Deals (hs now : List Holder) (all : Seat (Unit {0}) HeldAccounts) (i : ℕ) : Type 0 where
    pub order : List Entry
    pub one : AreOneHistory stacks order (map party_of hs)
    pub longer : (k : ℕ) (d : Holder) → k < length hs → IsSeen (seen_of (get_or hs k d)) order
    pub long : length now ≡ length hs
    pub table : IsSeatOf stacks all
    pub gathered : all.me.0 ≡ hand_with stacks (map (seeing order) (drop i hs))
    pub done : (k : ℕ) (d : Holder) → k < i → HasAccounts stacks (seeing order (get_or hs k d) ∷ []) (get_or now k d)
    pub empty : (k : ℕ) (d : Holder) → i ≤ k → k < length hs → HasAccounts stacks [] (get_or now k d)

-- if some records are in one history with others, no place is held by two holders with these records
named_once : (order : List Entry) (parties others : List Party) → IsHistory order (parties ++ others) → NoneTwice parties
named_once order parties others one i j x y p at there a b =
    let at' = at_longer parties others i x at in
    let there' = at_longer parties others j y there in
    let held = all_each (λ (z : Party). (q : Place) → is_with z.name ((moment_after at_first order).place q) ≡ holds q z.steps) (parties ++ others) one.held in
    let with_x = with_is x.name ((moment_after at_first order).place p) (held i x at' p ∙ a) in
    let with_y = with_is y.name ((moment_after at_first order).place p) (held j y there' p ∙ b) in
    dite (ℕ_discrete i j) (λ e. e)
    (λ ne. absurd (named_apart (λ (z : Party). z.name) (parties ++ others) j i y x one.named there' at' ne (cc (with_x, with_y))))

pub none_twice : {A : Type 0} (stacks : Stacks A) (order : List Entry) (parties : List Party) → AreOneHistory stacks order parties → NoneTwice parties
none_twice stacks order parties one = named_once order parties one.others one.one
