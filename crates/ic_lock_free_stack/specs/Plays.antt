-- What a holder knows after each kind of step.
use Rattle.std.specs.Prelude.{◌≡◌, ◌≢◌, ℕ, ◌+◌, ◌<◌, ◌==◌, false, true, List, [], ◌∷◌, ◌++◌, map, length}
use Rattle.atomic_table.specs.Table.{Step as TableStep}
use Rattle.ic_unsafe_ref.specs.declared.place.Place.{Place}
use Rattle.ic_unsafe_ref.specs.Places.{index_of}
use Rattle.ic_lock_free_stack.specs.Ends.{first}
use Rattle.ic_lock_free_stack.specs.declared.step.Step.{Step}
use Rattle.ic_lock_free_stack.specs.declared.step.Entry.{Entry}
use Rattle.ic_lock_free_stack.specs.declared.step.Step.TheVariants.{Claim, Release, Push, TakeAll}
use Rattle.ic_lock_free_stack.specs.declared.held.Size.{Size}
use Rattle.ic_lock_free_stack.specs.declared.held.Known.{Known}
use Rattle.ic_lock_free_stack.specs.declared.held.Account.{Account}
use Rattle.ic_lock_free_stack.specs.declared.held.HeldAccounts.{HeldAccounts}
use Rattle.ic_lock_free_stack.specs.Moments.{is_in, IsOnce, stack_after}
use Rattle.ic_lock_free_stack.specs.Records.{holds}
use Rattle.ic_lock_free_stack.specs.Words.{link_to, known_of, knows, knows_all, AreKnownTo, forgets}
use Rattle.ic_lock_free_stack.specs.Held.{hand, made, noted, sees}
use Rattle.ic_lock_free_stack.specs.OneHistory.{GoesOn, LooksOn, IsOneHistory}
use Rattle.ic_lock_free_stack.specs.Rule.{Mine}

-- the account a as the only account of a seat
abbrev pub only : Size → Account → HeldAccounts
only size a = hand size (a ∷ [])

-- if the seat has only the account a, and the step is on the word of the place p, then `answered size a p` holds
abbrev pub OfPlace : TableStep (Unit {0}) → Mine → (Size → Account → Place → Type 0) → Type 0
OfPlace t me answered = (size : Size) (a : Account) (p : Place) → me.0 ≡ only size a → index_of p ≡ t.word → answered size a p

-- if the seat has only the account a, and the step is on the head of the stack k, then `answered size a k` holds
abbrev pub OfHead : TableStep (Unit {0}) → Mine → (Size → Account → ℕ → Type 0) → Type 0
OfHead t me answered = (size : Size) (a : Account) (k : ℕ) → me.0 ≡ only size a → size.places + k ≡ t.word → answered size a k

-- the account a gains the step e at its end, its holder has seen the history up to this step, and `ks` are the words that are known then
pub record Makes (size : Size) (a : Account) (e : Step) (ks : List Known) (new : HeldAccounts) : Type 0 where
  pub seen : List Entry
  pub goes : GoesOn a.name a.seen e seen
  pub same : new ≡ only size (made a e seen ks)

-- After a compare-exchange of a place's word the account gains a claim, which succeeded if the word n that was found is 0. The word is 0 only if this holder
-- doesn't hold the place
abbrev pub claimed : TableStep (Unit {0}) → Mine → ℕ → Mine → Type 0
claimed t me n me' = OfPlace t me (λ size a p. Makes size a (Claim p (n == 0)) a.known me'.0 × (n ≡ 0 → holds p a.steps ≡ false))

-- after a store of 0 in a place's word the account gains a release of the place, and the word of the place is no longer known
abbrev pub released : TableStep (Unit {0}) → Mine → ℕ → Mine → Type 0
released t me n me' = OfPlace t me (λ size a p. Makes size a (Release p) (knows p 0 ∷ a.known) me'.0)

-- after a load of a head the account notes the head n of the stack k, which is not 0, and a count of the steps on heads
abbrev pub looked : TableStep (Unit {0}) → Mine → ℕ → Mine → Type 0
looked t me n me' = OfHead t me (λ size a k. (n ≢ 0) × ((c : ℕ) × (c < 18446744073709551615) × (me'.0 ≡ only size (noted a a.known k n c))))

-- after a store in a place's word the account knows that the place has the word n, and the holder has made no step
abbrev pub linked : TableStep (Unit {0}) → Mine → ℕ → Mine → Type 0
linked t me n me' = OfPlace t me (λ size a p. me'.0 ≡ only size (noted a (knows p n ∷ a.known) a.stack a.saw a.looked))

-- The head of the stack k is no longer as the holder saw it, so some step on a head was made in between. The account notes the new head n and a greater count
-- of steps on heads
pub record Misses (size : Size) (a : Account) (k n : ℕ) (new : HeldAccounts) : Type 0 where
  pub count : ℕ
  pub some : n ≢ 0
  pub later : a.looked < count
  pub few : count < 18446744073709551615
  pub same : new ≡ only size (noted a a.known k n count)

-- If a compare-exchange finds the head that was seen, it pushes the chain that begins at the new head and whose last word is the old head. Otherwise the
-- account notes the head that was found
abbrev pub tried : TableStep (Unit {0}) → Mine → ℕ → Mine → Type 0
tried t me n me' = OfHead t me (λ size a k.
    (n ≡ t.first → (s : List Place) → t.second ≡ link_to (first s) → IsOnce s → AreKnownTo a.known s t.first → Makes size a (Push k s) (forgets s a.known) me'.0)
    × (n ≢ t.first → Misses size a k n me'.0))

-- The account gains a step that takes all members of the stack k. The holder now holds these members and knows their words, and it held none of them before
pub record Takes (size : Size) (a : Account) (k n : ℕ) (new : HeldAccounts) : Type 0 where
  pub members : List Place
  pub first_is : n ≡ link_to (first members)
  pub once : IsOnce members
  pub inside : (p : Place) → is_in p members ≡ true → index_of p < size.places
  pub free : (p : Place) → is_in p members ≡ true → holds p a.steps ≡ false
  pub made : Makes size a (TakeAll k members) (knows_all members a.known) new

-- after a swap of a head with the word of an empty stack the holder has taken all members of the stack
abbrev pub took_all : TableStep (Unit {0}) → Mine → ℕ → Mine → Type 0
took_all t me n me' = OfHead t me (λ size a k. Takes size a k n me'.0)

-- The holder has made no step, and has seen the whole history. At the end of this history the head n names the first member of the stack k
pub record Sees (size : Size) (a : Account) (k n : ℕ) (new : HeldAccounts) : Type 0 where
  pub order : List Entry
  pub goes : LooksOn a.name a.seen order
  pub head : n ≡ link_to (first (stack_after order k))
  pub same : new ≡ only size (sees order a)

-- after a load of a head the holder has seen the whole history, and the head n names the first member of the stack
abbrev pub peeked : TableStep (Unit {0}) → Mine → ℕ → Mine → Type 0
peeked t me n me' = OfHead t me (λ size a k. Sees size a k n me'.0)

-- If the holder knows the word of a place, a load of this word finds the known word. The load changes nothing that the seat knows
abbrev pub followed : TableStep (Unit {0}) → Mine → ℕ → Mine → Type 0
followed t me n me' = OfPlace t me (λ size a p. known_of a.known p ≢ 0 → (me' ≡ me) × (n ≡ known_of a.known p))

-- a new seat has no account
abbrev pub seated : TableStep (Unit {0}) → Mine → ℕ → Mine → Type 0
seated t me n me' = me'.0 ≡ hand me.0.size []

-- At one moment, the accounts v of a seat and the accounts of all other seats have one history. w are the accounts v after their holders have seen this
-- history
pub record Compares (size : Size) (v w : HeldAccounts) : Type 0 where
  pub others : List Account
  pub all : length v.accounts + length others ≡ size.holders
  pub words : List ℕ
  pub one : IsOneHistory size words (v.accounts ++ others)
  pub same : w ≡ hand size (map (sees one.order) v.accounts)

-- After a load it is known that, at one moment, the accounts of all seats have one history. The holders of this seat's accounts have then seen this history
abbrev pub compared : TableStep (Unit {0}) → Mine → ℕ → Mine → Type 0
compared t me n me' = (size : Size) → me.0.size ≡ size → Compares size me.0 me'.0
