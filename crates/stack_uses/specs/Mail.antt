-- Mailboxes: which places were sent to a mailbox, and which were received from it.
use Rattle.std.specs.Prelude.{◌≡◌, ◌≢◌, ℕ, ◌<◌, ◌==◌, Bool, true, false, if◌then◌else◌, List, [], ◌∷◌, ◌++◌, map, All, Contains}
use Rattle.ic_unsafe_ref.specs.declared.place.Place.{Place}
use Rattle.ic_unsafe_ref.specs.Places.{index_of}
use Rattle.ic_lock_free_stack.specs.declared.step.Step.{Step}
use Rattle.ic_lock_free_stack.specs.declared.step.Step.TheVariants.{Claim, Push}
use Rattle.ic_lock_free_stack.specs.declared.stacks.Stacks.{Stacks}
use Rattle.ic_lock_free_stack.specs.declared.stacks.Holder.{Holder}
use Rattle.ic_lock_free_stack.specs.Prelude.{is_in, holds, Party, sent, got, of_record, places_of, stacks_of, record_of, IsOf, HasChain}
use Rattle.stack_uses.specs.declared.mailbox.Receiver.{Receiver}

-- `holder_of` returns a receiver's holder. `box_of` returns the number of the stack that is its mailbox
abbrev pub holder_of : Receiver → Holder
holder_of receiver = receiver.holder

abbrev pub box_of : Receiver → ℕ
box_of receiver = receiver.mailbox

-- the places that a holder has sent to a mailbox so far, in the order in which it sent them
abbrev pub sent_by : ℕ → Holder → List Place
sent_by mailbox holder = of_record (sent mailbox) (record_of holder)

-- the steps by which a place is sent: its claim and a push to the mailbox. If the claim is refused, the place is not sent
abbrev pub steps_to_send : ℕ → Place → Bool → List Step
steps_to_send mailbox p true = Claim p true ∷ Push mailbox (p ∷ []) ∷ []
steps_to_send mailbox p false = Claim p false ∷ []

-- `s` lists the places that the receiver has taken from its mailbox and has not returned to its caller yet
abbrev pub HasOpened : {A : Type 0} → Stacks A → Receiver → List Place → Type 0
HasOpened stacks receiver s = HasChain stacks receiver.holder receiver.opened s

-- THE RECEIVER HAS RETURNED the places `ps` so far: the places that it has taken from its mailbox are `ps`, followed by those not returned yet
pub record HasReceived {A : Type 0} (stacks : Stacks A) (receiver : Receiver) (ps : List Place) : Type 0 where
  pub made : IsOf stacks receiver.holder
  pub mailbox : receiver.mailbox < stacks_of stacks
  pub rest : List Place
  pub opened : HasChain stacks receiver.holder receiver.opened rest
  pub got_is : of_record (got receiver.mailbox) (record_of receiver.holder) ≡ ps ++ rest

-- the receiver holds the place `p`, and `p` is not among the places that it has taken but not returned yet
pub record IsOut {A : Type 0} (stacks : Stacks A) (receiver : Receiver) (p : Place) : Type 0 where
  pub inside : index_of p < places_of stacks
  pub held : holds p (record_of receiver.holder) ≡ true
  pub apart : (s : List Place) → HasChain stacks receiver.holder receiver.opened s → is_in p s ≡ false

-- only the holder with the name `name` has taken places from the mailbox
abbrev pub IsOnlyReceiver : ℕ → ℕ → List Party → Type 0
IsOnlyReceiver mailbox name parties = All (λ (x : Party). x.name ≢ name → of_record (got mailbox) x.steps ≡ []) parties

-- a letter: a place that was sent, and the name of the holder that sent it
pub record Letter : Type 0 where
  pub sender : ℕ
  pub place : Place

-- the places of those letters that the holder with the name `name` sent, in order
abbrev pub sent_from : ℕ → List Letter → List Place
sent_from name [] = []
sent_from name (x ∷ xs) = if x.sender == name then x.place ∷ sent_from name xs else sent_from name xs

-- `letters` lists all places that were sent to the mailbox, each with its sender. The received places come first, and then the places that still wait in
-- the mailbox. The letters of each holder have the places that the holder sent, in the order in which it sent them
pub record IsMail (mailbox : ℕ) (parties : List Party) (received waiting : List Place) : Type 0 where
  pub letters : List Letter
  pub all : map (λ (x : Letter). x.place) letters ≡ received ++ waiting
  pub by : All (λ (x : Letter). Contains (map (λ (y : Party). y.name) parties) x.sender) letters
  pub each : All (λ (x : Party). sent_from x.name letters ≡ of_record (sent mailbox) x.steps) parties
