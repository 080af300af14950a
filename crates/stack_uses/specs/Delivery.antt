-- Threads send places to one mailbox, and one receiver takes them.
use Rattle.std.specs.Prelude.{◌≡◌, ℕ, ◌+◌, ◌*◌, ◌/◌, ◌<◌, ◌≤◌, ◌==◌, if◌then◌else◌, Bool, List, [], ◌∷◌, ◌++◌, map, length, All}
use Rattle.std.specs.List.{range_with_len}
use Rattle.ic_unsafe_ref.specs.declared.place.Place.{Place}
use Rattle.ic_unsafe_ref.specs.Places.{index_of}
use Rattle.ic_lock_free_stack.specs.declared.step.Step.{Step}
use Rattle.ic_lock_free_stack.specs.declared.step.Step.TheVariants.{Claim, Release, Push, TakeAll}
use Rattle.ic_lock_free_stack.specs.declared.stacks.Stacks.{Stacks}
use Rattle.ic_lock_free_stack.specs.declared.stacks.Holder.{Holder}
use Rattle.ic_lock_free_stack.specs.Prelude.{got, of_record, places_of, stacks_of, record_of, spent_by, IsOf}
use Rattle.stack_uses.specs.Mail.{steps_to_send}
use Rattle.stack_uses.specs.declared.delivery.Sender.{Sender}

-- the steps by which the places are sent one after the other. The list `got` says for each place whether its claim succeeds. If the claim is refused, the
-- place is not sent
abbrev pub steps_to_send_each : ℕ → List Place → List Bool → List Step
steps_to_send_each mailbox [] got = []
steps_to_send_each mailbox (p ∷ ps) [] = []
steps_to_send_each mailbox (p ∷ ps) (b ∷ got) = steps_to_send mailbox p b ++ steps_to_send_each mailbox ps got

-- the steps send `count` places to the mailbox 0, from the place with the index `first` on, and do nothing else
pub record Sends (first count : ℕ) (steps : List Step) : Type 0 where
  pub places : List Place
  pub are : map index_of places ≡ range_with_len first count
  pub got : List Bool
  pub each : length got ≡ length places
  pub steps_are : steps ≡ steps_to_send_each 0 places got

-- each of the steps takes all places of a stack, and none claims, releases or pushes a place
abbrev pub OnlyTakes : List Step → Type 0
OnlyTakes [] = Unit {0}
OnlyTakes (Claim p got ∷ es) = ⊥
OnlyTakes (Release p ∷ es) = ⊥
OnlyTakes (Push k s ∷ es) = ⊥
OnlyTakes (TakeAll k s ∷ es) = OnlyTakes es

-- the places of the list that the sender with the number `k` was to send, if each sender sends `count` places
abbrev pub of_sender : ℕ → ℕ → List Place → List Place
of_sender count k [] = []
of_sender count k (p ∷ ps) = if index_of p / count == k then p ∷ of_sender count k ps else of_sender count k ps

-- `came` has the `count` places of each sender, each once and in the order of their indices, and no other place
pub record IsDelivered (senders count : ℕ) (came : List Place) : Type 0 where
  pub rows : (k : ℕ) → k < senders → map index_of (of_sender count k came) ≡ range_with_len (k * count) count
  pub inside : All (λ (p : Place). index_of p < senders * count) came

module _ {A : Type 0} where
  -- The sender is to send `count` places, from the place with the index `first` on. These places exist, and its holder has made no step yet
  pub record IsReady (stacks : Stacks A) (first count : ℕ) (sender : Sender A) : Type 0 where
    pub stacks_are : sender.stacks.now ≡ stacks
    pub first_is : sender.first ≡ first
    pub count_is : sender.count ≡ count
    pub made : IsOf stacks sender.holder
    pub fresh : record_of sender.holder ≡ []
    pub some : 0 < stacks_of stacks
    pub inside : first + count ≤ places_of stacks
    pub small : places_of stacks ≤ 4294967296

  -- the holder has sent `count` places, from the place with the index `first` on, and has done nothing else
  pub record HasSent (stacks : Stacks A) (first count : ℕ) (holder : Holder) : Type 0 where
    pub made : IsOf stacks holder
    pub sends : Sends first count (record_of holder)

  -- `AreReady`: each sender of the list is ready. `HaveSent`: each holder has sent its places. The places of each sender or holder follow the places of the
  -- one before it in the list
  abbrev pub AreReady : Stacks A → ℕ → ℕ → List (Sender A) → Type 0
  AreReady stacks first count [] = Unit {0}
  AreReady stacks first count (x ∷ xs) = IsReady stacks first count x × AreReady stacks (first + count) count xs

  abbrev pub HaveSent : Stacks A → ℕ → ℕ → List Holder → Type 0
  HaveSent stacks first count [] = Unit {0}
  HaveSent stacks first count (h ∷ hs) = HasSent stacks first count h × HaveSent stacks (first + count) count hs

  -- the receiver's holder has taken the places `came` from the mailbox 0 in at most `turns` steps, and has done nothing else
  pub record HasTaken (stacks : Stacks A) (turns : ℕ) (holder : Holder) (came : List Place) : Type 0 where
    pub made : IsOf stacks holder
    pub takes : OnlyTakes (record_of holder)
    pub few : spent_by holder ≤ turns
    pub came_is : of_record (got 0) (record_of holder) ≡ came

  -- Each sender has sent its `count` places, and the receiver has taken the places `came`. The receiver's holder is the last of the holders
  pub record HasDone (stacks : Stacks A) (count : ℕ) (holders : List Holder) (came : List Place) : Type 0 where
    pub senders : List Holder
    pub receiver : Holder
    pub holders_are : holders ≡ senders ++ receiver ∷ []
    pub sent : HaveSent stacks 0 count senders
    pub taken : HasTaken stacks 4294967296 receiver came
