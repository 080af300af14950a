-- The contract of the check of a ring. The record is the whole contract of the call.
use Rattle.std.specs.Prelude.{◌≡◌, ◌≢◌, ◌↔◌, ◌∷◌, ℕ, List, [], Option, None}
use Rattle.ic_unsafe_ref.specs.declared.place.Place.{Place}
use Rattle.ic_check.specs.Checked.{IsRepresented, RepresentsNone}
use Rattle.ic_raw.specs.declared.status.TheConstants.{OK, NULL}
use Rattle.ic_raw.specs.declared.words.RawTwo.{RawTwo}
use Rattle.ic_raw.specs.Answers.{IsStatus, refusal}
use Rattle.ic_raw.specs.LinkWords.{fault_at, wide_words}
use Rattle.ic_raw_lists.specs.RingOrders.{RepresentsRing}

-- `old` and `new` are the words of the table before and after the call. `status` is the status that the call returns
module _ (old new : List RawTwo) (status : ℕ) where
  -- if the words represent a ring with the head `head`, the number of its members replaces `was`. The head is not counted
  pub record RingCheckCall (head : Option Place) (was members : ℕ) : Type 0 where
    pub shown : status ≡ OK → IsRepresented (RepresentsRing old head) members
    pub not_represented : status ≢ OK → RepresentsNone (RepresentsRing old head)
    pub null : (status ≡ NULL) ↔ (head ≡ None)
    pub refused : status ≢ OK → members ≡ was
    pub same : new ≡ old
    pub why : status ≢ OK → status ≢ NULL → status ≡ refusal (fault_at wide_words old head ∷ [])
    pub is_status : IsStatus status
