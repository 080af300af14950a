-- What contracts say about claims and their holders.
use Rattle.std.specs.Prelude.{◌≡◌, ℕ, ◌+◌, ◌<◌, true, List, [], ◌∷◌, ◌++◌, length}
use Rattle.atomic_table.specs.declared.shared.Seat.{Seat}
use Rattle.ic_unsafe_ref.specs.declared.place.Place.{Place}
use Rattle.ic_atomic.specs.declared.step.Event.{Event}
use Rattle.ic_atomic.specs.declared.held.HeldRecords.{HeldRecords}
use Rattle.ic_atomic.specs.declared.claims.Claims.{Claims}
use Rattle.ic_atomic.specs.declared.claims.Holder.{Holder}
use Rattle.ic_atomic.specs.Records.{holds}
use Rattle.ic_atomic.specs.OneList.{record_at, IsOneList}
use Rattle.ic_atomic.specs.Held.{hand}

-- how many places can be claimed
abbrev pub places_of : {A : Type 0} → Claims A → ℕ
places_of claims = claims.places

-- how many holders were made with the claims. Each of these holders has one record
abbrev pub holders_of : {A : Type 0} → Claims A → ℕ
holders_of claims = claims.table.shared.key.holders

-- the seat belongs to the table of claim words that `claims` has
abbrev pub IsSeatOf : {A : Type 0} → Claims A → Seat (Unit {0}) HeldRecords → Type 0
IsSeatOf claims seat = seat.table_id ≡ claims.table.shared.table_id

-- the hand of a seat, which has the seat's records
abbrev pub hand_of : Seat (Unit {0}) HeldRecords → HeldRecords
hand_of seat = seat.me.0

-- the seat holds no slot of the table. The table of claim words has no slots
abbrev pub HasNoSlot : Seat (Unit {0}) HeldRecords → Type 0
HasNoSlot seat = seat.me.1 ≡ []

-- the hand with the records `records`, for the size of `claims`
abbrev pub hand_with : {A : Type 0} → Claims A → List (List Event) → HeldRecords
hand_with claims records = hand claims.table.shared.key records

-- the holder's steps so far, in their order
abbrev pub record_of : Holder → List Event
record_of holder = record_at (hand_of holder.seat).records 0

-- the holder was made with `claims`, and its hand has exactly one record, the holder's own
pub record IsOf {A : Type 0} (claims : Claims A) (holder : Holder) : Type 0 where
  pub table : IsSeatOf claims holder.seat
  pub hand : hand_of holder.seat ≡ hand_with claims (record_of holder ∷ [])

-- at one moment, the records `records` of some holders and the records of all other holders of `claims` can be merged into one list of steps
pub record AreOneList {A : Type 0} (claims : Claims A) (records : List (List Event)) : Type 0 where
  -- `records` and `others` together have exactly one record for each holder of the claims.
  pub others : List (List Event)
  pub all : length records + length others ≡ holders_of claims
  -- `words` has a claim word for each place, and at least one more word.
  pub words : List ℕ
  pub places : places_of claims < length words
  -- The rule of claims (`IsOneList`) holds for these words and the records of all holders.
  pub one : IsOneList words (records ++ others)

-- at one moment, the records `records` of all holders can be merged into one list of steps, and there is a claim word for each place
pub record AreWholeList {A : Type 0} (claims : Claims A) (records : List (List Event)) : Type 0 where
  pub words : List ℕ
  pub places : places_of claims < length words
  pub one : IsOneList words records

-- no two different holders, by their records in `records`, hold the same place
abbrev pub NoneTwice : List (List Event) → Type 0
NoneTwice records = (h k : ℕ) (p : Place) → holds p (record_at records h) ≡ true
    → holds p (record_at records k) ≡ true → h ≡ k
