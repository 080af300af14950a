-- The hand of a seat, which is the list of the records that the seat has. A thread makes its steps on the claim words by a seat.
use Rattle.std.specs.Prelude.{List, [], take, drop, ◌++◌, flat_map}
use Rattle.ic_atomic.specs.declared.step.Event.{Event}
use Rattle.ic_atomic.specs.declared.held.Size.{Size}
use Rattle.ic_atomic.specs.declared.held.HeldRecords.{HeldRecords}

-- the hand with the records `records`, for claims of the size `size`
abbrev pub hand : Size → List (List Event) → HeldRecords
hand size records = record { size = size; records = records }

-- the records of all hands in the list `holders`, in one list
abbrev pub records_in : List HeldRecords → List (List Event)
records_in holders = flat_map (λ (v : HeldRecords). v.records) holders

-- the hand v without its first record
abbrev pub without_first : HeldRecords → HeldRecords
without_first v = hand v.size (drop 1 v.records)

-- the hand v with only its first record
abbrev pub only_first : HeldRecords → HeldRecords
only_first v = hand v.size (take 1 v.records)

-- the hand with the records of v, followed by the records of w
abbrev pub both_hands : HeldRecords → HeldRecords → HeldRecords
both_hands v w = hand v.size (v.records ++ w.records)

-- the hand of a seat that has given its records away
abbrev pub nothing_left : HeldRecords
nothing_left = hand record { words = 0; holders = 0 } []
