-- Definitions that count the places which came in the order in which their sender sent them.
use Rattle.std.specs.Prelude.{◌≡◌, ℕ, ◌+◌, ◌*◌, ◌/◌, ◌%◌, ◌<◌, ◌==◌, if◌then◌else◌, List, [], ◌∷◌, length, slice_index_or, sum_by}
use Rattle.std.specs.List.{range_with_len}
use Rattle.ic_unsafe_ref.specs.declared.place.Place.{Place}
use Rattle.ic_unsafe_ref.specs.Places.{index_of}
use Rattle.stack_uses.specs.Delivery.{of_sender}

-- how many places of one sender came in order: first the place with the index `first`, and then the places with the following indices
abbrev pub in_order_from : ℕ → List Place → ℕ
in_order_from first [] = 0
in_order_from first (p ∷ ps) = if index_of p == first then in_order_from (first + 1) ps + 1 else in_order_from first ps

-- how many places of all senders together came in the order of their sender, if each sender sends `count` places
abbrev pub in_order_of : ℕ → ℕ → List Place → ℕ
in_order_of senders count came = if count == 0 then 0 else sum_by (λ (k : ℕ). in_order_from (k * count) (of_sender count k came)) (range_with_len 0 senders)

-- The place with the index `index` is the next one of its sender. `numbers` has, for each sender, how many of its places came in order before
abbrev pub IsNext : List ℕ → ℕ → ℕ → Type 0
IsNext numbers count index = (0 < count) × (index / count < length numbers) × (slice_index_or numbers (index / count) 0 ≡ index % count)
