-- Statements on places that are shared out: each place is in exactly one of several lists.
use Rattle.std.specs.Prelude.{◌≡◌, ℕ, ◌+◌, ◌<◌, ◌≤◌, ◌==◌, ◌||◌, Bool, true, false, List, [], ◌∷◌, map, length, slice_index_or, Vec, All}
use Rattle.ic_link_ops.specs.Prelude.{Place, index_of}

-- whether the list contains the place with the index i
abbrev pub has : List Place → ℕ → Bool
has [] i = false
has (p ∷ s) i = (i == index_of p) || has s i

-- the list rises: each place has a larger index than the place before it, and all indexes are at least `low` and below `high`
abbrev pub Rises : ℕ → ℕ → List Place → Type 0
Rises low high [] = Unit {0}
Rises low high (p ∷ s) = (low ≤ index_of p) × (index_of p < high) × Rises (index_of p + 1) high s

-- the places of each of the given lists
abbrev pub places_in : {A : Type 0} → List (Vec Place A) → List (List Place)
places_in lists = map (λ list. list.items) lists

-- the list with the number i, counted from 0, or the empty list if no list has this number
abbrev pub list_at : List (List Place) → ℕ → List Place
list_at lists i = slice_index_or lists i []

-- the first `places` places are shared out among `workers` workers: each worker has a list, and if there is a worker, each place is in exactly one of the lists
pub record SharedOut (workers places : ℕ) (lists : List (List Place)) : Type 0 where
  -- There is one list for each worker.
  pub each : length lists ≡ workers
  -- Each list rises, and contains only places with an index below `places`.
  pub rises : All (Rises 0 places) lists
  -- No place is in two of the lists.
  pub apart : (i k n : ℕ) → has (list_at lists i) n ≡ true → has (list_at lists k) n ≡ true → i ≡ k
  -- If there is a worker, each of the first places is in one of the lists.
  pub all : 0 < workers → (n : ℕ) → n < places → (i : ℕ) × (has (list_at lists i) n ≡ true)

-- each worker, numbered from 1, has reported to the gate that it has received `answered` results
abbrev pub IsReportedOfEach : (ℕ → ℕ → Type 0) → ℕ → ℕ → Type 0
IsReportedOfEach Reported workers answered = (worker : ℕ) → 0 < worker → worker ≤ workers → Reported worker answered
