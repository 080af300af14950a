-- A contract sees timers as values that wait, in the order in which they are due.
use Rattle.std.specs.Prelude.{◌≡◌, ◌≢◌, ◌<◌, ◌≤◌, ℕ, Bool, List, ◌∷◌, ◌++◌, map, refl}
use Rattle.std.specs.Coded.{Coded, code_by, coded×, coded_ℕ, coded_bool, coded_list}
use Rattle.std.specs.List.{AllByRecursion}
use Rattle.std.specs.Ordering.{nat_cmp}
use Rattle.ic_link_ops.specs.Prelude.{Place, place_code}
use Rattle.ic_rbtree.specs.Borders.{IsSorted}

-- a waiting timer: its value, its deadline, and the reference by which a caller can cancel it
pub record Waiting (V : Type 0) : Type 0 where
  pub reference : Place
  pub deadline : ℕ
  pub value : V

-- the waiting timer with the given reference, deadline and value
abbrev pub timer_of : {V : Type 0} → Place → ℕ → V → Waiting V
timer_of reference deadline value = record { reference = reference; deadline = deadline; value = value }

-- a waiting timer is stored as the tuple of its fields
abbrev pub waiting_code : {V : Type 0} → Coded V → Coded (Waiting V)
waiting_code {V} code =
    code_by (Place × (ℕ × V)) (coded× place_code (coded× coded_ℕ code)) (λ w. (w.reference, (w.deadline, w.value)))
    (λ p. record { reference = p.0; deadline = p.1.0; value = p.1.1 }) (λ _. refl)

-- a timetable has the waiting timers, in the order in which they are due, and says whether all places are in use
pub record Timetable (V : Type 0) : Type 0 where
  pub waiting : List (Waiting V)
  pub is_full : Bool

abbrev pub timetable_code : {V : Type 0} → Coded V → Coded (Timetable V)
timetable_code {V} code =
    code_by (List (Waiting V) × Bool) (coded× (coded_list (waiting_code code)) coded_bool) (λ t. (t.waiting, t.is_full)) (λ p. record { waiting = p.0; is_full = p.1 }) (λ _. refl)

module _ {V : Type 0} where
  -- the deadline and the value of each timer, which are what a removal returns
  abbrev pub taken_out : List (Waiting V) → List (ℕ × V)
  taken_out waiting = map (λ (w : Waiting V). (w.deadline, w.value)) waiting

  -- the deadlines of the waiting timers
  abbrev pub deadlines : List (Waiting V) → List ℕ
  deadlines waiting = map (λ (w : Waiting V). w.deadline) waiting

  -- no waiting timer has the reference
  abbrev pub NamesNone : Place → List (Waiting V) → Type 0
  NamesNone reference waiting = AllByRecursion (λ (w : Waiting V). reference ≢ w.reference) waiting

  -- A TIMER IS ADDED after all timers with the same deadline or an earlier one. No timer had its reference, and the deadlines of `new` never decrease
  pub record Adds (timer : Waiting V) (old new : List (Waiting V)) : Type 0 where
    pub front : List (Waiting V)
    pub back : List (Waiting V)
    pub was : old ≡ front ++ back
    pub is : new ≡ front ++ timer ∷ back
    pub later : AllByRecursion (λ (w : Waiting V). timer.deadline < w.deadline) back
    pub rises : IsSorted nat_cmp (deadlines new)
    pub fresh : NamesNone timer.reference old

  -- ONE TIMER IS CANCELED, and all other timers still wait, in their order
  pub record Cancels (timer : Waiting V) (old new : List (Waiting V)) : Type 0 where
    pub front : List (Waiting V)
    pub back : List (Waiting V)
    pub was : old ≡ front ++ timer ∷ back
    pub is : new ≡ front ++ back

  -- THE FIRST TIMER IS REMOVED: it is due at the time `now`, and has the given deadline and value
  pub record TakesFirst (now deadline : ℕ) (value : V) (old new : List (Waiting V)) : Type 0 where
    pub reference : Place
    pub first : old ≡ timer_of reference deadline value ∷ new
    pub due : deadline ≤ now

  -- THE FIRST TIMERS ARE REMOVED, and each of them is due. Their deadlines and values are appended in order to the caller's list, which was `had` and
  -- is now `has`. The other timers still wait, in their order
  pub record TakesAll (now : ℕ) (had has : List (ℕ × V)) (old new : List (Waiting V)) : Type 0 where
    pub taken : List (Waiting V)
    pub were : old ≡ taken ++ new
    pub due : AllByRecursion (λ (w : Waiting V). w.deadline ≤ now) taken
    pub out : has ≡ had ++ taken_out taken
