-- A contract sees a phone book as its entries by their places.
use Rattle.std.specs.Prelude.{◌≡◌, ◌^◌, ℕ, leb, None, Some, refl}
use Rattle.std.specs.Coded.{Coded, code_by, coded×, coded_ℕ}
use Rattle.ic_link_ops.specs.Prelude.{Place, Objects, Places, Frees, object_at}
use Rattle.ic_pool.specs.Refusals.{lacks_place, value_of}
use Rattle.ic_container.specs.Trees.{IsFoundObject}
use Rattle.phone_book.specs.declared.entry.Entry.{Entry}
use Rattle.phone_book.specs.declared.insert_error.InsertError.{InsertError}
use Rattle.phone_book.specs.declared.insert_error.InsertError.TheVariants.{NumberTaken, NotPlaced}

-- `number_of` is the phone number of an entry, and `person_of` is its person
abbrev pub number_of : Entry → ℕ
number_of entry = entry.number

abbrev pub person_of : Entry → ℕ
person_of entry = entry.person

-- an entry is stored as the pair of its number and its person
abbrev pub entry_code : Coded Entry
entry_code = code_by (ℕ × ℕ) (coded× coded_ℕ coded_ℕ) (λ e. (e.number, e.person)) (λ p. record { number = p.0; person = p.1 }) (λ _. refl)

-- THE ENTRY IS ADDED at the place `p`, and no entry had its number before
pub record Adds (p : Place) (entry : Entry) (old new : Objects Entry) : Type 0 where
  pub placed : Places old new p entry
  pub fresh : IsFoundObject number_of old entry.number None

-- THE ENTRY IS REMOVED: it has the number, and its place is then free
pub record Removes (number : ℕ) (entry : Entry) (old new : Objects Entry) : Type 0 where
  pub place : Place
  pub there : object_at old place ≡ Some entry
  pub has : entry.number ≡ number
  pub freed : Frees old new place

-- an entry is refused for one of two reasons. Another entry has its number, or no entry has the number, but all places are in use or there is not enough
-- memory
abbrev pub IsRefused : Entry → Objects Entry → InsertError → Type 0
IsRefused entry old (NumberTaken refused) = (refused ≡ entry) × (other : Entry) × IsFoundObject number_of old entry.number (Some other)
IsRefused entry old (NotPlaced refused) = (value_of refused ≡ entry) × IsFoundObject number_of old entry.number None × (lacks_place refused ≡ leb (2 ^ 32) old.next)
