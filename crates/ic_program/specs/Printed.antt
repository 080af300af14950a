-- WHAT IS PRINTED: the line of each answer, and the lines of workers.
use Rattle.std.specs.Prelude.{ℕ, ◌+◌, true, false, List, [], ◌∷◌, ◌++◌, Some, None, codes, decimal, flat_map}
use Rattle.ic_unsafe_ref.specs.declared.place.Place.{Place}
use Rattle.ic_unsafe_ref.specs.Places.{index_of}
use Rattle.ic_workers.specs.Doubles.{doubles_below}
use Rattle.ic_world.specs.declared.call.Refusal.{Refusal}
use Rattle.ic_world.specs.declared.call.Refusal.TheVariants.{NoSuchField, NoSuchCollection, NoSuchObject, WrongKind, SameCollection, OtherField, NothingThere, NotAMember, NotANeighbour, AlreadyLinked, IsMember, StillLinked, TooManyObjects, OutOfMemory}
use Rattle.ic_world.specs.Refusals.{number_of}
use Rattle.ic_world.specs.Calls.{Reply, done, nothing, object, field, opened, items, linked, found, looked, range, entry, refused}

-- the name of a refusal
abbrev pub name_of : Refusal → List ℕ
name_of NoSuchField = codes "NoSuchField"
name_of NoSuchCollection = codes "NoSuchCollection"
name_of NoSuchObject = codes "NoSuchObject"
name_of WrongKind = codes "WrongKind"
name_of SameCollection = codes "SameCollection"
name_of OtherField = codes "OtherField"
name_of NothingThere = codes "NothingThere"
name_of NotAMember = codes "NotAMember"
name_of NotANeighbour = codes "NotANeighbour"
name_of AlreadyLinked = codes "AlreadyLinked"
name_of IsMember = codes "IsMember"
name_of StillLinked = codes "StillLinked"
name_of TooManyObjects = codes "TooManyObjects"
name_of OutOfMemory = codes "OutOfMemory"

-- `number_at` is the number of an object in decimal digits. `items_of` is the word `items`, and then a space and the number of each object
abbrev pub number_at : Place → List ℕ
number_at place = decimal (index_of place)

abbrev pub items_of : List Place → List ℕ
items_of places = codes "items" ++ flat_map (λ place. codes " " ++ number_at place) places

-- THE LINE OF A REPLY is what the program prints for the reply, with a line feed at the end
abbrev pub line_of : Reply → List ℕ
line_of done = codes "ok\n"
line_of nothing = codes "none\n"
line_of (object place) = codes "object " ++ number_at place ++ codes "\n"
line_of (field number) = codes "field " ++ decimal number ++ codes "\n"
line_of (opened number) = codes "collection " ++ decimal number ++ codes "\n"
line_of (items places) = items_of places ++ codes "\n"
line_of (linked true) = codes "linked\n"
line_of (linked false) = codes "unlinked\n"
line_of (found (Some place) looks) = codes "object " ++ number_at place ++ codes " looks " ++ decimal looks ++ codes "\n"
line_of (found None looks) = codes "none looks " ++ decimal looks ++ codes "\n"
line_of (looked looks) = codes "ok looks " ++ decimal looks ++ codes "\n"
line_of (range places first second) = items_of places ++ codes " looks " ++ decimal first ++ codes " " ++ decimal second ++ codes "\n"
line_of (entry true place looks) = codes "occupied object " ++ number_at place ++ codes " looks " ++ decimal looks ++ codes "\n"
line_of (entry false place looks) = codes "inserted object " ++ number_at place ++ codes " looks " ++ decimal looks ++ codes "\n"
line_of (refused refusal) = codes "refused " ++ decimal (number_of refusal) ++ codes " " ++ name_of refusal ++ codes "\n"

-- the lines of several replies, in order
abbrev pub lines_of : List Reply → List ℕ
lines_of replies = flat_map line_of replies

-- the notice that the line with this number, counted from 1, is not a command
abbrev pub no_command_at : ℕ → List ℕ
no_command_at line = codes "line " ++ decimal line ++ codes ": no command\n"

-- THE LINE OF A WORKER has the number of the worker, and the places that it got. Workers are numbered from 1
abbrev pub worker_line : ℕ → List Place → List ℕ
worker_line number places = codes "worker " ++ decimal number ++ codes " " ++ items_of places ++ codes "\n"

-- the lines of several workers. The first worker has the number `number`, and each next worker has the next number
abbrev pub worker_lines : ℕ → List (List Place) → List ℕ
worker_lines number [] = []
worker_lines number (places ∷ lists) = worker_line number places ++ worker_lines (number + 1) lists

-- the lines of all workers, and then a line that says how many of the first `places` places are in more than one list
abbrev pub workers_text : ℕ → List (List Place) → List ℕ
workers_text places lists = worker_lines 1 lists ++ (codes "doubles " ++ decimal (doubles_below places lists) ++ codes "\n")
