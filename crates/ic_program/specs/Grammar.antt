-- THE GRAMMAR: which command a line means.
use Rattle.std.specs.Prelude.{ℕ, ◌*◌, ◌+◌, ◌^◌, ◌&&◌, List, [], ◌∷◌, length, drop, filter, codes, Option, Some, None, option_map, option_and_then, nat_eq, nat_lt, nat_le, ◌==◌, if◌then◌else◌, bytes_eq}
use Rattle.std.specs.List.{slice_split, starts_with}
use Rattle.std.specs.Str.{all_ascii_digits}
use Rattle.std.specs.Str.Parse.{digits_value}
use Rattle.ic_unsafe_ref.specs.declared.place.Place.{Place}
use Rattle.ic_unsafe_ref.specs.Places.{place_at}
use Rattle.ic_any_collection.specs.declared.kind.Kind.{Kind}
use Rattle.ic_any_collection.specs.declared.kind.Kind.TheVariants.{Singly, Doubly, Xor, Tree}
use Rattle.ic_rbtree.specs.declared.keys.key_adapter.Bound.{Bound}
use Rattle.ic_rbtree.specs.declared.keys.key_adapter.Bound.TheVariants.{Included, Excluded, Unbounded}
use Rattle.ic_world.specs.declared.call.Command.{Command}
use Rattle.ic_world.specs.declared.call.Command.TheVariants as call
use Rattle.ic_any_collection.specs.declared.gap.Gap.TheVariants.{Front, Back, Before, After}
use Rattle.ic_world.specs.declared.calls.collection_call.Call.{Call as CollectionCall}
use Rattle.ic_world.specs.declared.calls.collection_call.Call.TheVariants.{Put, Take, Swap, Move, Seek, BulkEdit, Search, Insertion, Enter}
use Rattle.ic_world.specs.declared.calls.collection_call.Neighbor.TheVariants.{Next, Prev}
use Rattle.ic_world.specs.declared.calls.seek.Seek.TheVariants.{Null, On, With}
use Rattle.ic_world.specs.declared.calls.bulk_edit.BulkEdit.TheVariants.{Clear, Reverse}
use Rattle.ic_world.specs.declared.calls.search.Search.TheVariants.{Find, LowerBound, UpperBound}
use Rattle.ic_world.specs.declared.calls.insertion.Insertion.TheVariants.{Insert, CursorInsert}
use Rattle.ic_program.specs.declared.line.Line.{Line}
use Rattle.ic_program.specs.declared.line.Line.TheVariants.{Empty, Call, NoCommand}

-- THE WORDS OF A LINE are separated by spaces, and empty words are dropped
abbrev pub words_of : List ℕ → List (List ℕ)
words_of line = filter (λ word. nat_lt 0 (length word)) (slice_split (λ byte. byte == 32) line)

-- A WORD IS A NUMBER if it has 1 to 20 decimal digits and its value is below 2^64
abbrev pub number_in : List ℕ → Option ℕ
number_in word =
    if all_ascii_digits word && nat_lt 0 (length word) && nat_le (length word) 20 && nat_lt (digits_value 10 word) (2 ^ 64)
    then Some (digits_value 10 word) else None

-- `place_in` reads the place of an object from a word, which has to be a number below 2^32
abbrev pub nth_place : ℕ → Option Place
nth_place index = if nat_lt index (2 ^ 32) then place_at (8 * (index + 1)) else None

abbrev pub place_in : List ℕ → Option Place
place_in word = option_and_then nth_place (number_in word)

-- the value that a list of names with their values has for a word, or none if no name is the word
abbrev pub named : {A : Type 0} → List (List ℕ × A) → List ℕ → Option A
named [] word = None
named (entry ∷ entries) word = if bytes_eq word entry.0 then Some entry.1 else named entries word

-- the kind that a word names
abbrev pub kind_in : List ℕ → Option Kind
kind_in = named ((codes "singly", Singly) ∷ (codes "doubly", Doubly) ∷ (codes "xor", Xor) ∷ (codes "tree", Tree) ∷ [])

-- a bound of keys: `included:K`, `excluded:K` or `unbounded`
abbrev pub bound_in : List ℕ → Option (Bound ℕ)
bound_in word =
    if starts_with nat_eq word (codes "included:") then option_map Included (number_in (drop 9 word))
    else if starts_with nat_eq word (codes "excluded:") then option_map Excluded (number_in (drop 9 word))
    else named ((codes "unbounded", Unbounded) ∷ []) word

-- the neighbor that a word names: the number of an object, or `none` if the list has no member on that side
abbrev pub neighbor_in : List ℕ → Option (Option Place)
neighbor_in word = if bytes_eq word (codes "none") then Some None else option_map Some (place_in word)

-- A CALL WITH ONE, TWO OR THREE ARGUMENTS is read from exactly as many words. Each word is read by the function of its argument
abbrev pub one : {A : Type 0} → (List ℕ → Option A) → (A → Command ℕ ℕ) → List (List ℕ) → Option (Command ℕ ℕ)
one a call (u ∷ []) = option_map call (a u)
one a call _ = None

abbrev pub two : {A B : Type 0} → (List ℕ → Option A) → (List ℕ → Option B) → (A → B → Command ℕ ℕ) → List (List ℕ) → Option (Command ℕ ℕ)
two a b call (u ∷ v ∷ []) = option_and_then (λ x. option_map (call x) (b v)) (a u)
two a b call _ = None

abbrev pub three : {A B C : Type 0} → (List ℕ → Option A) → (List ℕ → Option B) → (List ℕ → Option C)
    → (A → B → C → Command ℕ ℕ) → List (List ℕ) → Option (Command ℕ ℕ)
three a b c call (u ∷ v ∷ w ∷ []) = option_and_then (λ x. option_and_then (λ y. option_map (call x y) (c w)) (b v)) (a u)
three a b c call _ = None

-- A CALL OF ONE COLLECTION is made from the number of the collection and no, one or two more arguments
abbrev pub on : CollectionCall ℕ → ℕ → Command ℕ ℕ
on made c = call.On c made

abbrev pub on_with : {A : Type 0} → (A → CollectionCall ℕ) → ℕ → A → Command ℕ ℕ
on_with made c x = call.On c (made x)

abbrev pub on_with_two : {A B : Type 0} → (A → B → CollectionCall ℕ) → ℕ → A → B → Command ℕ ℕ
on_with_two made c x y = call.On c (made x y)

-- THE CALLS: the name of each call, and the function that reads its arguments
unfoldable pub calls : List (List ℕ × (List (List ℕ) → Option (Command ℕ ℕ)))
calls =
    (codes "place", one number_in call.Place)
    ∷ (codes "remove_object", one place_in call.RemoveObject)
    ∷ (codes "set_value", two place_in number_in call.SetValue)
    ∷ (codes "field", one kind_in call.AddField)
    ∷ (codes "open", two number_in kind_in call.Open)
    ∷ (codes "dispose", one number_in call.Dispose)
    ∷ (codes "clear", one number_in (on (BulkEdit Clear)))
    ∷ (codes "fast_clear", one number_in call.FastClear)
    ∷ (codes "take", one number_in call.Take)
    ∷ (codes "show", one number_in call.Show)
    ∷ (codes "show_back", one number_in call.ShowBack)
    ∷ (codes "push_front", two number_in place_in (on_with (Put Front)))
    ∷ (codes "push_back", two number_in place_in (on_with (Put Back)))
    ∷ (codes "pop_front", one number_in (on (Take Front)))
    ∷ (codes "pop_back", one number_in (on (Take Back)))
    ∷ (codes "move_next", one number_in (on (Move Next)))
    ∷ (codes "move_prev", one number_in (on (Move Prev)))
    ∷ (codes "go_null", one number_in (on (Seek Null)))
    ∷ (codes "current", one number_in call.Current)
    ∷ (codes "seek", two number_in place_in (on_with (λ p. Seek (On p))))
    ∷ (codes "seek_with_prev", three number_in place_in neighbor_in (on_with_two (λ p beside. Seek (With Prev p beside))))
    ∷ (codes "seek_with_next", three number_in place_in neighbor_in (on_with_two (λ p beside. Seek (With Next p beside))))
    ∷ (codes "insert_after", two number_in place_in (on_with (Put After)))
    ∷ (codes "insert_before", two number_in place_in (on_with (Put Before)))
    ∷ (codes "remove", one number_in (on (Take Before)))
    ∷ (codes "remove_next", one number_in (on (Take After)))
    ∷ (codes "replace_with", two number_in place_in (on_with (Swap Before)))
    ∷ (codes "replace_next_with", two number_in place_in (on_with (Swap After)))
    ∷ (codes "splice_after", two number_in number_in call.SpliceAfter)
    ∷ (codes "splice_before", two number_in number_in call.SpliceBefore)
    ∷ (codes "split_after", one number_in call.SplitAfter)
    ∷ (codes "split_before", one number_in call.SplitBefore)
    ∷ (codes "reverse", one number_in (on (BulkEdit Reverse)))
    ∷ (codes "find", two number_in number_in (on_with (λ key. Search (Find key))))
    ∷ (codes "lower_bound", two number_in bound_in (on_with (λ bound. Search (LowerBound bound))))
    ∷ (codes "upper_bound", two number_in bound_in (on_with (λ bound. Search (UpperBound bound))))
    ∷ (codes "range", three number_in bound_in bound_in call.Range)
    ∷ (codes "insert", two number_in place_in (on_with (λ p. Insertion (Insert p))))
    ∷ (codes "cursor_insert", two number_in place_in (on_with (λ p. Insertion (CursorInsert p))))
    ∷ (codes "entry", three number_in number_in place_in (on_with_two Enter))
    ∷ (codes "is_linked", two number_in place_in call.IsLinked)
    ∷ (codes "force_unlink", two number_in place_in call.ForceUnlink)
    ∷ []

-- THE COMMAND THAT WORDS MEAN: the first word is the name of a call, and the words after it are its arguments
abbrev pub command_among : List (List ℕ × (List (List ℕ) → Option (Command ℕ ℕ))) → List (List ℕ) → Option (Command ℕ ℕ)
command_among entries [] = None
command_among entries (name ∷ words) = option_and_then (λ read. read words) (named entries name)

unfoldable pub command_in : List (List ℕ) → Option (Command ℕ ℕ)
command_in words = command_among calls words

-- WHAT A LINE MEANS: it is `Empty` if it has no words, `Call` if its words are a command, and otherwise `NoCommand`
abbrev pub said_by : List (List ℕ) → Option (Command ℕ ℕ) → Line
said_by [] command = Empty
said_by (name ∷ words) None = NoCommand
said_by (name ∷ words) (Some command) = Call command

abbrev pub said_in : List ℕ → Line
said_in line = said_by (words_of line) (command_in (words_of line))

-- the commands of several lines, in order, or none if a line is not a command
abbrev pub before_others : Line → Option (List (Command ℕ ℕ)) → Option (List (Command ℕ ℕ))
before_others Empty commands = commands
before_others (Call command) commands = option_map (λ others. command ∷ others) commands
before_others NoCommand commands = None

abbrev pub commands_in : List (List ℕ) → Option (List (Command ℕ ℕ))
commands_in [] = Some []
commands_in (line ∷ lines) = before_others (said_in line) (commands_in lines)
