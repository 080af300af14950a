-- The kinds of tables and of collections, and which kind of table can serve which kind of collection.
use Rattle.std.specs.Prelude.{ℕ, Bool, true, false, List, [], ◌∷◌}
use Rattle.std.proofs.Common.{zero, suc}
use Rattle.ic_any_collection.specs.declared.kind.Kind.{Kind}
use Rattle.ic_any_collection.specs.declared.kind.Kind.TheVariants.{Singly, Doubly, Xor, Tree}

-- the number of each kind. The extent of a table contains the kind of the table as this number
abbrev pub number_of : Kind → ℕ
number_of Singly = 0
number_of Doubly = 1
number_of Xor = 2
number_of Tree = 3

abbrev pub kind_with : List ℕ → Kind
kind_with [] = Singly
kind_with (zero ∷ rest) = Singly
kind_with (suc zero ∷ rest) = Doubly
kind_with (suc (suc zero) ∷ rest) = Xor
kind_with (suc (suc (suc n)) ∷ rest) = Tree

-- whether a table of the first kind can serve collections of the second kind
abbrev pub carries : Kind → Kind → Bool
carries table Singly = true
carries table Xor = true
carries Doubly Doubly = true
carries Tree collection = true
carries table collection = false

-- which kinds have calls at the position before the cursor: all except singly linked lists
abbrev pub has_before : Kind → Bool
has_before Singly = false
has_before k = true

-- which kinds are lists. A list can be split at a gap, and two lists of one kind can be spliced into one list
abbrev pub is_list : Kind → Bool
is_list Tree = false
is_list k = true

-- which kinds are lists that have calls at the position before the cursor
abbrev pub is_two_way_list : Kind → Bool
is_two_way_list Doubly = true
is_two_way_list Xor = true
is_two_way_list k = false

abbrev pub is_singly : Kind → Bool
is_singly Singly = true
is_singly k = false

abbrev pub is_xor : Kind → Bool
is_xor Xor = true
is_xor k = false

-- in which kinds the place of a member suffices to put a cursor on it: all except XOR lists, in which a neighbor has to be named as well
abbrev pub has_pointer : Kind → Bool
has_pointer Xor = false
has_pointer k = true

abbrev pub is_tree : Kind → Bool
is_tree Tree = true
is_tree k = false
