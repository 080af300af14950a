-- These definitions are about the links of the plain table of singly linked lists.
use Rattle.std.specs.Prelude.{ℕ, List, Bool, ⊤}
use Rattle.ic_link_ops.specs.Prelude.{Place, Table, table, linked_by, wide}
use Rattle.ic_link_ops.specs.declared.link.Link.{Link}
use Rattle.ic_link_ops.specs.declared.one_word.OneWord.{OneWord}
use Rattle.ic_link_ops.specs.declared.singly_linked_list.Singly.{Singly}
use Rattle.ic_link_ops.specs.declared.table.PlainTable.{PlainTable}
use Rattle.ic_link_ops.specs.OneWord.{no_word, has_word, next_word_of}
use Rattle.ic_link_ops.specs.Readings.{successor_of}
use Rattle.ic_link_ops.specs.SinglyLinkedList.{Front, Represents, RepresentsSome}

-- the link of a singly linked list. `SinglyLinkOps` is a table of such links
abbrev pub SinglyLink : Type 0
SinglyLink = Link (OneWord Singly ℕ) ⊤

abbrev pub SinglyLinkOps : Type 0 → Type 0
SinglyLinkOps A = PlainTable (OneWord Singly ℕ) A ⊤

-- whether a link is that of a linked place
abbrev pub is_linked : SinglyLink → Bool
is_linked = linked_by has_word

-- the plain table of the links of singly linked lists, as the contracts of its callers describe it
abbrev pub plain_table : {A : Type 0} → SinglyLinkOps A → Table SinglyLink
plain_table links = table wide no_word links

-- `RepresentsList t list s`: the table t of links of singly linked lists represents the sequence s for `list`
abbrev pub RepresentsList : Table SinglyLink → Front → List Place → Type 0
RepresentsList = Represents (successor_of next_word_of has_word)

-- `RepresentsSomeList t list`: the table t of links of singly linked lists represents some sequence for `list`
abbrev pub RepresentsSomeList : Table SinglyLink → Front → Type 0
RepresentsSomeList = RepresentsSome (successor_of next_word_of has_word)

-- the plain table represents the sequence s for the list. `PlainRepresentsSome` says that the plain table represents some sequence for the list
abbrev pub PlainRepresents : {A : Type 0} → SinglyLinkOps A → Front → List Place → Type 0
PlainRepresents links list s = RepresentsList (plain_table links) list s

abbrev pub PlainRepresentsSome : {A : Type 0} → SinglyLinkOps A → Front → Type 0
PlainRepresentsSome links list = RepresentsSomeList (plain_table links) list
