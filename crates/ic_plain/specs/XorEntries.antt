-- These definitions are about the links of the plain table of XOR lists.
use Rattle.std.specs.Prelude.{ℕ, List, Bool, ⊤}
use Rattle.ic_link_ops.specs.Prelude.{Place, Table, Ends, table, linked_by, wide}
use Rattle.ic_link_ops.specs.declared.link.Link.{Link}
use Rattle.ic_link_ops.specs.declared.one_word.OneWord.{OneWord}
use Rattle.ic_link_ops.specs.declared.xor_linked_list.Xor.{Xor}
use Rattle.ic_link_ops.specs.declared.table.PlainTable.{PlainTable}
use Rattle.ic_link_ops.specs.OneWord.{no_word, has_word, next_word_of}
use Rattle.ic_link_ops.specs.Readings.{HasXorNeighbors}
use Rattle.ic_link_ops.specs.XorLinkedList.{Represents, RepresentsSome}

-- the link of an XOR list. `XorLinkOps` is a table of such links
abbrev pub XorLink : Type 0
XorLink = Link (OneWord Xor ℕ) ⊤

abbrev pub XorLinkOps : Type 0 → Type 0
XorLinkOps A = PlainTable (OneWord Xor ℕ) A ⊤

-- whether a link is that of a linked place
abbrev pub is_linked : XorLink → Bool
is_linked = linked_by has_word

-- the plain table of the links of XOR lists, as the contracts of its callers describe it
abbrev pub plain_table : {A : Type 0} → XorLinkOps A → Table XorLink
plain_table links = table wide no_word links

-- `RepresentsList t list s`: the table t of XOR links represents the sequence s for `list`
abbrev pub RepresentsList : Table XorLink → Ends → List Place → Type 0
RepresentsList = Represents is_linked (HasXorNeighbors next_word_of)

-- `RepresentsSomeList t list`: the table t of XOR links represents some sequence for `list`
abbrev pub RepresentsSomeList : Table XorLink → Ends → Type 0
RepresentsSomeList = RepresentsSome is_linked (HasXorNeighbors next_word_of)

-- the plain table represents the sequence s for the list. `PlainRepresentsSome` says that the plain table represents some sequence for the list
abbrev pub PlainRepresents : {A : Type 0} → XorLinkOps A → Ends → List Place → Type 0
PlainRepresents links list s = RepresentsList (plain_table links) list s

abbrev pub PlainRepresentsSome : {A : Type 0} → XorLinkOps A → Ends → Type 0
PlainRepresentsSome links list = RepresentsSomeList (plain_table links) list
