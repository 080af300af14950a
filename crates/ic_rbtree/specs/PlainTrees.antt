-- Trees over the plain table of tree links.
use Rattle.std.specs.Prelude.{⊤, ℕ, Bool, Option, List}
use Rattle.ic_link_ops.specs.Prelude.{Place, Table, words_of, table, linked_by, wide}
use Rattle.ic_link_ops.specs.declared.link.Link.{Link}
use Rattle.ic_link_ops.specs.declared.rbtree.ThreeWords.{ThreeWords}
use Rattle.ic_link_ops.specs.declared.table.PlainTable.{PlainTable}
use Rattle.ic_link_ops.specs.ThreeWords.{no_words, has_link, node_of}
use Rattle.ic_link_ops.specs.RedBlackTree.{Node, Represents, RepresentsSome}
use Rattle.ic_rbtree.specs.Members.{members}

-- the node that the words of a link describe
abbrev pub node_by : {W V : Type 0} → (W → Node) → Link W V → Node
node_by node l = node (words_of l)

-- the type of the link by which an object is in a tree. `TreeLinkOps` is the type of the plain tables of tree links
abbrev pub TreeLink : Type 0
TreeLink = Link (ThreeWords ℕ) ⊤

abbrev pub TreeLinkOps : Type 0 → Type 0
TreeLinkOps A = PlainTable (ThreeWords ℕ) A ⊤

-- whether a link is that of a linked place
abbrev pub is_linked : TreeLink → Bool
is_linked = linked_by has_link

-- the plain table of tree links, in the form that contracts of its callers use
abbrev pub plain_table : {A : Type 0} → TreeLinkOps A → Table TreeLink
plain_table links = table wide no_words links

-- a table of tree links represents s for the tree with this root
abbrev pub RepresentsTree : Table TreeLink → Option Place → List Place → Type 0
RepresentsTree = Represents node_of

-- the plain table `links` represents s for the tree with this root. `PlainRepresentsSome` states that the table represents some sequence for the tree
abbrev pub PlainRepresents : {A : Type 0} → TreeLinkOps A → Option Place → List Place → Type 0
PlainRepresents links root s = RepresentsTree (plain_table links) root s

abbrev pub PlainRepresentsSome : {A : Type 0} → TreeLinkOps A → Option Place → Type 0
PlainRepresentsSome links root = RepresentsSome node_of (plain_table links) root

-- the members of the tree with this root, in order, according to the plain table
abbrev pub members_of : {A : Type 0} → TreeLinkOps A → Option Place → List Place
members_of links root = members node_of (plain_table links) root
