-- Contracts describe a builder, which makes a tree of objects that are pushed in order, by these definitions.
use Rattle.ic_link_ops.specs.Chains.{Ends, list_head}
use Rattle.ic_rbtree.specs.declared.builder.RBTreeBuilder.{RBTreeBuilder}

module _ {A : Type 0} where
  -- the first and the last member of the builder, none if it has no members
  abbrev pub ends_of : RBTreeBuilder A → Ends
  ends_of b = list_head b.front b.back

  -- the adapter with which the builder was made
  abbrev pub builder_adapter_of : RBTreeBuilder A → A
  builder_adapter_of b = b.adapter
