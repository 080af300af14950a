-- What a call does that inserts an object into a tree, or that removes the member at an end of the tree. `old` and `new` are the links before the call and
-- after it, and `tree` and `tree'` are the tree before the call and after it.
use Rattle.std.specs.Prelude.{◌≡◌, Option, Result, OnOk, OnErr, IfErr, IfSome, IfNone, List, [], ◌∷◌}
use Rattle.ic_link_ops.specs.Prelude.{Place, Table, ChangesOnlyIn, acquires, releases, LinkStep, Node}
use Rattle.ic_link_ops.specs.declared.errors.AlreadyLinked.{AlreadyLinked}
use Rattle.ic_rbtree.specs.declared.tree.RBTree.{RBTree}
use Rattle.ic_rbtree.specs.Kept.{Kept, RepresentsKept}
use Rattle.ic_rbtree.specs.Tree.{head_of, adapter_of}

-- `kept` says what the head of a tree stores, and `n` reads the node of an entry. `table` turns the links into a table, and `Trace` lists the steps that
-- acquire and release links
module _ {A E H L : Type 0} (kept : H → Kept) (n : E → Node) (table : L → Table E) (Trace : L → L → List LinkStep → Type 0) where
  -- `Refused` says that the table refused a link. `Inserted t t' h s p` says where the object p is inserted among the members s
  module _ {T : Type 0} (Refused : L → L → Place → Type 0) (Inserted : Table E → Table E → H → List Place → Place → Type 0) where
    -- AN OBJECT IS INSERTED into the tree, or its link is refused and nothing changes
    pub record InsertsIntoTree (old : L) (tree : RBTree A H) (object : Place) (result : Result Unit (AlreadyLinked T)) (new : L) (tree' : RBTree A H) : Type 0 where
      pub inserted : (s : List Place) → RepresentsKept kept n (table old) (head_of tree) s → OnOk result (Inserted (table old) (table new) (head_of tree') s object)
      pub acquired : OnOk result (Trace old new (acquires object ∷ []))
      pub adapter : adapter_of tree' ≡ adapter_of tree
      pub refused : OnErr result (Refused old new object)
      pub unchanged : IfErr result (λ refused. (refused.0 ≡ object) × (tree' ≡ tree))

    -- A PROBE FINDS WHERE AN OBJECT IS INSERTED, or the object's link is refused and nothing changes. `probe` and `probe'` are the probe before the call and
    -- after it. `Looked` says how many comparisons the probe makes. If the link is refused, it makes none
    pub record InsertsByProbe {P : Type 0} (Looked : P → P → List Place → Type 0) (old : L) (tree : RBTree A H) (probe : P) (object : Place)
        (result : Result Unit (AlreadyLinked T)) (new : L) (tree' : RBTree A H) (probe' : P) : Type 0 where
      pub inserted : (s : List Place) → RepresentsKept kept n (table old) (head_of tree) s → OnOk result (Inserted (table old) (table new) (head_of tree') s object)
      pub acquired : OnOk result (Trace old new (acquires object ∷ []))
      pub adapter : adapter_of tree' ≡ adapter_of tree
      pub refused : OnErr result (Refused old new object)
      pub unchanged : IfErr result (λ refused. (refused.0 ≡ object) × (tree' ≡ tree))
      pub looks : (s : List Place) → RepresentsKept kept n (table old) (head_of tree) s → OnOk result (Looked probe probe' s)
      pub no_look : OnErr result (probe' ≡ probe)

  -- THE MEMBER AT AN END IS REMOVED and returned, or the tree is empty and nothing changes. Of the members s, the call returns the member `taken s` and leaves
  -- the members `rest s`
  pub record PopsFromTree (taken : List Place → Option Place) (rest : List Place → List Place) (old : L) (tree : RBTree A H) (result : Option Place)
      (new : L) (tree' : RBTree A H) : Type 0 where
    pub answer : (s : List Place) → RepresentsKept kept n (table old) (head_of tree) s → result ≡ taken s
    pub removed : (s : List Place) → RepresentsKept kept n (table old) (head_of tree) s → RepresentsKept kept n (table new) (head_of tree') (rest s)
    pub released : IfSome result (λ object. Trace old new (releases object ∷ []))
    pub empty : IfNone result ((tree' ≡ tree) × (new ≡ old))
    pub adapter : adapter_of tree' ≡ adapter_of tree
    pub frame : (s : List Place) → RepresentsKept kept n (table old) (head_of tree) s → ChangesOnlyIn (table old) (table new) s
