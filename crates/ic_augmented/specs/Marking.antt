-- An edit may make summaries stale, and leave the summary above them as it was. These definitions say what such an edit keeps.
use Rattle.std.specs.Prelude.{◌≡◌, Bool, Option, List}
use Rattle.std.specs.Borrow.{MutBor}
use Rattle.ic_link_ops.specs.Prelude.{Place, Table, Node}
use Rattle.ic_rbtree.specs.Closed.{IsIn, KeepsNodes}
use Rattle.ic_augmented.specs.Augmented.{links_of, summaries_of}
use Rattle.ic_augmented.specs.Summaries.{Summaries, WritesNoSummary}
use Rattle.ic_augmented.specs.Consistent.{IsConsistent, IsConsistentBut}
use Rattle.ic_augmented.specs.Beside.{IsWrittenIn, IsSameBeside, StaysInside}
use Rattle.ic_augmented.specs.declared.marking.Marking.{Marking}
use Rattle.ic_augmented.specs.declared.augmented.Augmented.{Augmented}

module _ {N M F : Type 0} where
  abbrev pub links_in : Marking N M F → N
  links_in t = t.summed.now.links

  abbrev pub summaries_in : Marking N M F → M
  summaries_in t = t.summed.now.summaries

  -- `t` borrows the links and the summaries of `summed`, and both are unchanged
  abbrev pub Borrows : MutBor (Augmented N M) → Marking N M F → Type 0
  Borrows summed t = (t.summed.ghost_name ≡ summed.ghost_name) × (t.summed.now ≡ summed.now)

  -- the edge: the place whose child was written, and whose summary was left as it was
  abbrev pub edge_in : Marking N M F → Option Place
  edge_in t = t.edge

module _ {N M F E S : Type 0} (KeepsLinks : N → N → Type 0) (n : E → Node) (table : N → Table E) (summaries : M → Summaries S) (Covers : M → Place → Type 0)
    (inside : Place → Bool) where
  -- the edit sets only children, parents and colors, and borrows the same links and summaries as before. It writes no summary, and keeps fresh summaries right,
  -- except maybe the one at the edge. If the parents that are stored inside the fence are inside it, the edit changes no summary outside the fence
  pub record MarksOnly (old new : Marking N M F) : Type 0 where
    pub name : new.summed.ghost_name ≡ old.summed.ghost_name
    pub keeps_links : KeepsLinks (links_in old) (links_in new)
    pub consistent : (s : List Place) → IsConsistentBut n (table (links_in old)) (summaries (summaries_in old)) s (edge_in old)
        → IsConsistentBut n (table (links_in new)) (summaries (summaries_in new)) s (edge_in new)
    pub marks : WritesNoSummary (summaries (summaries_in old)) (summaries (summaries_in new))
    pub beside : StaysInside (summaries (summaries_in old)) (summaries (summaries_in new)) (edge_in old) (edge_in new) inside
    pub covers : (q : Place) → Covers (summaries_in old) q → Covers (summaries_in new) q
    pub join : (summaries (summaries_in new)).join ≡ (summaries (summaries_in old)).join

module _ {N M E S : Type 0} (KeepsLinks : N → N → Type 0) (n : E → Node) (table : N → Table E) (summaries : M → Summaries S) (Covers : M → Place → Type 0)
    (fence : Place → Bool) where
  -- AN EDIT OF A TREE MARKS what it makes stale. It sets only children, parents and colors, and writes no summary. If each fresh summary was right, each
  -- is right afterwards, except maybe the one at the place `edge`. If the summaries inside the set `fence` were written within it, the edit changes nothing
  -- outside it
  pub record MarksBelow (old new : Augmented N M) (edge : Option Place) : Type 0 where
    pub linked : KeepsNodes n (table (links_of old)) (table (links_of new))
    pub keeps_links : KeepsLinks (links_of old) (links_of new)
    pub consistent : (s : List Place) → IsConsistent n (table (links_of old)) (summaries (summaries_of old)) s
        → IsConsistentBut n (table (links_of new)) (summaries (summaries_of new)) s edge
    pub marks : WritesNoSummary (summaries (summaries_of old)) (summaries (summaries_of new))
    pub inside : IsIn fence edge
    pub beside : IsWrittenIn (summaries (summaries_of old)) fence → IsSameBeside (summaries (summaries_of old)) (summaries (summaries_of new)) fence
    pub join : (summaries (summaries_of new)).join ≡ (summaries (summaries_of old)).join
    pub covers : (q : Place) → Covers (summaries_of old) q → Covers (summaries_of new) q
