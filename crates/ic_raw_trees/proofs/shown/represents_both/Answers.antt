use Rattle.std.proofs.Common.{refl}
use Rattle.ic_raw.specs.Tree.{node}
use Rattle.ic_raw_trees.proofs.TwoTrees.{apart_distinct, distinct_apart}
use Rattle.ic_raw_trees.proofs.shown.represents_both.Goals as goal

pub returns-then-not-are_apart : goal.returns-then-not-are_apart
returns-then-not-are_apart c = (
  λ never. absurd (cc),
  λ both. c.if-not-are_apart.ensures.1 (rw (c.root.ensures, c.root-2.ensures) (apart_distinct node both.1.front both.1.back both.1.distinct)),
)

pub returns : goal.returns
returns c = (
  λ yes.
      let one = c.if-not-is_tree.ensures.0 refl in
      let other = c.is_tree-2.ensures.0 yes in
      let apart = rw (c.root.ensures, c.root-2.ensures) at (c.if-not-are_apart.ensures.0 refl) in (
        record { front = one.0; back = other.0 },
        record { front = one.1; back = other.1; distinct = distinct_apart node one.1 other.1 apart },
      ),
  λ both. c.is_tree-2.ensures.1 (both.0.back, both.1.back),
)
