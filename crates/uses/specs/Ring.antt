-- Definitions for the contracts of a ring of nodes.
use Rattle.std.specs.Prelude.{ℕ, Bool, Option, List, filter}
use Rattle.std.specs.Ordering.{nat_cmp, is_eq, is_le, is_gt}
use Rattle.ic_link_ops.specs.Prelude.{Place, Objects, first, first_or, last, last_or}
use Rattle.ic_rbtree.specs.Comparing.{compared, order_of}
use Rattle.uses.specs.declared.ring.Node.{Node}

-- the point of a node on the ring
abbrev pub point : Node → ℕ
point node = node.point

-- The three tests compare the point of the node at the place `p` with the point `at`. `is_from`: the node's point is at least `at`. `is_at`: it is
-- equal to `at`. `is_below`: it is less than `at`
abbrev pub is_from : Objects Node → ℕ → Place → Bool
is_from objects at p = is_le (compared (order_of nat_cmp point at) objects p)

abbrev pub is_at : Objects Node → ℕ → Place → Bool
is_at objects at p = is_eq (compared (order_of nat_cmp point at) objects p)

abbrev pub is_below : Objects Node → ℕ → Place → Bool
is_below objects at p = is_gt (compared (order_of nat_cmp point at) objects p)

-- the first place of `s` that passes the test, or the first place of `s` if none passes, because on a ring the first place follows the last
abbrev pub first_round : (Place → Bool) → List Place → Option Place
first_round test s = first_or (filter test s) (first s)

-- the last place of `s` that passes the test, or the last place of `s` if none passes
abbrev pub last_round : (Place → Bool) → List Place → Option Place
last_round test s = last_or (last s) (filter test s)
