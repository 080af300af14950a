-- A contract sees all timers of the tree as waiting timers, in the order of the tree.
use Rattle.std.specs.Prelude.{ℕ, ◌^◌, leb, Option, Some, None, List}
use Rattle.std.specs.List.{filter_map}
use Rattle.ic_link_ops.specs.Prelude.{Place, Objects, object_at}
use Rattle.ic_rbtree.specs.PlainTrees.{TreeLinkOps, members_of}
use Rattle.pool_uses.specs.declared.timers.Timer.{Timer}
use Rattle.pool_uses.specs.Timers.{Waiting, Timetable, timer_of}

module _ {V : Type 0} where
  -- the deadline of a stored timer
  abbrev pub deadline_of : Timer V → ℕ
  deadline_of timer = timer.deadline

  -- `waiting_of` is the timer at the place `p`, with `p` as its reference. `waiting_at` lists the timers at the places of the sequence `s`
  abbrev pub waiting_of : Place → Option (Timer V) → Option (Waiting V)
  waiting_of p None = None
  waiting_of p (Some timer) = Some (timer_of p timer.deadline timer.value)

  abbrev pub waiting_at : Objects (Timer V) → List Place → List (Waiting V)
  waiting_at objects s = filter_map (λ p. waiting_of p (object_at objects p)) s

module _ {V A : Type 0} (objects : Objects (Timer V)) (links : TreeLinkOps A) (root : Option Place) where
  -- the waiting timers: those at the members of the tree, in the order of the tree
  abbrev pub waiting_in : List (Waiting V)
  waiting_in = waiting_at objects (members_of links root)

  -- what a contract sees of the timers: the waiting timers in order, and whether all places are in use
  abbrev pub timetable_of : Timetable V
  timetable_of = record { waiting = waiting_in; is_full = leb (2 ^ 32) objects.next }
