use Rattle.std.proofs.Common.{◌≡◌, ◌+◌, ◌≤◌, ◌++◌, List, length, take, map as map_list}
use Rattle.std.specs.Vec.{vec_len, vec_capacity}
use Rattle.ic_world.specs.declared.call.Answer.{Answer}
use Rattle.ic_world.specs.Prelude.{reply_in, Runs}
use Rattle.ic_world.proofs.world.World.run.Given as goal

abbrev pub invariant-loop-command : goal.invariant-loop-command
invariant-loop-command g l =
    (given : List (Answer g.row.M.Denot)) × (l.answers.items ≡ l.fn.answers.items ++ given)
    × Runs g.A.Key.Ord.cmp g.A.KeyAdapter.key_of l.fn.self (take l.command-index l.commands) (map_list reply_in given) l.self
    × (vec_len l.answers + length l.commands ≤ vec_capacity l.answers + l.command-index)
