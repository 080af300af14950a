use Rattle.std.proofs.Common.{◌≡◌, ◌+◌, ◌≤◌, vec_len, vec_capacity}
use Rattle.uses.specs.Hands.{HasDealt}
use Rattle.uses.proofs.deal.in_turns.Given as goal

abbrev pub invariant-loop-first : goal.invariant-loop-first
invariant-loop-first g l =
    let i = goal.iterator-loop-first g in
    i.can_next l.walk × i.is_finite l.walk
    × HasDealt g.I.Iterator.next_gives g.I.DoubleEndedIterator.next_back_gives l.initial.walk l.walk l.initial.fronts.items l.fronts.items l.initial.backs.items l.backs.items
    × (vec_capacity l.initial.fronts ≤ vec_capacity l.fronts)
    × (vec_capacity l.initial.backs ≤ vec_capacity l.backs)
    × (vec_len l.fronts + vec_len l.initial.backs ≡ vec_len l.backs + vec_len l.initial.fronts)
