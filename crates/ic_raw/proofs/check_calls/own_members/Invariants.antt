use Rattle.std.proofs.Common.{◌-◌, false, List, Option}
use Rattle.ic_unsafe_ref.specs.declared.place.Place.{Place}
use Rattle.ic_raw.specs.CheckCalls.{BelongsIn}
use Rattle.ic_raw.specs.Hash.{bucket_at}
use Rattle.ic_raw.specs.Singly.{Represents, front_of, lent_table, list_of}
use Rattle.ic_raw.proofs.HashChecks.{WalksOwn}
use Rattle.ic_raw.proofs.HashWalks.{Comes}
use Rattle.ic_raw.proofs.check_calls.own_members.Given as goal

-- before each step, the places that the walk has passed are linked, and their hashes lead to this bucket. In each sequence that the words represent,
-- at most as many members remain as steps are left
abbrev pub invariant-loop-current : goal.invariant-loop-current
invariant-loop-current l = record {
  comes : (s : List Place) → Represents (lent_table l.fn.links) (list_of (bucket_at l.fn.buckets l.fn.at)) s
      → (before : Option Place) × Comes (λ p. false) (lent_table l.fn.links) s before l.current ((lent_table l.fn.links).extent.places - l.members);
  walks : WalksOwn (BelongsIn l.fn.hashes l.fn.buckets l.fn.at) (lent_table l.fn.links) (front_of (bucket_at l.fn.buckets l.fn.at)) l.current l.members;
}

abbrev pub decreases-loop-current : goal.decreases-loop-current
decreases-loop-current l = (lent_table l.fn.links).extent.places - l.members
