use Rattle.std.proofs.Common.{◌≡◌, ◌+◌, All, vec_len}
use Rattle.std.specs.List.{AllZip}
use Rattle.std.specs.Vec.Iter.{into_iter_items, into_iter_len}
use Rattle.ic_workers.specs.SharedOut.{places_in}
use Rattle.ic_workers.specs.Parties.{HasGathered, HasTaken}
use Rattle.ic_workers.proofs.sharing.take_apart.Given as goal

abbrev pub invariant-loop-gathered : goal.invariant-loop-gathered
invariant-loop-gathered g l = record {
  taken : AllZip (HasTaken l.claims) l.holders.items (places_in l.lists.items);
  left : All (HasGathered l.claims) (into_iter_items l.gathered-iterator);
  count : vec_len l.lists + into_iter_len l.gathered-iterator ≡ vec_len l.fn.done;
}
