use Rattle.std.proofs.Common.{IsSome}
use Rattle.ic_unsafe_ref.specs.Objects.{object_at}
use Rattle.ic_tree_merges.proofs.MergedTrees.{all_parts}
use Rattle.keyed_tests.proofs.tree_merges.parted.Goals as goal

pub returns-in-Common : goal.returns-in-Common
returns-in-Common g c =
    let q = c.requires.two in
    let k = c.intersection.ensures.parted q.first q.second q.shown q.other q.apart in
    let placed = all_parts (λ p. IsSome (object_at c.args.objects.now p)) k.common k.rest q.first k.is.interleaved q.placed in
    record {
      kept = record { members = k.common; shown = k.common_represented; placed = placed.0 };
      rest = record { members = k.rest; shown = k.rest_represented; placed = placed.1 };
    }

pub returns-in-Rest : goal.returns-in-Rest
returns-in-Rest g c =
    let q = c.requires.two in
    let k = c.difference.ensures.parted q.first q.second q.shown q.other q.apart in
    let placed = all_parts (λ p. IsSome (object_at c.args.objects.now p)) k.common k.rest q.first k.is.interleaved q.placed in
    record {
      kept = record { members = k.rest; shown = k.rest_represented; placed = placed.1 };
      rest = record { members = k.common; shown = k.common_represented; placed = placed.0 };
    }
