use Rattle.std.proofs.Common.{IsSome, ◌++◌}
use Rattle.ic_unsafe_ref.specs.Objects.{object_at}
use Rattle.ic_link_ops.proofs.Each.{all_both}
use Rattle.ic_list_algorithms.proofs.SortedFronts.{permuted_all}
use Rattle.ic_tree_merges.proofs.MergedTrees.{all_parts}
use Rattle.keyed_tests.proofs.tree_merges.united.Goals as goal

pub returns : goal.returns
returns g c =
    let q = c.requires.two in
    let k = c.union.ensures.united q.first q.second q.shown q.other q.apart in
    let placed = all_parts (λ p. IsSome (object_at c.args.objects.now p)) k.doubles k.added q.second k.parts.interleaved q.other_placed in
    record {
      united = record {
        members = k.united;
        shown = k.shown;
        placed = permuted_all (λ p. IsSome (object_at c.args.objects.now p)) (q.first ++ k.added) k.united k.is.permutes
            (all_both (λ p. IsSome (object_at c.args.objects.now p)) q.first k.added q.placed placed.1);
      };
      doubles = record { members = k.doubles; shown = k.doubles_represented; placed = placed.0 };
    }
