use Rattle.std.proofs.Common.{IsSome, ◌++◌}
use Rattle.ic_unsafe_ref.specs.Objects.{object_at}
use Rattle.ic_link_ops.proofs.Each.{all_both}
use Rattle.ic_list_algorithms.proofs.SortedFronts.{permuted_all}
use Rattle.keyed_tests.proofs.tree_merges.merged.Goals as goal

pub returns : goal.returns
returns g c =
    let q = c.requires.two in
    let k = c.merge.ensures.merged q.first q.second q.shown q.other q.apart in
    record {
      shown = record {
        members = k.merged;
        shown = k.shown;
        placed = permuted_all (λ p. IsSome (object_at c.args.objects.now p)) (q.first ++ q.second) k.merged k.is.permutes
            (all_both (λ p. IsSome (object_at c.args.objects.now p)) q.first q.second q.placed q.other_placed);
      };
    }
