use Rattle.std.proofs.Common.{◌≡◌, ◌<◌, ◌∙◌, true, [], length, sym, subst, arith, rules}
use Rattle.ic_link_ops.specs.Prelude.{index_of, node_of}
use Rattle.ic_augmented.specs.AugmentedTables.{joined}
use Rattle.ic_rbtree.specs.KeyedTrees.{keyed_table}
use Rattle.keyed_tests.proofs.Ready.{nothing_summed, nothing_consistent, on_ok}
use Rattle.keyed_tests.proofs.augmented.empty_tree.Goals as goal

pub returns-clause-ready : goal.returns-clause-ready
returns-clause-ready g c =
    let z = joined g.V.Summarize.join g.V.Summarize.initial c.cover-covered.new.self in
    record {
      members = [];
      shown = nothing_summed {n = node_of} z (keyed_table c.keyed_links-links.result) c.new.ensures.empty;
      consistent = nothing_consistent {n = node_of} z (keyed_table c.keyed_links-links.result) c.new.ensures.empty;
      room = λ q covered.
          let is : c.is_ok.result ≡ true = search rules in
          let room = on_ok c.cover-covered.result (sym c.is_ok.ensures.value ∙ is) c.cover-covered.ensures.covers in
          let below : index_of q < length c.args.keys.now = subst (λ k. index_of q < k) c.keyed_links-links.ensures.covers covered in
          omega (arith, room, below);
    }
