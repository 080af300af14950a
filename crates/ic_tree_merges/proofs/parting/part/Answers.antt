use Rattle.std.proofs.Common.{rules}
use Rattle.ic_link_ops.proofs.SequenceLemmas.{disjoint_sym}
use Rattle.ic_tree_merges.proofs.MergedTrees.{placed_first, other_still, vine_run, rest_still, lowest_still, parted_tree}
use Rattle.ic_tree_merges.proofs.parting.part.Goals as goal

pub into_builder-run-requires : goal.into_builder-run-requires
into_builder-run-requires g c = let two = c.requires.two in record { shown = (two.first, two.shown) }

pub part_run-requires : goal.part_run-requires
part_run-requires g c =
    let two = c.requires.two in
    let one = c.into_builder-run.ensures.taken_apart two.first two.shown in
    record {
      run = (two.first, two.second, vine_run one c.first-front.ensures two.placed, two.shown.held.distinct, other_still one two.apart two.other, two.other_placed, disjoint_sym two.first two.second two.apart);
    }

pub build-common-requires : goal.build-common-requires
build-common-requires g c =
    let two = c.requires.two in
    let one = c.into_builder-run.ensures.taken_apart two.first two.shown in
    let m = c.part_run.ensures.parted two.first two.second (vine_run one c.first-front.ensures two.placed) two.shown.held.distinct (other_still one two.apart two.other) (disjoint_sym two.first two.second two.apart) in
    record { shown = (m.0.common, rw c.from_ends-common_builder.ensures.ends m.0.common_represented) }

pub build-rest-requires : goal.build-rest-requires
build-rest-requires g c =
    let two = c.requires.two in
    let one = c.into_builder-run.ensures.taken_apart two.first two.shown in
    let m = c.part_run.ensures.parted two.first two.second (vine_run one c.first-front.ensures two.placed) two.shown.held.distinct (other_still one two.apart two.other) (disjoint_sym two.first two.second two.apart) in
    let built = c.build-common.ensures.built m.0.common (rw c.from_ends-common_builder.ensures.ends m.0.common_represented) in
    record { shown = (m.0.rest, rw c.from_ends-rest_builder.ensures.ends (rest_still m built)) }

pub returns : goal.returns
returns g c = record {
  parted = λ s u shown other apart.
      let two = c.requires.two in
      let one = c.into_builder-run.ensures.taken_apart s shown in
      let m = c.part_run.ensures.parted s u (vine_run one c.first-front.ensures (placed_first two shown)) shown.held.distinct (other_still one apart other) (disjoint_sym s u apart) in
      let built = c.build-common.ensures.built m.0.common (rw c.from_ends-common_builder.ensures.ends m.0.common_represented) in
      parted_tree one m built (c.build-rest.ensures.built m.0.rest (rw c.from_ends-rest_builder.ensures.ends (rest_still m built)));
  lowest =
      let two = c.requires.two in
      let one = c.into_builder-run.ensures.taken_apart two.first two.shown in
      let m = c.part_run.ensures.parted two.first two.second (vine_run one c.first-front.ensures two.placed) two.shown.held.distinct (other_still one two.apart two.other) (disjoint_sym two.first two.second two.apart) in
      let built = c.build-common.ensures.built m.0.common (rw c.from_ends-common_builder.ensures.ends m.0.common_represented) in
      let last = c.build-rest.ensures.built m.0.rest (rw c.from_ends-rest_builder.ensures.ends (rest_still m built)) in
      (lowest_still built.shows m.0.apart last.frame c.build-common.ensures.lowest, c.build-rest.ensures.lowest);
  few = λ s u shown other apart.
      let one = c.into_builder-run.ensures.taken_apart s shown in
      c.part_run.ensures.few s u (vine_run one c.first-front.ensures (placed_first c.requires.two shown)) shown.held.distinct (other_still one apart other) (disjoint_sym s u apart);
  same = search rules;
  keeps_links =
      let on = g.met.N.NodeStore.keeps_links_on in
      on _ _ _ (on _ _ _ (on _ _ _ c.into_builder-run.ensures.keeps_links c.part_run.ensures.keeps_links) c.build-common.ensures.keeps_links) c.build-rest.ensures.keeps_links;
  adapter = search rules;
  rest_adapter = search rules;
}
