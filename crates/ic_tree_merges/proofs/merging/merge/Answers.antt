use Rattle.ic_tree_merges.proofs.MergedTrees.{placed_first, placed_second, both_distinct, other_still, vine_run, run_beside, merged_trees}
use Rattle.ic_tree_merges.proofs.merging.merge.Goals as goal

pub into_builder-left-requires : goal.into_builder-left-requires
into_builder-left-requires g c = let two = c.requires.two in record { shown = (two.first, rw c.take.ensures.whole two.shown) }

pub into_builder-right-requires : goal.into_builder-right-requires
into_builder-right-requires g c =
    let two = c.requires.two in
    let one = c.into_builder-left.ensures.taken_apart two.first (rw c.take.ensures.whole two.shown) in
    record { shown = (two.second, other_still one two.apart two.other) }

pub merge_runs-merged-requires : goal.merge_runs-merged-requires
merge_runs-merged-requires g c =
    let two = c.requires.two in
    let one = c.into_builder-left.ensures.taken_apart two.first (rw c.take.ensures.whole two.shown) in
    let next = c.into_builder-right.ensures.taken_apart two.second (other_still one two.apart two.other) in
    record {
      runs = (two.first, two.second, run_beside (vine_run one c.first-front.ensures two.placed) two.apart next.frame, vine_run next c.first-other_front.ensures two.other_placed, both_distinct two.shown two.other two.apart);
    }

pub build-requires : goal.build-requires
build-requires g c =
    let two = c.requires.two in
    let one = c.into_builder-left.ensures.taken_apart two.first (rw c.take.ensures.whole two.shown) in
    let next = c.into_builder-right.ensures.taken_apart two.second (other_still one two.apart two.other) in
    let m = c.merge_runs-merged.ensures.merged two.first two.second (run_beside (vine_run one c.first-front.ensures two.placed) two.apart next.frame)
    (vine_run next c.first-other_front.ensures two.other_placed) (both_distinct two.shown two.other two.apart) in
    record { shown = (m.0.merged, rw c.from_ends-builder.ensures.ends m.0.shown) }

pub returns-clause-merged : goal.returns-clause-merged
returns-clause-merged g c s u shown other apart =
    let two = c.requires.two in
    let one = c.into_builder-left.ensures.taken_apart s (rw c.take.ensures.whole shown) in
    let next = c.into_builder-right.ensures.taken_apart u (other_still one apart other) in
    let m = c.merge_runs-merged.ensures.merged s u (run_beside (vine_run one c.first-front.ensures (placed_first two shown)) apart next.frame)
    (vine_run next c.first-other_front.ensures (placed_second two other)) (both_distinct shown other apart) in
    merged_trees one next m (c.build.ensures.built m.0.merged (rw c.from_ends-builder.ensures.ends m.0.shown))

pub returns-clause-few : goal.returns-clause-few
returns-clause-few g c s u shown other apart =
    let two = c.requires.two in
    let one = c.into_builder-left.ensures.taken_apart s (rw c.take.ensures.whole shown) in
    let next = c.into_builder-right.ensures.taken_apart u (other_still one apart other) in
    c.merge_runs-merged.ensures.few s u (run_beside (vine_run one c.first-front.ensures (placed_first two shown)) apart next.frame)
    (vine_run next c.first-other_front.ensures (placed_second two other)) (both_distinct shown other apart)

pub returns-clause-keeps_links : goal.returns-clause-keeps_links
returns-clause-keeps_links g c =
    let on = g.met.N.NodeStore.keeps_links_on in
    on _ _ _ (on _ _ _ (on _ _ _ c.into_builder-left.ensures.keeps_links c.into_builder-right.ensures.keeps_links) c.merge_runs-merged.ensures.keeps_links) c.build.ensures.keeps_links
