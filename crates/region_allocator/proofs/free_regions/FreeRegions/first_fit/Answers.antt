use Rattle.std.proofs.Common.{rules}
use Rattle.region_allocator.proofs.Keeping.{kept_fresh, rooms, members_consistent, first_found}
use Rattle.region_allocator.proofs.free_regions.FreeRegions.first_fit.Goals as goal

pub refresh-requires-clause-covered : goal.refresh-requires-clause-covered
refresh-requires-clause-covered g c = rooms c.requires.kept

pub first_greater-requires : goal.first_greater-requires
first_greater-requires g c =
    let k = c.requires.kept in
    (k.by_start.sorted.members, (c.refresh.ensures.summed k.by_start.sorted.members (members_consistent k)).shows)

pub returns-in-Some : goal.returns-in-Some
returns-in-Some g c =
    let e = c.refresh.ensures in
    let k = kept_fresh c.requires.kept c.refresh.new.summed.links e.links c.refresh.new.summed.summaries e.join e.consistent in
    let s = c.requires.kept.by_start.sorted.members in
    let summed = e.summed s (members_consistent c.requires.kept) in
    let first = first_found k c.args.length c.saturating_sub.result c.saturating_sub.ensures {s = s} summed.shows (c.in-Some.ensures s summed) in
    record { kept = k; same = search rules; first = rw (c.look_up.ensures, c.new.ensures) first }

pub returns-in-None : goal.returns-in-None
returns-in-None g c =
    let e = c.refresh.ensures in
    let k = kept_fresh c.requires.kept c.refresh.new.summed.links e.links c.refresh.new.summed.summaries e.join e.consistent in
    let s = c.requires.kept.by_start.sorted.members in
    let summed = e.summed s (members_consistent c.requires.kept) in
    record { kept = k; same = search rules; first = first_found k c.args.length c.saturating_sub.result c.saturating_sub.ensures {s = s} summed.shows (c.in-None.ensures s summed) }
