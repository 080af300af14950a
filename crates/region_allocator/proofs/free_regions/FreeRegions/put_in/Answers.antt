use Rattle.std.proofs.Common.{rules, ◌^◌, leb, List, sym, ap, ◌∙◌, is_some, leb-true}
use Rattle.ic_unsafe_ref.proofs.Placing.{placed_there}
use Rattle.ic_link_ops.proofs.Calling.{accepted}
use Rattle.ic_pool.proofs.Pooling.{lacks_exactly}
use Rattle.ic_augmented.proofs.StepLemmas.{inserted_right, links_refused}
use Rattle.region_allocator.specs.declared.region.Region.{Region}
use Rattle.region_allocator.specs.Regions.{space_of}
use Rattle.region_allocator.proofs.Keeping.{kept_grown, kept_set, same_regions, same_entries, put_in}
use Rattle.ic_rbtree.proofs.EachObject.{vacant_free, each_ready}
use Rattle.region_allocator.proofs.free_regions.FreeRegions.put_in.Goals as goal

pub returns-in-Err-NoPlaceLeft : goal.returns-in-Err-NoPlaceLeft
returns-in-Err-NoPlaceLeft g c =
    let places = c.place.new.self.links in
    let keeps = c.place.ensures.keeps in
    let back = rw c.in-Err-NoPlaceLeft.field-0-is at c.in-Err-NoPlaceLeft.ensures.refused in
    let full = rw c.in-Err-NoPlaceLeft.field-0-is at c.in-Err-NoPlaceLeft.ensures.full in
    let same = ap (λ (l : List Region). space_of l (leb (2 ^ 32) c.args.self.now.pool.objects.next)) (same_regions c.requires.kept places.links keeps.links.entries) in
    let kept = kept_grown c.requires.kept places.links places.summaries keeps in
    let lacks = sym (lacks_exactly _ _ full back.0) in
    rw back.1 (record { kept = kept; put = tt; full = search rules; refused = (same, ((c.requires.region, c.requires.apart), lacks)) })

pub returns-in-Err-OutOfMemory : goal.returns-in-Err-OutOfMemory
returns-in-Err-OutOfMemory g c =
    let places = c.place.new.self.links in
    let keeps = c.place.ensures.keeps in
    let back = rw c.in-Err-OutOfMemory.field-0-is at c.in-Err-OutOfMemory.ensures.refused in
    let full = rw c.in-Err-OutOfMemory.field-0-is at c.in-Err-OutOfMemory.ensures.full in
    let same = ap (λ (l : List Region). space_of l (leb (2 ^ 32) c.args.self.now.pool.objects.next)) (same_regions c.requires.kept places.links keeps.links.entries) in
    let kept = kept_grown c.requires.kept places.links places.summaries keeps in
    let lacks = sym (lacks_exactly _ _ full back.0) in
    rw back.1 (record { kept = kept; put = tt; full = search rules; refused = (same, ((c.requires.region, c.requires.apart), lacks)) })

pub insert-requires-clause-placed : goal.insert-requires-clause-placed
insert-requires-clause-placed g c =
    rw c.set_value.ensures.links (each_ready (kept_grown c.requires.kept c.place.new.self.links.links c.place.new.self.links.summaries c.place.ensures.keeps).by_start c.in-Ok.ensures.placed)

pub insert-requires-clause-object : goal.insert-requires-clause-object
insert-requires-clause-object g c = ap is_some (placed_there c.in-Ok.ensures.placed)

pub returns : goal.returns
returns g c =
    let place = c.place.new.self.links in
    let keeps = c.place.ensures.keeps in
    let grown = kept_grown c.requires.kept place.links place.summaries keeps in
    let e = c.set_value.ensures in
    let set = c.set_value.new.summed in
    let places = c.in-Ok.ensures.placed in
    let k = kept_set grown set.links e.links set.summaries c.in-Ok.object places.vacant (rw c.place-2.ensures at e.values) e.consistent in
    let free = vacant_free k.by_start c.in-Ok.object places.vacant in
    let same = same_regions c.requires.kept set.links (λ q. same_entries grown set.links e.links q ∙ keeps.links.entries q) in
    let i = c.insert.ensures in
    let after = c.insert.new.links in
    let refused = links_refused _ _ c.insert.result i.refused in
    let d = accepted _ c.insert.result free refused i.acquired in
    let put = put_in k after.links c.insert.new.self.head after.summaries places (rw c.place-2.ensures at e.set) d.join
    (λ s shown. inserted_right d shown.1 (accepted _ c.insert.result free refused (i.inserted s shown.0))) d.links
    c.requires.region same c.requires.apart in
    record { kept = put.0; put = put.1; full = λ full. let never = c.in-Ok.ensures.full.1 (leb-true (2 ^ 32) _ full) in absurd (cc (never)); refused = tt }
