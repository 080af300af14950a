use Rattle.ic_unsafe_ref.proofs.Placing.{others_left}
use Rattle.ic_augmented.proofs.StepLemmas.{removed_right}
use Rattle.region_allocator.proofs.Keeping.{region_there, start_member, take_out}
use Rattle.region_allocator.proofs.free_regions.FreeRegions.take_out.Goals as goal

pub remove-requires : goal.remove-requires
remove-requires g c = record { member = start_member c.requires.kept c.args.object (region_there _ c.requires.placed).1 }

pub returns : goal.returns
returns g c =
    let a = c.remove.ensures in
    let d = a.released in
    let after = c.remove.new.links in
    let freed = c.remove-2.ensures.freed in
    let t = take_out c.requires.kept c.args.object after.links c.remove.new.self.head after.summaries d.join (λ front back shown. (a.removed front back shown.0, removed_right front back d shown.1)) d.links freed in
    rw c.remove-2.ensures.links (record { kept = (t _ (region_there _ c.requires.placed).1).0; taken = λ out there. (t out there).1; others = others_left freed })
