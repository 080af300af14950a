use Rattle.std.proofs.lemmas.Result.{on_ok_weaker}
use Rattle.region_allocator.proofs.Joining.{adds_frees, touches_none, front_fits, front_frees, back_fits, back_frees, both_fit, both_frees}
use Rattle.region_allocator.proofs.free_regions.FreeRegions.add.Goals as goal

pub resize-requires-clause-fits : goal.resize-requires-clause-fits
resize-requires-clause-fits g c out there = back_fits c.requires.kept c.requires.region (rw (c.in-None.is, c.in-Some-back.is) at c.in-Ok.ensures.touched) there

pub resize-requires-in-None-back-2-clause-fits : goal.resize-requires-in-None-back-2-clause-fits
resize-requires-in-None-back-2-clause-fits g c out there =
    front_fits c.requires.kept c.requires.region (rw (c.in-Some.is, c.in-None-back-2.is) at c.in-Ok.ensures.touched) there

pub resize-requires-in-Some-back-2-clause-fits : goal.resize-requires-in-Some-back-2-clause-fits
resize-requires-in-Some-back-2-clause-fits g c out there =
    let t = rw (c.in-Some.is, c.in-Some-back-2.is) at c.in-Ok.ensures.touched in
    both_fit c.requires.kept c.requires.region t c.take_out.new.self.pool.objects c.take_out.ensures.taken c.take_out.ensures.others there

pub returns-in-None-back-clause-freed : goal.returns-in-None-back-clause-freed
returns-in-None-back-clause-freed g c =
    let t = rw (c.in-None.is, c.in-None-back.is) at c.in-Ok.ensures.touched in
    on_ok_weaker c.put_in.result (adds_frees c.requires.kept c.requires.region t) c.put_in.ensures.put

pub returns-in-Some-back-clause-freed : goal.returns-in-Some-back-clause-freed
returns-in-Some-back-clause-freed g c =
    back_frees c.requires.kept c.requires.region (rw (c.in-None.is, c.in-Some-back.is) at c.in-Ok.ensures.touched) c.resize.ensures.resized

pub returns-in-None-back-2-clause-freed : goal.returns-in-None-back-2-clause-freed
returns-in-None-back-2-clause-freed g c =
    front_frees c.requires.kept c.requires.region (rw (c.in-Some.is, c.in-None-back-2.is) at c.in-Ok.ensures.touched) c.resize-in-None-back-2.ensures.resized

pub returns-in-Some-back-2-clause-freed : goal.returns-in-Some-back-2-clause-freed
returns-in-Some-back-2-clause-freed g c =
    let t = rw (c.in-Some.is, c.in-Some-back-2.is) at c.in-Ok.ensures.touched in
    both_frees c.requires.kept c.requires.region t c.take_out.new.self.pool.objects c.take_out.ensures.taken c.take_out.ensures.others c.resize-in-Some-back-2.ensures.resized

-- a new region touches no free region, so the cases in which it touches one cannot occur
pub returns-in-Some-back-clause-full : goal.returns-in-Some-back-clause-full
returns-in-Some-back-clause-full g c full new = let n = touches_none c.requires.kept c.requires.region c.in-Ok.ensures.touched new.1 in absurd (cc)

pub returns-in-None-back-2-clause-full : goal.returns-in-None-back-2-clause-full
returns-in-None-back-2-clause-full g c full new = let n = touches_none c.requires.kept c.requires.region c.in-Ok.ensures.touched new.1 in absurd (cc)

pub returns-in-Some-back-2-clause-full : goal.returns-in-Some-back-2-clause-full
returns-in-Some-back-2-clause-full g c full new = let n = touches_none c.requires.kept c.requires.region c.in-Ok.ensures.touched new.1 in absurd (cc)
