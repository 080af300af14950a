use Rattle.region_allocator.proofs.Joining.{cut_whole, cut_part, cut_fits}
use Rattle.region_allocator.proofs.free_regions.FreeRegions.cut.Goals as goal

pub resize-requires-clause-fits : goal.resize-requires-clause-fits
resize-requires-clause-fits g c out there = cut_fits c.requires.kept c.requires.found c.args.length c.requires.enough c.if-rest-eq0.false there

pub returns-then-rest-eq0-clause-cut : goal.returns-then-rest-eq0-clause-cut
returns-then-rest-eq0-clause-cut g c = cut_whole c.requires.kept c.requires.found c.args.length c.requires.enough c.if-rest-eq0.true c.take_out.ensures.taken

pub returns-clause-cut : goal.returns-clause-cut
returns-clause-cut g c = cut_part c.requires.kept c.requires.found c.args.length c.requires.enough c.resize.ensures.resized
