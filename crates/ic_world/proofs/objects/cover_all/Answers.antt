use Rattle.std.proofs.Common.{◌∙◌, get_or, arith}
use Rattle.std.proofs.lemmas.List.{length-map, set-get_or}
use Rattle.ic_world.proofs.Growth.{covered_more, covered_next, grows_some, grows_all}
use Rattle.ic_world.proofs.Readings.{left_back}
use Rattle.ic_world.proofs.objects.cover_all.Goals as goal

pub loop-f-preserved : goal.loop-f-preserved
loop-f-preserved g c = record { to = covered_next _ c.loop-f.tables c.loop-f.f c.args.count (omega (arith, c.loop-f-test.true, c.loop-f.auto.tables)) c.index-tables-f.result c.cover.new.self _ c.cover.ensures c.if-is_err.ensures.negation c.loop-f.invariant.to; left = left_back c.loop-f.tables c.loop-f.f (get_or c.loop-f.tables c.loop-f.f c.index-tables-f.result) c.cover.new.self (set-get_or c.loop-f.tables c.loop-f.f c.index-tables-f.result) ∙ c.loop-f.invariant.left }

pub returns-then-is_err-clause-left : goal.returns-then-is_err-clause-left
returns-then-is_err-clause-left g c = left_back c.loop-f.tables c.loop-f.f (get_or c.loop-f.tables c.loop-f.f c.index-tables-f.result) c.cover.new.self (set-get_or c.loop-f.tables c.loop-f.f c.index-tables-f.result) ∙ c.loop-f.invariant.left

pub returns-then-is_err-clause-grows : goal.returns-then-is_err-clause-grows
returns-then-is_err-clause-grows g c = grows_some _ _ _ (covered_more _ c.loop-f.tables c.loop-f.f c.args.count (omega (arith, c.loop-f-test.true, c.loop-f.auto.tables)) c.index-tables-f.result c.cover.new.self _ c.cover.ensures c.loop-f.invariant.to.grown)

pub returns-clause-grows : goal.returns-clause-grows
returns-clause-grows g c = grows_all _ _ _ _ _ _ c.loop-f.invariant.to (rw length-map (omega (arith, c.loop-f-test.false, c.loop-f.auto.tables))) c.max.ensures
