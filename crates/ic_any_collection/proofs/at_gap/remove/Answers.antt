use Rattle.ic_any_collection.proofs.Common.{join, removes_there, stands_at_null, pops_front, pops_back}
use Rattle.ic_any_collection.proofs.at_gap.remove.Goals as goal

pub returns-in-Front : goal.returns-in-Front
returns-in-Front g c =
    let e = c.pop_front-out.ensures in let s = join c.requires.stands.gap in
    rw (c.in-Front.is, c.place_of.ensures)
    (pops_front c.pop_front-out.result e.released e.empty e.frame c.null.ensures.on (stands_at_null _ (e.removed s c.requires.stands.shown) c.null.ensures.on) e.answer e.removed)

pub returns-in-Back : goal.returns-in-Back
returns-in-Back g c =
    let e = c.pop_back-out.ensures in let s = join c.requires.stands.gap in
    rw (c.in-Back.is, c.place_of-in-Back.ensures)
    (pops_back c.pop_back-out.result e.released e.empty e.frame c.null-in-Back.ensures.on (stands_at_null _ (e.removed s c.requires.stands.shown) c.null-in-Back.ensures.on) e.answer e.removed)

pub returns-in-Before : goal.returns-in-Before
returns-in-Before g c = let e = c.remove_at.ensures in removes_there c.in-Before.is e.removed e.kept.stands
