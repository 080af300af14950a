use Rattle.std.proofs.Common.{sym, ◌∙◌}
use Rattle.ic_any_collection.proofs.at_gap.insert.Goals as goal

pub insert_before_at-acquired-requires-clause-stands : goal.insert_before_at-acquired-requires-clause-stands
insert_before_at-acquired-requires-clause-stands g c = rw c.start-there.ensures.start c.requires.stands

pub returns : goal.returns
returns g c =
    let e = c.insert_before_at-acquired.ensures in record {
      start = c.start-there.result;
      there = c.insert_before_at-acquired.new.at;
      starts = c.start-there.ensures.member;
      made = rw (sym c.is_after.ensures ∙ c.if-is_after.false, c.settled.ensures.same) e.inserted;
      stands = e.kept.stands;
      goes = c.settled.ensures.goes;
      stays = c.settled.ensures.stays;
    }
