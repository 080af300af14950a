use Rattle.ic_any_collection.proofs.at_gap.insert_after.Goals as goal

pub insert_after_at-acquired-requires-clause-stands : goal.insert_after_at-acquired-requires-clause-stands
insert_after_at-acquired-requires-clause-stands g c = rw c.start-there.ensures.start c.requires.stands

pub returns : goal.returns
returns g c =
    let e = c.insert_after_at-acquired.ensures in record {
      start = c.start-there.result;
      there = c.insert_after_at-acquired.new.at;
      starts = c.start-there.ensures.member;
      made = rw (c.requires.after, c.settled.ensures.same) e.inserted;
      stands = e.kept.stands;
      goes = c.settled.ensures.goes;
      stays = c.settled.ensures.stays;
    }
