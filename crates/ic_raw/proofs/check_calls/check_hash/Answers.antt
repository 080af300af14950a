use Rattle.std.proofs.Common.{rules}
use Rattle.ic_raw.proofs.check_calls.check_hash.Goals as goal

pub returns-in_default : goal.returns-in_default
returns-in_default c = record {
  shown = search rules;
  not_represented = λ off enough any s held. (rw c.in_default.is at c.all_members.ensures) s (rw c.new-links.ensures.1 held);
  looked = search rules;
  refused = search rules;
  same = search rules;
  why = search rules;
  is_status = search rules;
}

pub returns : goal.returns
returns c = record {
  shown = λ accepted. let found = rw c.in-Some.is at c.all_members.ensures in (found.0, rw (← c.new-links.ensures.1) found.1, found.2);
  not_represented = search rules;
  looked = search rules;
  refused = search rules;
  same = search rules;
  why = search rules;
  is_status = search rules;
}
