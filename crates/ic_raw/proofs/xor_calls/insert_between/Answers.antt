use Rattle.std.proofs.Common.{◌∙◌, rules}
use Rattle.ic_raw.proofs.xor_calls.insert_between.Goals as goal

pub returns : goal.returns
returns c = record {
  inserted = λ cut p after following is shown free.
      (c.put.ensures.inserted cut p (c.place_of-front.ensures ∙ after) (c.place_of-back.ensures ∙ following) (c.place_of-new.ensures ∙ is) shown free).1 shown free;
  free = search rules;
  no_place = search rules;
  stands_before = search rules;
  stands_after = search rules;
  links_back = search rules;
  touched = search rules;
  own = search rules;
  words = search rules;
  refused = search rules;
  why = search rules;
  is_status = search rules;
}
