use Rattle.std.proofs.Common.{◌∙◌, rules}
use Rattle.ic_raw.proofs.xor_calls.put_slow.Goals as goal

pub returns : goal.returns
returns c = record {
  inserted = λ cut p after following is shown free.
      (c.put.ensures.inserted cut p (c.place_in.ensures ∙ after) (c.place_in-2.ensures ∙ following) (c.place_of.ensures ∙ is) shown free).1 shown free;
  free = search rules;
  no_place = search rules;
  links_back = search rules;
  touched = search rules;
  own = search rules;
  words = search rules;
  refused = search rules;
  why = search rules;
  is_status = search rules;
}
