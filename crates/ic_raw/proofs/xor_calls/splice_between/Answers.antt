use Rattle.std.proofs.Common.{◌∙◌, rules}
use Rattle.ic_raw.proofs.xor_calls.splice_between.Goals as goal

pub returns : goal.returns
returns c = record {
  spliced = λ cut t after following shown given apart.
      (c.splice.ensures.spliced cut t (c.place_of.ensures ∙ after) (c.place_of-2.ensures ∙ following) shown given apart).1 shown given apart;
  emptied = search rules;
  stands_before = search rules;
  stands_after = search rules;
  links_back = search rules;
  ends = search rules;
  apart = search rules;
  touched = search rules;
  own = λ first is made. rw (c.place_of.ensures, c.place_of-2.ensures) at (c.splice.ensures.own first is c.if-not-splice.false);
  nothing = λ is made. c.splice.ensures.nothing is c.if-not-splice.false;
  words = search rules;
  refused = search rules;
  why = search rules;
  is_status = search rules;
}
