use Rattle.std.proofs.Common.{subst, sym, ap, ◌∙◌, rules}
use Rattle.ic_raw.specs.Singly.{RepresentsList, front_of}
use Rattle.ic_raw.specs.Words.{no_word}
use Rattle.ic_raw.proofs.HashTables.{chain_read}
use Rattle.ic_raw.proofs.HashWalks.{names_back}
use Rattle.ic_raw.proofs.Lists.{kept}
use Rattle.ic_raw.proofs.Views.{represented_back}
use Rattle.ic_raw.proofs.hash_calls.find.Goals as goal

pub returns : goal.returns
returns c = record {
  found = search rules;
  linked = λ made.
      let slot = c.slot.ensures.slot c.in-Some.at c.in-Some.is in
      let read = chain_read c.args.buckets.now c.args.hash c.in-Some.at slot.0 _ slot.1 in
      names_back c.new-links.result _ _ _ c.new-links.ensures.1 (c.place_in.ensures ∙ ap front_of (sym read)) (c.find_from.ensures.linked made);
  ended = λ null.
      let chain = c.find_from.ensures.ended null in
      let slot = c.slot.ensures.slot c.in-Some.at c.in-Some.is in
      let read = chain_read c.args.buckets.now c.args.hash c.in-Some.at slot.0 _ slot.1 in
      (chain.0, subst (λ w. RepresentsList c.args.table.now w chain.0) (sym read) (represented_back no_word kept c.new-links.result c.new-links.ensures.1 (rw c.place_in.ensures at chain.1)));
  refused = search rules;
  same = search rules;
  looked = search rules;
  why = search rules;
  is_status = search rules;
}
