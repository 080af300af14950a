use Rattle.std.proofs.Common.{rules}
use Rattle.ic_raw.specs.Prelude.{root_in, place_of}
use Rattle.ic_raw.proofs.TreeSteps.{end_back, step_back}
use Rattle.ic_raw.proofs.tree_calls.step_at.Goals as goal

pub returns : goal.returns
returns c = record {
  found = search rules;
  stepped = λ ok. step_back c.new-links.result (root_in c.args.tree.now) (place_of c.args.at) c.args.side _ c.new-links.ensures.1 (rw c.tree_of.ensures at (c.step.ensures.stepped ok));
  ended = λ null. end_back c.new-links.result (root_in c.args.tree.now) (place_of c.args.at) c.args.side c.new-links.ensures.1 (rw c.tree_of.ensures at (c.step.ensures.ended null));
  refused = search rules;
  same = search rules;
  looked = search rules;
  stands = search rules;
  why = search rules;
  is_status = search rules;
}
