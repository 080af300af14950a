use Rattle.std.proofs.Common.{ap, ◌∙◌}
use Rattle.ic_lock_free_stack.specs.Ends.{last}
use Rattle.ic_lock_free_stack.proofs.HolderLemmas.{one_sequence}
use Rattle.ic_lock_free_stack.proofs.PushLemmas.{chain_ready}
use Rattle.ic_lock_free_stack.proofs.stacks.Stacks.push_all.Goals as goal

pub push_linked-requires-clause-ready : goal.push_linked-requires-clause-ready
push_linked-requires-clause-ready g c =
    let shown = c.requires.shown in
    (shown.0, chain_ready c.args.self.now c.args.holder.now c.args.chain c.unwrap-first.result c.args.last shown.0 shown.1 c.unwrap-first.ensures shown.2)

pub returns-clause-step : goal.returns-clause-step
returns-clause-step g c s was =
    let shown = c.requires.shown in
    let ends = ap last (one_sequence c.args.self.now c.args.holder.now c.args.chain s shown.0 was shown.1) ∙ shown.2 in
    c.push_linked.ensures.step s (chain_ready c.args.self.now c.args.holder.now c.args.chain c.unwrap-first.result c.args.last s was c.unwrap-first.ensures ends)

pub returns-clause-pushed : goal.returns-clause-pushed
returns-clause-pushed g c s was =
    let shown = c.requires.shown in
    let ends = ap last (one_sequence c.args.self.now c.args.holder.now c.args.chain s shown.0 was shown.1) ∙ shown.2 in
    c.push_linked.ensures.pushed s (chain_ready c.args.self.now c.args.holder.now c.args.chain c.unwrap-first.result c.args.last s was c.unwrap-first.ensures ends)

pub returns-clause-chains : goal.returns-clause-chains
returns-clause-chains g c s was =
    let shown = c.requires.shown in
    let ends = ap last (one_sequence c.args.self.now c.args.holder.now c.args.chain s shown.0 was shown.1) ∙ shown.2 in
    c.push_linked.ensures.chains s (chain_ready c.args.self.now c.args.holder.now c.args.chain c.unwrap-first.result c.args.last s was c.unwrap-first.ensures ends)
