use Rattle.std.proofs.Common.{[]}
use Rattle.ic_hash_table.proofs.Chains.{chain_of_list}
use Rattle.ic_hash_table.proofs.chain_edits.join_chains.Goals as goal

pub splice_after_at-requires-clause-stands : goal.splice_after_at-requires-clause-stands
splice_after_at-requires-clause-stands g c =
    let r = c.requires.rest in
    record { gap = record { front = []; back = r.0 }; shown = rw c.from_front-chain.ensures r.1; after = c.null_position-at.ensures.null; caches = λ q e. tt }

pub returns-clause-joined : goal.returns-clause-joined
returns-clause-joined g c s t shown rest apart =
    let e = c.splice_after_at.ensures.spliced.spliced (record { front = []; back = t }) s (rw c.from_front-chain.ensures rest) c.null_position-at.ensures.null (rw c.from_front.ensures shown) apart in
    rw c.first.ensures (chain_of_list e.shows)

pub returns-clause-frame : goal.returns-clause-frame
returns-clause-frame g c s t shown rest apart =
    (c.splice_after_at.ensures.spliced.spliced (record { front = []; back = t }) s (rw c.from_front-chain.ensures rest) c.null_position-at.ensures.null (rw c.from_front.ensures shown) apart).frame
