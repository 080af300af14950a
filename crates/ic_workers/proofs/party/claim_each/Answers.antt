use Rattle.std.proofs.Common.{◌++◌, [], List, ap, ◌∙◌, subst}
use Rattle.ic_atomic.specs.declared.step.Event.{Event}
use Rattle.ic_atomic.specs.Holders.{record_of, IsOf}
use Rattle.ic_atomic.specs.Gathering.{claims_of_each}
use Rattle.ic_workers.proofs.party.claim_each.Goals as goal

pub gather-requires-clause-covered : goal.gather-requires-clause-covered
gather-requires-clause-covered g c = rw c.new-links.ensures.links c.requires.covered

pub gather-requires-clause-shown : goal.gather-requires-clause-shown
gather-requires-clause-shown g c = ([], rw c.new-links.ensures.links c.requires.empty)

pub returns-clause-made : goal.returns-clause-made
returns-clause-made g c = subst (λ claims. IsOf claims c.into_parts.result.0) (c.gather.ensures.claims ∙ c.new-links.ensures.claims) c.into_parts.ensures.made

pub returns-clause-claimed : goal.returns-clause-claimed
returns-clause-claimed g c =
    let all = c.gather.ensures.gathered in
    let parts = c.into_parts.ensures in
    let fresh = ap record_of c.new-links.ensures.holder ∙ c.requires.fresh in (
      all.0,
      all.1,
      ap record_of parts.holder ∙ (all.2 ∙ ap (λ (es : List Event). es ++ claims_of_each c.args.offered.now all.0) fresh),
      rw parts.links (all.4 [] (rw c.new-links.ensures.links c.requires.empty)),
    )
