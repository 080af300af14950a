use Rattle.std.proofs.Common.{refl, sym, ◌∙◌}
use Rattle.ic_link_ops.proofs.Prelude.{stretch_first, stretch_through, releases_fewer}
use Rattle.ic_chain.proofs.Walking.{rest_goes_on, rest_ends}
use Rattle.ic_chain.proofs.neighbors.last_from.Goals as goal

pub loop-next-init : goal.loop-next-init
loop-next-init g c = record { rest = λ s part. (s, part, refl) }

pub next-requires : goal.next-requires
next-requires g c =
    let rest = c.loop-next.invariant.rest c.requires.rest.0 c.requires.rest.1 in record { linked = g.met.K.ForwardLinks.between_linked _ _ _ (stretch_first rest.1) }

pub loop-next-smaller : goal.loop-next-smaller
loop-next-smaller g c =
    let leads = g.met.K.ForwardLinks.leads in
    let table = g.L.LinkOps.table c.args.links.now in
    let rest = c.loop-next.invariant.rest c.requires.rest.0 c.requires.rest.1 in
    let more = rest_goes_on leads rest.1 (sym c.next.ensures ∙ c.in-Some.is) in
    releases_fewer (stretch_through g.K.ForwardLinks.step leads table (λ q b a h. g.met.L.LinkOps.linked_is_covered _ q (g.met.K.ForwardLinks.between_linked _ b a h)) rest.1) (stretch_through g.K.ForwardLinks.step leads table (λ q b a h. g.met.L.LinkOps.linked_is_covered _ q (g.met.K.ForwardLinks.between_linked _ b a h)) more.2) more.1

pub loop-next-preserved : goal.loop-next-preserved
loop-next-preserved g c = record {
  rest = λ s part.
      let rest = c.loop-next.invariant.rest s part in
      let more = rest_goes_on g.met.K.ForwardLinks.leads rest.1 (sym c.next.ensures ∙ c.in-Some.is) in
      (more.0, more.2, rest.2 ∙ more.3);
}

pub returns : goal.returns
returns g c s part =
    let rest = c.loop-next.invariant.rest s part in rest_ends g.met.K.ForwardLinks.leads rest.1 (sym c.next.ensures ∙ c.in_default.is) ∙ sym rest.2
