use Rattle.std.proofs.Common.{refl, sym, ap, ◌∙◌}
use Rattle.ic_link_ops.specs.Sequences.{last}
use Rattle.ic_link_ops.proofs.Clearing.{releases_none, releases_fewer, next_between}
use Rattle.ic_link_ops.proofs.Membership.{seeks_none, seeks_more, kept_next, kept_left, found, nowhere}
use Rattle.ic_link_ops.proofs.SequenceLemmas.{last_of_push}
use Rattle.ic_chain.proofs.list.LinkList.contains.Goals as goal

pub loop-current-init : goal.loop-current-init
unfolding seeks_none releases_none
loop-current-init g c = record { sought = λ s shown. (seeks_none shown.chain (c.first-current.ensures ∙ shown.head), refl) }

pub next-current-requires : goal.next-current-requires
next-current-requires g c =
    let was = rw c.in-Some.is at (c.loop-current.invariant.sought c.requires.shown.0 c.requires.shown.1) in
    record { linked = g.met.K.ForwardLinks.between_linked _ _ _ (next_between was.0.walk) }

pub loop-current-smaller : goal.loop-current-smaller
loop-current-smaller g c =
    let step = g.met.K.ForwardLinks.leads in
    let covered = g.met.L.LinkOps.linked_is_covered c.args.links.now in
    let law = g.met.K.ForwardLinks.between_linked in
    let shown = c.requires.shown.1 in
    let was = rw c.in-Some.is at (c.loop-current.invariant.sought c.requires.shown.0 shown) in
    let more = seeks_more shown.distinct was.0 (sym c.if-eq.ensures) (kept_next _ step was.0 was.1 c.next-current.ensures) in
    rw c.in-Some.is
    (releases_fewer (kept_left _ step (λ q b a h. covered q (law _ b a h)) shown.distinct was.0 was.1)
    (kept_left _ step (λ q b a h. covered q (law _ b a h)) shown.distinct more.0 (sym (ap last more.2 ∙ last_of_push was.0.walk.done c.in-Some.member))) more.1)

pub loop-current-preserved : goal.loop-current-preserved
loop-current-preserved g c = record {
  sought = λ s shown.
      let was = rw c.in-Some.is at (c.loop-current.invariant.sought s shown) in
      let more = seeks_more shown.distinct was.0 (sym c.if-eq.ensures) (kept_next _ g.met.K.ForwardLinks.leads was.0 was.1 c.next-current.ensures) in
      (more.0, sym (ap last more.2 ∙ last_of_push was.0.walk.done c.in-Some.member));
}

pub returns-then-eq : goal.returns-then-eq
returns-then-eq g c s shown = found (rw c.in-Some.is at (c.loop-current.invariant.sought s shown)).0 (sym c.if-eq.ensures)

pub returns : goal.returns
returns g c s shown = nowhere (c.loop-current.invariant.sought s shown).0 c.in_default.is
