use Rattle.std.proofs.Common.{sym, ◌∙◌, arith}
use Rattle.ic_unsafe_ref.proofs.PlaceLemmas.{index_small}
use Rattle.ic_check.proofs.Marking.{not_missed, missed_here}
use Rattle.ic_check.proofs.whole.is_missed.Goals as goal

pub returns-in_default : goal.returns-in_default
returns-in_default g c = ((λ e. absurd (cc)), λ missed. absurd (omega (arith, c.in_default.ensures, missed.1, index_small missed.0)))

pub returns-then-not-tells_linked : goal.returns-then-not-tells_linked
returns-then-not-tells_linked g c = (
  (λ e. absurd (cc)),
  λ missed. absurd (not_missed g.L.LinkOps.linked (g.L.LinkOps.table c.args.links.now) c.args.marks.now c.in-Some.ensures (sym c.tells_linked.ensures ∙ c.if-not-tells_linked.true) missed),
)

pub returns : goal.returns
returns g c =
    missed_here g.L.LinkOps.linked (g.L.LinkOps.table c.args.links.now) c.args.marks.now c.in-Some.place c.args.index c.in-Some.ensures
    (sym c.tells_linked.ensures ∙ c.if-not-tells_linked.false)
