use Rattle.std.proofs.Common.{sym, ◌∙◌, ap, arith, refl}
use Rattle.ic_check.proofs.Checking.{checks_none, checks_stands, checks_more, checks_all, checks_whole, checks_few, next_of, leads_on, stands_after}
use Rattle.ic_check.proofs.list.check.Goals as goal

pub loop-current-init : goal.loop-current-init
loop-current-init g c =
    checks_none g.K.ForwardLinks.step g.met.K.ForwardLinks.leads (sym c.first-current.ensures) refl refl

pub returns-then-count-covered_places : goal.returns-then-count-covered_places
returns-then-count-covered_places g c s shown =
    let few = checks_few g.K.ForwardLinks.step g.met.K.ForwardLinks.leads
    (λ q b a h. g.met.L.LinkOps.linked_is_covered c.args.links.now q (g.met.K.ForwardLinks.between_linked _ b a h)) c.loop-current.invariant c.in-Some.is
    s shown.distinct shown.chain shown.head in
    omega (arith, few, c.covered_places.ensures, c.if-count-covered_places.true)

pub returns-then-not-tells_linked : goal.returns-then-not-tells_linked
returns-then-not-tells_linked g c s shown =
    let stands = checks_stands g.K.ForwardLinks.step g.met.K.ForwardLinks.leads
    c.loop-current.invariant c.in-Some.is s shown.chain shown.head in
    let linked = g.met.K.ForwardLinks.between_linked _ _ _ stands.2 in
    cc linked

pub returns-then-not-names_prev : goal.returns-then-not-names_prev
returns-then-not-names_prev g c s shown =
    let stands = checks_stands g.K.ForwardLinks.step g.met.K.ForwardLinks.leads
    c.loop-current.invariant c.in-Some.is s shown.chain shown.head in
    let after = c.names_prev.ensures.1 (stands_after g.met.K.ForwardLinks.leads stands.2) in
    cc after

pub loop-current-preserved : goal.loop-current-preserved
loop-current-preserved g c =
    checks_more g.K.ForwardLinks.step g.met.K.ForwardLinks.leads c.loop-current.invariant c.in-Some.is
    (rw c.next-after.ensures (c.names_prev.ensures.0 c.if-not-names_prev.false)) refl

pub returns-then-ends_with : goal.returns-then-ends_with
returns-then-ends_with g c =
    let k = c.loop-current.invariant in
    let all = checks_all (next_of g.K.ForwardLinks.step) (leads_on g.met.K.NamesItsNext.tells_after g.met.K.ForwardLinks.leads) k c.in_default.is in
    (k.done, record { distinct = all.0; chain = all.1; head = all.2; tail = c.ends_with.ensures.0 c.if-ends_with.true ∙ ap g.K.ListKind.kept k.ends }, sym k.counted)

pub returns-else-ends_with : goal.returns-else-ends_with
returns-else-ends_with g c s shown =
    let whole = checks_whole g.K.ForwardLinks.step g.met.K.ForwardLinks.leads
    c.loop-current.invariant c.in_default.is s shown.chain shown.head in
    let ends = c.ends_with.ensures.1 (shown.tail ∙ ap g.K.ListKind.kept (sym whole)) in
    cc ends
