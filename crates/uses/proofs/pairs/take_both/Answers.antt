use Rattle.std.proofs.Common.{◌≡◌, Option, arith, IfNone, false, is_some, sym, ◌∙◌, rules}
use Rattle.uses.proofs.pairs.take_both.Goals as goal

-- `IfNone r P` says that `P` holds if the option `r` is `None`. So if `r` is `None`, then `P` holds
none_says : {A P : Type 0} (r : Option A) → is_some r ≡ false → IfNone r P → P
none_says r e h = grind arith

pub returns-clause-released : goal.returns-clause-released
returns-clause-released g c =
    let both = g.met.L.LinkOps.does_on _ _ _ _ _ c.in_ok-first.ensures.steps.released c.in_ok-second.ensures.steps.released in
    let same = (none_says c.next-2.result (sym c.is_some.ensures ∙ c.if-is_some.false) c.next-2.ensures.steps.empty).1 in
    let taken = rw (← same, c.into_iter-rest.ensures.links) at both in
    let left = c.drop-rest-2.ensures.links in
    search rules
