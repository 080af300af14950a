use Rattle.std.proofs.Common.{refl, sym, ap, ◌∙◌, option_map}
use Rattle.lru_cache.proofs.Leaving.{few_touched, none_found, same_cache, some_touched, touched_entry}
use Rattle.lru_cache.proofs.cache.LruCache.get.Goals as goal

pub invariant_of-self : goal.invariant_of-self
invariant_of-self g c = rw c.touch.ensures.touched (few_touched c.args.key c.self.inside.capacity c.self.inside.entries.values c.self.invariant)

pub invariant_of-self-2 : goal.invariant_of-self-2
invariant_of-self-2 g c = rw c.touch.ensures.touched (few_touched c.args.key c.self.inside.capacity c.self.inside.entries.values c.self.invariant)

pub returns-then-not-touch : goal.returns-then-not-touch
returns-then-not-touch g c =
    let none = none_found _ (sym c.touch.ensures.found ∙ c.if-not-touch.true) in
    rw (← c.self.view_is) ((refl, λ _. tt, same_cache c.self.inside.capacity c.self.inside.entries c.touch.ensures.touched refl), record { touches = tt; value = sym (ap (option_map (λ entry. entry.value)) none) })

pub returns-in_err-newest : goal.returns-in_err-newest
returns-in_err-newest g c = absurd (some_touched c.args.key c.self.inside.entries.values c.self.inside.entries c.touch.ensures.touched (sym c.touch.ensures.found ∙ c.if-not-touch.false) c.in_err-newest.ensures)

pub returns : goal.returns
returns g c =
    let found = touched_entry c.args.key c.self.inside.entries.values c.self.inside.entries c.touch.ensures.touched (sym c.touch.ensures.found ∙ c.if-not-touch.false) c.in_ok-newest.ensures in
    rw (← c.self.view_is) ((refl, λ _. tt, same_cache c.self.inside.capacity c.self.inside.entries c.touch.ensures.touched refl), record { touches = tt; value = sym (ap (option_map (λ entry. entry.value)) found) })
