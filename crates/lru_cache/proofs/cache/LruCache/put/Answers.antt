use Rattle.std.proofs.Common.{◌+◌, ◌≤◌, ◌≡◌, is_some, List, ◌∷◌, length, sym, ap, ◌∙◌, subst, arith, true≢false, option_map}
use Rattle.ic_keyed.specs.Keyed.{KeyedValues}
use Rattle.lru_cache.specs.declared.entry.Entry.{Entry}
use Rattle.lru_cache.specs.Cache.{Cache, cache_of, entry_of, pair_of}
use Rattle.lru_cache.proofs.Leaving.{few_found, inserted_found, inserted_full, left_more, inserted_more, same_cache}
use Rattle.lru_cache.proofs.cache.LruCache.put.Goals as goal

-- The following proofs are for the case that an entry has the key of the inserted entry, and is replaced
pub invariant_of-self : goal.invariant_of-self
invariant_of-self g c =
    let e = c.in-Ok.ensures.replaced in
    rw e.1 (few_found (entry_of c.args.key c.args.value) (cache_of c.self.inside.capacity c.self.inside.entries) c.in-Ok.gone e.0 c.self.invariant)

pub returns-in-Ok-clause-inserted : goal.returns-in-Ok-clause-inserted
returns-in-Ok-clause-inserted g c =
    let e = c.in-Ok.ensures.replaced in
    let cache : Cache g.row.V.Denot = cache_of c.self.inside.capacity c.self.inside.entries in
    rw (← c.self.view_is) (same_cache c.self.inside.capacity c.self.inside.entries e.1 (inserted_found (entry_of c.args.key c.args.value) cache c.in-Ok.gone e.0 c.self.invariant))

-- The following proofs are for the case that the cache is full, and the oldest entry leaves
pub replace_last-requires : goal.replace_last-requires
replace_last-requires g c = let a = c.in-Err.ensures.absent in record { new = rw (a.0, a.2) a.1 }

pub returns-in-Ok-replace_last-clause-inserted : goal.returns-in-Ok-replace_last-clause-inserted
returns-in-Ok-replace_last-clause-inserted g c =
    let a = c.in-Err.ensures.absent in
    let r = rw (a.0, a.2) at c.in-Ok-replace_last.ensures.replaced in
    let cache : Cache g.row.V.Denot = cache_of c.self.inside.capacity c.self.inside.entries in
    let full : length c.self.inside.entries.values ≡ c.self.inside.capacity = omega (arith, c.len.ensures, c.if-len-self.true, ap (λ (k : KeyedValues (Entry g.row.V.Denot)). length k.values) a.2) in
    rw (← c.self.view_is)
    (same_cache c.self.inside.capacity c.self.inside.entries r.2 (inserted_full (entry_of c.args.key c.args.value) cache a.1 r.0 c.in-Ok-replace_last.oldest r.1 full))

-- The following proofs are for the case that no entry leaves the cache
pub insert_new-requires : goal.insert_new-requires
insert_new-requires g c = let a = c.in-Err.ensures.absent in record { new = rw (a.0, a.2) a.1 }

pub returns-in-Err-insert_new-clause-accepted : goal.returns-in-Err-insert_new-clause-accepted
returns-in-Err-insert_new-clause-accepted g c =
    let a = c.in-Err.ensures.absent in
    let cache : Cache g.row.V.Denot = cache_of c.self.inside.capacity c.self.inside.entries in
    let more : length c.self.inside.entries.values + 1 ≤ c.self.inside.capacity = omega (arith, c.self.invariant, c.len.ensures, c.if-len-self.false, ap (λ (k : KeyedValues (Entry g.row.V.Denot)). length k.values) a.2) in
    rw (← c.self.view_is) (λ some. absurd (true≢false (sym some ∙ ap is_some (sym (left_more (entry_of c.args.key c.args.value) cache a.1 more)))))

pub returns-clause-left : goal.returns-clause-left
returns-clause-left g c =
    let a = c.in-Err.ensures.absent in
    let cache : Cache g.row.V.Denot = cache_of c.self.inside.capacity c.self.inside.entries in
    let more : length c.self.inside.entries.values + 1 ≤ c.self.inside.capacity = omega (arith, c.self.invariant, c.len.ensures, c.if-len-self.false, ap (λ (k : KeyedValues (Entry g.row.V.Denot)). length k.values) a.2) in
    rw (← c.self.view_is) (ap (option_map pair_of) (left_more (entry_of c.args.key c.args.value) cache a.1 more))

pub returns-clause-inserted : goal.returns-clause-inserted
returns-clause-inserted g c =
    let a = c.in-Err.ensures.absent in
    let cache : Cache g.row.V.Denot = cache_of c.self.inside.capacity c.self.inside.entries in
    let more : length c.self.inside.entries.values + 1 ≤ c.self.inside.capacity = omega (arith, c.self.invariant, c.len.ensures, c.if-len-self.false, ap (λ (k : KeyedValues (Entry g.row.V.Denot)). length k.values) a.2) in
    let new = rw (a.0, a.2) at c.in-Ok-insert_new.ensures.inserted in
    rw (← c.self.view_is) (same_cache c.self.inside.capacity c.self.inside.entries new (inserted_more (entry_of c.args.key c.args.value) cache a.1 more))
