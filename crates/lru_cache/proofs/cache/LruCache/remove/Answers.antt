use Rattle.std.proofs.Common.{◌≤◌, List, length, sym, subst, refl}
use Rattle.ic_keyed.specs.Keyed.{KeyedValues}
use Rattle.lru_cache.specs.declared.entry.Entry.{Entry}
use Rattle.lru_cache.proofs.Leaving.{few_without}
use Rattle.lru_cache.proofs.cache.LruCache.remove.Goals as goal

pub invariant_of-self : goal.invariant_of-self
invariant_of-self g c = rw c.remove.ensures.removed (few_without c.args.key c.self.inside.capacity c.self.inside.entries.values c.self.invariant)

pub invariant_of-self-2 : goal.invariant_of-self-2
invariant_of-self-2 g c = rw c.remove.ensures.removed (few_without c.args.key c.self.inside.capacity c.self.inside.entries.values c.self.invariant)
