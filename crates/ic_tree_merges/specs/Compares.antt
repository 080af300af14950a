-- Two objects are compared by their keys, which an adapter finds.
use Rattle.std.specs.Prelude.{ℕ}
use Rattle.std.specs.declared.cmp.Ordering.{Ordering}
use Rattle.ic_tree_merges.specs.declared.compares.ByKeys.{ByKeys}

module _ {A : Type 0} where
  -- `adapter_of` is the adapter that finds the keys, and `looks_of` is how many comparisons were counted
  abbrev pub adapter_of : ByKeys A → A
  adapter_of k = k.adapter

  abbrev pub looks_of : ByKeys A → ℕ
  looks_of k = k.looks

  -- the order of two values is that of their keys
  abbrev pub by_keys : {V K : Type 0} → (K → K → Ordering) → (A → V → K) → ByKeys A → V → V → Ordering
  by_keys cmp key_of k a b = cmp (key_of k.adapter a) (key_of k.adapter b)
