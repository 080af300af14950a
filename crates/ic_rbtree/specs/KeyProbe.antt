-- Contracts describe a search for a key by these definitions.
use Rattle.std.specs.Prelude.{◌≡◌, ℕ}
use Rattle.ic_rbtree.specs.declared.keys.key_adapter.Bound.{Bound}
use Rattle.ic_rbtree.specs.declared.keys.key_adapter.Bound.TheVariants.{Included, Excluded, Unbounded}
use Rattle.std.specs.declared.cmp.Ordering.{Ordering}
use Rattle.ic_rbtree.specs.Comparing.{order_of}
use Rattle.ic_rbtree.specs.declared.keys.probe.KeyProbe.{KeyProbe}
use Rattle.ic_rbtree.specs.declared.keys.probe.KeyFirst.{KeyFirst}

module _ {A V K : Type 0} where
  -- the adapter by which the search finds the keys of objects
  abbrev pub adapter_of : KeyProbe A V K → A
  adapter_of p = p.adapter

  -- the searched key
  abbrev pub key_of_probe : KeyProbe A V K → K
  key_of_probe p = p.key.now

  -- the number of comparisons that the search has made
  abbrev pub looks_of : KeyProbe A V K → ℕ
  looks_of p = p.looks

  -- the `KeyProbe` that a `KeyFirst` contains. A `KeyFirst` is the search for a key that an insert makes
  abbrev pub probe_of : KeyFirst A V K → KeyProbe A V K
  probe_of p = p.probe

  -- how the searched key compares with the key of a value
  abbrev pub key_order : (K → K → Ordering) → (A → V → K) → KeyProbe A V K → V → Ordering
  key_order cmp key_of p = order_of cmp (key_of (adapter_of p)) (key_of_probe p)

  -- the search in the bound, if there is one, has the adapter `adapter`
  abbrev pub HasAdapter : A → Bound (KeyProbe A V K) → Type 0
  HasAdapter adapter (Included p) = adapter_of p ≡ adapter
  HasAdapter adapter (Excluded p) = adapter_of p ≡ adapter
  HasAdapter adapter Unbounded = Unit {0}
