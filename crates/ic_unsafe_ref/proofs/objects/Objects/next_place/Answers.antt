use Rattle.std.proofs.Common.{◌≡◌, ◌<◌, ◌≤◌, ℕ, Option, Some, None, ap, ◌∙◌, MatchOption}
use Rattle.std.specs.FinMap as map
use Rattle.ic_unsafe_ref.specs.declared.place.Place.{Place}
use Rattle.ic_unsafe_ref.specs.Places.{index_of}
use Rattle.ic_unsafe_ref.specs.Objects.{Objects, object_at}
use Rattle.ic_unsafe_ref.proofs.ObjectLemmas.{get_entries}
use Rattle.ic_unsafe_ref.proofs.objects.Objects.next_place.Goals as goal

-- Let o be what `Place::new` returns for the next key of a store that has no value under this key. Then o satisfies the contract
-- of `next_place`.
next_is : {T : Type 0} (o : Option Place) (key : ℕ) (objects : Objects T) → key ≡ objects.next → map.get objects.values key ≡ None
    → MatchOption o (4294967296 ≤ key) (λ p. (index_of p ≡ key) × key < 4294967296)
    → MatchOption o (4294967296 ≤ objects.next) (λ p. (index_of p ≡ objects.next) × objects.next < 4294967296 × (object_at objects p ≡ None))
next_is None key objects e vacant h = rw (← e) h
next_is (Some p) key objects e vacant h = (h.0 ∙ e, rw (← e) h.1, ap (map.get objects.values) h.0 ∙ vacant)

pub returns : goal.returns
returns g c =
    rw (← c.self.view_is)
    (next_is c.new.result c.vacant_key.result _ c.vacant_key.ensures.value (get_entries c.self.inside.slab c.vacant_key.result ∙ c.vacant_key.ensures.vacant) c.new.ensures)
