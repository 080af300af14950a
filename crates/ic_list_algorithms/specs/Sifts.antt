-- These definitions say which members `retain` and `dedup_by` keep, and which they unlink.
use Rattle.std.specs.Prelude.{◌≡◌, ◌⊎◌, Bool, true, false, not, cond, Option, Some, None, List, [], ◌∷◌, ◌++◌}
use Rattle.ic_link_ops.specs.Prelude.{Place, Objects, object_at, first, last, Table, ChangesOnlyIn, LinkStep, releases_each}

-- `keep prev x`: whether x is kept, if `prev` is the last member that was kept (none at first)
module _ {X : Type 0} (keep : Option X → X → Bool) where
  -- `sift prev s` has the members of s that are kept, if the test is called for each member in turn. `sift_out prev s` has the other members of s
  abbrev pub sift : Option X → List X → List X
  sift prev [] = []
  sift prev (x ∷ s) = cond (keep prev x) (x ∷ sift (Some x) s) (sift prev s)

  abbrev pub sift_out : Option X → List X → List X
  sift_out prev [] = []
  sift_out prev (x ∷ s) = cond (keep prev x) (sift_out (Some x) s) (x ∷ sift_out prev s)

-- s interleaves k and o: each member of s is the next member of k or the next member of o
abbrev pub IsMix : {X : Type 0} → List X → List X → List X → Type 0
IsMix {X} k o [] = (k ≡ []) × (o ≡ [])
IsMix {X} k o (x ∷ s) = ((rest : List X) × (k ≡ x ∷ rest) × IsMix rest o s) ⊎ ((rest : List X) × (o ≡ x ∷ rest) × IsMix k rest s)

module _ {V : Type 0} where
  -- the object at an optional place, or none if there is no place or no object
  abbrev pub object_there : Objects V → Option Place → Option V
  object_there objects None = None
  object_there objects (Some p) = object_at objects p

  -- `test prev x`: the test of an object x and of the object `prev` that was kept last. A place without an object is not kept
  abbrev pub keep_of : (Option V → V → Bool) → Option V → Option V → Bool
  keep_of test prev None = false
  keep_of test prev (Some x) = test prev x

  -- the test of places calls the test for the object at p and for the object at the place `prev`, which was kept last
  abbrev pub keep_at : (Option V → V → Bool) → Objects V → Option Place → Place → Bool
  keep_at test objects prev p = keep_of test (object_there objects prev) (object_at objects p)

  -- `by_itself` makes a test that ignores the object kept last. `differs` makes a test that keeps an object if it is not the same as the object kept last
  abbrev pub by_itself : (V → Bool) → Option V → V → Bool
  by_itself holds prev x = holds x

  abbrev pub differs : (V → V → Bool) → Option V → V → Bool
  differs same None x = true
  differs same (Some p) x = not (same p x)

-- the members without duplicates: of neighboring members whose objects are the same, only the first is kept. `same p q`: whether the object q is the same as p,
-- which was kept last
abbrev pub dedup : {V : Type 0} → (V → V → Bool) → Objects V → List Place → List Place
dedup same objects s = sift (keep_at (differs same) objects) None s

abbrev pub duplicates : {V : Type 0} → (V → V → Bool) → Objects V → List Place → List Place
duplicates same objects s = sift_out (keep_at (differs same) objects) None s

-- `Represents t head s`: the table t represents the sequence s for the collection with the head `head`. `table`: the entries of a table. `Trace`:
-- which links the table has acquired and released between two states
module _ {L E H : Type 0} (Represents : Table E → H → List Place → Type 0) (table : L → Table E) (Trace : L → L → List LinkStep → Type 0) where
  -- the list keeps some members of s, in their order, and the other members are unlinked. `Lawful`: the condition under which the kept members are `kept_by`
  -- and the unlinked members are `out_by`
  pub record SiftsTo (Lawful : Type 0) (old new : L) (head : H) (s kept_by out_by : List Place) : Type 0 where
    pub kept : List Place
    pub out : List Place
    pub shown : Represents (table new) head kept
    pub released : Trace old new (releases_each out)
    pub mixed : IsMix kept out s
    pub by_test : Lawful → (kept ≡ kept_by) × (out ≡ out_by)
    pub frame : ChangesOnlyIn (table old) (table new) s

  -- the member p, which is between `front` and `back`, is kept, or is removed and unlinked. Afterwards `prev` is the last member that was kept, and `next` is
  -- the first member of `back`
  pub record SiftsOne (kept : Bool) (old new : L) (head : H) (front : List Place) (p : Place) (back : List Place) (prev next : Option Place) : Type 0 where
    pub shown : Represents (table new) head ((front ++ cond kept (p ∷ []) []) ++ back)
    pub released : Trace old new (releases_each (cond kept [] (p ∷ [])))
    pub frame : ChangesOnlyIn (table old) (table new) (front ++ p ∷ back)
    pub last_kept : prev ≡ last (front ++ cond kept (p ∷ []) [])
    pub after : next ≡ first back
