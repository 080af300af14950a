-- A contract treats a value that contains one of two tables as a table of links.
use Rattle.std.specs.Prelude.{◌≡◌, Bool, List, [], ◌∷◌, ◌++◌, ℕ}
use Rattle.std.proofs.Common.{ap}
use Rattle.ic_link_ops.specs.Prelude.{Place, Extent, Table, IsLinked, IsCovered, with_extent, LinkStep, TraceIs}
use Rattle.ic_link_ops.specs.StepLaws.{trace_within}
use Rattle.uses.specs.declared.either_table.EitherTable.{EitherTable}
use Rattle.uses.specs.declared.either_table.EitherTable.TheVariants.{First, Second}

-- the number `n` of the variant is added to the extent `e`, so that the first table and the second one have different extents
abbrev pub numbered : ℕ → Extent → Extent
numbered n e = record { places = e.places; identity = n ∷ e.identity }

-- `a` and `b` have the same variant, both `First` or both `Second`, and the relation `R` holds of the two tables in them and of `x`
abbrev pub Alike : {L X : Type 0} → (L → L → X → Type 0) → EitherTable L → EitherTable L → X → Type 0
Alike R (First a) (First b) x = R a b x
Alike R (First a) (Second b) x = ⊥
Alike R (Second a) (First b) x = ⊥
Alike R (Second a) (Second b) x = R a b x

-- the number of the variant: 0 for the first table, and 1 for the second
abbrev pub variant : {L : Type 0} → EitherTable L → ℕ
variant (First t) = 0
variant (Second t) = 1

module _ {L E : Type 0} (table : L → Table E) where
  -- the value as a table of links: its entries are those of the table that it contains
  abbrev pub one_of : EitherTable L → Table E
  one_of (First t) = with_extent (numbered 0 (table t).extent) (table t)
  one_of (Second t) = with_extent (numbered 1 (table t).extent) (table t)

  pub has_name : (can : Place → Type 0) → ((t : L) (p : Place) → IsCovered (table t) p → can p)
      → (t : EitherTable L) (p : Place) → IsCovered (one_of t) p → can p
  has_name can law (First t) p h = law t p h
  has_name can law (Second t) p h = law t p h

  module _ (linked : E → Bool) where
    pub covered : ((t : L) (p : Place) → IsLinked linked (table t) p → IsCovered (table t) p)
        → (t : EitherTable L) (p : Place) → IsLinked linked (one_of t) p → IsCovered (one_of t) p
    covered law (First t) p h = law t p h
    covered law (Second t) p h = law t p h

    pub replay : (Trace : L → L → List LinkStep → Type 0) → ((a b : L) (s : List LinkStep) → Trace a b s → TraceIs linked (table a) (table b) s)
        → (a b : EitherTable L) (s : List LinkStep) → Alike Trace a b s → TraceIs linked (one_of a) (one_of b) s
    replay Trace law (First a) (First b) s d = trace_within linked (numbered 0 (table a).extent) (numbered 0 (table b).extent) s (table a) (table b) (law a b s d)
    replay Trace law (Second a) (Second b) s d = trace_within linked (numbered 1 (table a).extent) (numbered 1 (table b).extent) s (table a) (table b) (law a b s d)
    replay Trace law (First a) (Second b) s d = absurd d
    replay Trace law (Second a) (First b) s d = absurd d

  pub kept : (Refused : L → L → Place → Type 0) → ((a b : L) (p : Place) → Refused a b p → table b ≡ table a)
      → (a b : EitherTable L) (p : Place) → Alike Refused a b p → one_of b ≡ one_of a
  kept Refused law (First a) (First b) p r = ap (λ t. with_extent (numbered 0 t.extent) t) (law a b p r)
  kept Refused law (Second a) (Second b) p r = ap (λ t. with_extent (numbered 1 t.extent) t) (law a b p r)
  kept Refused law (First a) (Second b) p r = absurd r
  kept Refused law (Second a) (First b) p r = absurd r

module _ {L : Type 0} (Trace : L → L → List LinkStep → Type 0) where
  pub nothing : ((t : L) → Trace t t []) → (t : EitherTable L) → Alike Trace t t []
  nothing law (First t) = law t
  nothing law (Second t) = law t

  pub on : ((a b c : L) (s t : List LinkStep) → Trace a b s → Trace b c t → Trace a c (s ++ t))
      → (a b c : EitherTable L) (s t : List LinkStep) → Alike Trace a b s → Alike Trace b c t → Alike Trace a c (s ++ t)
  on law (First a) (First b) (First c) s t d e = law a b c s t d e
  on law (Second a) (Second b) (Second c) s t d e = law a b c s t d e
  on law (First a) (Second b) c s t d e = absurd d
  on law (Second a) (First b) c s t d e = absurd d
  on law (First a) (First b) (Second c) s t d e = absurd e
  on law (Second a) (Second b) (First c) s t d e = absurd e
