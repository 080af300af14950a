-- This file proves a fact about entries that the laws of tables need.
use Rattle.std.specs.Prelude.{◌≡◌, ℕ, ◌<◌, List, [], ◌∷◌, length, slice_index_or, Bool, true, false}
use Rattle.std.proofs.Common.{zero, suc, arith, sym, ◌∙◌}

-- If the entry with the index i belongs to a linked place, i is below the number of entries, because the entry of an index beyond
-- the table is unlinked.
pub linked_in_range : {E : Type 0} (is_linked : E → Bool) (unlinked : E) → is_linked unlinked ≡ false
    → (es : List E) (i : ℕ) → is_linked (slice_index_or es i unlinked) ≡ true → i < length es
linked_in_range f d starts [] i h = let no : false ≡ true = sym starts ∙ h in cc
linked_in_range f d starts (x ∷ es) zero h = omega arith
linked_in_range f d starts (x ∷ es) (suc i) h = omega (arith, linked_in_range f d starts es i h)
