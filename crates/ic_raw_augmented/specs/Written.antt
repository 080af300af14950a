-- The places whose children an edit has written.
use Rattle.std.specs.Prelude.{◌≡◌, ◌||◌, Bool, ℕ, true, false, List, [], ◌∷◌}
use Rattle.ic_link_ops.specs.Prelude.{Place, Table}
use Rattle.ic_raw.specs.declared.words.RawThree.{RawThree}
use Rattle.ic_raw.specs.Prelude.{also, seen, seen_node, place_in}
use Rattle.ic_raw_augmented.specs.declared.written.Written.{Written}

-- whether one of the words `ws` names the place q
abbrev pub is_among : List ℕ → Place → Bool
is_among [] q = false
is_among (w ∷ ws) q = also (place_in w) (is_among ws) q

-- whether the place q counts as recorded: a word of the record names q, or the record is full, so that there may have been no room for q
abbrev pub is_noted : Written → Place → Bool
is_noted w q = w.is_full || is_among w.words q

-- the words of the place q name the same left child and the same right child in `old` and in `new`
pub record KeepsChildren (old new : Table RawThree) (q : Place) : Type 0 where
  pub left : (seen_node ((seen new).entry q)).left ≡ (seen_node ((seen old).entry q)).left
  pub right : (seen_node ((seen new).entry q)).right ≡ (seen_node ((seen old).entry q)).right

-- the record is complete for the changes from `old` to `new`: each place that is recorded in `was` is recorded in `is`, and each place that is not recorded in
-- `is` has the same children in both tables
pub record Notes (was is : Written) (old new : Table RawThree) : Type 0 where
  pub noted : (q : Place) → is_noted was q ≡ true → is_noted is q ≡ true
  pub children : (q : Place) → is_noted is q ≡ false → KeepsChildren old new q
