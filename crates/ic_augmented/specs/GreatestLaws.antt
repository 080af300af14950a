-- If the summary of a subtree is its greatest number, the summaries of a place determine its number.
use Rattle.std.specs.Prelude.{◌≡◌, ℕ, Option, None}
use Rattle.std.proofs.Common.{arith, sym, ◌∙◌}
use Rattle.std.proofs.Math.Nat.{max-eq_left}
use Rattle.ic_augmented.specs.Greatest.{greatest_of}

-- two numbers are equal if they give equal summaries with all summaries of two subtrees
pub greatest_tells : (x y : ℕ) → ((a b : Option ℕ) → greatest_of x a b ≡ greatest_of y a b) → x ≡ y
greatest_tells x y e = sym (max-eq_left (omega arith)) ∙ (e None None ∙ max-eq_left (omega arith))
