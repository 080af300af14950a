-- If each member of a sequence has an object, the first and the last member have objects as well.
use Rattle.std.proofs.Common.{◌≡◌, true, Some, List, [], ◌∷◌, ◌++◌, sym, subst}
use Rattle.std.specs.List.{AllByRecursion}
use Rattle.ic_link_ops.specs.Base.{Place, Objects, is_placed, first, last, but_last, ArePlaced}
use Rattle.ic_link_ops.proofs.SequenceLemmas.{first_is, split_last}

-- If a statement holds for each member of w followed by p, it holds for each member of w, and it holds for p.
pub all_but_last : (P : Place → Type 0) (w : List Place) (p : Place) → AllByRecursion P (w ++ p ∷ []) → AllByRecursion P w × P p
all_but_last P [] p h = (tt, h.0)
all_but_last P (x ∷ w) p h = let k = all_but_last P w p h.1 in ((h.0, k.0), k.1)

module _ {T : Type 0} (objects : Objects T) (w : List Place) (placed : ArePlaced objects w) {p : Place} where
  pub first_placed : Some p ≡ first w → is_placed objects p ≡ true
  first_placed is = (subst (ArePlaced objects) (first_is w is) placed).0

  pub last_placed : Some p ≡ last w → is_placed objects p ≡ true
  last_placed is = (all_but_last _ (but_last w) p (subst (ArePlaced objects) (split_last w (sym is)) placed)).1
