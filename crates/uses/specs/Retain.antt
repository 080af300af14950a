-- The places of a sequence are divided: places that pass a test are kept, and all others are removed.
use Rattle.std.specs.Prelude.{◌≡◌, ◌⊎◌, Bool, true, false, Some, List, [], ◌∷◌}
use Rattle.ic_link_ops.specs.Prelude.{Place, Objects, object_at}

-- `Tells p b` says that the test may return `b` for the place `p`
module _ (Tells : Place → Bool → Type 0) where
  -- `Parts s kept gone` says that the list `s` is divided into `kept` and `gone`, each in the order of `s`. The test may return true for each place of
  -- `kept`, and false for each place of `gone`
  abbrev pub Parts : List Place → List Place → List Place → Type 0
  Parts [] kept gone = (kept ≡ []) × (gone ≡ [])
  Parts (p ∷ s) kept gone =
      ((rest : List Place) × Tells p true × (kept ≡ p ∷ rest) × Parts s rest gone)
      ⊎ ((rest : List Place) × Tells p false × (gone ≡ p ∷ rest) × Parts s kept rest)

-- the place `p` has an object, and the test `tells` on objects may return `b` for this object
abbrev pub TellsOf : {T : Type 0} → Objects T → (T → Bool → Type 0) → Place → Bool → Type 0
TellsOf {T} objects tells p b = (object : T) × (object_at objects p ≡ Some object) × tells object b
