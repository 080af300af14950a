-- The notes that a recording table adds for its link steps.
use Rattle.std.specs.Prelude.{◌≡◌, List, [], ◌∷◌, ◌++◌}
use Rattle.std.proofs.Common.{refl, sym, ◌∙◌, ap, append_assoc, append-nil}
use Rattle.ic_link_ops.specs.LinkSteps.{LinkStep, acquires, releases}
use Rattle.uses.specs.declared.recorded_table.Note.{Note}
use Rattle.uses.specs.declared.recorded_table.Note.TheVariants.{Acquired, Released}

-- the list of notes that a recording table adds for a list of link steps: one note for each step, in order
abbrev pub noted : List LinkStep → List Note
noted [] = []
noted (acquires p ∷ s) = Acquired p ∷ noted s
noted (releases p ∷ s) = Released p ∷ noted s

noted_append : (s t : List LinkStep) → noted (s ++ t) ≡ noted s ++ noted t
noted_append [] t = refl
noted_append (acquires p ∷ s) t = ap (λ l. Acquired p ∷ l) (noted_append s t)
noted_append (releases p ∷ s) t = ap (λ l. Released p ∷ l) (noted_append s t)

-- if no step is made, no note is added
pub noted_none : (x : List Note) → x ≡ x ++ []
noted_none x = sym (append-nil x)

-- if the notes of the steps `s` are appended to `x`, and then the notes of the steps `t`, then the notes of `s ++ t` were appended to `x`
pub noted_on : (s t : List LinkStep) (x y z : List Note) → y ≡ x ++ noted s → z ≡ y ++ noted t → z ≡ x ++ noted (s ++ t)
noted_on s t x y z h k =
    k ∙ ap (λ l. l ++ noted t) h ∙ append_assoc x (noted s) (noted t) ∙ ap (λ l. x ++ l) (sym (noted_append s t))
