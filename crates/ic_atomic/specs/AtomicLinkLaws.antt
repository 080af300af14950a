-- Lemmas that the laws of link steps require of `Gains`: a call without link steps gains no step, and the steps of two calls add up.
use Rattle.std.specs.Prelude.{List, [], ◌∷◌, ◌++◌, map}
use Rattle.std.proofs.Common.{◌≡◌, refl, sym, ap, ◌∙◌, append-nil, append_assoc}
use Rattle.ic_link_ops.specs.declared.link_ops.LinkOps.{Ghosts}
use Rattle.ic_link_ops.specs.LinkSteps.{LinkStep}
use Rattle.ic_atomic.specs.declared.step.Event.{Event}
use Rattle.ic_atomic.specs.declared.atomic_link_ops.AtomicLinkOps.{AtomicLinkOps}
use Rattle.ic_atomic.specs.AtomicLinks.{step_of, record_in, links_of, Gains}

-- the holder's steps for the link steps s ++ t are its steps for s, followed by its steps for t
steps_on : (s t : List LinkStep) → map step_of (s ++ t) ≡ map step_of s ++ map step_of t
steps_on [] t = refl
steps_on (x ∷ s) t = ap (λ (es : List Event). step_of x ∷ es) (steps_on s t)

module _ {L A E : Type 0} {g : Ghosts L E} (Trace : L → L → List LinkStep → Type 0) where
  pub gains_nothing : (t : AtomicLinkOps L A E g) → Trace (links_of t) (links_of t) [] → Gains Trace t t []
  gains_nothing t did = record { claims = refl; gained = sym (append-nil (record_in t)); did = did }

  pub gains_on : ((a b c : L) (s t : List LinkStep) → Trace a b s → Trace b c t → Trace a c (s ++ t))
      → (a b c : AtomicLinkOps L A E g) (s t : List LinkStep) → Gains Trace a b s → Gains Trace b c t → Gains Trace a c (s ++ t)
  gains_on law a b c s t h k = record {
    claims = k.claims ∙ h.claims;
    gained = k.gained ∙ ap (λ (es : List Event). es ++ map step_of t) h.gained ∙ append_assoc (record_in a) (map step_of s) (map step_of t)
        ∙ ap (λ (es : List Event). record_in a ++ es) (sym (steps_on s t));
    did = law (links_of a) (links_of b) (links_of c) s t h.did k.did;
  }
