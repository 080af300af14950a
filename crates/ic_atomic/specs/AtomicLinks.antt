-- What contracts say about a table that claims each place before it links the place.
use Rattle.std.specs.Prelude.{◌≡◌, List, [], ◌∷◌, ◌++◌, map}
use Rattle.ic_link_ops.specs.Prelude.{Place, LinkStep, acquires, releases}
use Rattle.ic_link_ops.specs.declared.link_ops.LinkOps.{Ghosts}
use Rattle.ic_atomic.specs.declared.step.Step.TheVariants.{Claim, Release}
use Rattle.ic_atomic.specs.declared.step.Event.{Event}
use Rattle.ic_atomic.specs.declared.claims.Claims.{Claims}
use Rattle.ic_atomic.specs.declared.claims.Holder.{Holder}
use Rattle.ic_atomic.specs.declared.atomic_link_ops.AtomicLinkOps.{AtomicLinkOps}
use Rattle.ic_atomic.specs.Holders.{record_of}
use Rattle.ic_atomic.specs.Records.{event}

-- the holder's step for a link step of its table: a claim that found the word 0 if the link step links a place, and a release that found the word 1 if it
-- unlinks one
abbrev pub step_of : LinkStep → Event
step_of (acquires p) = event (Claim p) 0
step_of (releases p) = event (Release p) 1

module _ {L A E : Type 0} {g : Ghosts L E} where
  -- the parts of the table t: its claims, its holder, the record of the holder's steps, and the table with the links of the places that the holder holds
  abbrev pub claims_of : AtomicLinkOps L A E g → Claims A
  claims_of t = t.claims.now

  abbrev pub holder_of : AtomicLinkOps L A E g → Holder
  holder_of t = t.holder

  abbrev pub record_in : AtomicLinkOps L A E g → List Event
  record_in t = record_of t.holder

  abbrev pub links_of : AtomicLinkOps L A E g → L
  links_of t = t.links

  -- the table makes the link steps `steps`. In their order, the holder's record gains a claim that found the word 0 for each link and a release for each
  -- unlink, and gains nothing else
  pub record Gains (Trace : L → L → List LinkStep → Type 0) (old new : AtomicLinkOps L A E g) (steps : List LinkStep) : Type 0 where
    pub claims : claims_of new ≡ claims_of old
    pub gained : record_in new ≡ record_in old ++ map step_of steps
    pub did : Trace (links_of old) (links_of new) steps

  -- the table refuses to link p: the holder's record gains a claim of p that found the word 1, and nothing else changes
  pub record Fails (old new : AtomicLinkOps L A E g) (p : Place) : Type 0 where
    pub claims : claims_of new ≡ claims_of old
    pub gained : record_in new ≡ record_in old ++ event (Claim p) 1 ∷ []
    pub links : links_of new ≡ links_of old
