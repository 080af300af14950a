-- Each place can have a summary, which is computed from the members of the subtree there.
use Rattle.std.specs.Prelude.{◌≡◌, ◌≢◌, Bool, true, false, Option, Some, None}
use Rattle.ic_link_ops.specs.Prelude.{Place, Tree, leaf, fork}

-- summaries store three things beside the links. `fresh` gives the summary of a place, or none if it is stale, and `upper` gives the parent that the place
-- had when the summary was written. `join` computes a place's summary from the summaries of its two subtrees
pub record Summaries (S : Type 0) : Type 0 where
  pub fresh : Place → Option S
  pub upper : Place → Option Place
  pub join : Place → Option S → Option S → S

-- whether a summary is fresh
abbrev pub is_fresh : {S : Type 0} → Option S → Bool
is_fresh None = false
is_fresh (Some x) = true

module _ {S : Type 0} where
  -- the summary of a place, or none if it is stale or there is no place
  abbrev pub seen : Summaries S → Option Place → Option S
  seen z None = None
  seen z (Some p) = z.fresh p

  -- THE SUMMARY OF A TREE is computed at its root from the summaries of both subtrees
  abbrev pub total : Summaries S → Tree → Option S
  total z leaf = None
  total z (fork c a p b) = Some (z.join p (total z a) (total z b))

  -- THE TREE IS SUMMED below the parent `up`: each member stores the summary of its subtree, and its parent
  abbrev pub IsSummed : Summaries S → Option Place → Tree → Type 0
  IsSummed z up leaf = Unit {0}
  IsSummed z up (fork c a p b) = (z.fresh p ≡ total z (fork c a p b)) × (z.upper p ≡ up) × IsSummed z (Some p) a × IsSummed z (Some p) b

  -- no summary was written from state `old` to state `new`: in `new` each summary is unchanged or stale, and each stored parent is unchanged
  pub record WritesNoSummary (old new : Summaries S) : Type 0 where
    pub fresh : (q : Place) (x : S) → new.fresh q ≡ Some x → old.fresh q ≡ Some x
    pub upper : (q : Place) → new.upper q ≡ old.upper q

  -- in the state `new` the place p has a stale summary, and nothing else has changed since the state `old`
  pub record Invalidates (old new : Summaries S) (p : Place) : Type 0 where
    pub stale : new.fresh p ≡ None
    pub others : (q : Place) → q ≢ p → new.fresh q ≡ old.fresh q
    pub upper : (q : Place) → new.upper q ≡ old.upper q
    pub join : new.join ≡ old.join

  -- in the state `new` the place p has the summary x and the stored parent `up`, and nothing else has changed since the state `old`
  pub record Writes (old new : Summaries S) (p : Place) (x : Option S) (up : Option Place) : Type 0 where
    pub fresh : new.fresh p ≡ x
    pub upper : new.upper p ≡ up
    pub others : (q : Place) → q ≢ p → new.fresh q ≡ old.fresh q
    pub uppers : (q : Place) → q ≢ p → new.upper q ≡ old.upper q
    pub join : new.join ≡ old.join
