-- A walk can remove members on its way. This file describes which members a walk has passed, which members it has removed, and
-- which members it has not reached. The facts in this file hold for every kind of collection.
use Rattle.std.proofs.Common.{◌≡◌, ◌∙◌, sym, refl, Option, Some, List, [], ◌∷◌, ◌++◌, append_assoc}
use Rattle.ic_link_ops.specs.Base.{Place, Cut, first, IsAbsent, Table, ChangesOnlyIn, CursorState, site, MovesOn, LinkStep, releases_each}
use Rattle.ic_link_ops.specs.EditsAt.{RemovesThere}
use Rattle.ic_link_ops.proofs.Covering.{frames_join}
use Rattle.ic_link_ops.proofs.SequenceLemmas.{absent_without, last_of_push}
use Rattle.ic_link_ops.proofs.StepLemmas.{releases_append}

-- `Represents t head s` says that the table t represents the sequence s for the collection with this head.
module _ {L E H : Type 0} (Represents : Table E → H → List Place → Type 0) (table : L → Table E) (Trace : L → L → List LinkStep → Type 0) where
  -- A walk started with the sequence s in the table `start`. The walk has passed the members `after`, removed the members `gone`,
  -- and not yet reached the members `ahead`.
  pub record Walked (start : L) (s : List Place) (now : CursorState L H) (after gone ahead : List Place) : Type 0 where
    pub shown : Represents (table now.links) now.head (after ++ ahead)
    pub here : now.position ≡ first ahead
    pub steps : Trace start now.links (releases_each gone)
    pub frame : ChangesOnlyIn (table start) (table now.links) s
    pub adds_none : (q : Place) → IsAbsent q s → IsAbsent q (after ++ ahead)

module _ {L E H : Type 0} {Represents : Table E → H → List Place → Type 0} {table : L → Table E} {Trace : L → L → List LinkStep → Type 0} where
  -- Before the first step the walk has reached no member of s.
  pub walk_begins : {now : CursorState L H} {s : List Place} → Trace now.links now.links [] → Represents (table now.links) now.head s → now.position ≡ first s
      → Walked Represents table Trace now.links s now [] [] s
  walk_begins nothing shown here = record {
    shown = shown;
    here = here;
    steps = nothing;
    frame = record { extent = refl; others = λ q out. refl };
    adds_none = λ q out. out;
  }

  module _ {start : L} {s : List Place} {now : CursorState L H} {after gone ahead : List Place} {p : Place} (w : Walked Represents table Trace start s now after gone (p ∷ ahead)) where
    -- In this step the walk moves on from the member p to the next member. The member p joins the members that the walk has
    -- passed.
    pub walk_leaves : {position : Option Place} → MovesOn Represents table now position
        → Walked Represents table Trace start s (site now.links now.head position) (after ++ p ∷ []) gone ahead
    walk_leaves moves =
        let gap : Cut = record { front = after ++ p ∷ []; back = ahead } in
        let same = append_assoc after (p ∷ []) ahead in record {
          shown = rw same w.shown;
          here = moves.leads gap (rw same w.shown) (w.here ∙ sym (last_of_push after p));
          steps = w.steps;
          frame = w.frame;
          adds_none = λ q out. rw same (w.adds_none q out);
        }

    -- In this step the walk removes the member p, and p joins the members that the walk has removed.
    pub walk_takes : ((a b c : L) (u v : List LinkStep) → Trace a b u → Trace b c v → Trace a c (u ++ v)) → {new : CursorState L H} {r : Option Place}
        → RemovesThere Represents table Trace now r new → Walked Represents table Trace start s new after (gone ++ p ∷ []) ahead
    walk_takes does_on {new} {r} e =
        let is : r ≡ Some p = e.answer ∙ w.here in
        let gap : Cut = record { front = after; back = p ∷ ahead } in
        let off = rw is at (e.removed gap w.shown w.here) in record {
          shown = off.shows;
          here = e.moved gap w.shown w.here;
          steps = rw (releases_append gone (p ∷ [])) (does_on _ _ _ _ _ w.steps (rw is at e.released));
          frame = frames_join w.frame off.frame w.adds_none;
          adds_none = λ q out. absent_without after ahead p q (w.adds_none q out);
        }
