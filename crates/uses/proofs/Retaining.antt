-- Lemmas about a walk that keeps the members that pass a test: one turn of its loop, and its end.
use Rattle.std.proofs.Common.{◌≡◌, ◌<◌, ◌∙◌, sym, ap, inl, inr, Bool, true, false, true≢false, is_some, Option, Some, None, List, [], ◌∷◌, ◌++◌, length, refl, arith, append-nil, append_assoc}
use Rattle.ic_link_ops.specs.Prelude.{Place, Objects, Cut, join, IsAfter, Table, IsCovered, CursorState, site, MovesOn, object_there, ArePlaced, LinkStep, releases_each, Ends, RemovesThere}
use Rattle.ic_link_ops.specs.LinkedList.{Neighbors, Represents, members_between}
use Rattle.ic_link_ops.proofs.SequenceLemmas.{gap_after, none_not}
use Rattle.ic_link_ops.proofs.DoublyLists.{members_after}
use Rattle.ic_link_ops.proofs.EditingWalks.{Walked, walk_leaves, walk_takes}
use Rattle.uses.specs.Retain.{Parts, TellsOf}

module _ {L E T : Type 0} (n : E → Neighbors) (table : L → Table E) (Trace : L → L → List LinkStep → Type 0) (objects : Objects T) (tells : T → Bool → Type 0) where
  -- The walk began with the table `start`, which represented `s`, and the members `ahead` are those that the walk has not tested yet. It has kept the
  -- members `after` and removed the members `gone`, as the test returned for each of them
  pub record Retains (start : L) (s : List Place) (now : CursorState L Ends) (ahead : List Place) : Type 0 where
    pub after : List Place
    pub gone : List Place
    pub walked : Walked (Represents n) table Trace start s now after gone ahead
    pub parted : (k g : List Place) → Parts (TellsOf objects tells) ahead k g → Parts (TellsOf objects tells) s (after ++ k) (gone ++ g)
    pub placed : ArePlaced objects ahead

  -- one turn of the loop has led the walk from `now` to `new`, and fewer members are ahead of it
  abbrev pub Turns : L → List Place → CursorState L Ends → CursorState L Ends → Type 0
  Turns start s now new = (rest : List Place) × Retains start s new rest
      × (length (members_between n (table new.links) new.position None) < length (members_between n (table now.links) now.position None))

module _ {L E T : Type 0} {n : E → Neighbors} {table : L → Table E} {Trace : L → L → List LinkStep → Type 0}
    {objects : Objects T} {tells : T → Bool → Type 0} {start : L} {s : List Place} {now : CursorState L Ends} where
  pub retains_gap : {ahead : List Place} → Retains n table Trace objects tells start s now ahead → (gap : Cut) × Represents n (table now.links) now.head (join gap) × IsAfter gap now.position
  retains_gap {ahead} h = let gap = gap_after (record { front = h.after; back = ahead }) now.position h.walked.here in (gap.0, rw gap.1 h.walked.shown, gap.2)

  module _ (covered : (l : L) (q : Place) → (n ((table l).entry q)).linked ≡ true → IsCovered (table l) q) where
    turns : {p : Place} {rest : List Place} {new : CursorState L Ends} → Retains n table Trace objects tells start s now (p ∷ rest)
        → Retains n table Trace objects tells start s new rest → Turns n table Trace objects tells start s now new
    turns {p} {rest} {new} h r = (
      rest,
      r,
      omega (
        arith,
        ap length (members_after (table now.links) (covered now.links) h.after (p ∷ rest) h.walked.shown h.walked.here),
        ap length (members_after (table new.links) (covered new.links) r.after rest r.walked.shown r.walked.here),
      ),
    )

    -- if the test returns true for the first member ahead and the cursor moves on, then one turn is made (`Turns`), and the member is kept
    pub retains_kept : {x : T} (ahead : List Place) → Retains n table Trace objects tells start s now ahead → object_there objects now.position ≡ Some x → tells x true
        → {position : Option Place} → MovesOn (Represents n) table now position → Turns n table Trace objects tells start s now (site now.links now.head position)
    retains_kept {x} [] h there answered moves = absurd (none_not x (sym (ap (object_there objects) h.walked.here) ∙ there))
    retains_kept {x} (p ∷ rest) h there answered moves = turns h (record {
      after = h.after ++ p ∷ [];
      gone = h.gone;
      walked = walk_leaves h.walked moves;
      parted = λ k g parts. rw (append_assoc h.after (p ∷ []) k) (h.parted (p ∷ k) g (inl (k, (x, sym (ap (object_there objects) h.walked.here) ∙ there, answered), refl, parts)));
      placed = h.placed.1;
    })

    -- if the test returns false for the first member ahead and the member is removed, then one turn is made (`Turns`), and the member is added to the
    -- removed ones
    pub retains_gone : ((a b c : L) (u v : List LinkStep) → Trace a b u → Trace b c v → Trace a c (u ++ v))
        → {x : T} (ahead : List Place) → Retains n table Trace objects tells start s now ahead → object_there objects now.position ≡ Some x → tells x false
        → {new : CursorState L Ends} {r : Option Place} → RemovesThere (Represents n) table Trace now r new → Turns n table Trace objects tells start s now new
    retains_gone does_on {x} [] h there answered removes = absurd (none_not x (sym (ap (object_there objects) h.walked.here) ∙ there))
    retains_gone does_on {x} (p ∷ rest) h there answered removes = turns h (record {
      after = h.after;
      gone = h.gone ++ p ∷ [];
      walked = walk_takes h.walked does_on removes;
      parted = λ k g parts. rw (append_assoc h.gone (p ∷ []) g) (h.parted k (p ∷ g) (inr (g, (x, sym (ap (object_there objects) h.walked.here) ∙ there, answered), refl, parts)));
      placed = h.placed.1;
    })

  -- if the cursor is on no object, the walk is at its end, and all of `s` is divided into kept members and removed members
  pub retains_all : (ahead : List Place) → Retains n table Trace objects tells start s now ahead → object_there objects now.position ≡ None
      → (kept gone : List Place) × Parts (TellsOf objects tells) s kept gone × Represents n (table now.links) now.head kept × Trace start now.links (releases_each gone)
  retains_all [] h over =
      (h.after, h.gone, rw (append-nil h.after, append-nil h.gone) at (h.parted [] [] (refl, refl)), rw (append-nil h.after) at h.walked.shown, h.walked.steps)
  retains_all (p ∷ rest) h over = absurd (true≢false (sym h.placed.0 ∙ ap is_some (sym (ap (object_there objects) h.walked.here) ∙ over)))
