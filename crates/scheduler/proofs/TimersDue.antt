-- Lemmas about timers that are due and are removed, and about timers that still wait.
use Rattle.std.proofs.Common.{◌≡◌, ℕ, ◌≤◌, ◌<◌, Bool, false, Option, Some, None, IfSome, List, [], ◌∷◌, sym, ap, ◌∙◌, arith, subst, leb, true, ◌++◌, length, drop, refl, append_assoc, append-nil, nat_cmp}
use Rattle.std.proofs.lemmas.Bool.Decides.{nat_tests}
use Rattle.std.specs.List.{AllByRecursion}
use Rattle.ic_link_ops.specs.Prelude.{Place, Objects, first, at_front, IsAbsent, Table, ChangesOnlyIn, IsCovered, object_there, CursorState, RepresentsAt, ArePlaced, values_at, LinkStep, releases, releases_each, RemovesThere, Removes}
use Rattle.ic_link_ops.proofs.Prelude.{all_map, all_both, some_same, absent_right, first_is, one_sequence, releases_append}
use Rattle.ic_rbtree.specs.Prelude.{IsSorted, if_passes, key_at, keys_at, members}
use Rattle.scheduler.specs.Timers.{due, is_due, ComesFirst}
use Rattle.ic_rbtree.proofs.Passing.{passed}
use Rattle.ic_rbtree.proofs.SortedKeys.{first_is_least}
use Rattle.ic_link_ops.specs.RedBlackTree.{Node, Represents}
use Rattle.ic_link_ops.proofs.Covering.{frames_join}
use Rattle.ic_rbtree.proofs.Members.{members_represented}

module _ {T : Type 0} (deadline : T → ℕ) (objects : Objects T) where
  -- if the first member is due and is removed, then its deadline is the earliest of all members
  pub taken_earliest : (now : ℕ) (s : List Place) (o : Option Place) → o ≡ if_passes (is_due deadline objects now) (first s) → IsSorted nat_cmp (keys_at deadline objects s)
      → IfSome o (λ p. AllByRecursion (λ q. key_at deadline objects p ≤ key_at deadline objects q) s)
  taken_earliest now s None is sorted = tt
  taken_earliest now [] (Some p) is sorted = tt
  taken_earliest now (x ∷ s) (Some p) is sorted =
      subst (λ (y : Place). AllByRecursion (λ q. key_at deadline objects y ≤ key_at deadline objects q) (x ∷ s)) (sym (some_same (passed (is_due deadline objects now) (Some x) p is).0))
      (omega arith, first_is_least (key_at deadline objects) x s sorted)

  -- if the first timer is not due, or if there is no timer, then the deadlines of all timers are later than `now`
  pub all_wait : (now : ℕ) (s : List Place) {b : Bool} {x : Option T} → b ≡ due deadline now x → x ≡ object_there objects (first s) → b ≡ false → ArePlaced objects s
      → IsSorted nat_cmp (keys_at deadline objects s) → AllByRecursion (λ q. now < key_at deadline objects q) s
  all_wait now [] tested there told placed sorted = tt
  all_wait now (p ∷ s) tested there told placed sorted =
      let here : now < key_at deadline objects p = grind (arith, nat_tests, placed.0, tested, there, told) in
      (here, all_map (λ q low. omega (arith, here, low)) s (first_is_least (key_at deadline objects) p s sorted))

  -- NO VALUE IS DUE if the deadlines of all members are later than `now`
  pub values_wait : (now : ℕ) (s : List Place) → AllByRecursion (λ p. now < key_at deadline objects p) s → AllByRecursion (λ x. leb (deadline x) now ≡ false) (values_at objects s)
  values_wait now [] wait = tt
  values_wait now (p ∷ s) wait = let rest = values_wait now s wait.1 in grind (arith, nat_tests, wait.0)

module _ {L E : Type 0} {n : E → Node} {table : L → Table E} {Trace : L → L → List LinkStep → Type 0} {old new : CursorState L (Option Place)} {s : List Place} where
  -- if the cursor is on the first member and the member is removed, then the cursor is on the member that is first afterwards
  pub first_again : RepresentsAt (Represents n) table old s → old.position ≡ first s → (o : Option Place) → RemovesThere (Represents n) table Trace old o new
      → (u : List Place) → RepresentsAt (Represents n) table new u → new.position ≡ first u
  first_again shown is None off u here =
      ap (λ (z : CursorState L (Option Place)). z.position) off.null ∙ is ∙ ap first (one_sequence shown (subst (λ (z : CursorState L (Option Place)). RepresentsAt (Represents n) table z u) off.null here))
  first_again shown is (Some p) off u here =
      off.moved (at_front s) shown is ∙ ap first (one_sequence (off.removed (at_front s) shown is).shows here)

module _ {T L E : Type 0} (deadline : T → ℕ) (n : E → Node) (table : L → Table E) (Trace : L → L → List LinkStep → Type 0) (objects : Objects T) (now : ℕ) where
  -- The table `start` represented `s`. The timers `taken` were removed from the front of `s` and appended to `items`, which gives `held`. The table `links`
  -- represents the others, which are `rest`
  pub record Takes (start : L) (s items : List Place) (links : L) (root : Option Place) (held : List Place) : Type 0 where
    pub taken : List Place
    pub rest : List Place
    pub stood : ComesFirst deadline objects now taken rest s
    pub held_is : held ≡ items ++ taken
    pub shown : Represents n (table links) root rest
    pub steps : Trace start links (releases_each taken)
    pub frame : ChangesOnlyIn (table start) (table links) s

module _ {T L E : Type 0} {deadline : T → ℕ} {n : E → Node} {table : L → Table E} {Trace : L → L → List LinkStep → Type 0} {objects : Objects T} {now : ℕ} {start : L} {s items : List Place} where
  -- at the beginning, no timer was removed
  pub takes_none : {root : Option Place} → Trace start start [] → Represents n (table start) root s → Takes deadline n table Trace objects now start s items start root items
  takes_none nothing shown = record {
    taken = [];
    rest = s;
    stood = record { same = refl; are_due = tt };
    held_is = sym (append-nil items);
    shown = shown;
    steps = nothing;
    frame = record { extent = refl; others = λ q out. refl };
  }

  module _ {links : L} {root : Option Place} {held : List Place} (k : Takes deadline n table Trace objects now start s items links root held) {p : Place} (is : Some p ≡ if_passes (is_due deadline objects now) (first k.rest)) where
    -- if the search for a due timer found the place `p`, then the remaining timers begin with `p`
    pub next_due : k.rest ≡ p ∷ drop 1 k.rest
    next_due = first_is k.rest (passed (is_due deadline objects now) (first k.rest) p is).0

    -- if the first of the remaining timers is due and is removed, then it is the last of the removed timers
    pub takes_one : ((a b c : L) (u v : List LinkStep) → Trace a b u → Trace b c v → Trace a c (u ++ v)) → {new : L} {new_root : Option Place} {new_held : List Place}
        → new_held ≡ held ++ p ∷ [] → Removes (Represents n) (table links) (table new) new_root (at_front k.rest) → Trace links new (releases p ∷ []) → Takes deadline n table Trace objects now start s items new new_root new_held
    takes_one on {new} held_is removes step =
        let due = (passed (is_due deadline objects now) (first k.rest) p is).1 in
        let here : key_at deadline objects p ≤ now = grind (arith, nat_tests, due) in
        record {
          taken = k.taken ++ p ∷ [];
          rest = drop 1 k.rest;
          stood = record {
            same = append_assoc k.taken (p ∷ []) (drop 1 k.rest) ∙ ap (λ (x : List Place). k.taken ++ x) (sym next_due) ∙ k.stood.same;
            are_due = all_both (λ q. key_at deadline objects q ≤ now) k.taken (p ∷ []) k.stood.are_due (here, tt);
          };
          held_is = held_is ∙ ap (λ (x : List Place). x ++ p ∷ []) k.held_is ∙ append_assoc items k.taken (p ∷ []);
          shown = removes.shows;
          steps = subst (Trace start new) (sym (releases_append k.taken (p ∷ []))) (on start links new _ _ k.steps step);
          frame = frames_join k.frame removes.frame (λ q out. absent_right q k.taken k.rest (subst (IsAbsent q) (sym k.stood.same) out));
        }

    -- after the first of the remaining timers was removed, fewer timers remain
    pub fewer : ((l : L) (q : Place) → (n ((table l).entry q)).linked ≡ true → IsCovered (table l) q) → {new : L} {new_root : Option Place}
        → Removes (Represents n) (table links) (table new) new_root (at_front k.rest) → length (members n (table new) new_root) < length (members n (table links) root)
    fewer covered {new} {new_root} removes =
        let after = members_represented (table new) (covered new) new_root (drop 1 k.rest) removes.shows in
        let before = members_represented (table links) (covered links) root k.rest k.shown in
        omega (arith, ap length after, ap length before, ap length next_due)
