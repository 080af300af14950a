-- Lemmas about the waiting timers after each step of a call.
use Rattle.std.proofs.Common.{◌≡◌, ◌≢◌, ℕ, ◌^◌, leb, ◌<◌, true, false, Option, Some, None, IsSome, is_some, List, [], ◌∷◌, ◌++◌, map, drop, arith, append_assoc, append-nil, inl, inr, refl, sym, ap, subst, ◌∙◌, true≢false, nat_cmp}
use Rattle.std.proofs.lemmas.Bool.Decides.{leb_tells}
use Rattle.std.proofs.lemmas.List.{map_push}
use Rattle.std.proofs.lemmas.List.Elements.{filter_map-append}
use Rattle.std.specs.List.{AllByRecursion, cons_option}
use Rattle.ic_link_ops.specs.Prelude.{Place, Objects, Places, Frees, object_at, is_placed, first, IsAbsent, IsDistinct, values_at}
use Rattle.ic_link_ops.proofs.Prelude.{placed_there, others_placed, others_left, all_both, vacant_absent, distinct_middle, first_is}
use Rattle.ic_pool.specs.Pooled.{Grows}
use Rattle.ic_rbtree.specs.Prelude.{IsSorted, if_passes, TreeLinkOps, plain_table, members_of, key_at, key_or}
use Rattle.ic_rbtree.proofs.Passing.{passed}
use Rattle.ic_container.specs.Trees.{HasAll, PutsInOrder}
use Rattle.ic_container.specs.Values.{Without}
use Rattle.ic_container.proofs.TreeLemmas.{all_distinct, all_stand, all_values, members_grown}
use Rattle.scheduler.specs.Timers.{due, is_due}
use Rattle.pool_uses.specs.declared.timers.Timer.{Timer}
use Rattle.pool_uses.specs.KeptTimers.{deadline_of, waiting_of, waiting_at, waiting_in, timetable_of}
use Rattle.pool_uses.specs.Timers.{Waiting, timer_of, deadlines, NamesNone, Adds, Cancels, TakesFirst, TakesAll, taken_out}

module _ {V : Type 0} (objects : Objects (Timer V)) where
  -- the timers at the members of a sequence that is divided in two are the timers of the first part and then those of the second part
  waiting_join : (front back : List Place) → waiting_at objects (front ++ back) ≡ waiting_at objects front ++ waiting_at objects back
  waiting_join front back = filter_map-append (λ p. waiting_of p (object_at objects p)) front back

  waiting_split : (front : List Place) (p : Place) (back : List Place) {timer : Timer V} → object_at objects p ≡ Some timer
      → waiting_at objects (front ++ p ∷ back) ≡ waiting_at objects front ++ timer_of p timer.deadline timer.value ∷ waiting_at objects back
  waiting_split front p back there = waiting_join front (p ∷ back) ∙ rw there refl

  -- the deadlines of the waiting timers at the places of `s` are the deadlines of the timer objects at these places
  deadlines_are : (s : List Place) → deadlines (waiting_at objects s) ≡ map deadline_of (values_at objects s)
  deadlines_are [] = refl
  deadlines_are (p ∷ s) = let rest = deadlines_are s in grind arith

  -- if `P` holds of each member and implies `Q` of the timer at the member, then `Q` holds of each waiting timer
  all_waiting : (P : Place → Type 0) (Q : Waiting V → Type 0) → ((p : Place) (timer : Timer V) → object_at objects p ≡ Some timer → P p → Q (timer_of p timer.deadline timer.value))
      → (s : List Place) → AllByRecursion P s → AllByRecursion Q (waiting_at objects s)
  all_waiting P Q says [] h = tt
  all_waiting P Q says (p ∷ s) h = by (object_at objects p) refl (all_waiting P Q says s h.1) where
    by : (o : Option (Timer V)) → object_at objects p ≡ o → AllByRecursion Q (waiting_at objects s) → AllByRecursion Q (cons_option (waiting_of p o) (waiting_at objects s))
    by None e rest = rest
    by (Some timer) e rest = (says p timer e h.0, rest)

  -- if the deadlines at all members are later than `d`, then the deadlines of all waiting timers at these members are later than `d`
  pub all_later : (d : ℕ) (s : List Place) → AllByRecursion (λ p. d < key_at deadline_of objects p) s → AllByRecursion (λ (w : Waiting V). d < w.deadline) (waiting_at objects s)
  all_later d = all_waiting (λ p. d < key_at deadline_of objects p) (λ w. d < w.deadline) (λ p timer e h. subst (λ (o : Option (Timer V)). d < key_or deadline_of o) e h)

waiting_beside : {V : Type 0} (old new : Objects (Timer V)) (p : Place) → ((q : Place) → q ≢ p → object_at new q ≡ object_at old q) → (s : List Place) → IsAbsent p s → waiting_at new s ≡ waiting_at old s
waiting_beside old new p same [] out = refl
waiting_beside old new p same (x ∷ s) out = let here = same x (λ e. out.0 (sym e)) in let rest = waiting_beside old new p same s out.1 in rw (here, rest) refl

module _ {V A : Type 0} {objects : Objects (Timer V)} {links : TreeLinkOps A} {root : Option Place} (a : HasAll deadline_of links root objects) where
  abbrev members : List Place
  members = members_of links root

  -- AFTER THE CALL `place`, the tables may have grown, and the waiting timers are the same
  pub same_grown : (grown : TreeLinkOps A) → Grows (plain_table links) (plain_table grown) → timetable_of objects grown root ≡ timetable_of objects links root
  same_grown grown grows = ap (λ (s : List Place). record { waiting = waiting_at objects s; is_full = leb (2 ^ 32) objects.next }) (members_grown deadline_of objects a grown grows)

  -- THE DEADLINES of the waiting timers never decrease
  pub rises : IsSorted nat_cmp (deadlines (waiting_in objects links root))
  rises = subst (IsSorted nat_cmp) (sym (deadlines_are objects members ∙ ap (map deadline_of) (all_values deadline_of objects a))) a.each.sorted.sorted

  -- A PLACE WITHOUT A TIMER is the reference of no waiting timer
  pub vacant_named : (p : Place) → is_placed objects p ≡ false → NamesNone p (waiting_in objects links root)
  vacant_named p none =
      all_waiting objects (λ q. IsSome (object_at objects q)) (λ w. p ≢ w.reference) (λ q timer there here same. true≢false (sym (ap (is_placed objects) same ∙ ap is_some there) ∙ none)) members (all_stand deadline_of objects a)

  -- ONE TIMER IS REMOVED from between the timers `front` and `back`, and all other timers wait in their order
  module _ {p : Place} {timer : Timer V} (front back : List Place) (was : members_of links root ≡ front ++ p ∷ back) (there : object_at objects p ≡ Some timer) {less : Objects (Timer V)} (frees : Frees objects less p) where
    were : waiting_in objects links root ≡ waiting_at objects front ++ timer_of p timer.deadline timer.value ∷ waiting_at objects back
    were = ap (waiting_at objects) was ∙ waiting_split objects front p back there

    left : waiting_at less (front ++ back) ≡ waiting_at objects front ++ waiting_at objects back
    left = waiting_beside objects less p (others_left frees) (front ++ back) (distinct_middle front back p (subst IsDistinct was (all_distinct deadline_of objects a))) ∙ waiting_join objects front back

  -- THE TIMER AT THE PLACE `p` IS CANCELED, and all other timers still wait
  pub cancels : {p : Place} {timer : Timer V} {less : Objects (Timer V)} (after : TreeLinkOps A) (top : Option Place) → object_at objects p ≡ Some timer → Frees objects less p → Without p (members_of links root) (members_of after top)
      → Cancels (timer_of p timer.deadline timer.value) (waiting_in objects links root) (waiting_in less after top)
  cancels {less = less} after top there frees w = record {
    front = waiting_at objects w.front;
    back = waiting_at objects w.back;
    was = were w.front w.back w.was there frees;
    is = ap (waiting_at less) w.is ∙ left w.front w.back w.was there frees;
  }

  -- THE FIRST TIMER IS REMOVED because it is due
  pub first_due : (now : ℕ) {p : Place} → Some p ≡ if_passes (is_due deadline_of objects now) (first (members_of links root)) → (Some p ≡ first (members_of links root)) × is_due deadline_of objects now p ≡ true
  first_due now {p} due = passed (is_due deadline_of objects now) (first members) p due

  pub takes_first : (now : ℕ) {p : Place} {timer : Timer V} {less : Objects (Timer V)} (after : TreeLinkOps A) (top : Option Place) → object_at objects p ≡ Some timer → Frees objects less p
      → Some p ≡ first (members_of links root) → is_due deadline_of objects now p ≡ true → members_of after top ≡ drop 1 (members_of links root)
      → TakesFirst now timer.deadline timer.value (waiting_in objects links root) (waiting_in less after top)
  takes_first now {p} {timer} {less} after top there frees is is_now rest = record {
    reference = p;
    first = were [] (drop 1 members) (first_is members is) there frees
        ∙ ap (λ (l : List (Waiting V)). timer_of p timer.deadline timer.value ∷ l) (sym (ap (waiting_at less) rest ∙ left [] (drop 1 members) (first_is members is) there frees));
    due = elim (leb_tells timer.deadline now) [ inl h ↦ h.1 | inr h ↦ absurd (true≢false (sym is_now ∙ ap (due deadline_of now) there ∙ h.0)) ];
  }

  -- A NEW TIMER WAITS: it is inserted into the tree in the order of deadlines
  pub adds : (grown : TreeLinkOps A) → Grows (plain_table links) (plain_table grown) → {new : Objects (Timer V)} {p : Place} {timer : Timer V} → Places objects new p timer
      → (after : TreeLinkOps A) (top : Option Place) → IsSorted nat_cmp (deadlines (waiting_in new after top)) → PutsInOrder deadline_of new (members_of grown root) (members_of after top) p
      → Adds (timer_of p timer.deadline timer.value) (waiting_in objects links root) (waiting_in new after top)
  adds grown grows {new} {p} {timer} places after top rises puts = record {
    front = waiting_at new puts.front;
    back = waiting_at new puts.back;
    was = sym (waiting_beside objects new p (others_placed places) members (vacant_absent objects p places.vacant members (all_stand deadline_of objects a)))
        ∙ ap (waiting_at new) (sym (members_grown deadline_of objects a grown grows) ∙ puts.was) ∙ waiting_join new puts.front puts.back;
    is = ap (waiting_at new) puts.is ∙ waiting_split new puts.front p puts.back (placed_there places);
    later = all_later new timer.deadline puts.back (subst (λ (o : Option (Timer V)). AllByRecursion (λ q. key_or deadline_of o < key_at deadline_of new q) puts.back) (placed_there places) puts.later);
    rises = rises;
    fresh = vacant_named p (ap is_some places.vacant);
  }

-- TIMERS THAT ARE DUE are removed one after the other
module _ {V : Type 0} {now : ℕ} {had : List (ℕ × V)} where
  -- at the beginning, no timer is removed
  pub takes_none : (start : List (Waiting V)) → TakesAll now had had start start
  takes_none start = record { taken = []; were = refl; due = tt; out = sym (append-nil had) }

  -- if the first timers were removed because they were due, and then the first of the others is removed because it is due, then `TakesAll` holds of all
  -- removed timers
  pub takes_one : {has more : List (ℕ × V)} {start old new : List (Waiting V)} {deadline : ℕ} {value : V} → TakesAll now had has start old → TakesFirst now deadline value old new
      → more ≡ has ++ (deadline, value) ∷ [] → TakesAll now had more start new
  takes_one {new = new} {deadline} {value} k one is =
      let timer : Waiting V = timer_of one.reference deadline value in
      record {
        taken = k.taken ++ timer ∷ [];
        were = k.were ∙ ap (λ (l : List (Waiting V)). k.taken ++ l) one.first ∙ sym (append_assoc k.taken (timer ∷ []) new);
        due = all_both _ k.taken (timer ∷ []) k.due (one.due, tt);
        out = is ∙ ap (λ (l : List (ℕ × V)). l ++ (deadline, value) ∷ []) k.out ∙ append_assoc had (taken_out k.taken) ((deadline, value) ∷ [])
            ∙ ap (λ (l : List (ℕ × V)). had ++ l) (sym (map_push (λ (w : Waiting V). (w.deadline, w.value)) k.taken timer));
      }
