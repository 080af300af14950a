-- From the steps of a run it follows that each call is lawful, and that the whole run keeps the order of insertion.
use Rattle.std.proofs.Common.{List, [], ◌∷◌, ◌++◌, Result, Ok, Err, OnOk, OnErr, refl, sym, subst, ◌∙◌, Ordering}
use Rattle.std.specs.Cmp.{IsTotalOrder}
use Rattle.ic_link_ops.proofs.SequenceLemmas.{some_same}
use Rattle.ic_world.specs.declared.call.Command.{Command}
use Rattle.ic_world.specs.Prelude.{Reply, Family, Sequence, IsSound, Step, Runs}
use Rattle.ic_world_laws.specs.Sorted.{IsSortedIn}
use Rattle.ic_world_laws.specs.InsertionOrder.{insertion_order_after, KeepsInsertionOrder, StaysSorted, RunKeepsInsertionOrder}
use Rattle.ic_world_laws.specs.Runs.{IsLawful, AreLawful}
use Rattle.ic_world_laws.proofs.StepLaws.{refused_stays, insert_refused, looks_few}
use Rattle.ic_world_laws.proofs.SortedLaws.{finds_first, finds_end, is_within_both, goes_after}
use Rattle.ic_world_laws.proofs.KeepsSound.{keeps_sound}
use Rattle.ic_world_laws.proofs.KeepsOrder.{sound_placed, keeps_order, starts_in_order}

-- TWO LISTS OF LAWFUL CALLS, of which the second begins where the first ends, are one list of lawful calls
module _ {A V K : Type 0} (cmp : K → K → Ordering) (key_of : A → V → K) where
  pub join_lawful : (old : Family A V) (cs : List (Command V K)) (rs : List Reply) (mid : Family A V) (ds : List (Command V K)) (ss : List Reply) (new : Family A V)
      → AreLawful cmp key_of old cs rs mid → AreLawful cmp key_of mid ds ss new → AreLawful cmp key_of old (cs ++ ds) (rs ++ ss) new
  join_lawful old [] [] mid ds ss new a b = subst (λ w. AreLawful cmp key_of w ds ss new) a b
  join_lawful old (c ∷ cs) (r ∷ rs) mid ds ss new a b = (a.0, a.1, join_lawful a.0 cs rs mid ds ss new a.2 b)
  join_lawful old [] (r ∷ rs) mid ds ss new a b = absurd a
  join_lawful old (c ∷ cs) [] mid ds ss new a b = absurd a

module _ {A V K : Type 0} {cmp : K → K → Ordering} (total : IsTotalOrder cmp) (key_of : A → V → K) where
  -- an orderly call leaves a sorted collection sorted, because the members of a sorted collection are an insertion order of it
  pub stays_sorted : (old : Family A V) → IsSound old → (command : Command V K) (reply : Reply) (new : Family A V) → Step cmp key_of old command reply new → StaysSorted cmp key_of old command new
  stays_sorted old sound command reply new step c s is sorted orderly t is_t =
      let after = keeps_order total key_of old sound command reply new step c s.members (s, is, (sorted, (λ p. ((λ h. h), (λ h. h))), (λ key. refl))) orderly in
      subst (λ (x : Sequence). IsSortedIn cmp key_of new x.members) (some_same (sym after.1 ∙ is_t)) after.2.0

  pub is_lawful : (old : Family A V) → IsSound old → (command : Command V K) (reply : Reply) (new : Family A V) → Step cmp key_of old command reply new → IsLawful cmp key_of old command reply new
  is_lawful old sound command reply new step = record {
    step = step;
    sound = keeps_sound old sound new cmp key_of command reply step;
    refused_changes_nothing = λ r is. refused_stays cmp key_of command old new reply r step is;
    insert_is_refused_if_linked = insert_refused cmp key_of command old new reply step;
    looks_are_few = looks_few cmp key_of command old new reply step;
    key_is_found_first = finds_first total key_of old (sound_placed old sound) command new reply step;
    bound_is_found_at_its_end = finds_end total key_of old (sound_placed old sound) command new reply step;
    range_is_within_both = is_within_both total key_of old (sound_placed old sound) sound.apart command new reply step;
    insert_goes_after = goes_after total key_of old (sound_placed old sound) command new reply step;
    stays_sorted = stays_sorted old sound command reply new step;
    keeps_order = keeps_order total key_of old sound command reply new step;
    starts_in_order = starts_in_order total key_of old command reply new step;
  }

  -- ALL CALLS OF A RUN from a sound family are lawful
  pub are_lawful : (old : Family A V) → IsSound old → (commands : List (Command V K)) (replies : List Reply) (new : Family A V) → Runs cmp key_of old commands replies new
      → AreLawful cmp key_of old commands replies new
  are_lawful old sound [] [] new run = run
  are_lawful old sound (command ∷ commands) (reply ∷ replies) new run =
      let lawful = is_lawful old sound command reply run.0 run.1 in
      (run.0, lawful, are_lawful run.0 lawful.sound commands replies new run.2)
  are_lawful old sound [] (reply ∷ replies) new run = absurd run
  are_lawful old sound (command ∷ commands) [] new run = absurd run

  -- a list of lawful calls keeps the order of insertion in each collection for which the calls are orderly
  pub keep_order : (old : Family A V) (commands : List (Command V K)) (replies : List Reply) (new : Family A V) → AreLawful cmp key_of old commands replies new → RunKeepsInsertionOrder cmp key_of old commands replies new
  keep_order old [] [] new run = λ c insertion_order stands orderly. subst (λ w. KeepsInsertionOrder cmp key_of w c insertion_order) (sym run) stands
  keep_order old (command ∷ commands) (reply ∷ replies) new run = λ c insertion_order stands orderly.
      keep_order run.0 commands replies new run.2 c (insertion_order_after c command reply insertion_order) (run.1.keeps_order c insertion_order stands orderly.0) (orderly.1 run.0 run.1.step)
  keep_order old [] (reply ∷ replies) new run = absurd run
  keep_order old (command ∷ commands) [] new run = absurd run

  -- the family after a list of lawful calls is sound, if the first family is sound
  pub last_sound : (old : Family A V) → IsSound old → (commands : List (Command V K)) (replies : List Reply) (new : Family A V) → AreLawful cmp key_of old commands replies new → IsSound new
  last_sound old sound [] [] new run = subst IsSound (sym run) sound
  last_sound old sound (command ∷ commands) (reply ∷ replies) new run = last_sound run.0 run.1.sound commands replies new run.2
  last_sound old sound [] (reply ∷ replies) new run = absurd run
  last_sound old sound (command ∷ commands) [] new run = absurd run

-- R follows from a result r, if R follows from what a success ensures and from what an error ensures
pub of_result : {X E P Q R : Type 0} (r : Result X E) → (P → R) → (Q → R) → OnOk r P → OnErr r Q → R
of_result (Ok x) f g p q = f p
of_result (Err e) f g p q = g q

pub on_ok : {X E P Q : Type 0} (r : Result X E) → (P → Q) → OnOk r P → OnOk r Q
on_ok (Ok x) f p = f p
on_ok (Err e) f p = p
