-- Lemmas which say that each call of a queue maintains a list whose members have the waiting jobs.
use Rattle.std.proofs.Common.{◌≡◌, ◌^◌, leb, None, Some, List, [], ◌∷◌, drop, refl, sym, ap, subst, ◌∙◌, arith, Result, Ok, Err, IfErr, IsErr, IsErrAnd}
use Rattle.std.proofs.lemmas.Bool.{false_from_ne_true}
use Rattle.ic_link_ops.specs.Prelude.{Place, Objects, Frees, object_at, first, Unlinks, values_at, Ends, no_members}
use Rattle.ic_link_ops.specs.DoublyEntries.{DoublyLinkOps, is_linked, neighbors_of, plain_table, PlainRepresents}
use Rattle.ic_link_ops.proofs.DoublyLists.{plain_covered, plain_lists, plain_members}
use Rattle.ic_link_ops.proofs.PlacedValues.{stand_first}
use Rattle.ic_linked_list.specs.ListedValues.{HasValues}
use Rattle.ic_linked_list.proofs.ListedValues.{has_taken}
use Rattle.job_queue.specs.declared.queue.Job.{Job}
use Rattle.job_queue.specs.Kept.{Jobs, jobs_of, queue_of, IsKept}

-- the members of the list have the given jobs, in order
abbrev pub Has : {A : Type 0} → Objects Job → DoublyLinkOps A → Ends → List Job → Type 0
Has objects links list jobs = HasValues neighbors_of is_linked (plain_table links) list objects jobs

module _ {A : Type 0} (links : DoublyLinkOps A) {objects : Objects Job} {list : Ends} {jobs : List Job} where
  -- THE WAITING JOBS are the given jobs if the members of the list have these jobs
  pub jobs_are : Has objects links list jobs → jobs_of objects links list ≡ jobs
  jobs_are has = ap (values_at objects) (plain_members links has.shown) ∙ has.are

  pub queue_is : Has objects links list jobs → queue_of objects links list ≡ record { waiting = jobs; is_full = leb (2 ^ 32) objects.next }
  queue_is has = ap (λ (waiting : List Job). let queue : Jobs = record { waiting = waiting; is_full = leb (2 ^ 32) objects.next } in queue) (jobs_are has)

  pub kept : Has objects links list jobs → IsKept objects links list
  kept has = subst (Has objects links list) (sym (jobs_are has)) has

-- NO JOB WAITS if there is no object, the table is empty and the list has no members
pub has_nothing : {A : Type 0} (objects : Objects Job) (links : DoublyLinkOps A) (list : Ends) → ((p : Place) → object_at objects p ≡ None) → (plain_table links).extent.places ≡ 0
    → list ≡ no_members → Has objects links list []
has_nothing objects links list vacant none empty = record {
  members = [];
  shown = rw empty (plain_lists.nothing (plain_table links));
  placed = tt;
  are = refl;
  vacant = λ p is. false_from_ne_true _ (λ linked. let within = plain_covered links p linked in absurd (omega (arith, within, none)));
}

module _ {A : Type 0} (links : DoublyLinkOps A) {objects : Objects Job} {list : Ends} (k : IsKept objects links list) where
  -- THE FIRST JOB IS REMOVED, and all other jobs still wait in their order
  pub takes_next : (after : DoublyLinkOps A) {rest : Ends} {left : Objects Job} {p : Place} {job : Job} → ((s : List Place) → PlainRepresents links list s → Some p ≡ first s)
      → ((s : List Place) → PlainRepresents links list s → PlainRepresents after rest (drop 1 s)) → Unlinks is_linked (plain_table links) (plain_table after) p
      → object_at objects p ≡ Some job → Frees objects left p
      → (jobs_of objects links list ≡ job ∷ drop 1 (jobs_of objects links list)) × Has left after rest (drop 1 (jobs_of objects links list))
  takes_next after {p = p} answer removed released there frees =
      let begins = stand_first objects p there (answer k.members k.shown) (record { placed = k.placed; are = k.are }) in
      (begins, (has_taken (λ e. refl) (subst (Has objects links list) begins k) answer removed released refl there frees).1)

-- a call passes on an error, so the result `r` has the error `e`. Therefore, if `P` holds of `e`, it holds of the error in `r`
pub passed_on : {T E : Type 0} (P : E → Type 0) (r : Result T E) {e : E} → IsErr r × IsErrAnd r (λ passed. passed ≡ e) → P e → IfErr r P
passed_on P (Err passed) is p = subst P (sym is.1) p
passed_on P (Ok x) is p = absurd is.1
