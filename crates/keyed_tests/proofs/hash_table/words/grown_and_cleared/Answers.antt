use Rattle.std.proofs.Common.{ℕ, List, map, ap, ◌∙◌, subst, MutBor}
use Rattle.ic_link_ops.specs.Prelude.{Place, place_at, word_of}
use Rattle.ic_hash_table.specs.BucketLaws.{lent_on}
use Rattle.ic_hash_table.specs.Buckets.{AreRewritten}
use Rattle.ic_hash_table.specs.HashTable.{IsRepresented}
use Rattle.ic_hash_table.proofs.Callers.{new_held, held_represented}
use Rattle.ic_hash_table.proofs.KeptBuckets.{emptied_words, zero_fronts}
use Rattle.keyed_tests.proofs.HashTables.{told_either}
use Rattle.keyed_tests.proofs.hash_table.words.grown_and_cleared.Goals as goal

pub with_used-table-requires-clause-empty : goal.with_used-table-requires-clause-empty
with_used-table-requires-clause-empty g c = zero_fronts c.args.words.now c.requires.zero

pub put-requires-clause-held : goal.put-requires-clause-held
put-requires-clause-held g c = new_held _ _ _ _ c.with_used-table.result c.args.objects.now c.with_used-table.ensures.empty

pub clear-requires : goal.clear-requires
clear-requires g c =
    let e = c.grow_one-is_grown.ensures in
    let q = c.put.ensures.held in
    let Represented : Type 0 = (s : List Place) × IsRepresented g.L.SinglyLinkedListOps.successor (λ (words : MutBor (List ℕ)). map place_at words.now) (g.L.LinkOps.table c.grow_one-is_grown.new.links) c.grow_one-is_grown.new.self s in
    record { shown = told_either {Goal = Represented} c.grow_one-is_grown.result (e.holds q.0 q.1) e.full (λ k. (k.members, held_represented k.holds)) (λ same. (q.0, rw (same.0, same.1) (held_represented q.1))) }

pub returns-clause-zero : goal.returns-clause-zero
returns-clause-zero g c =
    let grown = lent_on place_at word_of c.with_used-table.result.buckets c.put.new.table.buckets c.grow_one-is_grown.new.self.buckets c.put.ensures.buckets.rewrites c.grow_one-is_grown.ensures.kept.buckets.rewrites in
    let r = lent_on place_at word_of c.with_used-table.result.buckets c.grow_one-is_grown.new.self.buckets c.clear.new.self.buckets grown c.clear.ensures.kept.chains.buckets.rewrites in
    let was = subst (λ (b : MutBor (List ℕ)). AreRewritten place_at word_of b.now c.clear.new.self.buckets.now) c.with_used-table.ensures.buckets r.1 in
    rw c.into_buckets.ensures (emptied_words _ _ was c.requires.zero c.clear.ensures.empty.none)

pub returns-clause-lent : goal.returns-clause-lent
returns-clause-lent g c =
    let grown = lent_on place_at word_of c.with_used-table.result.buckets c.put.new.table.buckets c.grow_one-is_grown.new.self.buckets c.put.ensures.buckets.rewrites c.grow_one-is_grown.ensures.kept.buckets.rewrites in
    let r = lent_on place_at word_of c.with_used-table.result.buckets c.grow_one-is_grown.new.self.buckets c.clear.new.self.buckets grown c.clear.ensures.kept.chains.buckets.rewrites in
    ap (λ (b : MutBor (List ℕ)). b.ghost_name) c.into_buckets.ensures ∙ r.0 ∙ ap (λ (b : MutBor (List ℕ)). b.ghost_name) c.with_used-table.ensures.buckets
