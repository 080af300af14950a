use Rattle.std.proofs.Common.{◌≡◌, Some, IsSome, List, [], ◌∷◌, ◌++◌, drop, refl, sym, subst, ◌∙◌}
use denote.Param.Always.{mut_next}
use Rattle.std.specs.Fn.{CalledAt}
use Rattle.ic_link_ops.specs.Prelude.{Place, object_at, ChangesOnlyIn}
use Rattle.ic_link_ops.proofs.Prelude.{all_back, last_of_push, split_member}
use Rattle.ic_link_ops.proofs.SinglyLists.{successors_covered}
use Rattle.ic_hash_table.specs.HashTable.{number, Holds}
use Rattle.ic_hash_table.specs.Retained.{TellsAt}
use Rattle.ic_hash_table.proofs.RetainedMembers.{Retains, retains_none, turn_less, ahead_first, holds_there, holds_after, retains_kept, retains_gone, retains_all}
use Rattle.ic_hash_table.proofs.Callers.{held_represented, represented_is_held}
use Rattle.ic_hash_table.proofs.KeptBuckets.{keeps_buckets}
use Rattle.ic_hash_table.proofs.table.HashTable.retain_by.Goals as goal
use Rattle.ic_hash_table.proofs.table.HashTable.retain_by.Given.{Over}

pub next-at-requires : goal.next-at-requires
next-at-requires g c = let h = c.requires.held in record { stands = (record { front = []; back = h.0 }, h.1, refl) }

pub loop-at-init : goal.loop-at-init
loop-at-init g c = record {
  adapter = refl;
  slots = refl;
  rewrites = g.met.B.BucketRow.rewrites_none c.args.self.now.buckets;
  callable = c.requires.callable;
  each = λ s held. retains_none c.args.keeps.now g.met.L.LinkOps.does_nothing held (c.next-at.ensures (record { front = []; back = s }) held refl);
}

pub next-at-requires-in-Some : goal.next-at-requires-in-Some
next-at-requires-in-Some g c =
    let r = rw c.in-Some.is at (c.loop-at.invariant.each c.requires.held.0 c.requires.held.1) in
    record { stands = (record { front = r.kept ++ c.in-Some.place ∷ []; back = drop 1 r.ahead }, holds_after r, sym (last_of_push r.kept c.in-Some.place)) }

pub value-requires : goal.value-requires
value-requires g c =
    let r = rw c.in-Some.is at (c.loop-at.invariant.each c.requires.held.0 c.requires.held.1) in
    record { placed = (all_back (λ q. IsSome (object_at (g.O.Values.values c.args.objects.now) q)) r.kept (c.in-Some.place ∷ drop 1 r.ahead) (holds_there r).placed).0 }

-- one turn of the loop keeps the member, or removes it from the table
kept : (g : Over) (c : goal.Else-not-keeps g) (s : List Place)
    → Holds g.L.SinglyLinkedListOps.successor (number g.A.HashAdapter.key_of g.A.HashAdapter.hash_of) g.B.BucketRow.fronts (g.L.LinkOps.table c.args.links.now) c.args.self.now (g.O.Values.values c.args.objects.now) s
    → (r : Retains g.L.SinglyLinkedListOps.successor g.L.LinkOps.table g.L.LinkOps.Trace (number g.A.HashAdapter.key_of g.A.HashAdapter.hash_of) g.B.BucketRow.fronts (g.O.Values.values c.args.objects.now) (CalledAt g.F.FnMut)
    c.args.links.now c.loop-at.links c.loop-at.self s (Some c.in-Some.place) c.args.keeps.now c.loop-at.keeps)
    × (more : Retains g.L.SinglyLinkedListOps.successor g.L.LinkOps.table g.L.LinkOps.Trace (number g.A.HashAdapter.key_of g.A.HashAdapter.hash_of) g.B.BucketRow.fronts (g.O.Values.values c.args.objects.now) (CalledAt g.F.FnMut)
    c.args.links.now c.loop-at.links c.loop-at.self s c.next-at-in-Some.result c.args.keeps.now c.keeps.new.self) × (more.ahead ≡ drop 1 r.ahead)
kept g c s held =
    let r = rw c.in-Some.is at (c.loop-at.invariant.each s held) in
    let next = c.next-at-in-Some.ensures (record { front = r.kept ++ c.in-Some.place ∷ []; back = drop 1 r.ahead }) (holds_after r) (sym (last_of_push r.kept c.in-Some.place)) in
    let told : TellsAt (CalledAt g.F.FnMut) (g.O.Values.values c.args.objects.now) c.loop-at.keeps c.in-Some.place c.keeps.result c.keeps.new.self =
    (c.value.result.now, c.value.ensures, record { shown = c.value.result; shows = refl; called = c.keeps.ensures }) in
    let stays = rw c.if-not-keeps.false at told in
    let more = retains_kept r next stays in
    (r, more.0, more.1)

gone : (g : Over) (c : goal.After-drop-new g) (s : List Place)
    → Holds g.L.SinglyLinkedListOps.successor (number g.A.HashAdapter.key_of g.A.HashAdapter.hash_of) g.B.BucketRow.fronts (g.L.LinkOps.table c.args.links.now) c.args.self.now (g.O.Values.values c.args.objects.now) s
    → (r : Retains g.L.SinglyLinkedListOps.successor g.L.LinkOps.table g.L.LinkOps.Trace (number g.A.HashAdapter.key_of g.A.HashAdapter.hash_of) g.B.BucketRow.fronts (g.O.Values.values c.args.objects.now) (CalledAt g.F.FnMut)
    c.args.links.now c.loop-at.links c.loop-at.self s (Some c.in-Some.place) c.args.keeps.now c.loop-at.keeps)
    × (more : Retains g.L.SinglyLinkedListOps.successor g.L.LinkOps.table g.L.LinkOps.Trace (number g.A.HashAdapter.key_of g.A.HashAdapter.hash_of) g.B.BucketRow.fronts (g.O.Values.values c.args.objects.now) (CalledAt g.F.FnMut)
    c.args.links.now c.remove.new.links c.remove.new.self s c.next-at-in-Some.result c.args.keeps.now c.keeps.new.self) × (more.ahead ≡ drop 1 r.ahead)
gone g c s held =
    let r = rw c.in-Some.is at (c.loop-at.invariant.each s held) in
    let next = c.next-at-in-Some.ensures (record { front = r.kept ++ c.in-Some.place ∷ []; back = drop 1 r.ahead }) (holds_after r) (sym (last_of_push r.kept c.in-Some.place)) in
    let told : TellsAt (CalledAt g.F.FnMut) (g.O.Values.values c.args.objects.now) c.loop-at.keeps c.in-Some.place c.keeps.result c.keeps.new.self =
    (c.value.result.now, c.value.ensures, record { shown = c.value.result; shows = refl; called = c.keeps.ensures }) in
    let goes = rw c.if-not-keeps.true at told in
    let e = rw c.new.ensures at c.remove.ensures in
    let holds = holds_there r in
    let yes = (e.answer _ holds).1 (split_member r.kept c.in-Some.place (drop 1 r.ahead)) in
    let more = retains_gone r g.met.L.LinkOps.does_on next goes (e.removed r.kept (drop 1 r.ahead) holds) (rw yes at e.released) (e.kept.chains.frame _ (held_represented holds)) in
    (r, more.0, more.1)

pub loop-at-smaller-then-not-keeps : goal.loop-at-smaller-then-not-keeps
loop-at-smaller-then-not-keeps g c =
    let turn = gone g c c.requires.held.0 c.requires.held.1 in
    rw c.in-Some.is
    (turn_less (successors_covered g.L.SinglyLinkedListOps.successor g.L.LinkOps.table g.met.L.LinkOps.linked_is_covered g.met.L.SinglyLinkedListOps.linked_alike) turn.0 (ahead_first turn.0) turn.1 turn.2)

pub loop-at-preserved-then-not-keeps : goal.loop-at-preserved-then-not-keeps
loop-at-preserved-then-not-keeps g c = record {
  adapter = c.remove.ensures.kept.chains.adapter ∙ c.loop-at.invariant.adapter;
  slots = c.remove.ensures.kept.slots ∙ c.loop-at.invariant.slots;
  rewrites = g.met.B.BucketRow.rewrites_on _ _ _ c.loop-at.invariant.rewrites c.remove.ensures.kept.chains.buckets.rewrites;
  callable = mut_next g.F.FnMut _ _ _ _ _ c.keeps.ensures refl c.loop-at.invariant.callable;
  each = λ s held. (gone g c s held).1;
}

pub loop-at-smaller : goal.loop-at-smaller
loop-at-smaller g c =
    let turn = kept g c c.requires.held.0 c.requires.held.1 in
    rw c.in-Some.is
    (turn_less (successors_covered g.L.SinglyLinkedListOps.successor g.L.LinkOps.table g.met.L.LinkOps.linked_is_covered g.met.L.SinglyLinkedListOps.linked_alike) turn.0 (ahead_first turn.0) turn.1 turn.2)

pub loop-at-preserved : goal.loop-at-preserved
loop-at-preserved g c = record {
  adapter = c.loop-at.invariant.adapter;
  slots = c.loop-at.invariant.slots;
  rewrites = c.loop-at.invariant.rewrites;
  callable = mut_next g.F.FnMut _ _ _ _ _ c.keeps.ensures refl c.loop-at.invariant.callable;
  each = λ s held. (kept g c s held).1;
}

pub returns-clause-asked : goal.returns-clause-asked
returns-clause-asked g c s held = retains_all (rw c.in_default.is at (c.loop-at.invariant.each s held))

pub returns-clause-kept : goal.returns-clause-kept
returns-clause-kept g c =
    let i = c.loop-at.invariant in
    let held = c.requires.held.1 in
    record {
      chains = record {
        adapter = i.adapter;
        buckets = keeps_buckets g.met.B.BucketRow.rewrites_count i.rewrites;
        frame = λ s shown. subst (ChangesOnlyIn (g.L.LinkOps.table c.args.links.now) (g.L.LinkOps.table c.loop-at.links)) (represented_is_held held shown) (i.each c.requires.held.0 held).frame;
      };
      slots = i.slots;
    }
