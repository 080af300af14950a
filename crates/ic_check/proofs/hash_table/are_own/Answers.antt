use Rattle.std.proofs.Common.{refl, sym, ◌∙◌}
use Rattle.ic_link_ops.proofs.Clearing.{next_between, releases_fewer}
use Rattle.ic_link_ops.proofs.SinglyLists.{successors_covered, members_uncleared}
use Rattle.ic_check.proofs.HashTables.{owns_none, owns_more, owns_there, owns_all}
use Rattle.ic_check.proofs.hash_table.are_own.Goals as goal

pub loop-current-init : goal.loop-current-init
loop-current-init g c = record { owns = λ s shown. owns_none shown.chain shown.head }

pub returns-then-not-is_own : goal.returns-then-not-is_own
returns-then-not-is_own g c s shown =
    let k = rw c.in-Some.is at (c.loop-current.invariant.owns s shown) in
    ((λ never. absurd (cc)), λ all. let own = c.is_own.ensures.1 (owns_there k all) in absurd (cc))

pub next-current-requires : goal.next-current-requires
next-current-requires g c =
    let k = rw c.in-Some.is at (c.loop-current.invariant.owns c.requires.shown.0 c.requires.shown.1) in
    record { linked = sym (g.met.L.SinglyLinkedListOps.linked_alike _) ∙ (next_between k.walk).linked }

pub loop-current-smaller : goal.loop-current-smaller
loop-current-smaller g c =
    let covered = successors_covered g.L.SinglyLinkedListOps.successor g.L.LinkOps.table g.met.L.LinkOps.linked_is_covered g.met.L.SinglyLinkedListOps.linked_alike c.args.links.now in
    let shown = c.requires.shown.1 in
    let k = rw c.in-Some.is at (c.loop-current.invariant.owns c.requires.shown.0 shown) in
    let more = owns_more k shown.distinct (c.is_own.ensures.0 c.if-not-is_own.false) (c.next-current.ensures ∙ (next_between k.walk).next) in
    rw c.in-Some.is
    (releases_fewer (members_uncleared covered shown.distinct k.walk) (members_uncleared covered shown.distinct more.0.walk) more.1)

pub loop-current-preserved : goal.loop-current-preserved
loop-current-preserved g c = record {
  owns = λ s shown.
      let k = rw c.in-Some.is at (c.loop-current.invariant.owns s shown) in
      (owns_more k shown.distinct (c.is_own.ensures.0 c.if-not-is_own.false) (c.next-current.ensures ∙ (next_between k.walk).next)).0;
}

pub returns : goal.returns
returns g c s shown = ((λ yes. owns_all (c.loop-current.invariant.owns s shown) c.in_default.is), λ all. refl)
