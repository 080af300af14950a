use Rattle.std.proofs.Common.{◌≡◌, Option, Some, None, List, [], ◌∷◌, drop, length, refl, sym, ap, ◌∙◌, arith}
use Rattle.ic_link_ops.specs.Prelude.{Place, first, last, Table, releases_each}
use Rattle.ic_link_ops.specs.StepLaws.{replays_on}
use Rattle.ic_link_ops.specs.XorLinkedList.{IsJoined}
use Rattle.ic_link_ops.proofs.Clearing.{Releases, releases_none, releases_more, releases_all, next_between}
use Rattle.ic_link_ops.proofs.Prelude.{last_of_push, releases_append, each_unlinked, unlinks_only}
use Rattle.ic_link_ops.proofs.XorLists.{represented_length}
use Rattle.ic_raw.specs.declared.words.RawOne.{RawOne}
use Rattle.ic_raw.specs.Prelude.{is_linked_one, HasNeighbors, other}
use Rattle.ic_raw.specs.Singly.{lent_table}
use Rattle.ic_raw.proofs.Gaps.{never}
use Rattle.ic_raw.proofs.Singly.{covered}
use Rattle.ic_raw.proofs.Views.{unlinks_none}
use Rattle.ic_raw.proofs.Xor.{other_after, unlinks_more}
use Rattle.ic_raw.proofs.xor_list.release_all.Goals as goal

-- the word of the member p and the place before p name the place after p. This place is the member after p in the sequence
after : {old new : Table RawOne} {s : List Place} {p : Place} {prev next : Option Place}
    → (k : Releases (IsJoined is_linked_one HasNeighbors) old new s (Some p)) → prev ≡ last k.done → next ≡ other (new.entry p) prev → next ≡ first (drop 1 k.rest)
after {new = new} {p} k prev next = next ∙ rw prev (other_after (new.entry p) _ _ (next_between k).joined)

-- if no member is left, `at` is none
none_left : {old new : Table RawOne} {s : List Place} {at : Option Place} (k : Releases (IsJoined is_linked_one HasNeighbors) old new s at) → length k.rest ≡ 0 → at ≡ None
none_left k none = k.at ∙ nothing k.rest none where
  nothing : (rest : List Place) → length rest ≡ 0 → first rest ≡ None
  nothing [] e = refl
  nothing (x ∷ rest) e = absurd (omega (arith, e))

pub loop-left-init : goal.loop-left-init
unfolding releases_none
loop-left-init c = record {
  marks = unlinks_none (lent_table c.args.links.now);
  released = λ s shown.
      (releases_none shown.chain (c.first-at.ensures ∙ shown.head), refl, (λ q. refl), rw c.places-left.ensures (represented_length (lent_table c.args.links.now) (covered c.args.links.now) shown));
}

pub returns-in_default-clause-cleared : goal.returns-in_default-clause-cleared
returns-in_default-clause-cleared c s shown =
    let was = c.loop-left.invariant.released s shown in
    let all = rw (releases_all was.0 c.in_default.is) at was.2 in record {
      unlinked = λ p is. each_unlinked is_linked_one s (lent_table c.args.links.now) (lent_table c.loop-left.links) p all is;
      frame = record { extent = c.loop-left.invariant.marks.extent; others = was.0.others };
    }

pub returns-then-not-is_linked-clause-cleared : goal.returns-then-not-is_linked-clause-cleared
returns-then-not-is_linked-clause-cleared c s shown =
    let was = rw c.in-Some.is at (c.loop-left.invariant.released s shown) in
    absurd (never c.if-not-is_linked.true (c.is_linked.ensures ∙ (next_between was.0).linked))

pub returns-clause-cleared : goal.returns-clause-cleared
returns-clause-cleared c s shown =
    let was = c.loop-left.invariant.released s shown in
    let none = none_left was.0 (omega (arith, was.3, c.loop-left-test.false)) in
    let all = rw (releases_all was.0 none) at was.2 in record {
      unlinked = λ p is. each_unlinked is_linked_one s (lent_table c.args.links.now) (lent_table c.loop-left.links) p all is;
      frame = record { extent = c.loop-left.invariant.marks.extent; others = was.0.others };
    }

pub loop-left-preserved : goal.loop-left-preserved
loop-left-preserved c = record {
  marks = unlinks_more c.loop-left.invariant.marks (sym c.is_linked.ensures ∙ c.if-not-is_linked.false) c.unlink.ensures.frame c.unlink.ensures.word;
  released = λ s shown.
      let was = rw c.in-Some.is at (c.loop-left.invariant.released s shown) in
      let next = after was.0 was.1 c.next-at.ensures in
      let more = releases_more {new' = lent_table c.unlink.new.links} shown.distinct was.0 c.unlink.ensures.frame.others next in
      let off = unlinks_only (sym c.is_linked.ensures ∙ c.if-not-is_linked.false) (ap is_linked_one c.unlink.ensures.word) c.unlink.ensures.frame in
      let steps = replays_on is_linked_one (releases_each was.0.done) (releases_each (c.in-Some.member ∷ [])) (lent_table c.args.links.now) (lent_table c.loop-left.links)
      (lent_table c.unlink.new.links) was.2 off in
      (more.0, sym (ap last more.2 ∙ last_of_push was.0.done c.in-Some.member), rw (more.2, releases_append was.0.done (c.in-Some.member ∷ [])) steps, omega (arith, was.3, ap length more.1));
}
