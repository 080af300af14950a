use Rattle.std.proofs.Common.{◌≡◌, Option, None, List, [], ◌∷◌, ◌++◌, ◌<◌, ℕ, refl, sym, ap, ◌∙◌, subst, inl, inr, arith}
use Rattle.ic_link_ops.specs.Prelude.{Place, index_of, at_front, IsAbsent, IsMember, Extent, Table, IsUnlinked}
use Rattle.ic_link_ops.proofs.Prelude.{same_or_not, absent_left, absent_right, absent_both, holds_linked}
use Rattle.ic_raw.specs.declared.words.RawThree.{RawThree}
use Rattle.ic_raw.specs.Calls.{Clears}
use Rattle.ic_raw.specs.Tree.{lent_table}
use Rattle.ic_raw.specs.Words.{is_linked_three}
use Rattle.ic_raw.proofs.Gaps.{never}
use Rattle.ic_raw.proofs.Trees.{in_range, seen_represents}
use Rattle.ic_raw.proofs.TreeWalks.{HasComeTo, unmarks_more, seen_length, seen_kept, walk_starts, walk_member, walk_goes_on, walk_ends, walk_over}
use Rattle.ic_raw.proofs.Views.{unlinks_none}
use Rattle.ic_raw.proofs.tree_clear.unmark_all.Goals as goal

-- at the end of a walk through the tree, all members are unlinked, and no other entry has changed
walked_all : {old now : Table RawThree} {s : List Place} {at : Option Place} {left : ℕ} (k : HasComeTo s at left) → at ≡ None → now.extent ≡ old.extent
    → ((p : Place) → IsMember p k.done → IsUnlinked is_linked_three now p) → ((q : Place) → IsAbsent q k.done → now.entry q ≡ old.entry q)
    → Clears is_linked_three old now s
walked_all k none same off others =
    let all = walk_ends k none in record {
      unlinked = λ p member. off p (subst (IsMember p) (sym all) member);
      frame = record { extent = same; others = λ q out. others q (subst (IsAbsent q) (sym all) out) };
    }

pub loop-left-init : goal.loop-left-init
unfolding walk_starts
loop-left-init c = record {
  marks = unlinks_none (lent_table c.args.links.now);
  walked = λ s shown.
      let there = seen_represents (lent_table c.args.links.now) (in_range c.args.links.now) shown in
      (walk_starts (c.next_of-at.ensures.leads (at_front s) there refl) (rw c.places-left.ensures (seen_length there)), there, (λ p member. absurd (member tt)), (λ q out. refl));
}

pub returns-in_default-clause-cleared : goal.returns-in_default-clause-cleared
returns-in_default-clause-cleared c s shown =
    let was = c.loop-left.invariant.walked s shown in walked_all was.0 c.in_default.is c.loop-left.invariant.marks.extent was.2 was.3

pub returns-then-not-covers-clause-cleared : goal.returns-then-not-covers-clause-cleared
returns-then-not-covers-clause-cleared c s shown =
    let was = rw c.in-Some.is at (c.loop-left.invariant.walked s shown) in
    let covered = in_range c.args.links.now c.in-Some.member (holds_linked shown.held (walk_member was.0)) in
    absurd (never c.if-not-covers.true (c.covers.ensures.1 (subst (λ (x : Extent). index_of c.in-Some.member < x.places) (sym c.loop-left.invariant.marks.extent) covered)))

pub returns-clause-cleared : goal.returns-clause-cleared
returns-clause-cleared c s shown =
    let was = c.loop-left.invariant.walked s shown in
    walked_all was.0 (walk_over was.0 (omega (arith, c.loop-left-test.false))) c.loop-left.invariant.marks.extent was.2 was.3

pub loop-left-preserved : goal.loop-left-preserved
loop-left-preserved c = record {
  marks = unmarks_more c.loop-left.invariant.marks c.unmark.ensures.frame c.unmark.ensures.kept;
  walked = λ s shown.
      let t = lent_table c.loop-left.links in
      let u = lent_table c.unmark.new.links in
      let p = c.in-Some.member in
      let was = rw c.in-Some.is at (c.loop-left.invariant.walked s shown) in
      let more = walk_goes_on was.0 {t = t} was.1 c.next_of-at-in-loop-left.ensures.leads in (
        more.0,
        seen_kept t u c.unmark.ensures.seen was.1,
        (λ q member. elim (same_or_not q p) [
          | inl e ↦ subst (IsUnlinked is_linked_three u) (sym e) c.unmark.ensures.unlinked
          | inr n ↦
              let in_front : IsMember q was.0.done = λ out. member (rw more.1 (absent_both q was.0.done (p ∷ []) out (n, tt))) in
              ap is_linked_three (c.unmark.ensures.frame.others q n) ∙ was.2 q in_front
        ]),
        (λ q out.
            let away : IsAbsent q (was.0.done ++ p ∷ []) = rw (← more.1) out in
            c.unmark.ensures.frame.others q (absent_right q was.0.done (p ∷ []) away).0 ∙ was.3 q (absent_left q was.0.done (p ∷ []) away)),
      );
}
