use Rattle.std.proofs.Common.{◌≡◌, ◌≢◌, Some, [], ◌∷◌, ◌++◌, refl, sym, ◌∙◌, subst}
use Rattle.ic_link_ops.specs.Tables.{IsUnlinked}
use Rattle.ic_link_ops.proofs.SequenceLemmas.{some_same, absent_without}
use Rattle.ic_link_ops.proofs.RepresentedTrees.{represents_beside}
use Rattle.ic_rbtree.specs.Pieces.{loose}
use Rattle.ic_rbtree.proofs.Attaching.{acquired_represented}
use Rattle.ic_rbtree.proofs.Closed.{weaker}
use Rattle.ic_rbtree.proofs.Removing.{spot, placed, represents_of, loose_absent}
use Rattle.ic_rbtree.proofs.Replacing.{replaces}
use Rattle.ic_raw.specs.Prelude.{before, is_linked_three, seen, seen_node, has_place}
use Rattle.ic_raw.specs.Tree.{node, lent_table}
use Rattle.ic_raw.proofs.Gaps.{never}
use Rattle.ic_raw.proofs.Seen.{seen_changes}
use Rattle.ic_raw.proofs.Trees.{in_range, in_kept, has, end_in, closed, seen_represented, told_kept, told_with, links_back, frame_told}
use Rattle.ic_raw.proofs.Touches.{links_first}
use Rattle.ic_raw.proofs.TreeSets.{came_within, left_within, exchanges}
use Rattle.ic_raw.proofs.tree.replace.Goals as goal

pub returns-then-not-may_hold-clause-replaced : goal.returns-then-not-may_hold-clause-replaced
returns-then-not-may_hold-clause-replaced c front back p shown is free =
    absurd (never c.if-not-may_hold.true (c.may_hold.ensures.shown front back shown))

pub take_place-requires-clause-safe : goal.take_place-requires-clause-safe
take_place-requires-clause-safe c =
    let old = lent_table c.args.links.now in
    let mid = lent_table c.acquire.new.links in
    let law = in_range c.args.links.now in
    let ok = c.if-not-may_hold.false in
    let taken = c.in-Some.is in
    let extent = (c.acquire.ensures.frame _ taken).extent in (
      has_place mid,
      weaker seen_node (closed mid _ (in_kept old mid _ extent (end_in old law _ (c.may_hold.ensures.root ok)))) (Some c.in-Some.place),
      (
        in_kept old mid (Some c.args.member) extent (end_in old law _ (c.may_hold.ensures.at ok)),
        (has mid (in_range c.acquire.new.links) c.in-Some.place (c.acquire.ensures.linked _ taken), tt),
      ),
    )

pub returns-clause-replaced : goal.returns-clause-replaced
returns-clause-replaced c front back p shown is free =
    let member = c.args.member in
    let place = c.in-Some.place in
    let taken = c.in-Some.is in
    let one : p ≡ place = some_same (sym is ∙ c.acquire.ensures.same _ taken) in
    let old = lent_table c.args.links.now in
    let mid = lent_table c.acquire.new.links in
    let new = lent_table c.take_place.new.nodes in
    let last = lent_table c.release_link.new.self in
    let root = c.args.tree.now.head in
    let was = (c.acquire.ensures.free _ taken).unlinked in
    let on = c.acquire.ensures.linked _ taken in
    let only = c.acquire.ensures.frame _ taken in
    let beside = acquired_represented node is_linked_three (λ e. refl) old mid root (front ++ member ∷ back) place shown was on only in
    let there = spot seen_node front member back (seen_represented mid (in_range c.acquire.new.links) (loose place ∷ []) beside (has mid (in_range c.acquire.new.links) place on, tt)) in
    let after = placed seen_node place there c.take_place.ensures.taken in
    let released = c.release_link.ensures in
    let stays = links_back new (represents_of seen_node after) (λ q m. told_kept c.take_place.ensures.keeps_links q
    (told_with mid (in_range c.acquire.new.links) front place back (represents_of node beside) (on, c.acquire.ensures.bare _ taken) (λ z out. absent_without front back member z out) q m)) in
    rw one (
      refl,
      record {
        shows = represents_beside {new = last} stays (loose_absent seen_node after) released.frame.others;
        frame = frame_told (replaces seen_node (seen old) (seen mid) (seen new) (seen last) root _ member place (before member front back) back refl (seen_changes old mid place only) there
            c.take_place.ensures.taken (seen_changes new last member released.frame)).frame;
      },
      released.released.is,
    )

pub returns-clause-free : goal.returns-clause-free
returns-clause-free c made =
    let taken = c.in-Some.is in (c.in-Some.place, c.acquire.ensures.same _ taken, c.acquire.ensures.free _ taken)

pub returns-clause-exchanged : goal.returns-clause-exchanged
returns-clause-exchanged c p is made =
    let taken : c.acquire.result ≡ Some p = c.in-Some.is ∙ sym (c.acquire.ensures.same _ c.in-Some.is) ∙ is in
    let free = c.acquire.ensures.free p taken in
    let apart : p ≢ c.args.member = λ e.
    let on = c.may_hold.ensures.at c.if-not-may_hold.false c.args.member refl in
    let off = subst (λ q. IsUnlinked is_linked_three (lent_table c.args.links.now) q) e free.unlinked in
    cc in
    exchanges (links_first free (c.acquire.ensures.linked p taken) (c.acquire.ensures.frame p taken) c.take_place.ensures.keeps_links.marks) apart
    c.release_link.ensures.released

pub returns-clause-in_closed_set : goal.returns-clause-in_closed_set
returns-clause-in_closed_set c made =
    let taken = c.in-Some.is in
    let v = lent_table c.args.links.now in
    let law = in_range c.args.links.now in
    let ok = c.if-not-may_hold.false in
    rw (c.acquire.ensures.same _ taken) (left_within (came_within (c.acquire.ensures.free _ taken) (c.acquire.ensures.frame _ taken) (c.acquire.ensures.bare _ taken)
    c.take_place.ensures.keeps_links (λ T h here i. c.take_place.ensures.safe T h (i, (here, tt))) (end_in v law _ (c.may_hold.ensures.root ok))
    (end_in v law (Some c.args.member) (c.may_hold.ensures.at ok))) c.release_link.ensures.frame)
