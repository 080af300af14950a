use Rattle.std.proofs.Common.{Some, [], refl}
use Rattle.ic_link_ops.proofs.SequenceLemmas.{absent_without, distinct_middle}
use Rattle.ic_link_ops.proofs.RepresentedTrees.{represents_beside}
use Rattle.ic_rbtree.proofs.Removing.{represented_of, represents_of, removes}
use Rattle.ic_raw.specs.Prelude.{before, seen, seen_node, has_place}
use Rattle.ic_raw.specs.Tree.{node, lent_table}
use Rattle.ic_raw.proofs.Gaps.{never}
use Rattle.ic_raw.proofs.Seen.{seen_changes}
use Rattle.ic_raw.proofs.Trees.{in_range, has, end_in, closed, seen_represented, told_kept, members_told, links_back, frame_told}
use Rattle.ic_raw.proofs.Touches.{unlinks_last}
use Rattle.ic_raw.proofs.TreeSets.{stays_within, left_within}
use Rattle.ic_raw.proofs.tree.remove.Goals as goal

pub returns-then-not-may_hold-clause-removed : goal.returns-then-not-may_hold-clause-removed
returns-then-not-may_hold-clause-removed g c front back shown =
    absurd (never c.if-not-may_hold.true (c.may_hold.ensures.shown front back shown))

pub unlink-requires : goal.unlink-requires
unlink-requires g c =
    let v = lent_table c.args.links.now in
    let law = in_range c.args.links.now in
    (has_place v, closed v _ (end_in v law _ (c.may_hold.ensures.root c.if-not-may_hold.false)), (has v law c.args.member (c.may_hold.ensures.at c.if-not-may_hold.false c.args.member refl), tt))

pub returns-clause-removed : goal.returns-clause-removed
returns-clause-removed g c front back shown =
    let member = c.args.member in
    let v = lent_table c.args.links.now in
    let w = lent_table c.unlink.new.links in
    let z = lent_table c.release_link.new.self in
    let old = seen_represented v (in_range c.args.links.now) [] (represented_of node shown) tt in
    let new = c.unlink.ensures.taken (seen v) front back [] old in
    let released = c.release_link.ensures in
    let stays = links_back w (represents_of seen_node new) (λ q m. told_kept c.unlink.ensures.keeps_links q (members_told v (in_range c.args.links.now) shown q (λ out. m (absent_without front back member q out)))) in (
      refl,
      record {
        shows = represents_beside {new = z} stays (distinct_middle front back member shown.held.distinct) released.frame.others;
        frame = frame_told (removes seen_node (seen v) (seen w) (seen z) _ _ member (before member front back) back refl old new (seen_changes w z member released.frame)).frame;
      },
      released.released.is,
    )

pub returns-clause-unlinked : goal.returns-clause-unlinked
returns-clause-unlinked g c made = unlinks_last c.unlink.ensures.keeps_links.marks c.release_link.ensures.released

pub returns-clause-in_closed_set : goal.returns-clause-in_closed_set
returns-clause-in_closed_set g c made =
    let v = lent_table c.args.links.now in
    let law = in_range c.args.links.now in
    let ok = c.if-not-may_hold.false in
    let here = end_in v law (Some c.args.member) (c.may_hold.ensures.at ok) in
    left_within (stays_within c.unlink.ensures.keeps_links c.unlink.ensures.safe (end_in v law _ (c.may_hold.ensures.root ok)) (here, tt))
    c.release_link.ensures.frame

pub returns-clause-reported : goal.returns-clause-reported
returns-clause-reported g c made = (lent_table c.unlink.new.links, c.unlink.ensures.reported, c.release_link.ensures.frame)
