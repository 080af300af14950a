use Rattle.std.proofs.Common.{◌≡◌, Some, [], ◌∷◌, refl, sym, ◌∙◌}
use Rattle.ic_link_ops.specs.Sequences.{join}
use Rattle.ic_link_ops.proofs.SequenceLemmas.{some_same}
use Rattle.ic_rbtree.specs.Pieces.{loose}
use Rattle.ic_rbtree.proofs.Attaching.{acquired_represented, insert_pos_kept, inserts}
use Rattle.ic_rbtree.proofs.Closed.{weaker}
use Rattle.ic_rbtree.proofs.Removing.{represents_of}
use Rattle.ic_raw.specs.Prelude.{is_linked_three, seen, seen_node, has_place}
use Rattle.ic_raw.specs.Tree.{node, lent_table}
use Rattle.ic_raw.proofs.Seen.{seen_changes}
use Rattle.ic_raw.proofs.Trees.{in_range, in_kept, has, closed, seen_represented, seen_insert_pos, told_kept, told_with, links_back, frame_told}
use Rattle.ic_raw.proofs.TreeSets.{came_within}
use Rattle.ic_raw.proofs.Touches.{links_first}
use Rattle.ic_raw.proofs.tree.put.Goals as goal

pub attach-requires : goal.attach-requires
attach-requires g c =
    let old = lent_table c.args.links.now in
    let mid = lent_table c.acquire.new.links in
    let taken = c.in-Some.is in
    let extent = (c.acquire.ensures.frame _ taken).extent in (
      has_place mid,
      weaker seen_node (closed mid _ (in_kept old mid _ extent c.requires.1.0)) (Some c.in-Some.place),
      (has mid (in_range c.acquire.new.links) c.in-Some.place (c.acquire.ensures.linked _ taken), (in_kept old mid c.args.at extent c.requires.0, tt)),
    )

pub returns-clause-inserted : goal.returns-clause-inserted
returns-clause-inserted g c cut p shown at is free =
    let place = c.in-Some.place in
    let taken = c.in-Some.is in
    let one : p ≡ place = some_same (sym is ∙ c.acquire.ensures.same _ taken) in
    let old = lent_table c.args.links.now in
    let mid = lent_table c.acquire.new.links in
    let new = lent_table c.attach.new.links in
    let root = c.args.tree.now.head in
    let was = (c.acquire.ensures.free _ taken).unlinked in
    let on = c.acquire.ensures.linked _ taken in
    let only = c.acquire.ensures.frame _ taken in
    let beside = acquired_represented node is_linked_three (λ e. refl) old mid root (join cut) place shown was on only in
    let before = seen_represented mid (in_range c.acquire.new.links) (loose place ∷ []) beside (has mid (in_range c.acquire.new.links) place on, tt) in
    let there = insert_pos_kept node is_linked_three (λ e. refl) old mid root c.args.at c.args.side cut place shown was only at in
    let after = c.attach.ensures.attached (seen mid) cut [] before (seen_insert_pos mid c.args.side c.args.at cut there) in
    rw one (
      refl,
      record {
        shows = links_back new (represents_of seen_node after)
            (λ q m. told_kept c.attach.ensures.keeps_links q (told_with mid (in_range c.acquire.new.links) cut.front place cut.back (represents_of node beside) (on, c.acquire.ensures.bare _ taken) (λ z out. out) q m));
        frame = frame_told (inserts seen_node (seen old) (seen mid) (seen new) root _ place cut (seen_changes old mid place only) after).frame;
      },
    )

pub returns-clause-free : goal.returns-clause-free
returns-clause-free g c made =
    let taken = c.in-Some.is in (c.in-Some.place, c.acquire.ensures.same _ taken, c.acquire.ensures.free _ taken)

pub returns-clause-linked : goal.returns-clause-linked
returns-clause-linked g c p is made =
    let taken : c.acquire.result ≡ Some p = c.in-Some.is ∙ sym (c.acquire.ensures.same _ c.in-Some.is) ∙ is in
    links_first (c.acquire.ensures.free p taken) (c.acquire.ensures.linked p taken) (c.acquire.ensures.frame p taken) c.attach.ensures.keeps_links.marks

pub returns-clause-in_closed_set : goal.returns-clause-in_closed_set
returns-clause-in_closed_set g c made =
    let taken = c.in-Some.is in
    rw (c.acquire.ensures.same _ taken) (came_within (c.acquire.ensures.free _ taken) (c.acquire.ensures.frame _ taken) (c.acquire.ensures.bare _ taken)
    c.attach.ensures.keeps_links
    (λ T h here i. c.attach.ensures.safe T h (here, (i, tt))) c.requires.1.0 c.requires.0)

pub returns-clause-reported : goal.returns-clause-reported
returns-clause-reported g c p is made =
    let taken : c.acquire.result ≡ Some p = c.in-Some.is ∙ sym (c.acquire.ensures.same _ c.in-Some.is) ∙ is in
    (lent_table c.acquire.new.links, c.acquire.ensures.frame p taken, c.attach.ensures.reported)
