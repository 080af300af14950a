use Rattle.std.proofs.Common.{drop, ◌∙◌, sym}
use Rattle.ic_link_ops.specs.Prelude.{Cut, join, IsBefore, Replaces, RepresentsChain}
use Rattle.ic_link_ops.proofs.SequenceLemmas.{first_is}
use Rattle.ic_link_ops.proofs.Positions.{gap_there, replaced_stands}
use Rattle.ic_cursors.proofs.Placed.{put_there}
use Rattle.ic_chain.proofs.Standing.{stands, stands_on_member, after_on}
use Rattle.ic_chain.proofs.edits.LinkListBidirectional.replace_at.Goals as goal
use Rattle.ic_chain.proofs.edits.LinkListBidirectional.replace_at.Given.{Over}

pub replace-requires-clause-shown : goal.replace-requires-clause-shown
replace-requires-clause-shown g c =
    let k = gap_there (stands c.requires.stands) in
    let on = sym c.get.ensures ∙ c.in-Some.is in
    let rest = drop 1 k.0.back in
    let whole = rw (first_is k.0.back (sym on ∙ k.2)) at k.1 in
    (k.0.front, rest, whole, c.before-before.ensures k.0 k.1 k.2, after_on g.met.K.ForwardLinks.leads c.after-after.ensures k.0.front rest c.in-Some.out whole on)

-- the object replaces the member right after the gap, whichever sequence the table represented
replaces : (g : Over) (c : goal.After-drop-at g) (gap : Cut) → RepresentsChain g.K.ForwardLinks.Between g.K.ListKind.kept (g.L.LinkOps.table c.args.links.now) c.args.self.now (join gap)
    → IsBefore gap (g.K.Position.Position.member c.args.at.now)
    → Replaces (RepresentsChain g.K.ForwardLinks.Between g.K.ListKind.kept) (g.L.LinkOps.table c.args.links.now) (g.L.LinkOps.table c.replace.new.links) c.replace.new.self gap c.args.object
replaces g c gap shown is_before =
    let on = sym c.get.ensures ∙ c.in-Some.is in
    let rest = drop 1 gap.back in
    let is = first_is gap.back (sym on ∙ is_before) in
    let whole = rw is at shown in
    let before = c.before-before.ensures gap shown is_before in
    let after = after_on g.met.K.ForwardLinks.leads c.after-after.ensures gap.front rest c.in-Some.out whole on in
    let e = c.if-not-replace.ensures in record {
      shows = e.replaced gap.front rest whole before after;
      frame = rw is (e.frame gap.front rest whole before after);
    }

pub returns-clause-replaced : goal.returns-clause-replaced
returns-clause-replaced g c =
    let on = sym c.get.ensures ∙ c.in-Some.is in
    put_there on (record {
      answer = on;
      replaced = replaces g c;
      moved = c.of.ensures.on;
      exchanged = c.if-not-replace.ensures.exchanged;
      refused = tt;
      unchanged = tt;
      stands = replaced_stands (stands c.requires.stands) c.of.ensures.on (replaces g c);
    })

pub returns-clause-kept : goal.returns-clause-kept
returns-clause-kept g c =
    let k = gap_there (stands c.requires.stands) in
    let on = sym c.get.ensures ∙ c.in-Some.is in
    let rest = drop 1 k.0.back in
    let whole = rw (first_is k.0.back (sym on ∙ k.2)) at k.1 in record {
      stands = stands_on_member k.0.front rest c.args.object (replaces g c k.0 k.1 k.2).shows c.of.ensures.on c.of.ensures.caches
          (after_on g.met.K.ForwardLinks.leads c.after-after.ensures k.0.front rest c.in-Some.out whole on);
      keeps = tt;
    }
