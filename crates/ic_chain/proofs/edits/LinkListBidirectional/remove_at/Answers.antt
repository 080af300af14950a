use Rattle.std.proofs.Common.{drop, ◌∙◌, sym}
use Rattle.ic_link_ops.specs.Prelude.{Cut, join, IsBefore, IsSecondAfter, Removes, RepresentsChain}
use Rattle.ic_link_ops.proofs.SequenceLemmas.{first_is}
use Rattle.ic_link_ops.proofs.Positions.{gap_there, removed_stands}
use Rattle.ic_chain.proofs.Standing.{stands, after_on}
use Rattle.ic_chain.proofs.edits.LinkListBidirectional.remove_at.Goals as goal
use Rattle.ic_chain.proofs.edits.LinkListBidirectional.remove_at.Given.{Over}

pub unlink-requires : goal.unlink-requires
unlink-requires g c =
    let k = gap_there (stands c.requires.stands) in
    let on = sym c.get.ensures ∙ c.in_ok-place.was in
    let rest = drop 1 k.0.back in
    let whole = rw (first_is k.0.back (sym on ∙ k.2)) at k.1 in
    record {
      shown = (
        k.0.front,
        rest,
        whole,
        c.before-before.ensures k.0 k.1 k.2,
        after_on g.met.K.ForwardLinks.leads c.after-after.ensures k.0.front rest c.in_ok-place.place whole on,
      );
    }

pub position_at-requires : goal.position_at-requires
position_at-requires g c =
    let k = gap_there (stands c.requires.stands) in
    let on = sym c.get.ensures ∙ c.in_ok-place.was in
    let rest = drop 1 k.0.back in
    let whole = rw (first_is k.0.back (sym on ∙ k.2)) at k.1 in
    let before = c.before-before.ensures k.0 k.1 k.2 in
    let after = after_on g.met.K.ForwardLinks.leads c.after-after.ensures k.0.front rest c.in_ok-place.place whole on in
    record { shown = λ reads. (record { front = k.0.front; back = rest }, c.unlink.ensures.removed k.0.front rest whole before after, before, after) }

-- the member right after the gap is removed, whichever sequence the table represented
removes : (g : Over) (c : goal.After-drop-at g) (gap : Cut) → RepresentsChain g.K.ForwardLinks.Between g.K.ListKind.kept (g.L.LinkOps.table c.args.links.now) c.args.self.now (join gap)
    → IsBefore gap (g.K.Position.Position.member c.args.at.now)
    → Removes (RepresentsChain g.K.ForwardLinks.Between g.K.ListKind.kept) (g.L.LinkOps.table c.args.links.now) (g.L.LinkOps.table c.unlink.new.links) c.unlink.new.self gap
removes g c gap shown is_before =
    let on = sym c.get.ensures ∙ c.in_ok-place.was in
    let rest = drop 1 gap.back in
    let is = first_is gap.back (sym on ∙ is_before) in
    let whole = rw is at shown in
    let before = c.before-before.ensures gap shown is_before in
    let after = after_on g.met.K.ForwardLinks.leads c.after-after.ensures gap.front rest c.in_ok-place.place whole on in record {
      shows = c.unlink.ensures.removed gap.front rest whole before after;
      frame = rw is (c.unlink.ensures.frame gap.front rest whole before after);
    }

-- the place that the call read as the next place of the removed member is the second place after the gap
moves : (g : Over) (c : goal.After-drop-at g) (gap : Cut) → RepresentsChain g.K.ForwardLinks.Between g.K.ListKind.kept (g.L.LinkOps.table c.args.links.now) c.args.self.now (join gap)
    → IsBefore gap (g.K.Position.Position.member c.args.at.now) → IsSecondAfter gap c.after-after.result
moves g c gap shown is_before =
    let on = sym c.get.ensures ∙ c.in_ok-place.was in
    after_on g.met.K.ForwardLinks.leads c.after-after.ensures gap.front (drop 1 gap.back) c.in_ok-place.place (rw (first_is gap.back (sym on ∙ is_before)) at shown) on

pub returns-clause-removed : goal.returns-clause-removed
returns-clause-removed g c =
    record {
      answer = sym c.in_ok-place.was ∙ c.get.ensures;
      removed = removes g c;
      released = c.unlink.ensures.released;
      moved = λ gap shown is_before. c.position_at.ensures.on ∙ moves g c gap shown is_before;
      null = tt;
      stands = removed_stands (stands c.requires.stands) (removes g c)
          (λ gap shown is_before. c.position_at.ensures.on ∙ moves g c gap shown is_before);
    }

pub returns-clause-kept : goal.returns-clause-kept
returns-clause-kept g c =
    let k = gap_there (stands c.requires.stands) in record {
      stands = c.position_at.ensures.kept (record { front = k.0.front; back = drop 1 k.0.back }) (removes g c k.0 k.1 k.2).shows
          (c.before-before.ensures k.0 k.1 k.2) (moves g c k.0 k.1 k.2);
      keeps = tt;
    }
