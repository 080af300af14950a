use Rattle.std.proofs.Common.{drop, ◌∙◌, sym}
use Rattle.ic_link_ops.specs.Prelude.{Cut, join, IsAfter, Removes, RepresentsChain}
use Rattle.ic_link_ops.proofs.Prelude.{first_is, represents_middle}
use Rattle.ic_link_ops.proofs.Positions.{next_removed_stands}
use Rattle.ic_chain.proofs.Standing.{stands, stands_here, next_is}
use Rattle.ic_chain.proofs.edits.LinkListForwardOnly.remove_next_at.Goals as goal
use Rattle.ic_chain.proofs.edits.LinkListForwardOnly.remove_next_at.Given.{Over}

pub next-after-requires : goal.next-after-requires
next-after-requires g c =
    let at = c.requires.stands in
    let whole = rw (first_is at.gap.back (sym c.in_ok-place.was ∙ c.after.ensures at.gap at.shown at.after)) at at.shown in
    record { linked = g.met.K.ForwardLinks.between_linked _ _ _ (represents_middle at.gap.front (drop 1 at.gap.back) whole) }

pub unlink-requires : goal.unlink-requires
unlink-requires g c =
    let at = c.requires.stands in
    let rest = drop 1 at.gap.back in
    let whole = rw (first_is at.gap.back (sym c.in_ok-place.was ∙ c.after.ensures at.gap at.shown at.after)) at at.shown in
    let before = c.get-current.ensures ∙ at.after in
    record { shown = (at.gap.front, rest, whole, before, next_is g.met.K.ForwardLinks.leads at.gap.front rest whole before c.next-after.ensures) }

-- the member right after the position is removed, whichever sequence the table represented
removes : (g : Over) (c : goal.After-drop-at g) (gap : Cut) → RepresentsChain g.K.ForwardLinks.Between g.K.ListKind.kept (g.L.LinkOps.table c.args.links.now) c.args.self.now (join gap)
    → IsAfter gap (g.K.Position.Position.member c.args.at.now)
    → Removes (RepresentsChain g.K.ForwardLinks.Between g.K.ListKind.kept) (g.L.LinkOps.table c.args.links.now) (g.L.LinkOps.table c.unlink.new.links) c.unlink.new.self gap
removes g c gap shown after =
    let rest = drop 1 gap.back in
    let is = first_is gap.back (sym c.in_ok-place.was ∙ c.after.ensures gap shown after) in
    let whole = rw is at shown in
    let before = c.get-current.ensures ∙ after in
    let following = next_is g.met.K.ForwardLinks.leads gap.front rest whole before c.next-after.ensures in record {
      shows = c.unlink.ensures.removed gap.front rest whole before following;
      frame = rw is (c.unlink.ensures.frame gap.front rest whole before following);
    }

pub returns-clause-removed : goal.returns-clause-removed
returns-clause-removed g c =
    let position = c.of.ensures.on ∙ c.get-current.ensures in record {
      answer = λ gap shown after. sym c.in_ok-place.was ∙ c.after.ensures gap shown after;
      removed = removes g c;
      released = c.unlink.ensures.released;
      position = position;
      nothing = tt;
      stands = next_removed_stands (stands c.requires.stands) position (removes g c);
    }

pub returns-clause-kept : goal.returns-clause-kept
returns-clause-kept g c =
    let at = c.requires.stands in
    let rest = drop 1 at.gap.back in
    let whole = rw (first_is at.gap.back (sym c.in_ok-place.was ∙ c.after.ensures at.gap at.shown at.after)) at at.shown in
    let before = c.get-current.ensures ∙ at.after in record {
      stands = stands_here (record { front = at.gap.front; back = rest }) (removes g c at.gap at.shown at.after).shows (c.of.ensures.on ∙ before) c.of.ensures.caches
          (next_is g.met.K.ForwardLinks.leads at.gap.front rest whole before c.next-after.ensures);
      keeps = tt;
    }
