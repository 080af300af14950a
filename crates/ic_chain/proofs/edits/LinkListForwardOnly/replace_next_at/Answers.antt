use Rattle.std.proofs.Common.{◌∷◌, drop, ◌∙◌, sym, refl}
use Rattle.ic_link_ops.specs.Prelude.{Cut, join, IsAfter, Replaces, RepresentsChain}
use Rattle.ic_link_ops.proofs.Prelude.{first_is, represents_middle}
use Rattle.ic_link_ops.proofs.Positions.{next_replaced_stands}
use Rattle.ic_chain.proofs.Standing.{stands, stands_here, next_is}
use Rattle.ic_chain.proofs.edits.LinkListForwardOnly.replace_next_at.Goals as goal
use Rattle.ic_chain.proofs.edits.LinkListForwardOnly.replace_next_at.Given.{Over}

pub next-after-requires : goal.next-after-requires
next-after-requires g c =
    let at = c.requires.stands in
    let whole = rw (first_is at.gap.back (sym c.in-Some.is ∙ c.after-next.ensures at.gap at.shown at.after)) at at.shown in
    record { linked = g.met.K.ForwardLinks.between_linked _ _ _ (represents_middle at.gap.front (drop 1 at.gap.back) whole) }

pub replace-requires-clause-shown : goal.replace-requires-clause-shown
replace-requires-clause-shown g c =
    let at = c.requires.stands in
    let rest = drop 1 at.gap.back in
    let whole = rw (first_is at.gap.back (sym c.in-Some.is ∙ c.after-next.ensures at.gap at.shown at.after)) at at.shown in
    let before = c.get-current.ensures ∙ at.after in
    (at.gap.front, rest, whole, before, next_is g.met.K.ForwardLinks.leads at.gap.front rest whole before c.next-after.ensures)

-- the object replaces the member right after the position, whichever sequence the table represented
replaces : (g : Over) (c : goal.After-drop-at g) (gap : Cut) → RepresentsChain g.K.ForwardLinks.Between g.K.ListKind.kept (g.L.LinkOps.table c.args.links.now) c.args.self.now (join gap)
    → IsAfter gap (g.K.Position.Position.member c.args.at.now)
    → Replaces (RepresentsChain g.K.ForwardLinks.Between g.K.ListKind.kept) (g.L.LinkOps.table c.args.links.now) (g.L.LinkOps.table c.replace.new.links) c.replace.new.self gap c.args.object
replaces g c gap shown after =
    let rest = drop 1 gap.back in
    let is = first_is gap.back (sym c.in-Some.is ∙ c.after-next.ensures gap shown after) in
    let whole = rw is at shown in
    let before = c.get-current.ensures ∙ after in
    let following = next_is g.met.K.ForwardLinks.leads gap.front rest whole before c.next-after.ensures in
    let e = c.if-not-replace.ensures in record {
      shows = e.replaced gap.front rest whole before following;
      frame = rw is (e.frame gap.front rest whole before following);
    }

pub returns-clause-replaced : goal.returns-clause-replaced
returns-clause-replaced g c =
    let position = c.of.ensures.on ∙ c.get-current.ensures in record {
      answer = λ gap shown after. sym (c.after-next.ensures gap shown after) ∙ c.in-Some.is;
      replaced = replaces g c;
      exchanged = c.if-not-replace.ensures.exchanged;
      refused = λ gap shown after. tt;
      unchanged = tt;
      position = position;
      stands = next_replaced_stands (stands c.requires.stands) position (replaces g c);
    }

pub returns-clause-kept : goal.returns-clause-kept
returns-clause-kept g c =
    let at = c.requires.stands in record {
      stands = stands_here (record { front = at.gap.front; back = c.args.object ∷ drop 1 at.gap.back }) (replaces g c at.gap at.shown at.after).shows
          (c.of.ensures.on ∙ c.get-current.ensures ∙ at.after) c.of.ensures.caches refl;
      keeps = tt;
    }
