use Rattle.std.proofs.Common.{◌∷◌, ◌∙◌, Ok, refl}
use Rattle.ic_link_ops.proofs.Positions.{inserts_after}
use Rattle.ic_chain.proofs.Standing.{stands, stands_here}
use Rattle.ic_chain.proofs.edits.LinkListCursorOps.insert_after_at.Goals as goal

pub returns-clause-inserted : goal.returns-clause-inserted
returns-clause-inserted g c =
    let e = c.if-not-insert_between.ensures in
    inserts_after g.met.L.LinkOps.refused_keeps _ (stands c.requires.stands) (c.of.ensures.on ∙ c.get-current.ensures) (Ok tt) e.acquired tt tt
    (λ gap shown after. e.inserted gap shown (c.get-current.ensures ∙ after) (c.after-after.ensures gap shown after))

pub returns-clause-kept : goal.returns-clause-kept
returns-clause-kept g c =
    let at = c.requires.stands in
    let put = c.if-not-insert_between.ensures.inserted at.gap at.shown (c.get-current.ensures ∙ at.after) (c.after-after.ensures at.gap at.shown at.after) in record {
      stands = stands_here (record { front = at.gap.front; back = c.args.object ∷ at.gap.back }) put.shows (c.of.ensures.on ∙ c.get-current.ensures ∙ at.after) c.of.ensures.caches refl;
      keeps = tt;
    }
