use Rattle.std.proofs.Common.{◌++◌, ◌∷◌, [], ◌∙◌, Ok, refl, append_assoc}
use Rattle.ic_link_ops.proofs.Positions.{gap_there, inserts_before}
use Rattle.ic_chain.proofs.Standing.{stands, stays}
use Rattle.ic_chain.proofs.edits.LinkListBidirectional.insert_before_at.Goals as goal

pub insert_between-requires-clause-shown : goal.insert_between-requires-clause-shown
insert_between-requires-clause-shown g c =
    let k = gap_there (stands c.requires.stands) in (k.0, k.1, c.before-before.ensures k.0 k.1 k.2, c.get-current.ensures ∙ k.2)

pub returns-clause-inserted : goal.returns-clause-inserted
returns-clause-inserted g c =
    let e = c.if-not-insert_between.ensures in
    inserts_before g.met.L.LinkOps.refused_keeps _ (stands c.requires.stands) refl (Ok tt) e.acquired tt tt
    (λ gap shown before. e.inserted gap shown (c.before-before.ensures gap shown before) (c.get-current.ensures ∙ before))

pub returns-clause-kept : goal.returns-clause-kept
returns-clause-kept g c =
    let k = gap_there (stands c.requires.stands) in
    let put = c.if-not-insert_between.ensures.inserted k.0 k.1 (c.before-before.ensures k.0 k.1 k.2) (c.get-current.ensures ∙ k.2) in record {
      stands = stays g.met.K.ForwardLinks.leads c.requires.stands k.0 k.1 k.2 (k.0.front ++ c.args.object ∷ []) (rw (append_assoc k.0.front (c.args.object ∷ []) k.0.back) put.shows);
      keeps = tt;
    }
