use Rattle.std.proofs.Common.{◌∙◌, sym}
use Rattle.ic_link_ops.proofs.Prelude.{last_of_front, gap_there, moves_back}
use Rattle.ic_chain.proofs.Standing.{stands, stands_here, last_kept}
use Rattle.ic_chain.proofs.edits.LinkListBidirectional.prev_of.Goals as goal

pub returns-in-None-clause-moved : goal.returns-in-None-clause-moved
returns-in-None-clause-moved g c = moves_back (stands c.requires.stands) (λ gap shown before.
    c.of.ensures.on ∙ c.last_from_null.ensures ∙ last_kept g.K.ListKind.kept g.K.ListKind.kept_last g.met.K.DoubleEnded.keeps_both g.met.K.ListKind.tells_last shown.tail ∙ last_of_front gap.front gap.back (sym c.in-None.is ∙ c.get-current.ensures ∙ before))

pub returns-in-None-clause-kept : goal.returns-in-None-clause-kept
returns-in-None-clause-kept g c =
    let k = gap_there (stands c.requires.stands) in
    let null = c.get-current.ensures ∙ k.2 in
    stands_here k.0 k.1 (c.of.ensures.on ∙ c.last_from_null.ensures ∙ last_kept g.K.ListKind.kept g.K.ListKind.kept_last g.met.K.DoubleEnded.keeps_both g.met.K.ListKind.tells_last k.1.tail ∙ last_of_front k.0.front k.0.back (sym c.in-None.is ∙ null)) c.of.ensures.caches null

pub returns-in-Some-clause-moved : goal.returns-in-Some-clause-moved
returns-in-Some-clause-moved g c = moves_back (stands c.requires.stands) (λ gap shown before. c.of-in-Some.ensures.on ∙ c.before-in-Some.ensures gap shown before)

pub returns-in-Some-clause-kept : goal.returns-in-Some-clause-kept
returns-in-Some-clause-kept g c =
    let k = gap_there (stands c.requires.stands) in
    stands_here k.0 k.1 (c.of-in-Some.ensures.on ∙ c.before-in-Some.ensures k.0 k.1 k.2) c.of-in-Some.ensures.caches (c.get-current.ensures ∙ k.2)
