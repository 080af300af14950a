use Rattle.std.proofs.Common.{◌∙◌, refl, append-nil, sym}
use Rattle.ic_link_ops.specs.Sequences.{at_back}
use Rattle.ic_link_ops.proofs.RepresentedLists.{gap_linked, gap_after_linked}
use Rattle.ic_link_ops.proofs.Positions.{split_after}
use Rattle.ic_link_ops.proofs.Naming.{end_named}
use Rattle.ic_chain.proofs.Standing.{stands, stands_here}
use Rattle.ic_chain.proofs.edits.LinkListSplice.split_after_at.Goals as goal

pub split_between-rest-requires-clause-before : goal.split_between-rest-requires-clause-before
split_between-rest-requires-clause-before g c q e =
    let at = c.requires.stands in gap_linked g.met.K.ForwardLinks.between_linked at.gap.front at.gap.back at.shown (sym e ∙ c.get-current.ensures ∙ at.after)

pub split_between-rest-requires-clause-after : goal.split_between-rest-requires-clause-after
split_between-rest-requires-clause-after g c names q e =
    let at = c.requires.stands in
    gap_after_linked g.met.K.ForwardLinks.between_linked at.gap.front at.gap.back at.shown (sym e ∙ c.after-after.ensures at.gap at.shown at.after)

pub split_between-rest-requires-clause-next : goal.split_between-rest-requires-clause-next
split_between-rest-requires-clause-next g c =
    let L = g.met.L.LinkOps in
    let at = c.requires.stands in
    end_named _ _ (λ q e. L.covered_has_name _ q (L.linked_is_covered _ q (gap_after_linked g.met.K.ForwardLinks.between_linked at.gap.front at.gap.back at.shown (sym e ∙ c.after-after.ensures at.gap at.shown at.after))))

pub returns-clause-split : goal.returns-clause-split
returns-clause-split g c =
    let e = c.split_between-rest.ensures in
    let stays = c.of.ensures.on ∙ c.get-current.ensures in record {
      split = λ gap shown after. e.split gap shown (c.get-current.ensures ∙ after) (c.after-after.ensures gap shown after);
      trace_stays = e.trace_stays;
      position = stays;
      stands = split_after (stands c.requires.stands)
          (λ gap shown after. e.split gap shown (c.get-current.ensures ∙ after) (c.after-after.ensures gap shown after)) stays;
    }

pub returns-clause-kept : goal.returns-clause-kept
returns-clause-kept g c =
    let at = c.requires.stands in
    let parts = c.split_between-rest.ensures.split at.gap at.shown (c.get-current.ensures ∙ at.after) (c.after-after.ensures at.gap at.shown at.after) in record {
      stands = stands_here (at_back at.gap.front) (rw (append-nil at.gap.front) parts.keeps) (c.of.ensures.on ∙ c.get-current.ensures ∙ at.after) c.of.ensures.caches refl;
      keeps = tt;
    }
