use Rattle.std.proofs.Common.{[], ◌++◌, ◌∙◌, ap, sym}
use Rattle.std.specs.Option.{option_or}
use Rattle.ic_link_ops.specs.Sequences.{first}
use Rattle.ic_link_ops.proofs.RepresentedLists.{gap_linked, gap_after_linked, last_linked}
use Rattle.ic_link_ops.proofs.Positions.{put_after}
use Rattle.ic_link_ops.proofs.Naming.{end_named}
use Rattle.ic_chain.proofs.Standing.{first_of_both, stands_here}
use Rattle.ic_chain.proofs.Walking.{told_some}
use Rattle.ic_chain.proofs.edits.LinkListSplice.splice_after_at.Goals as goal

pub splice_between-requires-clause-before : goal.splice_between-requires-clause-before
splice_between-requires-clause-before g c q e =
    let at = c.requires.stands in gap_linked g.met.K.ForwardLinks.between_linked at.gap.front at.gap.back at.shown (sym e ∙ c.get-current.ensures ∙ at.after)

pub splice_between-requires-clause-after : goal.splice_between-requires-clause-after
splice_between-requires-clause-after g c names q e =
    let at = c.requires.stands in
    gap_after_linked g.met.K.ForwardLinks.between_linked at.gap.front at.gap.back at.shown (sym e ∙ c.after-after.ensures at.gap at.shown at.after)

pub splice_between-requires-clause-first : goal.splice_between-requires-clause-first
splice_between-requires-clause-first g c names q e =
    let given = c.requires.given in gap_after_linked g.met.K.ForwardLinks.between_linked [] given.0 given.1 (sym e ∙ given.1.head)

pub splice_between-requires-clause-end : goal.splice_between-requires-clause-end
splice_between-requires-clause-end g c q e =
    let given = c.requires.given in last_linked g.met.K.ForwardLinks.between_linked given.1 (told_some _ _ (rw e at (c.last_before-last.ensures given.0 given.1)))

pub splice_between-requires-clause-next : goal.splice_between-requires-clause-next
splice_between-requires-clause-next g c =
    let L = g.met.L.LinkOps in
    let at = c.requires.stands in
    end_named _ _ (λ q e. L.covered_has_name _ q (L.linked_is_covered _ q (gap_after_linked g.met.K.ForwardLinks.between_linked at.gap.front at.gap.back at.shown (sym e ∙ c.after-after.ensures at.gap at.shown at.after))))

pub returns-clause-spliced : goal.returns-clause-spliced
returns-clause-spliced g c =
    let e = c.splice_between.ensures in
    let stays = c.of.ensures.on ∙ c.get-current.ensures in record {
      spliced = λ gap t shown after given apart.
          e.spliced gap t shown (c.get-current.ensures ∙ after) (c.after-after.ensures gap shown after) given (c.last_before-last.ensures t given) apart;
      trace_stays = e.trace_stays;
      position = stays;
      stands = λ gap t shown after given apart.
          put_after gap t (e.spliced gap t shown (c.get-current.ensures ∙ after) (c.after-after.ensures gap shown after) given (c.last_before-last.ensures t given) apart).shows (stays ∙ after);
    }

pub returns-clause-kept : goal.returns-clause-kept
returns-clause-kept g c gap t shown after given apart =
    let following = c.after-after.ensures gap shown after in
    let put = c.splice_between.ensures.spliced gap t shown (c.get-current.ensures ∙ after) following given (c.last_before-last.ensures t given) apart in
    stands_here (record { front = gap.front; back = t ++ gap.back }) put.shows (c.of.ensures.on ∙ c.get-current.ensures ∙ after) c.of.ensures.caches
    (c.or.ensures ∙ ap (λ a. option_or a c.after-after.result) (c.first-first.ensures ∙ given.head) ∙ ap (λ a. option_or (first t) a) following ∙ first_of_both t gap.back)
