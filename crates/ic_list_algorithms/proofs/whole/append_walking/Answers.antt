use Rattle.std.proofs.Common.{[], None, inr, refl, sym, ◌∙◌, append-nil, subst, rules}
use Rattle.ic_link_ops.specs.Sequences.{at_back, last}
use Rattle.ic_link_ops.proofs.RepresentedLists.{last_linked, gap_after_linked}
use Rattle.ic_chain.specs.Walk.{WalkEnds}
use Rattle.ic_link_ops.proofs.Naming.{end_named}
use Rattle.ic_list_algorithms.proofs.whole.append_walking.Goals as goal

pub splice_between-requires-clause-before : goal.splice_between-requires-clause-before
splice_between-requires-clause-before g c q e =
    let p = c.requires.two in last_linked g.met.K.ForwardLinks.between_linked p.shown (sym e ∙ c.last_walking-last.ensures p.first p.shown)

pub splice_between-requires-clause-first : goal.splice_between-requires-clause-first
splice_between-requires-clause-first g c names q e =
    let p = c.requires.two in gap_after_linked g.met.K.ForwardLinks.between_linked [] p.second p.other (sym (rw c.take-given.ensures.whole at e) ∙ p.other.head)

pub splice_between-requires-clause-given : goal.splice_between-requires-clause-given
splice_between-requires-clause-given g c =
    let p = c.requires.two in
    end_named _ _ (λ q e. g.met.L.LinkOps.covered_has_name _ q (g.met.L.LinkOps.linked_is_covered _ q (gap_after_linked g.met.K.ForwardLinks.between_linked [] p.second p.other (sym (rw c.take-given.ensures.whole at e) ∙ p.other.head))))

pub returns : goal.returns
returns g c = record {
  appended = λ s u shown other apart.
      c.splice_between.ensures.spliced (at_back s) u (rw append-nil shown)
      (c.last_walking-last.ensures s shown) refl (rw c.take-given.ensures.whole other)
      (inr (subst (λ keeps. WalkEnds keeps None None (last u)) (sym g.met.K.SingleEnded.keeps_one) (refl, refl))) (rw append-nil apart);
  empty = search rules;
  trace_stays = search rules;
}
