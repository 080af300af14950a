use Rattle.std.proofs.Common.{[], refl, ◌∙◌, sym}
use Rattle.ic_link_ops.specs.Prelude.{Cut, join, IsBefore, Splits, RepresentsChain}
use Rattle.ic_link_ops.proofs.Prelude.{absent_turned, gap_linked, gap_after_linked}
use Rattle.ic_link_ops.proofs.Positions.{gap_there, split_before}
use Rattle.ic_link_ops.proofs.Naming.{end_named}
use Rattle.ic_chain.proofs.Standing.{stands, stays}
use Rattle.ic_chain.proofs.edits.LinkListBidirectionalSplice.split_before_at.Goals as goal
use Rattle.ic_chain.proofs.edits.LinkListBidirectionalSplice.split_before_at.Given.{Over}

pub split_between-rest-requires-clause-before : goal.split_between-rest-requires-clause-before
split_between-rest-requires-clause-before g c q e =
    let k = gap_there (stands c.requires.stands) in
    gap_linked g.met.K.ForwardLinks.between_linked k.0.front k.0.back k.1 (sym e ∙ c.before-before.ensures k.0 k.1 k.2)

pub split_between-rest-requires-clause-after : goal.split_between-rest-requires-clause-after
split_between-rest-requires-clause-after g c names q e =
    let k = gap_there (stands c.requires.stands) in
    gap_after_linked g.met.K.ForwardLinks.between_linked k.0.front k.0.back k.1 (sym e ∙ c.get-current.ensures ∙ k.2)

pub split_between-rest-requires-clause-next : goal.split_between-rest-requires-clause-next
split_between-rest-requires-clause-next g c =
    let L = g.met.L.LinkOps in
    let k = gap_there (stands c.requires.stands) in
    end_named _ _ (λ q e. L.covered_has_name _ q (L.linked_is_covered _ q (gap_after_linked g.met.K.ForwardLinks.between_linked k.0.front k.0.back k.1 (sym e ∙ c.get-current.ensures ∙ k.2))))

-- THE SPLIT: the list keeps the members after the gap before the position, and the members before the gap are returned as a list
splits : (g : Over) (c : goal.After-replace g) (gap : Cut) → RepresentsChain g.K.ForwardLinks.Between g.K.ListKind.kept (g.L.LinkOps.table c.args.links.now) c.args.self.now (join gap)
    → IsBefore gap (g.K.Position.Position.member c.args.at.now)
    → Splits (RepresentsChain g.K.ForwardLinks.Between g.K.ListKind.kept) (g.L.LinkOps.table c.args.links.now) (g.L.LinkOps.table c.split_between-rest.new.links) c.replace.new.dest c.replace.result gap.back gap.front
splits g c gap shown before =
    let split = c.split_between-rest.ensures.split gap shown (c.before-before.ensures gap shown before) (c.get-current.ensures ∙ before) in record {
      keeps = rw c.replace.ensures.after split.hands_out;
      hands_out = rw c.replace.ensures.value split.keeps;
      frame = record { extent = split.frame.extent; others = λ q out. split.frame.others q (absent_turned q gap.front gap.back out) };
    }

pub returns-clause-split : goal.returns-clause-split
returns-clause-split g c = record {
  split = splits g c;
  trace_stays = c.split_between-rest.ensures.trace_stays;
  position = refl;
  stands = split_before (stands c.requires.stands) (splits g c) refl;
}

pub returns-clause-kept : goal.returns-clause-kept
returns-clause-kept g c =
    let k = gap_there (stands c.requires.stands) in record {
      stands = stays g.met.K.ForwardLinks.leads c.requires.stands k.0 k.1 k.2 [] (splits g c k.0 k.1 k.2).keeps;
      keeps = tt;
    }
