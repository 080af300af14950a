use Rattle.std.proofs.Common.{◌∙◌}
use Rattle.ic_link_ops.specs.Chains.{RepresentsChain}
use Rattle.ic_check.proofs.Marking.{left_gathered, shown_gathered, only_linked}
use Rattle.ic_check.proofs.whole.check_marking.Goals as goal

pub returns : goal.returns
returns g c = record {
  shown =
      shown_gathered (RepresentsChain g.K.ForwardLinks.Between g.K.ListKind.kept (g.L.LinkOps.table c.args.links.now) c.args.list.now) c.clear.new.marks c.gather.new.marks c.clear.ensures.cleared
      c.gather.result c.gather.ensures.gathered;
  marked =
      left_gathered (RepresentsChain g.K.ForwardLinks.Between g.K.ListKind.kept (g.L.LinkOps.table c.args.links.now) c.args.list.now) c.clear.new.marks c.gather.new.marks c.clear.ensures.cleared c.clear.ensures.none
      c.gather.result c.gather.ensures.gathered;
  only = only_linked g.L.LinkOps.linked (g.L.LinkOps.table c.args.links.now) c.clear.ensures.cleared c.gather.ensures.only;
  length = c.gather.ensures.length ∙ c.clear.ensures.length;
}
