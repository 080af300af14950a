use Rattle.std.proofs.Common.{List, sym, ◌∙◌, subst, rules}
use Rattle.ic_link_ops.specs.Prelude.{Place, IsMember, IsLinked}
use Rattle.ic_check.specs.WholeTables.{RepresentsAll}
use Rattle.ic_check.proofs.Marking.{unmarked_all, each_one, only_members, not_only, only_linked, left_marked}
use Rattle.ic_check.proofs.whole.check_all.Goals as goal

pub returns-in_default : goal.returns-in_default
returns-in_default g c = record {
  shown = λ s whole. c.in_default.ensures.gathered s (record { each = whole.each; distinct = whole.distinct }) (unmarked_all _ c.clear.ensures.cleared s);
  marked = search rules;
  only = only_linked g.L.LinkOps.linked (g.L.LinkOps.table c.args.links.now) c.clear.ensures.cleared c.in_default.ensures.only;
  length = c.in_default.ensures.length ∙ c.clear.ensures.length;
}

pub returns-then-are_all_marked : goal.returns-then-are_all_marked
returns-then-are_all_marked g c = record {
  shown = let k = c.in-Some.ensures.gathered in (
    k.0,
    record {
      each = k.1.each;
      distinct = k.1.distinct;
      only = only_members g.L.LinkOps.linked (g.L.LinkOps.table c.args.links.now) c.clear.ensures.cleared k.4 (c.are_all_marked.ensures.0 c.if-are_all_marked.true);
    },
    k.2,
  );
  marked = let k = c.in-Some.ensures.gathered in
      left_marked c.clear.ensures.cleared c.clear.ensures.none k.4
      (RepresentsAll (λ x. g.C.Gather.Represents x (g.L.LinkOps.table c.args.links.now)) g.L.LinkOps.linked (g.L.LinkOps.table c.args.links.now) c.args.collections.now)
      (record {
        each = k.1.each;
        distinct = k.1.distinct;
        only = only_members g.L.LinkOps.linked (g.L.LinkOps.table c.args.links.now) c.clear.ensures.cleared k.4 (c.are_all_marked.ensures.0 c.if-are_all_marked.true);
      })
      k.2;
  only = only_linked g.L.LinkOps.linked (g.L.LinkOps.table c.args.links.now) c.clear.ensures.cleared c.in-Some.ensures.only;
  length = c.in-Some.ensures.length ∙ c.clear.ensures.length;
}

pub returns-else-are_all_marked : goal.returns-else-are_all_marked
returns-else-are_all_marked g c = record {
  shown = λ s whole. let k = c.in-Some.ensures.gathered in
      let same = each_one (λ x. g.C.Gather.Represents x (g.L.LinkOps.table c.args.links.now)) (λ x u r h j. g.met.C.Gather.represents_one x _ u r h j) c.args.collections.now k.0 s k.1.each whole.each in
      not_only g.L.LinkOps.linked (g.L.LinkOps.table c.args.links.now) c.clear.ensures.cleared k.4
      (λ all. let met = c.are_all_marked.ensures.1 all in cc met)
      (subst (λ (x : List Place). (p : Place) → IsLinked g.L.LinkOps.linked (g.L.LinkOps.table c.args.links.now) p → IsMember p x) (sym same) whole.only);
  marked = search rules;
  only = only_linked g.L.LinkOps.linked (g.L.LinkOps.table c.args.links.now) c.clear.ensures.cleared c.in-Some.ensures.only;
  length = c.in-Some.ensures.length ∙ c.clear.ensures.length;
}
