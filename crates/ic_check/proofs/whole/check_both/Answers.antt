use Rattle.std.proofs.Common.{◌≡◌, List, ◌++◌, length-append, refl, sym, ap, ◌∙◌, subst, arith, rules}
use Rattle.ic_link_ops.specs.Prelude.{Place, IsDistinct, IsDisjoint, IsMember, IsLinked}
use Rattle.ic_link_ops.proofs.Prelude.{distinct_left, distinct_right, distinct_disjoint, disjoint_sym, few_places}
use Rattle.ic_check.specs.WholeTables.{RepresentsBoth}
use Rattle.ic_check.proofs.Marking.{also_on, unmarked_all, unmarked_beside, unmarked_apart, distinct_both, each_one, only_members, not_only, only_linked, only_on, left_marked}
use Rattle.ic_check.proofs.whole.check_both.Goals as goal

pub returns-in_default : goal.returns-in_default
returns-in_default g c = record {
  shown = λ s both. c.in_default.ensures.gathered both.front (record { each = both.each; distinct = distinct_left both.front both.back (subst IsDistinct both.parts both.distinct) })
      (unmarked_all _ c.clear.ensures.cleared both.front);
  marked = search rules;
  only = only_linked g.L.LinkOps.linked (g.L.LinkOps.table c.args.links.now) c.clear.ensures.cleared c.in_default.ensures.only;
  length = c.in_default.ensures.length ∙ c.clear.ensures.length;
}

pub returns-in_default-gather_each : goal.returns-in_default-gather_each
returns-in_default-gather_each g c = record {
  shown = λ s both. let k = c.in-Some.ensures.gathered in
      let parts = subst IsDistinct both.parts both.distinct in
      let same = each_one (λ x. g.C.Gather.Represents x (g.L.LinkOps.table c.args.links.now)) (λ x u r h j. g.met.C.Gather.represents_one x _ u r h j) c.args.first.now k.0 both.front k.1.each both.each in
      let apart : IsDisjoint both.back k.0 = subst (IsDisjoint both.back) (sym same) (disjoint_sym both.front both.back (distinct_disjoint both.front both.back parts)) in
      c.in_default-gather_each.ensures.gathered both.back (record { each = both.each_other; distinct = distinct_right both.front both.back parts })
      (unmarked_beside k.4 both.back apart (unmarked_all _ c.clear.ensures.cleared both.back));
  marked = search rules;
  only = only_linked g.L.LinkOps.linked (g.L.LinkOps.table c.args.links.now) c.clear.ensures.cleared (only_on g.L.LinkOps.linked (g.L.LinkOps.table c.args.links.now) c.in-Some.ensures.only c.in_default-gather_each.ensures.only);
  length = c.in_default-gather_each.ensures.length ∙ c.in-Some.ensures.length ∙ c.clear.ensures.length;
}

pub overflow_add-result : goal.overflow_add-result
overflow_add-result g c =
    let k = c.in-Some.ensures.gathered in
    let m = c.in-Some-gather_each.ensures.gathered in
    let few = few_places (k.0 ++ m.0) (distinct_both k.0 m.0 k.1.distinct m.1.distinct (unmarked_apart k.4 m.0 m.3)) in
    omega (arith, few, length-append k.0 m.0, k.2, m.2)

pub returns-then-are_all_marked : goal.returns-then-are_all_marked
returns-then-are_all_marked g c = record {
  shown = let k = c.in-Some.ensures.gathered in
      let m = c.in-Some-gather_each.ensures.gathered in (
        k.0 ++ m.0,
        record {
          front = k.0;
          back = m.0;
          parts = refl;
          each = k.1.each;
          each_other = m.1.each;
          distinct = distinct_both k.0 m.0 k.1.distinct m.1.distinct (unmarked_apart k.4 m.0 m.3);
          only = only_members g.L.LinkOps.linked (g.L.LinkOps.table c.args.links.now) c.clear.ensures.cleared (also_on k.4 m.4) (c.are_all_marked.ensures.0 c.if-are_all_marked.true);
        },
        omega (arith, length-append k.0 m.0, k.2, m.2),
      );
  marked = let k = c.in-Some.ensures.gathered in
      let m = c.in-Some-gather_each.ensures.gathered in
      left_marked c.clear.ensures.cleared c.clear.ensures.none (also_on k.4 m.4)
      (RepresentsBoth (λ x. g.C.Gather.Represents x (g.L.LinkOps.table c.args.links.now)) (λ x. g.D.Gather.Represents x (g.L.LinkOps.table c.args.links.now)) g.L.LinkOps.linked (g.L.LinkOps.table c.args.links.now) c.args.first.now c.args.second.now)
      (record {
        front = k.0;
        back = m.0;
        parts = refl;
        each = k.1.each;
        each_other = m.1.each;
        distinct = distinct_both k.0 m.0 k.1.distinct m.1.distinct (unmarked_apart k.4 m.0 m.3);
        only = only_members g.L.LinkOps.linked (g.L.LinkOps.table c.args.links.now) c.clear.ensures.cleared (also_on k.4 m.4) (c.are_all_marked.ensures.0 c.if-are_all_marked.true);
      })
      (omega (arith, length-append k.0 m.0, k.2, m.2));
  only = only_linked g.L.LinkOps.linked (g.L.LinkOps.table c.args.links.now) c.clear.ensures.cleared (only_on g.L.LinkOps.linked (g.L.LinkOps.table c.args.links.now) c.in-Some.ensures.only c.in-Some-gather_each.ensures.only);
  length = c.in-Some-gather_each.ensures.length ∙ c.in-Some.ensures.length ∙ c.clear.ensures.length;
}

pub returns-else-are_all_marked : goal.returns-else-are_all_marked
returns-else-are_all_marked g c = record {
  shown = λ s both. let k = c.in-Some.ensures.gathered in
      let m = c.in-Some-gather_each.ensures.gathered in
      let front = each_one (λ x. g.C.Gather.Represents x (g.L.LinkOps.table c.args.links.now)) (λ x u r h j. g.met.C.Gather.represents_one x _ u r h j) c.args.first.now k.0 both.front k.1.each both.each in
      let back = each_one (λ x. g.D.Gather.Represents x (g.L.LinkOps.table c.args.links.now)) (λ x u r h j. g.met.D.Gather.represents_one x _ u r h j) c.args.second.now m.0 both.back m.1.each both.each_other in
      let same : s ≡ k.0 ++ m.0 = both.parts ∙ ap (λ (x : List Place). x ++ both.back) (sym front) ∙ ap (λ (x : List Place). k.0 ++ x) (sym back) in
      not_only g.L.LinkOps.linked (g.L.LinkOps.table c.args.links.now) c.clear.ensures.cleared (also_on k.4 m.4)
      (λ all. let met = c.are_all_marked.ensures.1 all in cc met)
      (subst (λ (x : List Place). (p : Place) → IsLinked g.L.LinkOps.linked (g.L.LinkOps.table c.args.links.now) p → IsMember p x) same both.only);
  marked = search rules;
  only = only_linked g.L.LinkOps.linked (g.L.LinkOps.table c.args.links.now) c.clear.ensures.cleared (only_on g.L.LinkOps.linked (g.L.LinkOps.table c.args.links.now) c.in-Some.ensures.only c.in-Some-gather_each.ensures.only);
  length = c.in-Some-gather_each.ensures.length ∙ c.in-Some.ensures.length ∙ c.clear.ensures.length;
}
