use Rattle.std.proofs.Common.{◌∙◌, sym, refl, [], drop, rules}
use Rattle.ic_link_ops.proofs.RepresentedLists.{represents_first, represents_middle}
use Rattle.ic_chain.proofs.list.LinkList.pop_front.Goals as goal

pub returns : goal.returns
returns g c = record {
  answer = search rules;
  removed = λ s shown.
      let whole = rw (represents_first s shown (sym c.first.ensures ∙ c.in_ok-front.was)) at shown in
      c.unlink.ensures.removed [] (drop 1 s) whole refl
      (c.next-after.ensures ∙ g.met.K.ForwardLinks.leads _ _ _ (represents_middle [] (drop 1 s) whole));
  released = search rules;
  empty = search rules;
  frame = λ s shown.
      let is = represents_first s shown (sym c.first.ensures ∙ c.in_ok-front.was) in
      let whole = rw is at shown in
      rw is
      (c.unlink.ensures.frame [] (drop 1 s) whole refl
      (c.next-after.ensures ∙ g.met.K.ForwardLinks.leads _ _ _ (represents_middle [] (drop 1 s) whole)));
}
