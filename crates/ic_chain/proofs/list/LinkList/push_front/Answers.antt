use Rattle.std.proofs.Common.{refl, ◌∙◌, rules}
use Rattle.ic_link_ops.specs.Sequences.{at_front}
use Rattle.ic_chain.proofs.list.LinkList.push_front.Goals as goal

pub insert_between-requires-clause-shown : goal.insert_between-requires-clause-shown
insert_between-requires-clause-shown g c =
    let s = c.requires.shown in
    (at_front s.0, s.1, refl, c.first-head.ensures ∙ s.1.head)

pub returns : goal.returns
returns g c = record {
  inserted = λ s shown. rw (← c.place.ensures) (c.if-not-insert_between.ensures.inserted (at_front s) shown refl (c.first-head.ensures ∙ shown.head)).shows;
  acquired = search rules;
  refused = search rules;
  unchanged = search rules;
  frame = λ s shown. rw (← c.place.ensures) (c.insert_between.ensures.frame (at_front s) shown refl (c.first-head.ensures ∙ shown.head));
}
