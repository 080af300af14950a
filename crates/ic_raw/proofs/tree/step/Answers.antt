use Rattle.std.proofs.Common.{◌≡◌, [], Some, None, Option, refl, sym, ◌∙◌, subst}
use Rattle.ic_link_ops.specs.Frames.{across}
use Rattle.ic_rbtree.proofs.Removing.{represented_of, represents_of}
use Rattle.ic_rbtree.specs.Prelude.{IsBeside, StepsTo, root_of}
use Rattle.ic_raw.specs.Prelude.{IsFound, IsNoneOrLinked, is_linked_three, place_of}
use Rattle.ic_raw.specs.Tree.{node, lent_table}
use Rattle.ic_raw.specs.Seen.{seen, seen_node, has_place, HandsOutStep, StepEndsIn}
use Rattle.ic_unsafe_ref.specs.declared.place.Place.{Place}
use Rattle.ic_link_ops.proofs.SequenceLemmas.{none_not}
use Rattle.ic_raw.proofs.Faults.{by_others, faultless}
use Rattle.ic_raw.proofs.Gaps.{never}
use Rattle.ic_raw.proofs.Trees.{in_range, end_in, closed, beside_stands, one_beside, seen_represented}
use Rattle.ic_raw.proofs.tree.step.Goals as goal

pub returns-then-not-stand-clause-found : goal.returns-then-not-stand-clause-found
returns-then-not-stand-clause-found c cut member shown at is =
    absurd (never c.if-not-stand.true (c.stand.ensures.shown c.args.side cut shown (subst (λ o. IsBeside c.args.side cut o) (sym c.place_of.ensures ∙ c.in-Some.is) at)))

pub step_bounded-beside-requires : goal.step_bounded-beside-requires
step_bounded-beside-requires c =
    let t = lent_table c.args.links.now in
    let law = in_range c.args.links.now in
    let ok = c.if-not-stand.false in
    (has_place t, closed t c.root.result (rw c.root.ensures (end_in t law _ (c.stand.ensures.root ok))), (end_in t law (Some c.in-Some.member) (c.stand.ensures.at ok), tt))

pub tell-requires : goal.tell-requires
tell-requires c =
    let t = lent_table c.args.links.now in
    let law = in_range c.args.links.now in
    let ok = c.if-not-stand.false in
    c.step_bounded-beside.ensures.safe (has_place t) (closed t c.root.result (rw c.root.ensures (end_in t law _ (c.stand.ensures.root ok)))) (end_in t law (Some c.in-Some.member) (c.stand.ensures.at ok))

pub returns-then-tell-clause-found : goal.returns-then-tell-clause-found
returns-then-tell-clause-found c cut member shown at is =
    let t = lent_table c.args.links.now in
    let there = c.step_bounded-beside.ensures.leads cut (rw c.root.ensures (represents_of seen_node (seen_represented t (in_range c.args.links.now) [] (represented_of node shown) tt)))
    (subst (λ o. IsBeside c.args.side cut o) (sym c.place_of.ensures ∙ c.in-Some.is) at) in
    let links_back = c.tell.ensures.links_back c.if-tell.true in
    subst (λ o. IsFound o 0 c.tell.new.found) (sym links_back.1 ∙ one_beside (across c.args.side) cut there is) (record { accepted = refl; done = links_back.3 })

pub returns-then-tell-clause-looked : goal.returns-then-tell-clause-looked
returns-then-tell-clause-looked c made =
    let ok = c.if-not-stand.false in
    (subst (λ o. IsNoneOrLinked is_linked_three (lent_table c.args.links.now) o) (sym c.in-Some.is ∙ c.place_of.ensures) (c.stand.ensures.at ok), c.stand.ensures.root ok)

pub returns-clause-found : goal.returns-clause-found
returns-clause-found c cut member shown at is =
    let t = lent_table c.args.links.now in
    let there = c.step_bounded-beside.ensures.leads cut (rw c.root.ensures (represents_of seen_node (seen_represented t (in_range c.args.links.now) [] (represented_of node shown) tt)))
    (subst (λ o. IsBeside c.args.side cut o) (sym c.place_of.ensures ∙ c.in-Some.is) at) in
    subst (λ o. IsFound o c.nothing_found.result c.tell.new.found) (one_beside (across c.args.side) cut there is)
    (none_found c.step_bounded-beside.result refl (beside_stands (across c.args.side) cut shown there)) where
      none_found : (o : Option Place) → c.step_bounded-beside.result ≡ o → IsNoneOrLinked is_linked_three (lent_table c.args.links.now) c.step_bounded-beside.result → IsFound o c.nothing_found.result c.tell.new.found
      none_found None e stands = c.nothing_found.ensures.null.1 e
      none_found (Some q) e stands = absurd (never c.if-tell.false (c.tell.ensures.stands stands (λ none. none_not q (sym none ∙ e))))

pub returns-clause-looked : goal.returns-clause-looked
returns-clause-looked c made =
    let ok = c.if-not-stand.false in
    (subst (λ o. IsNoneOrLinked is_linked_three (lent_table c.args.links.now) o) (sym c.in-Some.is ∙ c.place_of.ensures) (c.stand.ensures.at ok), c.stand.ensures.root ok)

pub returns-clause-why : goal.returns-clause-why
returns-clause-why c made found =
    let t = lent_table c.args.links.now in
    let stands = subst (λ o. IsNoneOrLinked is_linked_three t o) (sym c.in-Some.is ∙ c.place_of.ensures) (c.stand.ensures.at c.if-not-stand.false) in
    c.nothing_found.ensures.why found ∙ by_others [] (sym (faultless is_linked_three t (place_of c.args.at) stands)) refl

-- the place whose number the caller passes is the member from which the step begins
pub returns-then-tell-clause-stepped : goal.returns-then-tell-clause-stepped
returns-then-tell-clause-stepped c ok =
    let links_back = c.tell.ensures.links_back c.if-tell.true in
    let t = lent_table c.args.links.now in (
      links_back.0,
      links_back.2,
      links_back.3,
      subst (λ o. StepsTo seen_node (seen t) (root_of c.args.tree.now) c.args.side o links_back.0) (sym c.in-Some.is ∙ c.place_of.ensures)
          (c.step_bounded-beside.ensures.reached links_back.0 links_back.1),
    )

pub returns-clause-ended : goal.returns-clause-ended
returns-clause-ended c null =
    subst (StepEndsIn (lent_table c.args.links.now) (root_of c.args.tree.now) c.args.side) (sym c.in-Some.is ∙ c.place_of.ensures)
    (c.step_bounded-beside.ensures.ended (c.nothing_found.ensures.null.0 null))

pub returns-in_default-clause-stepped : goal.returns-in_default-clause-stepped
returns-in_default-clause-stepped c ok =
    subst (λ o. HandsOutStep (lent_table c.args.links.now) (root_of c.args.tree.now) c.args.side o c.step_from_none.new.found) (sym c.in_default.is ∙ c.place_of.ensures)
    (c.step_from_none.ensures.stepped ok)

pub returns-in_default-clause-ended : goal.returns-in_default-clause-ended
returns-in_default-clause-ended c null =
    subst (StepEndsIn (lent_table c.args.links.now) (root_of c.args.tree.now) c.args.side) (sym c.in_default.is ∙ c.place_of.ensures) (c.step_from_none.ensures.ended null)
