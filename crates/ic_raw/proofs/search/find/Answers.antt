use Rattle.std.proofs.Common.{Some, None, cond, refl, sym, ap, ◌∙◌, is_eq, is_lt}
use Rattle.ic_link_ops.proofs.SequenceLemmas.{some_same}
use Rattle.ic_link_ops.specs.Sequences.{Cut, last}
use Rattle.ic_rbtree.specs.Prelude.{if_passes, equal_at, goes_left, is_beyond}
use Rattle.ic_rbtree.specs.declared.keys.key_adapter.Bound.TheVariants.{Included}
use Rattle.ic_rbtree.proofs.Closed.{in_there, read_in}
use Rattle.ic_rbtree.proofs.Gaps.{gap_same}
use Rattle.ic_rbtree.proofs.Sending.{lower_border, upper_border, not_ge}
use Rattle.ic_raw.specs.Keys.{against, equals_of}
use Rattle.ic_raw.specs.Seen.{seen_node, has_place}
use Rattle.ic_raw.specs.Tree.{lent_table}
use Rattle.ic_raw.proofs.Keys.{keyed, finds, ends_at, is_some, at_least}
use Rattle.ic_raw.proofs.Trees.{in_range, end_in, closed, seen_represents}
use Rattle.ic_raw.proofs.search.find.Goals as goal

pub returns-in_default-clause-found : goal.returns-in_default-clause-found
returns-in_default-clause-found c s shown =
    let ends = c.descend.ensures.ends s (seen_represents (lent_table c.args.links.now) (in_range c.args.links.now) shown) in
    absurd (c.in_default.not-Some ends.0 ends.1)

pub compare_at-requires : goal.compare_at-requires
compare_at-requires c =
    let t = lent_table c.args.links.now in
    let in_closed_set = rw c.in-Some.is at (c.descend.ensures.in_closed_set (has_place t) (closed t _ (end_in t (in_range c.args.links.now) _ c.requires.root))) in
    keyed t c.args.keys.now c.requires.keys c.in-Some-get.member (in_there (has_place t) in_closed_set.1.1.0 (sym c.get.ensures ∙ c.in-Some-get.is))

pub returns-in_default-get-clause-found : goal.returns-in_default-get-clause-found
returns-in_default-get-clause-found c s shown =
    let h = seen_represents (lent_table c.args.links.now) (in_range c.args.links.now) shown in
    let at = against c.args.key c.args.keys.now in
    let ends = ends_at h.tree at (c.descend.ensures.ends s h) c.in-Some.is (c.equals_of.ensures ∙ ap equals_of c.in-Equal.is) in
    (None, refl, rw c.in-Equal.is (finds h ends (ap (if_passes (equal_at at)) (sym c.in_default-get.is ∙ c.get.ensures))))

pub returns-then-is_eq-clause-found : goal.returns-then-is_eq-clause-found
returns-then-is_eq-clause-found c s shown =
    let h = seen_represents (lent_table c.args.links.now) (in_range c.args.links.now) shown in
    let at = against c.args.key c.args.keys.now in
    let ends = ends_at h.tree at (c.descend.ensures.ends s h) c.in-Some.is (c.equals_of.ensures ∙ ap equals_of c.in-Equal.is) in
    let equal = sym c.if-is_eq.true ∙ c.is_eq.ensures ∙ ap is_eq c.compare_at.ensures in (
      Some c.in-Some-get.member,
      refl,
      rw c.in-Equal.is (finds h ends (ap (λ b. cond b (Some c.in-Some-get.member) None) equal ∙ ap (if_passes (equal_at at)) (sym c.in-Some-get.is ∙ c.get.ensures))),
    )

pub returns-else-is_eq-clause-found : goal.returns-else-is_eq-clause-found
returns-else-is_eq-clause-found c s shown =
    let h = seen_represents (lent_table c.args.links.now) (in_range c.args.links.now) shown in
    let at = against c.args.key c.args.keys.now in
    let ends = ends_at h.tree at (c.descend.ensures.ends s h) c.in-Some.is (c.equals_of.ensures ∙ ap equals_of c.in-Equal.is) in
    let other = sym c.if-is_eq.false ∙ c.is_eq.ensures ∙ ap is_eq c.compare_at.ensures in (
      None,
      refl,
      rw c.in-Equal.is (finds h ends (ap (λ b. cond b (Some c.in-Some-get.member) None) other ∙ ap (if_passes (equal_at at)) (sym c.in-Some-get.is ∙ c.get.ensures))),
    )

pub returns-in-AtLeast-clause-found : goal.returns-in-AtLeast-clause-found
returns-in-AtLeast-clause-found c s shown =
    let h = seen_represents (lent_table c.args.links.now) (in_range c.args.links.now) shown in
    let at = against c.args.key c.args.keys.now in
    let ends = ends_at h.tree at (c.descend.ensures.ends s h) c.in-Some.is (c.equals_of.ensures ∙ ap equals_of c.in-AtLeast.is) in
    (_, refl, rw c.in-AtLeast.is (lower_border seen_node h (Included at) (c.get-in-AtLeast.ensures ∙ ends.back_is)))

pub returns-in-AtMost-clause-found : goal.returns-in-AtMost-clause-found
returns-in-AtMost-clause-found c s shown =
    let h = seen_represents (lent_table c.args.links.now) (in_range c.args.links.now) shown in
    let at = against c.args.key c.args.keys.now in
    let ends = ends_at h.tree at (c.descend.ensures.ends s h) c.in-Some.is (c.equals_of.ensures ∙ ap equals_of c.in-AtMost.is) in (
      _,
      refl,
      rw c.in-AtMost.is (upper_border seen_node h (Included at) (c.get-in-AtMost.ensures ∙ ends.front_is
          ∙ ap (λ (g : Cut). last g.front) (gap_same (λ p. is_lt (at p)) (is_beyond (Included at)) (λ p. not_ge (at p)) h.tree))),
    )

pub returns-in_default-get-clause-ended : goal.returns-in_default-get-clause-ended
returns-in_default-get-clause-ended c _ = rw c.equals_of.ensures at (c.descend.ensures.down (is_some c.in-Some.is))

pub returns-then-is_eq-clause-ended : goal.returns-then-is_eq-clause-ended
returns-then-is_eq-clause-ended c _ = rw c.equals_of.ensures at (c.descend.ensures.down (is_some c.in-Some.is))

pub returns-else-is_eq-clause-ended : goal.returns-else-is_eq-clause-ended
returns-else-is_eq-clause-ended c _ = rw c.equals_of.ensures at (c.descend.ensures.down (is_some c.in-Some.is))

pub returns-in-AtLeast-clause-ended : goal.returns-in-AtLeast-clause-ended
returns-in-AtLeast-clause-ended c _ = rw c.equals_of.ensures at (c.descend.ensures.down (is_some c.in-Some.is))

pub returns-in-AtMost-clause-ended : goal.returns-in-AtMost-clause-ended
returns-in-AtMost-clause-ended c _ = rw c.equals_of.ensures at (c.descend.ensures.down (is_some c.in-Some.is))

pub returns-then-is_eq-clause-bounded : goal.returns-then-is_eq-clause-bounded
returns-then-is_eq-clause-bounded c q is =
    rw (c.in-Equal.is, ← some_same (some_same is)) (ap is_eq (sym c.compare_at.ensures) ∙ sym c.is_eq.ensures ∙ c.if-is_eq.true)

pub returns-in-AtLeast-clause-bounded : goal.returns-in-AtLeast-clause-bounded
returns-in-AtLeast-clause-bounded c q is =
    let turned = rw c.in-Some.is at c.descend.ensures.turned in
    rw c.in-AtLeast.is (sym (ap (λ side. goes_left side (against c.args.key c.args.keys.now q)) (c.equals_of.ensures ∙ ap equals_of c.in-AtLeast.is))
    ∙ turned.back q (sym c.get-in-AtLeast.ensures ∙ some_same is))

pub returns-in-AtMost-clause-bounded : goal.returns-in-AtMost-clause-bounded
returns-in-AtMost-clause-bounded c q is =
    let turned = rw c.in-Some.is at c.descend.ensures.turned in
    rw c.in-AtMost.is (at_least _ (sym (ap (λ side. goes_left side (against c.args.key c.args.keys.now q)) (c.equals_of.ensures ∙ ap equals_of c.in-AtMost.is))
    ∙ turned.front q (sym c.get-in-AtMost.ensures ∙ some_same is)))

pub returns-then-is_eq-clause-in_closed_set : goal.returns-then-is_eq-clause-in_closed_set
returns-then-is_eq-clause-in_closed_set c S h =
    let in_closed_set = rw c.in-Some.is at (c.descend.ensures.in_closed_set S h) in
    in_there S in_closed_set.1.1.0 (sym c.get.ensures ∙ c.in-Some-get.is)

pub returns-in-AtLeast-clause-in_closed_set : goal.returns-in-AtLeast-clause-in_closed_set
returns-in-AtLeast-clause-in_closed_set c S h =
    let in_closed_set = rw c.in-Some.is at (c.descend.ensures.in_closed_set S h) in
    read_in S in_closed_set.1.1.0 c.get-in-AtLeast.ensures

pub returns-in-AtMost-clause-in_closed_set : goal.returns-in-AtMost-clause-in_closed_set
returns-in-AtMost-clause-in_closed_set c S h =
    let in_closed_set = rw c.in-Some.is at (c.descend.ensures.in_closed_set S h) in
    read_in S in_closed_set.1.0 c.get-in-AtMost.ensures
