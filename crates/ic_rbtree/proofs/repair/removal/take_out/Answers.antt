use Rattle.std.proofs.Common.{Some, List, ◌∷◌, refl, sym, ap, subst}
use Rattle.ic_link_ops.specs.Prelude.{Place, IsAbsent}
use Rattle.ic_link_ops.proofs.Prelude.{distinct_right, some_same, is_end_yes, is_end_no}
use Rattle.ic_rbtree.proofs.Closed.{in_there, in_both, weaker}
use Rattle.ic_rbtree.proofs.Removing.{spot, represents_of, lone_taken, next, place_taken}
use Rattle.ic_rbtree.proofs.repair.removal.take_out.Goals as goal

pub returns-in_default-clause-taken : goal.returns-in_default-clause-taken
returns-in_default-clause-taken g c base front back ps h =
    lone_taken g.N.NodeStore.node (spot g.N.NodeStore.node front c.args.place back h) c.second_child.result c.second_child.ensures c.in_default.is c.splice_out.ensures.taken

pub outermost_bounded-next-requires : goal.outermost_bounded-next-requires
outermost_bounded-next-requires g c =
    let r = c.requires in
    (c.args.root.now, (r.0, r.1, (in_there r.0 (in_both g.N.NodeStore.node r.1 c.args.place r.2.0 c.second_child.ensures) c.in-Some.is, tt)))

pub splice_out-short-requires : goal.splice_out-short-requires
splice_out-short-requires g c =
    let r = c.requires in
    (r.0, r.1, (c.outermost_bounded-next.ensures.safe c.args.root.now r.0 r.1 (in_there r.0 (in_both g.N.NodeStore.node r.1 c.args.place r.2.0 c.second_child.ensures) c.in-Some.is, tt)).1)

pub take_place-requires-clause-apart : goal.take_place-requires-clause-apart
take_place-requires-clause-apart g c e = is_end_no (Some c.outermost_bounded-next.result) c.args.place (sym c.if-is_at.ensures) (ap (λ p. Some p) (sym e))

pub take_place-requires-clause-safe : goal.take_place-requires-clause-safe
take_place-requires-clause-safe g c =
    let r = c.requires in
    let next = (c.outermost_bounded-next.ensures.safe c.args.root.now r.0 r.1 (in_there r.0 (in_both g.N.NodeStore.node r.1 c.args.place r.2.0 c.second_child.ensures) c.in-Some.is, tt)).1 in
    (r.0, weaker g.N.NodeStore.node (c.splice_out-short.ensures.safe r.0 r.1 next).0 (Some c.outermost_bounded-next.result), (r.2.0, next))

pub returns-then-is_at-clause-taken : goal.returns-then-is_at-clause-taken
returns-then-is_at-clause-taken g c base front back ps h =
    let n = g.N.NodeStore.node in
    let x = spot n front c.args.place back h in
    let here = some_same (is_end_yes (Some c.outermost_bounded-next.result) c.args.place (sym c.if-is_at.ensures)) in
    let back_is = (next n x c.in-Some.right c.second_child.result c.second_child.ensures c.in-Some.is c.outermost_bounded-next.result c.outermost_bounded-next.ensures.outermost).back_is in
    let apart = subst (λ (s : List Place). IsAbsent c.args.place s) back_is (distinct_right front (c.args.place ∷ back) (represents_of n h).held.distinct).0 in
    absurd (apart.0 (sym here))

pub returns-then-is_at-clause-safe : goal.returns-then-is_at-clause-safe
returns-then-is_at-clause-safe g c S h i =
    c.splice_out-short.ensures.safe S h (c.outermost_bounded-next.ensures.safe c.args.root.now S h (in_there S (in_both g.N.NodeStore.node h c.args.place i.0 c.second_child.ensures) c.in-Some.is, tt)).1

pub returns-then-is_at-2-clause-taken : goal.returns-then-is_at-2-clause-taken
returns-then-is_at-2-clause-taken g c base front back ps h =
    let n = g.N.NodeStore.node in
    let here = is_end_yes c.splice_out-short.result.1 c.args.place (sym c.if-is_at-2.ensures) in
    place_taken n (spot n front c.args.place back h) c.in-Some.right c.second_child.result c.second_child.ensures c.in-Some.is c.outermost_bounded-next.result c.outermost_bounded-next.ensures.outermost
    c.splice_out-short.ensures.taken c.take_place.ensures.taken (λ e. refl) (λ no. absurd (no here))

pub returns-then-is_at-2-clause-safe : goal.returns-then-is_at-2-clause-safe
returns-then-is_at-2-clause-safe g c S h i =
    let next = (c.outermost_bounded-next.ensures.safe c.args.root.now S h (in_there S (in_both g.N.NodeStore.node h c.args.place i.0 c.second_child.ensures) c.in-Some.is, tt)).1 in
    (c.take_place.ensures.safe S (weaker g.N.NodeStore.node (c.splice_out-short.ensures.safe S h next).0 (Some c.outermost_bounded-next.result)) (i.0, next), next)

pub returns-clause-taken : goal.returns-clause-taken
returns-clause-taken g c base front back ps h =
    let n = g.N.NodeStore.node in
    let other = is_end_no c.splice_out-short.result.1 c.args.place (sym c.if-is_at-2.ensures) in
    place_taken n (spot n front c.args.place back h) c.in-Some.right c.second_child.result c.second_child.ensures c.in-Some.is c.outermost_bounded-next.result c.outermost_bounded-next.ensures.outermost
    c.splice_out-short.ensures.taken c.take_place.ensures.taken (λ e. absurd (other e)) (λ no. refl)

pub returns-clause-safe : goal.returns-clause-safe
returns-clause-safe g c S h i =
    let next = (c.outermost_bounded-next.ensures.safe c.args.root.now S h (in_there S (in_both g.N.NodeStore.node h c.args.place i.0 c.second_child.ensures) c.in-Some.is, tt)).1 in
    let out = c.splice_out-short.ensures.safe S h next in
    (c.take_place.ensures.safe S (weaker g.N.NodeStore.node out.0 (Some c.outermost_bounded-next.result)) (i.0, next), out.1)
