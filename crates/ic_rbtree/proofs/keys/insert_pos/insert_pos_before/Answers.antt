use Rattle.std.proofs.Common.{◌≡◌, ◌+◌, true, false, IsSome, ◌∷◌, ◌++◌, refl, sym, ◌∙◌, subst, arith}
use Rattle.ic_link_ops.specs.Prelude.{object_at, Cut, ArePlaced}
use Rattle.ic_link_ops.proofs.Prelude.{all_front, all_back, some_same, one_sequence}
use Rattle.ic_rbtree.specs.Prelude.{less_at, compared}
use Rattle.ic_rbtree.specs.InsertPositions.{less_there, looks_there}
use Rattle.ic_rbtree.proofs.LookBounds.{last_is_placed, one_look}
use Rattle.ic_rbtree.proofs.Removing.{spot, spot_linked, represented_of}
use Rattle.ic_rbtree.proofs.RepresentedClosed.{among, among_there, represented_closed}
use Rattle.ic_rbtree.proofs.keys.insert_pos.insert_pos_before.Goals as goal

pub is_less-requires-clause-placed : goal.is_less-requires-clause-placed
is_less-requires-clause-placed g c =
    let m = c.requires.member in
    let r = c.requires.placed in
    let values = g.O.Values.values c.args.objects.now in
    (all_back (λ q. IsSome (object_at values q)) m.front (c.args.place ∷ m.back) (subst (ArePlaced values) (one_sequence r.shown m.shown) r.placed)).0

pub step_bounded-front-requires : goal.step_bounded-front-requires
step_bounded-front-requires g c =
    let n = g.L.RBTreeOps.node in
    let m = c.requires.member in
    (λ q. among q (m.front ++ c.args.place ∷ m.back), represented_closed n (represented_of n m.shown), (among_there c.args.place m.front m.back, tt))

pub is_less-requires-2-clause-placed : goal.is_less-requires-2-clause-placed
is_less-requires-2-clause-placed g c =
    let m = c.requires.member in
    let r = c.requires.placed in
    let values = g.O.Values.values c.args.objects.now in
    last_is_placed values m.front
    (all_front (λ q. IsSome (object_at values q)) m.front (c.args.place ∷ m.back) (subst (ArePlaced values) (one_sequence r.shown m.shown) r.placed))
    c.step_bounded-front.result (c.step_bounded-front.ensures.leads (record { front = m.front; back = c.args.place ∷ m.back }) m.shown refl)

pub insert_pos_between-requires : goal.insert_pos_between-requires
insert_pos_between-requires g c =
    let n = g.L.RBTreeOps.node in
    let m = c.requires.member in
    sym (g.met.L.RBTreeOps.linked_alike _) ∙ spot_linked n (spot n m.front c.args.place m.back (represented_of n m.shown))

pub returns-clause-insert_pos : goal.returns-clause-insert_pos
returns-clause-insert_pos g c s h =
    let m = c.requires.member in
    let values = g.O.Values.values c.args.objects.now in
    let at = compared (g.P.Probe.order c.args.probe.now) values in
    let gap : Cut = record { front = m.front; back = c.args.place ∷ m.back } in
    let is = c.step_bounded-front.ensures.leads gap m.shown refl in
    let not_less : less_there at c.step_bounded-front.result ≡ false =
    subst (λ o. less_there (compared o values) c.step_bounded-front.result ≡ false) c.is_less.ensures.same (sym c.is_less-2.ensures.less ∙ c.if-is_less.false) in
    record {
      gap = gap;
      same = one_sequence m.shown h;
      border = record {
        fails = λ q e. subst (λ o. less_there at o ≡ false) (is ∙ e) not_less;
        passes = λ q e. subst (λ z. less_at at z ≡ true) (some_same e) (sym c.is_less.ensures.less ∙ c.if-not-is_less.false);
      };
      insert_pos = c.insert_pos_between.ensures _ gap m.shown is refl;
    }

pub returns-then-is_less-clause-counted : goal.returns-then-is_less-clause-counted
returns-then-is_less-clause-counted g c =
    (looks_there c.step_bounded-front.result + 1, omega (arith, c.is_less.ensures.counted, c.is_less-2.ensures.counted), omega (arith, one_look c.step_bounded-front.result))

pub returns-clause-counted : goal.returns-clause-counted
returns-clause-counted g c =
    (looks_there c.step_bounded-front.result + 1, omega (arith, c.is_less.ensures.counted, c.is_less-2.ensures.counted), omega (arith, one_look c.step_bounded-front.result))
