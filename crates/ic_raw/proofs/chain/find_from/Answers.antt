use Rattle.std.proofs.Common.{◌≡◌, Some, None, true, false, eq-eqb, refl, sym, ◌∙◌}
use Rattle.ic_raw.specs.Hash.{has_key}
use Rattle.ic_raw.specs.Singly.{lent_table}
use Rattle.ic_raw.proofs.Gaps.{never}
use Rattle.ic_raw.proofs.Singly.{covered}
use Rattle.ic_raw.proofs.HashWalks.{comes_first, comes_linked, comes_found, comes_on, other_key, walks_first, walks_on}
use Rattle.ic_raw.proofs.chain.find_from.Goals as goal

pub loop-left-init : goal.loop-left-init
loop-left-init c = record {
  comes = λ s shown. (None, rw c.places-left.ensures (comes_first (covered c.args.links.now) shown));
  leads = walks_first (lent_table c.args.links.now) c.args.from;
  same = refl;
}

pub returns-then-not-is_linked-clause-found : goal.returns-then-not-is_linked-clause-found
returns-then-not-is_linked-clause-found c s shown =
    let k = rw c.in-Some.is at (c.loop-left.invariant.comes s shown) in
    absurd (never c.if-not-is_linked.true (c.is_linked.ensures ∙ comes_linked k.1))

pub returns-then-keys-index-clause-found : goal.returns-then-keys-index-clause-found
returns-then-keys-index-clause-found c s shown =
    let k = rw c.in-Some.is at (c.loop-left.invariant.comes s shown) in
    let passes : has_key c.args.keys.now c.args.key c.in-Some.place ≡ true = eq-eqb _ _ (rw c.index.ensures.value at c.if-keys-index.true) in
    (Some c.in-Some.place, comes_found k.1 passes, record { accepted = refl; done = c.number_of.ensures })

pub returns-then-keys-index-clause-linked : goal.returns-then-keys-index-clause-linked
returns-then-keys-index-clause-linked c made =
    let passes : has_key c.args.keys.now c.args.key c.in-Some.place ≡ true = eq-eqb _ _ (rw c.index.ensures.value at c.if-keys-index.true) in
    (c.in-Some.place, sym c.is_linked.ensures ∙ c.if-not-is_linked.false, passes, c.number_of.ensures, rw c.in-Some.is at c.loop-left.invariant.leads)

pub loop-left-preserved : goal.loop-left-preserved
loop-left-preserved c =
    let fails : has_key c.args.keys.now c.args.key c.in-Some.place ≡ false = other_key c.args.keys.now c.args.key c.in-Some.place (rw c.index.ensures.value at c.if-keys-index.false) in
    record {
      comes = λ s shown.
          let k = rw c.in-Some.is at (c.loop-left.invariant.comes s shown) in
          (Some c.in-Some.place, comes_on k.1 shown.distinct fails c.next-current.ensures);
      leads = walks_on _ (rw c.in-Some.is at c.loop-left.invariant.leads) (sym c.is_linked.ensures ∙ c.if-not-is_linked.false) (sym c.next-current.ensures);
      same = c.loop-left.invariant.same;
    }
