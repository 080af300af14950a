use Rattle.std.proofs.Common.{◌≢◌, Some, ◌∷◌, ◌++◌, ◌+◌, eq-eqb, refl, sym, ap, subst, ◌∙◌, arith}
use Rattle.ic_unsafe_ref.specs.Places.{word_of}
use Rattle.ic_link_ops.proofs.SequenceLemmas.{none_not}
use Rattle.ic_ring.proofs.Circles.{rotated, tested_same, tested_other}
use Rattle.ic_raw.specs.declared.gap.GapSide.TheVariants.{After}
use Rattle.ic_raw.specs.LinkWords.{lent_table, neighbors, wide_words}
use Rattle.ic_raw.specs.Ring.{IsCircle, AreLinked}
use Rattle.ic_raw.proofs.DoublyWalks.{covered}
use Rattle.ic_raw.proofs.Entries.{same_word}
use Rattle.ic_raw.proofs.Rings.{circle_tells}
use Rattle.ic_raw_lists.specs.RingOrders.{IsNotAmong}
use Rattle.ic_raw_lists.proofs.RingWalks.{few_passed, is_among, none_of_all, none_of_more, none_of_nothing, passes_all, passes_more, passes_none}
use Rattle.ic_raw_lists.proofs.ring_walk.count_members.Goals as goal

pub loop-count-init : goal.loop-count-init
loop-count-init c =
    let first = passes_none (neighbors wide_words) (lent_table wide_words c.args.links.now) c.args.head in (first.0, subst (IsNotAmong c.args.apart) (sym first.1) (none_of_nothing c.args.apart))

-- the walk has met the place `apart`, so this place is in the ring
pub returns-then-to_word : goal.returns-then-to_word
returns-then-to_word c s ring =
    let k = c.loop-count.invariant.0 in
    let rest = k.leads s ring.circle in
    let same = same_word _ _ c.to_word.ensures.value c.to_word-in-loop-count.ensures.value (eq-eqb _ _ c.if-to_word.true) in
    is_among c.args.apart k.passed c.loop-count.at rest.0 same (subst (IsNotAmong c.args.apart) rest.1 ring.out)

-- the words represent no ring, because the place of this turn names no next place, and each place of a ring does
pub returns-in_default : goal.returns-in_default
returns-in_default c s ring =
    let k = c.loop-count.invariant.0 in
    let rest = k.leads s ring.circle in
    let turned = rotated {n = neighbors wide_words} k.passed (c.loop-count.at ∷ rest.0) (subst (IsCircle wide_words (lent_table wide_words c.args.links.now)) rest.1 ring.circle) in
    let x = circle_tells wide_words (lent_table wide_words c.args.links.now) (rest.0 ++ k.passed) turned After in
    none_not x.0 (sym c.in_default.is ∙ c.beside.ensures.tells x.0 x.1 x.2)

pub returns-then-eq : goal.returns-then-eq
returns-then-eq c =
    let links_back = c.beside.ensures.links_back c.in-Some.pair c.in-Some.is in
    let here : AreLinked wide_words (lent_table wide_words c.args.links.now) c.loop-count.at c.in-Some.pair.1 = rw links_back.1 at links_back.0 in
    let k = c.loop-count.invariant.0 in
    let found = passes_all (neighbors wide_words) k here.linked here.next here.prev (tested_same _ _ (sym c.eq.ensures ∙ c.if-eq.true)) in
    let other : c.args.apart ≢ Some c.loop-count.at = λ e. c.if-to_word.false (c.to_word.ensures.value ∙ ap word_of e ∙ sym c.to_word-in-loop-count.ensures.value) in
    let passed = none_of_more c.args.apart k.passed c.loop-count.at c.loop-count.invariant.1 other in
    let rest = k.leads found.0 found.1 in
    (found.0, record { circle = found.1; out = none_of_all c.args.apart (c.args.head ∷ found.0) k.passed c.loop-count.at rest.0 rest.1 (omega (arith, found.2, k.counted)) passed }, found.2)

pub loop-count-preserved : goal.loop-count-preserved
loop-count-preserved c =
    let links_back = c.beside.ensures.links_back c.in-Some.pair c.in-Some.is in
    let here : AreLinked wide_words (lent_table wide_words c.args.links.now) c.loop-count.at c.in-Some.pair.1 = rw links_back.1 at links_back.0 in
    let k = c.loop-count.invariant.0 in
    let other : c.args.apart ≢ Some c.loop-count.at = λ e. c.if-to_word.false (c.to_word.ensures.value ∙ ap word_of e ∙ sym c.to_word-in-loop-count.ensures.value) in
    let more = passes_more (neighbors wide_words) k here.linked here.next here.prev (tested_other _ _ (sym c.eq.ensures ∙ c.if-eq.false)) refl in
    (more.0, subst (IsNotAmong c.args.apart) (sym more.1) (none_of_more c.args.apart k.passed c.loop-count.at c.loop-count.invariant.1 other))

pub returns : goal.returns
returns c s ring =
    let few = few_passed (neighbors wide_words) c.loop-count.invariant.0 (λ q on. covered wide_words refl c.args.links.now q on) s ring.circle in
    absurd (omega (arith, few, c.places.ensures, c.loop-count-test.false))
