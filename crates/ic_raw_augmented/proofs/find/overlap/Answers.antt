use Rattle.std.proofs.Common.{◌≡◌, ◌<◌, ◌≤◌, Option, Some, None, [], sym, ap, ◌∙◌, subst, arith, inl, inr, ltb-true}
use Rattle.ic_link_ops.specs.Prelude.{Place, index_of}
use Rattle.ic_link_ops.proofs.SequenceLemmas.{some_same}
use Rattle.ic_rbtree.proofs.Closed.{in_there}
use Rattle.ic_raw.specs.Prelude.{key_of, has_place}
use Rattle.ic_raw.specs.Tree.{lent_table}
use Rattle.ic_raw.proofs.Trees.{closed}
use Rattle.ic_raw_augmented.specs.declared.sums.Kind.TheVariants.{Greatest}
use Rattle.ic_raw_augmented.specs.Find.{IsFirstBeyond}
use Rattle.ic_raw_augmented.specs.Sums.{value_at}
use Rattle.ic_raw_augmented.proofs.Overlaps.{it_does_not, it_overlaps, none_overlaps}
use Rattle.ic_raw_augmented.proofs.find.overlap.Goals as goal

pub returns-in_default-clause-found : goal.returns-in_default-clause-found
returns-in_default-clause-found c cut h at r sorted =
    let f = c.find.ensures.found cut h at r in
    let one : f.0 ≡ None = some_same (sym f.1 ∙ c.in_ok-position.was) ∙ c.in_default.is in
    ap Some (none_overlaps (key_of c.args.starts.now) (value_at c.args.sums.now) c.args.from c.args.to cut.back
    (subst (λ (o : Option Place). IsFirstBeyond Greatest (value_at c.args.sums.now) [] c.args.from cut.back o) one f.2))

pub bounds-starts-index : goal.bounds-starts-index
bounds-starts-index c =
    let t = lent_table c.args.links.now in
    let in_closed_set = rw c.in_ok-position.was at (c.find.ensures.in_closed_set (has_place t) (closed t c.args.root c.requires.root) c.requires.at) in
    let inside = ltb-true (index_of c.in-Some.member) t.extent.places (in_there (has_place t) in_closed_set c.in-Some.is) in
    let enough = c.requires.starts in
    let index = c.index.ensures.value in
    omega (arith, inside, enough, index)

pub returns-then-starts-index-clause-found : goal.returns-then-starts-index-clause-found
returns-then-starts-index-clause-found c cut h at r sorted =
    let f = c.find.ensures.found cut h at r in
    let one : f.0 ≡ Some c.in-Some.member = some_same (sym f.1 ∙ c.in_ok-position.was) ∙ c.in-Some.is in
    let less : key_of c.args.starts.now c.in-Some.member < c.args.to = rw (← c.index.ensures.value) c.if-starts-index.true in
    ap Some (it_overlaps (key_of c.args.starts.now) (value_at c.args.sums.now) c.args.from c.args.to cut.back c.in-Some.member
    (subst (λ (o : Option Place). IsFirstBeyond Greatest (value_at c.args.sums.now) [] c.args.from cut.back o) one f.2) less)

pub returns-then-starts-index-clause-in_closed_set : goal.returns-then-starts-index-clause-in_closed_set
returns-then-starts-index-clause-in_closed_set c S closed i =
    let in_closed_set = rw c.in_ok-position.was at (c.find.ensures.in_closed_set S closed i) in in_there S in_closed_set c.in-Some.is

pub returns-clause-found : goal.returns-clause-found
returns-clause-found c cut h at r sorted =
    let f = c.find.ensures.found cut h at r in
    let one : f.0 ≡ Some c.in-Some.member = some_same (sym f.1 ∙ c.in_ok-position.was) ∙ c.in-Some.is in
    let late : c.args.to ≤ key_of c.args.starts.now c.in-Some.member = rw (← c.index.ensures.value) c.if-starts-index.false in
    ap Some (it_does_not (key_of c.args.starts.now) (value_at c.args.sums.now) c.args.from c.args.to cut.back c.in-Some.member
    (subst (λ (o : Option Place). IsFirstBeyond Greatest (value_at c.args.sums.now) [] c.args.from cut.back o) one f.2) late sorted)

pub returns-in_default-clause-ended : goal.returns-in_default-clause-ended
returns-in_default-clause-ended c is = inl (c.find.ensures.ended (c.in_ok-position.was ∙ ap Some c.in_default.is))

pub returns-clause-ended : goal.returns-clause-ended
returns-clause-ended c is =
    let late : c.args.to ≤ key_of c.args.starts.now c.in-Some.member = rw (← c.index.ensures.value) c.if-starts-index.false in
    inr (c.in-Some.member, (λ S shut i. in_there S (rw c.in_ok-position.was at (c.find.ensures.in_closed_set S shut i.0)) c.in-Some.is), late)
