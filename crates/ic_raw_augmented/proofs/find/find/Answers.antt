use Rattle.std.proofs.Common.{◌≡◌, ◌<◌, ◌≤◌, ℕ, Option, None, refl, sym, ap, ◌∙◌, subst, arith}
use Rattle.ic_unsafe_ref.specs.declared.place.Place.{Place}
use Rattle.ic_link_ops.proofs.SequenceLemmas.{none_not}
use Rattle.ic_rbtree.proofs.Closed.{in_there, read_in}
use Rattle.ic_raw.specs.Tree.{lent_table}
use Rattle.ic_raw_augmented.specs.Ends.{EndsAbove}
use Rattle.ic_raw_augmented.specs.Sums.{next_end, sum_below}
use Rattle.ic_raw_augmented.proofs.Searches.{FindsAbove, found_next, found_on, is_position, next_in, none_on, unrooted}
use Rattle.ic_raw_augmented.proofs.find.find.Goals as goal

pub returns-in_err-next-clause-found : goal.returns-in_err-next-clause-found
returns-in_err-next-clause-found c cut h at r =
    let sum : c.sum_below-done.result ≡ 0 = c.sum_below-done.ensures ∙ ap (sum_below c.args.sums.now) c.in_err-next.was in
    let more = c.if-bound-done.true in
    absurd (omega (arith, sum, more))

pub returns-in_err-member-clause-found : goal.returns-in_err-member-clause-found
returns-in_err-member-clause-found c cut h at r =
    let more : c.args.bound < sum_below c.args.sums.now c.next_end-below.result = subst (λ (n : ℕ). c.args.bound < n) c.sum_below-done.ensures c.if-bound-done.true in
    let f = found_next c.args.kind (lent_table c.args.links.now) c.args.sums.now cut c.args.at c.next_end-below.result c.next_end-below.ensures c.args.bound c.in_ok-next.next c.first_below.result
    c.in_ok-next.was more c.first_below.ensures.found h at r in
    absurd (none_not f.0 (sym c.in_err-member.was ∙ f.1))

pub returns-then-bound-done-clause-found : goal.returns-then-bound-done-clause-found
returns-then-bound-done-clause-found c cut h at r =
    let more : c.args.bound < sum_below c.args.sums.now c.next_end-below.result = subst (λ (n : ℕ). c.args.bound < n) c.sum_below-done.ensures c.if-bound-done.true in
    is_position c.args.kind (lent_table c.args.links.now) c.args.sums.now c.args.bound cut.back c.first_below.result c.in_ok-member.member
    (found_next c.args.kind (lent_table c.args.links.now) c.args.sums.now cut c.args.at c.next_end-below.result c.next_end-below.ensures c.args.bound c.in_ok-next.next c.first_below.result
    c.in_ok-next.was more c.first_below.ensures.found h at r) c.in_ok-member.was

pub returns-then-bound-done-clause-in_closed_set : goal.returns-then-bound-done-clause-in_closed_set
returns-then-bound-done-clause-in_closed_set c S closed i =
    let next = in_there S (read_in S (next_in (lent_table c.args.links.now) c.args.root c.args.at S closed i) c.next_end-below.ensures) c.in_ok-next.was in
    in_there S (c.first_below.ensures.in_closed_set S (unrooted closed) next) c.in_ok-member.was

pub returns-in_default-clause-found : goal.returns-in_default-clause-found
returns-in_default-clause-found c cut h at r =
    let less : sum_below c.args.sums.now c.next_end-below.result ≤ c.args.bound = subst (λ (n : ℕ). n ≤ c.args.bound) c.sum_below-done.ensures c.if-bound-done.false in
    let root = c.next_end-below.ensures ∙ ap (next_end (lent_table c.args.links.now) c.args.root) c.in_default.is in
    (None, refl, none_on c.args.kind (lent_table c.args.links.now) c.args.sums.now cut c.next_end-below.result root c.args.bound less h (sym c.in_default.is ∙ at) r)

pub returns-clause-found : goal.returns-clause-found
returns-clause-found c cut h at r =
    let v = lent_table c.args.links.now in
    let less : sum_below c.args.sums.now c.next_end-below.result ≤ c.args.bound = subst (λ (n : ℕ). n ≤ c.args.bound) c.sum_below-done.ensures c.if-bound-done.false in
    let right = c.next_end-below.ensures ∙ ap (next_end v c.args.root) c.in-Some.is in
    found_on c.args.kind v c.args.sums.now cut c.in-Some.place c.next_end-below.result right c.args.bound c.first_above.result less
    (subst (λ (d : ℕ). FindsAbove c.args.kind v c.args.sums.now c.in-Some.place d c.args.bound 67 c.first_above.result) c.sum_below-done.ensures c.first_above.ensures.found)
    h (sym c.in-Some.is ∙ at) r

pub returns-clause-in_closed_set : goal.returns-clause-in_closed_set
returns-clause-in_closed_set c S closed i = c.first_above.ensures.in_closed_set S (unrooted closed) (in_there S i c.in-Some.is)

pub returns-in_default-clause-ended : goal.returns-in_default-clause-ended
returns-in_default-clause-ended c is =
    let v = lent_table c.args.links.now in
    let less : sum_below c.args.sums.now c.next_end-below.result ≤ c.args.bound = subst (λ (n : ℕ). n ≤ c.args.bound) c.sum_below-done.ensures c.if-bound-done.false in
    (subst (λ (o : Option Place). sum_below c.args.sums.now o ≤ c.args.bound) c.next_end-below.ensures less, subst (EndsAbove v) (sym c.in_default.is) tt)

pub returns-clause-ended : goal.returns-clause-ended
returns-clause-ended c is =
    let v = lent_table c.args.links.now in
    let less : sum_below c.args.sums.now c.next_end-below.result ≤ c.args.bound = subst (λ (n : ℕ). n ≤ c.args.bound) c.sum_below-done.ensures c.if-bound-done.false in
    (subst (λ (o : Option Place). sum_below c.args.sums.now o ≤ c.args.bound) c.next_end-below.ensures less, subst (EndsAbove v) (sym c.in-Some.is) (c.first_above.ensures.ended is))
