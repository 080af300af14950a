use Rattle.std.proofs.Common.{◌≡◌, [], ◌∷◌, length, refl, sym, ap, ◌∙◌, arith, rules}
use Rattle.ic_link_ops.specs.Sequences.{last}
use Rattle.ic_link_ops.specs.LinkedList.{next_of}
use Rattle.ic_link_ops.proofs.Prelude.{some_same, stretch_first, stretch_of}
use Rattle.ic_link_ops.proofs.DoublyLists.{represented_length}
use Rattle.ic_chain.proofs.Walking.{rest_more, rest_goes_on, rest_ends}
use Rattle.ic_raw.proofs.Entries.{same_word}
use Rattle.ic_raw.proofs.Gaps.{never}
use Rattle.ic_raw.proofs.DoublyWalks.{covered, leads_on, ends_there, nothing_first}
use Rattle.ic_raw.specs.LinkWords.{lent_table, neighbors}
use Rattle.ic_raw.proofs.LinkViews.{link_words}
use Rattle.ic_raw.proofs.whole.leads_to_last.Goals as goal

-- a list that has no first member has no last member
pub returns-in_default-clause-shown : goal.returns-in_default-clause-shown
returns-in_default-clause-shown g c s shown =
    let nothing : s ≡ [] = nothing_first s (sym shown.head ∙ sym c.first.ensures ∙ c.in_default.is) in
    let tail = c.last.ensures ∙ shown.tail ∙ ap last nothing in
    search (rules, tail)

pub returns-in_default-clause-ended : goal.returns-in_default-clause-ended
returns-in_default-clause-ended g c same = (
  [],
  record {
    distinct = tt;
    chain = tt;
    head = sym c.first.ensures ∙ c.in_default.is;
    tail = sym c.last.ensures ∙ same_word _ _ c.to_word.ensures.value c.to_word-in_default.ensures.value same;
  },
)

pub loop-left-init : goal.loop-left-init
loop-left-init g c =
    let words = link_words g.W.Words g.W.NextWord g.W.PrevPlace in
    let t = lent_table words c.args.links.now in record {
      leads = record { walked = []; chain = tt; starts = sym c.first.ensures ∙ c.in-Some.is; ends = refl };
      rest = λ s shown. (s, rw (sym c.first.ensures ∙ c.in-Some.is) at (stretch_of shown), refl, rw c.places-left.ensures (represented_length t (covered words g.met.W.Words.starts_unlinked c.args.links.now) _ s shown));
    }

pub returns-then-not-follows-clause-shown : goal.returns-then-not-follows-clause-shown
returns-then-not-follows-clause-shown g c s shown =
    let rest = c.loop-left.invariant.rest s shown in
    let stands = stretch_first rest.1 in
    absurd (never c.if-not-follows.true (c.follows.ensures.follows (λ q e. rw (← some_same e) stands.linked) (sym stands.prev)))

pub returns-in_default-next-clause-shown : goal.returns-in_default-next-clause-shown
returns-in_default-next-clause-shown g c s shown =
    let words = link_words g.W.Words g.W.NextWord g.W.PrevPlace in
    let rest = c.loop-left.invariant.rest s shown in
    let end = rest_ends {step = next_of (neighbors words)} (λ e b a h. h.next) rest.1 (sym c.next.ensures ∙ c.in_default-next.is) in
    let tail = c.last-in_default-next.ensures ∙ shown.tail ∙ rest.2 ∙ sym end in
    search (rules, tail)

pub returns-in_default-next-clause-ended : goal.returns-in_default-next-clause-ended
returns-in_default-next-clause-ended g c same =
    let words = link_words g.W.Words g.W.NextWord g.W.PrevPlace in
    let linked = c.follows.ensures.stands c.if-not-follows.false _ refl in
    let prev = c.follows.ensures.prev c.if-not-follows.false in
    let tail = sym c.last-in_default-next.ensures ∙ same_word _ _ c.to_word-in_default-next.ensures.value c.to_word-in_default-next-2.ensures.value same in
    ends_there words c.loop-left.invariant.leads linked prev (sym c.next.ensures ∙ c.in_default-next.is) tail

pub returns-clause-shown : goal.returns-clause-shown
returns-clause-shown g c s shown =
    let words = link_words g.W.Words g.W.NextWord g.W.PrevPlace in
    let rest = c.loop-left.invariant.rest s shown in
    let more = rest_more {step = next_of (neighbors words)} (λ e b a h. h.next) rest.1 in
    absurd (omega (arith, rest.3, ap length {y = c.loop-left.at ∷ more.0} more.1, c.loop-left-test.false))

pub loop-left-preserved : goal.loop-left-preserved
loop-left-preserved g c =
    let words = link_words g.W.Words g.W.NextWord g.W.PrevPlace in
    let linked = c.follows.ensures.stands c.if-not-follows.false _ refl in
    let prev = c.follows.ensures.prev c.if-not-follows.false in record {
      leads = leads_on words c.loop-left.invariant.leads linked prev (sym c.next.ensures ∙ c.in-Some-next.is);
      rest = λ s shown.
          let rest = c.loop-left.invariant.rest s shown in
          let more = rest_goes_on {step = next_of (neighbors words)} (λ e b a h. h.next) rest.1 (sym c.next.ensures ∙ c.in-Some-next.is) in
          (more.0, more.2, rest.2 ∙ more.3, omega (arith, rest.3, ap length {y = c.loop-left.at ∷ more.0} more.1));
    }
