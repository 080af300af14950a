-- Lemmas about a walk whose items are appended to two vectors: which items a vector has gained after further calls.
use Rattle.std.proofs.Common.{◌≡◌, Option, List, ◌++◌, length, drop, sym, ◌∙◌, ap, append_assoc}
use Rattle.std.proofs.Math.Seq.{drop-append_seam}
use Rattle.ic_link_ops.specs.BothEnds.{Item, Leads, from_front, from_back}
use Rattle.ic_link_ops.proofs.BothEnds.{leads_on, from_front_on, from_back_on}
use Rattle.uses.specs.Hands.{gained, HasDealt}

module _ {A : Type 0} (old : List A) where
  -- if a vector gained the items `before` and then the items `more`, then it gained both lists, one after the other
  gained_on : (mid new before more both : List A) → mid ≡ old ++ before → new ≡ mid ++ more → both ≡ before ++ more → new ≡ old ++ both
  gained_on mid new before more both h k e = k ∙ ap (λ (l : List A). l ++ more) h ∙ append_assoc old before more ∙ ap (λ (l : List A). old ++ l) (sym e)

  -- if the vector `new` is the vector `old` followed by the items `more`, then the gained items are `more`
  pub gained_is : (new more : List A) → new ≡ old ++ more → gained old new ≡ more
  gained_is new more h = ap (λ (l : List A). drop (length old) l) h ∙ drop-append_seam old more

-- if `HasDealt` holds from the state `s` of a walk to the state `t`, and the calls `more` lead from `t` to `u`, then `HasDealt` holds from `s` to `u`
pub dealt_more : {S A : Type 0} (next_gives next_back_gives : S → Option A → S → Type 0) {s t u : S} {fronts mid new backs mid_back new_back : List A} (more : List (Item A))
    → HasDealt next_gives next_back_gives s t fronts mid backs mid_back → Leads next_gives next_back_gives t more u → new ≡ mid ++ from_front (λ x. x) more
    → new_back ≡ mid_back ++ from_back (λ x. x) more
    → HasDealt next_gives next_back_gives s u fronts new backs new_back
dealt_more next_gives next_back_gives {s} {t} {u} {fronts} {mid} {new} {backs} {mid_back} {new_back} more dealt leads at_front at_back = record {
  items = dealt.items ++ more;
  leads = leads_on next_gives next_back_gives s t u dealt.items more dealt.leads leads;
  at_fronts = gained_on fronts mid new _ _ _ dealt.at_fronts at_front (from_front_on (λ x. x) dealt.items more);
  at_backs = gained_on backs mid_back new_back _ _ _ dealt.at_backs at_back (from_back_on (λ x. x) dealt.items more);
}
