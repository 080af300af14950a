use Rattle.std.proofs.Common.{◌≡◌, ◌<◌, ℕ, List, [], ◌∷◌, ◌++◌, All, length, map, reverse, sym, subst, ap, ◌∙◌, arith, append-nil, length-append, option_to_list}
use Rattle.std.proofs.lemmas.List.{map-append, length-map}
use Rattle.std.proofs.lemmas.List.Elements.{All-push, All-map}
use Rattle.ic_lock_free_stack.specs.declared.step.Entry.{Entry}
use Rattle.ic_lock_free_stack.specs.declared.step.Step.{Step}
use Rattle.ic_lock_free_stack.specs.declared.step.Step.TheVariants.{TakeAll}
use Rattle.ic_lock_free_stack.specs.declared.stacks.Holder.{Holder}
use Rattle.ic_lock_free_stack.specs.Counts.{times}
use Rattle.ic_lock_free_stack.specs.Prelude.{entry, at_first, stack_after, IsLegal, IsSeen, GoesOn, Party, IsHistory, got, of_record, of_history, pushes_and_takes, IsOf, name_of, party_of, seen_of}
use Rattle.stack_uses.specs.Mail.{IsMail}
use Rattle.stack_uses.proofs.DeliveredLemmas.{ends, one_on}
use Rattle.lock_free_stack_tests.proofs.places.empty_out.Goals as goal

pub take_all-requires-clause-room : goal.take_all-requires-clause-room
take_all-requires-clause-room c =
    let h0 : List Holder = c.args.holders.now.items in
    let h1 : List Holder = c.audit.new.holders.items in
    let front : List Holder = c.pop.new.self.items in
    let r : Holder = c.unwrap-last.result in
    let few : Party → Type 0 = λ x. pushes_and_takes x.steps < 1000000000 in
    let first : h1 ≡ front ++ r ∷ [] = c.pop.ensures.items ∙ ap (λ o. front ++ option_to_list o) c.unwrap-last.ensures in
    let were : All few (map party_of h0) = All-map few party_of h0 (λ k d low. (c.requires.made k d low).1) in
    let are : All few (map party_of front ++ party_of r ∷ []) =
    subst (All few) (sym c.audit.ensures.same ∙ (ap (map party_of) first ∙ map-append party_of front (r ∷ []))) were in
    let low = (ends few (map party_of front) (party_of r) are).1 in
    omega (arith, low)

pub audit-requires-2 : goal.audit-requires-2
audit-requires-2 c =
    let made = IsOf c.args.stacks.now in
    let front : List Holder = c.pop.new.self.items in
    let first : c.audit.new.holders.items ≡ front ++ c.unwrap-last.result ∷ [] = c.pop.ensures.items ∙ ap (λ o. front ++ option_to_list o) c.unwrap-last.ensures in
    let all = ends made front c.unwrap-last.result (subst (All made) first c.audit.ensures.made) in
    record { made = subst (All made) (sym c.in_ok-push.ensures.items) (All-push made front c.take_all.new.holder all.0 c.take_all.ensures.made) }

pub returns-clause-emptied : goal.returns-clause-emptied
returns-clause-emptied c =
    let k : ℕ = c.args.stack in
    let h0 : List Holder = c.args.holders.now.items in
    let h1 : List Holder = c.audit.new.holders.items in
    let h2 : List Holder = c.push.new.self.items in
    let h3 : List Holder = c.audit-2.new.holders.items in
    let front : List Holder = c.pop.new.self.items in
    let r1 : Holder = c.unwrap-last.result in
    let r2 : Holder = c.take_all.new.holder in
    let first : h1 ≡ front ++ r1 ∷ [] = c.pop.ensures.items ∙ ap (λ o. front ++ option_to_list o) c.unwrap-last.ensures in
    let second : h2 ≡ front ++ r2 ∷ [] = c.in_ok-push.ensures.items in
    let xs : List Party = map party_of front in
    let x : Party = party_of r1 in
    let y : Party = party_of r2 in
    let parties : List Party = map party_of h3 in
    let before : map party_of h1 ≡ xs ++ x ∷ [] = ap (map party_of) first ∙ map-append party_of front (r1 ∷ []) in
    let after : parties ≡ xs ++ y ∷ [] = c.audit-2.ensures.same ∙ (ap (map party_of) second ∙ map-append party_of front (r2 ∷ [])) in
    let history = c.audit.ensures.history in
    let later = c.audit-2.ensures.history in
    let order : List Entry = history.0 in
    let last : List Entry = later.0 in
    let many : length h1 ≡ length h0 =
    (let a = ap length c.audit.ensures.same in let b = length-map h1 party_of in let d = length-map h0 party_of in omega (arith, a, b, d)) in
    let as_many : length h3 ≡ length h1 =
    (let a = ap length after in let b = length-map h3 party_of in let d = ap length before in let e = length-map h1 party_of in
    let f = length-append xs (x ∷ []) in let i = length-append xs (y ∷ []) in omega (arith, a, b, d, e, f, i)) in
    let all = c.requires.all in
    let long0 = c.args.holders.now.ok.0 in
    let long1 = c.audit.new.holders.ok.0 in
    let long3 = c.audit-2.new.holders.ok.0 in
    let was : IsHistory order (map party_of h1) = history.2 (omega (arith, all, long0, long1, many)) in
    let is : IsHistory last parties = later.2 (omega (arith, all, long0, long3, many, as_many)) in
    let took = c.take_all.ensures.took in
    let step : Step = TakeAll k took.0 in
    let steps = took.2 in
    let at : seen_of r1 ≡ order = (ends (λ (h : Holder). seen_of h ≡ order) front r1 (subst (All (λ (h : Holder). seen_of h ≡ order)) first history.3)).1 in
    let seen : IsSeen (seen_of r2) last = (ends (λ (h : Holder). IsSeen (seen_of h) last) front r2 (subst (All (λ (h : Holder). IsSeen (seen_of h) last)) second later.4)).1 in
    let goes : GoesOn (name_of r1) order step (seen_of r2) = subst (λ l. GoesOn (name_of r1) l step (seen_of r2)) at steps.goes in
    let was_both = subst (IsHistory order) before was in
    let turn : last ≡ order ++ entry x.name step ∷ [] =
    c.calls_go_in_turn.ensures order (seen_of r2) last (xs ++ x ∷ []) (xs ++ y ∷ []) x.name step was_both goes seen (subst (IsHistory last) after is)
    (one_on xs x y step was_both.named steps.name steps.gained) in
    let none : stack_after last k ≡ [] =
    ap (λ o. stack_after o k) turn ∙ (c.history_laws.ensures.takes order x.name k took.0 (subst (IsLegal at_first) turn is.legal)).1 in (
      last,
      record {
        one = is;
        as_often = λ p. (let left = c.nothing_is_lost.ensures last parties is k p in let e = ap (times p) none in omega (arith, left, e));
        in_order = c.places_come_in_order.ensures last k is.legal ∙ (ap (λ l. of_history (got k) last ++ reverse l) none ∙ append-nil (of_history (got k) last));
        to_one = λ z there only. subst (IsMail k parties (of_record (got k) z.steps)) (ap reverse none) (c.mail_comes_in_order.ensures last parties k z is there only);
      },
    )
