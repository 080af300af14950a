use Rattle.std.proofs.Common.{◌≡◌, ◌-◌, ℕ, List, [], ◌∷◌, ◌++◌, All, length, map, subst, sym, ap, ◌∙◌, arith, option_to_list}
use Rattle.std.proofs.lemmas.List.Elements.{All-push}
use Rattle.ic_unsafe_ref.specs.declared.place.Place.{Place}
use Rattle.ic_lock_free_stack.specs.declared.step.Step.TheVariants.{TakeAll}
use Rattle.ic_lock_free_stack.specs.declared.stacks.Holder.{Holder}
use Rattle.ic_lock_free_stack.specs.Prelude.{Party, got, of_record, IsOf, Steps, record_of, party_of}
use Rattle.stack_uses.specs.Delivery.{IsDelivered}
use Rattle.stack_uses.proofs.DeliveredLemmas.{made_all, ends, got_all, before, as_many, settled}
use Rattle.stack_uses.proofs.delivery.receive_rest.Goals as goal

pub audit-requires : goal.audit-requires
audit-requires g c = let d = c.requires.done in record {
  made = subst (All (IsOf c.args.stacks.now)) (sym d.holders_are) (All-push (IsOf c.args.stacks.now) d.senders d.receiver (made_all c.args.stacks.now 0 c.args.count d.senders d.sent) d.taken.made);
}

pub audit-requires-2 : goal.audit-requires-2
audit-requires-2 g c =
    let stacks = c.args.stacks.now in
    let front : List Holder = c.pop.new.self.items in
    let first : c.audit.new.holders.items ≡ front ++ c.unwrap-holder.result ∷ [] = c.pop.ensures.items ∙ ap (λ o. front ++ option_to_list o) c.unwrap-holder.ensures in
    let all = ends (IsOf stacks) front c.unwrap-holder.result (subst (All (IsOf stacks)) first c.audit.ensures.made) in
    let more = c.receive_all.ensures.came (of_record (got 0) (record_of c.unwrap-holder.result)) c.new-receiver.ensures.made in
    record {
      made = subst (All (IsOf stacks)) (sym c.in_ok-push.ensures.items) (All-push (IsOf stacks) front c.into_holder.result all.0 (subst (IsOf stacks) (sym c.into_holder.ensures) more.2.made));
    }

pub returns : goal.returns
returns g c =
    let stacks = c.args.stacks.now in
    let count : ℕ = c.args.count in
    let h0 : List Holder = c.args.holders.items in
    let h1 : List Holder = c.audit.new.holders.items in
    let front : List Holder = c.pop.new.self.items in
    let r1 : Holder = c.unwrap-holder.result in
    let r2 : Holder = c.into_holder.result in
    let h2 : List Holder = c.push.new.self.items in
    let h3 : List Holder = c.audit-2.new.holders.items in
    let came : List Place = c.args.came.items in
    let done = c.requires.done in
    let same_one : map party_of h1 ≡ map party_of h0 = c.audit.ensures.same in
    let first : h1 ≡ front ++ r1 ∷ [] = c.pop.ensures.items ∙ ap (λ o. front ++ option_to_list o) c.unwrap-holder.ensures in
    let second : h2 ≡ front ++ r2 ∷ [] = c.in_ok-push.ensures.items in
    let same_two : map party_of h3 ≡ map party_of h2 = c.audit-2.ensures.same in
    let receiver = c.new-receiver.result in
    let later = c.receive_all.new.self in
    let ps : List Place = of_record (got 0) (record_of r1) in
    let more = c.receive_all.ensures.came ps c.new-receiver.ensures.made in
    let took = c.in_ok-receive_all.ensures.took in
    let many = as_many stacks count h0 h1 front r1 r2 came done same_one first h2 h3 second same_two in
    let history = c.audit.ensures.history in
    let last = c.audit-2.ensures.history in
    let all = c.requires.all in
    let long0 = c.args.holders.ok.0 in
    let long1 = c.audit.new.holders.ok.0 in
    let long3 = c.audit-2.new.holders.ok.0 in
    let many1 = many.0 in
    let many3 = many.1 in
    let steps : Steps r1 r2 (TakeAll 0 took.0) =
    subst (λ (h : Holder). Steps h r2 (TakeAll 0 took.0)) c.new-receiver.ensures.holder
    (subst (λ (h : Holder). Steps receiver.holder h (TakeAll 0 took.0)) (sym c.into_holder.ensures)
    (subst (λ k. Steps receiver.holder later.holder (TakeAll k took.0)) c.new-receiver.ensures.mailbox took.1)) in
    let is : IsDelivered (length h0 - 1) count (of_record (got 0) (record_of r2)) =
    settled stacks count h0 h1 front r1 r2 came done same_one first h2 h3 second same_two history.0 last.0 took.0
    (history.2 (omega (arith, all, long0, long1, many1))) history.3 steps (last.2 (omega (arith, all, long0, long3, many3))) last.4 in
    let known : came ≡ ps = sym done.taken.came_is ∙ ap (λ (x : Party). of_record (got 0) x.steps) (sym (before stacks count h0 h1 front r1 r2 came done same_one first).1) in
    let got_is : of_record (got 0) (record_of r2) ≡ c.receive_all.new.came.items =
    ap (λ (h : Holder). of_record (got 0) (record_of h)) c.into_holder.ensures
    ∙ (got_all stacks later (ps ++ more.0) more.2 c.in_ok-receive_all.ensures.all (c.receive_all.ensures.mailbox ∙ c.new-receiver.ensures.mailbox)
    ∙ (ap (λ l. l ++ more.0) (sym known) ∙ sym more.1)) in
    subst (λ n. IsDelivered (n - 1) count c.receive_all.new.came.items) (sym long0) (subst (IsDelivered (length h0 - 1) count) got_is is)
