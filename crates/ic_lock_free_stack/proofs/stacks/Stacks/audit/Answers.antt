use Rattle.std.proofs.Common.{◌≡◌, ℕ, ◌<◌, List, [], ◌∷◌, map, take, length, get_or, length-set, ◌∙◌, ap, sym, subst, arith}
use Rattle.std.proofs.lemmas.List.{take_all, length-map}
use Rattle.ic_lock_free_stack.specs.declared.held.HeldAccounts.{HeldAccounts}
use Rattle.ic_lock_free_stack.specs.declared.held.Account.{Account}
use Rattle.ic_lock_free_stack.specs.declared.stacks.Holder.{Holder}
use Rattle.ic_lock_free_stack.specs.Held.{hand, both_hands}
use Rattle.ic_lock_free_stack.specs.Holders.{account_of, party_of, AreOneHistory}
use Rattle.ic_lock_free_stack.proofs.MovingLemmas.{compares}
use Rattle.ic_lock_free_stack.proofs.AuditLemmas.{HasAccounts, seeing, rest_back, first_back, one_back, others_empty, account_back, holder_back, chain_back, all_back, answered, told_whole, none_twice}
use Rattle.ic_lock_free_stack.proofs.stacks.Stacks.audit.Goals as goal

pub load-requires : goal.load-requires
load-requires g c = (c.loop-i.invariant.table, omega (arith, c.args.self.now.some, c.args.self.now.words), compares _ _ _ _ (ap (λ (v : HeldAccounts). v.size) c.loop-i.invariant.gathered))

pub loop-i-2-init : goal.loop-i-2-init
loop-i-2-init g c =
    let stacks = c.args.self.now in
    let hs : List Holder = c.args.holders.now.items in
    let whole : take c.loop-i.i hs ≡ hs = take_all c.loop-i.i hs (omega (arith, c.loop-i-test.false, c.loop-i.invariant.long)) in
    let gathered : c.loop-i.all.me.0 ≡ hand stacks.table.shared.key (map account_of hs) = c.loop-i.invariant.gathered ∙ ap (λ (l : List Holder). hand stacks.table.shared.key (map account_of l)) whole in
    let t = answered stacks hs c.loop-i.all.me.0 c.load.new.seat.me.0 gathered (c.load.ensures.2 stacks.table.shared.key (ap (λ (v : HeldAccounts). v.size) gathered)) in
    record {
      order = t.order;
      one = t.one;
      longer = t.longer;
      long = c.loop-i.invariant.long;
      table = c.load.ensures.0 ∙ c.loop-i.invariant.table;
      gathered = t.same;
      done = λ k d low. absurd (omega (arith, low));
      empty = λ k d above low. c.loop-i.invariant.empty k d (omega (arith, low, c.loop-i-test.false, c.loop-i.invariant.long));
    }

pub loop-i-2-preserved : goal.loop-i-2-preserved
loop-i-2-preserved g c =
    let was = c.loop-i-2.invariant in
    let stacks = c.args.self.now in
    let size = stacks.table.shared.key in
    let hs : List Holder = c.args.holders.now.items in
    let now : List Holder = c.loop-i-2.holders.items in
    let i : ℕ = c.loop-i-2.i in
    let long : length now ≡ length hs = was.long in
    let in_hs : i < length hs = omega (arith, c.loop-i-2-test.true, c.len-i-end-2.ensures, c.loop-i.invariant.long) in
    let in_now : i < length now = omega (arith, in_hs, long) in
    let all : HeldAccounts = c.loop-i-2.all.me.0 in
    let first = c.first_of-account-in-loop-i-2 in
    let seat = c.put_after-in-loop-i-2.new.seat in
    let new : Holder = record { seat = seat } in
    let empty_here : HasAccounts stacks [] (c.index_mut-in-loop-i-2.result.now) = subst (HasAccounts stacks []) (sym c.index_mut-in-loop-i-2.ensures.value) (was.empty i _ (omega arith) in_hs) in
    record {
      order = was.order;
      one = was.one;
      longer = was.longer;
      long = length-set now i new ∙ long;
      table = first.ensures.seat;
      gathered = first.ensures.rest ∙ rest_back size was.order hs i (get_or hs i c.index_mut-in-loop-i-2.result.now) in_hs all was.gathered;
      done = one_back stacks was.order hs now i new in_now was.done (λ d. (
        c.put_after-in-loop-i-2.ensures.seat,
        c.put_after-in-loop-i-2.ensures.both ∙ (λ j. both_hands (empty_here.1 j) ((first.ensures.first ∙ first_back size was.order hs i d in_hs all was.gathered) j)),
      ));
      empty = others_empty stacks now i (length hs) new was.empty;
    }

pub returns : goal.returns
returns g c =
    let stacks = c.args.self.now in
    let was = c.loop-i-2.invariant in
    let hs : List Holder = c.args.holders.now.items in
    let now : List Holder = c.loop-i-2.holders.items in
    let back : (k : ℕ) (d : Holder) → k < length hs → HasAccounts stacks (seeing was.order (get_or hs k d) ∷ []) (get_or now k d) = λ k d h. was.done k d (omega (arith, h, c.loop-i-2-test.false, was.long)) in
    let in_hs : (k : ℕ) → k < length now → k < length hs = λ k h. omega (arith, h, was.long) in
    let same : map party_of now ≡ map party_of hs = all_back stacks was.order hs now was.long back in
    let one : AreOneHistory stacks was.order (map party_of now) = subst (AreOneHistory stacks was.order) (sym same) was.one in
    record {
      made = λ k d h. holder_back stacks was.order (get_or hs k d) (get_or now k d) (back k d (in_hs k h));
      same = same;
      history = (
        was.order,
        one,
        (λ all. told_whole stacks was.order (map party_of now) one (omega (arith, length-map now party_of, all))),
        (λ k d h. ap (λ (a : Account). a.seen) (account_back stacks was.order (get_or hs k d) (get_or now k d) (back k d (in_hs k h)))),
        was.longer,
      );
      chains = λ k d h. chain_back stacks was.order (get_or hs k d) (get_or now k d) (back k d (omega (arith, h)));
      apart = none_twice stacks was.order (map party_of now) one;
    }
