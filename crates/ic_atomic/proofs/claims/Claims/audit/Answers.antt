use Rattle.std.proofs.Common.{◌≡◌, ℕ, ◌<◌, List, [], map, take, length, get_or, length-set, ◌∙◌, ap, sym, subst, arith}
use Rattle.std.proofs.lemmas.List.{take_all, length-map}
use Rattle.ic_atomic.specs.declared.held.HeldRecords.{HeldRecords}
use Rattle.ic_atomic.specs.declared.claims.Holder.{Holder}
use Rattle.ic_atomic.specs.Held.{hand, both_hands}
use Rattle.ic_atomic.specs.Holders.{holders_of, record_of, AreOneList}
use Rattle.ic_atomic.proofs.RuleLemmas.{compares}
use Rattle.ic_atomic.proofs.HolderLemmas.{HasRecords, rest_back, first_back, one_back, others_empty, all_back, reported, told_whole, none_twice}
use Rattle.ic_atomic.proofs.claims.Claims.audit.Goals as goal

pub load-requires : goal.load-requires
load-requires g c = (c.loop-i.invariant.table, omega (arith, c.args.self.now.room), compares _ _ _ _ (ap (λ (v : HeldRecords). v.size) c.loop-i.invariant.gathered))

pub loop-i-2-preserved : goal.loop-i-2-preserved
loop-i-2-preserved g c =
    let was = c.loop-i-2.invariant in
    let claims = c.args.self.now in
    let size = claims.table.shared.key in
    let hs : List Holder = c.args.holders.now.items in
    let now : List Holder = c.loop-i-2.holders.items in
    let i : ℕ = c.loop-i-2.i in
    let long : length now ≡ length hs = was.long in
    let in_hs : i < length hs = omega (arith, c.loop-i-2-test.true, c.len-i-end-2.ensures, c.loop-i.invariant.long) in
    let in_now : i < length now = omega (arith, in_hs, long) in
    let all : HeldRecords = c.loop-i-2.all.me.0 in
    let first = c.first_of-record-in-loop-i-2 in
    let seat = c.put_after-in-loop-i-2.new.seat in
    let new : Holder = record { seat = seat } in
    let empty_here : HasRecords claims [] (c.index_mut-in-loop-i-2.result.now) = subst (HasRecords claims []) (sym c.index_mut-in-loop-i-2.ensures.value) (was.empty i _ (omega arith) in_hs) in
    record {
      long = length-set now i new ∙ long;
      table = first.ensures.seat;
      gathered = first.ensures.rest ∙ rest_back size hs i (get_or hs i c.index_mut-in-loop-i-2.result.now) in_hs all was.gathered;
      done = one_back claims hs now i new in_now was.done (λ d. (
        c.put_after-in-loop-i-2.ensures.seat,
        c.put_after-in-loop-i-2.ensures.both ∙ (λ j. both_hands (empty_here.1 j) ((first.ensures.first ∙ first_back size hs i d in_hs all was.gathered) j)),
      ));
      empty = others_empty claims now i (length hs) new was.empty;
    }

pub returns-clause-same : goal.returns-clause-same
returns-clause-same g c = all_back c.args.self.now c.args.holders.now.items c.loop-i-2.holders.items c.loop-i-2.invariant.long
    (λ k d h. c.loop-i-2.invariant.done k d (omega (arith, h, c.loop-i-2-test.false, c.loop-i-2.invariant.long)))

pub returns-clause-one_list : goal.returns-clause-one_list
returns-clause-one_list g c =
    let claims = c.args.self.now in
    let hs : List Holder = c.args.holders.now.items in
    let whole : take c.loop-i.i hs ≡ hs = take_all c.loop-i.i hs (omega (arith, c.loop-i-test.false, c.loop-i.invariant.long)) in
    let gathered : c.loop-i.all.me.0 ≡ hand claims.table.shared.key (map record_of hs) = c.loop-i.invariant.gathered ∙ ap (λ (l : List Holder). hand claims.table.shared.key (map record_of l)) whole in
    subst (AreOneList claims) (sym (returns-clause-same g c)) (reported claims (map record_of hs) c.loop-i.all.me.0 gathered c.load.ensures.2.1)

pub returns-clause-apart : goal.returns-clause-apart
returns-clause-apart g c = let all = returns-clause-one_list g c in none_twice all.words (map record_of c.loop-i-2.holders.items) all.others all.one

pub returns-clause-whole : goal.returns-clause-whole
returns-clause-whole g c all =
    let now : List Holder = c.loop-i-2.holders.items in
    let counted : length (map record_of now) ≡ holders_of c.args.self.now = omega (arith, length-map now record_of, all) in
    told_whole c.args.self.now (map record_of now) (returns-clause-one_list g c) counted
