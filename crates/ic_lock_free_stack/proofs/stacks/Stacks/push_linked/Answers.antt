use Rattle.std.proofs.Common.{rules, ◌<◌, ◌+◌, List, drop, ◌∙◌, refl, sym, ap, subst, arith}
use Rattle.ic_unsafe_ref.specs.declared.place.Place.{Place}
use Rattle.ic_unsafe_ref.specs.Places.{index_of}
use Rattle.ic_lock_free_stack.specs.declared.held.Account.{Account}
use Rattle.ic_lock_free_stack.specs.declared.stacks.Holder.{Holder}
use Rattle.ic_lock_free_stack.specs.declared.step.Step.TheVariants.{Push}
use Rattle.ic_lock_free_stack.specs.Prelude.{IsOnce, link_to, AreKnownTo, forgets}
use Rattle.ic_lock_free_stack.specs.Plays.{Makes}
use Rattle.ic_lock_free_stack.specs.Holders.{account_of, record_of, IsReady}
use Rattle.ic_lock_free_stack.proofs.RuleLemmas.{looks, links, tries}
use Rattle.ic_lock_free_stack.proofs.RecordLemmas.{push_holds}
use Rattle.ic_lock_free_stack.proofs.HolderLemmas.{Stepped, made_is_of, stepped, push_keeps}
use Rattle.ic_lock_free_stack.proofs.PushLemmas.{ready, ready_known, ready_beside, ready_longer, tries_more, last_in, from_first}
use Rattle.ic_lock_free_stack.proofs.stacks.Stacks.push_linked.Goals as goal

pub overflow_add-self : goal.overflow_add-self
overflow_add-self g c = omega (arith, c.args.self.now.fits, c.args.self.now.words, c.requires.stack)

pub load-head-requires : goal.load-head-requires
load-head-requires g c =
    let stacks = c.args.self.now in
    let small : c.args.stack < stacks.table.shared.key.stacks = subst (λ k. c.args.stack < k) (sym stacks.keyed_stacks) c.requires.stack in (
      c.requires.made.table,
      omega (arith, c.requires.stack, stacks.words),
      looks stacks.table.shared.key stacks.table.shared.table_id.slots c.args.holder.now.seat.id (account_of c.args.holder.now) c.args.holder.now.seat.me c.requires.made.hand c.args.stack small _ (ap (λ p. p + c.args.stack) (sym stacks.keyed_places)),
    )

pub loop-init : goal.loop-init
loop-init g c =
    let stacks = c.args.self.now in
    let answered = c.load-head.ensures.2 stacks.table.shared.key (account_of c.args.holder.now) c.args.stack c.requires.made.hand (ap (λ p. p + c.args.stack) stacks.keyed_places) in
    record {
      known = (account_of c.args.holder.now).known;
      looked = answered.1.0;
      table = c.load-head.ensures.0 ∙ c.requires.made.table;
      hand = answered.1.2;
      beside = λ q ne. refl;
      longer = omega arith;
      some = answered.0;
      counted = omega arith;
      few = answered.1.1;
    }

pub store-requires : goal.store-requires
store-requires g c =
    let stacks = c.args.self.now in
    let was = c.loop.invariant in
    let chain = c.requires.ready.1 in
    let member = last_in c.requires.ready.0 c.args.back chain.ends in
    let low = chain.inside c.args.back member in
    let keyed : index_of c.args.back < stacks.table.shared.key.places = subst (λ k. index_of c.args.back < k) (sym stacks.keyed_places) low in (
      was.table,
      omega (arith, c.index.ensures.value, low, stacks.words),
      links stacks.table.shared.key stacks.table.shared.table_id.slots c.loop.holder.seat.id _ c.loop.holder.seat.me was.hand c.args.back keyed _ c.index.ensures.value c.loop.head (chain.held c.args.back member) was.some,
    )

pub compare_exchange-found-requires : goal.compare_exchange-found-requires
compare_exchange-found-requires g c =
    let stacks = c.args.self.now in
    let was = c.loop.invariant in
    let old = c.args.holder.now in
    let s : List Place = c.requires.ready.0 in
    let chain = c.requires.ready.1 in
    let b : Account = ready stacks old c.loop.holder c.args.stack c.args.back c.loop.head c.loop.counter was in
    let hand = c.store.ensures.2 stacks.table.shared.key _ c.args.back was.hand (sym c.index.ensures.value) in
    let small : c.args.stack < stacks.table.shared.key.stacks = subst (λ k. c.args.stack < k) (sym stacks.keyed_stacks) c.requires.stack in
    let split = from_first s c.args.front chain.starts in (
      c.store.ensures.0 ∙ was.table,
      omega (arith, c.requires.stack, stacks.words),
      tries stacks.table.shared.key stacks.table.shared.table_id.slots c.store.new.seat.id b c.store.new.seat.me hand c.args.stack small _ (ap (λ p. p + c.args.stack) (sym stacks.keyed_places)) c.requires.room
          c.args.front (drop 1 s) c.loop.head _ (omega (arith, c.to_word-link.ensures.value)) (subst IsOnce split chain.once)
          (subst (λ (l : List Place). AreKnownTo b.known l c.loop.head) split (ready_known stacks old c.loop.holder c.args.stack c.args.back c.loop.head c.loop.counter was s c.args.front chain)) refl refl,
    )

pub loop-preserved : goal.loop-preserved
loop-preserved g c =
    let stacks = c.args.self.now in
    let was = c.loop.invariant in
    let old = c.args.holder.now in
    let new : Holder = record { seat = c.compare_exchange-found.new.seat } in
    let b : Account = ready stacks old c.loop.holder c.args.stack c.args.back c.loop.head c.loop.counter was in
    let hand = c.store.ensures.2 stacks.table.shared.key _ c.args.back was.hand (sym c.index.ensures.value) in
    let answered = c.compare_exchange-found.ensures.2 stacks.table.shared.key b c.args.stack hand (ap (λ p. p + c.args.stack) stacks.keyed_places) in
    let table = c.compare_exchange-found.ensures.0 ∙ (c.store.ensures.0 ∙ was.table) in
    tries_more stacks old c.loop.holder c.args.stack c.args.back c.loop.head c.loop.counter was new c.compare_exchange-found.result table (answered.1 (search rules))

pub returns-then-found-head : goal.returns-then-found-head
returns-then-found-head g c =
    let stacks = c.args.self.now in
    let was = c.loop.invariant in
    let old = c.args.holder.now in
    let new : Holder = record { seat = c.compare_exchange-found.new.seat } in
    let b : Account = ready stacks old c.loop.holder c.args.stack c.args.back c.loop.head c.loop.counter was in
    let hand = c.store.ensures.2 stacks.table.shared.key _ c.args.back was.hand (sym c.index.ensures.value) in
    let answered = c.compare_exchange-found.ensures.2 stacks.table.shared.key b c.args.stack hand (ap (λ p. p + c.args.stack) stacks.keyed_places) in
    let table = c.compare_exchange-found.ensures.0 ∙ (c.store.ensures.0 ∙ was.table) in
    let now : (s : List Place) → IsReady stacks old c.args.front c.args.back s → Makes stacks.table.shared.key b (Push c.args.stack s) (forgets s b.known) new.seat.me.0 = λ s chain.
    answered.0 c.if-found-head.true s (omega (arith, c.to_word-link.ensures.value) ∙ ap link_to (sym chain.starts)) chain.once
    (ready_known stacks old c.loop.holder c.args.stack c.args.back c.loop.head c.loop.counter was s c.args.front chain) in
    let is : (s : List Place) → IsReady stacks old c.args.front c.args.back s → Stepped old new (Push c.args.stack s) (forgets s b.known) = λ s chain. stepped stacks old new b _ _ table (now s chain) refl refl refl in
    record {
      made = made_is_of stacks old new b _ _ table (now c.requires.ready.0 c.requires.ready.1);
      step = λ s chain. (is s chain).step;
      pushed = λ s chain. push_holds (record_of old) (record_of new) c.args.stack s (is s chain).step.gained chain.held;
      chains = λ s chain. push_keeps stacks old new c.args.stack s _ (is s chain) (ready_longer stacks old c.loop.holder c.args.stack c.args.back c.loop.head c.loop.counter was s c.args.front chain)
          (ready_beside stacks old c.loop.holder c.args.stack c.args.back c.loop.head c.loop.counter was s c.args.front chain);
    }
