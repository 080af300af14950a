use Rattle.std.proofs.Common.{◌≡◌, ◌<◌, List, [], ◌∷◌, ◌++◌, All, sym, subst, ap, ◌∙◌, arith, option_to_list}
use Rattle.std.proofs.lemmas.List.Elements.{All-push}
use Rattle.ic_lock_free_stack.specs.declared.stacks.Holder.{Holder}
use Rattle.ic_lock_free_stack.specs.Prelude.{pushes_and_takes, spent_by, IsOf, IsNew}
use Rattle.stack_uses.proofs.DeliveredLemmas.{ends}
use Rattle.lock_free_stack_tests.proofs.tests.a_chain_is_pushed_at_once.Goals as goal

pub empty_out-requires-clause-made : goal.empty_out-requires-clause-made
empty_out-requires-clause-made g c =
    let stacks = c.in-Ok.stacks in
    let new : Holder → Type 0 = λ h. IsOf stacks h × IsNew h in
    let few : Holder → Type 0 = λ h. IsOf stacks h × (spent_by h < 1000000000) in
    let front : List Holder = c.pop.new.self.items in
    let first : c.in-Ok.holders.items ≡ front ++ c.expect-holder.result ∷ [] = c.pop.ensures.items ∙ ap (λ o. front ++ option_to_list o) c.expect-holder.ensures in
    let were = ends new front c.expect-holder.result (subst (All new) first c.in-Ok.ensures.fresh) in
    let others : All few front = λ k d low. ((were.0 k d low).0, (let none = ap pushes_and_takes (were.0 k d low).1.0 in omega (arith, none))) in
    let none = ap pushes_and_takes were.1.1.0 in
    let a = c.put.ensures.spent in
    let b = c.put_pair.ensures.spent in
    let d = c.put_pair-2.ensures.spent in
    let e = c.take.ensures.spent in
    let f = c.put-2.ensures.spent in
    subst (All few) (sym c.in_ok-push.ensures.items) (All-push few front c.put-2.new.holder others (c.put-2.ensures.made, omega (arith, none, a, b, d, e, f)))
