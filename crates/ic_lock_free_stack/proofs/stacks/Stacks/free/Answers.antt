use Rattle.std.proofs.Common.{ℕ, List, [], subst, sym, arith}
use Rattle.ic_lock_free_stack.specs.declared.held.Size.{Size}
use Rattle.ic_lock_free_stack.specs.Held.{all_fresh}
use Rattle.ic_lock_free_stack.specs.Rule.{Rule}
use Rattle.atomic_table.specs.Table.{opening}
use Rattle.ic_lock_free_stack.proofs.MovingLemmas.{opens}
use Rattle.ic_lock_free_stack.proofs.stacks.Stacks.free.Goals as goal

pub of_words-requires : goal.of_words-requires
of_words-requires g c =
    let size : Size = record { places = c.args.places; stacks = c.args.stacks; holders = c.args.holders } in
    let inv = c.loop-i.invariant in
    let words : List ℕ = c.loop-i.words.items in
    let here : Rule size (opening words [] (all_fresh size)) = opens size words inv.long c.requires.stacks.0 c.requires.holders inv.zeros (λ j above below. inv.ones j above (omega (arith, below, c.loop-i-test.false))) in
    subst (λ (w : List ℕ). Rule size (opening w [] (all_fresh size))) (sym c.as_slice.ensures.value) here
