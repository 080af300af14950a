-- Owners of places that any thread frees.
use Rattle.std.specs.Prelude.{ℕ, ◌<◌, List}
use Rattle.ic_unsafe_ref.specs.declared.place.Place.{Place}
use Rattle.ic_lock_free_stack.specs.declared.stacks.Stacks.{Stacks}
use Rattle.ic_lock_free_stack.specs.declared.stacks.Holder.{Holder}
use Rattle.ic_lock_free_stack.specs.Holders.{stacks_of, IsOf, HasChain}
use Rattle.stack_uses.specs.declared.remote_frees.Owner.{Owner}

-- `user_of` returns an owner's holder. `stack_of` returns the number of the stack to which other threads free the owner's places
abbrev pub user_of : Owner → Holder
user_of owner = owner.holder

abbrev pub stack_of : Owner → ℕ
stack_of owner = owner.stack

-- the owner holds the places of `s`, each once, and counts them as free, so that `take` can return them
pub record HasFree {A : Type 0} (stacks : Stacks A) (owner : Owner) (s : List Place) : Type 0 where
  pub made : IsOf stacks owner.holder
  pub stack : owner.stack < stacks_of stacks
  pub chain : HasChain stacks owner.holder owner.free s
