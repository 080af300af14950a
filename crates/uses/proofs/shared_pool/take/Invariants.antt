use Rattle.ic_atomic.specs.Prelude.{HoldsTheSame, record_of, IsOf}
use Rattle.uses.specs.Pool.{WereRefused}
use Rattle.uses.proofs.shared_pool.take.Given as goal

abbrev pub invariant-loop-index : goal.invariant-loop-index
invariant-loop-index g l = record {
  made : IsOf l.claims l.holder;
  refused : WereRefused l.index (record_of l.fn.holder) (record_of l.holder);
  held : HoldsTheSame (record_of l.fn.holder) (record_of l.holder);
}
