use Rattle.ic_lock_free_stack.specs.Moments.{entry, at_first}
use Rattle.ic_lock_free_stack.specs.declared.step.Step.TheVariants.{TakeAll}
use Rattle.ic_lock_free_stack.proofs.LawLemmas.{legal_last, sound_history, push_more, take_more, other_more}
use Rattle.ic_lock_free_stack.proofs.laws.history_laws.Goals as goal

pub returns : goal.returns
returns c = record {
  pushes = push_more;
  takes = λ order h k s legal. (legal_last at_first order (entry h (TakeAll k s)) legal, take_more order h k s);
  others = other_more;
  members = λ order k p legal. (sound_history order legal).members p k;
  once = λ order k legal. (sound_history order legal).once k;
}
