use Rattle.std.proofs.Common.{Some, [], ◌∷◌, refl, rules}
use Rattle.ic_raw.proofs.Numbers.{none_named}
use Rattle.ic_raw.proofs.Singly.{touches_places}
use Rattle.ic_raw.proofs.stack_calls.pop_front_slow.Goals as goal

pub returns : goal.returns
returns c = record {
  taken = λ s p shown. c.remove_after.ensures.taken [] s p none_named shown;
  handed = λ p is made. (rw none_named at c.remove_after.ensures.handed) p is made;
  null = let null = rw none_named at c.remove_after.ensures.null in ((λ e. (null.0 e).1), (λ e. null.1 (refl, e)));
  accepted = rw none_named at c.remove_after.ensures.accepted;
  own = λ made. rw none_named at (c.remove_after.ensures.own made);
  touched = λ p is made. touches_places (Some p ∷ []) ((rw none_named at c.remove_after.ensures.touched) p is made);
  words = search rules;
  refused = search rules;
  why = λ refused other. rw none_named at (c.remove_after.ensures.why refused other);
  is_status = search rules;
}
