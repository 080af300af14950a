use Rattle.ic_unsafe_ref.proofs.Placing.{exchanged_puts, put_there, put_others}
use Rattle.ic_container.proofs.ListedLemmas.{listed_changed, listed_moved, listed_stands, listed_values_moved}
use Rattle.ic_indexed.proofs.indexed.Indexed.replace_and_touch.Goals as goal

pub move_to_front-requires : goal.move_to_front-requires
move_to_front-requires g c = record { member = listed_stands c.self.invariant.listed (rw (← c.self.view_is) at c.requires.placed) }

pub invariant_of-self : goal.invariant_of-self
invariant_of-self g c =
    let moved = listed_moved c.self.invariant.listed c.move_to_front.new.links c.move_to_front.new.list c.move_to_front.ensures in
    record { keyed = c.replace_keyed-gone.ensures.all; listed = listed_changed moved (rw (← c.self.view_is) at c.requires.placed) (exchanged_puts c.replace_keyed-gone.ensures.exchanged) }

pub returns-clause-renewed : goal.returns-clause-renewed
returns-clause-renewed g c =
    let puts = exchanged_puts c.replace_keyed-gone.ensures.exchanged in
    rw (← c.self.view_is) (listed_values_moved c.self.invariant.listed c.move_to_front.new.links c.move_to_front.new.list c.move_to_front.ensures c.replace_keyed-gone.new.objects (put_others puts) c.replace_keyed-gone.ensures.value (put_there puts))
