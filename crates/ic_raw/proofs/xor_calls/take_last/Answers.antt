use Rattle.std.proofs.Common.{Some, None, [], ◌∷◌, sym, ap, rules}
use Rattle.ic_raw.specs.Singly.{table_of}
use Rattle.ic_raw.specs.Prelude.{beyond, no_word}
use Rattle.ic_raw.proofs.Touches.{touched_back}
use Rattle.ic_raw.proofs.xor_calls.take_last.Goals as goal

pub returns-clause-links_back : goal.returns-clause-links_back
returns-clause-links_back c done = rw (← c.new-links.ensures.1) (rw c.list_of-edited.ensures at (c.remove_last.ensures.links_back c.if-not-remove_last.false))

pub returns-clause-touched : goal.returns-clause-touched
returns-clause-touched c made =
    let view = c.new-links.ensures.1 in
    let member = c.args.member in
    touched_back no_word c.new-links.result c.remove_last.new.links view (search rules) (ap (λ es. Some member ∷ beyond (table_of es) (Some member) None ∷ None ∷ []) (sym view))
    (c.remove_last.ensures.touched c.if-not-remove_last.false)
