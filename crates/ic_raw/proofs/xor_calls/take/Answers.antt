use Rattle.std.proofs.Common.{Some, [], ◌∷◌, sym, ap, rules}
use Rattle.ic_raw.specs.Singly.{table_of}
use Rattle.ic_raw.specs.Prelude.{beyond, no_word}
use Rattle.ic_raw.proofs.Touches.{touched_back}
use Rattle.ic_raw.proofs.xor_calls.take.Goals as goal

pub returns-clause-touched : goal.returns-clause-touched
returns-clause-touched c made =
    let view = c.new-links.ensures.1 in
    let member = c.args.member in
    let before = c.args.before in
    touched_back no_word c.new-links.result c.remove.new.links view (search rules) (ap (λ es. Some member ∷ before ∷ beyond (table_of es) (Some member) before ∷ []) (sym view))
    (c.remove.ensures.touched c.if-not-remove.false)
