use Rattle.std.proofs.Common.{refl, sym, ap, ◌∙◌, rules}
use Rattle.ic_link_ops.specs.Chains.{Ends}
use Rattle.ic_raw.specs.Words.{no_word}
use Rattle.ic_raw.proofs.Touches.{touched_back}
use Rattle.ic_raw.proofs.Xor.{turned_back}
use Rattle.ic_raw.proofs.xor_calls.splice.Goals as goal

pub returns-clause-touched : goal.returns-clause-touched
returns-clause-touched c made =
    let touched = c.splice.ensures.touched c.if-not-splice.false in
    touched_back no_word c.new-links.result c.splice.new.links c.new-links.ensures.1 (search rules) refl (rw c.list_of.ensures at touched)

pub returns-clause-own : goal.returns-clause-own
returns-clause-own c first is made =
    turned_back (ap (λ (e : Ends). e.tail) (sym c.list_of.ensures)) c.list_of-edited.ensures c.write_back.ensures.set
    (c.splice.ensures.own first (ap (λ (e : Ends). e.head) c.list_of.ensures ∙ is) c.if-not-splice.false)
