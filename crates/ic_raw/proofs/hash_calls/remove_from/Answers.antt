use Rattle.std.proofs.Common.{◌≡◌, Some, refl, ap, subst, ◌∙◌, rules}
use Rattle.ic_link_ops.specs.SinglyLinkedList.{Front, list_from}
use Rattle.ic_raw.specs.Singly.{lent_table, list_of, next_from, table_of}
use Rattle.ic_raw.specs.Words.{no_word}
use Rattle.ic_raw.proofs.Own.{front_lost}
use Rattle.ic_raw.proofs.Touches.{touched_back}
use Rattle.ic_raw.proofs.hash_calls.remove_from.Goals as goal

pub returns-clause-own : goal.returns-clause-own
returns-clause-own c made =
    front_lost c.new-links.result c.args.list.now c.write_back.new.words c.new-links.ensures.1 c.stack_of-edited.ensures c.write_back.ensures.set c.in-Some.before c.first.ensures (c.place_before.ensures.first _ c.in-Some.is)
    c.remove.ensures.own

pub returns-clause-touched : goal.returns-clause-touched
returns-clause-touched c made =
    let view = c.new-links.ensures.1 in
    let before = c.in-Some.before in
    let front = c.first.ensures ∙ ap (λ (l : Front). l.head) c.stack_of-edited.ensures in
    let seen = subst (λ f. next_from (lent_table c.new-links.result) (list_from f) before ≡ Some c.args.member) front (c.place_before.ensures.leads before c.in-Some.is) in
    record {
      before = before;
      stands = search rules;
      leads = subst (λ es. next_from (table_of es) (list_of c.args.list.now) before ≡ Some c.args.member) view seen;
      touched = touched_back no_word c.new-links.result c.remove.new.links view (search rules) refl c.remove.ensures.touched;
    }
