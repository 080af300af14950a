use Rattle.std.proofs.Common.{sym, ap, rules}
use Rattle.ic_link_ops.specs.PlainTables.{entry_at}
use Rattle.ic_raw.specs.Prelude.{marked_table, no_tree_words}
use Rattle.ic_raw.specs.Tree.{Represents, root_in}
use Rattle.ic_raw.proofs.Trees.{kept}
use Rattle.ic_raw.proofs.check_calls.check_tree.Goals as goal

pub returns-in_default : goal.returns-in_default
returns-in_default c = record {
  shown = search rules;
  not_represented = λ refused s shown.
      let here : Represents (marked_table c.new-links.result) (root_in c.args.tree.now) s = kept _ _ _ _ shown (λ q. ap (λ es. entry_at no_tree_words es q) c.new-links.ensures.words) in
      (rw c.in_default.is at c.check_tree.ensures) s (rw c.tree_of.ensures here);
  refused = search rules;
  same = search rules;
  why = search rules;
  is_status = search rules;
}

pub returns : goal.returns
returns c = record {
  shown = λ accepted.
      let found = rw c.in-Some.is at c.check_tree.ensures in
      let there : Represents (marked_table c.new-links.result) (root_in c.args.tree.now) found.0 = rw (← c.tree_of.ensures) found.1 in
      (found.0, kept _ _ _ _ there (λ q. ap (λ es. entry_at no_tree_words es q) (sym c.new-links.ensures.words)), found.2);
  not_represented = search rules;
  refused = search rules;
  same = search rules;
  why = search rules;
  is_status = search rules;
}
