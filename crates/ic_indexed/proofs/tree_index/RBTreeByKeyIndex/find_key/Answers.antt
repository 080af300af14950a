use Rattle.std.proofs.Common.{◌≡◌, ℕ, ◌+◌, ◌^◌, ◌≤◌, ◌∙◌, sym, subst, arith}
use Rattle.ic_rbtree.specs.Prelude.{WithinComparisonBound, members, node_by, root_of}
use Rattle.ic_rbtree.specs.Cursor.{position}
use Rattle.ic_link_ops.specs.PlainTables.{table}
use Rattle.ic_container.proofs.TreeLemmas.{all_found, all_placed, all_represented, as_many_keys}
use Rattle.ic_container.proofs.ValueLemmas.{as_many}
use Rattle.ic_indexed.proofs.tree_index.RBTreeByKeyIndex.find_key.Goals as goal

pub find_by-requires-clause-placed : goal.find_by-requires-clause-placed
find_by-requires-clause-placed g c = all_placed g.T.HasKey.key_of c.args.objects.now c.requires.all

pub returns-clause-found : goal.returns-clause-found
returns-clause-found g c =
    rw c.get_ptr-place.ensures (all_found g.T.HasKey.key_of c.args.objects.now c.requires.all c.args.key (position c.find_by.result) (rw c.new-probe.ensures.key at c.find_by.ensures.found))

pub returns-clause-looks : goal.returns-clause-looks
returns-clause-looks g c order whole =
    let s = members (node_by g.W.NodeWords.node) (table g.W.Words.width g.W.Words.unlinked c.args.links.now) (root_of c.args.self.now) in
    let l = c.find_by.ensures.looks s (all_represented g.T.HasKey.key_of c.args.objects.now c.requires.all) in
    let counted : l.looks ≡ c.looks.result = omega (arith, l.counted, c.looks.ensures, c.new-probe.ensures.none) in
    let same = as_many_keys g.T.HasKey.key_of c.args.objects.now c.requires.all order whole in
    let few = subst (λ (n : ℕ). WithinComparisonBound n s) counted l.few in
    let many = as_many c.args.objects.now order whole.placed in
    record { few = subst (λ (n : ℕ). 2 ^ c.looks.result ≤ (n + 1) ^ 2) (same ∙ sym many) few.few; some = λ some. few.some (omega (arith, some, same, many)) }
