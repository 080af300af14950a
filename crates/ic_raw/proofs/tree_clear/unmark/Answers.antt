use Rattle.std.proofs.Common.{[], ◌∷◌, refl, sym, ap, ◌∙◌, slice_set, slice_index_or}
use Rattle.ic_link_ops.specs.PlainTables.{table_with}
use Rattle.ic_link_ops.proofs.EntryLemmas.{entry_same, entry_read}
use Rattle.ic_raw.specs.declared.words.RawThree.{RawThree}
use Rattle.ic_raw.specs.Prelude.{raw_entries, no_tree_words}
use Rattle.ic_raw.specs.Tree.{lent_table}
use Rattle.ic_raw.specs.TreeShape.{unmarked}
use Rattle.ic_raw.proofs.Entries.{changes_only}
use Rattle.ic_raw.proofs.TreeWalks.{seen_unmarked}
use Rattle.ic_raw.proofs.tree_clear.unmark.Goals as goal

pub returns-clause-frame : goal.returns-clause-frame
returns-clause-frame c = changes_only _ _ _ _ _ c.index.ensures.value

pub returns-clause-seen : goal.returns-clause-seen
returns-clause-seen c =
    let es = raw_entries c.args.links.now in
    let p = c.args.place in
    let i = c.index.result in
    let at = c.index.ensures.value in
    let old : RawThree = slice_index_or es i no_tree_words in
    let new = unmarked old in
    let u = table_with no_tree_words (c.args.links.now.entries.ghost_name ∷ []) (slice_set es i new) in
    let read = entry_read no_tree_words es p old no_tree_words i at c.requires.covered refl in
    seen_unmarked (lent_table c.args.links.now) u p (changes_only no_tree_words es p new i at)
    (entry_same no_tree_words es p new i at c.requires.covered ∙ ap unmarked (sym read))

pub returns-clause-kept : goal.returns-clause-kept
returns-clause-kept c =
    let es = raw_entries c.args.links.now in
    let p = c.args.place in
    let i = c.index.result in
    let at = c.index.ensures.value in
    let old : RawThree = slice_index_or es i no_tree_words in
    let read = entry_read no_tree_words es p old no_tree_words i at c.requires.covered refl in
    entry_same no_tree_words es p (unmarked old) i at c.requires.covered ∙ ap unmarked (sym read)
