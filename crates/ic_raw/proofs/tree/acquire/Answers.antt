use Rattle.std.proofs.Common.{length, slice_set, sym, subst}
use Rattle.ic_link_ops.specs.PlainTables.{entry_at}
use Rattle.ic_link_ops.proofs.Prelude.{entry_same, some_same}
use Rattle.ic_raw.specs.declared.words.RawThree.{RawThree}
use Rattle.ic_raw.specs.Prelude.{NamesWithin, raw_entries, no_tree_words}
use Rattle.ic_raw.proofs.Seen.{bare_within}
use Rattle.ic_raw.proofs.Trees.{in_range}
use Rattle.ic_raw.proofs.tree.acquire.Goals as goal

pub returns-clause-bare : goal.returns-clause-bare
returns-clause-bare c p is =
    let old = raw_entries c.acquire.new.self in
    let bare : RawThree = record { left = 1; right = 0; parent = 0 } in
    let new = slice_set old c.index.result bare in
    let covered = in_range c.acquire.new.self c.in-Some.place (c.acquire.ensures.linked _ c.in-Some.is) in
    let written = entry_same no_tree_words old c.in-Some.place bare c.index.result c.index.ensures.value covered in
    subst (λ q. NamesWithin (length new) (entry_at no_tree_words new q)) (some_same is) (subst (NamesWithin (length new)) (sym written) (bare_within (length new)))
