use Rattle.std.proofs.Common.{◌∙◌}
use Rattle.ic_link_ops.proofs.EntryLemmas.{entry_same}
use Rattle.ic_raw.specs.Prelude.{raw_entries, no_word}
use Rattle.ic_raw.proofs.Entries.{changes_only}
use Rattle.ic_raw.proofs.Singly.{covered}
use Rattle.ic_raw.proofs.xor_list.unlink.Goals as goal

pub returns-clause-frame : goal.returns-clause-frame
returns-clause-frame c = changes_only _ _ _ _ _ c.index.ensures.value

pub returns-clause-word : goal.returns-clause-word
returns-clause-word c =
    entry_same no_word (raw_entries c.args.links.now) c.args.place _ c.index.result c.index.ensures.value (covered c.args.links.now c.args.place c.requires.linked) ∙ c.unlinked.ensures
