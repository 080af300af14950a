use Rattle.std.proofs.Common.{refl, ap, ◌∙◌}
use Rattle.ic_link_ops.specs.Links.{link_with, words_of}
use Rattle.ic_link_ops.specs.PlainTables.{entries}
use Rattle.ic_link_ops.proofs.WidthLemmas.{word_kept, xor_kept}
use Rattle.ic_link_ops.proofs.SeenEntries.{changes_only, linked_seen, keeps_linked, linked_read, entry_set}
use Rattle.ic_link_ops.proofs.xor_linked_list.PlainTableXorLinkedListOps.set.Goals as goal

pub set_next_word-requires-clause-linked : goal.set_next_word-requires-clause-linked
set_next_word-requires-clause-linked g c =
    linked_read g.W.Words.is_linked g.W.Words.width (link_with g.W.Words.unlinked g.V.LinkValue.initial) g.met.W.Words.starts_unlinked (entries c.args.self.now) c.args.place _ _ _ c.slot-index.ensures.value c.requires.linked c.index_mut-entry.ensures.value

pub set_next_word-requires-clause-kept : goal.set_next_word-requires-clause-kept
set_next_word-requires-clause-kept g c =
    rw c.between.ensures (xor_kept g.W.Words.width _ _ (word_kept g.W.Words.width c.args.prev c.requires.prev) (word_kept g.W.Words.width c.args.next c.requires.next))

pub returns-clause-frame : goal.returns-clause-frame
returns-clause-frame g c = changes_only g.V.LinkValue.printed g.W.Words.width _ _ _ c.index_mut-entry.result.now _ _ _ c.slot-index.ensures.value (linked_seen g.W.Words.is_linked g.W.Words.width _ g.met.W.Words.starts_unlinked _ _ c.requires.linked) c.index_mut-entry.ensures.value refl

pub returns-clause-trace_stays : goal.returns-clause-trace_stays
returns-clause-trace_stays g c =
    keeps_linked g.W.Words.is_linked g.W.Words.width (link_with g.W.Words.unlinked g.V.LinkValue.initial) (entries c.args.self.now) c.args.place c.index_mut-entry.result.now _ _ _ c.slot-index.ensures.value
    (linked_seen g.W.Words.is_linked g.W.Words.width _ g.met.W.Words.starts_unlinked _ _ c.requires.linked) c.index_mut-entry.ensures.value c.set_next_word.ensures.linked

pub returns-clause-set : goal.returns-clause-set
returns-clause-set g c =
    ap (λ l. g.W.NextWord.next_word (words_of l)) (entry_set g.W.Words.width (link_with g.W.Words.unlinked g.V.LinkValue.initial) (entries c.args.self.now) c.args.place _ c.slot-index.result c.slot-index.ensures.value (linked_seen g.W.Words.is_linked g.W.Words.width _ g.met.W.Words.starts_unlinked _ _ c.requires.linked))
    ∙ c.set_next_word.ensures.set ∙ c.between.ensures

pub returns-clause-linked : goal.returns-clause-linked
returns-clause-linked g c = returns-clause-trace_stays g c c.args.place ∙ c.requires.linked
