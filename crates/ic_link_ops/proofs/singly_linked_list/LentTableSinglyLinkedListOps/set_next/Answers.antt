use Rattle.std.proofs.Common.{refl, ◌∙◌}
use Rattle.ic_link_ops.specs.Links.{link_with}
use Rattle.ic_link_ops.specs.Readings.{successor_of}
use Rattle.ic_link_ops.specs.LentTables.{lent_entries}
use Rattle.ic_link_ops.proofs.WidthLemmas.{word_kept}
use Rattle.ic_link_ops.proofs.EntryLemmas.{successor_set}
use Rattle.ic_link_ops.proofs.SeenEntries.{view_changes_only, says_written, linked_seen, keeps_linked, linked_read}
use Rattle.ic_link_ops.proofs.singly_linked_list.LentTableSinglyLinkedListOps.set_next.Goals as goal

pub set_next_word-requires-clause-linked : goal.set_next_word-requires-clause-linked
set_next_word-requires-clause-linked g c =
    linked_read g.W.Words.is_linked g.W.Words.width (link_with g.W.Words.unlinked g.V.LinkValue.initial) g.met.W.Words.starts_unlinked (lent_entries c.args.self.now) c.args.place _ _ _ c.slot-index.ensures.value c.requires.linked refl

pub set_next_word-requires-clause-kept : goal.set_next_word-requires-clause-kept
set_next_word-requires-clause-kept g c = rw c.of.ensures (word_kept g.W.Words.width c.args.next c.requires.next)

pub returns-clause-set : goal.returns-clause-set
returns-clause-set g c =
    says_written g.W.Words.is_linked g.W.Words.width (link_with g.W.Words.unlinked g.V.LinkValue.initial) g.met.W.Words.starts_unlinked (successor_of g.W.NextWord.next_word g.W.Words.is_linked) (λ r. record r { next = c.args.next }) _ _ _ _ _ _
    c.slot-index.ensures.value c.requires.linked refl
    (successor_set g.W.NextWord.next_word g.W.Words.is_linked _ c.set_next_word.new.self _
    c.set_next_word.ensures.linked (c.set_next_word.ensures.set ∙ c.of.ensures))

pub returns-clause-frame : goal.returns-clause-frame
returns-clause-frame g c = view_changes_only g.V.LinkValue.printed g.W.Words.width _ _ _ _ _ _ _ c.slot-index.ensures.value (linked_seen g.W.Words.is_linked g.W.Words.width _ g.met.W.Words.starts_unlinked _ _ c.requires.linked) refl refl

pub returns-clause-trace_stays : goal.returns-clause-trace_stays
returns-clause-trace_stays g c =
    keeps_linked g.W.Words.is_linked g.W.Words.width (link_with g.W.Words.unlinked g.V.LinkValue.initial) (lent_entries c.args.self.now) c.args.place _ _ _ _ c.slot-index.ensures.value
    (linked_seen g.W.Words.is_linked g.W.Words.width _ g.met.W.Words.starts_unlinked _ _ c.requires.linked) refl c.set_next_word.ensures.linked
