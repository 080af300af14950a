use Rattle.std.proofs.Common.{refl, ◌∙◌}
use Rattle.ic_link_ops.proofs.EntryLemmas.{next_set}
use Rattle.ic_link_ops.proofs.SeenEntries.{says_kept}
use Rattle.ic_link_ops.proofs.WidthLemmas.{word_kept}
use Rattle.ic_raw.specs.Tables.{raw_entries, neighbors_of}
use Rattle.ic_raw.proofs.Entries.{changes_seen, seen_covered, seen_linked, seen_written}
use Rattle.ic_raw.proofs.table.RawTableLinkedListOps.set_next.Goals as goal

pub set_next_word-requires-clause-linked : goal.set_next_word-requires-clause-linked
set_next_word-requires-clause-linked g c =
    seen_linked g.W.Words.width g.W.Words.unlinked g.W.Words.is_linked g.met.W.Words.starts_unlinked (raw_entries c.args.self.now) c.args.place _ _ c.slot_of_linked-index.result
    c.slot_of_linked-index.ensures.value c.requires.linked refl

pub set_next_word-requires-clause-kept : goal.set_next_word-requires-clause-kept
set_next_word-requires-clause-kept g c = rw c.of.ensures (word_kept g.W.Words.width c.args.next c.requires.next)

pub returns-clause-set : goal.returns-clause-set
returns-clause-set g c =
    seen_written g.W.Words.width g.W.Words.unlinked g.W.Words.is_linked g.met.W.Words.starts_unlinked (neighbors_of g.W.NextWord.next_word g.W.Words.is_linked g.W.PrevPlace.prev) (λ r. record r { next = c.args.next })
    (raw_entries c.args.self.now) c.args.place _ _ _ c.slot_of_linked-index.result c.slot_of_linked-index.ensures.value c.requires.linked refl
    (next_set g.W.NextWord.next_word g.W.Words.is_linked g.W.PrevPlace.prev _ c.set_next_word.new.self _
    c.set_next_word.ensures.linked (c.set_next_word.ensures.set ∙ c.of.ensures) (g.met.W.PrevPlace.keeps_prev _ _ c.set_next_word.ensures.others))

pub returns-clause-frame : goal.returns-clause-frame
returns-clause-frame g c =
    changes_seen g.W.Words.width _ _ _ _ _ c.slot_of_linked-index.ensures.value
    (seen_covered g.W.Words.width g.W.Words.unlinked g.W.Words.is_linked g.met.W.Words.starts_unlinked (raw_entries c.args.self.now) c.args.place c.requires.linked)

pub returns-clause-trace_stays : goal.returns-clause-trace_stays
returns-clause-trace_stays g c =
    let covered = seen_covered g.W.Words.width g.W.Words.unlinked g.W.Words.is_linked g.met.W.Words.starts_unlinked (raw_entries c.args.self.now) c.args.place c.requires.linked in
    says_kept g.W.Words.width g.W.Words.unlinked g.W.Words.is_linked (raw_entries c.args.self.now) c.args.place _ _ _ c.slot_of_linked-index.result c.slot_of_linked-index.ensures.value covered refl c.set_next_word.ensures.linked
