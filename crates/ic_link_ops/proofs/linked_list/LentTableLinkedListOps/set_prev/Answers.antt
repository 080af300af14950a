use Rattle.std.proofs.Common.{refl}
use Rattle.ic_link_ops.specs.Links.{link_with}
use Rattle.ic_link_ops.specs.Readings.{neighbors_of}
use Rattle.ic_link_ops.specs.LentTables.{lent_entries}
use Rattle.ic_link_ops.proofs.EntryLemmas.{prev_set}
use Rattle.ic_link_ops.proofs.SeenEntries.{view_changes_only, says_written, linked_seen, keeps_linked}
use Rattle.ic_link_ops.proofs.linked_list.LentTableLinkedListOps.set_prev.Goals as goal

pub returns-clause-set : goal.returns-clause-set
returns-clause-set g c =
    says_written g.W.Words.is_linked g.W.Words.width (link_with g.W.Words.unlinked g.V.LinkValue.initial) g.met.W.Words.starts_unlinked (neighbors_of g.W.NextWord.next_word g.W.Words.is_linked g.W.PrevPlace.prev) (λ r. record r { prev = c.args.prev }) _ _ _ _ _ _
    c.slot-index.ensures.value c.requires.linked refl
    (prev_set g.W.NextWord.next_word g.W.Words.is_linked g.W.PrevPlace.prev _ c.set_prev.new.self _
    c.set_prev.ensures.linked c.set_prev.ensures.next_word c.set_prev.ensures.set)

pub returns-clause-frame : goal.returns-clause-frame
returns-clause-frame g c = view_changes_only g.V.LinkValue.printed g.W.Words.width _ _ _ _ _ _ _ c.slot-index.ensures.value (linked_seen g.W.Words.is_linked g.W.Words.width _ g.met.W.Words.starts_unlinked _ _ c.requires.linked) refl refl

pub returns-clause-trace_stays : goal.returns-clause-trace_stays
returns-clause-trace_stays g c =
    keeps_linked g.W.Words.is_linked g.W.Words.width (link_with g.W.Words.unlinked g.V.LinkValue.initial) (lent_entries c.args.self.now) c.args.place _ _ _ _ c.slot-index.ensures.value
    (linked_seen g.W.Words.is_linked g.W.Words.width _ g.met.W.Words.starts_unlinked _ _ c.requires.linked) refl c.set_prev.ensures.linked
