use Rattle.std.proofs.Common.{sym, ap, ◌∙◌, refl}
use Rattle.ic_link_ops.specs.Links.{link_with}
use Rattle.ic_link_ops.specs.PlainTables.{entries, linked_by}
use Rattle.ic_link_ops.specs.Readings.{successor_of}
use Rattle.ic_link_ops.proofs.WidthLemmas.{word_kept}
use Rattle.ic_link_ops.proofs.EntryLemmas.{successor_is}
use Rattle.ic_link_ops.proofs.SeenEntries.{changes_only, entry_set, links_entry, entry_seen}
use Rattle.ic_link_ops.proofs.singly_linked_list.PlainTableSinglyLinkedListOps.link_before.Goals as goal

pub link_to-requires : goal.link_to-requires
link_to-requires g c = record { kept = rw c.of.ensures (word_kept g.W.Words.width c.args.next c.requires.next) }

pub returns-clause-frame : goal.returns-clause-frame
returns-clause-frame g c = changes_only g.V.LinkValue.printed g.W.Words.width _ _ _ c.index_mut-linked.result.now _ _ _ c.slot-index.ensures.value c.requires.covered c.index_mut-linked.ensures.value c.link_to.ensures.value

pub returns-clause-acquired : goal.returns-clause-acquired
returns-clause-acquired g c =
    links_entry g.W.Words.is_linked g.W.Words.width (link_with g.W.Words.unlinked g.V.LinkValue.initial) (entries c.args.self.now) c.args.place c.index.result.now c.link_to.new.self _ c.slot-index.result c.slot-index.ensures.value c.requires.covered
    c.index.ensures (sym c.is_linked.ensures ∙ c.if-is_linked.false) c.link_to.ensures.linked

pub returns-clause-set : goal.returns-clause-set
returns-clause-set g c =
    ap (successor_of g.W.NextWord.next_word g.W.Words.is_linked)
    (entry_set g.W.Words.width (link_with g.W.Words.unlinked g.V.LinkValue.initial) (entries c.args.self.now) c.args.place c.link_to.new.self c.slot-index.result c.slot-index.ensures.value c.requires.covered)
    ∙ successor_is g.W.NextWord.next_word g.W.Words.is_linked c.link_to.new.self.words c.args.next c.link_to.ensures.linked (c.link_to.ensures.next_word ∙ c.of.ensures)

pub returns-then-is_linked-clause-refused : goal.returns-then-is_linked-clause-refused
returns-then-is_linked-clause-refused g c = (
  ap (linked_by g.W.Words.is_linked) (entry_seen g.W.Words.width (link_with g.W.Words.unlinked g.V.LinkValue.initial) (entries c.args.self.now) c.args.place c.index.result.now _ _ c.slot-index.ensures.value c.requires.covered c.index.ensures)
      ∙ sym c.is_linked.ensures ∙ c.if-is_linked.true,
  refl,
)
