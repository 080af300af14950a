use Rattle.std.proofs.Common.{refl, ◌∙◌, ap, bit_xor}
use Rattle.ic_unsafe_ref.specs.Places.{word_of}
use Rattle.ic_link_ops.specs.Links.{link_with, words_of}
use Rattle.ic_link_ops.specs.XorLaws.{joins_replaced}
use Rattle.ic_link_ops.specs.LentTables.{lent_entries}
use Rattle.ic_link_ops.proofs.WidthLemmas.{word_kept, xor_kept}
use Rattle.ic_link_ops.proofs.SeenEntries.{view_changes_only, says_written, linked_seen, keeps_linked, linked_read}
use Rattle.ic_link_ops.proofs.xor_linked_list.LentTableXorLinkedListOps.replace_next_or_prev.Goals as goal

pub next_word-word-requires : goal.next_word-word-requires
next_word-word-requires g c =
    record { linked = linked_read g.W.Words.is_linked g.W.Words.width (link_with g.W.Words.unlinked g.V.LinkValue.initial) g.met.W.Words.starts_unlinked (lent_entries c.args.self.now) c.args.place _ _ _ c.slot-index.ensures.value c.requires.linked refl }

pub set_next_word-requires-clause-kept : goal.set_next_word-requires-clause-kept
set_next_word-requires-clause-kept g c =
    let w = g.W.Words.width in
    rw c.replaced.ensures
    (xor_kept w _ _ (xor_kept w _ _ c.next_word-word.ensures.kept (word_kept w c.args.old c.requires.from)) (word_kept w c.args.new c.requires.to))

pub set_next_word-requires-clause-linked : goal.set_next_word-requires-clause-linked
set_next_word-requires-clause-linked g c =
    linked_read g.W.Words.is_linked g.W.Words.width (link_with g.W.Words.unlinked g.V.LinkValue.initial) g.met.W.Words.starts_unlinked (lent_entries c.args.self.now) c.args.place _ _ _ c.slot-index.ensures.value c.requires.linked refl

pub returns-clause-replaced : goal.returns-clause-replaced
returns-clause-replaced g c x joins =
    says_written g.W.Words.is_linked g.W.Words.width (link_with g.W.Words.unlinked g.V.LinkValue.initial) g.met.W.Words.starts_unlinked (λ l. g.W.NextWord.next_word (words_of l))
    (λ w. bit_xor (bit_xor w (word_of c.args.old)) (word_of c.args.new)) _ _ _ _ _ _
    c.slot-index.ensures.value c.requires.linked refl
    (c.set_next_word.ensures.set ∙ c.replaced.ensures ∙ ap (λ w. bit_xor (bit_xor w (word_of c.args.old)) (word_of c.args.new)) c.next_word-word.ensures.word)
    ∙ joins_replaced _ c.args.old c.args.new x joins

pub returns-clause-frame : goal.returns-clause-frame
returns-clause-frame g c = view_changes_only g.V.LinkValue.printed g.W.Words.width _ _ _ _ _ _ _ c.slot-index.ensures.value (linked_seen g.W.Words.is_linked g.W.Words.width _ g.met.W.Words.starts_unlinked _ _ c.requires.linked) refl refl

pub returns-clause-trace_stays : goal.returns-clause-trace_stays
returns-clause-trace_stays g c =
    keeps_linked g.W.Words.is_linked g.W.Words.width (link_with g.W.Words.unlinked g.V.LinkValue.initial) (lent_entries c.args.self.now) c.args.place _ _ _ _ c.slot-index.ensures.value
    (linked_seen g.W.Words.is_linked g.W.Words.width _ g.met.W.Words.starts_unlinked _ _ c.requires.linked) refl c.set_next_word.ensures.linked

pub returns-clause-linked : goal.returns-clause-linked
returns-clause-linked g c = returns-clause-trace_stays g c c.args.place ∙ c.requires.linked
