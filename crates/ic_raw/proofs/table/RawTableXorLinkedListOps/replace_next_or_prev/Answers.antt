use Rattle.std.proofs.Common.{refl, ◌∙◌, ap, bit_xor}
use Rattle.ic_unsafe_ref.specs.Places.{word_of}
use Rattle.ic_link_ops.specs.XorLaws.{joins_replaced}
use Rattle.ic_link_ops.proofs.SeenEntries.{says_kept}
use Rattle.ic_link_ops.proofs.WidthLemmas.{word_kept, xor_kept}
use Rattle.ic_raw.specs.Tables.{raw_entries}
use Rattle.ic_raw.proofs.Entries.{changes_seen, seen_covered, seen_linked, seen_written}
use Rattle.ic_raw.proofs.table.RawTableXorLinkedListOps.replace_next_or_prev.Goals as goal

pub next_word-word-requires : goal.next_word-word-requires
next_word-word-requires g c =
    record {
      linked = seen_linked g.W.Words.width g.W.Words.unlinked g.W.Words.is_linked g.met.W.Words.starts_unlinked (raw_entries c.args.self.now) c.args.place _ _ c.slot_of_linked-index.result
          c.slot_of_linked-index.ensures.value c.requires.linked refl;
    }

pub set_next_word-requires-clause-linked : goal.set_next_word-requires-clause-linked
set_next_word-requires-clause-linked g c =
    seen_linked g.W.Words.width g.W.Words.unlinked g.W.Words.is_linked g.met.W.Words.starts_unlinked (raw_entries c.args.self.now) c.args.place _ _ c.slot_of_linked-index.result
    c.slot_of_linked-index.ensures.value c.requires.linked refl

pub set_next_word-requires-clause-kept : goal.set_next_word-requires-clause-kept
set_next_word-requires-clause-kept g c =
    let w = g.W.Words.width in
    rw c.replaced.ensures
    (xor_kept w _ _ (xor_kept w _ _ c.next_word-word.ensures.kept (word_kept w c.args.old c.requires.from)) (word_kept w c.args.new c.requires.to))

pub returns-clause-replaced : goal.returns-clause-replaced
returns-clause-replaced g c x joins =
    seen_written g.W.Words.width g.W.Words.unlinked g.W.Words.is_linked g.met.W.Words.starts_unlinked g.W.NextWord.next_word
    (λ w. bit_xor (bit_xor w (word_of c.args.old)) (word_of c.args.new)) (raw_entries c.args.self.now) c.args.place _ _ _
    c.slot_of_linked-index.result c.slot_of_linked-index.ensures.value c.requires.linked refl
    (c.set_next_word.ensures.set ∙ c.replaced.ensures ∙ ap (λ w. bit_xor (bit_xor w (word_of c.args.old)) (word_of c.args.new)) c.next_word-word.ensures.word)
    ∙ joins_replaced _ c.args.old c.args.new x joins

pub returns-clause-frame : goal.returns-clause-frame
returns-clause-frame g c =
    changes_seen g.W.Words.width _ _ _ _ _ c.slot_of_linked-index.ensures.value
    (seen_covered g.W.Words.width g.W.Words.unlinked g.W.Words.is_linked g.met.W.Words.starts_unlinked (raw_entries c.args.self.now) c.args.place c.requires.linked)

pub returns-clause-trace_stays : goal.returns-clause-trace_stays
returns-clause-trace_stays g c =
    let covered = seen_covered g.W.Words.width g.W.Words.unlinked g.W.Words.is_linked g.met.W.Words.starts_unlinked (raw_entries c.args.self.now) c.args.place c.requires.linked in
    says_kept g.W.Words.width g.W.Words.unlinked g.W.Words.is_linked (raw_entries c.args.self.now) c.args.place _ _ _ c.slot_of_linked-index.result c.slot_of_linked-index.ensures.value covered refl c.set_next_word.ensures.linked

pub returns-clause-linked : goal.returns-clause-linked
returns-clause-linked g c = returns-clause-trace_stays g c c.args.place ∙ c.requires.linked
