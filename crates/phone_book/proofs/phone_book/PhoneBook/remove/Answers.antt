use Rattle.std.proofs.Common.{is_some, sym, ap, ◌∙◌}
use Rattle.ic_link_ops.proofs.SequenceLemmas.{some_same}
use Rattle.ic_container.proofs.TreeLemmas.{unique_freed}
use Rattle.phone_book.specs.Book.{number_of}
use Rattle.phone_book.proofs.phone_book.PhoneBook.remove.Goals as goal

pub remove-requires : goal.remove-requires
remove-requires g c = record { all = c.self.invariant.numbered; placed = ap is_some c.in_ok-place.ensures.1 }

pub remove-requires-2 : goal.remove-requires-2
remove-requires-2 g c = record { all = c.self.invariant.of_persons; placed = ap is_some c.in_ok-place.ensures.1 }

pub invariant_of-self-2 : goal.invariant_of-self-2
invariant_of-self-2 g c =
    let out = rw c.new.ensures at c.remove-3.ensures in
    rw out.links (record { numbered = c.remove.ensures.removed _ out.freed; of_persons = c.remove-2.ensures.removed _ out.freed; unique = unique_freed number_of _ c.self.invariant.unique out.freed })

pub returns-clause-removed : goal.returns-clause-removed
returns-clause-removed g c =
    let out = rw c.new.ensures at c.remove-3.ensures in
    let f = c.in_ok-place.ensures in
    rw (← c.self.view_is) (record { place = c.in_ok-place.place; there = out.value; has = ap number_of (some_same (sym out.value ∙ f.1)) ∙ f.2; freed = out.freed })
