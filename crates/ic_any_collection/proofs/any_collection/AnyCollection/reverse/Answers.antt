use Rattle.std.proofs.Common.{rules}
use Rattle.ic_any_collection.proofs.Common.{◌≡◌, Option, None, List, reverse, ap, Place, Table, Ends, list_head, PlaceAndNext, Entry, Xor, Keeps, xor_null}
use Rattle.ic_link_ops.specs.XorLaws.{joins_symmetric}
use Rattle.ic_link_ops.proofs.XorLists.{joined_symmetric}
use Rattle.ic_link_ops.proofs.RepresentedLists.{represents_reversed}
use Rattle.ic_any_collection.proofs.any_collection.AnyCollection.reverse.Goals as goal

-- A TABLE THAT KEEPS s for an XOR list (`Keeps`) also keeps the reverse of s for the reversed list. No entry changes
keeps_turned : {V : Type 0} {t : Table Entry} {l l' : Ends} {at at' : Option PlaceAndNext} {s : List Place} → Keeps {V = V} t (Xor l at) s
    → l' ≡ list_head l.tail l.head → at' ≡ None → Keeps {V = V} t (Xor l' at') (reverse s)
keeps_turned {s = s} kept list null = record {
  carried = kept.carried;
  shown = represents_reversed (joined_symmetric (λ e a b j. joins_symmetric e.word a b j)) kept.shown (ap (λ l. l.head) list) (ap (λ l. l.tail) list);
  stands = xor_null (reverse s) null;
}

pub returns-clause-kept : goal.returns-clause-kept
returns-clause-kept g c = let held = rw c.in-Xor.is at c.requires.held in rw c.in-Xor.is (keeps_turned held (search rules) c.null.ensures.null)
