-- This file proves what a plain table has after the borrow of its links ends.
use Rattle.std.proofs.Common.{◌≡◌, ℕ, List, Option, length, sym, ap, ◌∙◌}
use Rattle.std.proofs.lemmas.List.{with_items_is}
use Rattle.ic_unsafe_ref.specs.declared.place.Place.{Place}
use Rattle.ic_link_ops.specs.declared.link.Link.{Link}
use Rattle.ic_link_ops.specs.declared.table.PlainTable.{PlainTable}
use Rattle.ic_link_ops.specs.Chains.{ListHead, RepresentsChain}
use Rattle.ic_link_ops.specs.PlainTables.{entries, entry_at, table_of, table_with, with_entries}
use Rattle.ic_link_ops.proofs.RepresentedLists.{represents_kept}

-- After the borrow ends, the plain table has the links es that the lent table had last. The lent table has as many links as the
-- plain table had at first.
pub given_back : {W A V : Type 0} (t : PlainTable W A V) (es : List (Link W V)) → length es ≡ length (entries t) → entries (with_entries t es) ≡ es
given_back t es e = with_items_is t.entries es (e ∙ sym t.entries.ok.0)

module _ {W V K : Type 0} {between : Link W V → Option Place → Option Place → Type 0} {kept : Option Place → K} (unlinked : Link W V) {list : ListHead K} {s : List Place} where
  -- Two tables with the same links represent the same sequences, whatever the identity of each table is.
  pub represented_alike : {old new : List ℕ} {es es' : List (Link W V)} → es' ≡ es → RepresentsChain between kept (table_with unlinked old es) list s
      → RepresentsChain between kept (table_with unlinked new es') list s
  represented_alike e shown = represents_kept shown (λ q member. ap (λ es. entry_at unlinked es q) e)

  -- After the borrow of its links ends, the plain table represents for each list the sequence that the lent table represented
  -- last.
  pub represented_back : {A : Type 0} {identity : List ℕ} (t : PlainTable W A V) (es : List (Link W V)) → length es ≡ length (entries t)
      → RepresentsChain between kept (table_with unlinked identity es) list s
      → RepresentsChain between kept (table_of unlinked (entries (with_entries t es))) list s
  represented_back t es e shown = represented_alike (given_back t es e) shown
