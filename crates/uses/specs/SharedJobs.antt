-- A worker has a list of jobs, and claims the place of a job when it links the job.
use Rattle.std.specs.Prelude.{List}
use Rattle.ic_link_ops.specs.Prelude.{Place, IsAbsent, IsUnlinked, Ends}
use Rattle.ic_link_ops.specs.DoublyEntries.{DoublyLinkOps, is_linked, plain_table, PlainRepresents}

-- THE LIST HAS ALL LINKED PLACES of the table: the table represents the sequence `s` for the list `jobs`, and no place outside `s` is linked
pub record HasAll {A : Type 0} (links : DoublyLinkOps A) (jobs : Ends) (s : List Place) : Type 0 where
  pub shown : PlainRepresents links jobs s
  pub only : (p : Place) → IsAbsent p s → IsUnlinked is_linked (plain_table links) p
