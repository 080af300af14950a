-- Lemmas on the removal of a job from a worker's list, if the job is linked in the worker's table.
use Rattle.std.proofs.Common.{◌≡◌, List, ◌∷◌, ◌++◌, sym, ◌∙◌, subst, true≢false}
use Rattle.ic_link_ops.specs.Prelude.{Place, Cut, join, insert, IsAbsent, IsMember, IsLinked, IsUnlinked, Unlinks, Ends}
use Rattle.ic_link_ops.specs.DoublyEntries.{DoublyLinkOps, is_linked, plain_table, PlainRepresents}
use Rattle.ic_link_ops.proofs.LinkedSets.{everywhere}
use Rattle.ic_link_ops.proofs.SequenceLemmas.{absent_with, member_split}
use Rattle.uses.specs.SharedJobs.{HasAll}

module _ {A : Type 0} {links : DoublyLinkOps A} {jobs : Ends} {s : List Place} (all : HasAll links jobs s) (p : Place) (linked : IsLinked is_linked (plain_table links) p) where
  -- if the place `p` is linked in the table, then it is a member of the list
  pub is_listed : IsMember p s
  is_listed out = true≢false (sym linked ∙ all.only p out)

  -- if the place `p` is removed from the list and unlinked, then the list has all other linked places of the table
  pub all_but : {new : DoublyLinkOps A} {after : Ends} → ((front back : List Place) → PlainRepresents links jobs (front ++ p ∷ back) → PlainRepresents new after (front ++ back))
      → Unlinks is_linked (plain_table links) (plain_table new) p → (gap : Cut) × (s ≡ insert gap p) × HasAll new after (join gap)
  all_but {new} removed off =
      let m = member_split p s is_listed in (
        record { front = m.0; back = m.1 },
        m.2,
        record {
          shown = removed m.0 m.1 (subst (PlainRepresents links jobs) m.2 all.shown);
          only = λ q. everywhere (λ q. IsAbsent q (m.0 ++ m.1) → IsUnlinked is_linked (plain_table new) q) p q (λ out. off.is)
              (λ n out. off.others q n ∙ all.only q (subst (IsAbsent q) (sym m.2) (absent_with m.0 m.1 p q n out)));
        },
      )
