-- This file proves what follows, for collections of every kind, from five facts that each kind proves.
use Rattle.std.proofs.Common.{◌≡◌, Bool, Option, List, [], append-nil}
use Rattle.ic_link_ops.specs.Base.{Place, Cut, join, at_back, IsAbsent, IsDistinct, IsAfter, IsDisjoint, Table, ChangesOnlyIn, IsUnlinked}
use Rattle.ic_link_ops.specs.Edits.{Splices, Splits}
use Rattle.ic_link_ops.proofs.Covering.{frames_join}
use Rattle.ic_link_ops.proofs.SequenceLemmas.{disjoint_nothing, disjoint_sym, distinct_disjoint}

-- A kind of collection proves five facts. A collection keeps its sequence if only entries of other places change. An unlinked
-- place is no member. No place occurs twice in a sequence. Every table represents the empty sequence for an empty collection. A
-- table represents at most one sequence for a collection.
pub record IsKind {E H : Type 0} (Represents : Table E → H → List Place → Type 0) (linked : E → Bool) (empty : H) : Type 0 where
  pub frame : (old new : Table E) (list : H) (s touched : List Place)
      → Represents old list s → IsDisjoint s touched → ((q : Place) → IsAbsent q touched → new.entry q ≡ old.entry q) → Represents new list s
  pub free : (t : Table E) (list : H) (s : List Place) (p : Place) → Represents t list s → IsUnlinked linked t p → IsAbsent p s
  pub distinct : (t : Table E) (list : H) (s : List Place) → Represents t list s → IsDistinct s
  pub nothing : (t : Table E) → Represents t empty []
  pub one : (t : Table E) (list : H) (s u : List Place) → Represents t list s → Represents t list u → s ≡ u

module _ {E H : Type 0} {Represents : Table E → H → List Place → Type 0} {linked : E → Bool} {empty : H} (kind : IsKind Represents linked empty) where
  -- Every table represents the empty sequence for a new collection.
  pub new_represents_nothing : (t : Table E) → Represents t empty []
  new_represents_nothing t = kind.nothing t

  -- All sequences that a table represents for a collection are equal.
  pub one_sequence_is_represented : {t : Table E} {list : H} {s u : List Place} → Represents t list s → Represents t list u → s ≡ u
  one_sequence_is_represented {t} {list} {s} {u} shown other = kind.one t list s u shown other

  -- After `cover`, accepted or refused, a collection keeps its sequence, because no entry changed. The argument `stays` is the
  -- clause `stays` of the contract of `cover`.
  pub kept_represented : {old new : Table E} {list : H} {s : List Place} → ((q : Place) → new.entry q ≡ old.entry q) → Represents old list s → Represents new list s
  kept_represented {old} {new} {list} {s} stays shown = kind.frame old new list s [] shown (disjoint_nothing s) (λ q out. stays q)

  -- If only entries at members of `touched` change, a collection that shares no member with `touched` keeps its sequence.
  pub others_stay : {old new : Table E} {list : H} {s : List Place} (touched : List Place)
      → Represents old list s → IsDisjoint s touched → ChangesOnlyIn old new touched → Represents new list s
  others_stay {old} {new} {list} {s} touched shown apart frame = kind.frame old new list s touched shown apart frame.others

  -- A split and then a splice at the same position lead back to the old sequence. Together they change only entries of its
  -- members. `splits` and `splices` are clauses of the contracts of the two calls.
  pub split_then_splice : {t u v : Table E} {list kept handed spliced : H} {position : Option Place} (gap : Cut) → Represents t list (join gap) → IsAfter gap position
      → (splits : (g : Cut) → Represents t list (join g) → IsAfter g position → Splits Represents t u kept handed g.front g.back)
      → (splices : (g : Cut) (s : List Place) → Represents u kept (join g) → IsAfter g position → Represents u handed s → IsDisjoint s (join g) → Splices Represents u v spliced g s)
      → Represents v spliced (join gap) × ChangesOnlyIn t v (join gap)
  split_then_splice {t} {list = list} gap shown after splits splices =
      let parts = splits gap shown after in
      let apart = disjoint_sym gap.front gap.back (distinct_disjoint gap.front gap.back (kind.distinct t list (join gap) shown)) in
      let whole = splices (at_back gap.front) gap.back (rw (append-nil gap.front) parts.keeps) after parts.hands_out (rw (append-nil gap.front) apart) in (
        rw (append-nil gap.back) at whole.shows,
        frames_join parts.frame whole.frame (λ q out. rw (append-nil gap.back) out),
      )
