-- A split of a list of any kind leaves two lists that share no member.
use Rattle.std.proofs.Common.{Bool, Option, List, append-nil}
use Rattle.ic_link_ops.specs.Base.{Place, Cut, join, at_front, at_back, IsAfter, IsBefore, Table}
use Rattle.ic_link_ops.specs.Edits.{Splits}
use Rattle.ic_link_ops.specs.TwoLists.{AreApart}
use Rattle.ic_link_ops.proofs.CollectionLaws.{IsKind}
use Rattle.ic_link_ops.proofs.SequenceLemmas.{disjoint_sym, distinct_disjoint, gap_after, gap_before}

module _ {E H : Type 0} {Represents : Table E → H → List Place → Type 0} {linked : E → Bool} {empty : H} (kind : IsKind Represents linked empty)
    {t : Table E} {list other : H} {position : Option Place} (a : AreApart Represents t list other position) {t' : Table E} {list' handed : H} where
  -- After a split, one part of the members is the first list and the other part is the second list, and they share no member.
  pub split_after : ((gap : Cut) → Represents t list (join gap) → IsAfter gap position → Splits Represents t t' list' handed gap.front gap.back)
      → AreApart Represents t' list' handed position
  split_after splits =
      let s = splits a.gap a.shown a.after in
      record {
        gap = at_back a.gap.front;
        rest = a.gap.back;
        shown = rw (append-nil a.gap.front) s.keeps;
        after = a.after;
        other_represented = s.hands_out;
        apart = rw (append-nil a.gap.front) (disjoint_sym a.gap.front a.gap.back (distinct_disjoint a.gap.front a.gap.back (kind.distinct t list (join a.gap) a.shown)));
      }

  pub split_before : ((gap : Cut) → Represents t list (join gap) → IsBefore gap position → Splits Represents t t' list' handed gap.back gap.front)
      → AreApart Represents t' list' handed position
  split_before splits =
      let k = gap_before a.gap position a.after in
      let shown = rw (← k.1) at a.shown in
      let s = splits k.0 shown k.2 in
      let n = gap_after (at_front k.0.back) position k.2 in
      record {
        gap = n.0;
        rest = k.0.front;
        shown = rw n.1 s.keeps;
        after = n.2;
        other_represented = s.hands_out;
        apart = rw n.1 (distinct_disjoint k.0.front k.0.back (kind.distinct t list (join k.0) shown));
      }
