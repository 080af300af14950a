-- In these lemmas a list is cut after its first n members, and its parts are put together in exchanged order.
use Rattle.std.proofs.Common.{ℕ, Option, List, [], ◌++◌, drop, sym, ◌∙◌, subst, append-nil, take, take-append-drop}
use Rattle.ic_link_ops.specs.Prelude.{Place, IsAbsent, IsDisjoint, Table, ChangesOnlyIn, ListHead, RepresentsChain}
use Rattle.ic_link_ops.proofs.SequenceLemmas.{absent_left, absent_right, absent_both, distinct_disjoint}

module _ {E W : Type 0} {between : E → Option Place → Option Place → Type 0} {kept : Option Place → W} {t : Table E} {list : ListHead W} {s : List Place} (n : ℕ)
    (shown : RepresentsChain between kept t list s) where
  -- the table represents for the list the first n members of s and then the other members
  pub cut_represented : RepresentsChain between kept t list (take n s ++ drop n s)
  cut_represented = subst (λ (l : List Place). RepresentsChain between kept t list l) (sym (take-append-drop n s)) shown

  -- the two parts of s share no member
  pub parts_apart : IsDisjoint (take n s) (drop n s ++ [])
  parts_apart = subst (λ (l : List Place). IsDisjoint (take n s) l) (sym (append-nil (drop n s))) (distinct_disjoint (take n s) (drop n s) cut_represented.distinct)

module _ {E : Type 0} {old mid new : Table E} (n : ℕ) (s : List Place) where
  -- the cut and the splice together change no entry except those of members of s
  pub turned_frame : ChangesOnlyIn old mid (take n s ++ drop n s) → ChangesOnlyIn mid new (drop n s ++ (take n s ++ [])) → ChangesOnlyIn old new s
  turned_frame cut spliced = record {
    extent = spliced.extent ∙ cut.extent;
    others = λ q out.
        let parts : IsAbsent q (take n s ++ drop n s) = subst (IsAbsent q) (sym (take-append-drop n s)) out in
        let front = absent_left q (take n s) (drop n s) parts in
        let back = absent_right q (take n s) (drop n s) parts in
        spliced.others q (absent_both q (drop n s) (take n s ++ []) back (absent_both q (take n s) [] front tt)) ∙ cut.others q parts;
  }
