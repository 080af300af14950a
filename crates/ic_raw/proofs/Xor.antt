-- These lemmas say what the calls of an XOR list read from the words, if the words represent a list.
use Rattle.std.proofs.Common.{◌≡◌, inl, inr, ℕ, nat_eq, true, Option, Some, None, List, [], ◌∷◌, ◌++◌, drop, reverse, refl, sym, ap, subst, ◌∙◌, append_assoc, append-nil, eq-eqb}
use Rattle.ic_link_ops.specs.Prelude.{Place, word_of, first, last, but_last, Table, ChangesOnly, IsLinked, Ends}
use Rattle.ic_link_ops.proofs.Prelude.{same_or_not, first_of_back, last_of_front, last_of_push, split_last, first_is}
use Rattle.ic_link_ops.specs.XorLaws.{joins_symmetric, joins_finds_other}
use Rattle.ic_link_ops.proofs.RepresentedLists.{represents_middle, represents_reversed, before_gap, after_gap, gap_linked, gap_after_linked}
use Rattle.ic_link_ops.proofs.XorLists.{joined_linked, joined_symmetric}
use Rattle.ic_raw.specs.declared.words.RawOne.{RawOne}
use Rattle.ic_raw.specs.declared.table.RawTable.{RawTable}
use Rattle.ic_raw.specs.Words.{no_word, is_linked_one, next_of_one}
use Rattle.ic_raw.specs.declared.gap.Gap.{Gap}
use Rattle.ic_raw.specs.Gaps.{IsNoneOrLinked, Turns}
use Rattle.ic_raw.specs.Tables.{raw_entries}
use Rattle.ic_raw.specs.Singly.{table_of, lent_table}
use Rattle.ic_raw.specs.Xor.{Represents, HasNeighbors, GoesOn, Faces, TellsGap, TellsMember, TellsEnds, LeadsThrough, OnlyUnlinks, other}
use Rattle.ic_raw.proofs.Entries.{same_word}
use Rattle.ic_raw.proofs.Lists.{before_stands, after_stands}

-- two words are equal exactly if their places are equal
pub words_tell : {a b : Option Place} {v w : ℕ} → v ≡ word_of a → w ≡ word_of b → (nat_eq v w ≡ true → a ≡ b) × (a ≡ b → nat_eq v w ≡ true)
words_tell {a} {b} {v} {w} e f = (same_word a b e f, λ same. eq-eqb v w (e ∙ ap word_of same ∙ sym f))

-- `other` of a place's word and of one neighbor is the second neighbor
pub other_after : (e : RawOne) (a b : Option Place) → HasNeighbors e a b → other e a ≡ b
other_after e a b j = joins_finds_other (next_of_one e) a b j

other_before : (e : RawOne) (a b : Option Place) → HasNeighbors e a b → other e b ≡ a
other_before e a b j = joins_finds_other (next_of_one e) b a (joins_symmetric (next_of_one e) a b j)

-- `GoesOn` and `Faces` hold if each place that they mention is none or linked, and if the list ends wherever such a place is none
goes_on_by : (t : Table RawOne) (end : Option Place) (p : Place) (beyond : Option Place) → IsNoneOrLinked is_linked_one t beyond → (beyond ≡ None → end ≡ Some p) → GoesOn t.entry end p beyond
goes_on_by t end p None stands ends = ends refl
goes_on_by t end p (Some q) stands ends = stands q refl

faces_by : (t : Table RawOne) (end place neighbor : Option Place) → IsNoneOrLinked is_linked_one t place → (place ≡ None → end ≡ neighbor)
    → ((p : Place) → place ≡ Some p → IsNoneOrLinked is_linked_one t (other (t.entry p) neighbor))
    → ((p : Place) → place ≡ Some p → other (t.entry p) neighbor ≡ None → end ≡ Some p) → Faces t.entry end place neighbor
faces_by t end None neighbor stands none beyond ends = none refl
faces_by t end (Some p) neighbor stands none beyond ends = (stands p refl, goes_on_by t end p (other (t.entry p) neighbor) (beyond p refl) (ends p refl))

module _ {t : Table RawOne} {list : Ends} (front back : List Place) (shown : Represents t list (front ++ back)) where
  -- p is a place beside the gap. The sequence can also be cut at the gap on the opposite side of p. The place beyond p is there, by the word of p and
  -- the neighbor of p at the first gap
  cut_before : {p : Place} → Some p ≡ last front → Represents t list (but_last front ++ p ∷ back)
  cut_before {p} here = rw (← append_assoc (but_last front) (p ∷ []) back) (rw (← split_last front (sym here)) shown)

  beyond_before : {p : Place} {to : Option Place} → Some p ≡ last front → to ≡ first back → other (t.entry p) to ≡ last (but_last front)
  beyond_before {p} here k = ap (other (t.entry p)) k ∙ other_before (t.entry p) _ _ (before_gap front back shown here).joined

  cut_after : {p : Place} → Some p ≡ first back → Represents t list ((front ++ p ∷ []) ++ drop 1 back)
  cut_after {p} here = rw (append_assoc front (p ∷ []) (drop 1 back)) (rw (← first_is back here) shown)

  beyond_after : {p : Place} {to : Option Place} → Some p ≡ first back → to ≡ last front → other (t.entry p) to ≡ first (drop 1 back)
  beyond_after {p} here k = ap (other (t.entry p)) k ∙ other_after (t.entry p) _ _ (after_gap front back shown here).joined

  -- each of the two places beside a gap faces the other place
  before_faces : {at to : Option Place} → at ≡ last front → to ≡ first back → Faces t.entry list.head at to
  before_faces {at} {to} e k =
      faces_by t list.head at to (before_stands joined_linked front back shown e) (λ none. shown.head ∙ first_of_back front back (sym none ∙ e) ∙ sym k)
      (λ p is q n. gap_linked joined_linked (but_last front) (p ∷ back) (cut_before (sym is ∙ e)) (sym n ∙ beyond_before (sym is ∙ e) k))
      (λ p is n. (cut_before (sym is ∙ e)).head ∙ first_of_back (but_last front) (p ∷ back) (sym n ∙ beyond_before (sym is ∙ e) k))

  after_faces : {at to : Option Place} → at ≡ first back → to ≡ last front → Faces t.entry list.tail at to
  after_faces {at} {to} e k =
      faces_by t list.tail at to (after_stands joined_linked front back shown e) (λ none. shown.tail ∙ last_of_front front back (sym none ∙ e) ∙ sym k)
      (λ p is q n. gap_after_linked joined_linked (front ++ p ∷ []) (drop 1 back) (cut_after (sym is ∙ e)) (sym n ∙ beyond_after (sym is ∙ e) k))
      (λ p is n.
      (cut_after (sym is ∙ e)).tail ∙ last_of_front (front ++ p ∷ []) (drop 1 back) (sym n ∙ beyond_after (sym is ∙ e) k) ∙ last_of_push front p)

  -- THE WORDS CONFIRM EACH GAP of a list that they represent
  pub gap_told : {before after : Option Place} → before ≡ last front → after ≡ first back → TellsGap t list before after
  gap_told e k = (before_faces e k, after_faces k e)

-- the words confirm each member of a list that they represent. The member is linked, and `other` of its word and of one neighbor is the second
-- neighbor
module _ {t : Table RawOne} {list : Ends} (front : List Place) (p : Place) (back : List Place) (shown : Represents t list (front ++ p ∷ back)) where
  pub member_told : {before after : Option Place} → before ≡ last front → after ≡ first back → TellsMember t list before p after
  member_told e k =
      let cut : Represents t list ((front ++ p ∷ []) ++ back) = rw append_assoc shown in
      (before_faces front (p ∷ back) shown e refl, after_faces (front ++ p ∷ []) back cut k (sym (last_of_push front p)))

  pub member_linked : is_linked_one (t.entry p) ≡ true
  member_linked = after_stands joined_linked front (p ∷ back) shown refl p refl

  pub next_represented : {before : Option Place} → before ≡ last front → other (t.entry p) before ≡ first back
  next_represented e = ap (other (t.entry p)) e ∙ other_after (t.entry p) _ _ (represents_middle front back shown).joined

  pub prev_represented : {after : Option Place} → after ≡ first back → other (t.entry p) after ≡ last front
  prev_represented e = ap (other (t.entry p)) e ∙ other_before (t.entry p) _ _ (represents_middle front back shown).joined

-- the words confirm the ends of a list that they represent
pub ends_told : {t : Table RawOne} {list : Ends} {s : List Place} → Represents t list s → TellsEnds t list
ends_told {t} {list} {s} shown =
    let whole : Represents t list (s ++ []) = rw append-nil shown in
    (after_faces [] s shown shown.head refl, before_faces s [] whole shown.tail refl)

-- a list is reversed if its two ends are exchanged, and no entry changes
pub turned : {t : Table RawOne} {list list' : Ends} {s : List Place} → Represents t list s → list'.head ≡ list.tail → list'.tail ≡ list.head → Represents t list' (reverse s)
turned shown head tail = represents_reversed (joined_symmetric (λ e a b. joins_symmetric (next_of_one e) a b)) shown head tail

-- `Turns` stays true if the ends before and after the edit are replaced by equal ends
pub turned_back : {gap : Gap} {begins ends ends' : Option Place} {old old' new new' : Ends} → ends' ≡ ends → old ≡ old' → new' ≡ new → Turns gap begins ends old new
    → Turns gap begins ends' old' new'
turned_back same e f turns = rw (same, ← e, f) turns

-- if the links lead through a sequence in a view, they lead through it in the words that the caller lent
pub leads_back : {es : List RawOne} (t : RawTable RawOne) (list : Ends) (s : List Place) → raw_entries t ≡ es → LeadsThrough (lent_table t) list s → LeadsThrough (table_of es) list s
leads_back t list s e leads =
    let back : LeadsThrough (table_of (raw_entries t)) list s = leads in subst (λ es. LeadsThrough (table_of es) list s) e back

-- ONE MORE PLACE IS UNLINKED. A place that is linked now was linked at the start, because places are only unlinked
was_linked : {old now : Table RawOne} → OnlyUnlinks old now → (q : Place) → IsLinked is_linked_one now q → IsLinked is_linked_one old q
was_linked was q on = elim (was.entries q) [ inl k ↦ ap is_linked_one (sym k) ∙ on | inr k ↦ k.0 ]

pub unlinks_more : {old now new : Table RawOne} {p : Place} → OnlyUnlinks old now → IsLinked is_linked_one now p → ChangesOnly now new p → new.entry p ≡ no_word → OnlyUnlinks old new
unlinks_more {old} {now} {new} {p} was linked only word = record {
  extent = only.extent ∙ was.extent;
  entries = λ q. elim (same_or_not q p) [
    | inl e ↦ inr (was_linked was q (subst (IsLinked is_linked_one now) (sym e) linked), subst (λ z. new.entry z ≡ no_word) (sym e) word)
    | inr n ↦ elim (was.entries q) [ inl k ↦ inl (only.others q n ∙ k) | inr k ↦ inr (k.0, only.others q n ∙ k.1) ]
  ];
}
