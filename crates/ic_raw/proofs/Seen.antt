-- These lemmas say how an edit of a tree reads a caller's words after a call has written to them.
use Rattle.std.proofs.Common.{◌≡◌, ℕ, ◌+◌, ◌*◌, ◌/◌, ◌%◌, ◌<◌, ◌≤◌, List, length, Bool, true, false, cond, nat_eq, nat_lt, Option, Some, None, slice_set, slice_index_or, refl, sym, ap, ◌∙◌, subst, inl, inr, arith, ne_eqb, ltb-true, lt-ltb, le-ltb, length-set}
use Rattle.ic_link_ops.specs.Prelude.{Place, index_of, word_of, place_at, Table, ChangesOnly, entry_at, table_with, Node, is_end}
use Rattle.ic_unsafe_ref.proofs.PlaceLemmas.{place_at_word, word_fits, same_or_not, word_is, word_tells}
use Rattle.ic_link_ops.specs.declared.color.Color.{Color}
use Rattle.ic_link_ops.specs.declared.color.Color.TheVariants.{Red, Black}
use Rattle.ic_link_ops.specs.TreeWords.{one_if_black}
use Rattle.ic_link_ops.proofs.EntryLemmas.{entry_same, entry_read}
use Rattle.ic_raw.specs.declared.words.RawThree.{RawThree}
use Rattle.ic_raw.specs.Words.{number_in, place_in, is_marked, is_linked_three, no_tree_words}
use Rattle.ic_raw.proofs.Entries.{changes_only, number_read, place_kept}
use Rattle.ic_raw.specs.Seen.{named_within, seen_node, seen, NamesWithin, KeepsMarks}

-- if only the words of one place change, only the node at this place changes, as an edit reads the words
pub seen_changes : (t u : Table RawThree) (p : Place) → ChangesOnly t u p → ChangesOnly (seen t) (seen u) p
seen_changes t u p only = record {
  extent = only.extent;
  others = λ q apart k. record { words = only.others q apart k; place = q; places = (only.extent k).places };
}

-- `says w p places` is the node that the words w describe at the place p
abbrev pub says : RawThree → Place → ℕ → Node
says w p places = seen_node (record { words = w; place = p; places = places })

-- after words are written at a place, the node at the place is the node that the written words describe
pub says_written : (es : List RawThree) (p : Place) (new beyond : RawThree) (i : ℕ) (change : Node → Node) → i ≡ index_of p → nat_lt (index_of p) (length es) ≡ true
    → says new p (length es) ≡ change (says (slice_index_or es i beyond) p (length es))
    → says (entry_at no_tree_words (slice_set es i new) p) p (length (slice_set es i new)) ≡ change (says (entry_at no_tree_words es p) p (length es))
says_written es p new beyond i change at_p has written =
    let covered : index_of p < length es = ltb-true (index_of p) (length es) has in
    (λ k. says (entry_same no_tree_words es p new i at_p covered k) p (length-set es i new k)) ∙ written
    ∙ ap (λ w. change (says w p (length es))) (sym (entry_read no_tree_words es p (slice_index_or es i beyond) beyond i at_p covered refl))

-- a word is the sum of the word of a place and of a mark, which is 0 or 1. The sum names this place whatever the mark is, and has this mark whatever
-- the place is
pub place_beside : (o : Option Place) (n v : ℕ) → n ≡ word_of o → place_in (n + v % 2) ≡ o
place_beside o n v is =
    let fits = word_fits o in
    let same : number_in (n + v % 2) ≡ word_of o = omega (arith, is, fits.0, fits.1) in
    ap place_at same ∙ place_at_word o

pub mark_beside : (o : Option Place) (n v : ℕ) → n ≡ word_of o → is_marked (n + v % 2) ≡ is_marked v
mark_beside o n v is =
    let even = (word_fits o).1 in
    let same : (n + v % 2) % 2 ≡ v % 2 = omega (arith, is, even) in
    ap (λ m. nat_eq m 1) same

-- a color is stored as the digit 0 or 1, and it is read from the digit as it was stored
pub one_digit : (c : Color) → one_if_black c < 2
one_digit Red = omega arith
one_digit Black = omega arith

pub color_kept : (c : Color) → cond (nat_eq (one_if_black c) 1) Black Red ≡ c
color_kept Red = refl
color_kept Black = refl

-- if a word names no place outside the table, an edit reads the place that the word names
pub named_itself : (places : ℕ) (o : Option Place) → ((q : Place) → o ≡ Some q → nat_lt (index_of q) places ≡ true) → named_within places o ≡ o
named_itself places None h = refl
named_itself places (Some q) h = ap (λ b. cond b (Some q) None) (h q refl)

-- if a word names a place, the number in the word is 8 times the sum of the index and 1
index_in : (v : ℕ) (q : Place) → place_in v ≡ Some q → number_in v ≡ 8 * (index_of q + 1)
index_in v q is = sym (number_read v) ∙ ap word_of is

-- A PLACE BELONGS TO THE TABLE if its number is at most 8 times the number of places
pub number_within : (places v : ℕ) → number_in v ≤ 8 * places → place_in v ≡ named_within places (place_in v)
number_within places v within = sym (named_itself places (place_in v) (λ q is. lt-ltb (index_of q) places (omega (arith, within, index_in v q is))))

pub number_beyond : (places v : ℕ) → 8 * places < number_in v → None ≡ named_within places (place_in v)
number_beyond places v beyond = by (place_in v) refl where
  by : (o : Option Place) → place_in v ≡ o → None ≡ named_within places o
  by None e = refl
  by (Some q) e = ap (λ b. cond b (Some q) None) (sym (le-ltb (index_of q) places (omega (arith, beyond, index_in v q e))))

-- `end` is the place p exactly if the word of `end` is equal to the word of p
same_words : (end : Option Place) (p : Place) → nat_eq (word_of end) (word_of (Some p)) ≡ is_end end p
same_words None p = ne_eqb 0 (8 * (index_of p + 1)) (λ e. absurd (omega (arith, e)))
same_words (Some q) p =
    let words : nat_eq (8 * (index_of q + 1)) (8 * (index_of p + 1)) ≡ nat_eq q.word p.word =
    ap (λ (m : ℕ). nat_eq m (8 * (index_of p + 1))) (sym (word_is q)) ∙ ap (λ (m : ℕ). nat_eq q.word m) (sym (word_is p)) in
    words ∙ word_tells q p

-- in the test whether an end is the place p of the table, an end outside the table can be replaced by none, because the result is false for both
end_within : (places : ℕ) (q p : Place) (b : Bool) → nat_lt (index_of q) places ≡ b → nat_lt (index_of p) places ≡ true → is_end (Some q) p ≡ is_end (cond b (Some q) None) p
end_within places q p true e has = refl
end_within places q p false e has =
    ne_eqb (index_of q) (index_of p) (λ same. let other : nat_lt (index_of p) places ≡ false = subst (λ (i : ℕ). nat_lt i places ≡ false) same e in cc)

-- A WORD NAMES A PLACE of the table exactly if the number in the word is the number of the place
pub number_names : (places v : ℕ) (p : Place) → nat_lt (index_of p) places ≡ true → nat_eq (number_in v) (word_of (Some p)) ≡ is_end (named_within places (place_in v)) p
number_names places v p has = ap (λ (m : ℕ). nat_eq m (word_of (Some p))) (sym (number_read v)) ∙ same_words (place_in v) p ∙ by (place_in v) where
  by : (o : Option Place) → is_end o p ≡ is_end (named_within places o) p
  by None = refl
  by (Some q) = end_within places q p (nat_lt (index_of q) places) refl has

-- the words of a place that is linked and names no other place name only places of the table
pub bare_within : (places : ℕ) → NamesWithin places (record { left = 1; right = 0; parent = 0 })
bare_within places = record { left = none 1 (place_at_word None); right = none 0 (place_at_word None); parent = none 0 (place_at_word None) } where
  none : (v : ℕ) → place_in v ≡ None → named_within places (place_in v) ≡ place_in v
  none v e = subst (λ x. named_within places x ≡ x) (sym e) refl

-- WORDS THAT ARE WRITTEN at a place of the table keep the mark. If the old words named only places of the table, the new words do
pub record IsQuiet (places : ℕ) (old new : RawThree) : Type 0 where
  pub mark : is_linked_three new ≡ is_linked_three old
  pub names : NamesWithin places old → NamesWithin places new

pub keeps_marks : {identity : List ℕ} (es : List RawThree) (p : Place) (new beyond : RawThree) (i : ℕ) → i ≡ index_of p → nat_lt (index_of p) (length es) ≡ true
    → IsQuiet (length es) (slice_index_or es i beyond) new
    → KeepsMarks (table_with no_tree_words identity es) (table_with no_tree_words identity (slice_set es i new))
keeps_marks {identity} es p new beyond i at_p has keeps_links = record { extent = only.extent; marks = marks; names = names } where
  only : ChangesOnly (table_with no_tree_words identity es) (table_with no_tree_words identity (slice_set es i new)) p
  only = changes_only no_tree_words es p new i at_p

  covered : index_of p < length es
  covered = ltb-true (index_of p) (length es) has

  was : entry_at no_tree_words es p ≡ slice_index_or es i beyond
  was = entry_read no_tree_words es p (slice_index_or es i beyond) beyond i at_p covered refl

  is : entry_at no_tree_words (slice_set es i new) p ≡ new
  is = entry_same no_tree_words es p new i at_p covered

  marks : (q : Place) → is_linked_three (entry_at no_tree_words (slice_set es i new) q) ≡ is_linked_three (entry_at no_tree_words es q)
  marks q = elim (same_or_not q p) [
    | inl e ↦ subst (λ z. is_linked_three (entry_at no_tree_words (slice_set es i new) z) ≡ is_linked_three (entry_at no_tree_words es z)) (sym e)
        (ap is_linked_three is ∙ keeps_links.mark ∙ sym (ap is_linked_three was))
    | inr n ↦ ap is_linked_three (only.others q n)
  ]

  names : (q : Place) → NamesWithin (length es) (entry_at no_tree_words es q) → NamesWithin (length (slice_set es i new)) (entry_at no_tree_words (slice_set es i new) q)
  names q h = subst (λ n. NamesWithin n (entry_at no_tree_words (slice_set es i new) q)) (sym (length-set es i new)) (elim (same_or_not q p) [
    | inl e ↦ subst (NamesWithin (length es)) (sym (ap (entry_at no_tree_words (slice_set es i new)) e ∙ is))
        (keeps_links.names (subst (NamesWithin (length es)) (ap (entry_at no_tree_words es) e ∙ was) h))
    | inr n ↦ subst (NamesWithin (length es)) (sym (only.others q n)) h
  ])

module _ (p : Place) (places : ℕ) (w : RawThree) where
  module _ (o : Option Place) (has : (q : Place) → o ≡ Some q → nat_lt (index_of q) places ≡ true) (n : ℕ) (is : n ≡ word_of o) where
    named : {x : Option Place} → x ≡ o → named_within places x ≡ o
    named e = ap (named_within places) e ∙ named_itself places o has

    within : {x : Option Place} → x ≡ o → named_within places x ≡ x
    within e = named e ∙ sym e

    -- THE WRITES: each lemma says how the node of a place changes if one of its words is written
    pub left_set : says (record w { left = n + w.left % 2 }) p places ≡ record (says w p places) { left = o }
    left_set = ap (λ x. record (says w p places) { left = x }) (named (place_beside o n w.left is))

    pub left_keeps_links : IsQuiet places w (record w { left = n + w.left % 2 })
    left_keeps_links = record {
      mark = mark_beside o n w.left is;
      names = λ h. record { left = within (place_beside o n w.left is); right = h.right; parent = h.parent };
    }

    pub right_set : says (record w { right = n }) p places ≡ record (says w p places) { right = o }
    right_set = ap (λ x. record (says w p places) { right = x }) (named (ap place_in is ∙ place_kept o))

    pub right_keeps_links : IsQuiet places w (record w { right = n })
    right_keeps_links = record { mark = refl; names = λ h. record { left = h.left; right = within (ap place_in is ∙ place_kept o); parent = h.parent } }

    pub parent_set : says (record w { parent = n + w.parent % 2 }) p places ≡ record (says w p places) { parent = o }
    parent_set =
        let above = named (place_beside o n w.parent is) in
        let mark = mark_beside o n w.parent is in
        λ k. record (says w p places) { parent = above k; color = cond (mark k) Black Red }

    pub parent_keeps_links : IsQuiet places w (record w { parent = n + w.parent % 2 })
    parent_keeps_links = record { mark = refl; names = λ h. record { left = h.left; right = h.right; parent = within (place_beside o n w.parent is) } }

    module _ (c : Color) (b : ℕ) (eb : b ≡ one_if_black c) where
      place_colored : place_in (n + b) ≡ o
      place_colored =
          let fits = word_fits o in
          let digit = one_digit c in
          let same : number_in (n + b) ≡ word_of o = omega (arith, is, eb, digit, fits.0, fits.1) in
          ap place_at same ∙ place_at_word o

      pub parent_and_color_set : says (record w { parent = n + b }) p places ≡ record (says w p places) { parent = o; color = c }
      parent_and_color_set =
          let fits = word_fits o in
          let digit = one_digit c in
          let mark : (n + b) % 2 ≡ one_if_black c = omega (arith, is, eb, digit, fits.1) in
          let above = named place_colored in
          let color = ap (λ m. cond (nat_eq m 1) Black Red) mark ∙ color_kept c in
          λ k. record (says w p places) { parent = above k; color = color k }

      pub parent_and_color_keeps_links : IsQuiet places w (record w { parent = n + b })
      parent_and_color_keeps_links = record { mark = refl; names = λ h. record { left = h.left; right = h.right; parent = within place_colored } }

  module _ (c : Color) (b : ℕ) (is : b ≡ one_if_black c) where
    pub same_parent : place_in (w.parent / 2 * 2 + b) ≡ place_in w.parent
    same_parent =
        let digit = one_digit c in
        let same : number_in (w.parent / 2 * 2 + b) ≡ number_in w.parent = omega (arith, is, digit) in
        ap place_at same

    pub color_set : says (record w { parent = w.parent / 2 * 2 + b }) p places ≡ record (says w p places) { color = c }
    color_set =
        let digit = one_digit c in
        let above = ap (named_within places) same_parent in
        let mark : (w.parent / 2 * 2 + b) % 2 ≡ one_if_black c = omega (arith, is, digit) in
        let color = ap (λ m. cond (nat_eq m 1) Black Red) mark ∙ color_kept c in
        λ k. record (says w p places) { parent = above k; color = color k }

    pub color_keeps_links : IsQuiet places w (record w { parent = w.parent / 2 * 2 + b })
    color_keeps_links = record {
      mark = refl;
      names = λ h. record { left = h.left; right = h.right; parent = subst (λ x. named_within places x ≡ x) (sym same_parent) h.parent };
    }
