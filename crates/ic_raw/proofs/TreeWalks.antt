-- These lemmas follow a walk through a tree from the first member on, while the members lose their marks of linked places.
use Rattle.std.proofs.Common.{◌≡◌, ◌≢◌, ◌⊎◌, Bool, true, false, eq-eqb, ℕ, ◌≤◌, ◌-◌, ◌*◌, ◌/◌, ◌%◌, inl, inr, Option, Some, None, List, [], ◌∷◌, ◌++◌, length, drop, refl, sym, ap, ◌∙◌, subst, arith, append_assoc, append-nil, ltb-true}
use Rattle.ic_link_ops.specs.Prelude.{Place, index_of, place_at, Cut, join, first, last, IsMember, Extent, Table, ChangesOnly, Tree, leaf, fork, Node, IsTree}
use Rattle.ic_link_ops.proofs.Prelude.{same_or_not, first_is, fewer, gap_not, last_of_push, nothing_first, split_member, holds_linked, holds_length, root_member}
use Rattle.ic_rbtree.specs.Closed.{IsIn}
use Rattle.ic_raw.specs.declared.words.RawThree.{RawThree}
use Rattle.ic_raw.specs.Prelude.{seen, seen_node, has_place, place_in, is_linked_three}
use Rattle.ic_raw.specs.TreeShape.{IsSeen, OnlyUnmarks, unmarked}

module _ {t : Table RawThree} {root : Option Place} where
  -- each member of a tree, as an edit reads it, belongs to the table
  member_in : {s : List Place} → IsSeen t root s → (o : Option Place) → ((q : Place) → o ≡ Some q → IsMember q s) → IsIn (has_place t) o
  member_in shown None member = tt
  member_in shown (Some q) member = holds_linked shown.held (member q refl)

  -- the root of a tree, as an edit reads it, is none or belongs to the table
  pub root_in : {s : List Place} → IsSeen t root s → IsIn (has_place t) root
  root_in shown = member_in shown root (λ q is out. root_member shown is out)

  -- the place before a gap of the tree is none or belongs to the table
  pub before_in : (cut : Cut) {at : Option Place} → IsSeen t root (join cut) → at ≡ last cut.front → IsIn (has_place t) at
  before_in cut {at} shown after = member_in shown at (λ q is out. (gap_not cut.front cut.back after refl out).0 is)

  -- a tree has at most as many members as the table has places
  pub seen_length : {s : List Place} → IsSeen t root s → length s ≤ t.extent.places
  seen_length shown = holds_length (seen t) (λ q on. ltb-true (index_of q) t.extent.places on) shown.held

-- a table still represents the tree, as an edit reads it, if no node changes
module _ (t u : Table RawThree) (same : (q : Place) → seen_node ((seen u).entry q) ≡ seen_node ((seen t).entry q)) where
  tree_kept : (up : Option Place) (tree : Tree) → IsTree seen_node (seen t).entry up tree → IsTree seen_node (seen u).entry up tree
  tree_kept up leaf h = tt
  tree_kept up (fork c a p b) h = (
    record {
      linked = ap (λ n. n.linked) (same p) ∙ h.0.linked;
      left = ap (λ n. n.left) (same p) ∙ h.0.left;
      right = ap (λ n. n.right) (same p) ∙ h.0.right;
      parent = ap (λ n. n.parent) (same p) ∙ h.0.parent;
      color = ap (λ n. n.color) (same p) ∙ h.0.color;
    },
    tree_kept (Some p) a h.1,
    tree_kept (Some p) b h.2,
  )

  pub seen_kept : {root : Option Place} {s : List Place} → IsSeen t root s → IsSeen u root s
  seen_kept h = record {
    tree = h.tree;
    held = record { order = h.held.order; distinct = h.held.distinct; entries = tree_kept None h.tree h.held.entries };
    starts = h.starts;
    shape = h.shape;
  }

-- `says x q w` is the node that the words w describe at the place q, in a table of the extent x
abbrev says : Extent → Place → RawThree → Node
says x q w = seen_node ((seen (record { extent = x; entry = λ p. w })).entry q)

unmarked_says : (x : Extent) (q : Place) (w : RawThree) → says x q (record w { left = w.left / 2 * 2 }) ≡ says x q w
unmarked_says x q w =
    let half : w.left / 2 * 2 / 8 ≡ w.left / 8 = omega arith in
    let named : place_in (w.left / 2 * 2) ≡ place_in w.left = ap (λ n. place_at (n % 8589934592 * 8)) half in
    rw named refl

-- if one place loses its mark and nothing else changes, no node changes, as an edit reads the words
pub seen_unmarked : (t u : Table RawThree) (p : Place) → ChangesOnly t u p → u.entry p ≡ record (t.entry p) { left = (t.entry p).left / 2 * 2 }
    → (q : Place) → seen_node ((seen u).entry q) ≡ seen_node ((seen t).entry q)
seen_unmarked t u p only is q = elim (same_or_not q p) [
  | inl e ↦
      let here : says u.extent p (u.entry p) ≡ says t.extent p (t.entry p) = (λ k. says (only.extent k) p (is k)) ∙ unmarked_says t.extent p (t.entry p) in
      subst (λ z. says u.extent z (u.entry z) ≡ says t.extent z (t.entry z)) (sym e) here
  | inr n ↦ λ k. says (only.extent k) q (only.others q n k)
]

unmarked_off : (w : RawThree) → is_linked_three w ≡ false → unmarked w ≡ w
unmarked_off w off =
    let even : w.left % 2 ≢ 1 = λ e. let on : is_linked_three w ≡ true = eq-eqb (w.left % 2) 1 e in cc in
    let same : w.left / 2 * 2 ≡ w.left = omega (arith, even) in
    ap (λ n. record w { left = n }) same

unmarked_twice : (w : RawThree) → unmarked (unmarked w) ≡ unmarked w
unmarked_twice w = let same : w.left / 2 * 2 / 2 * 2 ≡ w.left / 2 * 2 = omega arith in ap (λ n. record w { left = n }) same

-- x is the entry w, or w without its mark. If the mark of x is cleared, the result is still w, or w without its mark
mark_off : (w x y : RawThree) → (x ≡ w) ⊎ ((is_linked_three w ≡ true) × (x ≡ unmarked w)) → y ≡ unmarked x → (y ≡ w) ⊎ ((is_linked_three w ≡ true) × (y ≡ unmarked w))
mark_off w x y (inl k) off = pick (is_linked_three w) refl where
  pick : (b : Bool) → is_linked_three w ≡ b → (y ≡ w) ⊎ ((is_linked_three w ≡ true) × (y ≡ unmarked w))
  pick true on = inr (on, off ∙ ap unmarked k)
  pick false none = inl (off ∙ ap unmarked k ∙ unmarked_off w none)
mark_off w x y (inr k) off = inr (k.0, off ∙ ap unmarked k.1 ∙ unmarked_twice w)

-- ONE MORE PLACE LOSES ITS MARK, and each entry is still as it was, or has lost the mark of a linked place
pub unmarks_more : {old now new : Table RawThree} {p : Place} → OnlyUnmarks old now → ChangesOnly now new p → new.entry p ≡ unmarked (now.entry p) → OnlyUnmarks old new
unmarks_more {old} {now} {new} {p} was only off = record {
  extent = only.extent ∙ was.extent;
  entries = λ q. elim (same_or_not q p) [
    | inl e ↦ mark_off (old.entry q) (now.entry q) (new.entry q) (was.entries q) (subst (λ z. new.entry z ≡ unmarked (now.entry z)) (sym e) off)
    | inr n ↦ elim (was.entries q) [ inl k ↦ inl (only.others q n ∙ k) | inr k ↦ inr (k.0, only.others q n ∙ k.1) ]
  ];
}

-- A WALK HAS COME TO `at`: the members `done` are before `at`, and at most `left` members remain
pub record HasComeTo (s : List Place) (at : Option Place) (left : ℕ) : Type 0 where
  pub done : List Place
  pub rest : List Place
  pub parts : s ≡ done ++ rest
  pub next : at ≡ first rest
  pub few : length rest ≤ left

unfoldable pub walk_starts : {s : List Place} {at : Option Place} {left : ℕ} → at ≡ first s → length s ≤ left → HasComeTo s at left
walk_starts {s} next few = record { done = []; rest = s; parts = refl; next = next; few = few }

module _ {s : List Place} {p : Place} {left : ℕ} (k : HasComeTo s (Some p) left) where
  rest_is : k.rest ≡ p ∷ drop 1 k.rest
  rest_is = first_is k.rest k.next

  parts_are : s ≡ k.done ++ p ∷ drop 1 k.rest
  parts_are = k.parts ∙ ap (λ (l : List Place). k.done ++ l) rest_is

  -- the place to which a walk has come is a member of the tree
  pub walk_member : IsMember p s
  walk_member = subst (IsMember p) (sym parts_are) (split_member k.done p (drop 1 k.rest))

  -- a gap of the tree is after the member p to which the walk has come, and the members after this gap are the rest of the walk
  walk_gap : (cut : Cut) × (s ≡ join cut) × (Some p ≡ last cut.front) × (cut.back ≡ drop 1 k.rest)
  walk_gap = (
    record { front = k.done ++ p ∷ []; back = drop 1 k.rest },
    parts_are ∙ sym (append_assoc k.done (p ∷ []) (drop 1 k.rest)),
    sym (last_of_push k.done p),
    refl,
  )

  pub walk_goes_on : {t : Table RawThree} {root at : Option Place} → IsSeen t root s → ((cut : Cut) → IsSeen t root (join cut) → Some p ≡ last cut.front → at ≡ first cut.back)
      → (k' : HasComeTo s at (left - 1)) × (k'.done ≡ k.done ++ p ∷ [])
  unfolding walk_gap
  walk_goes_on {t} {root} shown step =
      let gap = walk_gap in
      let less = fewer k.rest p k.next in
      let few = k.few in (
        record {
          done = k.done ++ p ∷ [];
          rest = drop 1 k.rest;
          parts = gap.1;
          next = step gap.0 (subst (IsSeen t root) gap.1 shown) gap.2;
          few = omega (arith, less, few);
        },
        refl,
      )

-- if a walk has come to none, it has passed all members
pub walk_ends : {s : List Place} {at : Option Place} {left : ℕ} (k : HasComeTo s at left) → at ≡ None → k.done ≡ s
walk_ends {s} {at} k none = sym (k.parts ∙ ap (λ (l : List Place). k.done ++ l) (nothing_first k.rest (sym none ∙ k.next)) ∙ append-nil k.done)

-- if no step is left, the walk has come to none
pub walk_over : {s : List Place} {at : Option Place} {left : ℕ} → HasComeTo s at left → left ≡ 0 → at ≡ None
walk_over k over = k.next ∙ none k.rest k.few over where
  none : {left : ℕ} (rest : List Place) → length rest ≤ left → left ≡ 0 → first rest ≡ None
  none [] few over = refl
  none (x ∷ rest) few over = absurd (omega (arith, few, over))
