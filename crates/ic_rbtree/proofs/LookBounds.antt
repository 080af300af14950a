-- Lemmas about the number of comparisons that an insert makes to find where an object goes.
use Rattle.std.proofs.Common.{◌≡◌, ℕ, ◌+◌, ◌*◌, ◌^◌, ◌≤◌, ◌<◌, Bool, true, false, suc, Option, Some, None, List, [], ◌∷◌, ◌++◌, length, refl, sym, ◌∙◌, subst, arith, ap, true≢false, Ordering, IfSome, not}
use Rattle.std.proofs.Math.Nat.{pow-le-pow_left, pow-suc}
use Rattle.std.proofs.Math.Pow.{pow_mono}
use Rattle.ic_link_ops.specs.Prelude.{Place, Objects, is_placed, last, ArePlaced}
use Rattle.ic_link_ops.proofs.Prelude.{last_placed, none_not, nothing_last}
use Rattle.ic_rbtree.specs.Prelude.{less_at, HasRoom, WithinComparisonBound, Looks, compared}
use Rattle.ic_rbtree.specs.InsertPositions.{after_there, looks_there}
use Rattle.ic_rbtree.specs.Kept.{Kept, alone, ended, last_kept, TellsEnds, HasRoomFor, InsertLooks}

-- a sequence that has a last member has at least one member
has_some : (s : List Place) {p : Place} → Some p ≡ last s → 1 ≤ length s
has_some [] {p} e = absurd (none_not p (sym e))
has_some (x ∷ s) e = omega arith

-- if each member is placed, the last member, if there is one, has an object
pub last_is_placed : {T : Type 0} (objects : Objects T) (s : List Place) → ArePlaced objects s → (o : Option Place) → o ≡ last s → IfSome o (λ p. is_placed objects p ≡ true)
last_is_placed objects s placed None is = tt
last_is_placed objects s placed (Some p) is = last_placed objects s placed is

pub end_placed : {T : Type 0} (objects : Objects T) (s : List Place) → ArePlaced objects s → (o : Option Place) → IfSome o (λ p. last s ≡ Some p) → IfSome o (λ p. is_placed objects p ≡ true)
end_placed objects s placed None is = tt
end_placed objects s placed (Some p) is = last_placed objects s placed (sym is)

-- if o is none or the last member of s, and o is the place p, then o is the last member of s
pub last_there : (s : List Place) (o : Option Place) {p : Place} → IfSome o (λ p. last s ≡ Some p) → o ≡ Some p → o ≡ last s
last_there s None {p} tells is = absurd (none_not p is)
last_there s (Some q) tells is = sym tells

-- a probe that can count the comparisons of a descent can count one comparison
pub room_less : {count : ℕ} → HasRoom count → count < 18446744073709551615
room_less room = omega (arith, room)

pub with_member : (front : List Place) (p : Place) (back : List Place) → 1 ≤ length (front ++ p ∷ back)
with_member [] p back = omega arith
with_member (x ∷ front) p back = omega arith

-- at most one comparison is made with the member at a position
pub one_look : (o : Option Place) → looks_there o ≤ 1
one_look None = omega arith
one_look (Some p) = omega arith

-- if s has a member, (length s + 1) ^ 2 is at least 2 ^ 2
square : (s : List Place) → 1 ≤ length s → 2 ^ 2 ≤ (length s + 1) ^ 2
square s some = let k : 2 ≤ length s + 1 = omega (arith, some) in pow-le-pow_left k 2

-- THE COMPARISON WITH THE LAST MEMBER is within the bound of a descent
pub few_last : (s : List Place) (o : Option Place) → o ≡ last s → WithinComparisonBound (looks_there o) s
few_last s None is = subst (λ z. WithinComparisonBound 0 z) (sym (nothing_last s is)) (record { few = omega arith; some = λ k. omega (arith, k) })
few_last s (Some p) is = record { few = omega (arith, square s (has_some s is)); some = λ k. omega arith }

-- two comparisons at a hint are within the bound of an insert with a hint
pub few_there : (s : List Place) (k : ℕ) → 1 ≤ length s → k ≤ 2 → 2 ^ k ≤ 2 * (length s + 1) ^ 2
few_there s k some most = let a : 2 ^ k ≤ 2 ^ 2 = pow_mono most in let b = square s some in omega (arith, a, b)

-- two comparisons at a hint, together with the comparisons of a descent after them, are within the bound of an insert with a hint
pub few_after : (s : List Place) (k looks : ℕ) → k ≤ 2 → 2 ^ (looks + 1) ≤ (length s + 1) ^ 2 → 2 ^ (k + looks) ≤ 2 * (length s + 1) ^ 2
few_after s k looks most fewer =
    let a : 2 ^ (k + looks) ≤ 2 ^ suc (looks + 1) = pow_mono (omega (arith, most)) in
    let b : 2 ^ suc (looks + 1) ≡ 2 ^ (looks + 1) * 2 = pow-suc 2 (looks + 1) in
    omega (arith, a, b, fewer)

-- if `after_there` is true, a member p is at the position o, and the searched key is not less than p
pub after_some : (at : Place → Ordering) (o : Option Place) → after_there at o ≡ true → (p : Place) × (o ≡ Some p) × (less_at at p ≡ false)
after_some at None e = cc
after_some at (Some p) e = (p, refl, not_true (less_at at p) e) where
  not_true : (b : Bool) → not b ≡ true → b ≡ false
  not_true true e = cc
  not_true false e = refl

-- if the tree stores its last member, this is the last of the members s
pub kept_is_last : (k : Kept) (s : List Place) (o : Option Place) → o ≡ last_kept k → TellsEnds k s → IfSome o (λ p. last s ≡ Some p)
kept_is_last k s None is ends = tt
kept_is_last (alone root) s (Some p) is ends = absurd (none_not p (sym is))
kept_is_last (ended h) s (Some p) is ends = sym ends.1 ∙ sym is

-- a probe that can count the comparisons of an insert can still count those of a descent after the comparison with a stored last member
pub room_below : (k : Kept) (o : Option Place) (count : ℕ) {now : ℕ} → o ≡ last_kept k → HasRoomFor k count → now ≡ count + looks_there o → HasRoom now
room_below (alone root) None count kept room is = omega (arith, room, is)
room_below (alone root) (Some p) count kept room is = absurd (none_not p (sym kept))
room_below (ended e) None count kept room is = omega (arith, room, is)
room_below (ended e) (Some p) count kept room is = omega (arith, room, is)

-- if the searched key does not belong after the last member, `EndLooks` does not require that there is only one comparison
not_after : (at : Place → Ordering) (s : List Place) (o : Option Place) {looks : ℕ} → o ≡ last s → after_there at o ≡ false → after_there at (last s) ≡ true → looks ≡ 1
not_after at s o is away there = absurd (true≢false (sym there ∙ (ap (after_there at) (sym is) ∙ away)))

module _ {P V : Type 0} (order : P → V → Ordering) (count : P → ℕ) (objects : Objects V) where
  -- an insert after the stored last member makes as many comparisons as `InsertLooks` states
  pub looks_after : (k : Kept) (s : List Place) (o : Option Place) {old new : P} → o ≡ last_kept k → TellsEnds k s → after_there (compared (order old) objects) o ≡ true
      → count new ≡ count old + looks_there o → order new ≡ order old → InsertLooks order count k objects old new s
  looks_after (alone root) s None kept ends after counted same = cc
  looks_after (alone root) s (Some p) kept ends after counted same = absurd (none_not p (sym kept))
  looks_after (ended e) s None kept ends after counted same = cc
  looks_after (ended e) s (Some p) kept ends after counted same = record { looks = 1; counted = counted; few = few_last s (Some p) (kept ∙ ends.1); at_last = λ _. refl; order_is = same }

  -- an insert that makes a descent makes as many comparisons as `InsertLooks` states
  pub looks_below : (k : Kept) (s : List Place) (o : Option Place) {old mid new : P} → o ≡ last_kept k → TellsEnds k s → after_there (compared (order old) objects) o ≡ false
      → count mid ≡ count old + looks_there o → order mid ≡ order old → Looks order count mid new s → InsertLooks order count k objects old new s
  looks_below (alone root) s None kept ends away counted same x =
      record { looks = x.looks; counted = omega (arith, x.counted, counted); few = x.few; fewer = x.fewer; order_is = x.order_is ∙ same }
  looks_below (alone root) s (Some p) kept ends away counted same x = absurd (none_not p (sym kept))
  looks_below (ended e) s None kept ends away counted same x =
      record { looks = x.looks; counted = omega (arith, x.counted, counted); few = x.few; at_last = not_after _ s None (kept ∙ ends.1) away; order_is = x.order_is ∙ same }
  looks_below (ended e) s (Some p) kept ends away counted same x = record {
    looks = x.looks + 1;
    counted = omega (arith, x.counted, counted);
    few = record { few = x.fewer (has_some s (kept ∙ ends.1)); some = λ _. omega arith };
    at_last = not_after _ s (Some p) (kept ∙ ends.1) away;
    order_is = x.order_is ∙ same;
  }
