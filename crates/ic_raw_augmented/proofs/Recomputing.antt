-- Lemmas on sums that are computed again, first at a place, and then at each member above.
use Rattle.std.proofs.Common.{◌≡◌, ◌≢◌, ◌≤◌, ◌<◌, ◌+◌, ◌-◌, ◌||◌, ℕ, suc, Bool, true, false, cond, Option, Some, None, List, ◌∷◌, refl, sym, ap, ◌∙◌, subst, inl, inr, arith, lt-ltb, le-ltb, ltb-false}
use Rattle.ic_link_ops.specs.Prelude.{Place, index_of, place_at, word_of, IsMember, Table, IsTree, Tree, leaf, fork, top, is_end}
use Rattle.ic_link_ops.proofs.Prelude.{place_at_word, same_or_not, none_not, some_same, times_plug, is_end_not, is_end_yes, is_end_no}
use Rattle.ic_link_ops.specs.declared.color.Color.{Color}
use Rattle.ic_link_ops.specs.declared.side.Side.{Side}
use Rattle.ic_link_ops.specs.declared.side.Side.TheVariants.{Left, Right}
use Rattle.ic_link_ops.specs.Frames.{Frame, frame, child_on}
use Rattle.ic_raw_augmented.specs.Subtrees.{IsSubtree}
use Rattle.ic_raw_augmented.proofs.Subtrees.{member_at, no_longer}
use Rattle.ic_raw.specs.declared.words.RawThree.{RawThree}
use Rattle.ic_raw.specs.Prelude.{also, seen, seen_node, IsSeen, number_in, place_in}
use Rattle.ic_raw_augmented.specs.declared.sums.Kind.{Kind}
use Rattle.ic_raw_augmented.specs.declared.sums.RawSum.{RawSum}
use Rattle.ic_raw_augmented.specs.Sums.{IsNear, IsRightAt, IsSummedBut, combined, is_child_of, is_from, joined_at, sum_at, sum_below, value_at}
use Rattle.ic_raw_augmented.proofs.Totals.{apart_left, apart_right, times_top}

-- if the place q is not in the set of `up` and the places of `but`, q is not `up` and not in `but`
pub also_off : (up : Option Place) (but : Place → Bool) (q : Place) → also up but q ≡ false → (is_end up q ≡ false) × (but q ≡ false)
also_off up but q e = pick (is_end up q) refl where
  pick : (b : Bool) → is_end up q ≡ b → (is_end up q ≡ false) × (but q ≡ false)
  pick true k = let l : true ≡ false = sym (ap (λ (b : Bool). cond b true (but q)) k) ∙ e in cc
  pick false k = (k, sym (ap (λ (b : Bool). cond b true (but q)) k) ∙ e)

pub off_also : (up : Option Place) (but : Place → Bool) (q : Place) → is_end up q ≡ false → but q ≡ false → also up but q ≡ false
off_also up but q k e = ap (λ (b : Bool). cond b true (but q)) k ∙ e

or_off : (a b : Bool) → a || b ≡ false → (a ≡ false) × (b ≡ false)
or_off true b e = let k : true ≡ false = e in cc
or_off false b e = (refl, e)

module _ (t : Table RawThree) where
  parent_is : (up : Option Place) (u : Tree) (p : Place) → IsTree seen_node (seen t).entry up u → top u ≡ Some p → (seen_node ((seen t).entry p)).parent ≡ up
  parent_is up leaf p h e = absurd (none_not p e)
  parent_is up (fork c a x b) p h e = subst (λ (y : Place). (seen_node ((seen t).entry y)).parent ≡ up) (some_same e) h.0.parent

  module _ {root : Option Place} {s : List Place} (h : IsSeen t root s) where
    -- a child of the member q names q as its parent, and is another place than q
    pub child_names : (q c : Place) (side : Side) → IsMember q s → child_on side (seen_node ((seen t).entry q)) ≡ Some c → ((seen_node ((seen t).entry c)).parent ≡ Some q) × (c ≢ q)
    child_names q c Left m is =
        let x = member_at seen_node (seen t) root s q h m in
        let tops : top x.a ≡ Some c = sym x.subtree.tree.0.left ∙ is in (
          parent_is (Some q) x.a c x.subtree.tree.1 tops,
          apart_left c q x.c x.a x.b (λ z. omega (arith, x.subtree.once z, times_plug z x.fs (fork x.c x.a q x.b))) (times_top c x.a tops),
        )
    child_names q c Right m is =
        let x = member_at seen_node (seen t) root s q h m in
        let tops : top x.b ≡ Some c = sym x.subtree.tree.0.right ∙ is in (
          parent_is (Some q) x.b c x.subtree.tree.2 tops,
          apart_right c q x.c x.a x.b (λ z. omega (arith, x.subtree.once z, times_plug z x.fs (fork x.c x.a q x.b))) (times_top c x.b tops),
        )

    -- p is no member if `IsNear` says that fewer than 0 members are above p
    pub far : (p : Place) → IsNear t 0 p → IsMember p s → ⊥
    far p near m = let x = member_at seen_node (seen t) root s p h m in let less = near x.fs (fork x.c x.a p x.b) x.subtree refl in omega (arith, less)

  -- in each tree with the member p, fewer than 67 members are above p
  pub near_all : (p : Place) → IsNear t 67 p
  near_all p fs u k e = omega (arith, no_longer fs u, k.low)

  below_left : (c : Color) (p : Place) (b : Tree) (fs : List Frame) (u : Tree) → IsSubtree seen_node (seen t) fs (fork c u p b) → IsSubtree seen_node (seen t) (frame Left c p b ∷ fs) u
  below_left c p b fs u k = record { around = (k.tree.0, k.tree.2, k.around); tree = k.tree.1; once = k.once; low = k.low; few = k.few }

  below_right : (c : Color) (p : Place) (b : Tree) (fs : List Frame) (u : Tree) → IsSubtree seen_node (seen t) fs (fork c b p u) → IsSubtree seen_node (seen t) (frame Right c p b ∷ fs) u
  below_right c p b fs u k = record { around = (k.tree.0, k.tree.1, k.around); tree = k.tree.2; once = k.once; low = k.low; few = k.few }

  -- if fewer than `turns` members are above p, fewer than `turns` - 1 members are above the parent of p
  near_above : (side : Side) (turns : ℕ) (p above : Place) → child_on side (seen_node ((seen t).entry above)) ≡ Some p → IsNear t turns p → IsNear t (turns - 1) above
  near_above side turns p above is near fs leaf k e = absurd (none_not above e)
  near_above Left turns p above is near fs (fork c a x b) k e =
      let tops : top a ≡ Some p = sym k.tree.0.left ∙ (ap (λ (y : Place). (seen_node ((seen t).entry y)).left) (some_same e) ∙ is) in
      let less = near (frame Left c x b ∷ fs) a (below_left c x b fs a k) tops in
      omega (arith, less)
  near_above Right turns p above is near fs (fork c a x b) k e =
      let tops : top b ≡ Some p = sym k.tree.0.right ∙ (ap (λ (y : Place). (seen_node ((seen t).entry y)).right) (some_same e) ∙ is) in
      let less = near (frame Right c x a ∷ fs) b (below_right c x a fs b k) tops in
      omega (arith, less)

  pub near_parent : (turns : ℕ) (p above : Place) → is_child_of t above p ≡ true → IsNear t turns p → IsNear t (turns - 1) above
  near_parent turns p above is near = pick (is_end (seen_node ((seen t).entry above)).left p) refl where
    pick : (b : Bool) → is_end (seen_node ((seen t).entry above)).left p ≡ b → IsNear t (turns - 1) above
    pick true k = near_above Left turns p above (is_end_yes (seen_node ((seen t).entry above)).left p k) near
    pick false k =
        let right : is_end (seen_node ((seen t).entry above)).right p ≡ true = sym (ap (λ (b : Bool). b || is_end (seen_node ((seen t).entry above)).right p) k) ∙ is in
        near_above Right turns p above (is_end_yes (seen_node ((seen t).entry above)).right p right) near

-- the sum at p was computed again: it is the value of p combined with the sums of the two children of p, and no other sum has changed
module _ (kind : Kind) (t : Table RawThree) (sums new : List RawSum) (p : Place) (set : sum_at new p ≡ joined_at kind t sums p)
    (others : (q : Place) → q ≢ p → sum_at new q ≡ sum_at sums q) (values : (q : Place) → value_at new q ≡ value_at sums q) where
  below_kept : (o : Option Place) → ((c : Place) → o ≡ Some c → c ≢ p) → sum_below new o ≡ sum_below sums o
  below_kept None f = refl
  below_kept (Some c) f = others c (f c refl)

  joined_kept : (q : Place) → ((c : Place) (side : Side) → child_on side (seen_node ((seen t).entry q)) ≡ Some c → c ≢ p) → joined_at kind t new q ≡ joined_at kind t sums q
  joined_kept q f =
      let left = below_kept (seen_node ((seen t).entry q)).left (λ c e. f c Left e) in
      let right = below_kept (seen_node ((seen t).entry q)).right (λ c e. f c Right e) in
      λ i. combined kind (left i) (combined kind (values q i) (right i))

  -- if the sums were right except at p and in `but`, they are right in `new` except at `up` and in `but`. Only `up` may have p as a child
  pub recomputed : {root : Option Place} {s : List Place} (up : Option Place) (but : Place → Bool) → IsSeen t root s
      → ((q : Place) (side : Side) → IsMember q s → child_on side (seen_node ((seen t).entry q)) ≡ Some p → up ≡ Some q)
      → IsSummedBut kind t sums s (also (Some p) but) → IsSummedBut kind t new s (also up but)
  recomputed {root} {s} up but shown above right q m off =
      let beside = also_off up but q off in
      elim (same_or_not q p) [
        | inl e ↦ subst (λ (z : Place). IsRightAt kind t new z) (sym e)
            (set ∙ sym (joined_kept p (λ c side is. (child_names t shown p c side (subst (λ (z : Place). IsMember z s) e m) is).1)))
        | inr n ↦
            others q n ∙ (right q m (off_also (Some p) but q (is_end_not (Some p) q (λ k. n (sym (some_same k)))) beside.1)
            ∙ sym (joined_kept q (λ c side is same. is_end_no up q beside.0 (above q side m (is ∙ ap Some same)))))
      ]

module _ (kind : Kind) (t : Table RawThree) (sums : List RawSum) (p : Place) {root : Option Place} {s : List Place} (but : Place → Bool) (shown : IsSeen t root s)
    (right : IsSummedBut kind t sums s (also (Some p) but)) where
  elsewhere : (q : Place) → IsMember q s → but q ≡ false → q ≢ p → IsRightAt kind t sums q
  elsewhere q m off n = right q m (off_also (Some p) but q (is_end_not (Some p) q (λ k. n (sym (some_same k)))) off)

  -- if no turn of the loop is left, p is no member, so the sums are right at all members of s that are not in `but`
  pub spent : IsNear t 0 p → IsSummedBut kind t sums s but
  spent near q m off = elsewhere q m off (λ e. far t shown p near (subst (λ (z : Place). IsMember z s) e m))

  -- if the sum at p is right, the sums are right at all members of s that are not in `but`
  pub stopped : IsRightAt kind t sums p → IsSummedBut kind t sums s but
  stopped here q m off = elim (same_or_not q p) [
    | inl e ↦ subst (λ (z : Place). IsRightAt kind t sums z) (sym e) here
    | inr n ↦ elsewhere q m off n
  ]

-- if p names no parent, no member has p as a child. Otherwise only the parent that p names can have p as a child
module _ (t : Table RawThree) {root : Option Place} {s : List Place} (shown : IsSeen t root s) (p : Place) where
  pub no_parent : (seen_node ((seen t).entry p)).parent ≡ None → (q : Place) (side : Side) → IsMember q s → child_on side (seen_node ((seen t).entry q)) ≡ Some p → None ≡ Some q
  no_parent none q side m is = sym none ∙ (child_names t shown q p side m is).0

  pub one_parent : (above : Place) → (seen_node ((seen t).entry p)).parent ≡ Some above → (q : Place) (side : Side) → IsMember q s → child_on side (seen_node ((seen t).entry q)) ≡ Some p
      → Some above ≡ Some q
  one_parent above named q side m is = sym named ∙ (child_names t shown q p side m is).0

  pub other_parent : (above : Place) → (seen_node ((seen t).entry p)).parent ≡ Some above → is_child_of t above p ≡ false → (q : Place) (side : Side) → IsMember q s
      → child_on side (seen_node ((seen t).entry q)) ≡ Some p → None ≡ Some q
  other_parent above named off q side m is = absurd (not_there side (subst (λ (z : Place). child_on side (seen_node ((seen t).entry z)) ≡ Some p) (sym (some_same (one_parent above named q side m is))) is)) where
    both : (is_end (seen_node ((seen t).entry above)).left p ≡ false) × (is_end (seen_node ((seen t).entry above)).right p ≡ false)
    both = or_off (is_end (seen_node ((seen t).entry above)).left p) (is_end (seen_node ((seen t).entry above)).right p) off

    not_there : (side : Side) → child_on side (seen_node ((seen t).entry above)) ≡ Some p → ⊥
    not_there Left is = is_end_no (seen_node ((seen t).entry above)).left p both.0 is
    not_there Right is = is_end_no (seen_node ((seen t).entry above)).right p both.1 is

-- lemmas on the places whose index is at least a given number (`is_from`)
pub from_first : (q : Place) → is_from 0 q ≡ true
from_first q = lt-ltb 0 (suc (index_of q)) (omega arith)

pub from_next : (i : ℕ) (q : Place) → is_from (i + 1) q ≡ false → index_of q ≢ i → is_from i q ≡ false
from_next i q off n = let less : suc (index_of q) ≤ i + 1 = ltb-false (i + 1) (suc (index_of q)) off in le-ltb i (suc (index_of q)) (omega (arith, less, n))

pub past_last : (i : ℕ) (q : Place) → index_of q < i → is_from i q ≡ false
past_last i q less = le-ltb i (suc (index_of q)) (omega (arith, less))

-- a word with the number of the place q names q
pub names_place : (q : Place) (w : ℕ) → number_in w ≡ word_of (Some q) → place_in w ≡ Some q
names_place q w same = ap place_at same ∙ place_at_word (Some q)
