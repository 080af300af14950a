-- Lemmas about two rings that become one ring, and whose members go from one ring to the other. `joins`: the two circles are one circle, after x and y, their
-- last places, exchanged their next places
use Rattle.std.proofs.Common.{◌≡◌, Option, Some, None, List, [], ◌∷◌, ◌++◌, sym, ap, subst, ◌∙◌, append_assoc}
use Rattle.ic_link_ops.specs.Prelude.{Place, IsAbsent, IsDisjoint, last, last_or, Neighbors}
use Rattle.ic_link_ops.proofs.SequenceLemmas.{last_or-append, last_of_push, last_not, none_not, absent_left, absent_turned, absent_swap, disjoint_sym, disjoint_both}
use Rattle.ic_ring.specs.Rings.{IsCircle}
use Rattle.ic_ring.proofs.Circles.{rotated, apart_too}

-- in a sequence that ends with k and then `back`, the last place is the last place of `back`, or k if `back` is empty
pub last_after : (b : Option Place) (t : List Place) (k : Place) (back : List Place) → last_or b ((t ++ k ∷ []) ++ back) ≡ last_or (Some k) back
last_after b t k back = last_or-append b (t ++ k ∷ []) back ∙ ap (λ b. last_or b back) (last_or-append b t (k ∷ []))

-- the last place of the first part of a sequence is a member of the whole sequence
pub last_member : {x : Place} (h : Place) (front back : List Place) → Some x ≡ last (h ∷ front) → IsAbsent x (h ∷ (front ++ back)) → ⊥
last_member {x} h front back is_last out = last_not None (h ∷ front) x (none_not x) (absent_left x (h ∷ front) back out) (sym is_last)

module _ {E : Type 0} {n : E → Neighbors} {t0 t1 : Place → E} {h k x y : Place} {u : List Place} (other : IsCircle n t0 (k ∷ u)) (apart : IsAbsent h (k ∷ u))
    (joins : (r u : List Place) → IsCircle n t0 r → IsCircle n t0 u → IsDisjoint r u → Some x ≡ last r → Some y ≡ last u → IsCircle n t1 (r ++ u)) where
  -- if the last places of two rings exchange their next places, the second ring with its head comes after the members of the first ring
  pub joined_at_back : (s t : List Place) → IsCircle n t0 (h ∷ s) → IsCircle n t0 (k ∷ t) → (n (t0 h)).prev ≡ Some x → (n (t0 k)).prev ≡ Some y → IsCircle n t1 (h ∷ s ++ k ∷ t)
  joined_at_back s t c d to_x to_y = joins (h ∷ s) (k ∷ t) c d (apart_too h s k u t c other apart d) (sym to_x ∙ c.chain.0.prev) (sym to_y ∙ d.chain.0.prev)

  -- a place x of the first ring and the head of the second ring exchange their next places. Then the members of the second ring, and then its head,
  -- come after x
  pub joined_at_end : (front back t : List Place) → IsCircle n t0 (h ∷ (front ++ back)) → Some x ≡ last (h ∷ front) → IsCircle n t0 (k ∷ t) → y ≡ k
      → IsCircle n t1 (h ∷ (front ++ ((t ++ k ∷ []) ++ back)))
  joined_at_end front back t c is_x d is_y =
      let r = back ++ h ∷ front in
      let v = t ++ k ∷ [] in
      let one = absent_swap (k ∷ t) (h ∷ (front ++ back)) (disjoint_sym (h ∷ (front ++ back)) (k ∷ t) (apart_too h (front ++ back) k u t c other apart d)) r
      (λ q out. absent_turned q back (h ∷ front) out) in
      let two = absent_swap r (k ∷ t) (disjoint_sym (k ∷ t) r one) v (λ q out. absent_turned q t (k ∷ []) out) in
      let whole = joins r v (rotated (h ∷ front) back c) (rotated (k ∷ []) t d) two (is_x ∙ sym (last_or-append None back (h ∷ front))) (ap Some is_y ∙ sym (last_of_push t k)) in
      rw (append_assoc (h ∷ front) v back) at (rotated back ((h ∷ front) ++ v) (rw (append_assoc back (h ∷ front) v) at whole))

-- a place `at` and the last place of another ring exchange their next places. Then the head and the members of the other ring come after `at`
module _ {E : Type 0} {n : E → Neighbors} {t0 t1 : Place → E} {at given x : Place} {u : List Place} (other : IsCircle n t0 (given ∷ u)) (apart : IsAbsent at (given ∷ u))
    (joins : (r u : List Place) → IsCircle n t0 r → IsCircle n t0 u → IsDisjoint r u → Some at ≡ last r → Some x ≡ last u → IsCircle n t1 (r ++ u)) where
  pub joined_after : (r t : List Place) → IsCircle n t0 (at ∷ r) → IsCircle n t0 (given ∷ t) → (n (t0 given)).prev ≡ Some x → IsCircle n t1 ((r ++ at ∷ []) ++ given ∷ t)
  joined_after r t c d to_x =
      let both = apart_too at r given u t c other apart d in
      joins (r ++ at ∷ []) (given ∷ t) (rotated (at ∷ []) r c) d (disjoint_both r (at ∷ []) (given ∷ t) both.1 (both.0, tt)) (sym (last_of_push r at)) (sym to_x ∙ d.chain.0.prev)

  -- the joined ring, read from the place `at`. `joined_given` reads the ring from the head `given`
  pub joined_at : (r t : List Place) → IsCircle n t0 (at ∷ r) → IsCircle n t0 (given ∷ t) → (n (t0 given)).prev ≡ Some x → IsCircle n t1 (at ∷ ((given ∷ t) ++ r))
  joined_at r t c d to_x = rotated r (at ∷ given ∷ t) (subst (IsCircle n t1) (append_assoc r (at ∷ []) (given ∷ t)) (joined_after r t c d to_x))

  pub joined_given : (r t : List Place) → IsCircle n t0 (at ∷ r) → IsCircle n t0 (given ∷ t) → (n (t0 given)).prev ≡ Some x → IsCircle n t1 (given ∷ (t ++ (r ++ at ∷ [])))
  joined_given r t c d to_x = rotated (r ++ at ∷ []) (given ∷ t) (joined_after r t c d to_x)
