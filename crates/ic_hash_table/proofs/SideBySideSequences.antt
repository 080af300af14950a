-- In the sequences of these lemmas, alike members, for example members with equal keys, are side by side. A member is inserted or removed, and sequences are
-- joined and cut.
use Rattle.std.proofs.Common.{◌≡◌, ◌≢◌, Bool, true, Option, Some, None, IfSome, List, [], ◌∷◌, ◌++◌, refl, sym, subst, ◌∙◌, inl, inr}
use Rattle.std.specs.Cmp.{IsPartialEquivalence}
use Rattle.ic_link_ops.specs.Prelude.{Place, IsAbsent, IsMember, first}
use Rattle.ic_link_ops.proofs.Prelude.{same_or_not, absent_left, absent_right, absent_both, absent_without}
use Rattle.ic_hash_table.specs.SideBySide.{AreSideBySide}

-- a sequence with at least one member has the same first member, whatever comes after it
first_same : (f b c : List Place) (y : Place) → IsMember y f → first (f ++ b) ≡ first (f ++ c)
first_same [] b c y member = absurd (member tt)
first_same (x ∷ f) b c y member = refl

if_some : {P Q : Place → Type 0} (o : Option Place) → ((q : Place) → P q → Q q) → IfSome o P → IfSome o Q
if_some None follows h = tt
if_some (Some q) follows h = follows q h

module _ (alike : Place → Place → Bool) where
  -- if p is inserted at a gap, alike members are still side by side. This requires that no member before the gap is alike p or a member after the gap. If p is
  -- alike a member after the gap, p must be alike the first one
  pub put_beside : (p : Place) (f b : List Place) → AreSideBySide alike (f ++ b) → ((x y : Place) → IsMember x f → IsMember y b → alike x y ≡ true → ⊥)
      → ((x : Place) → IsMember x f → alike x p ≡ true → ⊥) → ((y : Place) → IsMember y b → alike p y ≡ true → IfSome (first b) (λ next. alike p next ≡ true))
      → AreSideBySide alike (f ++ p ∷ b)
  put_beside p [] b side apart none next = (next, side)
  put_beside p (x ∷ f) b side apart none next = (
    (λ y member same. elim (same_or_not y p) [
      | inl e ↦ absurd (none x (λ out. out.0 refl) (subst (λ z. alike x z ≡ true) e same))
      | inr other ↦
          let out_b : IsMember y f = λ out_f. apart_or y member other out_f same in
          subst (λ o. IfSome o (λ next. alike x next ≡ true)) (first_same f b (p ∷ b) y out_b)
          (side.0 y (λ out. out_b (absent_left y f b out)) same)
    ]),
    put_beside p f b side.1 (λ z y m. apart z y (λ out. m out.1)) (λ z m. none z (λ out. m out.1)) next,
  ) where
    apart_or : (y : Place) → IsMember y (f ++ p ∷ b) → y ≢ p → IsAbsent y f → alike x y ≡ true → ⊥
    apart_or y member other out_f same =
        apart x y (λ out. out.0 refl) (λ out_b. member (absent_both y f (p ∷ b) out_f (other, out_b))) same

module _ (alike : Place → Place → Bool) (laws : IsPartialEquivalence alike) where
  -- if a member before a gap is alike a member after the gap, it is alike the member directly after the gap
  pub spans : (f b : List Place) (q : Place) → AreSideBySide alike (f ++ q ∷ b) → (x y : Place) → IsMember x f → IsMember y (q ∷ b) → alike x y ≡ true → alike x q ≡ true
  spans [] b q side x y member after same = absurd (member tt)
  spans (z ∷ []) b q side x y member after same = elim (same_or_not x z) [
    | inl e ↦ subst (λ x. alike x q ≡ true) (sym e) (side.0 y after (subst (λ x. alike x y ≡ true) e same))
    | inr other ↦ absurd (member (other, tt))
  ]
  spans (z ∷ w ∷ f) b q side x y member after same = elim (same_or_not x z) [
    | inl e ↦
        let here : alike z y ≡ true = subst (λ x. alike x y ≡ true) e same in
        let next : alike z w ≡ true = side.0 y (λ out. after (absent_right y (w ∷ f) (q ∷ b) out)) here in
        let on : alike w q ≡ true = spans (w ∷ f) b q side.1 w y (λ out. out.0 refl) after (laws.trans w z y (laws.symm w z ∙ next) here) in
        subst (λ x. alike x q ≡ true) (sym e) (laws.trans z w q next on)
    | inr other ↦ spans (w ∷ f) b q side.1 x y (λ out. member (other, out)) after same
  ]

  -- if a member is removed, alike members are still side by side
  pub take_beside : (p : Place) (f b : List Place) → AreSideBySide alike (f ++ p ∷ b) → AreSideBySide alike (f ++ b)
  take_beside p [] b side = side.1
  take_beside p (x ∷ []) b side = (
    (λ y member same.
        let to : alike x p ≡ true = side.0 y (λ out. member out.1) same in
        let back : alike p x ≡ true = laws.symm p x ∙ to in
        if_some (first b) (λ next h. laws.trans x p next to h) (side.1.0 y member (laws.trans p x y back same))),
    side.1.1,
  )
  take_beside p (x ∷ w ∷ f) b side =
      ((λ y member same. side.0 y (λ out. member (absent_without (w ∷ f) b p y out)) same), take_beside p (w ∷ f) b side.1)

first_of_front : (f b : List Place) (y : Place) → IsMember y f → first f ≡ first (f ++ b)
first_of_front [] b y member = absurd (member tt)
first_of_front (x ∷ f) b y member = refl

module _ (alike : Place → Place → Bool) where
  -- if two sequences are joined, alike members are side by side, if no member of one sequence is alike a member of the other
  pub join_beside : (a b : List Place) → AreSideBySide alike a → AreSideBySide alike b → ((x y : Place) → IsMember x a → IsMember y b → alike x y ≡ true → ⊥)
      → AreSideBySide alike (a ++ b)
  join_beside [] b side other apart = other
  join_beside (x ∷ a) b side other apart = (
    (λ y member same.
        let here : IsMember y a = λ out. apart x y (λ o. o.0 refl) (λ o. member (absent_both y a b out o)) same in
        subst (λ o. IfSome o (λ next. alike x next ≡ true)) (first_of_front a b y here) (side.0 y here same)),
    join_beside a b side.1 other (λ z y m. apart z y (λ o. m o.1)),
  )

  -- if alike members are side by side in a sequence, they are side by side in its front part and in its back part
  pub front_beside : (a b : List Place) → AreSideBySide alike (a ++ b) → AreSideBySide alike a
  front_beside [] b side = tt
  front_beside (x ∷ a) b side = (
    (λ y member same.
        subst (λ o. IfSome o (λ next. alike x next ≡ true)) (sym (first_of_front a b y member)) (side.0 y (λ out. member (absent_left y a b out)) same)),
    front_beside a b side.1,
  )

  pub back_beside : (a b : List Place) → AreSideBySide alike (a ++ b) → AreSideBySide alike b
  back_beside [] b side = side
  back_beside (x ∷ a) b side = back_beside a b side.1
