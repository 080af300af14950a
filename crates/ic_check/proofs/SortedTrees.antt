-- Lemmas on two walks through the values of a tree. The second walk is one value ahead of the first. All values are sorted exactly if the values from the
-- position of the first walk on are sorted.
use Rattle.std.proofs.Common.{◌≡◌, true, Option, Some, None, List, [], ◌∷◌, map, sym, ◌∙◌, ap, subst, IfSome, is_some, Ordering, Greater}
use Rattle.std.specs.Borrow.{Bor}
use Rattle.ic_link_ops.specs.Walk.{GivesFirst}
use Rattle.ic_rbtree.specs.Borders.{IsSorted}

-- if a call has returned `Some`, the guarantee P that its contract gives for this case holds
pub on_some : {T : Type 0} {P : Type 0} (r : Option T) → is_some r ≡ true → IfSome r (λ x. P) → P
on_some None some h = absurd (cc)
on_some (Some x) some h = h

pub first_given : {S V : Type 0} (rest : S → List V) (s t : S) (r : Option (Bor V)) → is_some r ≡ true → GivesFirst rest s r t → (value : V) × (rest s ≡ value ∷ rest t)
first_given rest s t None some h = absurd (cc)
first_given rest s t (Some x) some h = (x.now, h.0)

module _ {V K : Type 0} (cmp : K → K → Ordering) (key : V → K) where
  -- no key of the values s is less than the key before it
  abbrev pub Rise : List V → Type 0
  Rise s = IsSorted cmp (map key s)

  -- the values from the first walk on are `after`, and those from the second walk on are `left`, which is one value shorter. All values are sorted exactly if
  -- `after` is sorted
  pub record GoesOn (all after left : List V) : Type 0 where
    pub value : V
    pub is : after ≡ value ∷ left
    pub down : Rise all → Rise after
    pub up : Rise after → Rise all

  pub goes : {all after left : List V} {value : V} → after ≡ all → all ≡ value ∷ left → GoesOn all after left
  goes {all} {after} {left} {value} same is = record { value = value; is = same ∙ is; down = subst Rise (sym same); up = subst Rise same }

  rest_same : {x y : V} {s t : List V} → x ∷ s ≡ y ∷ t → s ≡ t
  rest_same e = cc

  first_same : {x y : V} {s t : List V} → x ∷ s ≡ y ∷ t → x ≡ y
  first_same e = cc

  module _ {all after left rest others : List V} {last value : V} (g : GoesOn all after left) (is : left ≡ value ∷ rest) (was : after ≡ last ∷ others) where
    both : after ≡ last ∷ value ∷ rest
    both = was ∙ ap (λ (s : List V). last ∷ s) (rest_same (sym was ∙ g.is) ∙ is)

    -- if the next value is not less than the value before it, both walks go on
    pub goes_on : (cmp (key last) (key value) ≡ Greater → ⊥) → GoesOn all others rest
    goes_on rises =
        let here : others ≡ value ∷ rest = rest_same (sym was ∙ both) in
        record {
          value = value;
          is = here;
          down = λ h. subst Rise (sym here) (subst Rise both (g.down h)).1;
          up = λ h. g.up (subst Rise (sym both) (rises, subst Rise here h));
        }

    -- if the next value is less than the value before it, the values are not sorted
    pub goes_down : cmp (key last) (key value) ≡ Greater → Rise all → ⊥
    goes_down falls h = (subst Rise both (g.down h)).0 falls

  -- if no value is left, all values are sorted
  pub goes_through : {all after left : List V} → GoesOn all after left → left ≡ [] → Rise all
  goes_through {all} {after} {left} g over = let one : after ≡ g.value ∷ [] = g.is ∙ ap (λ (s : List V). g.value ∷ s) over in g.up (subst Rise (sym one) tt)

  pub goes_always : {all after left : List V} → GoesOn all after left → after ≡ [] → ⊥
  goes_always g over = let e = sym g.is ∙ over in absurd (cc)
