-- This file proves that a walk from both ends returns each item of its sequence once, and no other item.
use Rattle.std.proofs.Common.{◌≡◌, Option, Some, List, [], ◌∷◌, ◌++◌, map, reverse, refl, sym, ◌∙◌, ap, subst, append_assoc}
use Rattle.std.proofs.lemmas.List.{reverse-append}
use Rattle.ic_link_ops.specs.BothEnds.{Item, at_the_front, at_the_back, Leads, from_front, from_back}

-- `Left s w` says that w is the list of items which the walk has not returned in the state s. A call at the front returns the
-- first item of w, and a call at the back returns the last item of w.
module _ {S A B : Type 0} (view : A → B) (next_gives next_back_gives : S → Option A → S → Type 0) (Left : S → List B → Type 0)
    (takes_first : (s t : S) (x : A) (w : List B) → next_gives s (Some x) t → Left s w → (r : List B) × (w ≡ view x ∷ r) × Left t r)
    (takes_last : (s t : S) (x : A) (w : List B) → next_back_gives s (Some x) t → Left s w → (r : List B) × (w ≡ r ++ view x ∷ []) × Left t r) where
  pub both_ends : (s t : S) (items : List (Item A)) (w : List B) → Leads next_gives next_back_gives s items t → Left s w
      → ((r : List B) → Left t r → r ≡ []) → from_front view items ++ reverse (from_back view items) ≡ w
  both_ends s t [] w leads left over = sym (over w (subst (λ (u : S). Left u w) leads left))
  both_ends s t (at_the_front x ∷ items) w leads left over =
      let k = takes_first s leads.0 x w leads.1 left in
      ap (λ (l : List B). view x ∷ l) (both_ends leads.0 t items k.0 leads.2 k.2 over) ∙ sym k.1
  both_ends s t (at_the_back x ∷ items) w leads left over =
      let k = takes_last s leads.0 x w leads.1 left in
      let fronts = from_front view items in
      let backs = from_back view items in
      ap (λ (l : List B). fronts ++ l) (reverse-append (view x ∷ []) backs)
      ∙ sym (append_assoc fronts (reverse backs) (view x ∷ []))
      ∙ ap (λ (l : List B). l ++ view x ∷ []) (both_ends leads.0 t items k.0 leads.2 k.2 over)
      ∙ sym k.1

module _ {S A : Type 0} (next_gives next_back_gives : S → Option A → S → Type 0) where
  -- If one sequence of calls leads from s to t and another one leads from t to u, both together lead from s to u.
  pub leads_on : (s t u : S) (items more : List (Item A)) → Leads next_gives next_back_gives s items t → Leads next_gives next_back_gives t more u
      → Leads next_gives next_back_gives s (items ++ more) u
  leads_on s t u [] more before after = subst (λ (v : S). Leads next_gives next_back_gives v more u) (sym before) after
  leads_on s t u (at_the_front x ∷ items) more before after = (before.0, before.1, leads_on before.0 t u items more before.2 after)
  leads_on s t u (at_the_back x ∷ items) more before after = (before.0, before.1, leads_on before.0 t u items more before.2 after)

module _ {A B : Type 0} (view : A → B) where
  -- The items that two sequences of calls returned at the front are those of the first sequence, followed by those of the second.
  pub from_front_on : (items more : List (Item A)) → from_front view (items ++ more) ≡ from_front view items ++ from_front view more
  from_front_on [] more = refl
  from_front_on (at_the_front x ∷ items) more = ap (λ (l : List B). view x ∷ l) (from_front_on items more)
  from_front_on (at_the_back x ∷ items) more = from_front_on items more

  -- The items that two sequences of calls returned at the back are those of the first sequence, followed by those of the second.
  pub from_back_on : (items more : List (Item A)) → from_back view (items ++ more) ≡ from_back view items ++ from_back view more
  from_back_on [] more = refl
  from_back_on (at_the_front x ∷ items) more = from_back_on items more
  from_back_on (at_the_back x ∷ items) more = ap (λ (l : List B). view x ∷ l) (from_back_on items more)

  -- The list `from_front view items` is what results if `view` is applied to each item that was returned at the front. The same
  -- is true of `from_back`.
  pub from_front_map : (items : List (Item A)) → map view (from_front (λ x. x) items) ≡ from_front view items
  from_front_map [] = refl
  from_front_map (at_the_front x ∷ items) = ap (λ (l : List B). view x ∷ l) (from_front_map items)
  from_front_map (at_the_back x ∷ items) = from_front_map items

  pub from_back_map : (items : List (Item A)) → map view (from_back (λ x. x) items) ≡ from_back view items
  from_back_map [] = refl
  from_back_map (at_the_front x ∷ items) = from_back_map items
  from_back_map (at_the_back x ∷ items) = ap (λ (l : List B). view x ∷ l) (from_back_map items)
