-- A statement that is true for each element of a list is true for each element of a part of the list.
use Rattle.std.proofs.Common.{List, [], ◌∷◌, ◌++◌, refl}
use Rattle.std.specs.List.{AllByRecursion}
use Rattle.ic_link_ops.specs.Base.{Place, IsMember}

module _ {X : Type 0} (P : X → Type 0) where
  pub all_front : (s t : List X) → AllByRecursion P (s ++ t) → AllByRecursion P s
  all_front [] t h = tt
  all_front (x ∷ s) t h = (h.0, all_front s t h.1)

  pub all_back : (s t : List X) → AllByRecursion P (s ++ t) → AllByRecursion P t
  all_back [] t h = h
  all_back (x ∷ s) t h = all_back s t h.1

  pub all_both : (s t : List X) → AllByRecursion P s → AllByRecursion P t → AllByRecursion P (s ++ t)
  all_both [] t h k = k
  all_both (x ∷ s) t h k = (h.0, all_both s t h.1 k)

  -- If the statement P holds for each element of a list and for x, it holds after x is inserted. If x is removed from a list of
  -- such elements, P holds for each remaining element.
  pub all_with : (s : List X) (x : X) (t : List X) → P x → AllByRecursion P (s ++ t) → AllByRecursion P (s ++ x ∷ t)
  all_with [] x t here h = (here, h)
  all_with (y ∷ s) x t here h = (h.0, all_with s x t here h.1)

  pub all_without : (s : List X) (x : X) (t : List X) → AllByRecursion P (s ++ x ∷ t) → AllByRecursion P (s ++ t)
  all_without [] x t h = h.1
  all_without (y ∷ s) x t h = (h.0, all_without s x t h.1)

-- If P implies Q, and P holds for each element of a list, Q holds for each element.
pub all_map : {X : Type 0} {P Q : X → Type 0} → ((x : X) → P x → Q x) → (s : List X) → AllByRecursion P s → AllByRecursion Q s
all_map f [] h = tt
all_map f (x ∷ s) h = (f x h.0, all_map f s h.1)

-- A statement that is true for every place that is a member of s is true for each element of s.
pub all_members : {P : Place → Type 0} (s : List Place) → ((q : Place) → IsMember q s → P q) → AllByRecursion P s
all_members [] h = tt
all_members (x ∷ s) h = (h x (λ out. out.0 refl), all_members s (λ q member. h q (λ out. member out.1)))
