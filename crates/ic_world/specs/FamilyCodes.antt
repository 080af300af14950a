-- How a family is encoded as a value of plain data, and decoded again.
use Rattle.std.specs.Prelude.{◌≡◌, ℕ, List, [], ◌∷◌, Option, refl}
use Rattle.std.specs.Ordering.{nat_cmp}
use Rattle.std.specs.FinSet as set
use Rattle.std.specs.FinMap as map
use Rattle.std.specs.Coded.{Coded, code_by, coded×, coded_ℕ, coded_list, coded_option}
use Rattle.ic_link_ops.specs.Prelude.{Place, place_code}
use Rattle.ic_any_collection.specs.declared.kind.Kind.{Kind}
use Rattle.ic_any_collection.specs.declared.kind.Kind.TheVariants.{Singly, Doubly, Xor, Tree}
use Rattle.ic_any_collection.specs.Kinds.{number_of, kind_with}
use Rattle.ic_world.specs.Family.{LinkField, Sequence, Family}

-- a kind that was encoded as its number is decoded to the same kind
pub kind_again : (k : Kind) → kind_with (number_of k ∷ []) ≡ k
kind_again Singly = refl
kind_again Doubly = refl
kind_again Xor = refl
kind_again Tree = refl

abbrev pub kind_code : Coded Kind
kind_code = code_by ℕ coded_ℕ number_of (λ n. kind_with (n ∷ [])) kind_again

abbrev pub field_code : Coded LinkField
field_code = code_by (Kind × set.FinSet nat_cmp) (coded× kind_code (set.code coded_ℕ)) (λ f. (f.kind, f.linked)) (λ p. record { kind = p.0; linked = p.1 }) (λ _. refl)

abbrev pub sequence_code : Coded Sequence
sequence_code =
    code_by (ℕ × (Kind × (List Place × Option Place))) (coded× coded_ℕ (coded× kind_code (coded× (coded_list place_code) (coded_option place_code))))
    (λ s. (s.field, (s.kind, (s.members, s.cursor)))) (λ p. record { field = p.0; kind = p.1.0; members = p.1.1.0; cursor = p.1.1.1 }) (λ _. refl)

-- a family is encoded as the tuple of its adapter, objects, link fields and collections
abbrev pub family_code : {A V : Type 0} → Coded A → Coded V → Coded (Family A V)
family_code {A} {V} adapter value =
    code_by
    (A × (map.FinMap nat_cmp V × (List LinkField × List (Option Sequence))))
    (coded× adapter (coded× (map.code coded_ℕ value) (coded× (coded_list field_code) (coded_list (coded_option sequence_code)))))
    (λ w. (w.adapter, (w.objects, (w.fields, w.collections))))
    (λ p. record { adapter = p.0; objects = p.1.0; fields = p.1.1.0; collections = p.1.1.1 })
    (λ _. refl)
