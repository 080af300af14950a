-- From the invariant of a world it follows that its collections share no member, and that there is an object at each member.
use Rattle.std.proofs.Common.{◌≡◌, ℕ, List, Option, Some, None, [], ◌∷◌, refl, sym, ap, ◌∙◌, subst}
use Rattle.ic_link_ops.specs.Prelude.{Place, Objects, IsDistinct, IsDisjoint, Table, ArePlaced}
use Rattle.ic_link_ops.proofs.SequenceLemmas.{some_same}
use Rattle.ic_any_collection.specs.declared.entry.Entry.{Entry}
use Rattle.ic_any_collection.proofs.AllKinds.{distinct}
use Rattle.ic_world.specs.declared.collection.Collection.{Collection}
use Rattle.ic_world.specs.Prelude.{table, sequence, seen_as, represented_as, at, family_of, IsWhole, Sequence, collection}
use Rattle.ic_world.specs.Apart.{AreApart, AreAllPlaced}
use Rattle.ic_world.proofs.CollectionCall.{all_placed}
use Rattle.ic_world.proofs.Readings.{collection_at}

-- NO MEMBER IS SHARED in the family of a world that is whole (`IsWhole`)
module _ {A V : Type 0} (adapter : A) {objects : Objects V} {room : ℕ} {ts : List (Table Entry)} {cs : List (Option (Collection V))} (whole : IsWhole objects room ts cs) where
  -- each collection of the family is represented by the tables for a stored collection k
  seen : (o : Option (Collection V)) (s : Sequence) → represented_as ts o ≡ Some s → (k : Collection V) × (o ≡ Some k) × (seen_as k (sequence ts k) ≡ s)
  seen None s e = absurd cc
  seen (Some k) s e = (k, refl, some_same e)

  pub seen_at : (c : ℕ) (s : Sequence) → collection (family_of adapter objects ts cs) c ≡ Some s → (k : Collection V) × (at cs c ≡ Some k) × (seen_as k (sequence ts k) ≡ s)
  seen_at c s e = seen (at cs c) s (sym (collection_at adapter objects ts cs c) ∙ e)

  pub are_apart : AreApart (family_of adapter objects ts cs)
  are_apart = (
    (λ c s is. let k = seen_at c s is in subst (λ x. IsDistinct x.members) k.2 (distinct (table ts k.0.field) k.0.members (sequence ts k.0) (whole.held c k.0 k.1).shown)),
    (λ c d s t differ is_s is_t same.
        let k = seen_at c s is_s in
        let l = seen_at d t is_t in
        subst (λ x. IsDisjoint x.members t.members) k.2 (subst (λ x. IsDisjoint (sequence ts k.0) x.members) l.2
        (whole.apart c d k.0 l.0 differ k.1 l.1 (ap (λ x. x.field) k.2 ∙ same ∙ sym (ap (λ x. x.field) l.2))))),
  )

  -- EVERY MEMBER IS PLACED: there is an object at each member of each collection of the family
  placed_there : (s : List Place) → ArePlaced objects s → ArePlaced (record { values = objects.values; next = 0 }) s
  placed_there [] placed = tt
  placed_there (p ∷ s) placed = (placed.0, placed_there s placed.1)

  pub are_all_placed : AreAllPlaced (family_of adapter objects ts cs)
  are_all_placed c s is = let k = seen_at c s is in placed_there s.members (subst (λ x. ArePlaced objects x.members) k.2 (all_placed whole c k.0 k.1))
