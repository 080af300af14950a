-- These lemmas count the objects of a container and the members of its lists after one object is added, removed or replaced.
use Rattle.std.proofs.Common.{◌≡◌, ℕ, ◌+◌, ◌-◌, true, cond, is_some, IsSome, List, ◌∷◌, ◌++◌, ◌∙◌, ap, sym, subst, length, length-append, arith}
use Rattle.std.specs.Cmp.{nat_cmp_total}
use Rattle.std.specs.FinMap as map
use Rattle.std.specs.FinMap.{len-insert, len-remove}
use Rattle.ic_link_ops.specs.Prelude.{Place, index_of, Objects, Places, Frees, object_at, is_placed, ArePlaced}
use Rattle.ic_link_ops.proofs.Prelude.{Puts, all_back}
use Rattle.ic_container.specs.NumberedLists.{NumberedLists, Moves}
use Rattle.ic_container.specs.Values.{Without}

-- after a member has moved in its list, the list has as many members as before
pub length_moved : {k : ℕ} {front : List Place} {p : Place} {back before after : List Place} {old new : NumberedLists} → Moves k front p back before after old new → length (new k) ≡ length (old k)
length_moved {front = front} {p} {back} {before} {after} t =
    omega (arith, ap length t.is, ap length t.was, ap length t.rest, length-append before (p ∷ after), length-append front (p ∷ back), length-append front back, length-append before after)

module _ {T : Type 0} {old new : Objects T} {p : Place} where
  -- after one object was stored, the container has one object more
  pub count_placed : {value : T} → Places old new p value → map.len new.values ≡ map.len old.values + 1
  count_placed {value} places =
      ap map.len places.values ∙ len-insert nat_cmp_total old.values (index_of p) value ∙ ap (λ b. cond b (map.len old.values) (map.len old.values + 1)) (ap is_some places.vacant)

  -- after another value has replaced the value of an object, the container has as many objects as before
  pub count_put : {value : T} → is_placed old p ≡ true → Puts old new p value → map.len new.values ≡ map.len old.values
  count_put {value} is puts =
      ap map.len puts.values ∙ len-insert nat_cmp_total old.values (index_of p) value ∙ ap (λ b. cond b (map.len old.values) (map.len old.values + 1)) is

  -- after one object was removed from the container and from a sequence, there are as many objects as places in the sequence, if there were as many before
  pub count_freed : {s t : List Place} → ArePlaced old s → Frees old new p → Without p s t → map.len old.values ≡ length s → map.len new.values ≡ length t
  count_freed {s} {t} placed frees out count =
      let there : is_placed old p ≡ true = (all_back (λ q. IsSome (object_at old q)) out.front (p ∷ out.back) (subst (ArePlaced old) out.was placed)).0 in
      let less = ap map.len frees.values ∙ len-remove nat_cmp_total old.values (index_of p) ∙ ap (λ b. cond b (map.len old.values - 1) (map.len old.values)) there in
      omega (arith, less, count, ap length out.was, ap length out.is, length-append out.front (p ∷ out.back), length-append out.front out.back)
