-- These lemmas are about a tree that has each object of a container.
use Rattle.std.proofs.Common.{◌≡◌, ℕ, Bool, Option, Some, List, [], ◌∷◌, ◌++◌, map, sym, ap, subst}
use Rattle.std.specs.Ordering.{nat_cmp}
use Rattle.ic_link_ops.specs.Prelude.{Place, Objects, object_at, Table, Node}
use Rattle.ic_unsafe_ref.proofs.Placing.{Puts, put_there, put_others}
use Rattle.ic_pool.specs.Pooled.{Grows}
use Rattle.ic_rbtree.specs.Borders.{IsSorted}
use Rattle.ic_container.specs.EachLaws.{each_covered, each_changed}
use Rattle.ic_container.specs.Trees.{HasAllIn}

keys_same : {T : Type 0} (key : T → ℕ) {r out : T} → key r ≡ key out → (front back : List T) → map key (front ++ r ∷ back) ≡ map key (front ++ out ∷ back)
keys_same key same [] back = ap (λ (k : ℕ). k ∷ map key back) same
keys_same key same (x ∷ front) back = ap (λ (l : List ℕ). key x ∷ l) (keys_same key same front back)

module _ {L E : Type 0} {node : E → Node} {linked : E → Bool} {table : L → Table E} {T : Type 0} (key : T → ℕ) (objects : Objects T) {links : L} {root : Option Place} (a : HasAllIn node linked table key links root objects) where
  -- AFTER `place`, whatever the call returned, the tree has the objects that it had, because the table of links has at most grown
  pub all_grown : (grown : L) → Grows (table links) (table grown) → HasAllIn node linked table key grown root objects
  all_grown grown grows = record { values = a.values; each = each_covered a.each grown grows.entries }

  -- AFTER ANOTHER VALUE with an equal key has replaced the value of an object, the tree still has each object
  pub all_alike : {new : Objects T} {p : Place} {out value : T} → object_at objects p ≡ Some out → Puts objects new p value → key value ≡ key out → HasAllIn node linked table key links root new
  all_alike {new} {p} {out} {value} there puts same =
      let c = each_changed a.each p there (put_there puts) (put_others puts) in
      record {
        values = c.0 ++ value ∷ c.1;
        each = c.3 (subst (IsSorted nat_cmp) (sym (keys_same key same c.0 c.1)) (subst (λ (l : List T). IsSorted nat_cmp (map key l)) c.2 a.each.sorted.sorted));
      }
