use Rattle.std.proofs.Common.{rules, ◌≡◌, ℕ, Option, List, Result, Ok, Err, IfOk, sym, ap, subst}
use Rattle.ic_link_ops.specs.Prelude.{Place, Objects, Table, LinkStep, Successor}
use Rattle.ic_hash_table.specs.declared.entry.Entry.{Entry}
use Rattle.ic_hash_table.specs.declared.entry.Entry.TheVariants.{Occupied, Vacant}
use Rattle.ic_hash_table.specs.declared.entry.OccupiedEntry.{OccupiedEntry}
use Rattle.ic_hash_table.specs.declared.entry.RefusedInsert.{RefusedInsert}
use Rattle.ic_hash_table.specs.declared.entry.VacantEntry.{VacantEntry}
use Rattle.ic_hash_table.specs.declared.table.HashTable.{HashTable}
use Rattle.ic_hash_table.specs.Entry.{EntersAt, IfOccupied, IfVacant}
use Rattle.ic_hash_table.specs.HashTable.{Holds}
use Rattle.ic_hash_table.proofs.Callers.{held_represented}
use Rattle.keyed_tests.proofs.hash_table.entry.enter_or_find.Goals as goal

-- if `P` holds of an occupied entry, and `Q` follows from `P`, then `Q` holds of the entry. `vacant_part` says the same of a vacant entry
module _ {A B L : Type 0} where
  occupied_part : (P Q : OccupiedEntry A B L → Type 0) → ((e : OccupiedEntry A B L) → P e → Q e) → (entry : Entry A B L) → IfOccupied entry P → IfOccupied entry Q
  occupied_part P Q part (Occupied e) h = part e h
  occupied_part P Q part (Vacant v) h = tt

  vacant_part : (P Q : VacantEntry A B L → Type 0) → ((v : VacantEntry A B L) → P v → Q v) → (entry : Entry A B L) → IfVacant entry P → IfVacant entry Q
  vacant_part P Q part (Occupied e) h = tt
  vacant_part P Q part (Vacant v) h = part v h

-- after the entry of a key is filled, or a member with the key is found, the table of links has the same extent as before
module _ {E A B L V K : Type 0} (successor : E → Successor) (table : L → Table E) (fronts : B → List (Option Place)) (Rewrites : B → B → Type 0) (hash : A → V → ℕ)
    (Trace : L → L → List LinkStep → Type 0) (Refused : L → L → Place → Type 0) (objects : Objects V) (object : Place) where
  entered_extent : (entry : Entry A B L) (result : Result (OccupiedEntry A B L) (RefusedInsert A B L V K))
      (members : HashTable A B) (links : L) (s : List Place)
      → IfOccupied entry (λ e. result ≡ Ok e) → IfVacant entry (λ v. EntersAt successor table fronts Rewrites hash Trace Refused objects v object result)
      → IfOccupied entry (λ e. e.links.now ≡ links) → IfVacant entry (λ v. (v.table.now ≡ members) × (v.links.now ≡ links))
      → Holds successor hash fronts (table links) members objects s → IfOk result (λ e. (table e.links.now).extent ≡ (table links).extent)
  entered_extent (Occupied e) result members links s same entered found vacant held =
      subst (λ r. IfOk r (λ e. (table e.links.now).extent ≡ (table links).extent)) (sym same) (ap (λ l. (table l).extent) found)
  entered_extent (Vacant v) (Ok e) members links s same entered found vacant held =
      (rw (vacant.0, vacant.1) at entered.kept.chains.frame s (held_represented held)).extent
  entered_extent (Vacant v) (Err r) members links s same entered found vacant held = tt

pub returns-in-Ok-clause-extent : goal.returns-in-Ok-clause-extent
returns-in-Ok-clause-extent g c =
    let q = c.requires.held in
    let stays = rw c.in-Ok.is at (entered_extent _ _ _ _ _ _ _ _ _ c.entry.result c.or_insert.result c.args.table.now c.args.links.now q.0 c.or_insert.ensures.occupied c.or_insert.ensures.vacant
    (occupied_part _ (λ e. e.links.now ≡ c.args.links.now) (λ e h. h.3) c.entry.result c.entry.ensures.occupied_borrows)
    (vacant_part _ (λ v. (v.table.now ≡ c.args.table.now) × (v.links.now ≡ c.args.links.now)) (λ v h. (h.2, h.3)) c.entry.result c.entry.ensures.vacant_borrows) q.1) in
    search (rules, stays)
