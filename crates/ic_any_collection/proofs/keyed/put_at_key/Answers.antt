use Rattle.std.proofs.Common.{rules}
use Rattle.ic_any_collection.proofs.Common.{tree_table_in, refl, ap, vacant_one, inserts_left, links_left}
use Rattle.ic_any_collection.proofs.keyed.put_at_key.Goals as goal

pub unwrap-requires : goal.unwrap-requires
unwrap-requires g c = let p = c.requires.placed in rw c.get_ptr.ensures (c.in-Occupied.ensures.occupied p.members p.shown).1

pub or_insert-requires-clause-vacant : goal.or_insert-requires-clause-vacant
or_insert-requires-clause-vacant g c =
    let p = c.requires.placed in let one = vacant_one c.entry_by.result c.in_default.not-Occupied in
    let v = rw one.1 at (c.entry_by.ensures.vacant p.members p.shown) in let b = rw one.1 at c.entry_by.ensures.vacant_borrows in
    rw one.1 (v.gap, rw (b.3, b.2, v.same) p.shown, rw b.3 v.is_at)

pub returns-in-Ok-clause-put : goal.returns-in-Ok-clause-put
returns-in-Ok-clause-put g c s shown new =
    let one = vacant_one c.entry_by.result c.in_default.not-Occupied in let v = rw one.1 at (c.entry_by.ensures.vacant s shown) in
    let b = rw one.1 at c.entry_by.ensures.vacant_borrows in let put = rw (one.1, c.new.ensures) at c.in-Ok.ensures.vacant in let names = put.borrows in
    (v.gap, v.same, ((v.smaller, v.larger), inserts_left (ap tree_table_in b.3) refl (put.inserted v.gap (rw (b.3, b.2, v.same) shown) (rw b.3 v.is_at)) (search rules) (search rules)))

pub returns-in-Ok-clause-links : goal.returns-in-Ok-clause-links
returns-in-Ok-clause-links g c new =
    let one = vacant_one c.entry_by.result c.in_default.not-Occupied in let b = rw one.1 at c.entry_by.ensures.vacant_borrows in
    let put = rw (one.1, c.new.ensures) at c.in-Ok.ensures.vacant in let names = put.borrows in
    (refl, links_left (ap tree_table_in b.3) refl put.acquired (search rules))

pub returns-in-Err-clause-refused : goal.returns-in-Err-clause-refused
returns-in-Err-clause-refused g c s shown =
    let one = vacant_one c.entry_by.result c.in_default.not-Occupied in let v = rw one.1 at (c.entry_by.ensures.vacant s shown) in
    (v.gap, v.same, (v.smaller, v.larger))
