use Rattle.std.proofs.Common.{refl, is_some, ap}
use Rattle.ic_unsafe_ref.proofs.Placing.{placed_there}
use Rattle.ic_link_ops.proofs.Calling.{accepted}
use Rattle.ic_hash_index.proofs.HashLemmas.{hash_new, hash_ready}
use Rattle.ic_hash_index.proofs.hash_index.HashIndexIndex.insert_place.Goals as goal

pub insert-requires-clause-placed : goal.insert-requires-clause-placed
insert-requires-clause-placed g c = rw c.new.ensures (ap is_some (placed_there c.requires.lacks.places))

pub insert-requires-clause-held : goal.insert-requires-clause-held
insert-requires-clause-held g c = let l = c.requires.lacks in (l.all.members, hash_ready (λ e. refl) l.all l.places)

pub returns-clause-has : goal.returns-clause-has
returns-clause-has g c =
    let l = c.requires.lacks in
    let e = rw c.new.ensures at c.insert.ensures in
    let off = l.all.only c.args.place l.places.vacant in
    hash_new (λ e. refl) l.all l.places (accepted _ c.insert.result off e.refused (e.inserted l.all.members (hash_ready (λ e. refl) l.all l.places))) (accepted _ c.insert.result off e.refused e.acquired)
