use Rattle.std.proofs.Common.{List, [], ◌∷◌, ◌++◌, sym, subst}
use Rattle.ic_link_ops.specs.Prelude.{Place, IsMember, but_last}
use Rattle.ic_link_ops.proofs.SequenceLemmas.{split_member}
use Rattle.ic_ring.specs.Rings.{Represents}
use Rattle.structure_tests.proofs.Rings.{last_of}
use Rattle.structure_tests.proofs.ring.connections.close_last.Goals as goal

pub is_last-was_last-requires : goal.is_last-was_last-requires
is_last-was_last-requires g c =
    let n = g.L.LinkedListOps.neighbors in
    let t = g.L.LinkOps.table c.args.links.now in
    let q = c.requires.queue in
    let front = but_last q.0 in record {
      here = subst (λ p. (r : List Place) × Represents n t c.args.queue.now r × IsMember p (c.args.queue.now ∷ r)) (sym c.new-connection.ensures)
          (front ++ c.in-Some.last ∷ [], last_of n t q.0 q.1 (c.in-Some.ensures q.0 q.1), split_member (c.args.queue.now ∷ front) c.in-Some.last []);
    }

pub close_here-after-requires : goal.close_here-after-requires
close_here-after-requires g c =
    let n = g.L.LinkedListOps.neighbors in
    let t = g.L.LinkOps.table c.args.links.now in
    let q = c.requires.queue in
    let front = but_last q.0 in record {
      here = subst (λ p. (r : List Place) × Represents n t c.args.queue.now r × IsMember p (c.args.queue.now ∷ r)) (sym c.new-connection.ensures)
          (front ++ c.in-Some.last ∷ [], last_of n t q.0 q.1 (c.in-Some.ensures q.0 q.1), split_member (c.args.queue.now ∷ front) c.in-Some.last []);
    }
