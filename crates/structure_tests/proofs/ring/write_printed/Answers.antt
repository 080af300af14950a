use Rattle.std.proofs.Common.{sym, ◌∙◌}
use Rattle.structure_tests.proofs.Rings.{ring_placed}
use Rattle.structure_tests.proofs.ring.write_printed.Goals as goal

pub debug-listing-requires : goal.debug-listing-requires
debug-listing-requires g c =
    record { placed = ring_placed g.L.LinkedListOps.neighbors (g.L.LinkOps.table c.args.links.now) (λ q e. g.met.L.LinkOps.linked_is_covered c.args.links.now q (sym (g.met.L.LinkedListOps.linked_alike _) ∙ e)) c.args.objects.now c.requires.placed c.requires.covers c.args.ring.now c.requires.shown }
