-- A builder with no members represents the empty sequence, whatever the table contains.
use Rattle.std.proofs.Common.{◌≡◌, [], refl}
use Rattle.ic_link_ops.specs.Prelude.{Ends, no_members, Node, Table}
use Rattle.ic_rbtree.specs.Vines.{RepresentsVineSome}

pub nothing_chained : {E : Type 0} (n : E → Node) (t : Table E) {ends : Ends} → ends ≡ no_members → RepresentsVineSome n t ends
nothing_chained n t e = ([], rw e (record { distinct = tt; chain = tt; head = refl; tail = refl }))
