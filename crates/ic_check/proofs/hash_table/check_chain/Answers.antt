use Rattle.ic_hash_table.specs.Chains.{RepresentsFrom}
use Rattle.ic_check.proofs.hash_table.check_chain.Goals as goal

pub are_own-requires : goal.are_own-requires
are_own-requires g c =
    let k = c.in-Some.ensures in record { shown = (k.0, rw c.from_front-chain.ensures at k.1); well_formed = c.requires.well_formed }

pub returns-in_default : goal.returns-in_default
returns-in_default g c chain own = c.in_default.ensures chain (rw (c.from_front-chain.ensures, c.front-front.ensures, c.buckets.ensures) own.shown)

pub returns-then-are_own : goal.returns-then-are_own
returns-then-are_own g c =
    let k = c.in-Some.ensures in
    let shown : RepresentsFrom g.L.SinglyLinkedListOps.successor (g.L.LinkOps.table c.args.links.now) c.front-front.result k.0 = rw c.from_front-chain.ensures at k.1 in
    (k.0, record { shown = rw c.buckets.ensures at (rw c.front-front.ensures at shown); own = (c.are_own.ensures k.0 shown).0 c.if-are_own.true }, k.2)

pub returns : goal.returns
returns g c chain own =
    let shown : RepresentsFrom g.L.SinglyLinkedListOps.successor (g.L.LinkOps.table c.args.links.now) c.front-front.result chain = rw (c.front-front.ensures, c.buckets.ensures) own.shown in
    let yes = (c.are_own.ensures chain shown).1 own.own in cc yes
