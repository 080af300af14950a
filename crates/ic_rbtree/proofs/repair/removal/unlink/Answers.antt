use Rattle.ic_rbtree.proofs.repair.removal.unlink.Goals as goal

pub delete_fixup-requires : goal.delete_fixup-requires
delete_fixup-requires g c = let r = c.requires in let k = c.take_out-short.ensures.safe r.0 r.1 r.2 in (r.0, k.0, k.1)

pub returns-then-short-clause-taken : goal.returns-then-short-clause-taken
returns-then-short-clause-taken g c base front back ps h =
    let k = c.take_out-short.ensures.taken base front back ps h in c.delete_fixup.ensures.restored _ (k.3.1 c.if-short.true) k.2

pub returns-else-short-clause-taken : goal.returns-else-short-clause-taken
returns-else-short-clause-taken g c base front back ps h = (c.take_out-short.ensures.taken base front back ps h).3.0 c.if-short.false

pub returns-then-short-clause-safe : goal.returns-then-short-clause-safe
returns-then-short-clause-safe g c S h i = let k = c.take_out-short.ensures.safe S h i in c.delete_fixup.ensures.safe S k.0 k.1

pub returns-else-short-clause-safe : goal.returns-else-short-clause-safe
returns-else-short-clause-safe g c S h i = ((c.take_out-short.ensures.safe S h i).0, tt)
