use Rattle.std.proofs.Common.{rules}
use Rattle.ic_raw_augmented.proofs.noting.WrittenSurgery.unlink.Goals as goal

pub returns-clause-safe : goal.returns-clause-safe
returns-clause-safe c S closed ends = let done = c.unlink.ensures.safe S closed ends in search rules
