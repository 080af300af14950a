use Rattle.ic_hash_table.specs.BucketLaws.{fronts_none}
use Rattle.ic_hash_table.proofs.new_buckets.empty_words.Goals as goal

pub returns-clause-empty : goal.returns-clause-empty
returns-clause-empty g c = fronts_none g.met.W.BucketWord.fronts_are c.loop-word.words.items c.loop-word.invariant.none
