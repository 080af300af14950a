use Rattle.std.proofs.Common.{sym, ap, ◌∙◌}
use Rattle.ic_hash_table.specs.BucketLaws.{fronts_set, rewritten_at}
use Rattle.ic_hash_table.proofs.buckets.ArrayBucketRow.set_front.Goals as goal

pub returns-clause-fronts : goal.returns-clause-fronts
returns-clause-fronts g c =
    fronts_set g.met.W.BucketWord.fronts_are c.args.self.now c.args.at c.of.result c.args.front (ap g.W.BucketWord.front_of c.of.ensures ∙ g.met.W.BucketWord.word_names c.args.front c.requires.kept)

pub returns-clause-rewrites : goal.returns-clause-rewrites
returns-clause-rewrites g c =
    let names = ap g.W.BucketWord.front_of c.of.ensures ∙ g.met.W.BucketWord.word_names c.args.front c.requires.kept in
    rewritten_at g.W.BucketWord.front_of g.W.BucketWord.word_for c.args.self.now c.args.at c.of.result (c.of.ensures ∙ ap g.W.BucketWord.word_for (sym names))
