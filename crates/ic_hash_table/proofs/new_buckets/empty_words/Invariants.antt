use Rattle.std.proofs.Common.{◌≡◌, None, length}
use Rattle.std.specs.List.{AllByRecursion}
use Rattle.ic_hash_table.proofs.new_buckets.empty_words.Given as goal

-- there are as many words as turns of the loop, and no word names a place
abbrev pub invariant-loop-word : goal.invariant-loop-word
invariant-loop-word g l = record {
  none : AllByRecursion (λ word. g.W.BucketWord.front_of word ≡ None) l.words.items;
  count : length l.words.items ≡ l._word;
}
