use Rattle.std.proofs.Common.{subst}
use Rattle.ic_raw.specs.declared.gap.GapSide.TheVariants.{Before}
use Rattle.ic_raw.specs.LinkWords.{narrow_words}
use Rattle.ic_raw.specs.ListCalls.{SpliceCall}
use Rattle.ic_raw.proofs.Numbers.{none_named}
use Rattle.ic_ffi.proofs.narrow_list_calls.ic_list32_append.Goals as goal

pub returns : goal.returns
returns c =
    subst (λ at. SpliceCall narrow_words c.args.table.now c.splice_at.new.table c.args.list.now c.splice_at.new.list c.splice_at.result Before at c.args.given.now c.splice_at.new.given) none_named c.splice_at.ensures
