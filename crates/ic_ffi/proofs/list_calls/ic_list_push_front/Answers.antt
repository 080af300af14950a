use Rattle.std.proofs.Common.{subst}
use Rattle.ic_raw.specs.declared.gap.GapSide.TheVariants.{After}
use Rattle.ic_raw.specs.Prelude.{wide_words, place_of}
use Rattle.ic_raw.specs.ListCalls.{InsertCall}
use Rattle.ic_raw.proofs.Numbers.{none_named}
use Rattle.ic_ffi.proofs.list_calls.ic_list_push_front.Goals as goal

pub returns : goal.returns
returns c =
    subst (λ at. InsertCall wide_words c.args.table.now c.insert_at.new.table c.args.list.now c.insert_at.new.list c.insert_at.result After at (place_of c.args.place)) none_named c.insert_at.ensures
