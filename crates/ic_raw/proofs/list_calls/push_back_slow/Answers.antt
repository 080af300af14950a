use Rattle.std.proofs.Common.{subst}
use Rattle.ic_raw.specs.declared.gap.GapSide.TheVariants.{Before}
use Rattle.ic_raw.specs.ListCalls.{InsertCall}
use Rattle.ic_raw.specs.Words.{place_of}
use Rattle.ic_raw.proofs.Numbers.{none_named}
use Rattle.ic_raw.proofs.LinkViews.{link_words}
use Rattle.ic_raw.proofs.list_calls.push_back_slow.Goals as goal

pub returns : goal.returns
returns g c =
    let words = link_words g.W.Words g.W.NextWord g.W.PrevPlace in
    subst (λ at. InsertCall words c.args.table.now c.insert_at.new.table c.args.list.now c.insert_at.new.list c.insert_at.result Before at (place_of c.args.place)) none_named c.insert_at.ensures
