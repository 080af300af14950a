use Rattle.std.proofs.Common.{◌≡◌, ◌∙◌, true, sym, arith, rules}
use Rattle.collections_tests.proofs.Ready.{on_ok}
use Rattle.collections_tests.proofs.tree.summaries.eight_summaries.Goals as goal

pub returns : goal.returns
returns g c =
    let is : c.is_ok.result ≡ true = search rules in
    let room = on_ok c.cover-covered.result (sym c.is_ok.ensures.value ∙ is) c.cover-covered.ensures.covers in
    record { room = λ q few. omega (arith, room, few) }
