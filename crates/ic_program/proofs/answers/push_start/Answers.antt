use Rattle.std.proofs.Common.{◌≡◌, length, refl, arith}
use Rattle.ic_program.proofs.TakeLemmas.{cut_after}
use Rattle.ic_program.proofs.answers.push_start.Goals as goal

pub returns-clause-put : goal.returns-clause-put
returns-clause-put g c =
    let here : c.len-before.result ≡ length c.args.lines.now.items = omega arith in
    cut_after _ c.args.bytes.now _ _ _ c.len-before.result c.args.length here c.in_ok-extend_from_slice.ensures.items c.truncate.ensures.items refl
