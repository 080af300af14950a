use Rattle.std.proofs.Common.{◌∙◌, arith}
use Rattle.uses.proofs.Pool.{refused_more}
use Rattle.uses.proofs.shared_pool.take.Goals as goal
use Rattle.uses.proofs.shared_pool.take.Goals.{in-Some+else-claim, in_default}

pub loop-index-preserved : goal.loop-index-preserved
loop-index-preserved g c =
    let was = c.loop-index.invariant in
    elim c.match-new.branch [
      | in-Some+else-claim w ↦
          let answered = w.if-claim.false in
          let same = rw answered at w.claim.ensures.refused in
          rw w.holder-is (record {
            made = w.claim.ensures.made;
            refused = refused_more was.refused w.in-Some.place w.in-Some.ensures.0 (rw answered at w.claim.ensures.step);
            held = λ q. same q ∙ was.held q;
          })
      | in_default w ↦ let over = w.in_default.ensures in absurd (omega (arith, over, c.loop-index-test.true, c.places-index-end.ensures, c.requires.small))
    ]
