use Rattle.std.proofs.Common.{true, false, refl, eq-eqb, sym, ◌∙◌, true≢false}
use Rattle.world_tests.proofs.laws.put_last.Goals.{in-Looked, in_default}
use Rattle.world_tests.proofs.laws.put_last.Goals as goal

pub returns : goal.returns
returns g c = elim c.match-answer.branch [
  | in-Looked w ↦ λ yes insertion_order stands.
      let kept = c.answer.ensures.keeps_order c.args.tree insertion_order stands tt in
      rw (eq-eqb c.args.tree c.args.tree refl) at (rw w.in-Looked.is at kept)
  | in_default w ↦ λ yes. absurd (true≢false (sym yes ∙ w.result-is))
]
