use Rattle.std.proofs.Common.{◌≡◌, ◌<◌, length, arith}
use Rattle.ic_program.proofs.NameLemmas.{Alike, alike_within, short_name, long_name}
use Rattle.ic_program.proofs.names.begins_with.Goals as goal
use Rattle.ic_program.proofs.names.begins_with.Goals.{else-this-gt16-via-then-this-gt16+else-not-eight_alike, else-this-gt16-via-else-this-gt16}

pub returns-then-four_alike : goal.returns-then-four_alike
returns-then-four_alike g c =
    let text = c.args.text.now in
    let name = c.args.name.now in
    let long : length name ≡ g.row.N = omega arith in (
      λ last. short_name text name g.row.N long c.if-text.false c.requires.0 c.if-this-lt8.true (c.four_alike.ensures.0 c.if-four_alike.true) (c.four_alike-then-four_alike.ensures.0 last),
      λ is. c.four_alike-then-four_alike.ensures.1 (alike_within text name g.row.N _ 4 is (omega (arith, c.requires.0))),
    )

pub returns-then-not-eight_alike : goal.returns-then-not-eight_alike
returns-then-not-eight_alike g c = (
  λ is. absurd (cc (is)),
  λ is. absurd (cc (c.if-not-eight_alike.true, c.eight_alike.ensures.1 (alike_within c.args.text.now c.args.name.now g.row.N 8 8 is (omega (arith, c.if-this-gt16.true))))),
)

pub returns-then-eight_alike : goal.returns-then-eight_alike
returns-then-eight_alike g c =
    let text = c.args.text.now in
    let name = c.args.name.now in
    let long : length name ≡ g.row.N = omega arith in
    let mid : 16 < g.row.N → Alike text name 8 8 =
    elim c.else-this-gt16.branch [
      | else-this-gt16-via-then-this-gt16+else-not-eight_alike w ↦ λ _. w.eight_alike.ensures.0 w.if-not-eight_alike.false
      | else-this-gt16-via-else-this-gt16 w ↦ λ more. absurd (omega (arith, more, w.if-this-gt16.false))
    ] in (
      λ last. long_name text name g.row.N long c.if-text.false c.if-this-lt8.false c.requires.1 (c.eight_alike-2.ensures.0 c.if-eight_alike.true) mid (c.eight_alike-then-eight_alike.ensures.0 last),
      λ is. c.eight_alike-then-eight_alike.ensures.1 (alike_within text name g.row.N _ 8 is (omega (arith, c.if-this-lt8.false))),
    )
