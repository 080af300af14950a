use Rattle.std.proofs.Common.{◌≡◌, ◌∙◌, length, take, drop, sym, ap, arith}
use Rattle.ic_program.proofs.TextLemmas.{slice_from}
use Rattle.ic_program.proofs.ReadingLemmas.{name_read, name_alone}
use Rattle.ic_program.proofs.names.after_name.Goals as goal

pub returns-then-begins_with : goal.returns-then-begins_with
returns-then-begins_with g c =
    let long : length c.args.name.now ≡ g.row.N = omega arith in
    name_read c.args.name.now c.args.text.now _ c.requires.2 (omega (arith, long, c.requires.0))
    (ap (λ n. take n c.args.text.now) long ∙ c.begins_with.ensures.0 c.if-begins_with.true)
    (slice_from g.row.N c.args.text.now ∙ ap (λ n. drop n c.args.text.now) (sym long))

pub returns : goal.returns
returns g c =
    let long : length c.args.name.now ≡ g.row.N = omega arith in
    name_alone c.args.name.now c.args.text.now c.requires.2
    (λ is. absurd (cc (c.if-begins_with.false, c.begins_with.ensures.1 (ap (λ n. take n c.args.text.now) (sym long) ∙ is))))
