use Rattle.std.proofs.Common.{◌≡◌, codes, refl, rules, arith}
use Rattle.std.proofs.lemmas.Slice.Eq.{text_from_reads}
use Rattle.ic_program.proofs.word.kind.Goals as goal

pub returns-in-singly : goal.returns-in-singly
returns-in-singly c = let is : c.args.word.now ≡ codes "singly" = text_from_reads c.args.word.now (codes "singly") (omega arith) (search rules) in rw is refl

pub returns-in-doubly : goal.returns-in-doubly
returns-in-doubly c = let is : c.args.word.now ≡ codes "doubly" = text_from_reads c.args.word.now (codes "doubly") (omega arith) (search rules) in rw is refl
