use Rattle.ic_unsafe_ref.proofs.Placing.{put_there, exchanged_puts}
use Rattle.structure_tests.proofs.listed.renew.Goals as goal

pub returns-clause-renewed : goal.returns-clause-renewed
returns-clause-renewed g c = put_there (exchanged_puts (rw c.place-2.ensures at c.replace.ensures.values))
