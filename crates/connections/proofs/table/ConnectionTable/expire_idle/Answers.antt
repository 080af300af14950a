use Rattle.std.proofs.Common.{List, ◌∷◌, [], ◌++◌, ap, ◌∙◌}
use Rattle.connections.specs.declared.connection.Connection.{Connection}
use Rattle.connections.proofs.Ages.{idle_none, idle_more}
use Rattle.connections.proofs.table.ConnectionTable.expire_idle.Goals as goal

pub loop-gone-init : goal.loop-gone-init
loop-gone-init g c = idle_none

pub loop-gone-preserved : goal.loop-gone-preserved
loop-gone-preserved g c =
    let pushed = (rw c.unwrap.ensures at c.push.ensures.items) ∙ ap (λ (gone : List Connection). gone ++ c.unwrap-oldest.result ∷ []) c.reserve.ensures.items in
    idle_more c.unwrap-oldest.result c.loop-gone.invariant c.loop-gone-test.ensures (rw c.unwrap-oldest.ensures at c.close_oldest.ensures) pushed
