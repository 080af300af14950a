use Rattle.std.proofs.Common.{[], ◌∷◌, ◌∙◌}
use Rattle.ic_link_ops.proofs.Covering.{frames_join}
use Rattle.ic_link_ops.specs.Prelude.{insert, at_back, releases}
use Rattle.ic_link_ops.proofs.SequenceLemmas.{last_of_push, but_last_of_push, absent_both}
use Rattle.ic_link_ops.proofs.LinkedSets.{unlinked_again}
use Rattle.ic_chain.proofs.laws.push_then_pop.Goals as goal

pub returns : goal.returns
returns g c old pushed new object result s shown push pop =
    let whole = insert (at_back s) object in
    let put = push.inserted s shown in
    let is = pop.answer whole put ∙ last_of_push s object in
    let table = g.L.LinkOps.table in
    let replay = g.met.L.LinkOps.does_replay in
    record {
      answer = is;
      sequence = rw (but_last_of_push s object) at (pop.removed whole put);
      linked = unlinked_again {linked = g.L.LinkOps.linked} (table old.links) (table pushed.links) (table new.links) object
          (replay _ _ _ push.acquired) (replay _ _ (releases object ∷ []) (rw is at pop.released));
      frame = frames_join (push.frame s shown) (pop.frame whole put) (λ q out. absent_both q s (object ∷ []) out.1 (out.0, tt));
    }
