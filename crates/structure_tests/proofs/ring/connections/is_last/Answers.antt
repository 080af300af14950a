use Rattle.std.proofs.Common.{Some, [], ◌∷◌, ◌++◌, sym, ap, ◌∙◌, append-nil}
use Rattle.ic_link_ops.proofs.SequenceLemmas.{last_or-append, some_same}
use Rattle.structure_tests.proofs.ring.connections.is_last.Goals as goal

pub returns : goal.returns
returns g c = record {
  last = λ s shown.
      let k = c.cursor_at-cursor.ensures in
      let m = c.move_next.ensures in
      let after = m.moved (record { front = s ++ c.args.connection.now ∷ []; back = [] }) (rw (append-nil, k.links, k.head) shown)
      (ap Some (k.at ∙ c.place.ensures) ∙ sym (last_or-append _ s (c.args.connection.now ∷ []))) in
      c.is_null.ensures.1 (some_same after ∙ sym m.same.0);
}
