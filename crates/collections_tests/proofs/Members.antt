-- If a cursor moves from one member to the next one, then a second cursor can be made on each of the two members, by the member and its neighbor.
use Rattle.std.proofs.Common.{◌≡◌, Option, Some, List, [], ◌∷◌, ◌++◌, append_assoc, drop, sym, ◌∙◌}
use Rattle.ic_link_ops.specs.Prelude.{Place, Table, CursorState, RepresentsAt, IsValidCursor, MovesOn}
use Rattle.ic_link_ops.proofs.Prelude.{member_there, first_is, last_of_push}
use Rattle.ic_chain.specs.Standing.{HasMemberAfter, HasMemberBefore}

module _ {L E H : Type 0} {S : Table E → H → List Place → Type 0} {table : L → Table E} {at : CursorState L H} {next : Option Place} {p : Place}
    (stands : IsValidCursor S table at) (on : MovesOn S table at next) where
  pub member_after : next ≡ Some p → HasMemberAfter (RepresentsAt S table at) p at.position
  member_after is = record {
    front = stands.gap.front;
    back = drop 1 stands.gap.back;
    shown = rw (first_is stands.gap.back (sym is ∙ on.leads stands.gap stands.shown stands.after)) at stands.shown;
    neighbor = stands.after;
  }

  pub member_before : at.position ≡ Some p → HasMemberBefore (RepresentsAt S table at) p next
  member_before is =
      let m = member_there stands is in record {
        front = m.front;
        back = m.back;
        shown = m.shown;
        neighbor = on.leads (record { front = m.front ++ p ∷ []; back = m.back }) (rw (append_assoc m.front (p ∷ []) m.back) m.shown) (is ∙ sym (last_of_push m.front p));
      }
