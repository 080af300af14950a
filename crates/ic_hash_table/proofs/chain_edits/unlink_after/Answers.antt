use Rattle.std.proofs.Common.{[], ◌∷◌, sym, ◌∙◌}
use Rattle.ic_link_ops.proofs.Naming.{end_named}
use Rattle.ic_link_ops.proofs.SequenceLemmas.{absent_right, distinct_middle, beside_not}
use Rattle.ic_link_ops.proofs.RepresentedLists.{represents_middle, gap_linked, next_linked, represents_beside}
use Rattle.ic_link_ops.proofs.SinglyLists.{followed_linked}
use Rattle.ic_hash_table.proofs.Chains.{chain_of_list}
use Rattle.ic_hash_table.proofs.chain_edits.unlink_after.Goals as goal

pub next-after-requires : goal.next-after-requires
next-after-requires g c =
    let m = c.requires.member in record {
      linked = followed_linked g.met.L.SinglyLinkedListOps.linked_alike _ _ _ (represents_middle m.0 m.1 m.2);
    }

pub bypass-requires : goal.bypass-requires
bypass-requires g c =
    let m = c.requires.member in record {
      before = λ q e. gap_linked (followed_linked g.met.L.SinglyLinkedListOps.linked_alike) m.0 (c.args.place ∷ m.1) m.2 (sym e ∙ m.3);
      after = λ no. absurd no;
      next = end_named _ _ (λ q e. g.met.L.LinkOps.covered_has_name _ q (g.met.L.LinkOps.linked_is_covered _ q (next_linked (followed_linked g.met.L.SinglyLinkedListOps.linked_alike) m.0 c.args.place m.1 m.2 (sym e ∙ c.next-after.ensures ∙ (represents_middle m.0 m.1 m.2).next))));
      out = g.met.L.LinkOps.covered_has_name _ _ (g.met.L.LinkOps.linked_is_covered _ _ (followed_linked g.met.L.SinglyLinkedListOps.linked_alike _ _ _ (represents_middle m.0 m.1 m.2)));
    }

pub release_link-requires : goal.release_link-requires
release_link-requires g c =
    let m = c.requires.member in record {
      linked = g.met.L.LinkOps.does_replay _ _ [] c.bypass.ensures.trace_stays c.args.place
          ∙ followed_linked g.met.L.SinglyLinkedListOps.linked_alike _ _ _ (represents_middle m.0 m.1 m.2);
    }

pub returns-clause-removed : goal.returns-clause-removed
returns-clause-removed g c ahead back shown before =
    let stands = represents_middle ahead back shown in
    let without = c.bypass.ensures.shows ahead back (rw c.from_front-chain.ensures shown) before (c.next-after.ensures ∙ stands.next) in
    rw c.first.ensures (chain_of_list (represents_beside {new = g.L.LinkOps.table c.release_link.new.self} without (distinct_middle ahead back c.args.place shown.distinct) c.release_link.ensures.frame.others))

pub returns-clause-released : goal.returns-clause-released
returns-clause-released g c = g.met.L.LinkOps.does_on _ _ _ _ _ c.bypass.ensures.trace_stays c.release_link.ensures.released

pub returns-clause-frame : goal.returns-clause-frame
returns-clause-frame g c ahead back shown before =
    let stands = represents_middle ahead back shown in
    let released = c.release_link.ensures.frame in record {
      extent = released.extent ∙ c.bypass.ensures.extent;
      others = λ q out.
          let beside = beside_not ahead back c.args.place before (c.next-after.ensures ∙ stands.next) out in
          released.others q (absent_right q ahead (c.args.place ∷ back) out).0 ∙ c.bypass.ensures.others q beside.0 (λ no. absurd no);
    }
