use Rattle.std.proofs.Common.{true, false, [], ◌∷◌, refl, sym, ◌∙◌, append-nil, append_assoc}
use Rattle.ic_link_ops.proofs.SequenceLemmas.{absent_right, beside_not, distinct_middle, last_of_push}
use Rattle.ic_link_ops.proofs.RepresentedLists.{represents_middle, represents_beside, gap_linked, next_linked}
use Rattle.ic_chain.proofs.Standing.{next_is}
use Rattle.ic_link_ops.proofs.Naming.{end_named}
use Rattle.ic_list_algorithms.proofs.sift.sift_one.Goals as goal

pub next-after-requires : goal.next-after-requires
next-after-requires g c = let r = c.requires.shown in record { linked = g.met.K.ForwardLinks.between_linked _ _ _ (represents_middle r.0 r.1 r.2) }

pub bypass-requires-clause-before : goal.bypass-requires-clause-before
bypass-requires-clause-before g c q e = let r = c.requires.shown in gap_linked g.met.K.ForwardLinks.between_linked r.0 (c.args.member ∷ r.1) r.2 (sym e ∙ r.3)

pub bypass-requires-clause-after : goal.bypass-requires-clause-after
bypass-requires-clause-after g c names q e =
    let r = c.requires.shown in
    next_linked g.met.K.ForwardLinks.between_linked r.0 c.args.member r.1 r.2 (sym e ∙ next_is g.met.K.ForwardLinks.leads r.0 r.1 r.2 r.3 c.next-after.ensures)

pub bypass-requires-clause-next : goal.bypass-requires-clause-next
bypass-requires-clause-next g c =
    let r = c.requires.shown in
    end_named _ _ (λ q e. g.met.L.LinkOps.covered_has_name _ q (g.met.L.LinkOps.linked_is_covered _ q (next_linked g.met.K.ForwardLinks.between_linked r.0 c.args.member r.1 r.2 (sym e ∙ next_is g.met.K.ForwardLinks.leads r.0 r.1 r.2 r.3 c.next-after.ensures))))

pub bypass-requires-clause-out : goal.bypass-requires-clause-out
bypass-requires-clause-out g c = let r = c.requires.shown in g.met.L.LinkOps.covered_has_name _ _ (g.met.L.LinkOps.linked_is_covered _ _ (g.met.K.ForwardLinks.between_linked _ _ _ (represents_middle r.0 r.1 r.2)))

pub release_link-requires : goal.release_link-requires
release_link-requires g c =
    let r = c.requires.shown in
    record { linked = g.met.L.LinkOps.does_replay _ _ [] c.bypass.ensures.trace_stays c.args.member ∙ g.met.K.ForwardLinks.between_linked _ _ _ (represents_middle r.0 r.1 r.2) }

pub returns-then-is_kept-clause-sifted : goal.returns-then-is_kept-clause-sifted
returns-then-is_kept-clause-sifted g c = (
  true,
  λ test h. c.if-is_kept.ensures.answer test h,
  λ front back shown prev. record {
    shown = rw (append_assoc front (c.args.member ∷ []) back) shown;
    released = g.met.L.LinkOps.does_nothing _;
    frame = record { extent = refl; others = λ q out. refl };
    last_kept = sym (last_of_push front c.args.member);
    after = next_is g.met.K.ForwardLinks.leads front back shown prev c.next-after.ensures;
  },
  c.if-is_kept.ensures.asked,
)

pub returns-clause-sifted : goal.returns-clause-sifted
returns-clause-sifted g c = (
  false,
  λ test h. c.if-is_kept.ensures.answer test h,
  λ front back shown prev.
      let after = next_is g.met.K.ForwardLinks.leads front back shown prev c.next-after.ensures in
      let off = c.bypass.ensures.shows front back shown prev after in
      let released = c.release_link.ensures.frame in
      record {
        shown = rw append-nil (represents_beside {new = g.L.LinkOps.table c.release_link.new.self} off (distinct_middle front back c.args.member shown.distinct) released.others);
        released = g.met.L.LinkOps.does_on _ _ _ _ _ c.bypass.ensures.trace_stays c.release_link.ensures.released;
        frame = record {
          extent = released.extent ∙ c.bypass.ensures.extent;
          others = λ q out.
              let beside = beside_not front back c.args.member prev after out in
              released.others q (absent_right q front (c.args.member ∷ back) out).0 ∙ c.bypass.ensures.others q beside.0 (λ _. beside.1);
        };
        last_kept = rw append-nil prev;
        after = after;
      },
  c.if-is_kept.ensures.asked,
)
