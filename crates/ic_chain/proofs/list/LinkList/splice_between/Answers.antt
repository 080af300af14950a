use Rattle.std.proofs.Common.{[], ◌∷◌, Option, Some, ◌++◌, ◌∙◌, sym, ap, refl, drop, ◌≡◌}
use Rattle.ic_link_ops.specs.Prelude.{Place, ListHead, list_head, RepresentsChain, TurnsEnds, end_of}
use Rattle.ic_link_ops.proofs.SequenceLemmas.{gap_not, absent_left, absent_right, absent_both}
use Rattle.ic_link_ops.proofs.RepresentedLists.{represents_splice, represents_first, ends_not}
use Rattle.ic_link_ops.proofs.Naming.{end_named}
use Rattle.ic_chain.proofs.Walking.{told_some, told_none, turned_nowhere, turned_to_none}
use Rattle.ic_chain.proofs.list.LinkList.splice_between.Goals as goal

-- if the splice sets the ends of the list for the first spliced member `begins`, it sets them for `first`, which is the same member
begins_alike : {W : Type 0} {kept : Option Place → W} {old new : ListHead W} {before after begins first end : Option Place} → begins ≡ first
    → TurnsEnds kept old new before after begins end → TurnsEnds kept old new before after first end
begins_alike {old = old} {before = before} same turns = record { head = turns.head ∙ ap (λ f. end_of before f old.head) same; tail = turns.tail }

pub set_prev_or_tail-requires-clause-linked : goal.set_prev_or_tail-requires-clause-linked
set_prev_or_tail-requires-clause-linked g c names q e = g.met.L.LinkOps.does_replay _ _ [] c.set_next_or_head.ensures.trace_stays q ∙ c.requires.after names q e

pub set_prev_or_tail-requires-clause-from : goal.set_prev_or_tail-requires-clause-from
set_prev_or_tail-requires-clause-from g c =
    let L = g.met.L.LinkOps in
    end_named _ _ (λ q e. L.covered_has_name _ q (L.linked_is_covered _ q (c.requires.before q e)))

pub set_prev_or_tail-requires-clause-to : goal.set_prev_or_tail-requires-clause-to
set_prev_or_tail-requires-clause-to g c =
    let L = g.met.L.LinkOps in
    end_named _ _ (λ q e. L.covered_has_name _ q (L.linked_is_covered _ q (c.requires.end q e)))

pub set_prev-requires-clause-to : goal.set_prev-requires-clause-to
set_prev-requires-clause-to g c =
    let L = g.met.L.LinkOps in
    end_named _ _ (λ q e. L.covered_has_name _ q (L.linked_is_covered _ q (c.requires.before q e)))

pub set_next-requires-clause-linked : goal.set_next-requires-clause-linked
set_next-requires-clause-linked g c =
    let L = g.met.L.LinkOps in
    rw (L.does_replay _ _ [] c.set_prev.ensures.trace_stays _, L.does_replay _ _ [] c.set_prev_or_tail.ensures.trace_stays _, L.does_replay _ _ [] c.set_next_or_head.ensures.trace_stays _)
    (c.requires.end c.in-Some-end.end c.in-Some-end.is)

pub returns-in-Some-end-clause-spliced : goal.returns-in-Some-end-clause-spliced
returns-in-Some-end-clause-spliced g c gap t shown before after other kept_last apart =
    let is_end = c.in-Some-end.is ∙ told_some _ _ (rw c.in-Some-end.is at kept_last) in
    let list : ListHead g.row.K-Tail.Denot = list_head (Some c.in-Some.first) c.args.given.tail in
    let given : RepresentsChain g.K.ForwardLinks.Between g.K.ListKind.kept (g.L.LinkOps.table c.args.links.now) list t =
    record { distinct = other.distinct; chain = other.chain; head = sym c.in-Some.is ∙ c.first.ensures ∙ other.head; tail = other.tail } in
    let turn3 = c.set_prev.ensures in
    let turn4 = c.set_next.ensures in
    record {
      shows = represents_splice {t4 = g.L.LinkOps.table c.set_next.new.links} {list' = list_head c.set_next_or_head.new.head c.set_prev_or_tail.new.tail} {given = list}
          gap.front t gap.back c.in-Some.first refl is_end before after (rw (← c.self.view_is) at shown) given apart
          c.set_next_or_head.ensures.turns c.set_prev_or_tail.ensures.turns turn3.turns (rw c.in-Some-end.is turn4.turns) c.set_next_or_head.ensures.head c.set_prev_or_tail.ensures.tail;
      frame = record {
        extent = turn4.frame.extent ∙ turn3.frame.extent ∙ c.set_prev_or_tail.ensures.extent ∙ c.set_next_or_head.ensures.extent;
        others = λ q out.
            let rest = absent_right q gap.front (t ++ gap.back) out in
            let beside = gap_not gap.front gap.back before after
            (absent_both q gap.front gap.back (absent_left q gap.front (t ++ gap.back) out) (absent_right q t gap.back rest)) in
            let apart_ends = ends_not given is_end (absent_left q t gap.back rest) in
            turn4.frame.others q (λ e. apart_ends.1 (c.in-Some-end.is ∙ ap Some (sym e))) ∙ turn3.frame.others q (λ e. apart_ends.0 (ap Some (sym e)))
            ∙ c.set_prev_or_tail.ensures.turns.others q beside.1 ∙ c.set_next_or_head.ensures.turns.others q beside.0;
      };
    }

pub returns-in-Some-end-clause-trace_stays : goal.returns-in-Some-end-clause-trace_stays
returns-in-Some-end-clause-trace_stays g c =
    let L = g.met.L.LinkOps in
    L.does_on _ _ _ _ _ (L.does_on _ _ _ _ _ (L.does_on _ _ _ _ _ c.set_next_or_head.ensures.trace_stays c.set_prev_or_tail.ensures.trace_stays) c.set_prev.ensures.trace_stays)
    c.set_next.ensures.trace_stays

pub returns-in-Some-end-clause-ends : goal.returns-in-Some-end-clause-ends
returns-in-Some-end-clause-ends g c first is =
    begins_alike (sym c.in-Some.is ∙ c.first.ensures ∙ is) (rw (← c.self.view_is) (record { head = c.set_next_or_head.ensures.head; tail = c.set_prev_or_tail.ensures.tail }))

-- in one case the call is given no last member. Then lists of the kind do not store their last member, and no member is after the gap
pub returns-clause-spliced : goal.returns-clause-spliced
returns-clause-spliced g c gap t shown before after other kept_last apart =
    let list : ListHead g.row.K-Tail.Denot = list_head (Some c.in-Some.first) c.args.given.tail in
    let given : RepresentsChain g.K.ForwardLinks.Between g.K.ListKind.kept (g.L.LinkOps.table c.args.links.now) list t =
    record { distinct = other.distinct; chain = other.chain; head = sym c.in-Some.is ∙ c.first.ensures ∙ other.head; tail = other.tail } in
    let starts : t ≡ c.in-Some.first ∷ drop 1 t = represents_first t given refl in
    let none = told_none _ _ c.in-Some.first (drop 1 t) (rw (c.in-None.is, starts) at kept_last) in
    let turn3 = c.set_prev.ensures in
    record {
      shows = represents_splice {t4 = g.L.LinkOps.table c.set_prev.new.links} {list' = list_head c.set_next_or_head.new.head c.set_prev_or_tail.new.tail} {given = list}
          gap.front t gap.back c.in-Some.first refl refl before after (rw (← c.self.view_is) at shown) given apart
          c.set_next_or_head.ensures.turns (turned_nowhere none.1 c.set_prev_or_tail.ensures.turns) turn3.turns (turned_to_none none.1) c.set_next_or_head.ensures.head
          (λ end is. c.set_prev_or_tail.ensures.tail end is ∙ g.met.K.ListKind.tells_nothing none.0 _ _);
      frame = record {
        extent = turn3.frame.extent ∙ c.set_prev_or_tail.ensures.extent ∙ c.set_next_or_head.ensures.extent;
        others = λ q out.
            let rest = absent_right q gap.front (t ++ gap.back) out in
            let beside = gap_not gap.front gap.back before after
            (absent_both q gap.front gap.back (absent_left q gap.front (t ++ gap.back) out) (absent_right q t gap.back rest)) in
            let apart_ends = ends_not given refl (absent_left q t gap.back rest) in
            turn3.frame.others q (λ e. apart_ends.0 (ap Some (sym e)))
            ∙ c.set_prev_or_tail.ensures.turns.others q beside.1 ∙ c.set_next_or_head.ensures.turns.others q beside.0;
      };
    }

pub returns-clause-trace_stays : goal.returns-clause-trace_stays
returns-clause-trace_stays g c =
    let L = g.met.L.LinkOps in
    L.does_on _ _ _ _ _ (L.does_on _ _ _ _ _ c.set_next_or_head.ensures.trace_stays c.set_prev_or_tail.ensures.trace_stays) c.set_prev.ensures.trace_stays

pub returns-clause-ends : goal.returns-clause-ends
returns-clause-ends g c first is =
    begins_alike (sym c.in-Some.is ∙ c.first.ensures ∙ is) (rw (← c.self.view_is) (record { head = c.set_next_or_head.ensures.head; tail = c.set_prev_or_tail.ensures.tail }))
