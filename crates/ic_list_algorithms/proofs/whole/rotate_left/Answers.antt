use Rattle.std.proofs.Common.{[], inl, drop, refl, sym, ◌∙◌, append-nil, take}
use Rattle.ic_link_ops.specs.Sequences.{at_back}
use Rattle.ic_link_ops.proofs.RepresentedLists.{last_linked, gap_linked, gap_after_linked}
use Rattle.ic_list_algorithms.proofs.TurnedLists.{cut_represented, parts_apart, turned_frame}
use Rattle.ic_link_ops.proofs.Naming.{end_named}
use Rattle.ic_list_algorithms.proofs.whole.rotate_left.Goals as goal

pub split_between-rest-requires-clause-before : goal.split_between-rest-requires-clause-before
split_between-rest-requires-clause-before g c q e =
    let n = c.args.n in
    let s = c.requires.shown in
    gap_linked g.met.K.ForwardLinks.between_linked (take n s.0) (drop n s.0) (cut_represented n s.1) (sym e ∙ (c.gap_at-before.ensures s.0 s.1).0)

pub split_between-rest-requires-clause-after : goal.split_between-rest-requires-clause-after
split_between-rest-requires-clause-after g c names q e =
    let n = c.args.n in
    let s = c.requires.shown in
    gap_after_linked g.met.K.ForwardLinks.between_linked (take n s.0) (drop n s.0) (cut_represented n s.1) (sym e ∙ (c.gap_at-before.ensures s.0 s.1).1)

pub last_walking-last-requires : goal.last_walking-last-requires
last_walking-last-requires g c =
    let n = c.args.n in
    let s = c.requires.shown in
    let gap = c.gap_at-before.ensures s.0 s.1 in
    let parts = c.split_between-rest.ensures.split (record { front = take n s.0; back = drop n s.0 }) (cut_represented n s.1) gap.0 gap.1 in
    record { shown = (drop n s.0, parts.hands_out) }

pub splice_between-requires-clause-before : goal.splice_between-requires-clause-before
splice_between-requires-clause-before g c q e =
    let n = c.args.n in
    let s = c.requires.shown in
    let gap = c.gap_at-before.ensures s.0 s.1 in
    let parts = c.split_between-rest.ensures.split (record { front = take n s.0; back = drop n s.0 }) (cut_represented n s.1) gap.0 gap.1 in
    last_linked g.met.K.ForwardLinks.between_linked parts.hands_out (sym e ∙ c.last_walking-last.ensures (drop n s.0) parts.hands_out)

pub splice_between-requires-clause-first : goal.splice_between-requires-clause-first
splice_between-requires-clause-first g c names q e =
    let n = c.args.n in
    let s = c.requires.shown in
    let gap = c.gap_at-before.ensures s.0 s.1 in
    let parts = c.split_between-rest.ensures.split (record { front = take n s.0; back = drop n s.0 }) (cut_represented n s.1) gap.0 gap.1 in
    gap_after_linked g.met.K.ForwardLinks.between_linked [] (take n s.0) parts.keeps (sym (rw c.take-front.ensures.whole at e) ∙ parts.keeps.head)

pub splice_between-requires-clause-end : goal.splice_between-requires-clause-end
splice_between-requires-clause-end g c q e =
    let n = c.args.n in
    let s = c.requires.shown in
    let gap = c.gap_at-before.ensures s.0 s.1 in
    let parts = c.split_between-rest.ensures.split (record { front = take n s.0; back = drop n s.0 }) (cut_represented n s.1) gap.0 gap.1 in
    last_linked g.met.K.ForwardLinks.between_linked parts.keeps (sym e ∙ gap.0)

pub split_between-rest-requires-clause-next : goal.split_between-rest-requires-clause-next
split_between-rest-requires-clause-next g c =
    let n = c.args.n in
    let s = c.requires.shown in
    end_named _ _ (λ q e. g.met.L.LinkOps.covered_has_name _ q (g.met.L.LinkOps.linked_is_covered _ q (gap_after_linked g.met.K.ForwardLinks.between_linked (take n s.0) (drop n s.0) (cut_represented n s.1) (sym e ∙ (c.gap_at-before.ensures s.0 s.1).1))))

pub splice_between-requires-clause-given : goal.splice_between-requires-clause-given
splice_between-requires-clause-given g c =
    let n = c.args.n in
    let s = c.requires.shown in
    let gap = c.gap_at-before.ensures s.0 s.1 in
    let parts = c.split_between-rest.ensures.split (record { front = take n s.0; back = drop n s.0 }) (cut_represented n s.1) gap.0 gap.1 in
    end_named _ _ (λ q e. g.met.L.LinkOps.covered_has_name _ q (g.met.L.LinkOps.linked_is_covered _ q (gap_after_linked g.met.K.ForwardLinks.between_linked [] (take n s.0) parts.keeps (sym (rw c.take-front.ensures.whole at e) ∙ parts.keeps.head))))

pub returns-clause-rotated : goal.returns-clause-rotated
returns-clause-rotated g c s shown =
    let n = c.args.n in
    let gap = c.gap_at-before.ensures s shown in
    let parts = c.split_between-rest.ensures.split (record { front = take n s; back = drop n s }) (cut_represented n shown) gap.0 gap.1 in
    let turned = c.splice_between.ensures.spliced (at_back (drop n s)) (take n s) (rw append-nil parts.hands_out) (c.last_walking-last.ensures (drop n s) parts.hands_out) refl
    (rw c.take-front.ensures.whole parts.keeps) (inl gap.0) (parts_apart n shown) in
    rw (append-nil (take n s)) at turned.shows

pub returns-clause-frame : goal.returns-clause-frame
returns-clause-frame g c s shown =
    let n = c.args.n in
    let gap = c.gap_at-before.ensures s shown in
    let parts = c.split_between-rest.ensures.split (record { front = take n s; back = drop n s }) (cut_represented n shown) gap.0 gap.1 in
    let turned = c.splice_between.ensures.spliced (at_back (drop n s)) (take n s) (rw append-nil parts.hands_out) (c.last_walking-last.ensures (drop n s) parts.hands_out) refl
    (rw c.take-front.ensures.whole parts.keeps) (inl gap.0) (parts_apart n shown) in
    turned_frame n s parts.frame turned.frame

pub returns-clause-trace_stays : goal.returns-clause-trace_stays
returns-clause-trace_stays g c = g.met.L.LinkOps.does_on _ _ _ _ _ c.split_between-rest.ensures.trace_stays c.splice_between.ensures.trace_stays
