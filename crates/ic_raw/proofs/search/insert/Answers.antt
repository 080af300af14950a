use Rattle.std.proofs.Common.{◌≡◌, slice_index, refl, sym, ap, ◌∙◌}
use Rattle.ic_unsafe_ref.specs.Places.{index_of}
use Rattle.ic_link_ops.specs.declared.side.Side.TheVariants.{Right}
use Rattle.ic_link_ops.proofs.SequenceLemmas.{some_same}
use Rattle.ic_rbtree.proofs.Closed.{read_in}
use Rattle.ic_raw.specs.Prelude.{against, key_of, has_place}
use Rattle.ic_raw.specs.Tree.{lent_table}
use Rattle.ic_raw.proofs.Gaps.{never}
use Rattle.ic_raw.proofs.Keys.{fits, ends_at}
use Rattle.ic_raw.proofs.Trees.{in_range, end_in, closed, seen_represents}
use Rattle.ic_raw.proofs.TreeSets.{led_within}
use Rattle.ic_raw.proofs.search.insert.Goals as goal

pub returns-then-not-is_searchable-clause-inserted : goal.returns-then-not-is_searchable-clause-inserted
returns-then-not-is_searchable-clause-inserted g c s p shown is enough free = absurd (never c.if-not-is_searchable.true (c.is_searchable.ensures.shown s shown enough))

pub returns-in_default-descend-clause-inserted : goal.returns-in_default-descend-clause-inserted
returns-in_default-descend-clause-inserted g c s p shown is enough free =
    let ends = c.descend.ensures.ends s (seen_represents (lent_table c.args.links.now) (in_range c.args.links.now) shown) in
    absurd (c.in_default-descend.not-Some ends.0 ends.1)

pub is_open-requires : goal.is_open-requires
is_open-requires g c =
    let t = lent_table c.args.links.now in
    let inside = closed t _ (end_in t (in_range c.args.links.now) _ (c.is_searchable.ensures.root c.if-not-is_searchable.false)) in
    let in_closed_set = rw c.in-Some-descend.is at (c.descend.ensures.in_closed_set (has_place t) inside) in
    in_closed_set.0

pub returns-then-not-is_open-clause-inserted : goal.returns-then-not-is_open-clause-inserted
returns-then-not-is_open-clause-inserted g c s p shown is enough free =
    let at = against (slice_index c.args.keys.now c.index.result) c.args.keys.now in
    let f = fits (lent_table c.args.links.now) (in_range c.args.links.now) {at = at} c.in-Some-descend.way shown refl
    (λ s h. ends_at h.tree at {equals = Right} (c.descend.ensures.ends s h) c.in-Some-descend.is refl) in
    absurd (never c.if-not-is_open.true (c.is_open.ensures f.gap f.shown f.insert_pos))

pub put-requires : goal.put-requires
put-requires g c =
    let t = lent_table c.args.links.now in
    let root = end_in t (in_range c.args.links.now) _ (c.is_searchable.ensures.root c.if-not-is_searchable.false) in
    let in_closed_set = rw c.in-Some-descend.is at (c.descend.ensures.in_closed_set (has_place t) (closed t _ root)) in
    (read_in (has_place t) in_closed_set.0 c.get.ensures, (root, tt))

pub returns-clause-inserted : goal.returns-clause-inserted
returns-clause-inserted g c s p shown is enough free =
    let keys = c.args.keys.now in
    let one : p ≡ c.in-Some.own = some_same (sym is ∙ c.in-Some.is) in
    let key : slice_index keys c.index.result ≡ key_of keys p = ap (λ i. slice_index keys i) (c.index.ensures.value ∙ sym (ap index_of one)) in
    let at = against (slice_index c.args.keys.now c.index.result) c.args.keys.now in
    let f = fits (lent_table c.args.links.now) (in_range c.args.links.now) {at = at} c.in-Some-descend.way shown c.get.ensures
    (λ s h. ends_at h.tree at {equals = Right} (c.descend.ensures.ends s h) c.in-Some-descend.is refl) in
    let put = c.put.ensures.inserted f.gap p f.shown f.insert_pos (sym c.in-Some.is ∙ is) free in
    rw (← key) (put.0, record { gap = f.gap; same = f.same; border = f.border; inserted = put.1 })

pub returns-clause-free : goal.returns-clause-free
returns-clause-free g c made =
    let free = c.put.ensures.free made in (free.0, c.in-Some.is ∙ free.1, free.2)

pub returns-clause-in_closed_set : goal.returns-clause-in_closed_set
returns-clause-in_closed_set g c made =
    rw c.in-Some.is (led_within (λ S h. let in_closed_set = rw c.in-Some-descend.is at (c.descend.ensures.in_closed_set S h) in read_in S in_closed_set.0 c.get.ensures)
    (c.put.ensures.in_closed_set made))

pub returns-clause-reported : goal.returns-clause-reported
returns-clause-reported g c p is made = c.put.ensures.reported p (sym c.in-Some.is ∙ is) made
