use Rattle.std.proofs.Common.{◌≡◌, Option, Some, None, List, [], ◌∷◌, drop, refl, sym, ap, ◌∙◌}
use Rattle.ic_link_ops.specs.Prelude.{Place, first, last, IsDistinct, Table, walked}
use Rattle.ic_link_ops.proofs.Clearing.{Releases, releases_none, releases_more, releases_all, releases_left, releases_fewer, next_between}
use Rattle.ic_link_ops.proofs.Prelude.{last_of_push, releases_append}
use Rattle.ic_chain.proofs.list.LinkList.clear.Goals as goal
use Rattle.ic_chain.proofs.list.LinkList.clear.Given.{Over}

-- while `clear` unlinks the members of s, p is the first of the members that are left, and the entry of p names the second of them, if any
after : (g : Over) {old new : Table g.row.L-Entry.Denot} {s : List Place} {p : Place} {prev next : Option Place}
    → (k : Releases g.K.ForwardLinks.Between old new s (Some p)) → prev ≡ last k.done → next ≡ g.K.ForwardLinks.step (new.entry p) prev
    → next ≡ first (drop 1 k.rest)
after g k prev next = next ∙ rw prev (g.met.K.ForwardLinks.leads _ _ _ (next_between k))

-- the members that `clear` has left to unlink are the places to which the entries lead, from `current` on
left : (g : Over) (t : g.row.L.Denot) {old : Table g.row.L-Entry.Denot} {s : List Place} {current prev : Option Place} → IsDistinct s
    → (k : Releases g.K.ForwardLinks.Between old (g.L.LinkOps.table t) s current) → prev ≡ last k.done
    → walked g.K.ForwardLinks.step (g.L.LinkOps.table t) prev current None ≡ k.rest
left g t d k prev =
    rw prev (releases_left _ g.met.K.ForwardLinks.leads (λ q b a h. g.met.L.LinkOps.linked_is_covered t q (g.met.K.ForwardLinks.between_linked _ b a h)) d k)

pub loop-current-init : goal.loop-current-init
unfolding releases_none
loop-current-init g c = record {
  extent = refl;
  released = λ s shown. (releases_none shown.chain (c.first-current.ensures ∙ shown.head), refl, g.met.L.LinkOps.does_nothing _);
}

pub next-current-requires : goal.next-current-requires
next-current-requires g c =
    let was = rw c.in-Some.is at (c.loop-current.invariant.released c.requires.shown.0 c.requires.shown.1) in
    record { linked = g.met.K.ForwardLinks.between_linked _ _ _ (next_between was.0) }

pub loop-current-smaller : goal.loop-current-smaller
loop-current-smaller g c =
    let shown = c.requires.shown.1 in
    let was = rw c.in-Some.is at (c.loop-current.invariant.released c.requires.shown.0 shown) in
    let next = after g was.0 was.1 c.next-current.ensures in
    let more = releases_more {new' = g.L.LinkOps.table c.release_link.new.self} shown.distinct was.0 c.release_link.ensures.frame.others next in
    rw c.in-Some.is
    (releases_fewer (left g c.loop-current.links shown.distinct was.0 was.1) (left g c.release_link.new.self shown.distinct more.0 (sym (ap last more.2 ∙ last_of_push was.0.done c.in-Some.place))) more.1)

pub loop-current-preserved : goal.loop-current-preserved
loop-current-preserved g c = record {
  extent = c.release_link.ensures.frame.extent ∙ c.loop-current.invariant.extent;
  released = λ s shown.
      let was = rw c.in-Some.is at (c.loop-current.invariant.released s shown) in
      let next = after g was.0 was.1 c.next-current.ensures in
      let more = releases_more shown.distinct was.0 c.release_link.ensures.frame.others next in
      let steps = g.met.L.LinkOps.does_on _ _ _ _ _ was.2 c.release_link.ensures.released in
      (more.0, sym (ap last more.2 ∙ last_of_push was.0.done c.in-Some.place), rw (more.2, releases_append was.0.done (c.in-Some.place ∷ [])) steps);
}

pub returns-clause-released : goal.returns-clause-released
returns-clause-released g c s shown =
    let k = c.loop-current.invariant.released s shown in rw (releases_all k.0 c.in_default.is) at k.2

pub returns-clause-frame : goal.returns-clause-frame
returns-clause-frame g c s shown =
    let k = c.loop-current.invariant.released s shown in record { extent = c.loop-current.invariant.extent; others = k.0.others }
