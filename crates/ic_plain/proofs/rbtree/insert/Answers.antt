use Rattle.std.proofs.Common.{◌≡◌, Bool, true, false, Result, Ok, Err, OnOk, OnErr, List, ◌∷◌, ◌∙◌, subst, sym}
use Rattle.ic_link_ops.specs.Prelude.{Place, ChangesOnlyIn}
use Rattle.ic_rbtree.specs.Tree.{adapter_of}
use Rattle.ic_link_ops.proofs.RepresentedTrees.{one_sequence}
use Rattle.ic_plain.specs.SortedTrees.{IsInOrder}
use Rattle.ic_plain.proofs.KeyOrder.{inserted, inserted_in_order}
use Rattle.ic_plain.proofs.rbtree.insert.Goals as goal

-- a call cannot refuse an object that is not linked, so the clause for an accepted call holds
accepted : {A X P Refused : Type 0} {was : Bool} (r : Result A X) → (Refused → was ≡ true) → was ≡ false → OnErr r Refused → OnOk r P → P
accepted (Ok a) law off refused holds = holds
accepted (Err x) law off refused holds = let never : false ≡ true = sym off ∙ law refused in absurd (cc)

pub insert-requires-clause-placed : goal.insert-requires-clause-placed
unfolding IsInOrder
insert-requires-clause-placed g c = c.requires.sorted.placed

pub returns-clause-shown : goal.returns-clause-shown
unfolding IsInOrder
returns-clause-shown g c s shown =
    let e = c.insert.ensures in
    inserted g.met.K.Key.Ord.total (g.K.KeyAdapter.key_of (adapter_of c.args.tree.now)) (λ s u. one_sequence)
    c.args.objects.now c.requires.sorted c.requires.object s shown (accepted c.insert.result (g.met.L.AcceptsUnlinked.refused_is_linked _ _ _) c.requires.unlinked e.refused (e.inserted s shown))

pub returns-clause-sorted : goal.returns-clause-sorted
unfolding IsInOrder
returns-clause-sorted g c =
    let e = c.insert.ensures in
    let o = c.requires.sorted in
    rw e.adapter (inserted_in_order g.met.K.Key.Ord.total (g.K.KeyAdapter.key_of (adapter_of c.args.tree.now)) (λ s u. one_sequence)
    c.args.objects.now o c.requires.object (accepted c.insert.result (g.met.L.AcceptsUnlinked.refused_is_linked _ _ _) c.requires.unlinked e.refused (e.inserted o.placed.members o.placed.shown)))

pub returns-clause-frame : goal.returns-clause-frame
returns-clause-frame g c s shown =
    let e = c.insert.ensures in
    let x = accepted c.insert.result (g.met.L.AcceptsUnlinked.refused_is_linked _ _ _) c.requires.unlinked e.refused (e.inserted s shown) in
    subst (λ (u : List Place). ChangesOnlyIn (g.L.LinkOps.table c.args.links.now) (g.L.LinkOps.table c.insert.new.links) (c.args.object ∷ u)) x.same x.inserted.frame

pub returns-clause-shows : goal.returns-clause-shows
unfolding IsInOrder
returns-clause-shows g c = let p = c.requires.sorted.placed in (_, returns-clause-shown g c p.members p.shown)
