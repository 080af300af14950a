use Rattle.std.proofs.Common.{Some, ◌∷◌, sym, ap, ◌∙◌, subst}
use Rattle.ic_link_ops.proofs.Positions.{stands_by_gap}
use Rattle.ic_rbtree.specs.Insertion.{IsInsertPos}
use Rattle.ic_rbtree.specs.Tree.{adapter_of}
use Rattle.ic_rbtree.proofs.keys.entry.InsertCursor.insert.Goals as goal

pub returns : goal.returns
returns g c =
    let e = c.if-not-insert.ensures in
    let r = c.requires.vacant in
    let n = g.L.RBTreeOps.node in
    let b = c.new.ensures.borrows in
    let on = c.new.ensures.position ∙ c.of-current.ensures ∙ ap (λ p. Some p) c.place-2.ensures in
    record {
      inserted = λ gap shown at'. rw (b.2, b.3) (rw c.place.ensures at e.inserted gap shown (subst (λ o. IsInsertPos n (g.L.LinkOps.table c.args.self.links.now) o c.args.self.side gap) (sym c.get.ensures) at'));
      acquired = rw b.3 (rw c.place.ensures at e.acquired);
      position = on;
      stands = rw (b.2, b.3) (
          stands_by_gap (record { front = r.0.front; back = c.args.object ∷ r.0.back })
          (rw c.place.ensures at (e.inserted r.0 r.1 (subst (λ o. IsInsertPos n (g.L.LinkOps.table c.args.self.links.now) o c.args.self.side r.0) (sym c.get.ensures) r.2)).shows) on);
      borrows = (b.0, b.1, ap adapter_of b.2);
      refused = tt;
      unchanged = tt;
    }
