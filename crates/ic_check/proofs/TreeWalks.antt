-- Lemmas on a walk along a tree that the table represents. The walk marks each member.
use Rattle.std.proofs.Common.{◌≡◌, ℕ, Bool, Option, Some, None, List, [], ◌∷◌, ◌++◌, sym, subst, ◌∙◌, append_assoc}
use Rattle.ic_link_ops.specs.Prelude.{Place, Cut, join, first, IsAbsent, Table}
use Rattle.ic_link_ops.specs.declared.side.Side.TheVariants.{Left, Right}
use Rattle.ic_link_ops.specs.RedBlackTree.{Node, Represents}
use Rattle.ic_link_ops.proofs.SequenceLemmas.{absent_left, last_of_push}
use Rattle.ic_link_ops.proofs.RepresentedTrees.{free_absent}
use Rattle.ic_rbtree.specs.Prelude.{IsNode, IsSafe, IsBeside}
use Rattle.ic_rbtree.proofs.Removing.{represented_of}
use Rattle.ic_rbtree.proofs.RepresentedClosed.{among, among_there, represented_closed}
use Rattle.ic_check.specs.WholeTables.{MarksLinked}
use Rattle.ic_check.proofs.Marking.{Marks, here, only_also}

module _ {E : Type 0} (n : E → Node) {t : Table E} {root : Option Place} where
  -- a walk along a represented tree may begin before the first member, at the position none
  pub safe_null : {s : List Place} → Represents n t root s → IsSafe n t root (None ∷ [])
  safe_null {s} h = (λ q. among q s, represented_closed n (represented_of n h), (tt, tt))

  -- each place that the walk has marked is linked
  pub member_marks : {s : List Place} {old marks : List Bool} {current : Option Place} {left : ℕ} (m : Marks s old marks current left) → Represents n t root s
      → {linked : E → Bool} → ((e : E) → (n e).linked ≡ linked e) → MarksLinked linked t old marks
  member_marks m h {linked} alike = only_also linked t m.also
      (λ p off. absent_left p m.front m.rest (subst (IsAbsent p) m.is (free_absent h (alike (t.entry p) ∙ off))))

  module _ {s : List Place} {old marks : List Bool} {current : Option Place} {left : ℕ} (m : Marks s old marks current left) {p : Place} (e : current ≡ Some p) (h : Represents n t root s) where
    there : Represents n t root (m.front ++ p ∷ (here m e).after)
    there = subst (Represents n t root) (here m e).is h

    pub member_linked : IsNode n t p
    member_linked = (represented_closed n (represented_of n there)).linked p (among_there p m.front (here m e).after)

    pub member_safe : IsSafe n t root (Some p ∷ [])
    member_safe = (λ q. among q (m.front ++ p ∷ (here m e).after), represented_closed n (represented_of n there), (among_there p m.front (here m e).after, tt))

    -- a step from the member p goes to the member after p, or to none after the last member
    pub member_next : {next : Option Place} → ((gap : Cut) → Represents n t root (join gap) → IsBeside Right gap (Some p) → IsBeside Left gap next) → next ≡ first (here m e).after
    member_next {next} leads =
        let gap : Cut = record { front = m.front ++ p ∷ []; back = (here m e).after } in
        leads gap (subst (Represents n t root) (sym (append_assoc m.front (p ∷ []) (here m e).after)) there) (sym (last_of_push m.front p))
