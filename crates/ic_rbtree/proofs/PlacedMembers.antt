-- Each member of a tree has an object: in a table that stores values beside its links, and also after an insert.
use Rattle.std.proofs.Common.{◌≡◌, Bool, true, Option, Result, Ok, Err, OnOk, OnErr, IfErr, sym, ap, ◌∙◌, subst, IsSome, List, Ordering}
use Rattle.ic_link_ops.specs.Prelude.{Place, Objects, object_at, is_placed, insert, Table, IsCovered, IsLinked, ArePlaced, RepresentsPlaced}
use Rattle.ic_link_ops.specs.declared.errors.AlreadyLinked.{AlreadyLinked}
use Rattle.ic_link_ops.specs.RedBlackTree.{Node, Represents}
use Rattle.ic_link_ops.proofs.Prelude.{all_with, all_members, holds_linked}
use Rattle.ic_rbtree.specs.Prelude.{Kept, RepresentsFor, InsertsInOrder}
use Rattle.ic_rbtree.proofs.KeptHeads as kept

-- A TABLE THAT STORES VALUES has a value at each member. `law` states that each linked place is covered, and `has_value` that each covered place has a value
module _ {L E T : Type 0} (node : E → Node) {linked : E → Bool} (table : L → Table E) (values : L → Objects T) (alike : (e : E) → (node e).linked ≡ linked e)
    (law : (t : L) (p : Place) → IsLinked linked (table t) p → IsCovered (table t) p) (has_value : (t : L) (p : Place) → IsCovered (table t) p → is_placed (values t) p ≡ true) where
  have_values : (t : L) {root : Option Place} (s : List Place) → Represents node (table t) root s → ArePlaced (values t) s
  have_values t s h = all_members s (λ p member. has_value t p (law t p (sym (alike _) ∙ holds_linked h.held member)))

  pub members_placed : (t : L) {root : Option Place} → (s : List Place) × Represents node (table t) root s → RepresentsPlaced (Represents node (table t) root) (values t)
  members_placed t r = record { members = r.0; shown = r.1; placed = have_values t r.0 r.1 }

  pub kept_placed : (t : L) (k : Kept) → (s : List Place) × RepresentsFor node (table t) k s → RepresentsPlaced (RepresentsFor node (table t) k) (values t)
  kept_placed t k r = record { members = r.0; shown = r.1; placed = have_values t r.0 (kept.shown k r.1) }

-- each member has an object after a call that makes an insert in order or refuses it. `keeps` is the law that a refusal changes no entry
module _ {L E H C : Type 0} (head : C → H) (Represents : Table E → H → List Place → Type 0) (table : L → Table E) (at : Place → Ordering) {old new : L} {a b : C} (p : Place) {T : Type 0} (objects : Objects T)
    (Refused : L → L → Place → Type 0) (keeps : (x y : L) (q : Place) → Refused x y q → table y ≡ table x) where
  pub inserted_placed : (Q : AlreadyLinked T → Type 0) (r : Result Unit (AlreadyLinked T)) → is_placed objects p ≡ true → (was : RepresentsPlaced (Represents (table old) (head a)) objects)
      → OnOk r (InsertsInOrder Represents at (table old) (table new) (head b) was.members p) → OnErr r (Refused old new p) → IfErr r (λ refused. Q refused × (b ≡ a))
      → RepresentsPlaced (Represents (table new) (head b)) objects × ((table new).extent ≡ (table old).extent)
  inserted_placed Q (Ok u) here was x f same = (
    record {
      members = insert x.gap p;
      shown = x.inserted.shows;
      placed = all_with (λ q. IsSome (object_at objects q)) x.gap.front p x.gap.back here (subst (ArePlaced objects) (sym x.same) was.placed);
    },
    x.inserted.frame.extent,
  )
  inserted_placed Q (Err u) here was x f same = (
    record {
      members = was.members;
      shown = subst (λ t. Represents t (head b) was.members) (sym (keeps old new p f)) (subst (λ z. Represents (table old) (head z) was.members) (sym same.1) was.shown);
      placed = was.placed;
    },
    ap (λ (t : Table E). t.extent) (keeps old new p f),
  )
