-- A tree with no members is ready for reads and edits, and calls do not reduce the room for summaries.
use Rattle.std.proofs.Common.{◌≡◌, ◌<◌, Option, None, List, [], ◌∷◌, refl, subst, true, sym, ap, ◌∙◌, Bool, false, Result, Ok, Err, OnOk, OnErr, IfErr, arith, Ordering}
use Rattle.std.specs.Result.{is_ok}
use Rattle.ic_link_ops.specs.Prelude.{Place, index_of, insert, Table, Extent, IsCovered, IsLinked, LinkStep, acquires, leaf}
use Rattle.ic_link_ops.specs.RedBlackTree.{Node, Represents}
use Rattle.ic_rbtree.specs.Prelude.{IsNode, InsertsInOrder, root_of}
use Rattle.ic_rbtree.specs.declared.tree.RBTree.{RBTree}
use Rattle.ic_augmented.specs.Prelude.{RepresentsConsistent, RepresentsAugmented, links_of, summaries_of, Summaries}
use Rattle.ic_augmented.specs.AugmentedSteps.{TraceAugmented}
use Rattle.ic_augmented.specs.declared.augmented.Augmented.{Augmented}
use Rattle.ic_augmented.proofs.StepLemmas.{inserted_right}

-- a tree with no root represents the empty sequence, all of whose summaries are fresh
pub nothing_summed : {E S : Type 0} {n : E → Node} (z : Summaries S) (t : Table E) {root : Option Place} → root ≡ None → RepresentsAugmented n z t root []
nothing_summed {n = n} z t e = rw e (record {
  shows = record {
    tree = leaf;
    held = record { order = refl; distinct = tt; entries = tt };
    starts = refl;
    shape = record { black_root = refl; no_red_pair = tt; even = tt };
  };
  summed = tt;
})

-- a tree with no root represents the empty sequence, all of whose fresh summaries are right
pub nothing_consistent : {E S : Type 0} {n : E → Node} (z : Summaries S) (t : Table E) {root : Option Place} → root ≡ None → RepresentsConsistent n z t root []
nothing_consistent {n = n} z t e = ((nothing_summed {n = n} z t e).shows, λ q member but x fresh. absurd (omega (arith, member)))

-- `OnOk r P` says that `P` holds if the result `r` is `Ok`. So if `r` is `Ok`, then `P` holds
pub on_ok : {X Y P : Type 0} (r : Result X Y) → is_ok r ≡ true → OnOk r P → P
on_ok (Ok x) e holds = holds
on_ok (Err y) e holds = let never : false ≡ true = e in absurd (cc)

-- if `Q` follows from `P`, and `P` holds if the result `r` is `Ok`, then `Q` holds if `r` is `Ok`
pub on_ok_map : {X Y P Q : Type 0} → (P → Q) → (r : Result X Y) → OnOk r P → OnOk r Q
on_ok_map follows (Ok x) holds = follows holds
on_ok_map follows (Err y) holds = tt

pub if_err_map : {X Y : Type 0} {F G : Y → Type 0} → ((y : Y) → F y → G y) → (r : Result X Y) → IfErr r F → IfErr r G
if_err_map follows (Ok x) holds = tt
if_err_map follows (Err y) holds = follows y holds

-- `Goal` holds for each result of an insert if it holds for an accepted insert and for a refused insert
pub either_answer : {X Y P Q Goal : Type 0} (F : Y → Type 0) (r : Result X Y) → OnOk r P → OnErr r Q → IfErr r F → (P → Goal) → (Q → (y : Y) → F y → Goal) → Goal
either_answer F (Ok x) holds refused unchanged accepts refuses = accepts holds
either_answer F (Err y) holds refused unchanged accepts refuses = refuses refused y unchanged

-- AFTER AN INSERT, whatever its result is, each fresh summary is right, and the table covers as many places as before. Each place that had room for a
-- summary still has it
module _ {N M E S A : Type 0} (Trace : N → N → List LinkStep → Type 0) (n : E → Node) (table : N → Table E) (summaries : M → Summaries S) (Covers : M → Place → Type 0) (Refused : N → N → Place → Type 0)
    (keeps : (a b : N) (p : Place) → Refused a b p → table b ≡ table a) (old new : Augmented N M) (tree after : RBTree A (Option Place)) (p : Place) where
  pub record AfterInsert : Type 0 where
    pub members : List Place
    pub right : RepresentsConsistent n (summaries (summaries_of new)) (table (links_of new)) (root_of after) members
    pub covers : (q : Place) → Covers (summaries_of old) q → Covers (summaries_of new) q
    pub extent : (table (links_of new)).extent ≡ (table (links_of old)).extent

  pub after_insert : {X Y : Type 0} (F : Y → Type 0) (at : Place → Ordering) (r : Result X Y) (s : List Place) → RepresentsConsistent n (summaries (summaries_of old)) (table (links_of old)) (root_of tree) s
      → OnOk r (InsertsInOrder (Represents n) at (table (links_of old)) (table (links_of new)) (root_of after) s p) → OnOk r (TraceAugmented Trace n table summaries Covers old new (acquires p ∷ []))
      → OnErr r (Refused (links_of old) (links_of new) p × (summaries_of new ≡ summaries_of old)) → IfErr r (λ y. F y × (after ≡ tree)) → AfterInsert
  after_insert F at (Ok x) s h inserted does refused unchanged =
      let i = inserted_right does h.1 inserted in
      record { members = insert i.gap p; right = i.inserted.shows; covers = does.covers; extent = i.inserted.frame.extent }
  after_insert F at (Err y) s h inserted does refused unchanged =
      let same = keeps (links_of old) (links_of new) p refused.0 in
      record {
        members = s;
        right = rw (same, refused.1, unchanged.1) h;
        covers = λ q k. subst (λ (m : M). Covers m q) (sym refused.1) k;
        extent = ap (λ (t : Table E). t.extent) same;
      }

-- there is room at each place that the table `old` covers. If a call does not change the table's extent, then there is room at each covered place and at
-- each linked place after the call
module _ {L E : Type 0} (node : E → Node) (table : L → Table E) (linked : E → Bool) (alike : (e : E) → (node e).linked ≡ linked e)
    (law : (t : L) (q : Place) → IsLinked linked (table t) q → IsCovered (table t) q) (Room : Place → Type 0) (old : L) (room : (q : Place) → IsCovered (table old) q → Room q) where
  pub room_covered : (new : L) → (table new).extent ≡ (table old).extent → (q : Place) → IsCovered (table new) q → Room q
  room_covered new same q covered = room q (subst (λ (e : Extent). index_of q < e.places) same covered)

  pub room_linked : (new : L) → (table new).extent ≡ (table old).extent → (q : Place) → IsNode node (table new) q → Room q
  room_linked new same q is = room_covered new same q (law new q (sym (alike ((table new).entry q)) ∙ is))
