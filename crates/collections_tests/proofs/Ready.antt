-- An edit leaves a tree ready for the next edit: each fresh summary is right, and each place still has room for a summary.
use Rattle.std.proofs.Common.{◌≡◌, ◌≤◌, ◌<◌, ◌+◌, ◌⊎◌, ℕ, zero, suc, Bool, true, false, Option, Some, None, Result, Ok, Err, OnOk, IfOk, OnSome, IfSome, IfNone, drop, slice_get, List, [], ◌∷◌, ◌++◌, refl, sym, ap, ◌∙◌, subst, arith, inl, inr, Ordering}
use Rattle.std.specs.Result.{is_ok}
use Rattle.ic_link_ops.specs.Prelude.{Place, index_of, Objects, is_placed, Cut, join, insert, remove, at_front, but_last, Table, Extent, IsCovered, IsLinked, HasMember, RepresentsPlaced, LinkStep, acquires, releases, Inserts, one_at, times_in}
use Rattle.ic_link_ops.proofs.Prelude.{same_or_not, all_members, none_not, some_same, holds_linked, one_sequence, represents_nothing, one_at_other, times_append}
use Rattle.ic_link_ops.specs.RedBlackTree.{Node, Represents}
use Rattle.ic_rbtree.specs.Prelude.{IsNode, Kept, alone, ended, RepresentsFor, RepresentsKept, IsEmptied, InsertsInOrder, head_of}
use Rattle.ic_rbtree.specs.declared.tree.RBTree.{RBTree}
use Rattle.ic_rbtree.proofs.KeptHeads.{shown}
use Rattle.ic_augmented.specs.Prelude.{IsConsistent, IsJoined, Summaries}
use Rattle.ic_augmented.specs.AugmentedSteps.{IsAcquired, TraceAugmented}
use Rattle.ic_augmented.specs.declared.augmented.Augmented.{Augmented}
use Rattle.ic_augmented.proofs.StepLemmas.{kept_right}
use Rattle.collections_tests.specs.Ready.{IsReady}

-- `OnOk r P` says that `P` holds if the result `r` is `Ok`. So if `r` is `Ok`, then `P` holds
pub on_ok : {X Y P : Type 0} (r : Result X Y) → is_ok r ≡ true → OnOk r P → P
on_ok (Ok x) e holds = holds
on_ok (Err y) e holds = let never : false ≡ true = e in absurd (cc)

-- if the result `r` is `Ok` with the value `x`, and `F` holds of the value of `r`, then `F` holds of `x`
pub if_ok : {X Y : Type 0} (F : X → Type 0) {o : Option X} {x : X} (r : Result X Y) → is_ok r ≡ true → IfOk r (λ y. o ≡ Some y) → o ≡ Some x → IfOk r F → F x
if_ok F (Ok y) e same at holds = subst F (some_same (sym same ∙ at)) holds
if_ok F (Err y) e same at holds = let never : false ≡ true = e in absurd (cc)

-- `OnSome r P` says that `P` holds if the option `r` is `Some`. So if `r` is `Some`, then `P` holds
pub at_some : {X P : Type 0} {x : X} (r : Option X) → r ≡ Some x → OnSome r P → P
at_some (Some y) e holds = holds
at_some None e holds = absurd (none_not _ e)

pub if_some : {X : Type 0} (F : X → Type 0) {x : X} (r : Option X) → r ≡ Some x → IfSome r F → F x
if_some F (Some y) e holds = subst F (some_same e) holds
if_some F None e holds = absurd (none_not _ e)

-- the sequence `s` has the member `p`, with the sequence `front` before it and the sequence `back` after it
record Parted (s : List Place) (p : Place) : Type 0 where
  pub front : List Place
  pub back : List Place
  pub same : s ≡ front ++ p ∷ back

at_position : (s : List Place) (k : ℕ) {p : Place} → Some p ≡ slice_get s k → Parted s p
at_position [] k e = absurd (none_not _ (sym e))
at_position (x ∷ s) zero e = record { front = []; back = s; same = ap (λ (y : Place). y ∷ s) (some_same (sym e)) }
at_position (x ∷ s) (suc k) e = let r = at_position s k e in record { front = x ∷ r.front; back = r.back; same = ap (λ (t : List Place). x ∷ t) r.same }

-- the place at the position `k` of a represented sequence `s` is a member
pub stands_at : (shows : List Place → Type 0) (s : List Place) (k : ℕ) {p : Place} → shows s → Some p ≡ slice_get s k → HasMember shows p
stands_at shows s k shown e = let a = at_position s k e in record { front = a.front; back = a.back; shown = subst shows a.same shown }

-- if the first or the last place of a sequence is removed, then no place occurs more often than before
few_after : (s : List Place) (q : Place) → times_in q (drop 1 s) ≤ times_in q s
few_after [] q = omega arith
few_after (x ∷ s) q = omega arith

few_before : (s : List Place) (q : Place) → times_in q (but_last s) ≤ times_in q s
few_before [] q = omega arith
few_before (x ∷ []) q = omega arith
few_before (x ∷ y ∷ s) q = omega (arith, few_before (y ∷ s) q)

-- if `p` occurs in `t` at most once more than in `s`, and each other place at most as often as in `s`, then each place of `t` is in `s` or is acquired
pub one_more : (p : Place) (rest : List LinkStep) (s t : List Place) → ((q : Place) → times_in q t ≤ times_in q s + one_at q p) → (q : Place) → 1 ≤ times_in q t → IsAcquired q (acquires p ∷ rest) ⊎ (1 ≤ times_in q s)
one_more p rest s t few q m = elim (same_or_not q p) [
  | inl e ↦ inl (inl (sym e))
  | inr other ↦ inr (omega (arith, m, few q, one_at_other q p other))
]

module _ {E : Type 0} (n : E → Node) where
  -- the table represents the empty sequence for a tree with no members
  pub nothing_represented : (v : Table E) (k : Kept) → IsEmptied k → RepresentsFor n v k []
  nothing_represented v (alone root) e = subst (λ (o : Option Place). Represents n v o []) (sym e) (represents_nothing v)
  nothing_represented v (ended h) e = rw e (record { shown = represents_nothing v; front_is = refl; back_is = refl })

  -- if the fresh summaries of two sequences are right, then the fresh summaries of the joined sequence are right
  pub both_right : {S : Type 0} (v : Table E) (z : Summaries S) (s t : List Place) → IsConsistent n v z s → IsConsistent n v z t → IsConsistent n v z (s ++ t)
  both_right v z s t hs ht q m but x e = by (times_in q s) refl where
    by : (k : ℕ) → times_in q s ≡ k → IsJoined z q (n (v.entry q)).left (n (v.entry q)).right x
    by zero none = ht q (omega (arith, m, none, times_append q s t)) but x e
    by (suc k) some = hs q (omega (arith, some)) but x e

module _ {N M E S A H : Type 0} {Trace : N → N → List LinkStep → Type 0} {n : E → Node} {table : N → Table E} {summaries : M → Summaries S} {Covers : M → Place → Type 0} (kept : H → Kept)
    {old new : Augmented N M} {tree : RBTree A H} (ready : IsReady kept n table summaries Covers tree old) where
  -- if each place of `t` was in the represented sequence `s` or was acquired by the steps, then the fresh summaries of `t` are right after the steps
  pub parts_right : {steps : List LinkStep} → TraceAugmented Trace n table summaries Covers old new steps → (s t : List Place) → RepresentsKept kept n (table old.links) (head_of tree) s
      → ((q : Place) → 1 ≤ times_in q t → IsAcquired q steps ⊎ (1 ≤ times_in q s)) → IsConsistent n (table new.links) (summaries new.summaries) t
  parts_right d s t was among =
      kept_right d s t among (subst (IsConsistent n (table old.links) (summaries old.summaries)) (one_sequence (shown (kept (head_of tree)) ready.shown) (shown (kept (head_of tree)) was)) ready.right)

module _ {N M E S A H : Type 0} {Trace : N → N → List LinkStep → Type 0} {n : E → Node} {table : N → Table E} {summaries : M → Summaries S} {Covers : M → Place → Type 0} (kept : H → Kept)
    {old new : Augmented N M} {tree after : RBTree A H} (ready : IsReady kept n table summaries Covers tree old) where
  -- AFTER STEPS the tree is ready if each of its members was a member before or was acquired by the steps
  pub ready_after : {steps : List LinkStep} → TraceAugmented Trace n table summaries Covers old new steps → (table new.links).extent ≡ (table old.links).extent
      → (s t : List Place) → RepresentsKept kept n (table old.links) (head_of tree) s → RepresentsKept kept n (table new.links) (head_of after) t
      → ((q : Place) → 1 ≤ times_in q t → IsAcquired q steps ⊎ (1 ≤ times_in q s)) → IsReady kept n table summaries Covers after new
  ready_after d extent s t was is among = record {
    covers = ap (λ (e : Extent). e.places) extent ∙ ready.covers;
    members = t;
    shown = is;
    right = parts_right kept ready d s t was among;
    room = λ q covered. d.covers q (ready.room q (subst (λ (e : Extent). index_of q < e.places) extent covered));
  }

  -- after steps the tree is ready if no place occurs among its members more often than before
  pub less_ready : {steps : List LinkStep} → TraceAugmented Trace n table summaries Covers old new steps → (table new.links).extent ≡ (table old.links).extent
      → (s t : List Place) → RepresentsKept kept n (table old.links) (head_of tree) s → RepresentsKept kept n (table new.links) (head_of after) t
      → ((q : Place) → times_in q t ≤ times_in q s) → IsReady kept n table summaries Covers after new
  less_ready d extent s t was is few = ready_after d extent s t was is (λ q m. inr (omega (arith, m, few q)))

  -- after steps that acquire `p`, the tree is ready if no place except `p` occurs among its members more often than before, and `p` at most once more
  pub more_ready : {p : Place} {rest : List LinkStep} → TraceAugmented Trace n table summaries Covers old new (acquires p ∷ rest) → (table new.links).extent ≡ (table old.links).extent
      → (s t : List Place) → RepresentsKept kept n (table old.links) (head_of tree) s → RepresentsKept kept n (table new.links) (head_of after) t
      → ((q : Place) → times_in q t ≤ times_in q s + one_at q p) → IsReady kept n table summaries Covers after new
  more_ready {p} {rest} d extent s t was is few = ready_after d extent s t was is (one_more p rest s t few)

  -- AFTER AN INSERT at a gap the tree is ready
  pub inserted_ready : {p : Place} → TraceAugmented Trace n table summaries Covers old new (acquires p ∷ []) → (gap : Cut) → RepresentsKept kept n (table old.links) (head_of tree) (join gap)
      → Inserts (RepresentsKept kept n) (table old.links) (table new.links) (head_of after) gap p → IsReady kept n table summaries Covers after new
  inserted_ready {p} d gap was i =
      more_ready d i.frame.extent (join gap) (insert gap p) was i.shows (λ q. omega (arith, times_append q gap.front gap.back, times_append q gap.front (p ∷ gap.back)))

  pub in_order_ready : {p : Place} {at : Place → Ordering} → TraceAugmented Trace n table summaries Covers old new (acquires p ∷ [])
      → InsertsInOrder (RepresentsKept kept n) at (table old.links) (table new.links) (head_of after) ready.members p → IsReady kept n table summaries Covers after new
  in_order_ready d i = inserted_ready d i.gap (subst (RepresentsKept kept n (table old.links) (head_of tree)) (sym i.same) ready.shown) i.inserted

  -- AFTER A REPLACEMENT of one member by another the tree is ready
  pub replaced_ready : {p out : Place} → TraceAugmented Trace n table summaries Covers old new (acquires p ∷ releases out ∷ []) → (table new.links).extent ≡ (table old.links).extent
      → (front back : List Place) → RepresentsKept kept n (table old.links) (head_of tree) (front ++ out ∷ back) → RepresentsKept kept n (table new.links) (head_of after) (front ++ p ∷ back)
      → IsReady kept n table summaries Covers after new
  replaced_ready {p} {out} d extent front back was is =
      more_ready d extent (front ++ out ∷ back) (front ++ p ∷ back) was is (λ q. omega (arith, times_append q front (out ∷ back), times_append q front (p ∷ back)))

  -- AFTER A REMOVAL of one member the tree is ready
  pub removed_ready : {p : Place} → TraceAugmented Trace n table summaries Covers old new (releases p ∷ []) → (table new.links).extent ≡ (table old.links).extent
      → (front back : List Place) → RepresentsKept kept n (table old.links) (head_of tree) (front ++ p ∷ back) → RepresentsKept kept n (table new.links) (head_of after) (front ++ back)
      → IsReady kept n table summaries Covers after new
  removed_ready {p} d extent front back was is =
      less_ready d extent (front ++ p ∷ back) (front ++ back) was is (λ q. omega (arith, times_append q front back, times_append q front (p ∷ back)))

  -- AFTER ALL MEMBERS ARE REMOVED the tree is ready
  pub none_ready : {steps : List LinkStep} → TraceAugmented Trace n table summaries Covers old new steps → (table new.links).extent ≡ (table old.links).extent → IsEmptied (kept (head_of after))
      → IsReady kept n table summaries Covers after new
  none_ready d extent emptied = less_ready d extent ready.members [] ready.shown (nothing_represented n (table new.links) (kept (head_of after)) emptied) (λ q. omega arith)

module _ {N M E S A H : Type 0} (Trace : N → N → List LinkStep → Type 0) {n : E → Node} {table : N → Table E} {summaries : M → Summaries S} {Covers : M → Place → Type 0} (kept : H → Kept)
    {old new : Augmented N M} {tree after : RBTree A H} (ready : IsReady kept n table summaries Covers tree old) where
  -- AFTER A POP at the front or at the back the tree is ready, even if the pop finds no member
  pub first_popped : (r : Option Place) → IfSome r (λ p. TraceAugmented Trace n table summaries Covers old new (releases p ∷ [])) → IfNone r ((after ≡ tree) × (new ≡ old))
      → (table new.links).extent ≡ (table old.links).extent → RepresentsKept kept n (table new.links) (head_of after) (remove (at_front ready.members)) → IsReady kept n table summaries Covers after new
  first_popped (Some p) d same extent is = less_ready kept ready d extent ready.members (drop 1 ready.members) ready.shown is (few_after ready.members)
  first_popped None d same extent is = rw (same.0, same.1) ready

  pub last_popped : (r : Option Place) → IfSome r (λ p. TraceAugmented Trace n table summaries Covers old new (releases p ∷ [])) → IfNone r ((after ≡ tree) × (new ≡ old))
      → (table new.links).extent ≡ (table old.links).extent → RepresentsKept kept n (table new.links) (head_of after) (but_last ready.members) → IsReady kept n table summaries Covers after new
  last_popped (Some p) d same extent is = less_ready kept ready d extent ready.members (but_last ready.members) ready.shown is (few_before ready.members)
  last_popped None d same extent is = rw (same.0, same.1) ready

-- edits lead to `mid`, and then the steps lead from `mid` to `new`. The tree is ready after the steps if `mid` covers eight places, has room at each of
-- them, and has right fresh summaries of `s`. Each member of the tree must be in `s` or be acquired by the steps
module _ {N M E S A H : Type 0} {Trace : N → N → List LinkStep → Type 0} {n : E → Node} {table : N → Table E} {summaries : M → Summaries S} {Covers : M → Place → Type 0} (kept : H → Kept)
    {mid new : Augmented N M} {after : RBTree A H} where
  pub ready_then : {steps : List LinkStep} → TraceAugmented Trace n table summaries Covers mid new steps → (table mid.links).extent.places ≡ 8 → ((q : Place) → IsCovered (table mid.links) q → Covers mid.summaries q)
      → (table new.links).extent ≡ (table mid.links).extent → (s t : List Place) → IsConsistent n (table mid.links) (summaries mid.summaries) s → RepresentsKept kept n (table new.links) (head_of after) t
      → ((q : Place) → 1 ≤ times_in q t → IsAcquired q steps ⊎ (1 ≤ times_in q s)) → IsReady kept n table summaries Covers after new
  ready_then d places room extent s t right is among = record {
    covers = ap (λ (e : Extent). e.places) extent ∙ places;
    members = t;
    shown = is;
    right = kept_right d s t among right;
    room = λ q covered. d.covers q (room q (subst (λ (e : Extent). index_of q < e.places) extent covered));
  }

-- the table covers each linked place, so a tree that is ready has room for a summary at each linked place. If there is an object at each of the eight
-- places, then there is an object at each member of the tree
module _ {N M E S A H : Type 0} {n : E → Node} {table : N → Table E} {summaries : M → Summaries S} {Covers : M → Place → Type 0} (kept : H → Kept) (linked : E → Bool) (alike : (e : E) → (n e).linked ≡ linked e)
    (law : (t : N) (p : Place) → IsLinked linked (table t) p → IsCovered (table t) p) {summed : Augmented N M} {tree : RBTree A H} (ready : IsReady kept n table summaries Covers tree summed) where
  pub linked_covered : (p : Place) → IsNode n (table summed.links) p → IsCovered (table summed.links) p
  linked_covered p is = law summed.links p (sym (alike ((table summed.links).entry p)) ∙ is)

  pub linked_room : (p : Place) → IsNode n (table summed.links) p → Covers summed.summaries p
  linked_room p is = ready.room p (linked_covered p is)

  pub ready_placed : {T : Type 0} (objects : Objects T) → ((q : Place) → index_of q < 8 → is_placed objects q ≡ true) → RepresentsPlaced (RepresentsKept kept n (table summed.links) (head_of tree)) objects
  ready_placed objects each = record {
    members = ready.members;
    shown = ready.shown;
    placed = all_members ready.members (λ p member. each p (subst (λ (k : ℕ). index_of p < k) ready.covers (linked_covered p (holds_linked (shown (kept (head_of tree)) ready.shown).held member))));
  }
