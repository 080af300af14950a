-- A place that has just been linked is inserted at the gap where a descent ends.
use Rattle.std.proofs.Common.{◌≡◌, Option, Some, None, Result, Bool, true, false, List, [], ◌∷◌, ◌++◌, refl, sym, ap, ◌∙◌, subst, Ordering}
use Rattle.std.specs.Bool.{OnTrue, OnFalse}
use Rattle.ic_link_ops.specs.Prelude.{Place, Objects, object_at, Cut, join, insert, IsAbsent, IsMember, IsDistinct, Table, IsLinked, IsUnlinked, ChangesOnly, CursorState, RepresentsAt, LinkStep, acquires}
use Rattle.ic_link_ops.specs.declared.side.Side.{Side}
use Rattle.ic_link_ops.specs.declared.side.Side.TheVariants.{Right}
use Rattle.ic_link_ops.specs.declared.errors.AlreadyLinked.{AlreadyLinked}
use Rattle.ic_link_ops.specs.Positions as Standing
use Rattle.ic_link_ops.specs.RedBlackTree.{Node, Represents}
use Rattle.ic_link_ops.proofs.Calling.{has_member}
use Rattle.ic_link_ops.proofs.Positions.{stands_null, stands_on, stands_still, member_there}
use Rattle.ic_link_ops.proofs.SequenceLemmas.{absent_without, split_member}
use Rattle.ic_link_ops.proofs.RepresentedTrees.{represents_beside, free_absent}
use Rattle.ic_cursors.specs.Answers.{inserted}
use Rattle.ic_rbtree.specs.declared.keys.descent.Descent.{Descent}
use Rattle.ic_rbtree.specs.Prelude.{less_at, IsSafeBut, answer_at, compared, order_of, own_order, gap_in, EndsAt, IsInsertPos, Attaches, loose, Represented}
use Rattle.ic_rbtree.specs.InsertPositions.{IsInOrder}
use Rattle.ic_rbtree.specs.Kept.{Kept, root_kept, RepresentsFor, RepresentsKept, TellsEnds, IsBelow}
use Rattle.ic_rbtree.specs.Ordered.{InsertsInOrder, InsertsAmong}
use Rattle.ic_rbtree.proofs.Attaching.{acquired_represented, inserts}
use Rattle.ic_rbtree.proofs.Gaps.{gap_join, gap_border}
use Rattle.ic_rbtree.proofs.KeptHeads.{shown, printed, shows, inserts_kept, insert_pos_below}
use Rattle.ic_rbtree.proofs.RepresentedClosed.{with_place, represented_closed_but, with_itself, insert_pos_in}

-- A DESCENT ENDS at the insert position where the searched key belongs
pub ended_in_order : {E : Type 0} (n : E → Node) {v : Table E} {root : Option Place} {s : List Place} {at : Place → Ordering} {d : Descent} {parent : Option Place}
    (h : Represents n v root s) → EndsAt n v at Right h.tree d → parent ≡ d.parent → IsInOrder n v at s parent d.side
ended_in_order n {v} {at = at} {d} h x same =
    let gap : Cut = gap_in (less_at at) h.tree in
    record {
      gap = gap;
      same = gap_join (less_at at) h.tree ∙ h.held.order;
      border = gap_border (less_at at) h.tree;
      insert_pos = subst (λ o. IsInsertPos n v o d.side gap) (sym same) x.insert_pos;
    }

module _ {E : Type 0} (n : E → Node) (linked : E → Bool) (alike : (e : E) → (n e).linked ≡ linked e) {old v : Table E} {p : Place}
    (was : IsUnlinked linked old p) (is : IsLinked linked v p) (only : ChangesOnly old v p) where
  -- after another place has been linked, the table still represents the tree
  pub still_represented : {root : Option Place} {s : List Place} → Represents n old root s → Represents n v root s
  still_represented h = represents_beside h (free_absent h (alike (old.entry p) ∙ was)) only.others

  pub still_kept : (k : Kept) (s : List Place) → RepresentsFor n old k s → RepresentsFor n v k s
  still_kept k s h = shows k (still_represented (shown k h)) (printed n old k s h)

  -- the place p, which has just been linked, can be inserted at the gap where the searched key belongs: p is a piece of its own beside the tree
  pub fits : {root : Option Place} {at : Place → Ordering} {parent : Option Place} {d : Side} {s : List Place} → Represents n old root s → (x : IsInOrder n v at s parent d)
      → Represented n v v root (join x.gap) (loose p ∷ [])
  fits {root} h x = acquired_represented n linked alike old v root (join x.gap) p (subst (Represents n old root) (sym x.same) h) was is only

  -- the place p and the parent at the insert position are in a set that is closed except at p, so the insert of p is safe
  pub fits_safe : {root : Option Place} {at : Place → Ordering} {parent : Option Place} {d : Side} {s : List Place} → Represents n old root s → IsInOrder n v at s parent d
      → IsSafeBut n v root p (Some p ∷ parent ∷ [])
  fits_safe h x = let f = fits h x in (with_place p (join x.gap), represented_closed_but n f, (with_itself n f, (insert_pos_in n v p _ _ x.gap x.insert_pos, tt)))

  pub fitted : {H : Type 0} (kept : H → Kept) (head new : H) {at : Place → Ordering} {parent : Option Place} {d : Side} {s : List Place} {w : Table E} → RepresentsFor n old (kept head) s → IsInOrder n v at s parent d
      → Attaches n v w (root_kept (kept head)) (root_kept (kept new)) parent d p
      → ((gap : Cut) → IsBelow parent d gap → IsDistinct (join gap) → TellsEnds (kept head) (join gap) → TellsEnds (kept new) (insert gap p))
      → InsertsInOrder (RepresentsKept kept n) at old w new s p
  fitted kept head new {parent = parent} {d} {s} {w} h x attached ends =
      let was_represented = shown (kept head) h in
      record {
        gap = x.gap;
        same = x.same;
        border = x.border;
        inserted = inserts_kept kept new (inserts n old v w (root_kept (kept head)) (root_kept (kept new)) p x.gap only (attached v x.gap [] (fits was_represented x) x.insert_pos))
            (ends x.gap (insert_pos_below n v parent d x.gap x.insert_pos) (subst IsDistinct (sym x.same) was_represented.held.distinct) (subst (TellsEnds (kept head)) (sym x.same) (printed n old (kept head) s h)));
      }

-- a search by the object's own key compares as `own_order` states
pub own_is : {A V K : Type 0} (cmp : K → K → Ordering) (key_of : A → V → K) (objects : Objects V) {a b : A} {key : K} {value : V} {object place : Place} → b ≡ a → key ≡ key_of a value → place ≡ object → object_at objects place ≡ Some value
    → order_of cmp (key_of b) key ≡ own_order cmp (key_of a) objects object
own_is cmp key_of objects {a} {b} {key} {value} {object} {place} adapter key_is there placed =
    ap (λ z. order_of cmp (key_of z) key) adapter
    ∙ ap (order_of cmp (key_of a)) key_is
    ∙ ap (λ o. λ other. answer_at (λ own. cmp (key_of a own) (key_of a other)) o) (sym placed ∙ ap (object_at objects) there)

-- A POSITION IS STILL VALID for a cursor after an insert in order
module _ {L E H : Type 0} {Represents : Table E → H → List Place → Type 0} {table : L → Table E} {at : Place → Ordering} {old new : CursorState L H} {p : Place} where
  pub in_order_stands : Standing.IsValidCursor Represents table old → new.position ≡ old.position
      → ((s : List Place) → RepresentsAt Represents table old s → InsertsInOrder Represents at (table old.links) (table new.links) new.head s p) → Standing.IsValidCursor Represents table new
  in_order_stands stands same inserted = by old.position refl where
    by : (o : Option Place) → old.position ≡ o → Standing.IsValidCursor Represents table new
    by None e = let x = inserted (join stands.gap) stands.shown in stands_null (insert x.gap p) x.inserted.shows (same ∙ e)
    by (Some q) e =
        let m = member_there stands e in
        let x = inserted (m.front ++ q ∷ m.back) m.shown in
        let member : IsMember q (insert x.gap p) =
        λ absent. split_member m.front q m.back (subst (IsAbsent q) x.same (absent_without x.gap.front x.gap.back p q absent)) in
        stands_on (has_member (RepresentsAt Represents table new) (insert x.gap p) x.inserted.shows member) (same ∙ e)

  -- if a call makes an insert in order or refuses it, its result is as `InsertsAmong` states. After a refusal the head is as it was, and X holds
  pub put_among : {Refused : L → L → Place → Type 0} → ((a b : L) (q : Place) → Refused a b q → table b ≡ table a) → Standing.IsValidCursor Represents table old → new.position ≡ old.position
      → {T : Type 0} (X : Type 0) {Trace : L → L → List LinkStep → Type 0} (b : Bool) → OnTrue b (Trace old.links new.links (acquires p ∷ [])) → OnFalse b (Refused old.links new.links p)
      → OnFalse b ((new.head ≡ old.head) × X)
      → ((s : List Place) → RepresentsAt Represents table old s → OnTrue b (InsertsInOrder Represents at (table old.links) (table new.links) new.head s p))
      → InsertsAmong Represents table Trace Refused at old p (inserted {T = T} p b) new
  put_among keeps stands position X true acquired refused unchanged puts =
      record { inserted = puts; acquired = acquired; refused = tt; unchanged = tt; position = position; stands = in_order_stands stands position puts }
  put_among keeps stands position X false acquired refused unchanged puts =
      record { inserted = λ _ _. tt; acquired = tt; refused = refused; unchanged = (refl, unchanged.0); position = position; stands = stands_still stands (keeps _ _ p refused) unchanged.0 position }

-- if two orders of the searched key are equal, an insert in order by the first is an insert in order by the second
pub among_by : {L E H : Type 0} {Represents : Table E → H → List Place → Type 0} {table : L → Table E} {Trace : L → L → List LinkStep → Type 0} {Refused : L → L → Place → Type 0} {T V : Type 0}
    {old new : CursorState L H} {p : Place} {r : Result Unit (AlreadyLinked T)} {order other : V → Ordering} (objects : Objects V) → order ≡ other
    → InsertsAmong Represents table Trace Refused (compared order objects) old p r new → InsertsAmong Represents table Trace Refused (compared other objects) old p r new
among_by {Represents = Represents} {table} {Trace} {Refused} {old = old} {new} {p} {r} objects same x = subst (λ o. InsertsAmong Represents table Trace Refused (compared o objects) old p r new) same x
