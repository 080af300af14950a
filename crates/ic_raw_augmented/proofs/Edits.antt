-- Lemmas on the sums that stay right in an edit of a tree that records each place whose children it writes.
use Rattle.std.proofs.Common.{◌≡◌, ◌≢◌, ◌≤◌, ℕ, Bool, true, false, cond, length, Option, Some, None, List, refl, sym, ap, ◌∙◌, subst, le-ltb}
use Rattle.ic_link_ops.specs.Prelude.{Place, IsMember, Table, ChangesOnly, is_end}
use Rattle.ic_link_ops.proofs.Prelude.{some_same, is_end_not}
use Rattle.ic_raw.specs.declared.nodes.Seen.{Seen}
use Rattle.ic_raw.specs.declared.words.RawThree.{RawThree}
use Rattle.ic_raw.specs.Seen.{seen_node}
use Rattle.ic_raw.specs.Surgery.{HoldsOfViews, ReportsInsertion, ReportsRemoval}
use Rattle.ic_raw.specs.Tree.{lent_table, table_of}
use Rattle.ic_raw.proofs.Seen.{seen_changes}
use Rattle.ic_raw_augmented.specs.declared.sums.Kind.{Kind}
use Rattle.ic_raw_augmented.specs.declared.sums.RawSum.{RawSum}
use Rattle.ic_raw_augmented.specs.declared.written.Written.{Written}
use Rattle.ic_raw_augmented.specs.Sums.{IsSummedBut, combined, joined_at, sum_below, sums_fault, value_at}
use Rattle.ic_raw_augmented.specs.Written.{KeepsChildren, Notes, is_noted}
use Rattle.ic_raw_augmented.proofs.Viewed.{but_viewed}

-- if a place keeps its two children, the value of the place combined with the sums of its children stays the same
joined_same : (kind : Kind) (t u : Table RawThree) (sums : List RawSum) (q : Place) → KeepsChildren t u q → joined_at kind u sums q ≡ joined_at kind t sums q
joined_same kind t u sums q kept = λ i. combined kind (sum_below sums (kept.left i)) (combined kind (value_at sums q) (sum_below sums (kept.right i)))

-- if only the place p changes, every other place keeps its children
beside : (t u : Table RawThree) (p q : Place) → ChangesOnly t u p → q ≢ p → KeepsChildren t u q
beside t u p q only apart =
    let same = (seen_changes t u p only).others q apart in
    record { left = ap (λ (e : Seen). (seen_node e).left) same; right = ap (λ (e : Seen). (seen_node e).right) same }

module _ (kind : Kind) (sums : List RawSum) (s : List Place) (w w' : Written) where
  -- if the place p was inserted and recorded, and the sums were right before except at p, they are right afterwards except at recorded places
  after_insertion : (p : Place) → is_noted w p ≡ true → (old new : Table RawThree) → ReportsInsertion Notes w w' old new p → IsSummedBut kind old sums s (is_end (Some p))
      → IsSummedBut kind new sums s (is_noted w')
  after_insertion p here old new told right q m off =
      let notes = told.2 in
      let apart : q ≢ p = λ e. let k : true ≡ false = sym (notes.noted p here) ∙ (sym (ap (is_noted w') e) ∙ off) in cc in
      right q m (is_end_not (Some p) q (λ e. apart (sym (some_same e))))
      ∙ (sym (joined_same kind old told.0 sums q (beside old told.0 p q told.1 apart)) ∙ sym (joined_same kind told.0 new sums q (notes.children q off)))

  -- if the place p was removed and is no member of s, and all sums were right before, they are right afterwards except at recorded places
  after_removal : (p : Place) → (IsMember p s → ⊥) → (old new : Table RawThree) → ReportsRemoval Notes w w' old new p → IsSummedBut kind old sums s (is_end None)
      → IsSummedBut kind new sums s (is_noted w')
  after_removal p out old new told right q m off =
      let apart : q ≢ p = λ e. out (subst (λ (z : Place). IsMember z s) e m) in
      right q m refl
      ∙ (sym (joined_same kind old told.0 sums q (told.1.children q off)) ∙ sym (joined_same kind told.0 new sums q (beside told.0 new p q told.2 apart)))

  -- a statement about the sums that holds for views of the words holds for the words
  of_views : {old new : List RawThree} {P : Table RawThree → Table RawThree → Type 0} (but : Place → Bool)
      → ((t u : Table RawThree) → P t u → IsSummedBut kind t sums s but → IsSummedBut kind u sums s (is_noted w'))
      → HoldsOfViews old new P → IsSummedBut kind (table_of old) sums s but → IsSummedBut kind (table_of new) sums s (is_noted w')
  of_views {old} {new} {P} but step told right =
      let links = told.0 in
      let links' = told.1 in
      let done : IsSummedBut kind (lent_table links') sums s (is_noted w') = step (lent_table links) (lent_table links') told.4 (but_viewed kind links sums s but told.2 right) in
      subst (λ (ws : List RawThree). IsSummedBut kind (table_of ws) sums s (is_noted w')) (sym told.3) done

  pub inserted : {old new : List RawThree} (p : Place) → is_noted w p ≡ true → HoldsOfViews old new (λ t u. ReportsInsertion Notes w w' t u p)
      → IsSummedBut kind (table_of old) sums s (is_end (Some p)) → IsSummedBut kind (table_of new) sums s (is_noted w')
  inserted {old} {new} p here told right = of_views {old = old} {new = new} {P = λ t u. ReportsInsertion Notes w w' t u p} (is_end (Some p)) (after_insertion p here) told right

  pub removed : {old new : List RawThree} (p : Place) → (IsMember p s → ⊥) → HoldsOfViews old new (λ t u. ReportsRemoval Notes w w' t u p)
      → IsSummedBut kind (table_of old) sums s (is_end None) → IsSummedBut kind (table_of new) sums s (is_noted w')
  removed {old} {new} p out told right = of_views {old = old} {new = new} {P = λ t u. ReportsRemoval Notes w w' t u p} (is_end None) (after_removal p out) told right

  -- a call names the inserted or removed place by `o`, a place or none. If `o` is a place, the lemmas on an inserted or removed place hold for this place
  pub put_in : {old new : List RawThree} (o : Option Place) → (o ≡ None → ⊥) → ((p : Place) → o ≡ Some p → is_noted w p ≡ true)
      → ((p : Place) → o ≡ Some p → HoldsOfViews old new (λ t u. ReportsInsertion Notes w w' t u p))
      → IsSummedBut kind (table_of old) sums s (is_end o) → IsSummedBut kind (table_of new) sums s (is_noted w')
  put_in {old} {new} None none here told right = absurd (none refl)
  put_in {old} {new} (Some p) none here told right = inserted {old = old} {new = new} p (here p refl) (told p refl) right

  pub taken_out : {old new : List RawThree} (o : Option Place) → (o ≡ None → ⊥) → ((p : Place) → o ≡ Some p → IsMember p s → ⊥)
      → ((p : Place) → o ≡ Some p → HoldsOfViews old new (λ t u. ReportsRemoval Notes w w' t u p))
      → IsSummedBut kind (table_of old) sums s (is_end None) → IsSummedBut kind (table_of new) sums s (is_noted w')
  taken_out {old} {new} None none out told right = absurd (none refl)
  taken_out {old} {new} (Some p) none out told right = removed {old = old} {new = new} p (out p refl) (told p refl) right

-- if there is a sum for each place, the sums have no fault
pub has_sums : (sums : List RawSum) (places : ℕ) → places ≤ length sums → 0 ≡ sums_fault sums places
has_sums sums places enough = ap (λ (b : Bool). cond b 1 0) (sym (le-ltb (length sums) places enough))
