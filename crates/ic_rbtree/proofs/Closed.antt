-- A closed set is a set of places out of which no link leads. These lemmas state which writes keep a set closed.
use Rattle.std.proofs.Common.{◌≡◌, Bool, true, Option, Some, None, refl, sym, ap, ◌∙◌, subst, inl, inr}
use Rattle.ic_link_ops.specs.Prelude.{Place, Table, ChangesOnly, Node}
use Rattle.ic_link_ops.proofs.Prelude.{same_or_not, none_not, some_same}
use Rattle.ic_link_ops.specs.declared.color.Color.{Color}
use Rattle.ic_link_ops.specs.declared.side.Side.{Side}
use Rattle.ic_link_ops.specs.declared.side.Side.TheVariants.{Left, Right}
use Rattle.ic_link_ops.specs.Frames.{child_on}
use Rattle.ic_rbtree.specs.Removal.{AreRead}
use Rattle.ic_rbtree.specs.Transplants.{or_else, both_of}
use Rattle.ic_rbtree.specs.Closed.{IsIn, IsNode, IsNamed, IsClosedBut, IsClosed}

-- if an optional place that is none or in the set S is the place q, q is in S
pub in_there : (S : Place → Bool) {o : Option Place} {q : Place} → IsIn S o → o ≡ Some q → S q ≡ true
in_there S {o} {q} h e = subst (λ (x : Option Place). IsIn S x) e h

-- an optional place that equals another one, which is none or in S, is none or in S itself
pub read_in : (S : Place → Bool) {o x : Option Place} → IsIn S x → o ≡ x → IsIn S o
read_in S {o} {x} h e = subst (λ (z : Option Place). IsIn S z) (sym e) h

module _ {E : Type 0} (n : E → Node) where
  module _ {v : Table E} {root but : Option Place} {S : Place → Bool} (h : IsClosedBut n v root but S) where
    -- a set that is closed for one root is closed for another root that is none or in S
    pub restarted : {new_root : Option Place} → IsIn S new_root → IsClosedBut n v new_root but S
    restarted s = record { linked = h.linked; left = h.left; right = h.right; parent = h.parent; starts = s }

    module _ {w : Table E} {p : Place} (only : ChangesOnly v w p) where
      moved : (r : Node → Option Place) → (IsIn S (r (n (v.entry p))) → IsIn S (r (n (w.entry p))))
          → ((q : Place) → S q ≡ true → (but ≡ Some q → ⊥) → IsIn S (r (n (v.entry q)))) → (q : Place) → S q ≡ true → (but ≡ Some q → ⊥) → IsIn S (r (n (w.entry q)))
      moved r f old q m out = elim (same_or_not q p) [
        | inl e ↦ subst (λ (z : Place). IsIn S (r (n (w.entry z)))) (sym e) (f (subst (λ (z : Place). IsIn S (r (n (v.entry z)))) e (old q m out)))
        | inr k ↦ subst (λ (x : E). IsIn S (r (n x))) (sym (only.others q k)) (old q m out)
      ]

      -- ONE WRITE to the entry of p keeps the set S closed, if each link of p that was none or in S still is none or in S
      written : (n (w.entry p)).linked ≡ (n (v.entry p)).linked → (IsIn S (n (v.entry p)).left → IsIn S (n (w.entry p)).left)
          → (IsIn S (n (v.entry p)).right → IsIn S (n (w.entry p)).right) → (IsIn S (n (v.entry p)).parent → IsIn S (n (w.entry p)).parent) → IsClosedBut n w root but S
      written l fl fr fp = record {
        linked = λ q m. linked q m;
        left = moved (λ x. x.left) fl h.left;
        right = moved (λ x. x.right) fr h.right;
        parent = moved (λ x. x.parent) fp h.parent;
        starts = h.starts;
      } where
        linked : (q : Place) → S q ≡ true → IsNode n w q
        linked q m = elim (same_or_not q p) [
          | inl e ↦ subst (λ (z : Place). IsNode n w z) (sym e) (l ∙ subst (λ (z : Place). IsNode n v z) e (h.linked q m))
          | inr k ↦ ap (λ (x : E). (n x).linked) (only.others q k) ∙ h.linked q m
        ]

      put : (r : Node → Option Place) {x : Node} → n (w.entry p) ≡ x → {o : Option Place} → r x ≡ o → IsIn S o → IsIn S (r (n (w.entry p)))
      put r set e k = subst (λ (o : Option Place). IsIn S o) (sym (ap r set ∙ e)) k

      same : (r : Node → Option Place) {x : Node} → n (w.entry p) ≡ x → r x ≡ r (n (v.entry p)) → IsIn S (r (n (v.entry p))) → IsIn S (r (n (w.entry p)))
      same r set e k = put r set e k

      pub left_written : {to : Option Place} → n (w.entry p) ≡ record (n (v.entry p)) { left = to } → IsIn S to → IsClosedBut n w root but S
      left_written set k = written (ap (λ (x : Node). x.linked) set) (λ i. put (λ x. x.left) set refl k) (same (λ x. x.right) set refl) (same (λ x. x.parent) set refl)

      pub right_written : {to : Option Place} → n (w.entry p) ≡ record (n (v.entry p)) { right = to } → IsIn S to → IsClosedBut n w root but S
      right_written set k = written (ap (λ (x : Node). x.linked) set) (same (λ x. x.left) set refl) (λ i. put (λ x. x.right) set refl k) (same (λ x. x.parent) set refl)

      pub parent_written : {to : Option Place} → n (w.entry p) ≡ record (n (v.entry p)) { parent = to } → IsIn S to → IsClosedBut n w root but S
      parent_written set k = written (ap (λ (x : Node). x.linked) set) (same (λ x. x.left) set refl) (same (λ x. x.right) set refl) (λ i. put (λ x. x.parent) set refl k)

      pub upper_written : {to : Option Place} {c : Color} → n (w.entry p) ≡ record (n (v.entry p)) { parent = to; color = c } → IsIn S to → IsClosedBut n w root but S
      upper_written set k = written (ap (λ (x : Node). x.linked) set) (same (λ x. x.left) set refl) (same (λ x. x.right) set refl) (λ i. put (λ x. x.parent) set refl k)

      pub color_written : {c : Color} → n (w.entry p) ≡ record (n (v.entry p)) { color = c } → IsClosedBut n w root but S
      color_written set = written (ap (λ (x : Node). x.linked) set) (same (λ x. x.left) set refl) (same (λ x. x.right) set refl) (same (λ x. x.parent) set refl)

    -- an optional place that is none or in the closed set S is none or linked
    pub in_linked : {o : Option Place} → IsIn S o → IsNamed n v o
    in_linked i q e = h.linked q (in_there S i e)

    -- the child on side d of a place in the closed set S is none or in S
    pub child_in : (d : Side) (p : Place) → S p ≡ true → (but ≡ Some p → ⊥) → IsIn S (child_on d (n (v.entry p)))
    child_in Left p m out = h.left p m out
    child_in Right p m out = h.right p m out

  module _ {v : Table E} {root : Option Place} {S : Place → Bool} (h : IsClosed n v root S) where
    pub in_child : (d : Side) {o : Option Place} (p : Place) → S p ≡ true → o ≡ child_on d (n (v.entry p)) → IsIn S o
    in_child d p m e = subst (λ (x : Option Place). IsIn S x) (sym e) (child_in h d p m (none_not p))

    pub in_parent : {o : Option Place} (p : Place) → S p ≡ true → o ≡ (n (v.entry p)).parent → IsIn S o
    in_parent p m e = subst (λ (x : Option Place). IsIn S x) (sym e) (h.parent p m (none_not p))

    pub in_only : {o : Option Place} (p : Place) → S p ≡ true → o ≡ or_else (n (v.entry p)).left (n (v.entry p)).right → IsIn S o
    in_only p m e = read_in S (pick (n (v.entry p)).left (n (v.entry p)).right (h.left p m (none_not p)) (h.right p m (none_not p))) e where
      pick : (a b : Option Place) → IsIn S a → IsIn S b → IsIn S (or_else a b)
      pick None b i k = k
      pick (Some x) b i k = i

    pub in_both : {o : Option Place} (p : Place) → S p ≡ true → o ≡ both_of (n (v.entry p)).left (n (v.entry p)).right → IsIn S o
    in_both p m e = read_in S (pick (n (v.entry p)).left (n (v.entry p)).right (h.right p m (none_not p))) e where
      pick : (a b : Option Place) → IsIn S b → IsIn S (both_of a b)
      pick None b k = tt
      pick (Some x) b k = k

    -- each place in the closed set S and its children are linked, so that a repair can read their entries
    pub closed_read : (p : Place) → S p ≡ true → AreRead n v p
    closed_read p m = record {
      here = h.linked p m;
      left = λ q e. h.linked q (in_there S (h.left p m (none_not p)) e);
      right = λ q e. h.linked q (in_there S (h.right p m (none_not p)) e);
    }

    -- a closed set is also closed except at one place
    pub weaker : (but : Option Place) → IsClosedBut n v root but S
    weaker but = record {
      linked = h.linked;
      left = λ q m out. h.left q m (none_not q);
      right = λ q m out. h.right q m (none_not q);
      parent = λ q m out. h.parent q m (none_not q);
      starts = h.starts;
    }

  -- a set that is closed except at p is closed if the links of p are none or in the set
  pub all_closed : {v : Table E} {root : Option Place} {p : Place} {S : Place → Bool} → IsClosedBut n v root (Some p) S
      → IsIn S (n (v.entry p)).left → IsIn S (n (v.entry p)).right → IsIn S (n (v.entry p)).parent → IsClosed n v root S
  all_closed {v} {root} {p} {S} h l r u = record {
    linked = h.linked;
    left = λ q m none. at (λ x. x.left) l h.left q m;
    right = λ q m none. at (λ x. x.right) r h.right q m;
    parent = λ q m none. at (λ x. x.parent) u h.parent q m;
    starts = h.starts;
  } where
    at : (f : Node → Option Place) → IsIn S (f (n (v.entry p))) → ((q : Place) → S q ≡ true → (Some p ≡ Some q → ⊥) → IsIn S (f (n (v.entry q)))) → (q : Place) → S q ≡ true → IsIn S (f (n (v.entry q)))
    at f i old q m = elim (same_or_not q p) [
      | inl e ↦ subst (λ (z : Place). IsIn S (f (n (v.entry z)))) (sym e) i
      | inr k ↦ old q m (λ s. k (sym (some_same s)))
    ]

  -- ALL OF A NODE IS WRITTEN at p, in a set that is closed except at p. The set is closed after this if both children and the parent that are written are
  -- none or in the set
  pub node_written : {v w : Table E} {root : Option Place} {p : Place} {S : Place → Bool} {a b up : Option Place} {c : Color}
      → n (w.entry p) ≡ record (n (v.entry p)) { left = a; right = b; parent = up; color = c } → ChangesOnly v w p
      → IsClosedBut n v root (Some p) S → IsIn S a → IsIn S b → IsIn S up → IsClosed n w root S
  node_written {S = S} set only h ia ib iu =
      let left = read_in S ia (ap (λ (x : Node). x.left) set) in
      let right = read_in S ib (ap (λ (x : Node). x.right) set) in
      let parent = read_in S iu (ap (λ (x : Node). x.parent) set) in
      all_closed (written h only (ap (λ (x : Node). x.linked) set) (λ i. left) (λ i. right) (λ i. parent)) left right parent
