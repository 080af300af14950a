-- These lemmas find the subtree at a member of the sequence, read the entry of its root, and step up to the subtree of its parent.
use Rattle.std.proofs.Common.{◌≡◌, ◌≤◌, ◌<◌, ◌+◌, ℕ, suc, zero, true, Option, Some, None, List, [], ◌∷◌, ◌++◌, length, refl, sym, ap, ◌∙◌, subst, arith, append-nil}
use Rattle.std.proofs.Math.Nat.{le-max_left, le-max_right}
use Rattle.ic_link_ops.specs.Prelude.{Place, IsMember, Table, times, times_in, Tree, leaf, fork, top, in_order}
use Rattle.ic_link_ops.specs.declared.color.Color.{Color}
use Rattle.ic_link_ops.specs.declared.side.Side.TheVariants.{Left, Right}
use Rattle.ic_link_ops.specs.Frames.{Frame, frame, plug, above, before, after, IsAround}
use Rattle.ic_link_ops.specs.RedBlackTree.{Node, IsTree, Represents}
use Rattle.ic_link_ops.proofs.Frames.{focus}
use Rattle.ic_link_ops.proofs.Prelude.{none_not, some_same, member_split, holds_once, times_order, few_places}
use Rattle.ic_rbtree.specs.Prelude.{IsNode, height}
use Rattle.ic_rbtree.proofs.Climbed.{path_few}
use Rattle.ic_augmented.specs.Subtrees.{IsSubtree}

-- the number of places from the place `o` up to the root, or k if there are more than k
abbrev pub above_end : {E : Type 0} (n : E → Node) (v : Table E) → ℕ → Option Place → ℕ
above_end n v zero o = 0
above_end n v (suc k) None = 0
above_end n v (suc k) (Some p) = suc (above_end n v k (n (v.entry p)).parent)

pred_same : {a b : ℕ} → suc a ≡ suc b → a ≡ b
pred_same e = omega (arith, e)

-- the length of a path and the height of the subtree below it are together at most the height of the whole tree
pub no_longer : (fs : List Frame) (t : Tree) → length fs + height t ≤ height (plug fs t)
no_longer [] t = omega arith
no_longer (frame Left c p b ∷ fs) t = omega (arith, no_longer fs (fork c t p b), le-max_left (height t) (height b))
no_longer (frame Right c p b ∷ fs) t = omega (arith, no_longer fs (fork c b p t), le-max_right (height b) (height t))

pub lower : (fs : List Frame) (t : Tree) → height t ≤ height (plug fs t)
lower [] t = omega arith
lower (frame Left c p b ∷ fs) t = omega (arith, lower fs (fork c t p b), le-max_left (height t) (height b))
lower (frame Right c p b ∷ fs) t = omega (arith, lower fs (fork c b p t), le-max_right (height b) (height t))

module _ {E : Type 0} (n : E → Node) where
  -- the entries of a whole tree are those along the path and beside it, and those of the subtree below the path
  entries_below : (e : Place → E) (fs : List Frame) (t : Tree) → IsTree n e None (plug fs t) → IsAround n e fs (top t) × IsTree n e (above fs) t
  entries_below e [] t h = (tt, h)
  entries_below e (frame Left c p b ∷ fs) t h = let r = entries_below e fs (fork c t p b) h in ((r.1.0, r.1.2, r.0), r.1.1)
  entries_below e (frame Right c p b ∷ fs) t h = let r = entries_below e fs (fork c b p t) h in ((r.1.0, r.1.1, r.0), r.1.2)

  -- A MEMBER OF THE SEQUENCE is the root of a subtree of the represented tree
  pub record MemberSubtree (v : Table E) (tree : Tree) (front : List Place) (p : Place) (back : List Place) : Type 0 where
    pub fs : List Frame
    pub c : Color
    pub a : Tree
    pub b : Tree
    pub same : plug fs (fork c a p b) ≡ tree
    pub subtree : IsSubtree n v fs (fork c a p b)
    pub front_is : before fs ++ in_order a ≡ front
    pub back_is : in_order b ++ after fs ≡ back
    pub low : length fs ≤ 66

  pub record MemberAt (v : Table E) (s : List Place) (p : Place) : Type 0 where
    pub fs : List Frame
    pub c : Color
    pub a : Tree
    pub b : Tree
    pub subtree : IsSubtree n v fs (fork c a p b)
    pub entries : IsTree n v.entry None (plug fs (fork c a p b))
    pub whole : (q : Place) → times q (plug fs (fork c a p b)) ≡ times_in q s

  module _ (v : Table E) where
    pub member_subtree : (root : Option Place) (front : List Place) (p : Place) (back : List Place) (h : Represents n v root (front ++ p ∷ back)) → MemberSubtree v h.tree front p back
    member_subtree root front p back h =
        let f = focus h.tree [] front p back h.held.order in
        let t : Tree = fork f.1 f.2 p f.3 in
        let entries = entries_below v.entry f.0 t (subst (λ (y : Tree). IsTree n v.entry None y) (sym f.4) h.held.entries) in
        record {
          fs = f.0;
          c = f.1;
          a = f.2;
          b = f.3;
          same = f.4;
          subtree = record {
            around = entries.0;
            tree = entries.1;
            once = λ q. subst (λ (y : Tree). times q y ≤ 1) (sym f.4) (holds_once h.held q);
            low = path_few n h [] (plug f.0 t) (height (plug f.0 t)) f.4 (omega arith);
            few = subst (λ (y : Tree). length (in_order y) ≤ 8589934591) (sym f.4) (subst (λ (y : List Place). length y ≤ 8589934591) (sym h.held.order) (few_places (front ++ p ∷ back) h.held.distinct));
          };
          front_is = f.5;
          back_is = f.6 ∙ append-nil back;
          low = path_few n h f.0 t (length f.0) f.4 (omega arith);
        }

    -- the subtree at a member, with the path from the root to it
    pub member_at : (root : Option Place) (s : List Place) (p : Place) → Represents n v root s → IsMember p s → MemberAt v s p
    member_at root s p h m =
        let cut = member_split p s m in
        let k : Represents n v root (cut.0 ++ p ∷ cut.1) = subst (Represents n v root) cut.2 h in
        let x = member_subtree root cut.0 p cut.1 k in
        record {
          fs = x.fs;
          c = x.c;
          a = x.a;
          b = x.b;
          subtree = x.subtree;
          entries = subst (λ (t : Tree). IsTree n v.entry None t) (sym x.same) k.held.entries;
          whole = λ q. ap (times q) x.same ∙ (sym (times_order q k.tree) ∙ (ap (times_in q) k.held.order ∙ ap (times_in q) (sym cut.2)));
        }

    -- the root of a subtree is linked, and its entry names the place at the lower end of the path as its parent
    pub subtree_linked : (fs : List Frame) (t : Tree) (p : Place) → IsSubtree n v fs t → top t ≡ Some p → IsNode n v p
    subtree_linked fs leaf p h e = absurd (none_not p e)
    subtree_linked fs (fork c a q b) p h e = subst (λ (y : Place). (n (v.entry y)).linked ≡ true) (some_same e) h.tree.0.linked

    pub subtree_parent : (fs : List Frame) (t : Tree) (p : Place) → IsSubtree n v fs t → top t ≡ Some p → (n (v.entry p)).parent ≡ above fs
    subtree_parent fs leaf p h e = absurd (none_not p e)
    subtree_parent fs (fork c a q b) p h e = subst (λ (y : Place). (n (v.entry y)).parent ≡ above fs) (some_same e) h.tree.0.parent

    -- ONE STEP UP from a subtree leads to the subtree of its parent
    pub subtree_left : (c : Color) (p : Place) (b : Tree) (fs : List Frame) (t : Tree) → IsSubtree n v (frame Left c p b ∷ fs) t → IsSubtree n v fs (fork c t p b)
    subtree_left c p b fs t h = record { around = h.around.2; tree = (h.around.0, h.tree, h.around.1); once = h.once; low = h.low; few = h.few }

    pub subtree_right : (c : Color) (p : Place) (b : Tree) (fs : List Frame) (t : Tree) → IsSubtree n v (frame Right c p b ∷ fs) t → IsSubtree n v fs (fork c b p t)
    subtree_right c p b fs t h = record { around = h.around.2; tree = (h.around.0, h.around.1, h.tree); once = h.once; low = h.low; few = h.few }

    pub subtree_up : (fs : List Frame) (t : Tree) (up : Place) → IsSubtree n v fs t → above fs ≡ Some up → (gs : List Frame) × (u : Tree) × IsSubtree n v gs u × (top u ≡ Some up)
    subtree_up [] t up h e = absurd (none_not up e)
    subtree_up (frame Left c p b ∷ fs) t up h e = (fs, fork c t p b, subtree_left c p b fs t h, e)
    subtree_up (frame Right c p b ∷ fs) t up h e = (fs, fork c b p t, subtree_right c p b fs t h, e)

    none_above : (k : ℕ) → above_end n v k None ≡ 0
    none_above zero = refl
    none_above (suc k) = refl

    -- the number of places from the root of a subtree up to the root of the tree is one more than the length of the path
    above_length : (fs : List Frame) (t : Tree) (p : Place) (k : ℕ) → IsSubtree n v fs t → top t ≡ Some p → length fs < k → above_end n v k (Some p) ≡ suc (length fs)
    above_length fs t p zero h e less = absurd (omega (arith, less))
    above_length [] t p (suc k) h e less = ap suc (ap (above_end n v k) (subtree_parent [] t p h e) ∙ none_above k)
    above_length (frame Left c q b ∷ fs) t p (suc k) h e less =
        ap suc (ap (above_end n v k) (subtree_parent (frame Left c q b ∷ fs) t p h e) ∙ above_length fs (fork c t q b) q k (subtree_left c q b fs t h) refl (omega (arith, less)))
    above_length (frame Right c q b ∷ fs) t p (suc k) h e less =
        ap suc (ap (above_end n v k) (subtree_parent (frame Right c q b ∷ fs) t p h e) ∙ above_length fs (fork c b q t) q k (subtree_right c q b fs t h) refl (omega (arith, less)))

    -- there are fewer places from the parent up to the root than from its child up to the root
    pub fewer_above : (fs : List Frame) (t : Tree) (p up : Place) → IsSubtree n v fs t → top t ≡ Some p → above fs ≡ Some up → above_end n v 68 (Some up) < above_end n v 68 (Some p)
    fewer_above fs t p up h e is =
        let u = subtree_up fs t up h is in
        let here : above_end n v 68 (Some p) ≡ suc (length fs) = above_length fs t p 68 h e (omega (arith, h.low, no_longer fs t)) in
        let there : above_end n v 67 (Some up) ≡ length fs = pred_same (ap (λ (o : Option Place). suc (above_end n v 67 o)) (sym (subtree_parent fs t p h e ∙ is)) ∙ here) in
        let low : length u.0 ≤ 66 = omega (arith, u.2.low, no_longer u.0 u.1) in
        let less : above_end n v 68 (Some up) ≡ suc (length u.0) = above_length u.0 u.1 up 68 u.2 u.3 (omega (arith, low)) in
        let same : above_end n v 67 (Some up) ≡ suc (length u.0) = above_length u.0 u.1 up 67 u.2 u.3 (omega (arith, low)) in
        omega (arith, here, there, less, same)
