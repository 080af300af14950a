-- Two runs are merged into one vine, one member after the other. In a run each member is the right child of the member before it.
use Rattle.std.proofs.Common.{◌≡◌, ℕ, ◌+◌, ◌≤◌, Bool, true, false, not, inl, inr, Option, Some, None, List, [], ◌∷◌, ◌++◌, drop, length, refl, sym, ◌∙◌, ap, subst, arith, append_assoc, append-nil, length-append, IfSome, Ordering}
use Rattle.ic_link_ops.specs.Prelude.{Place, Objects, is_placed, IsAbsent, IsDistinct, IsDisjoint, at_back, first, Table, ArePlaced, Ends, no_members, Inserts, Node}
use Rattle.ic_link_ops.proofs.Prelude.{absent_left, absent_right, distinct_left, distinct_middle, first_is, nothing_first, some_same, none_not, few_places}
use Rattle.ic_rbtree.specs.Vines.{IsVine, RepresentsVine}
use Rattle.ic_tree_merges.specs.Merges.{is_less}
use Rattle.ic_tree_merges.specs.Vines.{takes_left, looks_between, IsRun, MergesRuns}
use Rattle.ic_tree_merges.proofs.Merged.{IsMerge, front_of, merges}
use Rattle.ic_tree_merges.proofs.Hanging.{distinct_moved, absent_moved, disjoint_front, disjoint_back, after_apart, vine_none, hung_frame, run_still, run_rest}

front_first : (s : List Place) → front_of s ≡ first s
front_first [] = refl
front_first (x ∷ s) = refl

-- the comparison of the first members of both runs says which of the two is taken
left_tells : (cmp : Place → Place → Ordering) (p : Place) (right : Option Place) → takes_left cmp (Some p) right ≡ true → (q : Place) → right ≡ Some q → is_less cmp q p ≡ false
left_tells cmp p (Some r) taken q e = subst (λ (z : Place). is_less cmp z p ≡ false) (some_same e) (by (is_less cmp r p) taken) where
  by : (b : Bool) → not b ≡ true → b ≡ false
  by true t = cc
  by false t = refl
left_tells cmp p None taken q e = absurd (none_not q e)

right_tells : (cmp : Place → Place → Ordering) (q : Place) (left : Option Place) → takes_left cmp left (Some q) ≡ false → (p : Place) → left ≡ Some p → is_less cmp q p ≡ true
right_tells cmp q (Some r) taken p e = subst (λ (z : Place). is_less cmp q z ≡ true) (some_same e) (by (is_less cmp q r) taken) where
  by : (b : Bool) → not b ≡ false → b ≡ true
  by true t = refl
  by false t = cc
right_tells cmp q None taken p e = absurd (none_not p e)

pub over_left : (cmp : Place → Place → Ordering) (left right : Option Place) → takes_left cmp left right ≡ true → left ≡ None → right ≡ None
over_left cmp (Some p) right taken e = cc
over_left cmp None (Some q) taken e = cc
over_left cmp None None taken e = refl

pub never_right : (cmp : Place → Place → Ordering) (left right : Option Place) → takes_left cmp left right ≡ false → right ≡ None → ⊥
never_right cmp (Some p) (Some q) taken e = cc
never_right cmp (Some p) None taken e = cc
never_right cmp None (Some q) taken e = cc
never_right cmp None None taken e = cc

first_placed : {V : Type 0} (objects : Objects V) (o : Option Place) (s : List Place) → o ≡ first s → ArePlaced objects s → IfSome o (λ p. is_placed objects p ≡ true)
first_placed objects None s e h = tt
first_placed objects (Some p) s e h = (subst (ArePlaced objects) (first_is s e) h).0

-- the merge makes at most one comparison in each turn, and none after one run has ended
pub one_look : (left right : Option Place) → looks_between left right ≤ 1
one_look (Some p) (Some q) = omega arith
one_look (Some p) None = omega arith
one_look None right = omega arith

pub no_look : (left right : Option Place) → left ≡ None → looks_between left right ≡ 0
no_look (Some p) right e = cc
no_look None right e = refl

module _ {E V : Type 0} (n : E → Node) (cmp : Place → Place → Ordering) (objects : Objects V) where
  -- the members `done` are merged already, and the members x of the left run and y of the right run are left
  pub record Merging (old new : Table E) (s u : List Place) (left right : Option Place) (ends : Ends) (count : ℕ) : Type 0 where
    pub done : List Place
    pub x : List Place
    pub y : List Place
    pub distinct : IsDistinct (done ++ (x ++ y))
    pub vine : RepresentsVine n new ends done
    pub left_run : IsRun n objects new left x
    pub right_run : IsRun n objects new right y
    pub goes : (r : List Place) → IsMerge (is_less cmp) x y r → IsMerge (is_less cmp) s u (done ++ r)
    pub adds_none : (q : Place) → IsAbsent q (s ++ u) → IsAbsent q (done ++ (x ++ y))
    pub extent : new.extent ≡ old.extent
    pub others : (q : Place) → IsAbsent q (s ++ u) → new.entry q ≡ old.entry q
    pub counted : length done ≡ count
    pub all : count + (length x + length y) ≡ length s + length u

  pub merging_first : {t : Table E} {s u : List Place} {left right : Option Place} {ends : Ends} → IsRun n objects t left s → IsRun n objects t right u → IsDistinct (s ++ u)
      → ends ≡ no_members → Merging t t s u left right ends 0
  merging_first {t} {s} {u} a b d is = record {
    done = [];
    x = s;
    y = u;
    distinct = d;
    vine = vine_none n t is;
    left_run = a;
    right_run = b;
    goes = λ r m. m;
    adds_none = λ q o. o;
    extent = refl;
    others = λ q o. refl;
    counted = refl;
    all = omega arith;
  }

  module _ {old mid : Table E} {s u : List Place} {left right : Option Place} {ends : Ends} {count : ℕ} (k : Merging old mid s u left right ends count) where
    -- there is an object at the first member that is left of each run
    pub left_ready : IfSome left (λ p. is_placed objects p ≡ true)
    left_ready = first_placed objects left k.x k.left_run.starts k.left_run.placed

    pub right_ready : IfSome right (λ p. is_placed objects p ≡ true)
    right_ready = first_placed objects right k.y k.right_run.starts k.right_run.placed

    -- the merge has made at most as many turns as there are places, because the merged members are distinct
    pub few_merged : count ≤ 8589934591
    few_merged = let a = few_places k.done (distinct_left k.done (k.x ++ k.y) k.distinct) in omega (arith, a, k.counted)

    -- THE PLACE p IS APPENDED to the vine, and one of the two runs goes on with its next member
    module _ {new : Table E} {p : Place} {ends' : Ends} (h : Inserts (RepresentsVine n) mid new ends' (at_back k.done) p) where
      run_kept : (done : List Place) → IsDisjoint done (p ∷ k.done) → {front : Option Place} → IsRun n objects mid front done → IsRun n objects new front done
      run_kept x d a = record { chain = run_still n h x d a.chain; starts = a.starts; placed = a.placed }

      put_after : (x y : List Place) {left' right' : Option Place} → IsDistinct (k.done ++ p ∷ (x ++ y)) → IsRun n objects mid left' x → IsRun n objects mid right' y
          → ((r : List Place) → IsMerge (is_less cmp) x y r → IsMerge (is_less cmp) k.x k.y (p ∷ r))
          → ((q : Place) → IsAbsent q (k.done ++ (k.x ++ k.y)) → IsAbsent q (k.done ++ p ∷ (x ++ y)))
          → length k.x + length k.y ≡ length x + length y + 1 → Merging old new s u left' right' ends' (count + 1)
      put_after x y d a b goes moves less =
          let apart = after_apart k.done p (x ++ y) d in
          let e : (k.done ++ p ∷ []) ++ (x ++ y) ≡ k.done ++ p ∷ (x ++ y) = append_assoc k.done (p ∷ []) (x ++ y) in
          record {
            done = k.done ++ p ∷ [];
            x = x;
            y = y;
            distinct = subst IsDistinct (sym e) d;
            vine = h.shows;
            left_run = run_kept x (disjoint_front x y (p ∷ k.done) apart) a;
            right_run = run_kept y (disjoint_back x y (p ∷ k.done) apart) b;
            goes = λ r m. rw (append_assoc k.done (p ∷ []) r) (k.goes (p ∷ r) (goes r m));
            adds_none = λ q o. subst (IsAbsent q) (sym e) (moves q (k.adds_none q o));
            extent = h.frame.extent ∙ k.extent;
            others = λ q o.
                let m = moves q (k.adds_none q o) in
                let z = absent_right q k.done (p ∷ (x ++ y)) m in
                (hung_frame n h).others q (z.0, absent_left q k.done (p ∷ (x ++ y)) m) ∙ k.others q o;
            counted = omega (arith, k.counted, length-append k.done (p ∷ []));
            all = omega (arith, k.all, less);
          }

    module _ {p : Place} (on : left ≡ Some p) where
      left_is : k.x ≡ p ∷ drop 1 k.x
      left_is = first_is k.x (sym on ∙ k.left_run.starts)

      left_rest : ((n (mid.entry p)).linked ≡ true) × ((n (mid.entry p)).right ≡ first (drop 1 k.x)) × IsVine n mid.entry (drop 1 k.x) None
      left_rest = run_rest n mid p (drop 1 k.x) (subst (λ (z : List Place). IsVine n mid.entry z None) left_is k.left_run.chain)

      left_distinct : IsDistinct (k.done ++ p ∷ (drop 1 k.x ++ k.y))
      left_distinct = subst (λ (z : List Place). IsDistinct (k.done ++ (z ++ k.y))) left_is k.distinct

      left_placed : ArePlaced objects (p ∷ drop 1 k.x)
      left_placed = subst (ArePlaced objects) left_is k.left_run.placed

      pub left_linked : (n (mid.entry p)).linked ≡ true
      left_linked = left_rest.0

      pub left_there : is_placed objects p ≡ true
      left_there = left_placed.0

      pub left_absent : IsAbsent p k.done
      left_absent = absent_left p k.done (drop 1 k.x ++ k.y) (distinct_middle k.done (drop 1 k.x ++ k.y) p left_distinct)

      -- if the first member of the left run is taken, the merge goes on with the rest of the left run
      pub take_left : {new : Table E} {ends' : Ends} {next : Option Place} → takes_left cmp left right ≡ true → next ≡ (n (mid.entry p)).right
          → Inserts (RepresentsVine n) mid new ends' (at_back k.done) p → Merging old new s u next right ends' (count + 1)
      take_left taken next_is h =
          put_after h (drop 1 k.x) k.y left_distinct
          (record { chain = left_rest.2; starts = next_is ∙ left_rest.1; placed = left_placed.1 }) k.right_run
          (λ r m. inl (drop 1 k.x, record { is = left_is; first = λ q e. left_tells cmp p right (subst (λ (o : Option Place). takes_left cmp o right ≡ true) on taken) q (k.right_run.starts ∙ (sym (front_first k.y) ∙ e)) }, m))
          (λ q o. subst (λ (z : List Place). IsAbsent q (k.done ++ (z ++ k.y))) left_is o)
          (omega (arith, ap length left_is))

    module _ {p : Place} (on : right ≡ Some p) where
      right_is : k.y ≡ p ∷ drop 1 k.y
      right_is = first_is k.y (sym on ∙ k.right_run.starts)

      right_rest : ((n (mid.entry p)).linked ≡ true) × ((n (mid.entry p)).right ≡ first (drop 1 k.y)) × IsVine n mid.entry (drop 1 k.y) None
      right_rest = run_rest n mid p (drop 1 k.y) (subst (λ (z : List Place). IsVine n mid.entry z None) right_is k.right_run.chain)

      right_distinct : IsDistinct (k.done ++ p ∷ (k.x ++ drop 1 k.y))
      right_distinct = distinct_moved k.done k.x p (drop 1 k.y) (subst (λ (z : List Place). IsDistinct (k.done ++ (k.x ++ z))) right_is k.distinct)

      right_placed : ArePlaced objects (p ∷ drop 1 k.y)
      right_placed = subst (ArePlaced objects) right_is k.right_run.placed

      pub right_linked : (n (mid.entry p)).linked ≡ true
      right_linked = right_rest.0

      pub right_there : is_placed objects p ≡ true
      right_there = right_placed.0

      pub right_absent : IsAbsent p k.done
      right_absent = absent_left p k.done (k.x ++ drop 1 k.y) (distinct_middle k.done (k.x ++ drop 1 k.y) p right_distinct)

      -- if the first member of the right run is taken, the merge goes on with the rest of the right run
      pub take_right : {new : Table E} {ends' : Ends} {next : Option Place} → takes_left cmp left right ≡ false → next ≡ (n (mid.entry p)).right
          → Inserts (RepresentsVine n) mid new ends' (at_back k.done) p → Merging old new s u left next ends' (count + 1)
      take_right taken next_is h =
          put_after h k.x (drop 1 k.y) right_distinct k.left_run
          (record { chain = right_rest.2; starts = next_is ∙ right_rest.1; placed = right_placed.1 })
          (λ r m. inr (drop 1 k.y, record { is = right_is; first = λ q e. right_tells cmp p left (subst (λ (o : Option Place). takes_left cmp left o ≡ false) on taken) q (k.left_run.starts ∙ (sym (front_first k.x) ∙ e)) }, m))
          (λ q o. absent_moved q k.done k.x p (drop 1 k.y) (subst (λ (z : List Place). IsAbsent q (k.done ++ (k.x ++ z))) right_is o))
          (omega (arith, ap length right_is))

    -- AT THE END both runs are empty, and the vine is the merge of both
    pub merging_last : left ≡ None → right ≡ None → MergesRuns n cmp old mid ends s u
    merging_last no_left no_right =
        let x_is : k.x ≡ [] = nothing_first k.x (sym no_left ∙ k.left_run.starts) in
        let y_is : k.y ≡ [] = nothing_first k.y (sym no_right ∙ k.right_run.starts) in
        let whole : IsMerge (is_less cmp) s u (k.done ++ []) = k.goes [] (x_is, y_is) in (
          record {
            merged = k.done;
            shown = k.vine;
            is = merges cmp s u k.done (subst (IsMerge (is_less cmp) s u) (append-nil k.done) whole);
            frame = record { extent = k.extent; others = k.others };
          },
          λ q o. absent_left q k.done (k.x ++ k.y) (k.adds_none q o),
        )
