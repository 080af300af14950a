-- A run is split in two by another tree, one member after the other. In a run each member is the right child of the member before it.
use Rattle.std.proofs.Common.{◌≡◌, ℕ, ◌+◌, ◌≤◌, true, Option, Some, None, List, [], ◌∷◌, ◌++◌, drop, length, refl, sym, ◌∙◌, ap, subst, arith, append_assoc, append-nil, length-append, Ordering, Less, Equal, Greater}
use Rattle.ic_link_ops.specs.Prelude.{Place, Objects, is_placed, Cut, join, IsAbsent, IsDistinct, IsDisjoint, at_back, at_front, first, Table, ArePlaced, Ends, no_members, Inserts}
use Rattle.ic_link_ops.specs.declared.side.Side.TheVariants.{Left, Right}
use Rattle.ic_link_ops.specs.RedBlackTree.{Node, Represents}
use Rattle.ic_link_ops.proofs.Prelude.{absent_left, absent_right, absent_both, absent_swap, distinct_right, distinct_middle, distinct_disjoint, disjoint_left, disjoint_right, disjoint_cons, disjoint_sym, first_is, last_of_push, nothing_first, few_places}
use Rattle.ic_link_ops.proofs.RepresentedTrees.{represents_frame}
use Rattle.ic_rbtree.specs.Prelude.{IsSafe, IsBeside, IsVine, RepresentsVine}
use Rattle.ic_rbtree.proofs.Removing.{represented_of}
use Rattle.ic_rbtree.proofs.RepresentedClosed.{among, among_there, represented_closed}
use Rattle.ic_tree_merges.specs.Vines.{standing, IsRun, PartsRun}
use Rattle.ic_tree_merges.proofs.Hanging.{distinct_moved, absent_moved, disjoint_front, disjoint_back, after_apart, vine_none, hung_frame, run_still, vine_still, run_rest}
use Rattle.ic_tree_merges.proofs.Parted.{Parting, parting_first, parting_last, parting_alone, parting_less, parting_equal, parting_greater}

-- if a sequence has no place twice, its first part shares no place with the second part or with the place p after it
middle_apart : (a b : List Place) (p : Place) (c : List Place) → IsDistinct (a ++ (b ++ p ∷ c)) → IsDisjoint a (p ∷ b)
middle_apart a b p c d =
    let k = distinct_disjoint a (b ++ p ∷ c) d in
    disjoint_cons p a b (disjoint_sym a (p ∷ []) (disjoint_left a (p ∷ []) c (disjoint_right a b (p ∷ c) k))).0 (disjoint_left a b (p ∷ c) k)

module _ {E : Type 0} (n : E → Node) where
  -- in a represented tree a step from null (`safe_null`), or from a member (`safe_member`), is safe
  pub safe_null : {t : Table E} {root : Option Place} {u : List Place} → Represents n t root u → IsSafe n t root (None ∷ [])
  safe_null {t} {root} {u} h = (λ q. among q u, represented_closed n (represented_of n h), (tt, tt))

  pub safe_member : {t : Table E} {root : Option Place} (front : List Place) (p : Place) (back : List Place) → Represents n t root (front ++ p ∷ back) → IsSafe n t root (Some p ∷ [])
  safe_member front p back h = (λ q. among q (front ++ p ∷ back), represented_closed n (represented_of n h), (among_there p front back, tt))

  module _ {V : Type 0} (cmp : Place → Place → Ordering) (objects : Objects V) (root : Option Place) where
    -- members of the run went to `common` or to `rest`, and the members x of the run are left. They are compared with y, the members of the other tree that
    -- come after its members `passed`
    pub record Sifting (old new : Table E) (s u : List Place) (left right : Option Place) (common_ends rest_ends : Ends) (count : ℕ) : Type 0 where
      pub common : List Place
      pub rest : List Place
      pub x : List Place
      pub passed : List Place
      pub y : List Place
      pub distinct : IsDistinct (common ++ (rest ++ x))
      pub common_vine : RepresentsVine n new common_ends common
      pub rest_vine : RepresentsVine n new rest_ends rest
      pub run : IsRun n objects new left x
      pub parting : Parting cmp s u common rest x y
      pub cut : passed ++ y ≡ u
      pub next : right ≡ first y
      pub next_placed : ArePlaced objects y
      pub other : Represents n new root u
      pub apart : IsDisjoint u s
      pub adds_none : (q : Place) → IsAbsent q s → IsAbsent q (common ++ (rest ++ x))
      pub extent : new.extent ≡ old.extent
      pub others : (q : Place) → IsAbsent q s → new.entry q ≡ old.entry q
      pub counted : length common + length rest + length passed ≡ count
      pub all : count + (length x + length y) ≡ length s + length u

    pub sifting_first : {t : Table E} {s u : List Place} {left right : Option Place} {ends rest_ends : Ends} → IsRun n objects t left s → IsDistinct s → Represents n t root u → ArePlaced objects u → IsDisjoint u s
        → ((gap : Cut) → Represents n t root (join gap) → IsBeside Right gap None → IsBeside Left gap right) → ends ≡ no_members → rest_ends ≡ no_members → Sifting t t s u left right ends rest_ends 0
    sifting_first {t} {s} {u} run distinct other placed apart leads is rest_is = record {
      common = [];
      rest = [];
      x = s;
      passed = [];
      y = u;
      distinct = distinct;
      common_vine = vine_none n t is;
      rest_vine = vine_none n t rest_is;
      run = run;
      parting = parting_first cmp s u;
      cut = refl;
      next = leads (at_front u) other refl;
      next_placed = placed;
      other = other;
      apart = apart;
      adds_none = λ q o. o;
      extent = refl;
      others = λ q o. refl;
      counted = refl;
      all = omega arith;
    }

    module _ {old mid : Table E} {s u : List Place} {left right : Option Place} {common_ends rest_ends : Ends} {count : ℕ}
        (k : Sifting old mid s u left right common_ends rest_ends count) where
      -- the split has made at most as many turns as the run and the other tree can have members together
      pub few_sifted : count ≤ 17179869182
      few_sifted =
          let a = few_places (k.common ++ (k.rest ++ k.x)) k.distinct in
          let b = few_places (k.passed ++ k.y) (subst IsDistinct (sym k.cut) k.other.held.distinct) in
          omega (arith, a, b, k.counted, length-append k.common (k.rest ++ k.x), length-append k.rest k.x, length-append k.passed k.y)

      module _ {p : Place} (on : left ≡ Some p) where
        left_is : k.x ≡ p ∷ drop 1 k.x
        left_is = first_is k.x (sym on ∙ k.run.starts)

        left_rest : ((n (mid.entry p)).linked ≡ true) × ((n (mid.entry p)).right ≡ first (drop 1 k.x)) × IsVine n mid.entry (drop 1 k.x) None
        left_rest = run_rest n mid p (drop 1 k.x) (subst (λ (z : List Place). IsVine n mid.entry z None) left_is k.run.chain)

        left_placed : ArePlaced objects (p ∷ drop 1 k.x)
        left_placed = subst (ArePlaced objects) left_is k.run.placed

        parting_now : Parting cmp s u k.common k.rest (p ∷ drop 1 k.x) k.y
        parting_now = subst (λ (z : List Place). Parting cmp s u k.common k.rest z k.y) left_is k.parting

        now_distinct : IsDistinct (k.common ++ (k.rest ++ p ∷ drop 1 k.x))
        now_distinct = subst (λ (z : List Place). IsDistinct (k.common ++ (k.rest ++ z))) left_is k.distinct

        now_within : (q : Place) → IsAbsent q s → IsAbsent q (k.common ++ (k.rest ++ p ∷ drop 1 k.x))
        now_within q o = subst (λ (z : List Place). IsAbsent q (k.common ++ (k.rest ++ z))) left_is (k.adds_none q o)

        common_first : IsDistinct (k.common ++ p ∷ (k.rest ++ drop 1 k.x))
        common_first = distinct_moved k.common k.rest p (drop 1 k.x) now_distinct

        rest_first : IsDistinct (k.rest ++ p ∷ drop 1 k.x)
        rest_first = distinct_right k.common (k.rest ++ p ∷ drop 1 k.x) now_distinct

        pub sift_linked : (n (mid.entry p)).linked ≡ true
        sift_linked = left_rest.0

        pub sift_there : is_placed objects p ≡ true
        sift_there = left_placed.0

        pub absent_common : IsAbsent p k.common
        absent_common = absent_left p k.common (k.rest ++ drop 1 k.x) (distinct_middle k.common (k.rest ++ drop 1 k.x) p common_first)

        pub absent_rest : IsAbsent p k.rest
        absent_rest = absent_left p k.rest (drop 1 k.x) (distinct_middle k.rest (drop 1 k.x) p rest_first)

        -- THE MEMBER p IS COMMON: it is appended to the vine of the common members
        module _ {new : Table E} {ends : Ends} {next : Option Place} (is : next ≡ (n (mid.entry p)).right) (h : Inserts (RepresentsVine n) mid new ends (at_back k.common) p) where
          common_out : (q : Place) → IsAbsent q s → IsAbsent q (p ∷ k.common)
          common_out q o =
              let m = now_within q o in
              ((absent_right q k.rest (p ∷ drop 1 k.x) (absent_right q k.common (k.rest ++ p ∷ drop 1 k.x) m)).0, absent_left q k.common (k.rest ++ p ∷ drop 1 k.x) m)

          pub sift_common : Parting cmp s u (k.common ++ p ∷ []) k.rest (drop 1 k.x) k.y → Sifting old new s u next right ends rest_ends (count + 1)
          sift_common parting =
              let after = after_apart k.common p (k.rest ++ drop 1 k.x) common_first in
              let e : (k.common ++ p ∷ []) ++ (k.rest ++ drop 1 k.x) ≡ k.common ++ p ∷ (k.rest ++ drop 1 k.x) = append_assoc k.common (p ∷ []) (k.rest ++ drop 1 k.x) in
              record {
                common = k.common ++ p ∷ [];
                rest = k.rest;
                x = drop 1 k.x;
                passed = k.passed;
                y = k.y;
                distinct = subst IsDistinct (sym e) common_first;
                common_vine = h.shows;
                rest_vine = vine_still n h (disjoint_front k.rest (drop 1 k.x) (p ∷ k.common) after) k.rest_vine;
                run = record { chain = run_still n h (drop 1 k.x) (disjoint_back k.rest (drop 1 k.x) (p ∷ k.common) after) left_rest.2; starts = is ∙ left_rest.1; placed = left_placed.1 };
                parting = parting;
                cut = k.cut;
                next = k.next;
                next_placed = k.next_placed;
                other = represents_frame k.other (absent_swap u s k.apart (p ∷ k.common) common_out) (hung_frame n h);
                apart = k.apart;
                adds_none = λ q o. subst (IsAbsent q) (sym e) (absent_moved q k.common k.rest p (drop 1 k.x) (now_within q o));
                extent = h.frame.extent ∙ k.extent;
                others = λ q o. (hung_frame n h).others q (common_out q o) ∙ k.others q o;
                counted = omega (arith, k.counted, length-append k.common (p ∷ []));
                all = omega (arith, k.all, ap length left_is);
              }

          pub sift_equal : standing cmp p right ≡ Equal → Sifting old new s u next right ends rest_ends (count + 1)
          sift_equal e = by right k.next e where
            by : (o : Option Place) → o ≡ first k.y → standing cmp p o ≡ Equal → Sifting old new s u next right ends rest_ends (count + 1)
            by None f e = cc
            by (Some b) f e =
                let y_is : k.y ≡ b ∷ drop 1 k.y = first_is k.y f in
                sift_common (subst (λ (z : List Place). Parting cmp s u (k.common ++ p ∷ []) k.rest (drop 1 k.x) z) (sym y_is)
                (parting_equal cmp (subst (λ (z : List Place). Parting cmp s u k.common k.rest (p ∷ drop 1 k.x) z) y_is parting_now) e))

        -- THE MEMBER p IS NOT COMMON: it is appended to the vine of the rest
        module _ {new : Table E} {ends : Ends} {next : Option Place} (is : next ≡ (n (mid.entry p)).right) (h : Inserts (RepresentsVine n) mid new ends (at_back k.rest) p) where
          rest_out : (q : Place) → IsAbsent q s → IsAbsent q (p ∷ k.rest)
          rest_out q o =
              let m = absent_right q k.common (k.rest ++ p ∷ drop 1 k.x) (now_within q o) in
              ((absent_right q k.rest (p ∷ drop 1 k.x) m).0, absent_left q k.rest (p ∷ drop 1 k.x) m)

          pub sift_rest : Parting cmp s u k.common (k.rest ++ p ∷ []) (drop 1 k.x) k.y → Sifting old new s u next right common_ends ends (count + 1)
          sift_rest parting =
              let after = after_apart k.rest p (drop 1 k.x) rest_first in
              let e : (k.rest ++ p ∷ []) ++ drop 1 k.x ≡ k.rest ++ p ∷ drop 1 k.x = append_assoc k.rest (p ∷ []) (drop 1 k.x) in
              record {
                common = k.common;
                rest = k.rest ++ p ∷ [];
                x = drop 1 k.x;
                passed = k.passed;
                y = k.y;
                distinct = subst (λ (z : List Place). IsDistinct (k.common ++ z)) (sym e) now_distinct;
                common_vine = vine_still n h (middle_apart k.common k.rest p (drop 1 k.x) now_distinct) k.common_vine;
                rest_vine = h.shows;
                run = record { chain = run_still n h (drop 1 k.x) after left_rest.2; starts = is ∙ left_rest.1; placed = left_placed.1 };
                parting = parting;
                cut = k.cut;
                next = k.next;
                next_placed = k.next_placed;
                other = represents_frame k.other (absent_swap u s k.apart (p ∷ k.rest) rest_out) (hung_frame n h);
                apart = k.apart;
                adds_none = λ q o. subst (λ (z : List Place). IsAbsent q (k.common ++ z)) (sym e) (now_within q o);
                extent = h.frame.extent ∙ k.extent;
                others = λ q o. (hung_frame n h).others q (rest_out q o) ∙ k.others q o;
                counted = omega (arith, k.counted, length-append k.rest (p ∷ []));
                all = omega (arith, k.all, ap length left_is);
              }

          pub sift_less : standing cmp p right ≡ Less → Sifting old new s u next right common_ends ends (count + 1)
          sift_less e = by right k.next e where
            by : (o : Option Place) → o ≡ first k.y → standing cmp p o ≡ Less → Sifting old new s u next right common_ends ends (count + 1)
            by None f e =
                let y_is : k.y ≡ [] = nothing_first k.y f in
                sift_rest (subst (λ (z : List Place). Parting cmp s u k.common (k.rest ++ p ∷ []) (drop 1 k.x) z) (sym y_is)
                (parting_alone cmp (subst (λ (z : List Place). Parting cmp s u k.common k.rest (p ∷ drop 1 k.x) z) y_is parting_now)))
            by (Some b) f e =
                let y_is : k.y ≡ b ∷ drop 1 k.y = first_is k.y f in
                sift_rest (subst (λ (z : List Place). Parting cmp s u k.common (k.rest ++ p ∷ []) (drop 1 k.x) z) (sym y_is)
                (parting_less cmp (subst (λ (z : List Place). Parting cmp s u k.common k.rest (p ∷ drop 1 k.x) z) y_is parting_now) e))

      -- THE NEXT MEMBER OF THE OTHER TREE IS LESS than the first member of the run, and it is passed
      module _ {b : Place} (there : right ≡ Some b) where
        right_is : k.y ≡ b ∷ drop 1 k.y
        right_is = first_is k.y (sym there ∙ k.next)

        whole : k.passed ++ b ∷ drop 1 k.y ≡ u
        whole = ap (λ (z : List Place). k.passed ++ z) (sym right_is) ∙ k.cut

        pub pass_safe : IsSafe n mid root (Some b ∷ [])
        pass_safe = safe_member k.passed b (drop 1 k.y) (subst (λ (z : List Place). Represents n mid root z) (sym whole) k.other)

        pub pass_there : is_placed objects b ≡ true
        pass_there = (subst (ArePlaced objects) right_is k.next_placed).0

        pub sift_greater : {p : Place} {next : Option Place} → left ≡ Some p → cmp p b ≡ Greater
            → ((gap : Cut) → Represents n mid root (join gap) → IsBeside Right gap right → IsBeside Left gap next) → Sifting old mid s u left next common_ends rest_ends (count + 1)
        sift_greater {p} {next} on greater leads =
            let x_is : k.x ≡ p ∷ drop 1 k.x = first_is k.x (sym on ∙ k.run.starts) in
            let e : (k.passed ++ b ∷ []) ++ drop 1 k.y ≡ u = append_assoc k.passed (b ∷ []) (drop 1 k.y) ∙ whole in
            record {
              common = k.common;
              rest = k.rest;
              x = k.x;
              passed = k.passed ++ b ∷ [];
              y = drop 1 k.y;
              distinct = k.distinct;
              common_vine = k.common_vine;
              rest_vine = k.rest_vine;
              run = k.run;
              parting = subst (λ (z : List Place). Parting cmp s u k.common k.rest z (drop 1 k.y)) (sym x_is)
                  (parting_greater cmp (subst (λ (z : List Place). Parting cmp s u k.common k.rest (p ∷ drop 1 k.x) z) right_is
                  (subst (λ (z : List Place). Parting cmp s u k.common k.rest z k.y) x_is k.parting)) greater);
              cut = e;
              next = leads (record { front = k.passed ++ b ∷ []; back = drop 1 k.y }) (subst (λ (z : List Place). Represents n mid root z) (sym e) k.other) (there ∙ sym (last_of_push k.passed b));
              next_placed = (subst (ArePlaced objects) right_is k.next_placed).1;
              other = k.other;
              apart = k.apart;
              adds_none = k.adds_none;
              extent = k.extent;
              others = k.others;
              counted = omega (arith, k.counted, length-append k.passed (b ∷ []));
              all = omega (arith, k.all, ap length right_is);
            }

      -- a step in the other tree is safe, if the first member of the run is greater than the next member of the other tree
      pub step_safe : (told : Place → Place → Ordering) (p : Place) → Greater ≡ standing told p right → IsSafe n mid root (right ∷ [])
      step_safe told p e = by right refl e where
        by : (o : Option Place) → right ≡ o → Greater ≡ standing told p o → IsSafe n mid root (right ∷ [])
        by None f e = cc
        by (Some b) f e = subst (λ (o : Option Place). IsSafe n mid root (o ∷ [])) (sym f) (pass_safe f)

      pub sift_pass : (p : Place) {next : Option Place} → left ≡ Some p → Greater ≡ standing cmp p right
          → ((gap : Cut) → Represents n mid root (join gap) → IsBeside Right gap right → IsBeside Left gap next) → Sifting old mid s u (Some p) next common_ends rest_ends (count + 1)
      sift_pass p {next} on e leads = by right refl e where
        by : (o : Option Place) → right ≡ o → Greater ≡ standing cmp p o → Sifting old mid s u (Some p) next common_ends rest_ends (count + 1)
        by None f e = cc
        by (Some b) f e = subst (λ (o : Option Place). Sifting old mid s u o next common_ends rest_ends (count + 1)) on (sift_greater f on (sym e) leads)

      -- AT THE END the run is empty, and the two vines have split it
      pub sifting_last : left ≡ None → PartsRun n cmp old mid common_ends rest_ends s u
      sifting_last no_left =
          let x_is : k.x ≡ [] = nothing_first k.x (sym no_left ∙ k.run.starts) in
          let d : IsDistinct (k.common ++ k.rest) = subst (λ (z : List Place). IsDistinct (k.common ++ z)) (append-nil k.rest) (subst (λ (z : List Place). IsDistinct (k.common ++ (k.rest ++ z))) x_is k.distinct) in (
            record {
              common = k.common;
              rest = k.rest;
              common_represented = k.common_vine;
              rest_represented = k.rest_vine;
              apart = distinct_disjoint k.common k.rest d;
              is = parting_last cmp (subst (λ (z : List Place). Parting cmp s u k.common k.rest z k.y) x_is k.parting);
              frame = record { extent = k.extent; others = k.others };
            },
            λ q o. let m = k.adds_none q o in
                absent_both q k.common k.rest (absent_left q k.common (k.rest ++ k.x) m) (absent_left q k.rest k.x (absent_right q k.common (k.rest ++ k.x) m)),
          )
