-- Lemmas on searches by sums: in the subtree at a place, among the members after this subtree, and in a whole tree.
use Rattle.std.proofs.Common.{◌≡◌, ◌≤◌, ◌<◌, ◌-◌, ℕ, Bool, true, false, Option, Some, None, List, [], ◌∷◌, ◌++◌, length, refl, sym, ap, ◌∙◌, subst, arith, append_assoc, append-nil}
use Rattle.std.proofs.Math.Nat.{le-max_left, le-max_right}
use Rattle.ic_link_ops.specs.Prelude.{Place, Cut, join, but_last, IsAfter, Table, IsTree, Tree, leaf, fork, top, in_order, times_in, is_end}
use Rattle.ic_link_ops.specs.declared.color.Color.{Color}
use Rattle.ic_link_ops.specs.declared.side.Side.TheVariants.{Left, Right}
use Rattle.ic_link_ops.specs.Frames.{Frame, frame, plug, before, after}
use Rattle.ic_link_ops.proofs.Prelude.{none_not, some_same, nothing_last, split_last, times_plug, times_order, is_end_yes, is_end_no}
use Rattle.ic_rbtree.specs.Prelude.{IsClosed, IsIn, height}
use Rattle.ic_rbtree.proofs.Climbed.{path_few}
use Rattle.ic_raw_augmented.specs.Subtrees.{IsSubtree}
use Rattle.ic_raw_augmented.proofs.Subtrees.{MemberSubtree, lower, member_subtree, subtree_left, subtree_parent, subtree_right}
use Rattle.ic_raw.specs.declared.words.RawThree.{RawThree}
use Rattle.ic_raw.specs.Prelude.{seen, seen_node, IsSeen}
use Rattle.ic_raw_augmented.specs.declared.sums.Kind.{Kind}
use Rattle.ic_raw_augmented.specs.declared.sums.RawSum.{RawSum}
use Rattle.ic_raw_augmented.specs.Find.{IsFirstBeyond}
use Rattle.ic_raw_augmented.specs.Sums.{IsSummed, IsSummedTree, combined, next_end, sum_below, total, value_at}
use Rattle.ic_raw_augmented.proofs.Totals.{sum_is, summed_all, summed_part, times_top, total_append, total_push}

-- the first member beyond a bound stays the first if more members follow it. It also stays the first if the members `mid` before it move from `done` into the
-- searched members
module _ (kind : Kind) (value : Place → ℕ) where
  pub beyond_more : (done : List Place) (bound : ℕ) (s rest : List Place) (m : Place) → IsFirstBeyond kind value done bound s (Some m) → IsFirstBeyond kind value done bound (s ++ rest) (Some m)
  beyond_more done bound s rest m h = (h.0, h.1 ++ rest, ap (λ (y : List Place). y ++ rest) h.2 ∙ append_assoc h.0 (m ∷ h.1) rest, h.3, h.4)

  pub beyond_past : (done mid : List Place) (bound : ℕ) (s : List Place) (o : Option Place) → IsFirstBeyond kind value (done ++ mid) bound s o → IsFirstBeyond kind value done bound (mid ++ s) o
  beyond_past done mid bound s None h = subst (λ (y : List Place). total kind value y ≤ bound) (append_assoc done mid s) h
  beyond_past done mid bound s (Some m) h = (
    mid ++ h.0,
    h.1,
    ap (λ (y : List Place). mid ++ y) h.2 ∙ sym (append_assoc mid h.0 (m ∷ h.1)),
    subst (λ (y : List Place). total kind value y ≤ bound) (append_assoc done mid h.0) h.3,
    subst (λ (y : List Place). bound < total kind value y) (append_assoc done mid (h.0 ++ m ∷ []) ∙ ap (λ (y : List Place). done ++ y) (sym (append_assoc mid h.0 (m ∷ [])))) h.4,
  )

member_cut : (cut : Cut) (p : Place) → IsAfter cut (Some p) → join cut ≡ but_last cut.front ++ p ∷ cut.back
member_cut cut p at = ap (λ (y : List Place). y ++ cut.back) (split_last cut.front (sym at)) ∙ append_assoc (but_last cut.front) (p ∷ []) cut.back

module _ (kind : Kind) (t : Table RawThree) (sums : List RawSum) where
  abbrev value : Place → ℕ
  value = value_at sums

  -- a search among the members u found the first one beyond the bound, if the values of s come before those of u
  abbrev pub Found : List Place → ℕ → List Place → Option Place → Type 0
  Found s bound u result = (m : Place) × (result ≡ Some m) × IsFirstBeyond kind value s bound u (Some m)

  abbrev pub FindsIn : Option Place → Tree → (done bound turns : ℕ) → Option Place → Type 0
  FindsIn up u done bound turns result = (s : List Place) → IsTree seen_node (seen t).entry up u → IsSummedTree kind t sums u → height u ≤ turns → done ≡ total kind value s → done ≤ bound
      → bound < total kind value (s ++ in_order u) → Found s bound (in_order u) result

  abbrev pub FindsBelow : Option Place → (done bound turns : ℕ) → Option Place → Type 0
  FindsBelow o done bound turns result = (up : Option Place) (u : Tree) (s : List Place) → IsTree seen_node (seen t).entry up u → top u ≡ o → IsSummedTree kind t sums u → height u ≤ turns
      → done ≡ total kind value s → done ≤ bound → bound < total kind value (s ++ in_order u) → Found s bound (in_order u) result

  -- the search in the subtree at p: the left subtree of p is searched first, then p itself, and then the right subtree of p
  module _ (p : Place) (left right : Option Place) (el : left ≡ (seen_node ((seen t).entry p)).left) (er : right ≡ (seen_node ((seen t).entry p)).right) (done bound turns : ℕ)
      (before_it with_it : ℕ) (eb : before_it ≡ combined kind done (sum_below sums left)) (ew : with_it ≡ combined kind before_it (value p)) where
    at_place : (up : Option Place) (result : Option Place) → ((c : Color) (a b : Tree) → FindsIn up (fork c a p b) done bound turns result) → (u : Tree) → top u ≡ Some p
        → FindsIn up u done bound turns result
    at_place up result f leaf e = absurd (none_not p e)
    at_place up result f (fork c a q b) e = subst (λ (y : Place). FindsIn up (fork c a y b) done bound turns result) (sym (some_same e)) (f c a b)

    with_left : (s : List Place) (up : Option Place) (c : Color) (a b : Tree) → IsTree seen_node (seen t).entry up (fork c a p b) → IsSummedTree kind t sums (fork c a p b) → done ≡ total kind value s
        → before_it ≡ total kind value (s ++ in_order a)
    with_left s up c a b h r ed =
        let el' : sum_below sums left ≡ total kind value (in_order a) = ap (sum_below sums) (el ∙ h.0.left) ∙ sum_is kind t sums (Some p) a h.1 r.1 in
        eb ∙ ((λ i. combined kind (ed i) (el' i)) ∙ sym (total_append kind value s (in_order a)))

    with_place : (s : List Place) (up : Option Place) (c : Color) (a b : Tree) → IsTree seen_node (seen t).entry up (fork c a p b) → IsSummedTree kind t sums (fork c a p b) → done ≡ total kind value s
        → with_it ≡ total kind value (s ++ (in_order a ++ p ∷ []))
    with_place s up c a b h r ed =
        ew ∙ (ap (λ (x : ℕ). combined kind x (value p)) (with_left s up c a b h r ed)
        ∙ (sym (total_push kind value (s ++ in_order a) p) ∙ ap (total kind value) (append_assoc s (in_order a) (p ∷ []))))

    pub below_left : (next : Place) (result : Option Place) → left ≡ Some next → bound < before_it → FindsBelow (Some next) done bound (turns - 1) result
        → FindsBelow (Some p) done bound turns result
    below_left next result is more found up u s h e r low = at_place up result (λ c a b s h r low ed lo hi.
        let split = with_left s up c a b h r ed in
        let k = found (Some p) a s h.1 (sym h.0.left ∙ (sym el ∙ is)) r.1 (omega (arith, low, le-max_left (height a) (height b))) ed lo (omega (arith, split, more)) in
        (k.0, k.1, beyond_more kind value s bound (in_order a) (p ∷ in_order b) k.0 k.2)) u e s h r low

    pub below_no_left : (result : Option Place) → left ≡ None → bound < before_it → FindsBelow (Some p) done bound turns result
    below_no_left result is more up u s h e r low = at_place up result (λ c a b s h r low ed lo hi.
        let split = with_left s up c a b h r ed in
        let none : in_order a ≡ [] = empty a (sym h.0.left ∙ (sym el ∙ is)) in
        let same : total kind value (s ++ in_order a) ≡ total kind value s = ap (total kind value) (ap (λ (y : List Place). s ++ y) none ∙ append-nil s) in
        absurd (omega (arith, split, same, ed, lo, more))) u e s h r low where
          empty : (a : Tree) → top a ≡ None → in_order a ≡ []
          empty leaf e = refl
          empty (fork c x q y) e = absurd (none_not q (sym e))

    pub below_here : before_it ≤ bound → bound < with_it → FindsBelow (Some p) done bound turns (Some p)
    below_here less more up u s h e r low = at_place up (Some p) (λ c a b s h r low ed lo hi.
        let split = with_left s up c a b h r ed in
        let here = with_place s up c a b h r ed in
        (p, refl, (in_order a, in_order b, refl, omega (arith, split, less), omega (arith, here, more)))) u e s h r low

    pub below_right : (next : Place) (result : Option Place) → right ≡ Some next → with_it ≤ bound
        → FindsBelow (Some next) with_it bound (turns - 1) result → FindsBelow (Some p) done bound turns result
    below_right next result is less found up u s h e r low = at_place up result (λ c a b s h r low ed lo hi.
        let mid : List Place = in_order a ++ p ∷ [] in
        let here = with_place s up c a b h r ed in
        let parts : mid ++ in_order b ≡ in_order a ++ p ∷ in_order b = append_assoc (in_order a) (p ∷ []) (in_order b) in
        let whole : (s ++ mid) ++ in_order b ≡ s ++ (in_order a ++ p ∷ in_order b) = append_assoc s mid (in_order b) ∙ ap (λ (y : List Place). s ++ y) parts in
        let k = found (Some p) b (s ++ mid) h.2 (sym h.0.right ∙ (sym er ∙ is)) r.2 (omega (arith, low, le-max_right (height a) (height b))) here less
        (subst (λ (y : List Place). bound < total kind value y) (sym whole) hi) in
        (k.0, k.1, subst (λ (y : List Place). IsFirstBeyond kind value s bound y (Some k.0)) parts (beyond_past kind value s mid bound (in_order b) (Some k.0) k.2))) u e s h r low

    pub below_no_right : (result : Option Place) → right ≡ None → with_it ≤ bound → FindsBelow (Some p) done bound turns result
    below_no_right result is less up u s h e r low = at_place up result (λ c a b. last c a b) u e s h r low where
      last : (c : Color) (a b : Tree) → FindsIn up (fork c a p b) done bound turns result
      last c a leaf s h r low ed lo hi = let here = with_place s up c a leaf h r ed in absurd (omega (arith, here, less, hi))
      last c a (fork d x q y) s h r low ed lo hi = absurd (none_not q (sym is ∙ (er ∙ h.0.right)))

  -- if no turn of the loop is left, there is no subtree with the root p that is low enough
  pub below_spent : (p : Place) (done bound turns : ℕ) (result : Option Place) → turns ≡ 0 → FindsBelow (Some p) done bound turns result
  below_spent p done bound turns result none up leaf s h e r low ed lo hi = absurd (none_not p e)
  below_spent p done bound turns result none up (fork c a q b) s h e r low ed lo hi = absurd (omega (arith, none, low))

  -- a search up from p finds the first member beyond the bound among the members after the subtree at p
  abbrev pub FindsAbove : Place → (done bound turns : ℕ) → Option (Option Place) → Type 0
  FindsAbove p done bound turns result = (fs : List Frame) (u : Tree) (s : List Place) → IsSubtree seen_node (seen t) fs u → top u ≡ Some p → IsSummedTree kind t sums (plug fs u) → length fs < turns
      → done ≡ total kind value s → done ≤ bound → (position : Option Place) × (result ≡ Some position) × IsFirstBeyond kind value s bound (after fs) position

  abbrev pub SumsAbove : Place → (done turns : ℕ) → Option ℕ → Type 0
  SumsAbove p done turns result = (fs : List Frame) (u : Tree) (s : List Place) → IsSubtree seen_node (seen t) fs u → top u ≡ Some p → IsSummedTree kind t sums (plug fs u) → length fs < turns
      → done ≡ total kind value s → result ≡ Some (total kind value (before fs ++ s))

  no_turns : {X : Type 0} (fs : List Frame) (turns : ℕ) → turns ≡ 0 → length fs < turns → X
  no_turns fs turns none less = absurd (omega (arith, none, less))

  pub above_spent : (p : Place) (done bound turns : ℕ) (result : Option (Option Place)) → turns ≡ 0 → FindsAbove p done bound turns result
  above_spent p done bound turns result none fs u s k e r less = no_turns fs turns none less

  pub sums_spent : (p : Place) (done turns : ℕ) (result : Option ℕ) → turns ≡ 0 → SumsAbove p done turns result
  sums_spent p done turns result none fs u s k e r less = no_turns fs turns none less

  -- if p has no parent, no member comes after the subtree at p, so the search finds none
  pub above_none : (p : Place) (done bound turns : ℕ) → (seen_node ((seen t).entry p)).parent ≡ None → FindsAbove p done bound turns (Some None)
  above_none p done bound turns none [] u s k e r less ed lo = (None, refl, let same = ap (total kind value) (append-nil s) in omega (arith, same, ed, lo))
  above_none p done bound turns none (frame d c q b ∷ fs) u s k e r less ed lo = absurd (none_not q (sym none ∙ subtree_parent seen_node (seen t) (frame d c q b ∷ fs) u p k e))

  pub sums_none : (p : Place) (done turns : ℕ) → (seen_node ((seen t).entry p)).parent ≡ None → SumsAbove p done turns (Some done)
  sums_none p done turns none [] u s k e r less ed = ap Some ed
  sums_none p done turns none (frame d c q b ∷ fs) u s k e r less ed = absurd (none_not q (sym none ∙ subtree_parent seen_node (seen t) (frame d c q b ∷ fs) u p k e))

  module _ (p up : Place) (named : (seen_node ((seen t).entry p)).parent ≡ Some up) (turns : ℕ) where
    -- the subtree at p is the left subtree of `up`, the parent of p
    record IsLeft (fs : List Frame) (u : Tree) : Type 0 where
      c : Color
      b : Tree
      gs : List Frame
      is : fs ≡ frame Left c up b ∷ gs

    record IsRight (fs : List Frame) (u : Tree) : Type 0 where
      c : Color
      b : Tree
      gs : List Frame
      is : fs ≡ frame Right c up b ∷ gs

    on_right : (fs : List Frame) (u : Tree) → IsSubtree seen_node (seen t) fs u → top u ≡ Some p → is_end (seen_node ((seen t).entry up)).right p ≡ true → IsRight fs u
    on_right [] u k e side = absurd (none_not up (sym (subtree_parent seen_node (seen t) [] u p k e) ∙ named))
    on_right (frame Left c q b ∷ fs) u k e side =
        let one : q ≡ up = some_same (sym (subtree_parent seen_node (seen t) (frame Left c q b ∷ fs) u p k e) ∙ named) in
        let twice : top b ≡ Some p =
        sym k.around.0.right ∙ (ap (λ (y : Place). (seen_node ((seen t).entry y)).right) one ∙ is_end_yes (seen_node ((seen t).entry up)).right p side) in
        absurd (omega (arith, k.once p, times_plug p fs (fork c u q b), times_top p u e, times_top p b twice))
    on_right (frame Right c q b ∷ fs) u k e side =
        let one : q ≡ up = some_same (sym (subtree_parent seen_node (seen t) (frame Right c q b ∷ fs) u p k e) ∙ named) in
        record { c = c; b = b; gs = fs; is = ap (λ (y : Place). frame Right c y b ∷ fs) one }

    on_left : (fs : List Frame) (u : Tree) → IsSubtree seen_node (seen t) fs u → top u ≡ Some p → is_end (seen_node ((seen t).entry up)).right p ≡ false → IsLeft fs u
    on_left [] u k e side = absurd (none_not up (sym (subtree_parent seen_node (seen t) [] u p k e) ∙ named))
    on_left (frame Right c q b ∷ fs) u k e side =
        let one : q ≡ up = some_same (sym (subtree_parent seen_node (seen t) (frame Right c q b ∷ fs) u p k e) ∙ named) in
        absurd (is_end_no (seen_node ((seen t).entry up)).right p side (ap (λ (y : Place). (seen_node ((seen t).entry y)).right) (sym one) ∙ (k.around.0.right ∙ e)))
    on_left (frame Left c q b ∷ fs) u k e side =
        let one : q ≡ up = some_same (sym (subtree_parent seen_node (seen t) (frame Left c q b ∷ fs) u p k e) ∙ named) in
        record { c = c; b = b; gs = fs; is = ap (λ (y : Place). frame Left c y b ∷ fs) one }

    module _ (done bound : ℕ) where
      abbrev FindsAt : List Frame → Option (Option Place) → Type 0
      FindsAt fs result = (u : Tree) (s : List Place) → IsSubtree seen_node (seen t) fs u → top u ≡ Some p → IsSummedTree kind t sums (plug fs u) → length fs < turns → done ≡ total kind value s
          → done ≤ bound → (position : Option Place) × (result ≡ Some position) × IsFirstBeyond kind value s bound (after fs) position

      pub above_right : (result : Option (Option Place)) → is_end (seen_node ((seen t).entry up)).right p ≡ true → FindsAbove up done bound (turns - 1) result → FindsAbove p done bound turns result
      above_right result side found fs u s k e =
          let x = on_right fs u k e side in
          subst (λ (gs : List Frame). FindsAt gs result) (sym x.is) (λ u s k e r less ed lo.
          found x.gs (fork x.c x.b up u) s (subtree_right seen_node (seen t) x.c up x.b x.gs u k) refl r (omega (arith, less)) ed lo) u s k e

      from_left : (result : Option (Option Place)) → is_end (seen_node ((seen t).entry up)).right p ≡ false
          → ((c : Color) (b : Tree) (gs : List Frame) → FindsAt (frame Left c up b ∷ gs) result) → FindsAbove p done bound turns result
      from_left result side f fs u s k e = let x = on_left fs u k e side in subst (λ (gs : List Frame). FindsAt gs result) (sym x.is) (f x.c x.b x.gs) u s k e

      pub above_here : (with_it : ℕ) → with_it ≡ combined kind done (value up) → is_end (seen_node ((seen t).entry up)).right p ≡ false → bound < with_it → FindsAbove p done bound turns (Some (Some up))
      above_here with_it ei side more = from_left (Some (Some up)) side (λ c b gs u s k e r less ed lo.
          let same = ap (total kind value) (append-nil s) in
          let push : with_it ≡ total kind value (s ++ up ∷ []) = ei ∙ (ap (λ (x : ℕ). combined kind x (value up)) ed ∙ sym (total_push kind value s up)) in
          (Some up, refl, ([], in_order b ++ after gs, refl, omega (arith, same, ed, lo), omega (arith, push, more))))

      module _ (right : Option Place) (er : right ≡ (seen_node ((seen t).entry up)).right) (with_it with_right : ℕ) (ei : with_it ≡ combined kind done (value up))
          (ej : with_right ≡ combined kind with_it (sum_below sums right)) (less_here : with_it ≤ bound) (side : is_end (seen_node ((seen t).entry up)).right p ≡ false) where
        push : (s : List Place) → done ≡ total kind value s → with_it ≡ total kind value (s ++ up ∷ [])
        push s ed = ei ∙ (ap (λ (x : ℕ). combined kind x (value up)) ed ∙ sym (total_push kind value s up))

        through : (s : List Place) (c : Color) (u b : Tree) (gs : List Frame) → IsSubtree seen_node (seen t) (frame Left c up b ∷ gs) u → IsSummedTree kind t sums (plug (frame Left c up b ∷ gs) u)
            → done ≡ total kind value s → with_right ≡ total kind value ((s ++ up ∷ []) ++ in_order b)
        through s c u b gs k r ed =
            let part = summed_part kind t sums gs (fork c u up b) r in
            let below : sum_below sums right ≡ total kind value (in_order b) = ap (sum_below sums) (er ∙ k.around.0.right) ∙ sum_is kind t sums (Some up) b k.around.1 part.2 in
            ej ∙ ((λ i. combined kind (push s ed i) (below i)) ∙ sym (total_append kind value (s ++ up ∷ []) (in_order b)))

        pub above_below : (next : Place) (result : Option Place) → right ≡ Some next → bound < with_right
            → FindsBelow (Some next) with_it bound 67 result → (m : Place) → result ≡ Some m → FindsAbove p done bound turns (Some (Some m))
        above_below next result is more found m em = from_left (Some (Some m)) side (λ c b gs u s k e r less ed lo.
            let part = summed_part kind t sums gs (fork c u up b) r in
            let low : height b ≤ 67 = omega (arith, lower gs (fork c u up b), k.low, le-max_right (height u) (height b)) in
            let split = through s c u b gs k r ed in
            let f = found (Some up) b (s ++ up ∷ []) k.around.1 (sym k.around.0.right ∙ (sym er ∙ is)) part.2 low (push s ed) less_here (omega (arith, split, more)) in
            let one : f.0 ≡ m = some_same (sym f.1 ∙ em) in
            (Some f.0, ap (λ (y : Place). Some (Some y)) (sym one), beyond_past kind value s (up ∷ []) bound (in_order b ++ after gs) (Some f.0) (beyond_more kind value (s ++ up ∷ []) bound (in_order b) (after gs) f.0 f.2)))

        -- the search in the right subtree of the parent cannot fail if the words represent a tree with right sums
        pub above_fails : (next : Place) (result : Option Place) (r : Option (Option Place)) → right ≡ Some next → bound < with_right
            → FindsBelow (Some next) with_it bound 67 result → result ≡ None → FindsAbove p done bound turns r
        above_fails next result out is more found em = from_left out side (λ c b gs u s k e r less ed lo.
            let part = summed_part kind t sums gs (fork c u up b) r in
            let low : height b ≤ 67 = omega (arith, lower gs (fork c u up b), k.low, le-max_right (height u) (height b)) in
            let split = through s c u b gs k r ed in
            let f = found (Some up) b (s ++ up ∷ []) k.around.1 (sym k.around.0.right ∙ (sym er ∙ is)) part.2 low (push s ed) less_here (omega (arith, split, more)) in
            absurd (none_not f.0 (sym em ∙ f.1)))

        pub above_no_right : (r : Option (Option Place)) → right ≡ None → bound < with_right → FindsAbove p done bound turns r
        above_no_right out is more = from_left out side (λ c b gs. nothing c b gs) where
          nothing : (c : Color) (b : Tree) (gs : List Frame) → FindsAt (frame Left c up b ∷ gs) out
          nothing c leaf gs u s k e r less ed lo =
              let split = through s c u leaf gs k r ed in
              let same = ap (total kind value) (append-nil (s ++ up ∷ [])) in
              let here = push s ed in
              absurd (omega (arith, split, same, here, less_here, more))
          nothing c (fork d x q y) gs u s k e r less ed lo = absurd (none_not q (sym is ∙ (er ∙ k.around.0.right)))

        pub above_on : (result : Option (Option Place)) → with_right ≤ bound
            → FindsAbove up with_right bound (turns - 1) result → FindsAbove p done bound turns result
        above_on result low found = from_left result side (λ c b gs u s k e r less ed lo.
            let f = found gs (fork c u up b) ((s ++ up ∷ []) ++ in_order b) (subtree_left seen_node (seen t) c up b gs u k) refl r (omega (arith, less)) (through s c u b gs k r ed) low in
            (f.0, f.1, beyond_past kind value s (up ∷ []) bound (in_order b ++ after gs) f.0 (beyond_past kind value (s ++ up ∷ []) (in_order b) bound (after gs) f.0 f.2)))

    -- `result` combines the values of all members before the subtree at p with `done`
    module _ (done : ℕ) where
      abbrev SumsAt : List Frame → Option ℕ → Type 0
      SumsAt fs result = (u : Tree) (s : List Place) → IsSubtree seen_node (seen t) fs u → top u ≡ Some p → IsSummedTree kind t sums (plug fs u) → length fs < turns → done ≡ total kind value s
          → result ≡ Some (total kind value (before fs ++ s))

      pub sums_left : (result : Option ℕ) → is_end (seen_node ((seen t).entry up)).right p ≡ false → SumsAbove up done (turns - 1) result → SumsAbove p done turns result
      sums_left result side found fs u s k e =
          let x = on_left fs u k e side in
          subst (λ (gs : List Frame). SumsAt gs result) (sym x.is) (λ u s k e r less ed.
          found x.gs (fork x.c u up x.b) s (subtree_left seen_node (seen t) x.c up x.b x.gs u k) refl r (omega (arith, less)) ed) u s k e

      pub sums_right : (left : Option Place) (result : Option ℕ) (with_it with_left : ℕ) → left ≡ (seen_node ((seen t).entry up)).left → with_it ≡ combined kind (value up) done
          → with_left ≡ combined kind (sum_below sums left) with_it → is_end (seen_node ((seen t).entry up)).right p ≡ true → SumsAbove up with_left (turns - 1) result → SumsAbove p done turns result
      sums_right left result with_it with_left el ei ej side found fs u s k e =
          let x = on_right fs u k e side in
          subst (λ (gs : List Frame). SumsAt gs result) (sym x.is) (λ u s k e r less ed.
          let part = summed_part kind t sums x.gs (fork x.c x.b up u) r in
          let below : sum_below sums left ≡ total kind value (in_order x.b) = ap (sum_below sums) (el ∙ k.around.0.left) ∙ sum_is kind t sums (Some up) x.b k.around.1 part.1 in
          let all : with_left ≡ total kind value (in_order x.b ++ up ∷ s) =
          ej ∙ (ap (combined kind (sum_below sums left)) ei ∙ ((λ i. combined kind (below i) (combined kind (value up) (ed i))) ∙ sym (total_append kind value (in_order x.b) (up ∷ s)))) in
          let parts : (before x.gs ++ (in_order x.b ++ up ∷ [])) ++ s ≡ before x.gs ++ (in_order x.b ++ up ∷ s) =
          append_assoc (before x.gs) (in_order x.b ++ up ∷ []) s ∙ ap (λ (y : List Place). before x.gs ++ y) (append_assoc (in_order x.b) (up ∷ []) s) in
          found x.gs (fork x.c x.b up u) (in_order x.b ++ up ∷ s) (subtree_right seen_node (seen t) x.c up x.b x.gs u k) refl r (omega (arith, less)) all
          ∙ ap (λ (y : List Place). Some (total kind value y)) (sym parts)) u s k e

  -- if the sums are right at each member of the represented sequence s, they are right in the represented tree
  module _ {root : Option Place} where
    whole_summed : (s : List Place) (h : IsSeen t root s) → IsSummed kind t sums s → IsSummedTree kind t sums h.tree
    whole_summed s h r = summed_all kind t sums s h.tree (λ q. sym (times_order q h.tree) ∙ ap (times_in q) h.held.order) r

    -- a search from the root searches all members
    module _ (cut : Cut) (h : IsSeen t root (join cut)) (at : IsAfter cut None) (r : IsSummed kind t sums (join cut)) where
      first_part : cut.front ≡ []
      first_part = nothing_last cut.front at

      whole : in_order h.tree ≡ cut.back
      whole = h.held.order ∙ ap (λ (y : List Place). y ++ cut.back) first_part

      root_sum : sum_below sums root ≡ total kind value cut.back
      root_sum = ap (sum_below sums) h.starts ∙ (sum_is kind t sums None h.tree h.held.entries (whole_summed (join cut) h r) ∙ ap (total kind value) whole)

      pub none_from_root : (bound : ℕ) → sum_below sums root ≤ bound → IsFirstBeyond kind value [] bound cut.back None
      none_from_root bound less = let sum = root_sum in omega (arith, sum, less)

      pub found_from_root : (bound : ℕ) (next : Place) (result : Option Place) → root ≡ Some next → bound < sum_below sums root → FindsBelow (Some next) 0 bound 67 result
          → Found [] bound cut.back result
      found_from_root bound next result is more found =
          let low : height h.tree ≤ 66 = path_few seen_node h [] h.tree (height h.tree) refl (omega arith) in
          let sum = root_sum in
          let k = found None h.tree [] h.held.entries (sym h.starts ∙ is) (whole_summed (join cut) h r) (omega (arith, low)) refl (omega arith)
          (subst (λ (y : List Place). bound < total kind value y) (sym whole) (omega (arith, sum, more))) in
          (k.0, k.1, subst (λ (y : List Place). IsFirstBeyond kind value [] bound y (Some k.0)) whole k.2)

    -- a search from the member p searches the members after p
    module _ (front : List Place) (p : Place) (back : List Place) (h : IsSeen t root (front ++ p ∷ back)) (r : IsSummed kind t sums (front ++ p ∷ back)) where
      there : MemberSubtree seen_node (seen t) h.tree front p back
      there = member_subtree seen_node (seen t) root front p back h

      there_summed : IsSummedTree kind t sums (plug there.fs (fork there.c there.a p there.b))
      there_summed = subst (λ (u : Tree). IsSummedTree kind t sums u) (sym there.same) (whole_summed (front ++ p ∷ back) h r)

      here : IsSummedTree kind t sums (fork there.c there.a p there.b)
      here = summed_part kind t sums there.fs (fork there.c there.a p there.b) there_summed

      pub found_after : (right : Option Place) → right ≡ (seen_node ((seen t).entry p)).right → (bound : ℕ) (next : Place) (result : Option Place) → right ≡ Some next
          → bound < sum_below sums right → FindsBelow (Some next) 0 bound 67 result → Found [] bound back result
      found_after right er bound next result is more found =
          let k = there.subtree in
          let sum : sum_below sums right ≡ total kind value (in_order there.b) = ap (sum_below sums) (er ∙ k.tree.0.right) ∙ sum_is kind t sums (Some p) there.b k.tree.2 here.2 in
          let low : height there.b ≤ 67 = omega (arith, lower there.fs (fork there.c there.a p there.b), k.low, le-max_right (height there.a) (height there.b)) in
          let f = found (Some p) there.b [] k.tree.2 (sym k.tree.0.right ∙ (sym er ∙ is)) here.2 low refl (omega arith) (omega (arith, sum, more)) in
          (f.0, f.1, subst (λ (y : List Place). IsFirstBeyond kind value [] bound y (Some f.0)) there.back_is (beyond_more kind value [] bound (in_order there.b) (after there.fs) f.0 f.2))

      pub found_above : (right : Option Place) → right ≡ (seen_node ((seen t).entry p)).right → (bound : ℕ) (result : Option (Option Place)) → sum_below sums right ≤ bound
          → FindsAbove p (sum_below sums right) bound 67 result → (position : Option Place) × (result ≡ Some position) × IsFirstBeyond kind value [] bound back position
      found_above right er bound result less found =
          let k = there.subtree in
          let sum : sum_below sums right ≡ total kind value (in_order there.b) = ap (sum_below sums) (er ∙ k.tree.0.right) ∙ sum_is kind t sums (Some p) there.b k.tree.2 here.2 in
          let f = found there.fs (fork there.c there.a p there.b) (in_order there.b) k refl there_summed (let low = there.low in omega (arith, low)) sum less in
          (f.0, f.1, subst (λ (y : List Place). IsFirstBeyond kind value [] bound y f.0) there.back_is (beyond_past kind value [] (in_order there.b) bound (after there.fs) f.0 f.2))

      pub summed_before : (left : Option Place) → left ≡ (seen_node ((seen t).entry p)).left → (result : Option ℕ) → SumsAbove p (sum_below sums left) 67 result → result ≡ Some (total kind value front)
      summed_before left el result found =
          let k = there.subtree in
          let sum : sum_below sums left ≡ total kind value (in_order there.a) = ap (sum_below sums) (el ∙ k.tree.0.left) ∙ sum_is kind t sums (Some p) there.a k.tree.1 here.1 in
          found there.fs (fork there.c there.a p there.b) (in_order there.a) k refl there_summed (let low = there.low in omega (arith, low)) sum
          ∙ ap (λ (y : List Place). Some (total kind value y)) there.front_is

    -- a search after the member `at`, or from the root if `at` is none, finds the first member beyond the bound among the members `cut.back`
    module _ (cut : Cut) where
      pub found_next : (at below : Option Place) → below ≡ next_end t root at → (bound : ℕ) (next : Place) (result : Option Place) → below ≡ Some next → bound < sum_below sums below
          → FindsBelow (Some next) 0 bound 67 result → IsSeen t root (join cut) → IsAfter cut at → IsSummed kind t sums (join cut) → Found [] bound cut.back result
      found_next None below eb bound next result is more found h at r =
          found_from_root cut h at r bound next result (sym eb ∙ is) (subst (λ (o : Option Place). bound < sum_below sums o) eb more) found
      found_next (Some p) below eb bound next result is more found h at r =
          let same = member_cut cut p at in
          found_after (but_last cut.front) p cut.back (subst (λ (s : List Place). IsSeen t root s) same h) (subst (λ (s : List Place). IsSummed kind t sums s) same r) below eb bound next result is more found

      pub found_on : (p : Place) (below : Option Place) → below ≡ (seen_node ((seen t).entry p)).right → (bound : ℕ) (result : Option (Option Place)) → sum_below sums below ≤ bound
          → FindsAbove p (sum_below sums below) bound 67 result → IsSeen t root (join cut) → IsAfter cut (Some p) → IsSummed kind t sums (join cut)
          → (position : Option Place) × (result ≡ Some position) × IsFirstBeyond kind value [] bound cut.back position
      found_on p below eb bound result less found h at r =
          let same = member_cut cut p at in
          found_above (but_last cut.front) p cut.back (subst (λ (s : List Place). IsSeen t root s) same h) (subst (λ (s : List Place). IsSummed kind t sums s) same r) below eb bound result less found

      pub none_on : (below : Option Place) → below ≡ root → (bound : ℕ) → sum_below sums below ≤ bound → IsSeen t root (join cut) → IsAfter cut None → IsSummed kind t sums (join cut)
          → IsFirstBeyond kind value [] bound cut.back None
      none_on below eb bound less h at r = none_from_root cut h at r bound (subst (λ (o : Option Place). sum_below sums o ≤ bound) eb less)

  -- the member m that a search in a subtree has found is the position that the whole search returns
  pub is_position : (bound : ℕ) (s : List Place) (result : Option Place) (m : Place) → Found [] bound s result → result ≡ Some m
      → (position : Option Place) × (Some (Some m) ≡ Some position) × IsFirstBeyond kind value [] bound s position
  is_position bound s result m f em = let one : f.0 ≡ m = some_same (sym f.1 ∙ em) in (Some f.0, ap (λ (y : Place). Some (Some y)) (sym one), f.2)

-- a closed set S, out of which no link leads, is also closed if the root need not be in S. The place at which a search after the member `at` of S begins is in
-- S
unfoldable pub unrooted : {t : Table RawThree} {root : Option Place} {S : Place → Bool} → IsClosed seen_node (seen t) root S → IsClosed seen_node (seen t) None S
unrooted h = record { linked = h.linked; left = h.left; right = h.right; parent = h.parent; starts = tt }

pub next_in : (t : Table RawThree) (root at : Option Place) (S : Place → Bool) → IsClosed seen_node (seen t) root S → IsIn S at → IsIn S (next_end t root at)
next_in t root None S closed i = closed.starts
next_in t root (Some p) S closed i = closed.right p i (none_not p)
