-- Lemmas which say that each call of an allocator maintains `Keeps`, how the allocator's regions change, and what its searches find.
use Rattle.std.proofs.Common.{◌≡◌, ◌≢◌, ◌<◌, ◌↔◌, ℕ, nat_lt, map, Option, Some, None, IsSome, List, [], ◌∷◌, ◌++◌, refl, sym, ap, ◌∙◌, subst, arith, true≢false, ◌≤◌, ◌-◌, Bool, true, false, cond, nat_cmp, is_ge}
use Rattle.std.proofs.lemmas.Bool.{lt-ltb, not-true, not-false, ltb-true, ltb-false}
use Rattle.std.proofs.lemmas.Bool.Decides.{nat_tests}
use Rattle.std.proofs.lemmas.List.Elements.{filter_map-append}
use Rattle.std.specs.List.{AllByRecursion, cons_option, filter}
use Rattle.ic_link_ops.specs.Prelude.{Place, index_of, Objects, Places, Frees, object_at, with_object, Cut, join, first, last, but_last, LinksAlso, Unlinks, HasMember, ArePlaced, values_at, wide, times_in}
use Rattle.ic_link_ops.proofs.Prelude.{placed_there, others_placed, gone_there, others_left, put_there, put_others, puts_other, kept_represented, all_map, all_both, all_front, all_back, no_root, no_members, one_sequence, nothing_last, split_last, first_placed, last_placed}
use Rattle.ic_link_ops.specs.EntryLaws.{linked_in_range}
use Rattle.ic_link_ops.specs.ThreeWords.{no_words, has_link, node_of}
use Rattle.ic_link_ops.proofs.LinkedSets.{everywhere}
use Rattle.ic_pool.specs.Pooled.{Grows}
use Rattle.ic_pool.proofs.Pooling.{pooled_first}
use Rattle.ic_rbtree.specs.Prelude.{IsSorted, IsBorder, IsNode, compared, own_order, answer_at, order_of, is_beyond, InsertsInOrder, TreeLinkOps, PlainRepresents, is_linked, plain_table}
use Rattle.ic_rbtree.specs.EachObject.{HasEach}
use Rattle.ic_rbtree.specs.declared.keys.key_adapter.Bound.TheVariants.{Included}
use Rattle.ic_rbtree.proofs.EachObject.{each_none, each_covered, each_new, each_member, each_value, at_each, each_taken, each_changed}
use Rattle.ic_rbtree.proofs.PlainTrees.{plain_members, plain_trees}
use Rattle.ic_rbtree.proofs.SortedKeys.{front_is_least}
use Rattle.ic_augmented.specs.Prelude.{IsConsistent, RepresentsConsistent, blank, room_of}
use Rattle.ic_augmented.specs.Greatest.{greatest, greatest_of, number_at, is_greater}
use Rattle.ic_augmented.specs.Pooled.{GrowsSummed}
use Rattle.ic_augmented.specs.declared.augmented_table.Cell.{Cell}
use Rattle.ic_augmented.specs.declared.augmented_table.AugmentedTable.{AugmentedTable}
use Rattle.ic_augmented.proofs.PooledTrees.{grown_consistent, inserts_represented, consistent_in, numbers_stay}
use Rattle.region_allocator.specs.declared.region.Region.{Region}
use Rattle.region_allocator.specs.Changes.{Adds, Changes, FitsFor}
use Rattle.region_allocator.specs.Kept.{start_of, Keeps, represented_regions}
use Rattle.region_allocator.specs.Regions.{IsRegion, AreApart, AreRegionsApart, AreShorter}
use Rattle.region_allocator.specs.Neighbors.{found_at, IsFound, FitsFirst, IsLast, IsFirst, AreNeighbors}
use Rattle.region_allocator.proofs.Apart.{IsOrApart, all_regions, added_apart, changed_apart, cut_apart, apart_from, starts_rise, lowest_fits, parts_apart}

-- if an object is at a place, then it is a region
pub region_there : (o : Option Region) → IsSome o → (r : Region) × (o ≡ Some r)
region_there None here = absurd (true≢false (sym here))
region_there (Some r) here = (r, refl)

nobody : (objects : Objects Region) (s : List Place) → ArePlaced objects s → values_at objects s ≡ [] → s ≡ []
nobody objects [] placed empty = refl
nobody objects (p ∷ s) placed empty =
    let r = region_there (object_at objects p) placed.0 in absurd (cc (ap (λ (o : Option Region). cons_option o (values_at objects s)) r.1, empty))

-- if the number stored for the place `p` is not 0, then the table of numbers has room for `p`
in_room : {B : Type 0} (z : AugmentedTable ℕ ℕ B) (p : Place) (n : ℕ) → number_at z p ≡ n → 0 < n → index_of p < room_of z
in_room z p n told some = linked_in_range (λ (c : Cell ℕ ℕ). nat_lt 0 c.value) (blank 0) refl z.cells.items (index_of p) (lt-ltb 0 (number_at z p) (omega (arith, told, some)))

-- the number that is stored for the place `q` is the length of the region at `q`, if there is one
abbrev IsBeside : {B : Type 0} → Objects Region → AugmentedTable ℕ ℕ B → Place → Type 0
IsBeside objects z q = (r : Region) → object_at objects q ≡ Some r → number_at z q ≡ r.length

-- if the right length is stored for the region at `p` and for all other regions, then it is stored for every region
beside_put : {B : Type 0} (new : Objects Region) (z : AugmentedTable ℕ ℕ B) {r : Region} (p : Place) → object_at new p ≡ Some r → number_at z p ≡ r.length → ((q : Place) → q ≢ p → IsBeside new z q)
    → (q : Place) → IsBeside new z q
beside_put new z {r} p is told others q = everywhere (IsBeside new z) p q (λ t there. let same : r ≡ t = cc (is, there) in told ∙ ap (λ (x : Region). x.length) same) (others q)

-- the regions of the allocator are the values at the members of the tree, in the order of the tree
pub each_are : {A : Type 0} {objects : Objects Region} {w : TreeLinkOps A} {root : Option Place} {values : List Region} → HasEach start_of w root objects values → represented_regions objects w root ≡ values
each_are {objects = objects} {w} each = ap (values_at objects) (plain_members w each.sorted.shown) ∙ each.sorted.stand.are

module _ {A B : Type 0} where
  -- A NEW ALLOCATOR, which has no object and whose table and tree are empty, maintains `Keeps`
  pub kept_none : (objects : Objects Region) (w : TreeLinkOps A) (root : Option Place) (z : AugmentedTable ℕ ℕ B) → ((p : Place) → object_at objects p ≡ None)
      → (plain_table w).extent.places ≡ 0 → root ≡ None → Keeps objects w root z
  kept_none objects w root z vacant no_starts none = record {
    starts = [];
    by_start = each_none (λ p. (pooled_first wide has_link no_words refl w {objects = objects} no_starts vacant).vacant p (vacant p)) none vacant;
    beside = λ p r there. absurd (cc (vacant p, there));
    consistent = λ s shown q member but x fresh. absurd (omega (arith, member, ap (times_in q) (no_root (subst (λ (top : Option Place). PlainRepresents w top s) none shown))));
    apart = tt;
  }

  module _ {objects : Objects Region} {w : TreeLinkOps A} {root : Option Place} {z : AugmentedTable ℕ ℕ B} (k : Keeps objects w root z) where
    pub represented_apart : AreRegionsApart (represented_regions objects w root)
    represented_apart = subst AreRegionsApart (sym (each_are k.by_start)) k.apart

    -- there is no free region exactly if the tree has no root
    pub has_no_root : (root ≡ None) ↔ (represented_regions objects w root ≡ [])
    has_no_root =
        let e = k.by_start.sorted in
        let none : root ≡ None → e.members ≡ [] = λ none. no_root (subst (λ (top : Option Place). PlainRepresents w top e.members) none e.shown) in
        let empty : represented_regions objects w root ≡ [] → e.members ≡ [] = λ empty. nobody objects e.members e.stand.placed (e.stand.are ∙ sym (each_are k.by_start) ∙ empty) in
        (λ h. each_are k.by_start ∙ sym e.stand.are ∙ ap (values_at objects) (none h), λ h. no_members (subst (PlainRepresents w root) (empty h) e.shown))

    -- the greatest length of each member of the tree is right or marked as stale
    pub members_consistent : RepresentsConsistent node_of (greatest z) (plain_table w) root k.by_start.sorted.members
    members_consistent = (k.by_start.sorted.shown, k.consistent k.by_start.sorted.members k.by_start.sorted.shown)

    module _ (p : Place) {out : Region} (there : object_at objects p ≡ Some out) where
      pub start_member : HasMember (PlainRepresents w root) p
      start_member = let m = each_member k.by_start p there in record { front = m.0; back = m.1; shown = subst (PlainRepresents w root) m.2 k.by_start.sorted.shown }

      -- a property `P` of all free regions holds of the region at the place `p`
      pub at_region : (P : Region → Type 0) → AllByRecursion P (represented_regions objects w root) → P out
      at_region P all = at_each k.by_start p there P (subst (AllByRecursion P) (each_are k.by_start) all)

      pub is_region : IsRegion out
      is_region = at_region IsRegion (all_regions (represented_regions objects w root) represented_apart)

      -- each other region is apart from the region at the place `p`
      pub others_apart : AllByRecursion (IsOrApart out) (represented_regions objects w root)
      others_apart = let m = each_member k.by_start p there in let is = each_are k.by_start ∙ each_value k.by_start p there m.0 m.1 m.2 in
          subst (AllByRecursion (IsOrApart out)) (sym is) (apart_from (values_at objects m.0) out (values_at objects m.1) (subst AreRegionsApart is represented_apart))

      -- the table of lengths has room for the length of the region at the place `p`
      pub has_room : index_of p < room_of z
      has_room = in_room z p out.length (k.beside p out there) is_region.some

    pub rooms : (q : Place) → IsNode node_of (plain_table w) q → index_of q < room_of z
    rooms q linked = let r = region_there (object_at objects q) (sym (k.by_start.exact q) ∙ linked) in has_room q r.1

    -- IF NO LINK CHANGES, the regions do not change, and the allocator maintains `Keeps` if the stored lengths do not change
    module _ (w' : TreeLinkOps A) (stays : (q : Place) → (plain_table w').entry q ≡ (plain_table w).entry q) where
      pub same_regions : represented_regions objects w' root ≡ represented_regions objects w root
      same_regions = each_are (each_covered k.by_start w' stays) ∙ sym (each_are k.by_start)

      kept_same : (z' : AugmentedTable ℕ ℕ B) → ((q : Place) (r : Region) → object_at objects q ≡ Some r → number_at z' q ≡ number_at z q)
          → ((s : List Place) → RepresentsConsistent node_of (greatest z) (plain_table w) root s → IsConsistent node_of (plain_table w') (greatest z') s) → Keeps objects w' root z'
      kept_same z' numbers still = record {
        starts = k.starts;
        by_start = each_covered k.by_start w' stays;
        beside = λ q r there. numbers q r there ∙ k.beside q r there;
        consistent = λ s shown. let before = kept_represented plain_trees (λ q. sym (stays q)) shown in still s (before, k.consistent s before);
        apart = k.apart;
      }

    -- AFTER THE CALL `place`, both tables may have grown, and the allocator still maintains `Keeps`
    pub kept_grown : (w' : TreeLinkOps A) (z' : AugmentedTable ℕ ℕ B) → GrowsSummed greatest_of 0 (λ (a b : TreeLinkOps A). Grows (plain_table a) (plain_table b)) (record { links = w; summaries = z }) (record { links = w'; summaries = z' })
        → Keeps objects w' root z'
    kept_grown w' z' grows = kept_same w' grows.links.entries z' (λ q r there. grows.values q) (λ s h. grown_consistent node_of (plain_table w) (plain_table w') (greatest z) (greatest z') s grows.links.entries
        (λ q. ap (λ (n : ℕ). λ (a b : Option ℕ). greatest_of n a b) (grows.values q)) grows.same h.1)

    pub same_entries : (w' : TreeLinkOps A) → w' ≡ w → (q : Place) → (plain_table w').entry q ≡ (plain_table w).entry q
    same_entries w' same q = ap (λ (v : TreeLinkOps A). (plain_table v).entry q) same

    -- AFTER THE CALL `set_value` for a place that has no object yet, the allocator still maintains `Keeps`
    pub kept_set : (w' : TreeLinkOps A) → w' ≡ w → (z' : AugmentedTable ℕ ℕ B) (p : Place) → object_at objects p ≡ None → ((q : Place) → q ≢ p → number_at z' q ≡ number_at z q)
        → ((s : List Place) → IsConsistent node_of (plain_table w) (greatest z) s → IsConsistent node_of (plain_table w') (greatest z') s) → Keeps objects w' root z'
    kept_set w' same z' p vacant others still =
        kept_same w' (same_entries w' same) z' (λ q r there. others q (λ e. absurd (cc (vacant, ap (object_at objects) e, there)))) (λ s h. still s h.1)

    -- AFTER THE CALL `refresh`, which makes stale lengths right, the allocator still maintains `Keeps`
    pub kept_fresh : (w' : TreeLinkOps A) → w' ≡ w → (z' : AugmentedTable ℕ ℕ B) → (greatest z').join ≡ (greatest z).join
        → ((s : List Place) → RepresentsConsistent node_of (greatest z) (plain_table w) root s → RepresentsConsistent node_of (greatest z') (plain_table w') root s) → Keeps objects w' root z'
    kept_fresh w' same z' joins still = kept_same w' (same_entries w' same) z' (λ q r there. numbers_stay z z' joins q) (λ s h. (still s h).1)

    -- A REGION IS INSERTED after its length was stored for its place, and the allocator still maintains `Keeps`
    pub put_in : {more : Objects Region} {p : Place} {r : Region} {before : List Region} (w' : TreeLinkOps A) (root' : Option Place) (z' : AugmentedTable ℕ ℕ B) → Places objects more p r → number_at z p ≡ r.length
        → (greatest z').join ≡ (greatest z).join
        → ((s : List Place) → RepresentsConsistent node_of (greatest z) (plain_table w) root s
        → InsertsInOrder (RepresentsConsistent node_of (greatest z')) (compared (own_order nat_cmp start_of more p) more) (plain_table w) (plain_table w') root' s p)
        → LinksAlso is_linked (plain_table w) (plain_table w') p → IsRegion r → represented_regions objects w root ≡ before → AllByRecursion (AreApart r) before
        → Keeps more w' root' z' × Adds r before (represented_regions more w' root')
    put_in {more} {p} {r} w' root' z' places told same put also is seen apart =
        let a = each_new k.by_start {v = w'} {top = root'} places (λ s shown. inserts_represented node_of (put s (shown, k.consistent s shown))) also in
        let was = sym seen ∙ each_are k.by_start ∙ a.1.was in
        let low = front_is_least start_of a.1.front r a.1.back (subst (λ (l : List Region). IsSorted nat_cmp (map start_of l)) a.1.is a.1.sorted) in
        let stand = added_apart a.1.front a.1.back r is (subst AreRegionsApart a.1.was k.apart) (subst (AllByRecursion (AreApart r)) was apart)
        (all_map (λ x low. omega (arith, low, is.some)) a.1.front low) (all_map (λ x less. let after : r.start < x.start = grind (arith, nat_tests, less) in omega (arith, after)) a.1.back a.1.greater) in (
          record {
            starts = a.0;
            by_start = a.2;
            beside = beside_put more z' p (placed_there places) (numbers_stay z z' same p ∙ told) (λ q n t there. numbers_stay z z' same q ∙ k.beside q t (sym (others_placed places q n) ∙ there));
            consistent = λ s shown. consistent_in node_of s (put k.by_start.sorted.members members_consistent).inserted.shows shown;
            apart = subst AreRegionsApart (sym a.1.is) stand;
          },
          record { front = a.1.front; back = a.1.back; was = was; is = each_are a.2 ∙ a.1.is },
        )

    -- A REGION IS REMOVED from the tree and from its place, and the allocator still maintains `Keeps`
    pub take_out : {new : Objects Region} (p : Place) (w' : TreeLinkOps A) (root' : Option Place) (z' : AugmentedTable ℕ ℕ B) → (greatest z').join ≡ (greatest z).join
        → ((front back : List Place) → RepresentsConsistent node_of (greatest z) (plain_table w) root (front ++ p ∷ back) → RepresentsConsistent node_of (greatest z') (plain_table w') root' (front ++ back))
        → Unlinks is_linked (plain_table w) (plain_table w') p → Frees objects new p → (out : Region) → object_at objects p ≡ Some out
        → Keeps new w' root' z' × Adds out (represented_regions new w' root') (represented_regions objects w root)
    take_out {new} p w' root' z' same removed off frees out there =
        let m = each_member k.by_start p there in
        let a = each_taken k.by_start p there {v = w'} {top = root'} (λ front back shown. (removed front back (shown, k.consistent (front ++ p ∷ back) shown)).0) off frees in (
          record {
            starts = a.0 ++ a.1;
            by_start = a.3;
            beside = λ q t at. numbers_stay z z' same q ∙ k.beside q t (sym (others_left frees q (λ e. absurd (cc (gone_there frees, ap (object_at new) e, at)))) ∙ at);
            consistent = λ s shown. consistent_in node_of s (removed m.0 m.1 (subst (RepresentsConsistent node_of (greatest z) (plain_table w) root) m.2 members_consistent)) shown;
            apart = (cut_apart a.0 out a.1 (subst AreRegionsApart a.2 k.apart)).3;
          },
          record { front = a.0; back = a.1; was = each_are a.3; is = each_are k.by_start ∙ a.2 },
        )

    -- A REGION IS REPLACED at the place `p` by the region `r`, and the length of `r` is stored for `p`. The object at `p` stays between its neighbors in
    -- the tree, because `r` starts between them
    pub resize : {r : Region} (p : Place) (w' : TreeLinkOps A) → w' ≡ w → (z' : AugmentedTable ℕ ℕ B) → number_at z' p ≡ r.length → ((q : Place) → q ≢ p → number_at z' q ≡ number_at z q)
        → ((s : List Place) → IsConsistent node_of (plain_table w) (greatest z) s → IsConsistent node_of (plain_table w') (greatest z') s)
        → ((out : Region) → object_at objects p ≡ Some out → FitsFor out r (represented_regions objects w root)) → (out : Region) → object_at objects p ≡ Some out
        → Keeps (with_object objects p r) w' root z' × Changes out r (represented_regions objects w root) (represented_regions (with_object objects p r) w' root)
    resize {r} p w' links z' told others still fits out there =
        let puts = puts_other objects p r in
        let stays = same_entries w' links in
        let a = each_changed (each_covered k.by_start w' stays) p there (put_there puts) (put_others puts) in
        let same = each_are k.by_start ∙ a.2 in
        let apart = changed_apart a.0 out a.1 (subst AreRegionsApart a.2 k.apart) (subst (FitsFor out r) same (fits out there)) in
        let each = a.3 (starts_rise (a.0 ++ r ∷ a.1) apart) in (
          record {
            starts = a.0 ++ r ∷ a.1;
            by_start = each;
            beside = beside_put (with_object objects p r) z' p (put_there puts) told (λ q n t at. others q n ∙ k.beside q t (sym (put_others puts q n) ∙ at));
            consistent = λ s shown. still s (k.consistent s (kept_represented plain_trees (λ q. sym (stays q)) shown));
            apart = apart;
          },
          record { front = a.0; back = a.1; was = same; is = each_are each },
        )

-- the searches find the first region that is long enough, and the neighbors of an address
module _ {A B : Type 0} {objects : Objects Region} {w : TreeLinkOps A} {root : Option Place} {z : AugmentedTable ℕ ℕ B} (k : Keeps objects w root z) where
  -- a search that ends at the place `p` finds the region at `p`
  found_is : (p : Place) {r : Region} → object_at objects p ≡ Some r → IsFound objects (record { object = p; region = r })
  found_is p there = record { there = there; is_region = is_region k p there }

  -- the search for a region with at least the length `n` finds the first region whose length exceeds the bound `b`, which is `n - 1`
  module _ (n b : ℕ) (bound : b ≡ n - 1) where
    abbrev test : Place → Bool
    test = is_greater (number_at z) b

    -- the search result divides the regions at the members of `s`: all regions before the found one are shorter than `n`. If none is found, all
    -- regions are shorter
    abbrev IsCutAt : List Place → Option Place → Type 0
    IsCutAt s None = AreShorter (values_at objects s) n
    IsCutAt s (Some p) = (front : List Region) × (r : Region) × (back : List Region) × (values_at objects s ≡ front ++ r ∷ back) × AreShorter front n × (object_at objects p ≡ Some r) × (n ≤ r.length)

    cut_first : (s : List Place) → ArePlaced objects s → IsCutAt s (first (filter test s))
    cut_first [] placed = tt
    cut_first (x ∷ s) placed = by (test x) (filter test s) refl (cut_first s placed.1) where
      here : (r : Region) × (object_at objects x ≡ Some r)
      here = region_there (object_at objects x) placed.0

      is : values_at objects (x ∷ s) ≡ here.0 ∷ values_at objects s
      is = ap (λ (o : Option Region). cons_option o (values_at objects s)) here.1

      short : test x ≡ false → here.0.length < n
      short fails = omega (arith, ltb-false b (number_at z x) fails, k.beside x here.0 here.1, (is_region k x here.1).some, bound)

      by : (passes : Bool) (l : List Place) → test x ≡ passes → IsCutAt s (first l) → IsCutAt (x ∷ s) (first (cond passes (x ∷ l) l))
      by true l passes c = ([], here.0, values_at objects s, is, tt, here.1, omega (arith, ltb-true b (number_at z x) passes, k.beside x here.0 here.1, bound))
      by false [] fails all = subst (λ (l : List Region). AreShorter l n) (sym is) (short fails, all)
      by false (p ∷ l) fails c = (here.0 ∷ c.0, c.1, c.2, is ∙ ap (λ (l : List Region). here.0 ∷ l) c.3, (short fails, c.4), c.5, c.6)

    pub first_found : {o : Option Place} {s : List Place} → PlainRepresents w root s → o ≡ first (filter test s) → FitsFirst objects (represented_regions objects w root) n (found_at objects o)
    first_found {o} {s} shown e =
        let is = e ∙ ap (λ (l : List Place). first (filter test l)) (one_sequence shown k.by_start.sorted.shown) in
        by o (subst (IsCutAt k.by_start.sorted.members) (sym is) (cut_first k.by_start.sorted.members k.by_start.sorted.stand.placed))
      where
        members_are : represented_regions objects w root ≡ values_at objects k.by_start.sorted.members
        members_are = each_are k.by_start ∙ sym k.by_start.sorted.stand.are

        by : (o : Option Place) → IsCutAt k.by_start.sorted.members o → FitsFirst objects (represented_regions objects w root) n (found_at objects o)
        by None all = rw members_are all
        by (Some p) c =
            let apart = subst AreRegionsApart (members_are ∙ c.3) (represented_apart k) in
            rw (c.5, members_are ∙ c.3) (
              found_is p c.5,
              c.6,
              record { front = c.0; whole = c.1; back = c.2; was = refl; start = refl; long_enough = c.6; shorter = c.4; lowest = λ a some fits. lowest_fits n a c.0 c.1 c.2 apart c.4 some fits },
            )

  -- `gap` is between the members that start at the address `n` or below it, and the members that start above it
  module _ (n : ℕ) (gap : Cut) (same : join gap ≡ k.by_start.sorted.members) (border : IsBorder (is_beyond (Included (compared (order_of nat_cmp start_of n) objects))) gap) where
    placed : ArePlaced objects (gap.front ++ gap.back)
    placed = subst (ArePlaced objects) (sym same) k.by_start.sorted.stand.placed

    cut_is : represented_regions objects w root ≡ values_at objects gap.front ++ values_at objects gap.back
    cut_is = each_are k.by_start ∙ sym k.by_start.sorted.stand.are ∙ ap (values_at objects) (sym same) ∙ filter_map-append (object_at objects) gap.front gap.back

    apart : AreRegionsApart (values_at objects gap.front) × AreRegionsApart (values_at objects gap.back)
    apart = parts_apart (values_at objects gap.front) (values_at objects gap.back) (subst AreRegionsApart cut_is (represented_apart k))

    front_parts : (o : Option Place) → last gap.front ≡ o → IsLast objects (values_at objects gap.front) (found_at objects o) × AllByRecursion (λ (x : Region). x.start ≤ n) (values_at objects gap.front)
    front_parts None at = rw (ap (values_at objects) (nothing_last gap.front (sym at))) (refl, tt)
    front_parts (Some p) at =
        let here = region_there (object_at objects p) (last_placed objects gap.front (all_front (λ q. IsSome (object_at objects q)) gap.front gap.back placed) (sym at)) in
        let rest = values_at objects (but_last gap.front) in
        let is : values_at objects gap.front ≡ rest ++ here.0 ∷ [] = ap (values_at objects) (split_last gap.front at) ∙ filter_map-append (object_at objects) (but_last gap.front) (p ∷ [])
        ∙ ap (λ (o : Option Region). rest ++ cons_option o []) here.1 in
        let fails = sym (ap (λ (o : Option Region). is_ge (answer_at (order_of nat_cmp start_of n) o)) here.1) ∙ not-false _ (border.fails p at) in
        let first : here.0.start ≤ n = grind (arith, nat_tests, fails) in
        let below = all_map (λ x below. omega (arith, below, first)) rest (cut_apart rest here.0 [] (subst AreRegionsApart is apart.0)).0 in
        rw (here.1, is) ((found_is p here.1, (rest, refl)), all_both (λ (x : Region). x.start ≤ n) rest (here.0 ∷ []) below (first, tt))

    back_parts : (s : List Place) → gap.back ≡ s → IsFirst objects (values_at objects gap.back) (found_at objects (first s)) × AllByRecursion (λ (x : Region). n < x.start) (values_at objects gap.back)
    back_parts [] at = rw (ap (values_at objects) at) (refl, tt)
    back_parts (p ∷ s) at =
        let here = region_there (object_at objects p) (first_placed objects gap.back (all_back (λ q. IsSome (object_at objects q)) gap.front gap.back placed) (sym (ap first at))) in
        let is : values_at objects gap.back ≡ here.0 ∷ values_at objects s = ap (values_at objects) at ∙ ap (λ (o : Option Region). cons_option o (values_at objects s)) here.1 in
        let passes = sym (ap (λ (o : Option Region). is_ge (answer_at (order_of nat_cmp start_of n) o)) here.1) ∙ not-true _ (border.passes p (ap first at)) in
        let first : n < here.0.start = grind (arith, nat_tests, passes) in
        rw (here.1, is) ((found_is p here.1, (values_at objects s, refl)), (first, all_map (λ x above. omega (arith, above, first)) (values_at objects s) (subst AreRegionsApart is apart.1).1))

    pub neighbors_are : {below above : Option Place} → below ≡ last gap.front → above ≡ first gap.back → AreNeighbors objects (represented_regions objects w root) n (found_at objects below) (found_at objects above)
    neighbors_are under over =
        let f = front_parts (last gap.front) refl in
        let b = back_parts gap.back refl in
        let front = values_at objects gap.front in
        rw (under, over) (record { front = front; back = values_at objects gap.back; cut = cut_is; starts_below = f.1; starts_above = b.1; below_is = f.0; above_is = b.0 })
