-- Lemmas about a region that is freed, about the free regions that touch it and are joined with it, and about a free region that is cut.
use Rattle.std.proofs.Common.{◌≡◌, ◌≢◌, ℕ, ◌+◌, ◌-◌, ◌^◌, ◌<◌, ◌≤◌, ◌⊎◌, ◌↔◌, inl, inr, Bool, Option, Some, None, Ok, Err, List, [], ◌∷◌, ◌++◌, refl, sym, ap, ◌∙◌, subst, arith}
use Rattle.std.specs.List.{AllByRecursion}
use Rattle.ic_link_ops.specs.Prelude.{Place, Objects, object_at}
use Rattle.ic_link_ops.proofs.Each.{all_back, all_both, all_map, all_without}
use Rattle.ic_rbtree.specs.PlainTrees.{TreeLinkOps}
use Rattle.ic_augmented.specs.declared.augmented_table.AugmentedTable.{AugmentedTable}
use Rattle.region_allocator.specs.declared.free_error.FreeError.{FreeError}
use Rattle.region_allocator.specs.declared.neighbors.Found.{Found}
use Rattle.region_allocator.specs.declared.region.Region.{Region}
use Rattle.region_allocator.specs.Changes.{Adds, Changes, FitsFor}
use Rattle.region_allocator.specs.Kept.{Keeps, represented_regions}
use Rattle.region_allocator.specs.Neighbors.{IsFound, IsLast, IsFirst, AreNeighbors, IsEnding, IsStarting, Touches, EndsBy, StartsFrom}
use Rattle.region_allocator.specs.Refusals.{IsRefused}
use Rattle.region_allocator.specs.Regions.{space_of, region_of, end_of, Has, IsFree, IsRegion, AreApart, AreRegionsApart, FreesRegion, AllocatesRegion}
use Rattle.region_allocator.proofs.Apart.{IsOrApart, all_three, cut_apart, free_above, free_below, free_parts, free_with, others_away, others_not, parts_apart}
use Rattle.region_allocator.proofs.Keeping.{represented_apart, others_apart, at_region}

-- the region `x` shares no address with `region`, but may touch it
abbrev pub IsBeside : Region → Region → Type 0
IsBeside region x = AreApart region x ⊎ ((end_of x ≡ region.start) ⊎ (x.start ≡ end_of region))

-- if no free region shares an address with `region`, then no address of `region` is free
beside_not : (region : Region) (s : List Region) → AllByRecursion (IsBeside region) s → (a : ℕ) → Has region a → IsFree s a → ⊥
beside_not region [] beside a own free = free
beside_not region (x ∷ s) beside a own free = grind (arith, beside.0, beside_not region s beside.1 a own)

-- after the region `r` was added, the free addresses are those that were free before and those of `r`
adds_free : {r : Region} {old new : List Region} → Adds r old new → (a : ℕ) → IsFree new a ↔ (IsFree old a ⊎ Has r a)
adds_free {r} adds a = rw (adds.is, adds.was) (free_with adds.front r adds.back a)

-- before the region `r` replaces `out`, the free addresses are those of `out` and of the other regions. Afterwards they are those of `r` and of the other
-- regions
changes_free : {out r : Region} {old new : List Region} (changes : Changes out r old new) (a : ℕ)
    → (IsFree old a ↔ (IsFree (changes.front ++ changes.back) a ⊎ Has out a)) × (IsFree new a ↔ (IsFree (changes.front ++ changes.back) a ⊎ Has r a))
changes_free {out} {r} changes a = (rw changes.was (free_with changes.front out changes.back a), rw changes.is (free_with changes.front r changes.back a))

-- `region` is freed if no free region shared an address with it, and the free addresses are then the old ones and those of `region`
frees : {region : Region} {old new : List Region} → IsRegion region → AllByRecursion (IsBeside region) old → ((a : ℕ) → IsFree new a ↔ (IsFree old a ⊎ Has region a)) → FreesRegion region old new
frees {region} {old} is beside free = record { is_region = is; was_taken = beside_not region old beside; free = free }

-- the region `joined` can replace the region `out` if it has all addresses of `out` and is apart from all other regions
covers_fits : {out joined : Region} {s : List Region} → IsRegion out → joined.start ≤ out.start → end_of out ≤ end_of joined → end_of joined < 2 ^ 64
    → AllByRecursion (λ x. (x ≡ out) ⊎ AreApart joined x) s → FitsFor out joined s
covers_fits own from to fits apart = let some = own.some in
    record { is_region = record { some = omega (arith, some, from, to); fits = fits }; low = omega (arith, some, from); high = omega (arith, some, to); apart = apart }

module _ {A B : Type 0} {objects : Objects Region} {w : TreeLinkOps A} {root : Option Place} {z : AugmentedTable ℕ ℕ B} (k : Keeps objects w root z) {region : Region} (is : IsRegion region) where
  abbrev shown : List Region
  shown = represented_regions objects w root

  -- if no free region touches `region`, then all free regions are apart from it
  pub none_touches : Touches objects shown region None None → AllByRecursion (AreApart region) shown
  none_touches t = all_three (λ x near ends starts. grind arith) shown t.each t.front_is t.back_is

  pub touches_none : {front back : Option Found} → Touches objects shown region front back → AllByRecursion (AreApart region) shown → (front ≡ None) × (back ≡ None)
  touches_none {front = None} {back = None} t new = (refl, refl)
  touches_none {front = Some f} t new = let apart = at_region k f.object t.front_is.0.there (AreApart region) new in absurd (grind (arith, apart, t.front_is.1))
  touches_none {front = None} {back = Some b} t new = let apart = at_region k b.object t.back_is.0.there (AreApart region) new in absurd (grind (arith, apart, t.back_is.1))

  pub adds_frees : {new : List Region} → Touches objects shown region None None → Adds region shown new → FreesRegion region shown new
  adds_frees t adds = frees is t.each (adds_free adds)

  -- `region` touches only the free region `front` before it. Then a region with the addresses of both can replace `front`
  module _ {front : Found} (t : Touches objects shown region (Some front) None) where
    pub front_fits : {out : Region} → object_at objects front.object ≡ Some out → FitsFor out (region_of front.region.start (front.region.length + region.length)) shown
    front_fits {out} there =
        let same : out ≡ front.region = cc (t.front_is.0.there) in
        let at = t.front_is.1 in
        rw same (covers_fits t.front_is.0.is_region (omega arith) (omega arith) (omega (arith, is.fits, at))
        (all_three (λ x other ends near. grind (arith, at)) shown (others_apart k front.object t.front_is.0.there) t.back_is t.each))

    pub front_frees : {new : List Region} → ((out : Region) → object_at objects front.object ≡ Some out → Changes out (region_of front.region.start (front.region.length + region.length)) shown new)
        → FreesRegion region shown new
    front_frees resized = frees is t.each (λ a.
        let c = changes_free (resized front.region t.front_is.0.there) a in (λ free. grind (arith, c, t.front_is.1), λ either. grind (arith, c, t.front_is.1)))

  -- `region` touches only the free region `back` after it. Then a region with the addresses of both can replace `back`
  module _ {back : Found} (t : Touches objects shown region None (Some back)) where
    pub back_fits : {out : Region} → object_at objects back.object ≡ Some out → FitsFor out (region_of region.start (region.length + back.region.length)) shown
    back_fits {out} there =
        let same : out ≡ back.region = cc (t.back_is.0.there) in
        let at = t.back_is.1 in
        rw same (covers_fits t.back_is.0.is_region (omega (arith, at)) (omega (arith, at)) (omega (arith, t.back_is.0.is_region.fits, at))
        (all_three (λ x other starts near. grind (arith, at, is.some)) shown (others_apart k back.object t.back_is.0.there) t.front_is t.each))

    pub back_frees : {new : List Region} → ((out : Region) → object_at objects back.object ≡ Some out → Changes out (region_of region.start (region.length + back.region.length)) shown new)
        → FreesRegion region shown new
    back_frees resized = frees is t.each (λ a.
        let c = changes_free (resized back.region t.back_is.0.there) a in (λ free. grind (arith, c, t.back_is.1), λ either. grind (arith, c, t.back_is.1)))

  -- `region` touches the free region `front` before it and the free region `back` after it. After `back` is removed, a region with the addresses of all
  -- three can replace `front`
  module _ {front back : Found} (t : Touches objects shown region (Some front) (Some back)) (less : Objects Region) {mid : List Region}
      (taken : (out : Region) → object_at objects back.object ≡ Some out → Adds out mid shown) (others : (p : Place) → p ≢ back.object → object_at less p ≡ object_at objects p) where
    front_there : object_at less front.object ≡ Some front.region
    front_there = others front.object (λ at.
        let one : front.region ≡ back.region = cc (t.front_is.0.there, t.back_is.0.there, ap (object_at objects) at) in
        omega (arith, ap (λ (r : Region). r.start) one, t.front_is.1, t.back_is.1, t.front_is.0.is_region.some, is.some)) ∙ t.front_is.0.there

    adds : Adds back.region mid shown
    adds = taken back.region t.back_is.0.there

    left : (P : Region → Type 0) → AllByRecursion P shown → AllByRecursion P mid
    left P all = subst (AllByRecursion P) (sym adds.was) (all_without P adds.front back.region adds.back (subst (AllByRecursion P) adds.is all))

    away : AllByRecursion (AreApart back.region) mid
    away = subst (AllByRecursion (AreApart back.region)) (sym adds.was) (others_away adds.front back.region adds.back (subst AreRegionsApart adds.is (represented_apart k)))

    pub both_fit : {out : Region} → object_at less front.object ≡ Some out → FitsFor out (region_of front.region.start (front.region.length + region.length + back.region.length)) mid
    both_fit {out} there =
        let same : out ≡ front.region = cc (front_there) in
        let at = t.front_is.1 in
        let to = t.back_is.1 in
        rw same (covers_fits t.front_is.0.is_region (omega arith) (omega arith) (omega (arith, t.back_is.0.is_region.fits, at, to))
        (all_three (λ x other apart near. grind (arith, at, to)) mid (left (IsOrApart front.region) (others_apart k front.object t.front_is.0.there)) away (left (IsBeside region) t.each)))

    pub both_frees : {new : List Region} → ((out : Region) → object_at less front.object ≡ Some out → Changes out (region_of front.region.start (front.region.length + region.length + back.region.length)) mid new)
        → FreesRegion region shown new
    both_frees resized = frees is t.each (λ a.
        let c = changes_free (resized front.region front_there) a in let d = adds_free adds a in
        (λ free. grind (arith, c, d, t.front_is.1, t.back_is.1), λ either. grind (arith, c, d, t.front_is.1, t.back_is.1)))

-- the first `length` addresses of a found region are removed, and the rest of the region stays free
module _ {A B : Type 0} {objects : Objects Region} {w : TreeLinkOps A} {root : Option Place} {z : AugmentedTable ℕ ℕ B} (k : Keeps objects w root z) {found : Found} (is : IsFound objects found)
    (length : ℕ) (enough : length ≤ found.region.length) where
  abbrev rest : Region
  rest = region_of (found.region.start + length) (found.region.length - length)

  cut_frees : {new : List Region} (front back : List Region) → represented_regions objects w root ≡ front ++ found.region ∷ back → ((a : ℕ) → IsFree new a ↔ (IsFree (front ++ back) a ⊎ Has rest a))
      → AllocatesRegion (region_of found.region.start length) (represented_regions objects w root) new
  cut_frees front back was left = rw was (record {
    was_free = λ a has. (free_with front found.region back a).1 (inr (has.0, omega (arith, has.1, enough)));
    free = λ a. let with = free_with front found.region back a in let not = others_not front found.region back (subst AreRegionsApart was (represented_apart k)) a in
        (λ free. grind (arith, with, left a, not, enough), λ both. grind (arith, with, left a, enough));
  })

  pub cut_whole : {new : List Region} → found.region.length - length ≡ 0 → ((out : Region) → object_at objects found.object ≡ Some out → Adds out new (represented_regions objects w root))
      → AllocatesRegion (region_of found.region.start length) (represented_regions objects w root) new
  cut_whole none taken = let less = taken found.region is.there in cut_frees less.front less.back less.is (λ a. rw less.was (λ free. inl free, λ either. grind (arith, none)))

  pub cut_part : {new : List Region} → ((out : Region) → object_at objects found.object ≡ Some out → Changes out rest (represented_regions objects w root) new)
      → AllocatesRegion (region_of found.region.start length) (represented_regions objects w root) new
  cut_part resized = let changes = resized found.region is.there in cut_frees changes.front changes.back changes.was (λ a. (changes_free changes a).1)

  pub cut_fits : found.region.length - length ≢ 0 → {out : Region} → object_at objects found.object ≡ Some out → FitsFor out rest (represented_regions objects w root)
  cut_fits some {out} there =
      let same : out ≡ found.region = cc (is.there) in
      let apart : AllByRecursion (λ x. (x ≡ found.region) ⊎ AreApart rest x) (represented_regions objects w root) = all_map (λ x other. grind (arith, enough)) (represented_regions objects w root) (others_apart k found.object is.there) in
      let left : IsRegion rest = record { some = omega (arith, some); fits = omega (arith, is.is_region.fits, enough) } in
      rw same (record { is_region = left; low = omega (arith, some, enough); high = omega (arith, some); apart = apart })

-- the last of several regions ends after all others, and the first of them starts before all others
last_ends : (front rest : List Region) (r : Region) → front ≡ rest ++ r ∷ [] → AreRegionsApart front → AllByRecursion (λ x. end_of x ≤ end_of r) front
last_ends front rest r is apart =
    let cut = cut_apart rest r [] (subst AreRegionsApart is apart) in rw is (all_both (λ x. end_of x ≤ end_of r) rest (r ∷ []) (all_map (λ x low. omega (arith, low)) rest cut.0) (omega arith, tt))

first_starts : (back rest : List Region) (r : Region) → back ≡ r ∷ rest → AreRegionsApart back → AllByRecursion (λ x. r.start ≤ x.start) back
first_starts back rest r is apart = rw is (omega arith, all_map (λ x high. omega (arith, high)) rest (subst AreRegionsApart is apart).1)

module _ {objects : Objects Region} {regions : List Region} where
  module _ {region : Region} (is : IsRegion region) (apart : AreRegionsApart regions) {low high : Option Found} (beside : AreNeighbors objects regions region.start low high) where
    stand : AreRegionsApart beside.front × AreRegionsApart beside.back
    stand = parts_apart beside.front beside.back (subst AreRegionsApart beside.cut apart)

    none_ends : AllByRecursion (λ x. end_of x ≢ region.start) beside.front → AllByRecursion (λ x. end_of x ≢ region.start) regions
    none_ends front = rw beside.cut (all_both (λ x. end_of x ≢ region.start) beside.front beside.back front (all_map (λ x above same. omega (arith, above, same)) beside.back beside.starts_above))

    none_starts : AllByRecursion (λ x. x.start ≢ end_of region) beside.back → AllByRecursion (λ x. x.start ≢ end_of region) regions
    none_starts back = rw beside.cut (all_both (λ x. x.start ≢ end_of region) beside.front beside.back (all_map (λ x below same. omega (arith, below, same, is.some)) beside.front beside.starts_below) back)

    -- the regions of `beside.front` end at the start of `region` or before it, if the call `ending_at` was not refused
    front_clear : (below result : Option Found) → IsLast objects beside.front below → EndsBy below region.start (Ok result)
        → AllByRecursion (λ x. end_of x ≤ region.start) beside.front × IsEnding objects regions region.start result
    front_clear None None last ends = (rw last tt, none_ends (rw last tt))
    front_clear (Some found) None last ends =
        let all = last_ends beside.front last.1.0 found.region last.1.1 stand.0 in
        (all_map (λ x low. omega (arith, low, ends)) beside.front all, none_ends (all_map (λ x low same. omega (arith, low, ends, same)) beside.front all))
    front_clear below (Some found) last ends =
        let last = subst (IsLast objects beside.front) ends.0 last in
        (all_map (λ x low. omega (arith, low, ends.1)) beside.front (last_ends beside.front last.1.0 found.region last.1.1 stand.0), (last.0, ends.1))

    -- the regions of `beside.back` start at the end of `region` or after it, if the call `starting_at` was not refused
    back_clear : (above result : Option Found) → IsFirst objects beside.back above → StartsFrom above (end_of region) (Ok result)
        → AllByRecursion (λ x. end_of region ≤ x.start) beside.back × IsStarting objects regions (end_of region) result
    back_clear None None first starts = (rw first tt, none_starts (rw first tt))
    back_clear (Some found) None first starts =
        let all = first_starts beside.back first.1.0 found.region first.1.1 stand.1 in
        (all_map (λ x high. omega (arith, high, starts)) beside.back all, none_starts (all_map (λ x high same. omega (arith, high, starts, same)) beside.back all))
    back_clear above (Some found) first starts =
        let first = subst (IsFirst objects beside.back) starts.0 first in
        (all_map (λ x high. omega (arith, high, starts.1)) beside.back (first_starts beside.back first.1.0 found.region first.1.1 stand.1), (first.0, starts.1))

    -- THE REGIONS THAT TOUCH `region` are those that the two calls `ending_at` and `starting_at` return
    pub touches : {front back : Option Found} → EndsBy low region.start (Ok front) → StartsFrom high (end_of region) (Ok back) → Touches objects regions region front back
    touches {front} {back} ends starts =
        let f = front_clear low front beside.below_is ends in
        let b = back_clear high back beside.above_is starts in
        let each = all_both (IsBeside region) beside.front beside.back (all_map (λ x low. grind arith) beside.front f.0) (all_map (λ x high. grind arith) beside.back b.0) in
        record { each = subst (AllByRecursion (IsBeside region)) (sym beside.cut) each; front_is = f.1; back_is = b.1 }

  -- if the last region that starts at the address `a` or below it ends after `a`, then `a` is free
  last_free : {a : ℕ} {found : Found} {above : Option Found} → AreNeighbors objects regions a (Some found) above → a < end_of found.region → IsFree regions a
  last_free {a} {found} beside less =
      let rest = beside.below_is.1 in
      let low = (all_back (λ x. x.start ≤ a) rest.0 (found.region ∷ []) (subst (AllByRecursion (λ x. x.start ≤ a)) rest.1 beside.starts_below)).0 in
      rw beside.cut ((free_parts beside.front beside.back a).1 (inl (rw rest.1 ((free_with rest.0 found.region [] a).1 (inr (low, less))))))

  -- if the call for the neighbor before `region`, or for the neighbor after it, was refused, then `IsRefused` holds of `region` and the error of this call
  pub overlaps_front : {region : Region} {below above : Option Found} → AreNeighbors objects regions region.start below above → IsRegion region → (full : Bool) (error : FreeError)
      → EndsBy below region.start (Err error) → IsRefused region (space_of regions full) error
  overlaps_front {below = None} beside is full error ends = absurd ends
  overlaps_front {region} {below = Some found} beside is full error ends = rw ends.0 (is, (region.start, (omega arith, omega (arith, is.some)), last_free beside ends.1))

  pub overlaps_back : {region : Region} {below above : Option Found} → AreNeighbors objects regions region.start below above → IsRegion region → (full : Bool) (error : FreeError)
      → StartsFrom above (end_of region) (Err error) → IsRefused region (space_of regions full) error
  overlaps_back {above = None} beside is full error starts = absurd starts
  overlaps_back {region} {above = Some found} beside is full error starts =
      let first = beside.above_is in
      let high = (subst (AllByRecursion (λ x. region.start < x.start)) first.1.1 beside.starts_above).0 in
      let free = (free_with beside.front found.region first.1.0 found.region.start).1 (inr (omega arith, omega (arith, first.0.is_region.some))) in
      rw starts.0 (is, (found.region.start, (omega (arith, high), starts.1), rw (beside.cut, first.1.1) free))

  -- the address `a` is free exactly if the last region that starts at `a` or below it ends after `a`
  module _ (a : ℕ) {above : Option Found} where
    pub free_there : AreRegionsApart regions → {found : Found} → AreNeighbors objects regions a (Some found) above → IsFree regions a ↔ (a < end_of found.region)
    free_there apart {found} beside =
        let rest = beside.below_is.1 in
        let ends = last_ends beside.front rest.0 found.region rest.1 (parts_apart beside.front beside.back (subst AreRegionsApart beside.cut apart)).0 in
        (λ free. grind (arith, (free_parts beside.front beside.back a).0 (rw beside.cut at free), free_below beside.front (end_of found.region) a ends, free_above beside.back a a beside.starts_above), last_free beside)

    pub none_below : AreNeighbors objects regions a None above → IsFree regions a → ⊥
    none_below beside free = omega (arith, free_above beside.back a a beside.starts_above (rw (beside.cut, beside.below_is) at free))
