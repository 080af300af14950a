-- Lemmas about lists of regions that are apart: what holds if a region is added, removed or replaced, and which addresses are then free.
use Rattle.std.proofs.Common.{◌≡◌, ℕ, ◌<◌, ◌≤◌, ◌⊎◌, ◌↔◌, inl, inr, List, [], ◌∷◌, ◌++◌, map, refl, arith, nat_cmp}
use Rattle.std.specs.List.{AllByRecursion}
use Rattle.ic_link_ops.proofs.Each.{all_map, all_front, all_back, all_with, all_without}
use Rattle.ic_rbtree.specs.Borders.{IsSorted}
use Rattle.ic_rbtree.proofs.SortedKeys.{is_up}
use Rattle.region_allocator.specs.declared.region.Region.{Region}
use Rattle.region_allocator.specs.Changes.{FitsFor}
use Rattle.region_allocator.specs.Kept.{start_of}
use Rattle.region_allocator.specs.Regions.{end_of, Has, IsFree, IsRegion, AreApart, AreRegionsApart, AreShorter, FitsAt}

-- if `P`, `Q` and `R` hold of each region and together imply `S`, then `S` holds of each region
pub all_three : {P Q R S : Region → Type 0} → ((x : Region) → P x → Q x → R x → S x) → (s : List Region) → AllByRecursion P s → AllByRecursion Q s → AllByRecursion R s → AllByRecursion S s
all_three f [] p q r = tt
all_three f (x ∷ s) p q r = (f x p.0 q.0 r.0, all_three f s p.1 q.1 r.1)

-- each element of a list of regions that are apart is a region: it is not empty, and ends at `u64::MAX` or before
pub all_regions : (s : List Region) → AreRegionsApart s → AllByRecursion IsRegion s
all_regions [] h = tt
all_regions (r ∷ s) h = (h.0, all_regions s h.2)

-- the starts of regions that are apart are sorted in increasing order
pub starts_rise : (s : List Region) → AreRegionsApart s → IsSorted nat_cmp (map start_of s)
starts_rise [] h = tt
starts_rise (r ∷ []) h = tt
starts_rise (r ∷ x ∷ s) h = (is_up r.start x.start (omega (arith, h.1.0)), starts_rise (x ∷ s) h.2)

-- if a list of regions that are apart is divided in two, then the regions of each part are apart
pub parts_apart : (front back : List Region) → AreRegionsApart (front ++ back) → AreRegionsApart front × AreRegionsApart back
parts_apart [] back h = (tt, h)
parts_apart (x ∷ front) back h =
    let rest = parts_apart front back h.2 in ((h.0, all_front (λ later. end_of x < later.start) front back h.1, rest.0), rest.1)

-- the regions in `front` end before `r` starts, and the regions in `back` start after `r` ends. The regions are still apart without `r`
pub cut_apart : (front : List Region) (r : Region) (back : List Region) → AreRegionsApart (front ++ r ∷ back)
    → AllByRecursion (λ x. end_of x < r.start) front × IsRegion r × AllByRecursion (λ x. end_of r < x.start) back × AreRegionsApart (front ++ back)
cut_apart [] r back h = (tt, h.0, h.1, h.2)
cut_apart (x ∷ front) r back h =
    let rest = cut_apart front r back h.2 in
    (((all_back (λ later. end_of x < later.start) front (r ∷ back) h.1).0, rest.0), rest.1, rest.2, (h.0, all_without (λ later. end_of x < later.start) front r back h.1, rest.3))

-- all other regions of the list are apart from the region `r`
pub others_away : (front : List Region) (r : Region) (back : List Region) → AreRegionsApart (front ++ r ∷ back) → AllByRecursion (AreApart r) (front ++ back)
others_away [] r back h = all_map (λ x high. inl high) back h.1
others_away (x ∷ front) r back h = (inr (all_back (λ later. end_of x < later.start) front (r ∷ back) h.1).0, others_away front r back h.2)

-- the region `x` is the region `out`, or is apart from it
abbrev pub IsOrApart : Region → Region → Type 0
IsOrApart out x = (x ≡ out) ⊎ AreApart out x

pub apart_from : (front : List Region) (r : Region) (back : List Region) → AreRegionsApart (front ++ r ∷ back) → AllByRecursion (IsOrApart r) (front ++ r ∷ back)
apart_from front r back h = all_with (IsOrApart r) front r back (inl refl) (all_map (λ x away. inr away) (front ++ back) (others_away front r back h))

-- if `r` is apart from each region of a list, and is inserted in the order of the addresses, then the regions of the new list are apart
pub added_apart : (front back : List Region) (r : Region) → IsRegion r → AreRegionsApart (front ++ back) → AllByRecursion (AreApart r) (front ++ back)
    → AllByRecursion (λ x. x.start < end_of r) front → AllByRecursion (λ x. r.start < end_of x) back → AreRegionsApart (front ++ r ∷ back)
added_apart [] back r is h apart below above =
    let after : AllByRecursion (λ x. end_of r < x.start) back = all_three (λ x away high again. grind arith) back apart above above in (is, after, h)
added_apart (x ∷ front) back r is h apart below above =
    (h.0, all_with (λ later. end_of x < later.start) front r back (grind arith) h.1, added_apart front back r is h.2 apart.1 below.1 above)

-- if the region `r` can replace `out`, then the regions of the list with `r` at the position of `out` are apart
pub changed_apart : (front : List Region) (out : Region) (back : List Region) {r : Region} → AreRegionsApart (front ++ out ∷ back) → FitsFor out r (front ++ out ∷ back) → AreRegionsApart (front ++ r ∷ back)
changed_apart front out back {r} h fits =
    let cut = cut_apart front out back h in
    let each = all_without (λ x. (x ≡ out) ⊎ AreApart r x) front out back fits.apart in
    let apart : AllByRecursion (AreApart r) (front ++ back) = all_three (λ x away either again. grind arith) (front ++ back) (others_away front out back h) each each in
    added_apart front back r fits.is_region cut.3 apart (all_map (λ x low. omega (arith, low, fits.high)) front cut.0) (all_map (λ x high. omega (arith, high, fits.low)) back cut.2)

-- an address is free in a list exactly if it is free in one of the two parts of the list
pub free_parts : (front back : List Region) (a : ℕ) → IsFree (front ++ back) a ↔ (IsFree front a ⊎ IsFree back a)
free_parts [] back a = (λ free. grind arith, λ either. grind arith)
free_parts (x ∷ front) back a = let rest = free_parts front back a in (λ free. grind (arith, rest), λ either. grind (arith, rest))

-- an address is free in a list with the region `r` exactly if it is free in the list without `r`, or `r` has it
pub free_with : (front : List Region) (r : Region) (back : List Region) (a : ℕ) → IsFree (front ++ r ∷ back) a ↔ (IsFree (front ++ back) a ⊎ Has r a)
free_with front r back a =
    let with = free_parts front (r ∷ back) a in let less = free_parts front back a in (λ free. grind (arith, with, less), λ either. grind (arith, with, less))

-- if all regions start after the address `n`, then each free address is after `n`
pub free_above : (s : List Region) (n a : ℕ) → AllByRecursion (λ x. n < x.start) s → IsFree s a → n < a
free_above [] n a above free = absurd free
free_above (x ∷ s) n a above (inl has) = omega (arith, above.0, has.0)
free_above (x ∷ s) n a above (inr free) = free_above s n a above.1 free

-- if all regions end at the address `n` or before it, then each free address is before `n`
pub free_below : (s : List Region) (n a : ℕ) → AllByRecursion (λ x. end_of x ≤ n) s → IsFree s a → a < n
free_below [] n a below free = absurd free
free_below (x ∷ s) n a below (inl has) = omega (arith, below.0, has.1)
free_below (x ∷ s) n a below (inr free) = free_below s n a below.1 free

-- an address of the region `r` is in no other region of the list
pub others_not : (front : List Region) (r : Region) (back : List Region) → AreRegionsApart (front ++ r ∷ back) → (a : ℕ) → IsFree (front ++ back) a → Has r a → ⊥
others_not front r back h a free own =
    let cut = cut_apart front r back h in
    let left : IsFree front a → a < r.start = free_below front r.start a (all_map (λ x low. omega (arith, low)) front cut.0) in
    grind (arith, (free_parts front back a).0 free, left, free_above back (end_of r) a cut.2)

-- all regions in `front` are shorter than `length`. So `length` consecutive free addresses can start only in `whole` or after it
pub lowest_fits : (length start : ℕ) (front : List Region) (whole : Region) (back : List Region) → AreRegionsApart (front ++ whole ∷ back) → AreShorter front length → 0 < length
    → FitsAt (front ++ whole ∷ back) length start → whole.start ≤ start
lowest_fits length start [] whole back apart short some fits =
    grind (arith, fits start (omega arith, omega (arith, some)), free_above back (end_of whole) start apart.1)
lowest_fits length start (x ∷ front) whole back apart short some fits =
    let above : (a : ℕ) → IsFree (front ++ whole ∷ back) a → end_of x < a = λ a free. free_above (front ++ whole ∷ back) (end_of x) a apart.1 free in
    let never : Has x start → ⊥ = λ has. grind (arith, fits (end_of x) (omega (arith, has.1), omega (arith, has.0, short.0)), above (end_of x)) in
    let after : end_of x < start = grind (arith, fits start (omega arith, omega (arith, some)), never, above start) in
    lowest_fits length start front whole back apart.2 short.1 some (λ a in_it. grind (arith, fits a in_it, in_it.0, after))
