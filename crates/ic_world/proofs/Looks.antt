-- Limits for the number of looks (key comparisons) of a search, if its probe had compared nothing before.
use Rattle.std.proofs.Common.{◌≡◌, ℕ, Bool, true, false, List, refl, sym, subst, arith, Ordering}
use Rattle.std.specs.Bool.{OnTrue}
use Rattle.ic_link_ops.specs.Prelude.{Place, Objects}
use Rattle.ic_rbtree.specs.declared.keys.key_adapter.Bound.{Bound}
use Rattle.ic_rbtree.specs.declared.keys.key_adapter.Bound.TheVariants.{Included, Excluded, Unbounded}
use Rattle.ic_rbtree.specs.declared.keys.probe.KeyProbe.{KeyProbe}
use Rattle.ic_rbtree.specs.Comparing.{compared, compared_within, bound_map, Looks, LooksWithin}
use Rattle.ic_rbtree.specs.KeyProbe.{looks_of}
use Rattle.ic_world.specs.Looks.{WithinComparisonBound, WithinBound, looks_within}

module _ {A V K : Type 0} (order : KeyProbe A V K → V → Ordering) where
  -- a probe that had compared nothing before has counted only the looks of one search
  pub few_asked : {old new : KeyProbe A V K} {s : List Place} → looks_of old ≡ 0 → Looks order looks_of old new s → WithinComparisonBound (looks_of new) s
  few_asked {new = new} {s} none l = let e : looks_of new ≡ l.looks = omega (arith, l.counted, none) in subst (λ n. WithinComparisonBound n s) (sym e) l.few

  -- if an insertion was made, its probe has counted only the looks of one search
  pub few_done : (old new : KeyProbe A V K) (s : List Place) (acquired : Bool) → looks_of old ≡ 0 → OnTrue acquired (Looks order looks_of old new s) → OnTrue acquired (WithinComparisonBound (looks_of new) s)
  few_done old new s true none l = few_asked none l
  few_done old new s false none l = tt

  -- the probe of a bound, which had compared nothing before, has counted only the looks of one search
  few_within : (old new : Bound (KeyProbe A V K)) (s : List Place) → looks_within old ≡ 0 → LooksWithin order looks_of old new s → WithinBound old (looks_within new) s
  few_within (Included old) (Included new) s none l = few_asked none l
  few_within (Excluded old) (Excluded new) s none l = few_asked none l
  few_within Unbounded Unbounded s none l = refl
  few_within (Included old) (Excluded new) s none l = absurd l
  few_within (Included old) Unbounded s none l = absurd l
  few_within (Excluded old) (Included new) s none l = absurd l
  few_within (Excluded old) Unbounded s none l = absurd l
  few_within Unbounded (Included new) s none l = absurd l
  few_within Unbounded (Excluded new) s none l = absurd l

-- a function that changes the key of a bound does not change how many looks are allowed
module _ {B C : Type 0} (f : B → C) (n : ℕ) (s : List Place) where
  few_of_end : (bound : Bound B) → WithinBound bound n s → WithinBound (bound_map f bound) n s
  few_of_end (Included end) few = few
  few_of_end (Excluded end) few = few
  few_of_end Unbounded few = few

  few_of_map : (bound : Bound B) → WithinBound (bound_map f bound) n s → WithinBound bound n s
  few_of_map (Included end) few = few
  few_of_map (Excluded end) few = few
  few_of_map Unbounded few = few

-- a search with a bound, by a probe that had compared nothing, makes at most the looks that are allowed for the bound
pub few_for : {A V K : Type 0} (order : KeyProbe A V K → V → Ordering) (by_key : K → V → Ordering) (objects : Objects V) (bound : Bound K) (old new : Bound (KeyProbe A V K)) (s : List Place)
    → looks_within old ≡ 0 → compared_within order objects old ≡ compared_within by_key objects bound → LooksWithin order looks_of old new s → WithinBound bound (looks_within new) s
few_for order by_key objects bound old new s none same looks =
    few_of_map (λ key. compared (by_key key) objects) (looks_within new) s bound
    (subst (λ ends. WithinBound ends (looks_within new) s) same
    (few_of_end (λ probe. compared (order probe) objects) (looks_within new) s old (few_within order old new s none looks)))
