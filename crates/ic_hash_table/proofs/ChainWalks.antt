-- These lemmas are about a walk along a chain to the first member that passes a test.
use Rattle.std.proofs.Common.{◌≡◌, ◌+◌, ◌≤◌, Bool, true, false, Option, Some, None, IsSome, List, [], ◌∷◌, drop, length, length-append, refl, sym, ap, ◌∙◌, subst, arith}
use Rattle.std.specs.List.{AllByRecursion}
use Rattle.ic_link_ops.specs.Prelude.{Place, Objects, object_at, IsDistinct, first, last, Table, ArePlaced}
use Rattle.ic_link_ops.specs.Chains.{IsChain}
use Rattle.ic_link_ops.proofs.Clearing.{Releases, releases_none, releases_more}
use Rattle.ic_link_ops.proofs.Prelude.{all_back, all_both, last_of_push, first_is, nothing_first}
use Rattle.ic_hash_table.specs.Searches.{StopsAt}

module _ {E : Type 0} (between : E → Option Place → Option Place → Type 0) (is : Place → Bool) where
  -- no member before `current` passes the test, and `before` is the last member before `current`
  pub record HasPassed (t : Table E) (s : List Place) (before current : Option Place) : Type 0 where
    pub walk : Releases between t t s current
    pub keeps : before ≡ last walk.done
    pub passed : AllByRecursion (λ p. is p ≡ false) walk.done

module _ {E : Type 0} {between : E → Option Place → Option Place → Type 0} {is : Place → Bool} where
  pub passed_none : {t : Table E} {s : List Place} {current : Option Place} → IsChain between t.entry None s None → current ≡ first s
      → (k : HasPassed between is t s None current) × (length k.walk.done ≡ 0)
  unfolding releases_none
  passed_none chain starts = (record { walk = releases_none chain starts; keeps = refl; passed = tt }, refl)

  -- if the member p does not pass the test, the walk goes from p to the next member
  pub passed_more : {t : Table E} {s : List Place} {before next : Option Place} {p : Place} → IsDistinct s → (k : HasPassed between is t s before (Some p)) → is p ≡ false
      → next ≡ first (drop 1 k.walk.rest)
      → (more : HasPassed between is t s (Some p) next) × (k.walk.rest ≡ p ∷ more.walk.rest) × (length more.walk.done ≡ length k.walk.done + 1)
  passed_more {t} {s} {before} {next} {p} d k fails is_next =
      let m = releases_more d k.walk (λ q n. refl) is_next in (
        record {
          walk = m.0;
          keeps = sym (ap last m.2 ∙ last_of_push k.walk.done p);
          passed = subst (AllByRecursion (λ p. is p ≡ false)) (sym m.2) (all_both (λ p. is p ≡ false) k.walk.done (p ∷ []) k.passed (fails, tt));
        },
        m.1,
        ap length m.2 ∙ length-append k.walk.done (p ∷ []),
      )

  -- THE WALK STOPS at a member that passes the test, or at the end of the chain
  pub stops_there : {t : Table E} {s : List Place} {before : Option Place} {p : Place} → HasPassed between is t s before (Some p) → is p ≡ true → StopsAt is s before (Some p)
  stops_there k passes = record {
    gap = record { front = k.walk.done; back = k.walk.rest };
    whole = sym k.walk.parts;
    after = k.keeps;
    here = k.walk.at;
    passed = k.passed;
    stops = passes;
  }

  pub stops_last : {t : Table E} {s : List Place} {before current : Option Place} → HasPassed between is t s before current → current ≡ None → StopsAt is s before None
  stops_last k over = record {
    gap = record { front = k.walk.done; back = k.walk.rest };
    whole = sym k.walk.parts;
    after = k.keeps;
    here = sym over ∙ k.walk.at;
    passed = k.passed;
    stops = tt;
  }

  -- the walk has passed at most as many members as s has. If one member is left, the walk has passed fewer members than s has
  pub done_length : {t : Table E} {s : List Place} {before current : Option Place} (k : HasPassed between is t s before current) → length k.walk.done ≤ length s
  done_length k = omega (arith, ap length k.walk.parts, length-append k.walk.done k.walk.rest)

  pub done_fewer : {t : Table E} {s : List Place} {before : Option Place} {p : Place} (k : HasPassed between is t s before (Some p)) → length k.walk.done + 1 ≤ length s
  done_fewer {p = p} k = omega (arith, ap length k.walk.parts, length-append k.walk.done k.walk.rest, ap length (first_is k.walk.rest k.walk.at))

  -- if no member is left, the walk has passed as many members as s has
  pub done_all : {t : Table E} {s : List Place} {before current : Option Place} (k : HasPassed between is t s before current) → current ≡ None → length s ≤ length k.walk.done
  done_all k over = omega (arith, ap length k.walk.parts, length-append k.walk.done k.walk.rest, ap length (nothing_first k.walk.rest (sym over ∙ k.walk.at)))

-- if each member of s has an object, the member p at which the walk is and each member after p have an object
pub rest_placed : {E V : Type 0} {between : E → Option Place → Option Place → Type 0} {is : Place → Bool} {t : Table E} {s : List Place} {before : Option Place} {p : Place} (objects : Objects V)
    (k : HasPassed between is t s before (Some p)) → ArePlaced objects s → ArePlaced objects (p ∷ drop 1 k.walk.rest)
rest_placed objects k placed =
    subst (ArePlaced objects) (first_is k.walk.rest k.walk.at) (all_back (λ q. IsSome (object_at objects q)) k.walk.done k.walk.rest (subst (ArePlaced objects) k.walk.parts placed))
