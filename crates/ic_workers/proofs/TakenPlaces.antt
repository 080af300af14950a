-- If each holder has claimed each of the first places once, the holders have shared the places out.
use Rattle.std.proofs.Common.{◌≡◌, ◌<◌, ℕ, zero, suc, true, List, [], ◌∷◌, ◌++◌, map, length, refl, sym, ap, ◌∙◌, subst, arith, All, Vec}
use Rattle.std.specs.List.{AllZip}
use Rattle.std.proofs.lemmas.List.{length-map}
use Rattle.ic_link_ops.specs.Prelude.{Place, index_of}
use Rattle.ic_atomic.specs.declared.step.Event.{Event}
use Rattle.ic_atomic.specs.declared.claims.Claims.{Claims}
use Rattle.ic_atomic.specs.declared.claims.Holder.{Holder}
use Rattle.ic_atomic.specs.Prelude.{holds, record_at, places_of, holders_of, record_of, IsOf, AreWholeList, NoneTwice}
use Rattle.ic_workers.specs.SharedOut.{has, Rises, list_at, places_in, SharedOut}
use Rattle.ic_workers.specs.Claimed.{ClaimedEach, ClaimedAsOneList}
use Rattle.ic_workers.specs.Parties.{HasGathered, HasTaken}
use Rattle.ic_workers.specs.declared.party.Gathered.{Gathered}
use Rattle.ic_workers.proofs.OnlyClaims.{OnlyClaims, asks, claimed_is_held}
use Rattle.ic_workers.proofs.Rows.{row_place, holds_chosen, only_each, asks_each, rises_chosen, has_place}

-- a record agrees with a list: the record has only claims, and its holder holds exactly the places in the list
record Fits (r : List Event) (s : List Place) : Type 0 where
  only : OnlyClaims r
  held : (p : Place) → holds p r ≡ has s (index_of p)

fits : {places : ℕ} {r : List Event} {s : List Place} → ClaimedEach places r s → Fits r s
fits c = record {
  only = rw c.claimed (only_each c.offered c.got);
  held = λ p. ap (holds p) c.claimed ∙ (holds_chosen p c.offered c.got c.each ∙ ap (λ l. has l (index_of p)) (sym c.are));
}

-- if the vector v is added, the lists of places get one more list, with the places of v
pub places_more : {B : Type 0} (ls : List (Vec Place B)) (v : Vec Place B) → places_in (ls ++ v ∷ []) ≡ places_in ls ++ v.items ∷ []
places_more [] v = refl
places_more (l ∷ ls) v = ap (λ (xs : List (List Place)). l.items ∷ xs) (places_more ls v)

module _ {A : Type 0} (claims : Claims A) where
  -- if one more holder has taken the places of one more list, all holders have taken the places of their lists
  pub taken_more : (hs : List Holder) (ls : List (List Place)) (h : Holder) (s : List Place) → AllZip (HasTaken claims) hs ls → HasTaken claims h s
      → AllZip (HasTaken claims) (hs ++ h ∷ []) (ls ++ s ∷ [])
  taken_more [] [] h s have one = (one, tt)
  taken_more [] (t ∷ ls) h s have one = absurd have
  taken_more (g ∷ hs) [] h s have one = absurd have
  taken_more (g ∷ hs) (t ∷ ls) h s have one = (have.0, taken_more hs ls h s have.1 one)

  -- a worker's result means that its holder has taken the places in its list
  pub has_taken : (gathered : Gathered A) (is : HasGathered claims gathered) {h : Holder} {s : List Place} → h ≡ gathered.holder → s ≡ is.list → HasTaken claims h s
  has_taken gathered is {h} {s} same places = record {
    made = rw same is.made;
    claimed = subst (λ r. ClaimedEach (places_of claims) r s) (sym (ap record_of same)) (subst (ClaimedEach (places_of claims) (record_of gathered.holder)) (sym places) is.claimed);
  }

  fits_at : (hs : List Holder) (ls : List (List Place)) → AllZip (HasTaken claims) hs ls → (i : ℕ) → Fits (record_at (map record_of hs) i) (list_at ls i)
  fits_at [] [] have i = record { only = tt; held = λ p. refl }
  fits_at [] (t ∷ ls) have i = absurd have
  fits_at (g ∷ hs) [] have i = absurd have
  fits_at (g ∷ hs) (t ∷ ls) have zero = fits have.0.claimed
  fits_at (g ∷ hs) (t ∷ ls) have (suc i) = fits_at hs ls have.1 i

  rises_each : (hs : List Holder) (ls : List (List Place)) → AllZip (HasTaken claims) hs ls → All (Rises 0 (places_of claims)) ls
  rises_each [] [] have k d low = absurd (omega (arith, low))
  rises_each [] (t ∷ ls) have k d low = absurd have
  rises_each (g ∷ hs) [] have k d low = absurd have
  rises_each (g ∷ hs) (t ∷ ls) have zero d low =
      let c = have.0.claimed in
      let long = c.long in
      rw c.are (rises_chosen 0 (places_of claims) c.offered c.got c.row (omega (arith, long)))
  rises_each (g ∷ hs) (t ∷ ls) have (suc k) d low = rises_each hs ls have.1 k d (omega (arith, low))

  -- all holders hs were made with the claims, and there are as many holders as lists
  pub each_made : (hs : List Holder) (ls : List (List Place)) → AllZip (HasTaken claims) hs ls → All (IsOf claims) hs
  each_made [] [] have k d low = absurd (omega (arith, low))
  each_made [] (t ∷ ls) have k d low = absurd have
  each_made (g ∷ hs) [] have k d low = absurd have
  each_made (g ∷ hs) (t ∷ ls) have zero d low = have.0.made
  each_made (g ∷ hs) (t ∷ ls) have (suc k) d low = each_made hs ls have.1 k d (omega (arith, low))

  pub as_many : (hs : List Holder) (ls : List (List Place)) → AllZip (HasTaken claims) hs ls → length hs ≡ length ls
  as_many [] [] have = refl
  as_many [] (t ∷ ls) have = absurd have
  as_many (g ∷ hs) [] have = absurd have
  as_many (g ∷ hs) (t ∷ ls) have = ap suc (as_many hs ls have.1)

  -- by its record, each holder has claimed each of the first places once, and its list has the places whose claims succeeded
  claimed_each : (hs : List Holder) (ls : List (List Place)) → AllZip (HasTaken claims) hs ls → AllZip (ClaimedEach (places_of claims)) (map record_of hs) ls
  claimed_each [] [] have = tt
  claimed_each [] (t ∷ ls) have = absurd have
  claimed_each (g ∷ hs) [] have = absurd have
  claimed_each (g ∷ hs) (t ∷ ls) have = (have.0.claimed, claimed_each hs ls have.1)

  -- the first record has a claim of each of the first places
  asks_first : (hs : List Holder) (ls : List (List Place)) → AllZip (HasTaken claims) hs ls → 0 < length ls → (n : ℕ) → n < places_of claims
      → (p : Place) × (index_of p ≡ n) × (asks (index_of p) (record_at (map record_of hs) 0) ≡ true)
  asks_first [] [] have some n low = absurd (omega (arith, some))
  asks_first [] (t ∷ ls) have some n low = absurd have
  asks_first (g ∷ hs) [] have some n low = absurd have
  asks_first (g ∷ hs) (t ∷ ls) have some n low =
      let c = have.0.claimed in
      let long = c.long in
      let there = row_place 0 c.offered c.row n (omega arith) (omega (arith, low, long)) in
      let is = there.1 in
      (there.0, is, ap (asks (index_of there.0)) c.claimed ∙ asks_each 0 c.offered c.got c.row c.each (index_of there.0) (omega arith) (omega (arith, low, long, is)))

  module _ (hs : List Holder) (ls : List (List Place)) (have : AllZip (HasTaken claims) hs ls) (apart : NoneTwice (map record_of hs)) (whole : AreWholeList claims (map record_of hs)) where
    held_by : (i n : ℕ) (p : Place) → index_of p ≡ n → has (list_at ls i) n ≡ true → holds p (record_at (map record_of hs) i) ≡ true
    held_by i n p is e = (fits_at hs ls have i).held p ∙ (ap (has (list_at ls i)) is ∙ e)

    -- if there is a list for each holder of the claims, the records of all holders can be merged into one list of steps
    pub as_one_list : length ls ≡ holders_of claims → ClaimedAsOneList (holders_of claims) (places_of claims) ls
    as_one_list each = record {
      records = map record_of hs;
      each = length-map hs record_of ∙ (as_many hs ls have ∙ each);
      claimed = claimed_each hs ls have;
      words = whole.words;
      covers = whole.places;
      one = whole.one;
    }

    -- if there is a list for each holder of the claims, the first places are shared out among the holders
    pub shared_out : length ls ≡ holders_of claims → SharedOut (holders_of claims) (places_of claims) ls
    shared_out each = record {
      each = each;
      rises = rises_each hs ls have;
      apart = λ i k n e f. let p = has_place (list_at ls i) n e in apart i k p.0 (held_by i n p.0 p.1 e) (held_by k n p.0 p.1 f);
      all = λ some n low.
          let a = asks_first hs ls have (omega (arith, some, each)) n low in
          let by = claimed_is_held whole.words (map record_of hs) whole.one (λ h. (fits_at hs ls have h).only) 0 a.0 a.2 in
          (by.0, sym (ap (has (list_at ls by.0)) a.1) ∙ (sym ((fits_at hs ls have by.0).held a.0) ∙ by.1));
    }
