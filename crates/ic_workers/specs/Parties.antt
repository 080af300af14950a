-- What the party of a worker has before and after it claims the first places. A party is a claim holder with a table and a list of its own.
use Rattle.std.specs.Prelude.{◌≡◌, List, [], length}
use Rattle.ic_link_ops.specs.Prelude.{Place, IsUnlinked}
use Rattle.ic_link_ops.specs.DoublyEntries.{PlainRepresents, is_linked, plain_table}
use Rattle.ic_atomic.specs.declared.claims.Claims.{Claims}
use Rattle.ic_atomic.specs.declared.claims.Holder.{Holder}
use Rattle.ic_atomic.specs.Holders.{places_of, record_of, IsOf}
use Rattle.ic_workers.specs.Claimed.{IsRow, ClaimedEach}
use Rattle.ic_workers.specs.declared.party.Party.{Party}
use Rattle.ic_workers.specs.declared.party.Gathered.{Gathered}

module _ {A : Type 0} where
  -- The party has claimed nothing yet. The party is given the first places in order, its table covers these places, and its list is empty
  pub record IsReady (claims : Claims A) (party : Party A) : Type 0 where
    pub claims_are : party.claims.now ≡ claims
    pub made : IsOf claims party.holder
    pub covers : (plain_table party.table).extent.places ≡ places_of claims
    pub fresh : record_of party.holder ≡ []
    pub unlinked : (p : Place) → IsUnlinked is_linked (plain_table party.table) p
    pub empty : PlainRepresents party.table party.list []
    pub row : IsRow 0 party.offered.now
    pub long : length party.offered.now ≡ places_of claims

  -- the party has claimed each of the first places once, and its list has the places whose claims succeeded
  pub record HasGathered (claims : Claims A) (gathered : Gathered A) : Type 0 where
    pub made : IsOf claims gathered.holder
    pub list : List Place
    pub shows : PlainRepresents gathered.table gathered.list list
    pub claimed : ClaimedEach (places_of claims) (record_of gathered.holder) list

  -- the holder has claimed each of the first places once, and `list` has the places whose claims succeeded
  pub record HasTaken (claims : Claims A) (holder : Holder) (list : List Place) : Type 0 where
    pub made : IsOf claims holder
    pub claimed : ClaimedEach (places_of claims) (record_of holder) list
