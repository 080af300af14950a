-- ANY LIST OF CALLS: what holds of each call, with the family before the call and the family after it.
use Rattle.std.specs.Prelude.{◌≡◌, List, [], ◌∷◌}
use Rattle.std.specs.declared.cmp.Ordering.{Ordering}
use Rattle.ic_world.specs.declared.call.Refusal.{Refusal}
use Rattle.ic_world.specs.declared.call.Command.{Command}
use Rattle.ic_world.specs.Prelude.{Reply, refused, Family, IsSound, Step}
use Rattle.ic_world_laws.specs.Laws.{inserts, IsRefusedExactlyIfLinked, KeepsComparisonBound}
use Rattle.ic_world_laws.specs.Sorted.{FindsFirst, FindsEnd, IsWithinBoth, GoesAfter}
use Rattle.ic_world_laws.specs.InsertionOrder.{StaysSorted, KeepsOrder, StartsInOrder}

-- `cmp` is the order of the keys, and `key_of` computes the key of a value
module _ {A V K : Type 0} (cmp : K → K → Ordering) (key_of : A → V → K) where
  -- A CALL IS LAWFUL if it is a step of the model, and has the properties on which users rely
  pub record IsLawful (old : Family A V) (command : Command V K) (reply : Reply) (new : Family A V) : Type 0 where
    -- the answer, and the sequences, cursors and linked places of each field, are those that the model defines by cuts and joins
    pub step : Step cmp key_of old command reply new
    -- no two sequences of one field share a member, all members are linked, and there is an object at each member
    pub sound : IsSound new
    -- a refused call changes nothing. An insert with a well-named reply is refused exactly if its object is linked in the field of the collection
    pub refused_changes_nothing : (refusal : Refusal) → reply ≡ refused refusal → new ≡ old
    pub insert_is_refused_if_linked : IsRefusedExactlyIfLinked old (inserts command) reply
    -- a search among n members compares v keys, with 2^v at most (n + 1)^2
    pub looks_are_few : KeepsComparisonBound old command reply
    -- if a tree is sorted, each keyed call returns the first, the last or all of the members whose keys it searches for, and an insert keeps the
    -- order
    pub key_is_found_first : FindsFirst cmp key_of old command reply
    pub bound_is_found_at_its_end : FindsEnd cmp key_of old command reply
    pub range_is_within_both : IsWithinBoth cmp key_of old command reply
    pub insert_goes_after : GoesAfter cmp key_of old command reply new
    -- each call that is orderly for a tree keeps the tree sorted, with members of equal keys in the order of their insertion
    pub stays_sorted : StaysSorted cmp key_of old command new
    pub keeps_order : KeepsOrder cmp key_of old command reply new
    pub starts_in_order : StartsInOrder cmp key_of old command reply new

  -- ALL CALLS OF A LIST ARE LAWFUL: there is a family between each two calls, and each call is lawful from the family before it to the family after
  -- it. There are as many replies as calls
  abbrev pub AreLawful : Family A V → List (Command V K) → List Reply → Family A V → Type 0
  AreLawful old [] [] new = new ≡ old
  AreLawful old (command ∷ commands) (reply ∷ replies) new = (mid : Family A V) × IsLawful old command reply mid × AreLawful mid commands replies new
  AreLawful old _ _ new = ⊥
