-- These lemmas follow a walk along a chain of a hash table, with a bound on its steps.
use Rattle.std.proofs.Common.{◌≡◌, ◌≢◌, ◌≤◌, ◌-◌, ℕ, inl, inr, Bool, true, false, Option, Some, None, List, [], ◌∷◌, ◌++◌, drop, length, length-append, append_assoc, refl, sym, ap, ◌∙◌, subst, arith}
use Rattle.std.specs.List.{AllByRecursion}
use Rattle.std.proofs.lemmas.Bool.Decides.{eqb_tells}
use Rattle.ic_link_ops.specs.Prelude.{Place, first, last, but_last, IsDistinct, IsMember, Table, IsCovered, IsLinked, Front, IsFollowed, list_from, successor_at, entry_at}
use Rattle.ic_link_ops.specs.Chains.{IsChain}
use Rattle.ic_link_ops.proofs.Prelude.{chain_cut, next_between, releases_all, represents_middle}
use Rattle.ic_link_ops.proofs.SequenceLemmas.{distinct_right, first_is, same_gap, last_of_push, but_last_of_push, split_member}
use Rattle.ic_link_ops.proofs.SinglyLists.{represented_length}
use Rattle.ic_hash_table.specs.Searches.{is_place, Finds}
use Rattle.ic_hash_table.proofs.ChainWalks.{HasPassed, passed_none, passed_more}
use Rattle.ic_hash_table.proofs.FoundMembers.{place_absent}
use Rattle.ic_raw.specs.declared.words.RawOne.{RawOne}
use Rattle.ic_raw.specs.declared.table.RawTable.{RawTable}
use Rattle.ic_raw.specs.Hash.{has_key, NamesKey}
use Rattle.ic_raw.specs.Prelude.{key_of, raw_entries, is_linked_one, no_word, HasNumber}
use Rattle.ic_raw.specs.Singly.{LeadsFrom, Represents, lent_table, successor}
use Rattle.ic_raw.proofs.Singly.{after_any, ended_distinct, leads_on, ends_there}

-- THE WALK HAS COME to `current`, past members of s that fail the test `is`. The last of these members is `before`. At most `left` members of s
-- remain
pub record Comes (is : Place → Bool) (t : Table RawOne) (s : List Place) (before current : Option Place) (left : ℕ) : Type 0 where
  pub passed : HasPassed (IsFollowed successor) is t s before current
  pub few : length passed.walk.rest ≤ left

-- if the key of a place is not the searched key, the test for this key fails at the place
pub other_key : (keys : List ℕ) (key : ℕ) (p : Place) → key_of keys p ≢ key → has_key keys key p ≡ false
other_key keys key p other = elim (eqb_tells (key_of keys p) key) [ inl e ↦ absurd (other e.1) | inr n ↦ n.0 ]

none_left : (w : List Place) → length w ≤ 0 → first w ≡ None
none_left [] few = refl
none_left (x ∷ w) few = absurd (omega (arith, few))

module _ {is : Place → Bool} {t : Table RawOne} {s : List Place} where
  pub comes_first : {front : Option Place} → ((q : Place) → is_linked_one (t.entry q) ≡ true → IsCovered t q) → Represents t (list_from front) s
      → Comes is t s None front t.extent.places
  comes_first covered shown =
      let k = passed_none shown.chain shown.head in record {
        passed = k.0;
        few = omega (arith, k.1, ap length k.0.walk.parts, length-append k.0.walk.done k.0.walk.rest, represented_length t covered _ s shown);
      }

  module _ {before : Option Place} {p : Place} {left : ℕ} (k : Comes is t s before (Some p) left) where
    -- the member to which a walk has come is linked
    pub comes_linked : is_linked_one (t.entry p) ≡ true
    comes_linked = (next_between k.passed.walk).linked

    -- the sequence s consists of the members that have failed the test, the member to which the walk has come, and the members after it
    pub comes_parts : s ≡ k.passed.walk.done ++ p ∷ drop 1 k.passed.walk.rest
    comes_parts = k.passed.walk.parts ∙ ap (λ (l : List Place). k.passed.walk.done ++ l) (first_is k.passed.walk.rest k.passed.walk.at)

    -- THE WALK GOES ON BY ONE MEMBER, which fails the test
    pub comes_on : {next : Option Place} → IsDistinct s → is p ≡ false → next ≡ (successor_at successor t p).next → Comes is t s (Some p) next (left - 1)
    comes_on d fails after =
        let more = passed_more d k.passed fails (after ∙ (next_between k.passed.walk).next) in
        record { passed = more.0; few = omega (arith, k.few, ap length {y = p ∷ more.0.walk.rest} more.1) }

    -- THE WALK HAS FOUND the first member of s that passes the test
    pub comes_found : is p ≡ true → Finds is s (Some p)
    comes_found passes = (k.passed.walk.done, drop 1 k.passed.walk.rest, comes_parts, k.passed.passed, passes)

  -- if no step is left, the walk has come to the end of the list, and all members of the list have failed the test
  pub comes_over : {before current : Option Place} {left : ℕ} → Comes is t s before current left → left ≤ 0 → current ≡ None
  comes_over k over = k.passed.walk.at ∙ none_left k.passed.walk.rest (omega (arith, k.few, over))

  pub comes_to_none : {before current : Option Place} {left : ℕ} → Comes is t s before current left → current ≡ None → Finds is s None
  comes_to_none k over = subst (AllByRecursion (λ p. is p ≡ false)) (releases_all k.passed.walk over) k.passed.passed

-- A WALK SEARCHES A PLACE: if it comes to the place, the place is a member of the list
module _ {t : Table RawOne} (member : Place) where
  pub met : {s : List Place} {before : Option Place} {p : Place} {left : ℕ} → Comes (is_place member) t s before (Some p) left → p ≡ member → IsMember member s
  met k same = subst (IsMember member) (sym (comes_parts k ∙ ap (λ (q : Place). k.passed.walk.done ++ q ∷ drop 1 k.passed.walk.rest) same)) (split_member k.passed.walk.done member (drop 1 k.passed.walk.rest))

  -- if a walk comes to the searched member, `before` is the last of the members before it
  pub met_after : (ahead back : List Place) {before : Option Place} {p : Place} {left : ℕ} → IsDistinct (ahead ++ member ∷ back)
      → Comes (is_place member) t (ahead ++ member ∷ back) before (Some p) left → p ≡ member → before ≡ last ahead
  met_after ahead back d k same =
      let done = k.passed.walk.done in
      let rest = drop 1 k.passed.walk.rest in
      let whole : ahead ++ member ∷ back ≡ done ++ member ∷ rest = comes_parts k ∙ ap (λ (q : Place). done ++ q ∷ rest) same in
      let one = append_assoc ahead (member ∷ []) back in
      let other = append_assoc done (member ∷ []) rest in
      let fronts = (same_gap (record { front = ahead ++ member ∷ []; back = back }) (record { front = done ++ member ∷ []; back = rest })
      (subst IsDistinct (sym one) d) (one ∙ whole ∙ sym other) (last_of_push ahead member ∙ sym (last_of_push done member))).0 in
      k.passed.keeps ∙ ap last (sym (but_last_of_push done member) ∙ ap but_last (sym fronts) ∙ but_last_of_push ahead member)

  -- a walk that searches `member`, which is a member of the list, does not come to the end of the list
  pub not_missed : (ahead back : List Place) {before current : Option Place} {left : ℕ} → Comes (is_place member) t (ahead ++ member ∷ back) before current left → current ≡ None → ⊥
  not_missed ahead back k over = split_member ahead member back (place_absent member (ahead ++ member ∷ back) (comes_to_none k over))

-- THE MEMBERS AFTER A MEMBER are a list of their own, because the entries of a singly linked list do not name previous places
pub represented_after : {t : Table RawOne} {list : Front} (front : List Place) (p : Place) (back : List Place) → Represents t list (front ++ p ∷ back)
    → Represents t (list_from (successor_at successor t p).next) back
represented_after {t} front p back shown =
    let m = represents_middle front back shown in
    record {
      distinct = (distinct_right front (p ∷ back) shown.distinct).1;
      chain = after_any t.entry (Some p) None back None (chain_cut (IsFollowed successor) t.entry None front (p ∷ back) None shown.chain).1.1;
      head = m.next;
      tail = refl;
    }

-- if the places after a linked place are a list, the linked place and these places are a list
pub represented_from : {t : Table RawOne} (p : Place) (s : List Place) → is_linked_one (t.entry p) ≡ true → Represents t (list_from (successor_at successor t p).next) s
    → Represents t (list_from (Some p)) (p ∷ s)
represented_from {t} p s linked shown =
    let chain : IsChain (IsFollowed successor) t.entry None (p ∷ s) None = (record { linked = linked; next = shown.head }, after_any t.entry None (Some p) s None shown.chain) in
    record { distinct = ended_distinct t.entry None (p ∷ s) chain; chain = chain; head = refl; tail = refl }

-- THE LINKS LEAD FROM `front` TO `current`. If `current` is none, the places from `front` on are a list
abbrev pub WalksTo : Table RawOne → Option Place → Option Place → Type 0
WalksTo t front None = (s : List Place) × Represents t (list_from front) s
WalksTo t front (Some at) = LeadsFrom t front at

pub walks_first : (t : Table RawOne) (front : Option Place) → WalksTo t front front
walks_first t None = ([], record { distinct = tt; chain = tt; head = refl; tail = refl })
walks_first t (Some begin) = record { begin = begin; is = refl; leads = record { walked = []; chain = tt; starts = refl } }

pub walks_on : {t : Table RawOne} {front : Option Place} {at : Place} (next : Option Place) → WalksTo t front (Some at) → is_linked_one (t.entry at) ≡ true
    → (successor_at successor t at).next ≡ next → WalksTo t front next
walks_on None walks linked is = let whole = ends_there walks.leads linked is in rw walks.is (whole.0, whole.1)
walks_on (Some next) walks linked is = record { begin = walks.begin; is = walks.is; leads = leads_on walks.leads linked is }

-- if a number names a member with the searched key in a view, it does so in the words that the caller lent
pub names_back : {words : List RawOne} {front front' : Option Place} (t : RawTable RawOne) (keys : List ℕ) (key number : ℕ) → raw_entries t ≡ words → front ≡ front'
    → (q : Place) × IsLinked is_linked_one (lent_table t) q × (has_key keys key q ≡ true) × HasNumber q number × LeadsFrom (lent_table t) front q
    → NamesKey words front' keys key number
names_back t keys key number e same names =
    let walk = names.4.leads in (
      names.0,
      ap (λ fs. is_linked_one (entry_at no_word fs names.0)) (sym e) ∙ names.1,
      names.2,
      names.3,
      record {
        begin = names.4.begin;
        is = sym same ∙ names.4.is;
        leads = record {
          walked = walk.walked;
          chain = subst (λ fs. IsChain (IsFollowed successor) (λ p. entry_at no_word fs p) None walk.walked (Some names.0)) e walk.chain;
          starts = walk.starts;
        };
      },
    )
