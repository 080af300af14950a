-- These lemmas follow the check of a hash table: the walk along one chain, and the chains that are already checked.
use Rattle.std.proofs.Common.{◌≡◌, ◌≢◌, ◌<◌, ◌≤◌, ◌+◌, ℕ, zero, suc, inl, inr, Bool, true, Option, Some, None, List, [], ◌∷◌, ◌++◌, drop, length, length-append, refl, sym, ap, ◌∙◌, subst, arith}
use Rattle.std.specs.List.{AllByRecursion}
use Rattle.std.proofs.lemmas.Bool.Decides.{eqb_tells}
use Rattle.ic_link_ops.specs.Prelude.{Place, index_of, first_or, IsAbsent, IsDistinct, IsDisjoint, Table, IsFollowed, list_from, successor_at, members_from}
use Rattle.ic_link_ops.specs.Chains.{IsChain}
use Rattle.ic_link_ops.specs.EntryLaws.{linked_in_range}
use Rattle.ic_link_ops.proofs.Prelude.{chain_glue, all_back, all_both, all_map, first_or-append, distinct_splice, disjoint_sym, few_places}
use Rattle.ic_link_ops.proofs.SinglyLists.{members_represented}
use Rattle.ic_check.specs.Checked.{IsRepresented, RepresentsNone}
use Rattle.ic_raw.specs.declared.words.RawFront.{RawFront}
use Rattle.ic_raw.specs.declared.words.RawOne.{RawOne}
use Rattle.ic_raw.specs.CheckCalls.{BelongsIn, HoldsByHash, IsOwnChain, members_of}
use Rattle.ic_raw.specs.Prelude.{slot_of, bucket_at, key_of, is_linked_one, no_word}
use Rattle.ic_raw.specs.Singly.{Represents, front_of, list_of, successor, table_of}
use Rattle.ic_raw.proofs.HashWalks.{Comes, comes_parts}
use Rattle.ic_raw.proofs.Singly.{ended_distinct}

-- THE LINKS LEAD FROM `front` TO `current`: the walk has passed `count` linked places, and `Own` holds of each of them
pub record WalksOwn (Own : Place → Type 0) (t : Table RawOne) (front current : Option Place) (count : ℕ) : Type 0 where
  pub walked : List Place
  pub chain : IsChain (IsFollowed successor) t.entry None walked current
  pub starts : front ≡ first_or walked current
  pub own : AllByRecursion Own walked
  pub many : length walked ≡ count

module _ {Own : Place → Type 0} {t : Table RawOne} where
  pub own_none : (front : Option Place) → WalksOwn Own t front front 0
  own_none front = record { walked = []; chain = tt; starts = refl; own = tt; many = refl }

  pub own_more : {front next : Option Place} {p : Place} {count more : ℕ} → WalksOwn Own t front (Some p) count → is_linked_one (t.entry p) ≡ true → Own p
      → (successor_at successor t p).next ≡ next → more ≡ count + 1 → WalksOwn Own t front next more
  own_more {next = next} {p} k linked own after counts = record {
    walked = k.walked ++ p ∷ [];
    chain = chain_glue (IsFollowed successor) t.entry None k.walked (p ∷ []) next k.chain (record { linked = linked; next = after }, tt);
    starts = k.starts ∙ sym (first_or-append k.walked (p ∷ []) next);
    own = all_both Own k.walked (p ∷ []) k.own (own, tt);
    many = omega (arith, length-append k.walked (p ∷ []), k.many, counts);
  }

  -- if the walk comes to an end, the places that it has passed are a list, and `Own` holds of each member
  pub own_ended : {front : Option Place} {count : ℕ} → WalksOwn Own t front None count
      → (s : List Place) × Represents t (list_from front) s × AllByRecursion Own s × (length s ≡ count)
  own_ended k = (
    k.walked,
    record { distinct = ended_distinct t.entry None k.walked k.chain; chain = k.chain; head = k.starts; tail = refl },
    k.own,
    k.many,
  )

-- if `Own` holds of all members of a list, it holds of the member to which a walk has come
pub own_there : (Own : Place → Type 0) {is : Place → Bool} {t : Table RawOne} {s : List Place} {before : Option Place} {p : Place} {left : ℕ}
    → Comes is t s before (Some p) left → AllByRecursion Own s → Own p
own_there Own {p = p} k all = (all_back Own k.passed.walk.done (p ∷ drop 1 k.passed.walk.rest) (subst (AllByRecursion Own) (comes_parts k) all)).0

-- the number of steps that are left can be replaced by an equal number
pub same_left : {is : Place → Bool} {t : Table RawOne} {s : List Place} {before current : Option Place} {left left' : ℕ}
    → Comes is t s before current left → left' ≡ left → Comes is t s before current left'
same_left k same = record { passed = k.passed; few = omega (arith, k.few, same) }

module _ (words : List RawOne) (hashes : List ℕ) (buckets : List RawFront) where
  -- `chain_in i` is the list of the places to which the links lead from the first place of the bucket i
  abbrev pub chain_in : ℕ → List Place
  chain_in i = members_from successor (table_of words) (front_of (bucket_at buckets i))

  -- THE FIRST i CHAINS ARE CHECKED: each is the chain in its bucket, the hashes of its members lead to this bucket, and together the chains have
  -- `count` members
  pub record ChecksOwn (i count : ℕ) : Type 0 where
    pub each : (j : ℕ) → j < i → IsOwnChain words hashes buckets j (chain_in j)
    pub counted : count ≡ length (members_of chain_in i)

-- two lists of places share no member if all places of one list have the number i, and no place of the second list has this number
apart_by : (number : Place → ℕ) (i : ℕ) (s r : List Place) → AllByRecursion (λ p. number p ≡ i) s → AllByRecursion (λ p. number p ≢ i) r → IsDisjoint s r
apart_by number i [] r here there = tt
apart_by number i (x ∷ s) r here there = (absent r there, apart_by number i s r here.1 there) where
  absent : (r : List Place) → AllByRecursion (λ p. number p ≢ i) r → IsAbsent x r
  absent [] there = tt
  absent (y ∷ r) there = ((λ same. there.0 (sym (ap number same) ∙ here.0)), absent r there.1)

-- the hashes of the members of the first i chains lead to the first i buckets
lead_below : (hashes : List ℕ) (buckets : List RawFront) (chains : ℕ → List Place) (i : ℕ)
    → ((j : ℕ) → j < i → AllByRecursion (BelongsIn hashes buckets j) (chains j)) → AllByRecursion (λ p. slot_of buckets (key_of hashes p) < i) (members_of chains i)
lead_below hashes buckets chains zero each = tt
lead_below hashes buckets chains (suc i) each =
    all_both (λ p. slot_of buckets (key_of hashes p) < suc i) (members_of chains i) (chains i)
    (all_map (λ p low. omega (arith, low)) (members_of chains i) (lead_below hashes buckets chains i (λ j fits. each j (omega (arith, fits)))))
    (all_map (λ p at. omega (arith, at)) (chains i) (each i (omega arith)))

-- no place is in two of the first i chains, and none is in one chain twice
all_distinct : (hashes : List ℕ) (buckets : List RawFront) (chains : ℕ → List Place) (i : ℕ) → ((j : ℕ) → j < i → IsDistinct (chains j))
    → ((j : ℕ) → j < i → AllByRecursion (BelongsIn hashes buckets j) (chains j)) → IsDistinct (members_of chains i)
all_distinct hashes buckets chains zero each own = tt
all_distinct hashes buckets chains (suc i) each own =
    let before = all_distinct hashes buckets chains i (λ j fits. each j (omega (arith, fits))) (λ j fits. own j (omega (arith, fits))) in
    let others : AllByRecursion (λ p. slot_of buckets (key_of hashes p) ≢ i) (members_of chains i) =
    all_map (λ p low same. omega (arith, low, same)) (members_of chains i) (lead_below hashes buckets chains i (λ j fits. own j (omega (arith, fits)))) in
    let apart : IsDisjoint (chains i) (members_of chains i) =
    apart_by (λ p. slot_of buckets (key_of hashes p)) i (chains i) (members_of chains i) (own i (omega arith)) others in
    distinct_splice [] (members_of chains i) (chains i) (each i (omega arith)) before (disjoint_sym (chains i) (members_of chains i) apart)

module _ {words : List RawOne} {hashes : List ℕ} {buckets : List RawFront} where
  chain_is : (i : ℕ) (s : List Place) → IsOwnChain words hashes buckets i s → chain_in words hashes buckets i ≡ s
  chain_is i s own =
      members_represented (table_of words) (λ q on. linked_in_range is_linked_one no_word refl words (index_of q) on) (list_of (bucket_at buckets i)) s own.shown

  pub checks_none : ChecksOwn words hashes buckets 0 0
  checks_none = record { each = λ j fits. absurd (omega (arith, fits)); counted = refl }

  module _ {i count : ℕ} (k : ChecksOwn words hashes buckets i count) where
    -- ONE MORE CHAIN IS CHECKED: if the chain in the bucket i has n members, and their hashes lead to this bucket, then i + 1 chains are checked
    one_more : {n more : ℕ} → IsRepresented (IsOwnChain words hashes buckets i) n → more ≡ count + n → ChecksOwn words hashes buckets (suc i) more
    one_more {n} {more} (s, own, many) counts =
        let here = chain_is i s own in record {
          each = λ j fits. elim (eqb_tells j i) [
            | inl e ↦
                let mine : IsOwnChain words hashes buckets i (chain_in words hashes buckets i) = subst (IsOwnChain words hashes buckets i) (sym here) own in
                subst (λ (m : ℕ). IsOwnChain words hashes buckets m (chain_in words hashes buckets m)) (sym e.1) mine
            | inr n ↦ k.each j (omega (arith, fits, n.1))
          ];
          counted = omega
              (arith, counts, k.counted, many, ap length here, length-append (members_of (chain_in words hashes buckets) i) (chain_in words hashes buckets i));
        }

    pub checks_more : {n more next : ℕ} → IsRepresented (IsOwnChain words hashes buckets i) n → more ≡ count + n → suc i ≡ next
        → ChecksOwn words hashes buckets next more
    checks_more {more = more} shown counts is_next = subst (λ (j : ℕ). ChecksOwn words hashes buckets j more) is_next (one_more shown counts)

    -- the checked chains and the next chain together have at most 8,589,934,591 members
    pub few_checked : {n : ℕ} → IsRepresented (IsOwnChain words hashes buckets i) n → count + n ≤ 8589934591
    few_checked {n} shown =
        let more : ChecksOwn words hashes buckets (suc i) (count + n) = one_more shown refl in
        let few = few_places (members_of (chain_in words hashes buckets) (suc i))
        (all_distinct hashes buckets (chain_in words hashes buckets) (suc i) (λ j fits. (more.each j fits).shown.distinct) (λ j fits. (more.each j fits).own)) in
        omega (arith, few, more.counted)

    -- ALL CHAINS ARE CHECKED: if i is the number of buckets, the words represent a hash table with `count` members
    pub checks_all : i ≡ length buckets → IsRepresented (HoldsByHash words hashes buckets) count
    checks_all over =
        let each : (j : ℕ) → j < length buckets → IsOwnChain words hashes buckets j (chain_in words hashes buckets j) = λ j fits. k.each j (omega (arith, fits, over)) in (
          members_of (chain_in words hashes buckets) (length buckets),
          record {
            chains = chain_in words hashes buckets;
            holds = record {
              shown = λ j fits. (each j fits).shown;
              apart = λ j m fits fits' differ.
                  apart_by (λ p. slot_of buckets (key_of hashes p)) j (chain_in words hashes buckets j) (chain_in words hashes buckets m) (each j fits).own
                  (all_map (λ p there same. differ (sym same ∙ there)) (chain_in words hashes buckets m) (each m fits').own);
            };
            own = λ j fits. (each j fits).own;
            all = refl;
          },
          sym (k.counted ∙ ap (λ (n : ℕ). length (members_of (chain_in words hashes buckets) n)) over),
        )

    -- the words represent no hash table if the next chain has no end, or has a member whose hash leads to another bucket
    pub not_held : i < length buckets → RepresentsNone (IsOwnChain words hashes buckets i) → RepresentsNone (HoldsByHash words hashes buckets)
    not_held in_bounds never s held = never (held.chains i) (record { shown = held.holds.shown i in_bounds; own = held.own i in_bounds })
