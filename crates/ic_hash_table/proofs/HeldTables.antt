-- These lemmas say which sequence the table holds after an edit of one chain.
use Rattle.std.proofs.Common.{◌≡◌, ℕ, ◌+◌, ◌<◌, ◌≤◌, Bool, Option, Some, None, IsSome, IfSome, Result, Ok, Err, OnOk, List, [], ◌∷◌, ◌++◌, length, length-append, slice_index_or, slice_set, refl, sym, ap, ◌∙◌, subst, arith, append_assoc, length-set}
use Rattle.std.specs.List.{AllByRecursion}
use Rattle.ic_link_ops.specs.Prelude.{Place, Objects, object_at, Cut, join, insert, first, IsAbsent, IsMember, IsDistinct, IsDisjoint, Table, ChangesOnlyIn, Successor}
use Rattle.ic_link_ops.proofs.Prelude.{IsKind, all_with, all_without, all_both, all_map, all_front, absent_left, absent_right, disjoint_cons, disjoint_left, disjoint_sym, distinct_disjoint, distinct_right, distinct_insert, distinct_remove, none_not, split_member}
use Rattle.ic_hash_table.specs.declared.table.HashTable.{HashTable}
use Rattle.ic_hash_table.specs.Prelude.{slot_of, AreChained, RepresentsFrom, Finds, StopsAt}
use Rattle.ic_hash_table.specs.HashTable.{BelongsIn, Holds, HoldsAt, HoldsBefore, HoldsWith, IsNew}
use Rattle.ic_hash_table.specs.declared.slots.Slots.{Slots}
use Rattle.ic_hash_table.proofs.ChainParts.{of_member}
use Rattle.ic_hash_table.proofs.Chains.{Between, Above, chain_one, chains_frame, chains_free, chains_one, chains_nothing}
use Rattle.ic_hash_table.proofs.FoundMembers.{chain_of}

-- if a sequence without equal places is cut at p in two ways, both cuts are equal
pub one_cut : (a b c d : List Place) (p : Place) → IsDistinct (a ++ p ∷ b) → a ++ p ∷ b ≡ c ++ p ∷ d → (a ≡ c) × (b ≡ d)
one_cut [] b [] d p distinct e = (refl, cc)
one_cut [] b (y ∷ c) d p distinct e =
    let h : p ≡ y = cc in let r : b ≡ c ++ p ∷ d = cc in
    absurd ((absent_right p c (p ∷ d) (subst (IsAbsent p) r distinct.0)).0 refl)
one_cut (x ∷ a) b [] d p distinct e =
    let h : x ≡ p = cc in
    absurd ((absent_right x a (p ∷ b) distinct.0).0 h)
one_cut (x ∷ a) b (y ∷ c) d p distinct e =
    let h : x ≡ y = cc in
    let r : a ++ p ∷ b ≡ c ++ p ∷ d = cc in
    let k = one_cut a b c d p distinct.1 r in
    (rw h (ap (λ (l : List Place). y ∷ l) k.0), k.1)

-- if a sequence has no place twice, its middle part shares no place with the part before it, and no place with the part after it
pub middle_ahead : (a m b : List Place) → IsDistinct (a ++ (m ++ b)) → IsDisjoint a m
middle_ahead a m b d = disjoint_left a m b (distinct_disjoint a (m ++ b) d)

pub middle_after : (a m b : List Place) → IsDistinct (a ++ (m ++ b)) → IsDisjoint b m
middle_after a m b d = disjoint_sym m b (distinct_disjoint m b (distinct_right a (m ++ b) d))

-- four sequences can be joined as two pairs, or with the two in the middle joined first
regrouped : (a f y z : List Place) → (a ++ f) ++ (y ++ z) ≡ a ++ ((f ++ y) ++ z)
regrouped a f y z = append_assoc a f (y ++ z) ∙ ap (λ (l : List Place). a ++ l) (sym (append_assoc f y z))

-- the first member of a sequence is also the first member after another sequence is appended
first_ahead : (found : Option Place) (back after : List Place) → found ≡ first back → IfSome found (λ q. Some q ≡ first (back ++ after))
first_ahead None back after here = tt
first_ahead (Some q) [] after here = absurd (none_not q (sym here))
first_ahead (Some q) (x ∷ back) after here = here

-- the object at the place p belongs in a chain with a number of at most k
abbrev UpTo : {V : Type 0} → Slots → (V → ℕ) → Objects V → ℕ → Place → Type 0
UpTo slots hash objects k p = (j : ℕ) × (j ≤ k) × BelongsIn slots hash objects j p

-- the hash table with the buckets `buckets` and the number of members `len` instead of its own
abbrev pub with_buckets : {A B : Type 0} → HashTable A B → B → ℕ → HashTable A B
with_buckets table buckets len = record { adapter = table.adapter; buckets = buckets; slots = table.slots; len = len }

module _ {E A B V : Type 0} (successor : E → Successor) (hash : A → V → ℕ) (fronts : B → List (Option Place)) where
  module _ {old new : Table E} {table : HashTable A B} {objects : Objects V} {k : ℕ} {front : Option Place} (p : Place) (buckets : B) (len : ℕ) (used : k < table.slots.used)
      (set : fronts buckets ≡ slice_set (fronts table.buckets) k front) where
    -- if p is inserted at a gap of chain k, the table holds s with p inserted at this gap
    pub held_put : {s : List Place} → Holds successor hash fronts old table objects s → IsSome (object_at objects p) → ((v : V) → object_at objects p ≡ Some v → slot_of table.slots (hash table.adapter v) ≡ k)
        → IsAbsent p s → (gap : Cut) → RepresentsFrom successor old (slice_index_or (fronts table.buckets) k None) (join gap) → RepresentsFrom successor new front (insert gap p)
        → ChangesOnlyIn old new (p ∷ join gap) → len ≡ table.len + 1 → HoldsAt successor hash fronts new (with_buckets table buckets len) objects s gap p
    held_put {s} held placed belongs out gap was shows frame counted =
        let c = chain_of held k used in
        let f = gap.front in
        let b = gap.back in
        let Own : Place → Type 0 = BelongsIn table.slots (hash table.adapter) objects k in
        let Placed : Place → Type 0 = λ q. IsSome (object_at objects q) in
        let is : c.chain ≡ f ++ b = chain_one c.shown was in
        let parts : s ≡ c.ahead ++ ((f ++ b) ++ c.after) = subst (λ m. s ≡ c.ahead ++ (m ++ c.after)) is c.parts in
        let flat : s ≡ (c.ahead ++ f) ++ (b ++ c.after) = parts ∙ sym (regrouped c.ahead f b c.after) in
        let d = subst IsDistinct parts held.distinct in
        let out' = subst (IsAbsent p) parts out in
        record {
          ahead = c.ahead;
          after = c.after;
          parts = flat;
          holds = record {
            distinct = distinct_insert (c.ahead ++ f) (b ++ c.after) p (subst IsDistinct flat held.distinct) (subst (IsAbsent p) flat out);
            chained = subst (λ l. AreChained successor (BelongsIn table.slots (hash table.adapter) objects) new 0 l ((c.ahead ++ f) ++ p ∷ (b ++ c.after))) (sym set)
                (subst (AreChained successor (BelongsIn table.slots (hash table.adapter) objects) new 0 (slice_set (fronts table.buckets) k front)) (sym (regrouped c.ahead f (p ∷ b) c.after))
                (c.put (BelongsIn table.slots (hash table.adapter) objects) (λ j q n own. own) front (f ++ p ∷ b) (p ∷ (f ++ b)) shows (all_with Own f p b belongs (subst (AllByRecursion Own) is c.own))
                (disjoint_cons p c.ahead (f ++ b) (absent_left p c.ahead ((f ++ b) ++ c.after) out') (middle_ahead c.ahead (f ++ b) c.after d))
                (disjoint_cons p c.after (f ++ b) (absent_right p (f ++ b) c.after (absent_right p c.ahead ((f ++ b) ++ c.after) out')) (middle_after c.ahead (f ++ b) c.after d))
                frame.others));
            placed = all_with Placed (c.ahead ++ f) p (b ++ c.after) placed (subst (AllByRecursion Placed) flat held.placed);
            counted = omega (arith, counted, held.counted, ap length flat, length-append (c.ahead ++ f) (b ++ c.after), length-append (c.ahead ++ f) (p ∷ (b ++ c.after)));
            well_formed = held.well_formed;
            enough = omega (arith, held.enough, ap length set, length-set (fronts table.buckets) k front);
          };
          apart = λ x y member after v w at_x at_y same.
              let up_to = all_both (UpTo table.slots (hash table.adapter) objects k) c.ahead f
              (all_map (λ q j. (j.0, omega (arith, j.1), j.2)) c.ahead c.ahead_below)
              (all_map (λ q b. (k, (omega arith), b)) f (all_front Own f b (subst (AllByRecursion Own) is c.own))) in
              let one = of_member (UpTo table.slots (hash table.adapter) objects k) (c.ahead ++ f) x up_to member in
              let other = of_member (Above (BelongsIn table.slots (hash table.adapter) objects) k) c.after y c.after_above after in
              let e : one.0 ≡ other.0 = sym (one.2 v at_x) ∙ ap (slot_of table.slots) same ∙ other.2 w at_y in
              absurd (omega (arith, one.1, other.1, e));
        }

    -- if p is removed from chain k, the table holds the sequence without p
    pub held_taken : (a b : List Place) → Holds successor hash fronts old table objects (a ++ p ∷ b)
        → (ahead back : List Place) → RepresentsFrom successor old (slice_index_or (fronts table.buckets) k None) (ahead ++ p ∷ back) → RepresentsFrom successor new front (ahead ++ back)
        → ChangesOnlyIn old new (ahead ++ p ∷ back) → table.len ≡ len + 1 → Holds successor hash fronts new (with_buckets table buckets len) objects (a ++ b)
    held_taken a b held ahead back was shows frame counted =
        let c = chain_of held k used in
        let is : c.chain ≡ ahead ++ p ∷ back = chain_one c.shown was in
        let Q : List Place → Type 0 = λ m. a ++ p ∷ b ≡ c.ahead ++ (m ++ c.after) in
        let parts : Q (ahead ++ p ∷ back) = subst Q is c.parts in
        let d = subst IsDistinct parts held.distinct in
        let cut = one_cut a b (c.ahead ++ ahead) (back ++ c.after) p held.distinct (parts ∙ ap (λ l. c.ahead ++ l) (append_assoc ahead (p ∷ back) c.after) ∙ sym (append_assoc c.ahead ahead (p ∷ back ++ c.after))) in
        let rest : c.ahead ++ ((ahead ++ back) ++ c.after) ≡ a ++ b =
        ap (λ l. c.ahead ++ l) (append_assoc ahead back c.after) ∙ sym (append_assoc c.ahead ahead (back ++ c.after)) ∙ ap (λ l. l ++ (back ++ c.after)) (sym cut.0) ∙ ap (λ l. a ++ l) (sym cut.1) in
        record {
          distinct = distinct_remove a b p held.distinct;
          chained = subst (λ l. AreChained successor (BelongsIn table.slots (hash table.adapter) objects) new 0 l (a ++ b)) (sym set)
              (subst (AreChained successor (BelongsIn table.slots (hash table.adapter) objects) new 0 (slice_set (fronts table.buckets) k front)) rest
              (c.put (BelongsIn table.slots (hash table.adapter) objects) (λ j q n b. b) front (ahead ++ back) (ahead ++ p ∷ back) shows (all_without (BelongsIn table.slots (hash table.adapter) objects k) ahead p back (subst (AllByRecursion (BelongsIn table.slots (hash table.adapter) objects k)) is c.own))
              (middle_ahead c.ahead (ahead ++ p ∷ back) c.after d) (middle_after c.ahead (ahead ++ p ∷ back) c.after d) frame.others));
          placed = all_without (λ q. IsSome (object_at objects q)) a p b held.placed;
          counted = omega (arith, counted, held.counted, length-append a (p ∷ b), length-append a b);
          well_formed = held.well_formed;
          enough = omega (arith, held.enough, ap length set, length-set (fronts table.buckets) k front);
        }

-- an edit that changes only entries of one chain's members changes only entries of the table's members
module _ {E : Type 0} {successor : E → Successor} {Belongs : ℕ → Place → Type 0} {t : Table E} {k : ℕ} {fronts : List (Option Place)} {s : List Place} (c : Between successor Belongs t 0 k k fronts s) where
  pub absent_chain : (q : Place) → IsAbsent q s → IsAbsent q c.chain
  absent_chain q out = absent_left q c.chain c.after (absent_right q c.ahead (c.chain ++ c.after) (subst (IsAbsent q) c.parts out))

  -- a member of chain k is a member of the table
  pub of_chain : (ahead back : List Place) (q : Place) → RepresentsFrom successor t (slice_index_or fronts k None) (ahead ++ q ∷ back) → IsMember q s
  of_chain ahead back q was out = split_member ahead q back (subst (IsAbsent q) (chain_one c.shown was) (absent_chain q out))

  pub frame_put : {new : Table E} {p : Place} → ChangesOnlyIn t new (p ∷ c.chain) → ChangesOnlyIn t new (p ∷ s)
  frame_put frame = record { extent = frame.extent; others = λ q out. frame.others q (out.0, absent_chain q out.1) }

  -- an edit at a gap of chain k changes only entries of the inserted place and of the table's members
  pub frame_at : {new : Table E} {p : Place} (gap : Cut) → RepresentsFrom successor t (slice_index_or fronts k None) (join gap) → ChangesOnlyIn t new (p ∷ join gap) → ChangesOnlyIn t new (p ∷ s)
  frame_at {new} {p} gap was frame = frame_put (subst (λ l. ChangesOnlyIn t new (p ∷ l)) (sym (chain_one c.shown was)) frame)

  pub frame_taken : {new : Table E} {chain : List Place} → RepresentsFrom successor t (slice_index_or fronts k None) chain → ChangesOnlyIn t new chain → ChangesOnlyIn t new s
  frame_taken {chain = chain} was frame = record { extent = frame.extent; others = λ q out. frame.others q (subst (IsAbsent q) (chain_one c.shown was) (absent_chain q out)) }

-- if p was inserted at a gap of one chain, p was inserted at some gap of the whole sequence
pub held_with : {E A B V : Type 0} {successor : E → Successor} {hash : A → V → ℕ} {fronts : B → List (Option Place)} {t : Table E} {table : HashTable A B} {objects : Objects V} {s : List Place} {gap : Cut} {p : Place}
    → HoldsAt successor hash fronts t table objects s gap p → HoldsWith successor hash fronts t table objects s p
held_with {gap = gap} h = (record { front = h.ahead ++ gap.front; back = gap.back ++ h.after }, sym h.parts, h.holds)

-- if p was inserted where a walk along its chain stopped, p is directly before the first member that passes
pub held_before : {E A B V : Type 0} {successor : E → Successor} {hash : A → V → ℕ} {fronts : B → List (Option Place)} {t : Table E} {table : HashTable A B} {objects : Objects V} {is : Place → Bool}
    {s chain : List Place} {p : Place} {before : Option Place} (found : Option Place) (stop : StopsAt is chain before found) → Finds is s found
    → HoldsAt successor hash fronts t table objects s stop.gap p → HoldsBefore successor hash fronts t table objects is s p
held_before found stop finds h = record {
  gap = record { front = h.ahead ++ stop.gap.front; back = stop.gap.back ++ h.after };
  whole = sym h.parts;
  holds = h.holds;
  found = found;
  finds = finds;
  in_front = first_ahead found stop.gap.back h.after stop.here;
}

-- if P implies Q, and P holds in case the result is `Ok`, then Q holds in case the result is `Ok`
pub on_ok : {A X P Q : Type 0} (r : Result A X) → (P → Q) → OnOk r P → OnOk r Q
on_ok (Ok a) follows holds = follows holds
on_ok (Err e) follows holds = tt

-- if a chain has a member, the table counts at least one member
pub some_counted : {E A B V : Type 0} {successor : E → Successor} {hash : A → V → ℕ} {fronts : B → List (Option Place)} {t : Table E} {table : HashTable A B} {objects : Objects V} {s : List Place}
    → (held : Holds successor hash fronts t table objects s) (k : ℕ) (used : k < table.slots.used) (ahead back : List Place) (p : Place)
    → RepresentsFrom successor t (slice_index_or (fronts table.buckets) k None) (ahead ++ p ∷ back) → 1 ≤ table.len
some_counted held k used ahead back p was =
    let c = chain_of held k used in
    omega (arith, held.counted, ap length c.parts, length-append c.ahead (c.chain ++ c.after), length-append c.chain c.after, ap length (chain_one c.shown was), length-append ahead (p ∷ back))

-- hash tables obey the five laws of a kind of collection, if their objects do not change
pub hash_tables : {E A B V : Type 0} (successor : E → Successor) {linked : E → Bool} (hash : A → V → ℕ) (fronts : B → List (Option Place)) → ((e : E) → (successor e).linked ≡ linked e)
    → (objects : Objects V) (empty : HashTable A B) → IsNew fronts empty
    → IsKind (λ t table s. Holds successor hash fronts t table objects s) linked empty
hash_tables successor hash fronts alike objects empty new = record {
  frame = λ old new table s touched held apart same. record {
    distinct = held.distinct;
    chained = chains_frame successor (BelongsIn table.slots (hash table.adapter) objects) old new touched 0 (fronts table.buckets) s held.chained apart same;
    placed = held.placed;
    counted = held.counted;
    well_formed = held.well_formed;
    enough = held.enough;
  };
  free = λ t table s p held off. chains_free successor (BelongsIn table.slots (hash table.adapter) objects) alike t 0 (fronts table.buckets) s p held.chained off;
  distinct = λ t table s held. held.distinct;
  nothing = λ t. record {
    distinct = tt;
    chained = chains_nothing successor (BelongsIn empty.slots (hash empty.adapter) objects) t 0 (fronts empty.buckets) new.none;
    placed = tt;
    counted = new.counted;
    well_formed = new.well_formed;
    enough = new.enough;
  };
  one = λ t table s u held other. chains_one successor (BelongsIn table.slots (hash table.adapter) objects) t 0 (fronts table.buckets) s u held.chained other.chained;
}
