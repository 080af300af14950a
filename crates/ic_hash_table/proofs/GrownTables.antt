-- These lemmas are about a hash table after one of its chains was split in two.
use Rattle.std.proofs.Common.{◌≡◌, ◌≢◌, ℕ, ◌<◌, Bool, true, false, eqb-true, eq-eqb, true≢false, Option, Some, None, IsSome, List, [], ◌∷◌, ◌++◌, length, length-append, slice_index_or, slice_set, refl, sym, ap, ◌∙◌, subst, arith, get_or-set_other, length-set}
use Rattle.std.specs.List.{AllByRecursion}
use Rattle.std.specs.Cmp.{IsPartialEquivalence}
use Rattle.ic_link_ops.specs.Prelude.{Place, Objects, object_at, IsAbsent, IsDistinct, IsDisjoint, first, Table, ChangesOnlyIn, Successor}
use Rattle.ic_link_ops.proofs.Prelude.{all_front, all_back, all_map, absent_both, absent_left, absent_right, absent_swap, disjoint_both, disjoint_left, disjoint_right, disjoint_sym, distinct_disjoint, distinct_left, distinct_right, distinct_splice, distinct_remove, disjoint_nothing, nothing_first}
use Rattle.ic_hash_table.specs.declared.slots.Slots.{Slots}
use Rattle.ic_hash_table.specs.declared.table.HashTable.{HashTable}
use Rattle.ic_hash_table.specs.Prelude.{slot_of, split_of, IsWellFormed, IsSplit, AreChained, BelongsIn, Holds, matches, passes, AreSideBySide}
use Rattle.ic_hash_table.specs.Growth.{belongs_at, IsParted, HoldsSameMembers}
use Rattle.ic_hash_table.proofs.Chains.{Between, chain_at}
use Rattle.ic_hash_table.proofs.ChainParts.{of_members}
use Rattle.ic_hash_table.proofs.SideBySideSequences.{front_beside, back_beside}
use Rattle.ic_hash_table.proofs.SideBySideChains.{BelongTogether, middle_beside}
use Rattle.ic_hash_table.proofs.SlotLemmas.{slot_used}

-- if the object at the place p has the value v, the test of the place p has the same result as the test of v
tested : {V : Type 0} (equal : V → Bool) (objects : Objects V) (p : Place) (v : V) → object_at objects p ≡ Some v → (b : Bool) → matches equal objects p ≡ b → equal v ≡ b
tested equal objects p v there b is = sym (ap (λ o. passes equal o) there) ∙ is

-- if a sequence has no place twice, it has no place twice after a part in its middle is removed
pub without_middle : (a m b : List Place) → IsDistinct (a ++ (m ++ b)) → IsDistinct (a ++ b)
without_middle a [] b d = d
without_middle a (x ∷ m) b d = without_middle a m b (distinct_remove a (m ++ b) x d)

-- if a sequence has no place twice, no place in its middle part is before or after this part
pub middle_apart : (a m b : List Place) → IsDistinct (a ++ (m ++ b)) → IsDisjoint m (a ++ b)
middle_apart a m b d =
    disjoint_sym (a ++ b) m (disjoint_both a b m (disjoint_left a m b (distinct_disjoint a (m ++ b) d)) (disjoint_sym m b (distinct_disjoint m b (distinct_right a (m ++ b) d))))

-- if the middle part of a sequence is replaced by a part with only places of the old one, the sequence still has no place twice
within_middle : (a m b u : List Place) → IsDistinct (a ++ (m ++ b)) → IsDistinct u → ((q : Place) → IsAbsent q m → IsAbsent q u) → IsDistinct (a ++ (u ++ b))
within_middle a m b u d e adds_none =
    distinct_splice a u b (without_middle a m b d) e (disjoint_sym (a ++ b) u (absent_swap (a ++ b) m (disjoint_sym m (a ++ b) (middle_apart a m b d)) u adds_none))

module _ {V : Type 0} (old new : Slots) (hash : V → ℕ) (objects : Objects V) (split : IsSplit old new) where
  -- an object that belongs in another chain than the one that is split belongs there after the split
  others_belong : (j : ℕ) (p : Place) → j ≢ split_of new old.used → BelongsIn old hash objects j p → BelongsIn new hash objects j p
  others_belong j p other belongs v there = split.others (hash v) (λ e. other (sym (belongs v there) ∙ split.from (hash v) e)) ∙ belongs v there

  -- an object that belongs in the chain that is split stays in this chain or moves to the new chain
  stays_belong : (p : Place) → matches (belongs_at new hash old.used) objects p ≡ false → BelongsIn old hash objects (split_of new old.used) p → BelongsIn new hash objects (split_of new old.used) p
  stays_belong p is belongs v there =
      let t = tested (belongs_at new hash old.used) objects p v there false is in
      split.others (hash v) (λ e. true≢false (sym (eq-eqb (slot_of new (hash v)) old.used e) ∙ t)) ∙ belongs v there

  moves_belong : (p : Place) → matches (belongs_at new hash old.used) objects p ≡ true → BelongsIn new hash objects old.used p
  moves_belong p is v there = eqb-true (slot_of new (hash v)) old.used (tested (belongs_at new hash old.used) objects p v there true is)

-- if two properties of a place imply a third one, and all places of s have both, all have the third
all_two : {P Q R : Place → Type 0} → ((p : Place) → P p → Q p → R p) → (s : List Place) → AllByRecursion P s → AllByRecursion Q s → AllByRecursion R s
all_two f [] h k = tt
all_two f (x ∷ s) h k = (f x h.0 k.0, all_two f s h.1 k.1)

module _ {E A B V : Type 0} (successor : E → Successor) (hash : A → V → ℕ) (fronts : B → List (Option Place)) where
  -- the first chain that is not in use is empty
  beyond : {t : Table E} {table : HashTable A B} {objects : Objects V} {s : List Place} → Holds successor hash fronts t table objects s → table.slots.used < length (fronts table.buckets)
      → slice_index_or (fronts table.buckets) table.slots.used None ≡ None
  beyond {t} {table} {objects} {s} held room =
      let c = chain_at successor (BelongsIn table.slots (hash table.adapter) objects) t 0 table.slots.used table.slots.used (fronts table.buckets) s (omega arith) room held.chained in
      let placed : AllByRecursion (λ p. IsSome (object_at objects p)) c.chain =
      all_front (λ p. IsSome (object_at objects p)) c.chain c.after (all_back (λ p. IsSome (object_at objects p)) c.ahead (c.chain ++ c.after) (subst (AllByRecursion (λ p. IsSome (object_at objects p))) c.parts held.placed)) in
      c.shown.head ∙ ap first (nobody c.chain placed c.own)
    where
      never : (p : Place) (o : Option V) → object_at objects p ≡ o → IsSome o → BelongsIn table.slots (hash table.adapter) objects table.slots.used p → ⊥
      never p None there some belongs = true≢false (sym some)
      never p (Some v) there some belongs = omega (arith, belongs v there, slot_used table.slots.used table.slots.mask (omega (arith, held.well_formed.half)) (hash table.adapter v))

      nobody : (chain : List Place) → AllByRecursion (λ p. IsSome (object_at objects p)) chain → AllByRecursion (BelongsIn table.slots (hash table.adapter) objects table.slots.used) chain → chain ≡ []
      nobody [] placed own = refl
      nobody (x ∷ chain) placed own = absurd (never x (object_at objects x) refl placed.0 own.0)

  -- ONE CHAIN MORE is in use after the slots have grown from `table.slots` to `slots`
  module _ {old : Table E} {table : HashTable A B} {objects : Objects V} (slots : Slots) (split : IsSplit table.slots slots)
      (room : table.slots.used < length (fronts table.buckets)) {s : List Place} (held : Holds successor hash fronts old table objects s) where
    -- the chain that is split is between the chains before it and the chains after it
    pub parted_chain : Between successor (BelongsIn table.slots (hash table.adapter) objects) old 0 (split_of slots table.slots.used) (split_of slots table.slots.used) (fronts table.buckets) s
    parted_chain = chain_at successor (BelongsIn table.slots (hash table.adapter) objects) old 0 (split_of slots table.slots.used) (split_of slots table.slots.used) (fronts table.buckets) s (omega arith) (omega (arith, split.apart, room)) held.chained

    module _ {new : Table E} (middle buckets : B) {stays moves : Option Place} (well_formed : IsWellFormed slots)
        (first_set : fronts middle ≡ slice_set (fronts table.buckets) (split_of slots table.slots.used) stays) (second_set : fronts buckets ≡ slice_set (fronts middle) table.slots.used moves)
        (part : IsParted successor (matches (belongs_at slots (hash table.adapter) table.slots.used) objects) new parted_chain.chain None stays moves) (frame : ChangesOnlyIn old new parted_chain.chain) where
      no_left : part.left ≡ []
      no_left = nothing_first part.left part.represents_left.head

      distinct_parts : IsDistinct (part.staying ++ part.moving)
      distinct_parts = subst (λ l. IsDistinct (l ++ (part.staying ++ part.moving))) no_left part.distinct

      within_parts : (q : Place) → IsAbsent q parted_chain.chain → IsAbsent q (part.staying ++ part.moving)
      within_parts q out = subst (λ l. IsAbsent q (l ++ (part.staying ++ part.moving))) no_left (part.adds_none q out)

      all_parts : (q : Place) → IsAbsent q (part.staying ++ part.moving) → IsAbsent q parted_chain.chain
      all_parts q out = part.all q (subst (λ l. IsAbsent q (l ++ (part.staying ++ part.moving))) (sym no_left) out)

      whole : IsDistinct (parted_chain.ahead ++ (parted_chain.chain ++ parted_chain.after))
      whole = subst IsDistinct parted_chain.parts held.distinct

      -- after the split, the chain that was split has only the members that stay
      chained_stays : AreChained successor (BelongsIn slots (hash table.adapter) objects) new 0 (slice_set (fronts table.buckets) (split_of slots table.slots.used) stays) (parted_chain.ahead ++ (part.staying ++ parted_chain.after))
      chained_stays =
          let c = parted_chain in
          let own = of_members (BelongsIn table.slots (hash table.adapter) objects (split_of slots table.slots.used)) c.chain part.staying (λ q out. absent_left q part.staying part.moving (within_parts q out)) c.own in
          c.put (BelongsIn slots (hash table.adapter) objects) (others_belong table.slots slots (hash table.adapter) objects split) stays part.staying c.chain part.represents_staying
          (all_two (stays_belong table.slots slots (hash table.adapter) objects split) part.staying part.stay own)
          (disjoint_left c.ahead c.chain c.after (distinct_disjoint c.ahead (c.chain ++ c.after) whole)) (disjoint_sym c.chain c.after (distinct_disjoint c.chain c.after (distinct_right c.ahead (c.chain ++ c.after) whole))) frame.others

      new_chain : Between successor (BelongsIn slots (hash table.adapter) objects) new 0 table.slots.used table.slots.used (slice_set (fronts table.buckets) (split_of slots table.slots.used) stays) (parted_chain.ahead ++ (part.staying ++ parted_chain.after))
      new_chain =
          chain_at successor (BelongsIn slots (hash table.adapter) objects) new 0 table.slots.used table.slots.used (slice_set (fronts table.buckets) (split_of slots table.slots.used) stays) (parted_chain.ahead ++ (part.staying ++ parted_chain.after))
          (omega arith) (omega (arith, room, length-set (fronts table.buckets) (split_of slots table.slots.used) stays)) chained_stays

      none_yet : new_chain.chain ≡ []
      none_yet =
          nothing_first new_chain.chain
          (sym (get_or-set_other (fronts table.buckets) (split_of slots table.slots.used) table.slots.used stays None (λ e. absurd (omega (arith, split.apart, e))) ∙ beyond held room) ∙ new_chain.shown.head)

      new_parts : parted_chain.ahead ++ (part.staying ++ parted_chain.after) ≡ new_chain.ahead ++ new_chain.after
      new_parts = subst (λ m. parted_chain.ahead ++ (part.staying ++ parted_chain.after) ≡ new_chain.ahead ++ (m ++ new_chain.after)) none_yet new_chain.parts

      chained_moves : AreChained successor (BelongsIn slots (hash table.adapter) objects) new 0 (fronts buckets) (new_chain.ahead ++ (part.moving ++ new_chain.after))
      chained_moves =
          rw (second_set, first_set)
          (new_chain.put (BelongsIn slots (hash table.adapter) objects) (λ j p n b. b) moves part.moving [] part.represents_moving
          (all_map (moves_belong table.slots slots (hash table.adapter) objects split) part.moving part.move) (disjoint_nothing new_chain.ahead) (disjoint_nothing new_chain.after) (λ q out. refl))

      moving_apart : IsDisjoint part.moving (parted_chain.ahead ++ (part.staying ++ parted_chain.after))
      moving_apart =
          let c = parted_chain in
          let beside = absent_swap (c.ahead ++ c.after) c.chain (disjoint_sym c.chain (c.ahead ++ c.after) (middle_apart c.ahead c.chain c.after whole)) part.moving (λ q out. absent_right q part.staying part.moving (within_parts q out)) in
          let out = disjoint_sym (c.ahead ++ c.after) part.moving beside in
          disjoint_sym (c.ahead ++ (part.staying ++ c.after)) part.moving
          (disjoint_both c.ahead (part.staying ++ c.after) part.moving (disjoint_sym part.moving c.ahead (disjoint_left part.moving c.ahead c.after out))
          (disjoint_both part.staying c.after part.moving (distinct_disjoint part.staying part.moving distinct_parts) (disjoint_sym part.moving c.after (disjoint_right part.moving c.ahead c.after out))))

      distinct_again : IsDistinct (new_chain.ahead ++ (part.moving ++ new_chain.after))
      distinct_again =
          let c = parted_chain in
          let stays_distinct = within_middle c.ahead c.chain c.after part.staying whole (distinct_left part.staying part.moving distinct_parts) (λ q out. absent_left q part.staying part.moving (within_parts q out)) in
          distinct_splice new_chain.ahead part.moving new_chain.after (subst IsDistinct new_parts stays_distinct) (distinct_right part.staying part.moving distinct_parts) (subst (IsDisjoint part.moving) new_parts moving_apart)

      within_again : (q : Place) → IsAbsent q s → IsAbsent q (new_chain.ahead ++ (part.moving ++ new_chain.after))
      within_again q out =
          let c = parted_chain in
          let a = subst (IsAbsent q) c.parts out in
          let m = within_parts q (absent_left q c.chain c.after (absent_right q c.ahead (c.chain ++ c.after) a)) in
          let stay = absent_both q c.ahead (part.staying ++ c.after) (absent_left q c.ahead (c.chain ++ c.after) a)
          (absent_both q part.staying c.after (absent_left q part.staying part.moving m) (absent_right q c.chain c.after (absent_right q c.ahead (c.chain ++ c.after) a))) in
          let beside = subst (IsAbsent q) new_parts stay in
          absent_both q new_chain.ahead (part.moving ++ new_chain.after) (absent_left q new_chain.ahead new_chain.after beside)
          (absent_both q part.moving new_chain.after (absent_right q part.staying part.moving m) (absent_right q new_chain.ahead new_chain.after beside))

      all_again : (q : Place) → IsAbsent q (new_chain.ahead ++ (part.moving ++ new_chain.after)) → IsAbsent q s
      all_again q out =
          let c = parted_chain in
          let tail = absent_right q new_chain.ahead (part.moving ++ new_chain.after) out in
          let stay = subst (IsAbsent q) (sym new_parts) (absent_both q new_chain.ahead new_chain.after (absent_left q new_chain.ahead (part.moving ++ new_chain.after) out) (absent_right q part.moving new_chain.after tail)) in
          let rest = absent_right q c.ahead (part.staying ++ c.after) stay in
          let chain = all_parts q (absent_both q part.staying part.moving (absent_left q part.staying c.after rest) (absent_left q part.moving new_chain.after tail)) in
          subst (IsAbsent q) (sym c.parts) (absent_both q c.ahead (c.chain ++ c.after) (absent_left q c.ahead (part.staying ++ c.after) stay) (absent_both q c.chain c.after chain (absent_right q part.staying c.after rest)))

      -- the sequence of the members after the split, in which the members that move are at the position of the new chain
      abbrev grown : List Place
      grown = new_chain.ahead ++ (part.moving ++ new_chain.after)

      grown_holds : Holds successor hash fronts new (record { adapter = table.adapter; buckets = buckets; slots = slots; len = table.len }) objects grown
      grown_holds =
          let c = parted_chain in record {
            distinct = distinct_again;
            chained = chained_moves;
            placed = of_members (λ p. IsSome (object_at objects p)) s (new_chain.ahead ++ (part.moving ++ new_chain.after)) within_again held.placed;
            counted = omega (
              arith,
              held.counted,
              ap length c.parts,
              length-append c.ahead (c.chain ++ c.after),
              length-append c.chain c.after,
              part.count,
              ap length no_left,
              ap length new_parts,
              length-append c.ahead (part.staying ++ c.after),
              length-append part.staying c.after,
              length-append new_chain.ahead new_chain.after,
              length-append new_chain.ahead (part.moving ++ new_chain.after),
              length-append part.moving new_chain.after,
            );
            well_formed = well_formed;
            enough = omega (arith, split.used, room, ap length second_set, length-set (fronts middle) table.slots.used moves, ap length first_set, length-set (fronts table.buckets) (split_of slots table.slots.used) stays);
          }

      -- THE GROWN TABLE HOLDS the members that the table held before
      pub held_grown : HoldsSameMembers successor hash fronts new (record { adapter = table.adapter; buckets = buckets; slots = slots; len = table.len }) objects s
      held_grown = record { members = grown; holds = grown_holds; adds_none = within_again; all = all_again }

      -- IF MEMBERS WITH EQUAL KEYS were side by side before the table grew, they are side by side afterwards
      pub beside_grown : {alike : Place → Place → Bool} → IsPartialEquivalence alike → BelongTogether (BelongsIn table.slots (hash table.adapter) objects) alike
          → BelongTogether (BelongsIn slots (hash table.adapter) objects) alike → AreSideBySide alike s
          → (u : List Place) × Holds successor hash fronts new (record { adapter = table.adapter; buckets = buckets; slots = slots; len = table.len }) objects u × AreSideBySide alike u
      beside_grown {alike} laws together together_new side =
          let c = parted_chain in
          let n = new_chain in
          let Old = BelongsIn table.slots (hash table.adapter) objects in
          let New = BelongsIn slots (hash table.adapter) objects in
          let whole = subst (AreSideBySide alike) c.parts side in
          let rest = back_beside alike c.ahead (c.chain ++ c.after) whole in
          let turned = part.beside alike laws (front_beside alike c.chain c.after rest) in
          let own = of_members (Old (split_of slots table.slots.used)) c.chain part.staying (λ q out. absent_left q part.staying part.moving (within_parts q out)) c.own in
          let stays = middle_beside Old alike together (split_of slots table.slots.used) c.ahead part.staying c.after (front_beside alike c.ahead (c.chain ++ c.after) whole) turned.0.side
          (back_beside alike c.chain c.after rest) c.ahead_below own c.after_above in
          let again = subst (AreSideBySide alike) new_parts stays in (
            grown,
            grown_holds,
            middle_beside New alike together_new table.slots.used n.ahead part.moving n.after (front_beside alike n.ahead n.after again) turned.1.side (back_beside alike n.ahead n.after again)
                n.ahead_below (all_map (moves_belong table.slots slots (hash table.adapter) objects split) part.moving part.move) n.after_above,
          )
