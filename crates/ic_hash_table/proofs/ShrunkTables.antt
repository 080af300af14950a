-- These lemmas are about a hash table after its last chain was joined to the chain from which growth had split it.
use Rattle.std.proofs.Common.{◌≡◌, ◌≢◌, ℕ, ◌<◌, Bool, Option, None, IsSome, List, [], ◌++◌, length, length-append, slice_index_or, slice_set, refl, sym, ap, ◌∙◌, subst, arith, append_assoc, get_or-set_other, length-set}
use Rattle.std.specs.List.{AllByRecursion}
use Rattle.ic_link_ops.specs.Prelude.{Place, Objects, object_at, IsAbsent, IsDistinct, IsDisjoint, Table, ChangesOnlyIn, Successor}
use Rattle.ic_link_ops.proofs.Prelude.{all_back, all_both, all_front, all_map, absent_both, absent_left, absent_right, distinct_disjoint, distinct_left, distinct_right, distinct_splice, disjoint_nothing}
use Rattle.ic_hash_table.specs.declared.slots.Slots.{Slots}
use Rattle.ic_hash_table.specs.declared.table.HashTable.{HashTable}
use Rattle.ic_hash_table.specs.Prelude.{split_of, IsWellFormed, IsSplit, AreChained, RepresentsFrom, BelongsIn, Holds, AreSideBySide}
use Rattle.ic_hash_table.specs.Growth.{HoldsSameMembers}
use Rattle.ic_hash_table.proofs.Chains.{Between, chain_at}
use Rattle.ic_hash_table.proofs.SideBySideSequences.{join_beside, front_beside, back_beside}
use Rattle.ic_hash_table.proofs.SideBySideChains.{BelongTogether, in_others, middle_beside}
use Rattle.ic_hash_table.proofs.ChainParts.{of_members, nothing_represented}
use Rattle.ic_hash_table.proofs.GrownTables.{without_middle, middle_apart}
use Rattle.ic_hash_table.proofs.HeldTables.{middle_ahead, middle_after}

-- chain `last` is joined to chain `to`. By `others`, a place that belongs in another chain than `last` still belongs there afterwards. By `moved`, a place that
-- belongs in chain `last` belongs in chain `to` afterwards
module _ {E : Type 0} (successor : E → Successor) (Belongs Fewer : ℕ → Place → Type 0) (last to : ℕ) (less : to < last) (others : (j : ℕ) (p : Place) → j ≢ last → Belongs j p → Fewer j p)
    (moved : (p : Place) → Belongs last p → Fewer to p) (old : Table E) (fronts : List (Option Place)) (s : List Place) (distinct : IsDistinct s) (chained : AreChained successor Belongs old 0 fronts s)
    (in_bounds : last < length fronts) where
  pub last_chain : Between successor Belongs old 0 last last fronts s
  last_chain = chain_at successor Belongs old 0 last last fronts s (omega arith) in_bounds chained

  without_last : AreChained successor Fewer old 0 (slice_set fronts last None) (last_chain.ahead ++ last_chain.after)
  without_last = last_chain.put Fewer others None [] [] (nothing_represented old) tt (disjoint_nothing last_chain.ahead) (disjoint_nothing last_chain.after) (λ q out. refl)

  pub joined_chain : Between successor Fewer old 0 to to (slice_set fronts last None) (last_chain.ahead ++ last_chain.after)
  joined_chain = chain_at successor Fewer old 0 to to (slice_set fronts last None) (last_chain.ahead ++ last_chain.after) (omega arith) (omega (arith, less, in_bounds, length-set fronts last None)) without_last

  pub joined_represented : RepresentsFrom successor old (slice_index_or fronts to None) joined_chain.chain
  joined_represented = subst (λ f. RepresentsFrom successor old f joined_chain.chain) (get_or-set_other fronts last to None None (λ e. absurd (omega (arith, less, e)))) joined_chain.shown

  -- all members after the join: the members of the last chain come directly before those of the chain `to`
  abbrev pub joined : List Place
  joined = joined_chain.ahead ++ ((last_chain.chain ++ joined_chain.chain) ++ joined_chain.after)

  whole : IsDistinct (last_chain.ahead ++ (last_chain.chain ++ last_chain.after))
  whole = subst IsDistinct last_chain.parts distinct

  pub joined_distinct : IsDistinct joined
  joined_distinct =
      let l = last_chain in
      let j = joined_chain in
      subst (λ m. IsDistinct (j.ahead ++ m)) (sym (append_assoc l.chain j.chain j.after))
      (distinct_splice j.ahead l.chain (j.chain ++ j.after) (subst IsDistinct j.parts (without_middle l.ahead l.chain l.after whole))
      (distinct_left l.chain l.after (distinct_right l.ahead (l.chain ++ l.after) whole)) (subst (IsDisjoint l.chain) j.parts (middle_apart l.ahead l.chain l.after whole)))

  -- the last chain and the chain that it is joined to share no member
  pub chains_apart : IsDisjoint last_chain.chain joined_chain.chain
  chains_apart =
      let l = last_chain in
      let j = joined_chain in
      distinct_disjoint l.chain j.chain (distinct_left (l.chain ++ j.chain) j.after (distinct_right j.ahead ((l.chain ++ j.chain) ++ j.after) joined_distinct))

  -- each member after the join was a member before, and each member before the join is a member afterwards
  pub joined_within : (q : Place) → IsAbsent q s → IsAbsent q joined
  joined_within q out =
      let l = last_chain in
      let j = joined_chain in
      let a = subst (IsAbsent q) l.parts out in
      let tail = absent_right q l.ahead (l.chain ++ l.after) a in
      let rest = subst (IsAbsent q) j.parts (absent_both q l.ahead l.after (absent_left q l.ahead (l.chain ++ l.after) a) (absent_right q l.chain l.after tail)) in
      let end = absent_right q j.ahead (j.chain ++ j.after) rest in
      absent_both q j.ahead ((l.chain ++ j.chain) ++ j.after) (absent_left q j.ahead (j.chain ++ j.after) rest)
      (absent_both q (l.chain ++ j.chain) j.after (absent_both q l.chain j.chain (absent_left q l.chain l.after tail) (absent_left q j.chain j.after end)) (absent_right q j.chain j.after end))

  pub joined_all : (q : Place) → IsAbsent q joined → IsAbsent q s
  joined_all q out =
      let l = last_chain in
      let j = joined_chain in
      let tail = absent_right q j.ahead ((l.chain ++ j.chain) ++ j.after) out in
      let both = absent_left q (l.chain ++ j.chain) j.after tail in
      let rest = absent_both q j.ahead (j.chain ++ j.after) (absent_left q j.ahead ((l.chain ++ j.chain) ++ j.after) out)
      (absent_both q j.chain j.after (absent_right q l.chain j.chain both) (absent_right q (l.chain ++ j.chain) j.after tail)) in
      let beside = subst (IsAbsent q) (sym j.parts) rest in
      subst (IsAbsent q) (sym l.parts)
      (absent_both q l.ahead (l.chain ++ l.after) (absent_left q l.ahead l.after beside) (absent_both q l.chain l.after (absent_left q l.chain j.chain both) (absent_right q l.ahead l.after beside)))

  pub joined_frame : {new : Table E} → ChangesOnlyIn old new (last_chain.chain ++ joined_chain.chain) → ChangesOnlyIn old new s
  joined_frame frame =
      let l = last_chain in
      let j = joined_chain in record {
        extent = frame.extent;
        others = λ q out. frame.others q (absent_left q (l.chain ++ j.chain) j.after (absent_right q j.ahead ((l.chain ++ j.chain) ++ j.after) (joined_within q out)));
      }

  pub joined_length : length joined ≡ length s
  joined_length =
      let l = last_chain in
      let j = joined_chain in
      omega (
        arith,
        ap length l.parts,
        length-append l.ahead (l.chain ++ l.after),
        length-append l.chain l.after,
        ap length j.parts,
        length-append l.ahead l.after,
        length-append j.ahead (j.chain ++ j.after),
        length-append j.chain j.after,
        length-append j.ahead ((l.chain ++ j.chain) ++ j.after),
        length-append (l.chain ++ j.chain) j.after,
        length-append l.chain j.chain,
      )

  pub joined_chained : {new : Table E} {front : Option Place} → RepresentsFrom successor new front (last_chain.chain ++ joined_chain.chain) → ChangesOnlyIn old new (last_chain.chain ++ joined_chain.chain)
      → AreChained successor Fewer new 0 (slice_set (slice_set fronts last None) to front) joined
  joined_chained {front = front} shown frame =
      let l = last_chain in
      let j = joined_chain in
      j.put Fewer (λ i p n b. b) front (l.chain ++ j.chain) (l.chain ++ j.chain) shown (all_both (Fewer to) l.chain j.chain (all_map moved l.chain l.own) j.own)
      (middle_ahead j.ahead (l.chain ++ j.chain) j.after joined_distinct) (middle_after j.ahead (l.chain ++ j.chain) j.after joined_distinct) frame.others

  -- ALIKE MEMBERS ARE SIDE BY SIDE after the join, because no member of the last chain is alike a member of the chain that it is joined to
  pub joined_beside : {alike : Place → Place → Bool} → BelongTogether Belongs alike → BelongTogether Fewer alike → AreSideBySide alike s → AreSideBySide alike joined
  joined_beside {alike} together fewer side =
      let l = last_chain in
      let j = joined_chain in
      let Elsewhere : Place → Type 0 = λ p. (i : ℕ) × (i ≢ last) × Belongs i p in
      let split = subst (AreSideBySide alike) l.parts side in
      let rest = back_beside alike l.ahead (l.chain ++ l.after) split in
      let beside = middle_beside Belongs alike together last l.ahead [] l.after (front_beside alike l.ahead (l.chain ++ l.after) split) tt (back_beside alike l.chain l.after rest) l.ahead_below tt l.after_above in
      let parts = subst (AreSideBySide alike) j.parts beside in
      let end = back_beside alike j.ahead (j.chain ++ j.after) parts in
      let others = subst (AllByRecursion Elsewhere) j.parts (all_both Elsewhere l.ahead l.after l.ahead_others l.after_others) in
      let strangers = all_front Elsewhere j.chain j.after (all_back Elsewhere j.ahead (j.chain ++ j.after) others) in
      let both = join_beside alike l.chain j.chain (front_beside alike l.chain l.after rest) (front_beside alike j.chain j.after end)
      (in_others Belongs alike together (λ i. i ≡ last) (λ i. i ≢ last) (λ i e other. other e) l.chain j.chain (all_map (λ p o. (last, refl, o)) l.chain l.own) strangers) in
      middle_beside Fewer alike fewer to j.ahead (l.chain ++ j.chain) j.after (front_beside alike j.ahead (j.chain ++ j.after) parts) both (back_beside alike j.chain j.after end)
      j.ahead_below (all_both (Fewer to) l.chain j.chain (all_map moved l.chain l.own) j.own) j.after_above

-- after one chain is taken out of use, an object of another chain still belongs in its chain. An object of the last chain belongs in the chain from which the
-- last was split
module _ {V : Type 0} (small large : Slots) (hash : V → ℕ) (objects : Objects V) (split : IsSplit small large) where
  pub others_belong : (j : ℕ) (p : Place) → j ≢ small.used → BelongsIn large hash objects j p → BelongsIn small hash objects j p
  others_belong j p other belongs v there = sym (split.others (hash v) (λ e. other (sym (belongs v there) ∙ e))) ∙ belongs v there

  pub last_belong : (p : Place) → BelongsIn large hash objects small.used p → BelongsIn small hash objects (split_of large small.used) p
  last_belong p belongs v there = split.from (hash v) (belongs v there)

module _ {E A B V : Type 0} (successor : E → Successor) (hash : A → V → ℕ) (fronts : B → List (Option Place)) {old : Table E} {table : HashTable A B} {objects : Objects V}
    (slots : Slots) (split : IsSplit slots table.slots) {s : List Place} (held : Holds successor hash fronts old table objects s) (in_bounds : slots.used < length (fronts table.buckets)) where
  -- THE SHRUNK TABLE HOLDS the members that the table held before
  module _ (middle buckets : B) {new : Table E} {front : Option Place} (well_formed : IsWellFormed slots)
      (last_set : fronts middle ≡ slice_set (fronts table.buckets) slots.used None) (joined_set : fronts buckets ≡ slice_set (fronts middle) (split_of table.slots slots.used) front)
      (join : (s t : List Place) → RepresentsFrom successor old (slice_index_or (fronts table.buckets) slots.used None) s → RepresentsFrom successor old (slice_index_or (fronts table.buckets) (split_of table.slots slots.used) None) t
      → IsDisjoint s t → RepresentsFrom successor new front (s ++ t))
      (frame : (s t : List Place) → RepresentsFrom successor old (slice_index_or (fronts table.buckets) slots.used None) s → RepresentsFrom successor old (slice_index_or (fronts table.buckets) (split_of table.slots slots.used) None) t
      → IsDisjoint s t → ChangesOnlyIn old new (s ++ t)) where
    abbrev shrunk : List Place
    shrunk = joined successor (BelongsIn table.slots (hash table.adapter) objects) (BelongsIn slots (hash table.adapter) objects) slots.used (split_of table.slots slots.used) split.apart
        (others_belong slots table.slots (hash table.adapter) objects split) (last_belong slots table.slots (hash table.adapter) objects split) old (fronts table.buckets) s held.distinct held.chained in_bounds

    shrunk_holds : Holds successor hash fronts new (record { adapter = table.adapter; buckets = buckets; slots = slots; len = table.len }) objects shrunk
    shrunk_holds =
        let Old = BelongsIn table.slots (hash table.adapter) objects in
        let New = BelongsIn slots (hash table.adapter) objects in
        let others = others_belong slots table.slots (hash table.adapter) objects split in
        let moved = last_belong slots table.slots (hash table.adapter) objects split in
        let to = split_of table.slots slots.used in
        let l = last_chain successor Old New slots.used to split.apart others moved old (fronts table.buckets) s held.distinct held.chained in_bounds in
        let j = joined_chain successor Old New slots.used to split.apart others moved old (fronts table.buckets) s held.distinct held.chained in_bounds in
        let j_represented = joined_represented successor Old New slots.used to split.apart others moved old (fronts table.buckets) s held.distinct held.chained in_bounds in
        let apart = chains_apart successor Old New slots.used to split.apart others moved old (fronts table.buckets) s held.distinct held.chained in_bounds in
        record {
          distinct = joined_distinct successor Old New slots.used to split.apart others moved old (fronts table.buckets) s held.distinct held.chained in_bounds;
          chained = subst (λ f. AreChained successor New new 0 f (joined successor Old New slots.used to split.apart others moved old (fronts table.buckets) s held.distinct held.chained in_bounds))
              (sym (joined_set ∙ ap (λ f. slice_set f to front) last_set))
              (joined_chained successor Old New slots.used to split.apart others moved old (fronts table.buckets) s held.distinct held.chained in_bounds (join l.chain j.chain l.shown j_represented apart) (frame l.chain j.chain l.shown j_represented apart));
          placed = of_members (λ p. IsSome (object_at objects p)) s (joined successor Old New slots.used to split.apart others moved old (fronts table.buckets) s held.distinct held.chained in_bounds)
              (joined_within successor Old New slots.used to split.apart others moved old (fronts table.buckets) s held.distinct held.chained in_bounds) held.placed;
          counted = held.counted ∙ sym (joined_length successor Old New slots.used to split.apart others moved old (fronts table.buckets) s held.distinct held.chained in_bounds);
          well_formed = well_formed;
          enough = omega (arith, split.used, held.enough, ap length joined_set, length-set (fronts middle) to front, ap length last_set, length-set (fronts table.buckets) slots.used None);
        }

    pub held_shrunk : HoldsSameMembers successor hash fronts new (record { adapter = table.adapter; buckets = buckets; slots = slots; len = table.len }) objects s
    held_shrunk =
        let Old = BelongsIn table.slots (hash table.adapter) objects in
        let New = BelongsIn slots (hash table.adapter) objects in
        let others = others_belong slots table.slots (hash table.adapter) objects split in
        let moved = last_belong slots table.slots (hash table.adapter) objects split in
        let to = split_of table.slots slots.used in
        record {
          members = shrunk;
          holds = shrunk_holds;
          adds_none = joined_within successor Old New slots.used to split.apart others moved old (fronts table.buckets) s held.distinct held.chained in_bounds;
          all = joined_all successor Old New slots.used to split.apart others moved old (fronts table.buckets) s held.distinct held.chained in_bounds;
        }

    -- IF MEMBERS WITH EQUAL KEYS were side by side before the table shrank, they are side by side afterwards
    pub beside_shrunk : {alike : Place → Place → Bool} → BelongTogether (BelongsIn table.slots (hash table.adapter) objects) alike → BelongTogether (BelongsIn slots (hash table.adapter) objects) alike
        → AreSideBySide alike s → (u : List Place) × Holds successor hash fronts new (record { adapter = table.adapter; buckets = buckets; slots = slots; len = table.len }) objects u × AreSideBySide alike u
    beside_shrunk together fewer side =
        let Old = BelongsIn table.slots (hash table.adapter) objects in
        let New = BelongsIn slots (hash table.adapter) objects in
        let others = others_belong slots table.slots (hash table.adapter) objects split in
        let moved = last_belong slots table.slots (hash table.adapter) objects split in
        let to = split_of table.slots slots.used in
        (shrunk, shrunk_holds, joined_beside successor Old New slots.used to split.apart others moved old (fronts table.buckets) s held.distinct held.chained in_bounds together fewer side)
