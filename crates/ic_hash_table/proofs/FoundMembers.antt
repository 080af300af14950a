-- A search walks along one chain, and these lemmas say what its result means for all members of the table.
use Rattle.std.proofs.Common.{◌≡◌, ◌≢◌, ℕ, ◌<◌, Bool, true, false, Option, Some, None, IsSome, IfSome, is_some, drop, eqb-true, eq-eqb, true≢false, List, [], ◌∷◌, ◌++◌, slice_index_or, refl, sym, ap, ◌∙◌, subst, arith, append_assoc}
use Rattle.std.specs.List.{AllByRecursion}
use Rattle.ic_link_ops.specs.Prelude.{Place, same_word, Objects, object_at, IsAbsent, last, Table, RepresentsPlaced, Successor}
use Rattle.ic_link_ops.proofs.Prelude.{all_both, all_front, all_back, all_map, nothing_first, first_is}
use Rattle.ic_hash_table.specs.declared.slots.Slots.{Slots}
use Rattle.ic_hash_table.specs.declared.table.HashTable.{HashTable}
use Rattle.ic_hash_table.specs.Prelude.{slot_of, BelongsIn, Holds, passes, matches, is_place, Finds, StopsAt, RepresentsFrom}
use Rattle.ic_hash_table.proofs.Chains.{Elsewhere, Between, chain_at}

module _ {E A B V : Type 0} {successor : E → Successor} {hash : A → V → ℕ} {fronts : B → List (Option Place)} {t : Table E} {table : HashTable A B} {objects : Objects V} {s : List Place}
    (held : Holds successor hash fronts t table objects s) (k : ℕ) (used : k < table.slots.used) where
  -- chain k is between the chains before it and the chains after it
  pub chain_of : Between successor (BelongsIn table.slots (hash table.adapter) objects) t 0 k k (fronts table.buckets) s
  chain_of = chain_at successor (BelongsIn table.slots (hash table.adapter) objects) t 0 k k (fronts table.buckets) s (omega arith) (omega (arith, used, held.enough)) held.chained

  -- each member of chain k has an object
  pub chain_placed : RepresentsPlaced (RepresentsFrom successor t (slice_index_or (fronts table.buckets) k None)) objects
  chain_placed =
      let c = chain_of in record {
        members = c.chain;
        shown = c.shown;
        placed = all_front _ c.chain c.after (all_back _ c.ahead (c.chain ++ c.after) (subst (AllByRecursion _) c.parts held.placed));
      }

-- if each value that equals the searched key belongs in chain k, no object of another chain equals the key
module _ {V : Type 0} (slots : Slots) (hash : V → ℕ) (objects : Objects V) {k : ℕ} {equal : V → Bool} (alike : (v : V) → equal v ≡ true → slot_of slots (hash v) ≡ k) where
  not_here : (o : Option V) → ((v : V) → o ≡ Some v → slot_of slots (hash v) ≢ k) → passes equal o ≡ false
  not_here None other = refl
  not_here (Some v) other = by (equal v) refl where
    by : (b : Bool) → equal v ≡ b → equal v ≡ false
    by true e = absurd (other v refl (alike v e))
    by false e = e

  pub none_elsewhere : (p : Place) → Elsewhere (BelongsIn slots hash objects) k p → matches equal objects p ≡ false
  none_elsewhere p (j, differs, belongs) = not_here (object_at objects p) (λ v there e. differs (sym (belongs v there) ∙ e))

-- A WALK ALONG A CHAIN finds the first member of the whole sequence that passes, if no member before or after the chain passes
pub finds_among : {is : Place → Bool} (ahead chain after : List Place) → AllByRecursion (λ p. is p ≡ false) ahead → AllByRecursion (λ p. is p ≡ false) after
    → {before : Option Place} (at : Option Place) → StopsAt is chain before at → Finds is (ahead ++ (chain ++ after)) at
finds_among {is = is} ahead chain after none_ahead none_after None stop =
    let P : Place → Type 0 = λ p. is p ≡ false in
    let none : AllByRecursion P chain =
    subst (AllByRecursion P) stop.whole
    (all_both P stop.gap.front stop.gap.back stop.passed (subst (AllByRecursion P) (sym (nothing_first stop.gap.back stop.here)) tt)) in
    all_both P ahead (chain ++ after) none_ahead (all_both P chain after none none_after)
finds_among {is = is} ahead chain after none_ahead none_after (Some p) stop =
    let f = stop.gap.front in
    let rest = drop 1 stop.gap.back in
    let whole : chain ≡ f ++ p ∷ rest = sym stop.whole ∙ ap (λ l. f ++ l) (first_is stop.gap.back stop.here) in (
      ahead ++ f,
      rest ++ after,
      ap (λ l. ahead ++ (l ++ after)) whole ∙ ap (λ l. ahead ++ l) (append_assoc f (p ∷ rest) after) ∙ sym (append_assoc ahead f (p ∷ rest ++ after)),
      all_both (λ q. is q ≡ false) ahead f none_ahead stop.passed,
      stop.stops,
    )

-- a walk along chain k finds the first member of the whole table that passes, if no place of another chain passes
pub finds : {E : Type 0} {successor : E → Successor} {Belongs : ℕ → Place → Type 0} {t : Table E} {k : ℕ} {fronts : List (Option Place)} {s : List Place} {is : Place → Bool}
    → (c : Between successor Belongs t 0 k k fronts s) → ((p : Place) → Elsewhere Belongs k p → is p ≡ false)
    → {before : Option Place} (at : Option Place) → StopsAt is c.chain before at → Finds is s at
finds {is = is} c elsewhere at stop =
    subst (λ l. Finds is l at) (sym c.parts) (finds_among c.ahead c.chain c.after (all_map elsewhere c.ahead c.ahead_others) (all_map elsewhere c.after c.after_others) at stop)

-- if a walk has stopped at the member p, p is in the chain directly after the member `before`
pub stops_at : {E : Type 0} {successor : E → Successor} {t : Table E} {front : Option Place} {chain : List Place} {is : Place → Bool} {before : Option Place} {p : Place} → StopsAt is chain before (Some p)
    → RepresentsFrom successor t front chain → (ahead back : List Place) × RepresentsFrom successor t front (ahead ++ p ∷ back) × (before ≡ last ahead)
stops_at {successor = successor} {t = t} {front = front} {p = p} stop shown =
    let whole = sym stop.whole ∙ ap (λ l. stop.gap.front ++ l) (first_is stop.gap.back stop.here) in
    (stop.gap.front, drop 1 stop.gap.back, subst (RepresentsFrom successor t front) whole shown, stop.after)

-- if a walk has stopped at a member and not at the end, this member is in the chain directly after the member `before`
pub stops_some : {E : Type 0} {successor : E → Successor} {t : Table E} {front : Option Place} {chain : List Place} {is : Place → Bool} {before : Option Place} (at : Option Place)
    → StopsAt is chain before at → RepresentsFrom successor t front chain
    → IfSome at (λ p. (ahead back : List Place) × RepresentsFrom successor t front (ahead ++ p ∷ back) × (before ≡ last ahead))
stops_some None stop shown = tt
stops_some (Some p) stop shown = stops_at stop shown

-- the test `is_place` is true for the searched place and for no other place
pub same_if_place : (p q : Place) → is_place p q ≡ true → q ≡ p
same_if_place p q e = same_word q p (eqb-true _ _ e)

pub not_place : (p q : Place) → p ≢ q → is_place p q ≡ false
not_place p q n = by (is_place p q) refl where
  by : (b : Bool) → is_place p q ≡ b → is_place p q ≡ false
  by true e = absurd (n (sym (same_if_place p q e)))
  by false e = e

pub place_absent : (p : Place) (s : List Place) → AllByRecursion (λ q. is_place p q ≡ false) s → IsAbsent p s
place_absent p [] h = tt
place_absent p (x ∷ s) h = ((λ e. true≢false (sym (subst (λ y. is_place p y ≡ true) e (eq-eqb p.word p.word refl)) ∙ h.0)), place_absent p s h.1)

-- a place whose object belongs in chain k equals no place that belongs in another chain
pub place_elsewhere : {V : Type 0} (slots : Slots) (hash : V → ℕ) (objects : Objects V) (k : ℕ) (p : Place) → IsSome (object_at objects p) → BelongsIn slots hash objects k p
    → (q : Place) → Elsewhere (BelongsIn slots hash objects) k q → is_place p q ≡ false
place_elsewhere slots hash objects k p placed here q (j, differs, belongs) = not_place p q (λ e. by (object_at objects p) refl placed e) where
  by : (o : Option _) → object_at objects p ≡ o → IsSome o → p ≡ q → ⊥
  by None there some e = absurd (true≢false (sym some))
  by (Some v) there some e = differs (sym (belongs v (ap (object_at objects) (sym e) ∙ there)) ∙ here v there)

-- if `is_some o` is false, the option o is none (`none_of`). If `is_some o` is true, o has a value (`some_of`)
pub none_of : {X : Type 0} (o : Option X) → is_some o ≡ false → o ≡ None
none_of None e = refl
none_of (Some x) e = absurd (true≢false e)

pub some_of : {X : Type 0} (o : Option X) → is_some o ≡ true → (x : X) × (o ≡ Some x)
some_of None e = absurd (true≢false (sym e))
some_of (Some x) e = (x, refl)

-- if a walk to the place p has come to the end of the chain, p is no member of the table
pub nowhere : {E : Type 0} {successor : E → Successor} {Belongs : ℕ → Place → Type 0} {t : Table E} {k : ℕ} {fronts : List (Option Place)} {s : List Place} (p : Place)
    → (c : Between successor Belongs t 0 k k fronts s) → ((q : Place) → Elsewhere Belongs k q → is_place p q ≡ false)
    → {before : Option Place} (at : Option Place) → StopsAt (is_place p) c.chain before at → is_some at ≡ false → IsAbsent p s
nowhere {s = s} p c elsewhere at stop none =
    place_absent p s (finds c elsewhere None (subst (StopsAt (is_place p) c.chain _) (none_of at none) stop))

-- if a walk to the place p has stopped before the end, p is in the chain directly after the member `before`
pub stops_place : {E : Type 0} {successor : E → Successor} {t : Table E} {front : Option Place} {chain : List Place} {before : Option Place} {p : Place} (at : Option Place) → StopsAt (is_place p) chain before at
    → is_some at ≡ true → RepresentsFrom successor t front chain → (ahead back : List Place) × RepresentsFrom successor t front (ahead ++ p ∷ back) × (before ≡ last ahead)
stops_place {successor = successor} {t = t} {front = front} {before = before} {p = p} at stop some shown =
    let q = some_of at some in
    let stop' = subst (StopsAt (is_place p) _ before) q.1 stop in
    subst (λ (x : Place). (ahead back : List Place) × RepresentsFrom successor t front (ahead ++ x ∷ back) × (before ≡ last ahead)) (same_if_place p q.0 stop'.stops) (stops_at stop' shown)
