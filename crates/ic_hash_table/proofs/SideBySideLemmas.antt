-- These lemmas say that members with equal keys are still side by side after one member is inserted.
use Rattle.std.proofs.Common.{◌≡◌, ◌≢◌, ℕ, drop, Bool, true, false, true≢false, Option, Some, None, IfSome, List, [], ◌∷◌, ◌++◌, refl, sym, ap, subst, ◌∙◌}
use Rattle.std.specs.List.{AllByRecursion}
use Rattle.std.specs.Cmp.{IsPartialEquivalence, IsEquivalence}
use Rattle.ic_link_ops.specs.Prelude.{Place, Objects, object_at, IsMember, IsDistinct, first, Table, Successor}
use Rattle.ic_link_ops.proofs.SequenceLemmas.{absent_left, absent_right, nothing_first, first_is, split_member, some_same}
use Rattle.ic_hash_table.specs.declared.table.HashTable.{HashTable}
use Rattle.ic_hash_table.specs.HashTable.{BelongsIn, Holds, HoldsAt, DifferInNumber}
use Rattle.ic_hash_table.specs.declared.slots.Slots.{Slots}
use Rattle.ic_hash_table.specs.Prelude.{slot_of, AreSideBySide, HoldsSideBySide, same_key}
use Rattle.ic_hash_table.specs.Searches.{passes, has_key, Finds, StopsAt}
use Rattle.ic_hash_table.proofs.ChainParts.{of_member}
use Rattle.ic_hash_table.proofs.SideBySideSequences.{put_beside, spans}
use Rattle.ic_hash_table.proofs.HeldTables.{one_cut}

-- two members are alike if their keys are equal, and this relation of members is symmetric and transitive
module _ {V K : Type 0} {eq : K → K → Bool} (laws : IsEquivalence eq) (key_of : V → K) where
  abbrev both : Option V → Option V → Bool
  both o r = passes (λ value. passes (λ other. eq (key_of value) (key_of other)) r) o

  both_symm : (o r : Option V) → both o r ≡ both r o
  both_symm None None = refl
  both_symm None (Some w) = refl
  both_symm (Some v) None = refl
  both_symm (Some v) (Some w) = laws.symm (key_of v) (key_of w)

  both_trans : (o r q : Option V) → both o r ≡ true → both r q ≡ true → both o q ≡ true
  both_trans None r q e k = e
  both_trans (Some v) None q e k = absurd (true≢false (sym e))
  both_trans (Some v) (Some w) None e k = k
  both_trans (Some v) (Some w) (Some u) e k = laws.congr (key_of v) (key_of w) (key_of u) e ∙ k

  pub keys_alike : (objects : Objects V) → IsPartialEquivalence (same_key eq key_of objects)
  keys_alike objects = record {
    symm = λ x y. both_symm (object_at objects x) (object_at objects y);
    trans = λ x y z e k. both_trans (object_at objects x) (object_at objects y) (object_at objects z) e k;
  }

  -- the objects of two members with equal keys have equal hashes
  pub same_number : (hash : V → ℕ) → ((v w : V) → eq (key_of v) (key_of w) ≡ true → hash v ≡ hash w) → (objects : Objects V) (x y : Place) → same_key eq key_of objects x y ≡ true
      → DifferInNumber hash objects x y → ⊥
  same_number hash same objects x y e differ = by (object_at objects x) (object_at objects y) refl refl e where
    by : (o r : Option V) → object_at objects x ≡ o → object_at objects y ≡ r → both o r ≡ true → ⊥
    by None r at_x at_y e = true≢false (sym e)
    by (Some v) None at_x at_y e = true≢false (sym e)
    by (Some v) (Some w) at_x at_y e = differ v w at_x at_y (same v w e)

-- a member has the same key as the member p if and only if it has the key of the object at p
pub has_its_key : {V K : Type 0} (eq : K → K → Bool) (key_of : V → K) (objects : Objects V) (p q : Place) (value : V) → object_at objects p ≡ Some value
    → same_key eq key_of objects p q ≡ has_key eq key_of (key_of value) objects q
has_its_key eq key_of objects p q value there = ap (passes (λ value. has_key eq key_of (key_of value) objects q)) there

-- A MEMBER p IS INSERTED where a walk along its chain has stopped, and alike members are side by side afterwards. `is` says whether a member is alike p
module _ {is : Place → Bool} {same : Place → Place → Bool} (laws : IsPartialEquivalence same) (p : Place) (is_same : (q : Place) → same p q ≡ is q) where
  -- if p is not alike x, x is not alike p
  strange : (x : Place) → is x ≡ false → same x p ≡ true → ⊥
  strange x none e = true≢false (sym (sym (is_same x) ∙ laws.symm p x ∙ e) ∙ none)

  in_front : (f b : List Place) (q : Place) → AreSideBySide same (f ++ q ∷ b) → AllByRecursion (λ x. is x ≡ false) f → is q ≡ true → AreSideBySide same (f ++ p ∷ q ∷ b)
  in_front f b q side none here =
      let out : (x : Place) → IsMember x f → same x p ≡ true → ⊥ = λ x member e. strange x (of_member (λ x. is x ≡ false) f x none member) e in
      put_beside same p f (q ∷ b) side
      (λ x y member after e. out x member (laws.trans x q p (spans same laws f b q side x y member after e) (laws.symm q p ∙ is_same q ∙ here)))
      out
      (λ y member e. is_same q ∙ here)

  at_end : (f b : List Place) → AreSideBySide same (f ++ b) → AllByRecursion (λ x. is x ≡ false) (f ++ b)
      → ((x y : Place) → IsMember x f → IsMember y b → same x y ≡ true → ⊥) → AreSideBySide same (f ++ p ∷ b)
  at_end f b side none apart =
      put_beside same p f b side apart
      (λ x member e. strange x (of_member (λ x. is x ≡ false) (f ++ b) x none (λ out. member (absent_left x f b out))) e)
      (λ y member e. absurd (true≢false (sym (sym (is_same y) ∙ e) ∙ of_member (λ x. is x ≡ false) (f ++ b) y none (λ out. member (absent_right y f b out)))))

  pub beside_put : {E A B V : Type 0} {successor : E → Successor} {hash : A → V → ℕ} {fronts : B → List (Option Place)} {t : Table E} {table : HashTable A B} {objects : Objects V}
      → ((x y : Place) → same x y ≡ true → DifferInNumber (hash table.adapter) objects x y → ⊥) → {s chain : List Place} {before : Option Place} → (found : Option Place) (stop : StopsAt is chain before found) → IsDistinct s → Finds is s found → AreSideBySide same s
      → (h : HoldsAt successor hash fronts t table objects s stop.gap p) → (u : List Place) × Holds successor hash fronts t table objects u × AreSideBySide same u
  beside_put numbers {s = s} None stop d none side h =
      let f = h.ahead ++ stop.gap.front in
      let b = stop.gap.back ++ h.after in
      let over : b ≡ h.after = ap (λ l. l ++ h.after) (nothing_first stop.gap.back stop.here) in (
        f ++ p ∷ b,
        h.holds,
        at_end f b (subst (AreSideBySide same) h.parts side) (subst (AllByRecursion (λ x. is x ≡ false)) h.parts none)
            (λ x y member after e. numbers x y e (h.apart x y member (subst (IsMember y) over after))),
      )
  beside_put numbers {s = s} (Some q) stop d found side h =
      let f = h.ahead ++ stop.gap.front in
      let rest = drop 1 stop.gap.back ++ h.after in
      let here : stop.gap.back ++ h.after ≡ q ∷ rest = ap (λ l. l ++ h.after) (first_is stop.gap.back stop.here) in
      let whole : s ≡ f ++ q ∷ rest = h.parts ∙ ap (λ b. f ++ b) here in
      let cut = one_cut found.0 found.1 f rest q (subst IsDistinct found.2 d) (sym found.2 ∙ whole) in (
        f ++ p ∷ (stop.gap.back ++ h.after),
        h.holds,
        subst (λ b. AreSideBySide same (f ++ p ∷ b)) (sym here)
            (in_front f rest q (subst (AreSideBySide same) whole side) (subst (AllByRecursion (λ x. is x ≡ false)) cut.0 found.3) found.4),
      )

-- if an object is inserted where a walk along its chain has stopped, members with equal keys are still side by side. The table has kept its adapter
pub keys_beside : {E A B V K : Type 0} {successor : E → Successor} {eq : K → K → Bool} (laws : IsEquivalence eq) (key_of : A → V → K) {hash : A → V → ℕ} {fronts : B → List (Option Place)} {t : Table E}
    {table : HashTable A B} {objects : Objects V} (a : A) → ((v w : V) → eq (key_of a v) (key_of a w) ≡ true → hash a v ≡ hash a w) → table.adapter ≡ a
    → (p : Place) (value : V) → object_at objects p ≡ Some value → {s chain : List Place} {before : Option Place} (found : Option Place)
    → (stop : StopsAt (has_key eq (key_of a) (key_of a value) objects) chain before found) → IsDistinct s → Finds (has_key eq (key_of a) (key_of a value) objects) s found
    → AreSideBySide (same_key eq (key_of a) objects) s → HoldsAt successor hash fronts t table objects s stop.gap p
    → HoldsSideBySide successor hash fronts eq key_of t table objects
keys_beside {successor = successor} {eq = eq} laws key_of {hash} {fronts} {t} {table} {objects} a alike kept p value there found stop d finds side h =
    subst (λ b. (u : List Place) × Holds successor hash fronts t table objects u × AreSideBySide (same_key eq (key_of b) objects) u) (sym kept)
    (beside_put (keys_alike laws (key_of a) objects) p (λ q. has_its_key eq (key_of a) objects p q value there)
    (λ x y e differ. same_number laws (key_of a) (hash a) alike objects x y e (subst (λ b. DifferInNumber (hash b) objects x y) kept differ))
    found stop d finds side h)

-- IF MEMBERS WITH EQUAL KEYS are side by side, the next member with an equal key is the member directly after p
pub found_beside : {V K : Type 0} (eq : K → K → Bool) (key_of : V → K) (objects : Objects V) (p : Place) (value : V) → object_at objects p ≡ Some value
    → (front back : List Place) → AreSideBySide (same_key eq key_of objects) (front ++ p ∷ back) → (found : Option Place)
    → Finds (has_key eq key_of (key_of value) objects) back found → IfSome found (λ next. first back ≡ Some next)
found_beside eq key_of objects p value there [] back side None none = tt
found_beside eq key_of objects p value there [] back side (Some q) (f, b, is, none, here) =
    let own = has_its_key eq key_of objects p in
    let right : IfSome (first back) (λ next. same_key eq key_of objects p next ≡ true) =
    side.0 q (subst (IsMember q) (sym is) (split_member f q b)) (own q value there ∙ here) in
    by f is none right where
      by : (f : List Place) → back ≡ f ++ q ∷ b → AllByRecursion (λ x. has_key eq key_of (key_of value) objects x ≡ false) f
          → IfSome (first back) (λ next. same_key eq key_of objects p next ≡ true) → first back ≡ Some q
      by [] is none right = ap first is
      by (z ∷ f) is none right =
          let e : same_key eq key_of objects p z ≡ true = subst (λ b. IfSome (first b) (λ next. same_key eq key_of objects p next ≡ true)) is right in
          absurd (true≢false (sym e ∙ has_its_key eq key_of objects p z value there ∙ none.0))
found_beside eq key_of objects p value there (x ∷ front) back side found finds = found_beside eq key_of objects p value there front back side.1 found finds

-- an object belongs in the chain where the hash of its value belongs
pub belongs_by_value : {V : Type 0} (slots : Slots) (hash : V → ℕ) (objects : Objects V) {k : ℕ} (p : Place) (value : V) → object_at objects p ≡ Some value → k ≡ slot_of slots (hash value)
    → BelongsIn slots hash objects k p
belongs_by_value slots hash objects p value there e v at_v = ap (λ v. slot_of slots (hash v)) (some_same (sym at_v ∙ there)) ∙ sym e
