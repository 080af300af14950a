-- The words at a moment, after one word has changed.
use Rattle.std.proofs.Common.{◌≡◌, ◌≢◌, ℕ, ◌+◌, ◌<◌, eqb, true, false, true≢false, cond, ◌||◌, Some, None, List, [], ◌∷◌, ◌++◌, length, set, refl, sym, ap, ◌∙◌, subst, arith, eq-eqb, eqb-true, get_or-set_same, get_or-set_other}
use mathlib.Core.Logic.{dite}
use native.Mathlib.Decide.{ℕ_discrete}
use Rattle.ic_unsafe_ref.specs.declared.place.Place.{Place}
use Rattle.ic_unsafe_ref.specs.Places.{index_of}
use Rattle.ic_unsafe_ref.proofs.PlaceLemmas.{same_index}
use Rattle.ic_lock_free_stack.specs.Prelude.{first, IsSound}
use Rattle.ic_lock_free_stack.specs.declared.step.Step.TheVariants.{Push, TakeAll}
use Rattle.ic_lock_free_stack.specs.declared.held.Size.{Size}
use Rattle.ic_lock_free_stack.specs.declared.held.Known.{Known}
use Rattle.ic_lock_free_stack.specs.Moments.{Location, with_holder, in_stack, is_nowhere, Moment, same, is_in, after}
use Rattle.ic_lock_free_stack.specs.Words.{link_to, word_at, head_at, AreLinked, link_or, AreLinkedTo, Spells, known_of, knows, knows_all, AreKnownTo, forgets}
use Rattle.ic_lock_free_stack.proofs.MomentLemmas.{one_place, same_place, apart_place, by_test, by_case, off_stacks, in_both, in_here, in_rest}

-- if a word changes that is not the word of a member, the members stay linked
pub linked_beside : (words : List ℕ) (i n : ℕ) (s : List Place) → ((p : Place) → is_in p s ≡ true → index_of p ≢ i) → AreLinked words s → AreLinked (set words i n) s
linked_beside words i n [] beside was = tt
linked_beside words i n (p ∷ s) beside was = (
  get_or-set_other words i (index_of p) n 0 (beside p (rw (same_place p) refl)) ∙ was.0,
  linked_beside words i n s (λ q inside. beside q (by_test (λ b. (b || is_in q s) ≡ true) (same q p) (λ _. refl) (λ _. inside))) was.1,
)

-- if the last of several members is linked to the first of other members, all members together are linked
pub linked_both : (words : List ℕ) (s t : List Place) → AreLinkedTo words s (link_to (first t)) → AreLinked words t → AreLinked words (s ++ t)
linked_both words [] t front back = back
linked_both words (p ∷ []) t front back = (front.0, back)
linked_both words (p ∷ q ∷ s) t front back = (front.0, linked_both words (q ∷ s) t front.1 back)

pub linked_through : (words words' : List ℕ) (s : List Place) (n : ℕ) → ((q : Place) → is_in q s ≡ true → word_at words' q ≡ word_at words q) → AreLinkedTo words s n → AreLinkedTo words' s n
linked_through words words' [] n through was = tt
linked_through words words' (p ∷ s) n through was = (through p (in_here p s) ∙ was.0, linked_through words words' s n (λ q e. through q (in_rest p q s e)) was.1)

-- the word of a head is never the word of a place
pub head_apart : (size : Size) (i k : ℕ) → i < size.places → size.places + k ≢ i
head_apart size i k inside e = absurd (omega (arith, inside, e))

-- THE WORD OF A PLACE CHANGES: if the place is in no stack, the words agree with the moment after the change
module _ (size : Size) (words : List ℕ) (m : Moment) (p : Place) (n : ℕ) (f : Place → Location) (was : Spells size words m)
    (inside : index_of p < size.places) (room : index_of p < length words)
    (off : (k : ℕ) → is_in p (m.stack k) ≡ false) (others : (q : Place) → same q p ≡ false → f q ≡ m.place q) (here : eqb n 0 ≡ is_nowhere (f p)) where
  beside_members : (k : ℕ) (q : Place) → is_in q (m.stack k) ≡ true → index_of q ≢ index_of p
  beside_members k q member e = absurd (true≢false (sym member ∙ (ap (λ r. is_in r (m.stack k)) (one_place q p (eq-eqb (index_of q) (index_of p) e)) ∙ off k)))

  spells_place_free : (q : Place) → index_of q < size.places → eqb (word_at (set words (index_of p) n) q) 0 ≡ is_nowhere (f q)
  spells_place_free q small = dite (ℕ_discrete (index_of q) (index_of p))
      (λ e. subst (λ r. eqb (word_at (set words (index_of p) n) r) 0 ≡ is_nowhere (f r)) (sym (one_place q p (eq-eqb (index_of q) (index_of p) e)))
      (ap (λ w. eqb w 0) (get_or-set_same words (index_of p) n 0 room) ∙ here))
      (λ ne. ap (λ w. eqb w 0) (get_or-set_other words (index_of p) (index_of q) n 0 ne) ∙ (was.free q small ∙ ap is_nowhere (sym (others q (apart_place q p ne)))))

  pub spells_place : Spells size (set words (index_of p) n) (record { place = f; stack = m.stack })
  spells_place = record {
    free = spells_place_free;
    heads = λ k small. get_or-set_other words (index_of p) (size.places + k) n 0 (head_apart size (index_of p) k inside) ∙ was.heads k small;
    links = λ k. linked_beside words (index_of p) n (m.stack k) (beside_members k) (was.links k);
    inside = was.inside;
  }

-- Lemmas about a change of the head of the stack k to the word n
module _ (size : Size) (words : List ℕ) (m : Moment) (was : Spells size words m) (k n : ℕ) (small : k < size.stacks) (room : size.places + k < length words) where
  abbrev words' : List ℕ
  words' = set words (size.places + k) n

  pub place_same : (q : Place) → index_of q < size.places → word_at words' q ≡ word_at words q
  place_same q inside = get_or-set_other words (size.places + k) (index_of q) n 0 (λ e. absurd (omega (arith, inside, e)))

  head_same : (j : ℕ) → eqb k j ≡ false → head_at size words' j ≡ head_at size words j
  head_same j ne = get_or-set_other words (size.places + k) (size.places + j) n 0 (λ e. let same_stack : k ≡ j = omega (arith, e) in absurd (true≢false (sym (eq-eqb k j same_stack) ∙ ne)))

  head_new : (j : ℕ) → eqb k j ≡ true → head_at size words' j ≡ n
  head_new j e = ap (λ i. head_at size words' i) (sym (eqb-true k j e)) ∙ get_or-set_same words (size.places + k) n 0 room

  links_same : (j : ℕ) → AreLinked words' (m.stack j)
  links_same j = linked_beside words (size.places + k) n (m.stack j) (λ q member e. absurd (omega (arith, was.inside j q member, e))) (was.links j)

  -- the new head names p, the first place of a chain. The last place of this chain is linked to the member that the old head named
  module _ (a : ℕ) (p : Place) (r : List Place) (low : (q : Place) → is_in q (p ∷ r) ≡ true → index_of q < size.places) (mine : (q : Place) → is_in q (p ∷ r) ≡ true → m.place q ≡ with_holder a)
      (ready : AreLinkedTo words (p ∷ r) (head_at size words k)) (is : n ≡ link_to (Some p)) where
    abbrev s : List Place
    s = p ∷ r

    push_free : (q : Place) → index_of q < size.places → eqb (word_at words' q) 0 ≡ is_nowhere (cond (is_in q s) (in_stack k) (m.place q))
    push_free q there = ap (λ w. eqb w 0) (place_same q there) ∙ (was.free q there ∙ by_test (λ b. is_in q s ≡ b → is_nowhere (m.place q) ≡ is_nowhere (cond b (in_stack k) (m.place q))) (is_in q s)
        (λ _ e. ap is_nowhere (mine q e)) (λ _ e. refl) refl)

    push_heads : (j : ℕ) → j < size.stacks → head_at size words' j ≡ link_to (first (cond (eqb k j) (s ++ m.stack j) (m.stack j)))
    push_heads j there = by_test (λ b. eqb k j ≡ b → head_at size words' j ≡ link_to (first (cond b (s ++ m.stack j) (m.stack j)))) (eqb k j)
        (λ _ e. head_new j e ∙ is) (λ _ e. head_same j e ∙ was.heads j there) refl

    push_links : (j : ℕ) → AreLinked words' (cond (eqb k j) (s ++ m.stack j) (m.stack j))
    push_links j = by_test (λ b. eqb k j ≡ b → AreLinked words' (cond b (s ++ m.stack j) (m.stack j))) (eqb k j)
        (λ _ e. linked_both words' s (m.stack j) (subst (AreLinkedTo words' s) (was.heads k small ∙ ap (λ i. link_to (first (m.stack i))) (eqb-true k j e))
        (linked_through words words' s (head_at size words k) (λ q member. place_same q (low q member)) ready)) (links_same j)) (λ _ e. links_same j) refl

    push_inside : (j : ℕ) (q : Place) → is_in q (cond (eqb k j) (s ++ m.stack j) (m.stack j)) ≡ true → index_of q < size.places
    push_inside j q = by_test (λ b. is_in q (cond b (s ++ m.stack j) (m.stack j)) ≡ true → index_of q < size.places) (eqb k j)
        (λ _ both. by_test (λ c. is_in q s ≡ c → (c || is_in q (m.stack j)) ≡ true → index_of q < size.places) (is_in q s)
        (λ _ e member. low q e) (λ _ e member. was.inside j q member) refl (sym (in_both q s (m.stack j)) ∙ both))
        (λ _ member. was.inside j q member)

    pub spells_push : Spells size words' (after m a (Push k s))
    spells_push = record { free = push_free; heads = push_heads; links = push_links; inside = push_inside }

  -- the new head is the word of an empty stack, because all members were taken
  module _ (a : ℕ) (sound : IsSound m) (is : n ≡ link_to None) where
    take_free : (q : Place) → index_of q < size.places → eqb (word_at words' q) 0 ≡ is_nowhere (cond (is_in q (m.stack k)) (with_holder a) (m.place q))
    take_free q low = ap (λ w. eqb w 0) (place_same q low) ∙ (was.free q low ∙ by_test (λ b. is_in q (m.stack k) ≡ b → is_nowhere (m.place q) ≡ is_nowhere (cond b (with_holder a) (m.place q))) (is_in q (m.stack k))
        (λ _ e. ap is_nowhere (Rattle.ic_lock_free_stack.proofs.MomentLemmas.in_its_stack m sound a q k e)) (λ _ e. refl) refl)

    take_heads : (j : ℕ) → j < size.stacks → head_at size words' j ≡ link_to (first (cond (eqb k j) [] (m.stack j)))
    take_heads j low = by_test (λ b. eqb k j ≡ b → head_at size words' j ≡ link_to (first (cond b [] (m.stack j)))) (eqb k j)
        (λ _ e. head_new j e ∙ is) (λ _ e. head_same j e ∙ was.heads j low) refl

    take_links : (j : ℕ) → AreLinked words' (cond (eqb k j) [] (m.stack j))
    take_links j = by_test (λ b. AreLinked words' (cond b [] (m.stack j))) (eqb k j) (λ _. tt) (λ _. links_same j)

    take_inside : (j : ℕ) (q : Place) → is_in q (cond (eqb k j) [] (m.stack j)) ≡ true → index_of q < size.places
    take_inside j q = by_test (λ b. is_in q (cond b [] (m.stack j)) ≡ true → index_of q < size.places) (eqb k j) (λ _ e. absurd (true≢false (sym e))) (λ _ e. was.inside j q e)

    pub spells_take : Spells size words' (after m a (TakeAll k (m.stack k)))
    spells_take = record { free = take_free; heads = take_heads; links = take_links; inside = take_inside }

-- WHAT WORDS ARE KNOWN: if the word n of the place p becomes known, the known word of p is n
pub known_mine : (ks : List Known) (p : Place) (n : ℕ) → known_of (knows p n ∷ ks) p ≡ n
known_mine ks p n = rw (same_place p) refl

pub known_other : (ks : List Known) (p q : Place) (n : ℕ) → same q p ≡ false → known_of (knows p n ∷ ks) q ≡ known_of ks q
known_other ks p q n ne = rw ne refl

-- after all members of a stack were taken, their words are known, and the known words of other places are as before
pub known_member : (words : List ℕ) (s : List Place) (ks : List Known) (p : Place) → AreLinked words s → is_in p s ≡ true → known_of (knows_all s ks) p ≡ word_at words p
known_member words [] ks p linked member = absurd (true≢false (sym member))
known_member words (q ∷ s) ks p linked member = by_test (λ b. same p q ≡ b → (b || is_in p s) ≡ true → cond b (link_to (first s)) (known_of (knows_all s ks) p) ≡ word_at words p) (same p q)
    (λ _ e _. sym (ap (word_at words) (one_place p q e) ∙ linked.0)) (λ _ e rest. known_member words s ks p linked.1 rest) refl member

pub known_beside : (s : List Place) (ks : List Known) (p : Place) → is_in p s ≡ false → known_of (knows_all s ks) p ≡ known_of ks p
known_beside [] ks p none = refl
known_beside (q ∷ s) ks p none = by_test (λ b. same p q ≡ b → (b || is_in p s) ≡ false → cond b (link_to (first s)) (known_of (knows_all s ks) p) ≡ known_of ks p) (same p q)
    (λ _ e f. absurd (true≢false f)) (λ _ e rest. known_beside s ks p rest) refl none

pub knowledge_lost : (s : List Place) (ks : List Known) (p : Place) → is_in p s ≡ true → known_of (forgets s ks) p ≡ 0
knowledge_lost [] ks p member = absurd (true≢false (sym member))
knowledge_lost (q ∷ s) ks p member = by_test (λ b. (b || is_in p s) ≡ true → cond b 0 (known_of (forgets s ks) p) ≡ 0) (same p q) (λ _ _. refl) (λ _ rest. knowledge_lost s ks p rest) member

pub knowledge_left : (s : List Place) (ks : List Known) (p : Place) → is_in p s ≡ false → known_of (forgets s ks) p ≡ known_of ks p
knowledge_left [] ks p none = refl
knowledge_left (q ∷ s) ks p none = by_test (λ b. (b || is_in p s) ≡ false → cond b 0 (known_of (forgets s ks) p) ≡ known_of ks p) (same p q)
    (λ _ f. absurd (true≢false f)) (λ _ rest. knowledge_left s ks p rest) none

pub forgets_long : (s : List Place) (ks : List Known) → length (forgets s ks) ≡ length s + length ks
forgets_long [] ks = omega arith
forgets_long (q ∷ s) ks = let r = forgets_long s ks in omega (arith, r)

-- if n is not 0, `link_or s n` is not 0, because a link to a place is never 0
link_or_some : (s : List Place) (n : ℕ) → n ≢ 0 → link_or s n ≢ 0
link_or_some [] n some e = some e
link_or_some (p ∷ s) n some e = let f : link_to (Some p) ≡ 0 = e in absurd (omega (arith, f))

pub each_known : (ks : List Known) (s : List Place) (n : ℕ) (p : Place) → n ≢ 0 → AreKnownTo ks s n → is_in p s ≡ true → known_of ks p ≢ 0
each_known ks [] n p some known member = absurd (true≢false (sym member))
each_known ks (q ∷ s) n p some known member = by_test (λ b. same p q ≡ b → (b || is_in p s) ≡ true → known_of ks p ≢ 0) (same p q)
    (λ _ here _ e. link_or_some s n some (sym known.0 ∙ (ap (known_of ks) (sym (one_place p q here)) ∙ e))) (λ _ _ rest. each_known ks s n p some known.1 rest) refl member

pub known_linked : (words : List ℕ) (ks : List Known) (s : List Place) (n : ℕ) → ((p : Place) → is_in p s ≡ true → word_at words p ≡ known_of ks p) → AreKnownTo ks s n → AreLinkedTo words s n
known_linked words ks [] n through known = tt
known_linked words ks (p ∷ s) n through known = (through p (in_here p s) ∙ known.0, known_linked words ks s n (λ q e. through q (in_rest p q s e)) known.1)

-- two places with the same link are the same place
pub one_named : (p q : Place) → link_to (Some p) ≡ link_to (Some q) → p ≡ q
one_named p q e = same_index p q (omega (arith, e))

-- THE CHAIN IS DETERMINED by its first place and the known words if its last word is a link to a place whose word is not known
module _ (ks : List Known) (n : ℕ) (some : n ≢ 0) (off : (p : Place) → n ≡ link_to (Some p) → known_of ks p ≡ 0) where
  one_rest : (s t : List Place) → AreKnownTo ks s n → AreKnownTo ks t n → link_or s n ≡ link_or t n → s ≡ t
  one_rest [] [] a b e = refl
  one_rest [] (q ∷ t) a b e = absurd (link_or_some t n some (sym b.0 ∙ off q e))
  one_rest (p ∷ s) [] a b e = absurd (link_or_some s n some (sym a.0 ∙ off p (sym e)))
  one_rest (p ∷ s) (q ∷ t) a b e =
      let here : p ≡ q = one_named p q e in
      let rest : s ≡ t = one_rest s t a.1 b.1 (sym a.0 ∙ (ap (known_of ks) here ∙ b.0)) in
      λ i. here i ∷ rest i

  pub one_chain : (p : Place) (r t : List Place) → AreKnownTo ks (p ∷ r) n → AreKnownTo ks t n → link_to (Some p) ≡ link_to (first t) → p ∷ r ≡ t
  one_chain p r [] a b e = let f : link_to (Some p) ≡ link_to None = e in absurd (omega (arith, f))
  one_chain p r (q ∷ t) a b e = one_rest (p ∷ r) (q ∷ t) a b e
