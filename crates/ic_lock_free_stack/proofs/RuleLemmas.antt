-- Each kind of step keeps the rule of stacks, and its holder knows after the step what the definition for this kind says.
use Rattle.std.proofs.Common.{◌≡◌, ◌≢◌, ℕ, ◌<◌, ◌+◌, eqb, Bool, true, false, true≢false, cond, Option, None, Some, List, [], ◌∷◌, ◌++◌, length, get_or, set, refl, sym, ap, ◌∙◌, subst, arith, eq-eqb, ne_eqb, eqb-true, length-set}
use Rattle.std.proofs.lemmas.List.{get_or-set_same, get_or-set_other, set-get_or}
use mathlib.Core.Logic.{dite}
use mathlib.Core.Option.{none, some}
use native.Mathlib.Decide.{ℕ_discrete}
use lib.ListN.{get_elem?}
use prog.Atomic.{either}
use Rattle.atomic_table.specs.Table.{State, step, Step as TableStep, keeps, Allows}
use Rattle.atomic_table.proofs.Lists.{set_again}
use Rattle.ic_unsafe_ref.specs.declared.place.Place.{Place}
use Rattle.ic_unsafe_ref.specs.Places.{index_of}
use Rattle.ic_unsafe_ref.proofs.PlaceLemmas.{same_index}
use Rattle.ic_lock_free_stack.specs.Prelude.{first, Moment, entry, nowhere, with_holder, is_nowhere, is_with, same, is_in, IsOnce, in_stack, moves, after, Fits, holds, pushes_and_takes, most_steps, link_to, word_at, head_at, Spells, known_of, knows, knows_all, AreKnownTo, forgets, accounts_in, made, noted, sees, heads_in, IsKept, IsOneHistory}
use Rattle.ic_lock_free_stack.specs.declared.step.Step.{Step}
use Rattle.ic_lock_free_stack.specs.declared.step.Entry.{Entry}
use Rattle.ic_lock_free_stack.specs.declared.step.Step.TheVariants.{Claim, Release, Push, TakeAll}
use Rattle.ic_lock_free_stack.specs.declared.held.Size.{Size}
use Rattle.ic_lock_free_stack.specs.declared.held.Known.{Known}
use Rattle.ic_lock_free_stack.specs.declared.held.Account.{Account}
use Rattle.ic_lock_free_stack.specs.declared.held.HeldAccounts.{HeldAccounts}
use Rattle.ic_lock_free_stack.specs.Rule.{Rule, Mine}
use Rattle.ic_lock_free_stack.specs.Plays.{only, OfPlace, OfHead, claimed, released, looked, linked, tried, took_all, peeked, followed, Makes, Misses, Takes, Sees}
use Rattle.ic_lock_free_stack.proofs.MomentLemmas.{holds_more, one_place, same_place, by_test, with_is, with_itself, nowhere_is, off_stacks, off_free, in_its_stack}
use Rattle.ic_lock_free_stack.proofs.WordLemmas.{head_apart, spells_place, place_same, spells_push, spells_take, known_member, known_beside, knowledge_lost, knowledge_left, each_known, known_linked, one_named, one_chain}
use Rattle.ic_lock_free_stack.proofs.HeldLemmas.{IsAmong, among}
use Rattle.ic_lock_free_stack.proofs.HistoryLemmas.{Leaves, few_heads, kept_seen, looks_on, rests, goes_on, steps_on}

-- what a step says of its own place or head is true of every place or head whose word has the same number
module _ (t : TableStep (Unit {0})) (me : Mine) (size : Size) (a : Account) (is : me.0 ≡ only size a) where
  one_size : (z : Size) (b : Account) → me.0 ≡ only z b → size ≡ z
  one_size z b e = ap (λ (v : HeldAccounts). v.size) (sym is ∙ e)

  one_account : (z : Size) (b : Account) → me.0 ≡ only z b → a ≡ b
  one_account z b e = ap (λ (v : HeldAccounts). get_or v.accounts 0 a) (sym is ∙ e)

  pub of_place : (answered : Size → Account → Place → Type 0) (p : Place) → index_of p ≡ t.word → answered size a p → OfPlace t me answered
  of_place answered p on here z b q e f =
      subst (λ y. answered y b q) (one_size z b e) (subst (λ c. answered size c q) (one_account z b e) (subst (answered size a) (same_index p q (on ∙ sym f)) here))

  pub of_head : (answered : Size → Account → ℕ → Type 0) (k : ℕ) → size.places + k ≡ t.word → answered size a k → OfHead t me answered
  of_head answered k on here z b j e f =
      let here' : answered z b k = subst (λ y. answered y b k) (one_size z b e) (subst (λ c. answered size c k) (one_account z b e) here) in
      let same_stack : k ≡ j = (let f' : size.places + j ≡ t.word = ap (λ (y : Size). y.places + j) (one_size z b e) ∙ f in omega (arith, on, f')) in
      subst (answered z b) same_stack here'

link_some : (o : Option Place) → link_to o ≢ 0
link_some o e = absurd (omega (arith, e))

module _ (size : Size) (slots id : ℕ) (a : Account) (me : Mine) (is : me.0 ≡ only size a) where
  module _ (s : State (Unit {0}) HeldAccounts) (was : Rule size s) (at : get_elem? s.views id ≡ some me.0) where
    abbrev accounts : List Account
    accounts = accounts_in s.views

    abbrev here : IsAmong s.views id a
    here = among s.views id me.0 a at (ap (λ (v : HeldAccounts). v.accounts) is)

    abbrev one : IsOneHistory size s.words accounts
    one = was.one

    abbrev m : Moment
    m = was.one.now

    abbrev kept : IsKept size s.words was.one.order m a
    kept = was.one.kept here.place a here.at

    -- the history with one more step of this holder at its end
    abbrev longer : Step → List Entry
    longer e = one.order ++ entry a.name e ∷ []

    -- what the holder knows after a possible step
    makes : (e : Step) (ks : List Known) → Fits m a.name e → Makes size a e ks (only size (made a e (longer e) ks))
    makes e ks fits = record { seen = longer e; goes = goes_on size s.words accounts one here.place a here.at e fits; same = refl }

    -- if a word and this holder's account change and the accounts still have one history, the rule still holds
    ruled : (i n : ℕ) (b : Account) → IsOneHistory size (set s.words i n) (set accounts here.place b)
        → Rule size record { words = set s.words i n; homes = s.homes; views = set s.views id (only size b) }
    ruled i n b next =
        let changed : accounts_in (set s.views id (only size b)) ≡ set accounts here.place b = here.changes (only size b) b refl in record {
          words = length-set s.words i n ∙ was.words;
          holders = ap length changed ∙ (length-set accounts here.place b ∙ was.holders);
          few = was.few;
          one = subst (IsOneHistory size (set s.words i n)) (sym changed) next;
        }

    -- if a word is replaced by its own value, the words stay the same
    same_words : (i : ℕ) → set s.words i (get_or s.words i 0) ≡ s.words
    same_words i = set-get_or s.words i 0

    leaves_all : (name heads : ℕ) → Leaves size s.words s.words m name heads
    leaves_all name heads = record { places = λ q _ _ _. refl; heads_too = λ _ k. refl }

    room_for : (i : ℕ) → i < size.places → i < length s.words
    room_for i inside = omega (arith, inside, was.words)

    room_for_head : (k : ℕ) → k < size.stacks → size.places + k < length s.words
    room_for_head k small = omega (arith, small, was.words)

    -- A STEP ON A PLACE: p is the place whose word the step is on
    module _ (p : Place) (inside : index_of p < size.places) where
      abbrev i : ℕ
      i = index_of p

      abbrev n : ℕ
      n = word_at s.words p

      -- the step of a claim of the place p, which succeeds if the word that was found is 0
      abbrev got : Step
      got = Claim p (eqb n 0)

      abbrev words' : Bool → List ℕ
      words' b = set s.words i (either b 1 n)

      claim_words : (b : Bool) → eqb n 0 ≡ b → (q : Place) → word_at s.words q ≢ 0 → word_at (words' b) q ≡ word_at s.words q
      claim_words true e q full = get_or-set_other s.words i (index_of q) 1 0 (λ f. full (ap (λ j. get_or s.words j 0) f ∙ eqb-true n 0 e))
      claim_words false e q full = ap (λ w. word_at w q) (same_words i)

      claim_heads : (b : Bool) (k : ℕ) → head_at size (words' b) k ≡ head_at size s.words k
      claim_heads b k = get_or-set_other s.words i (size.places + k) (either b 1 n) 0 (head_apart size i k inside)

      claim_spells : (b : Bool) → eqb n 0 ≡ b → Spells size (words' b) (after m a.name (Claim p b))
      claim_spells true e = spells_place size s.words m p 1 (λ q. cond (same q p) (with_holder a.name) (m.place q)) one.spells inside (room_for i inside)
          (λ k. off_free m one.sound a.name p k (sym (one.spells.free p inside) ∙ e)) (λ q ne. rw ne refl) (rw (same_place p) refl)
      claim_spells false e = subst (λ w. Spells size w m) (sym (same_words i)) one.spells

      claim_known : (q : Place) → known_of a.known q ≢ 0 → (index_of q < size.places) × (holds q (a.steps ++ got ∷ []) ≡ true) × (word_at (words' (eqb n 0)) q ≡ known_of a.known q)
      claim_known q full =
          let old = kept.known q full in (
            old.0,
            holds_more q a.steps got ∙ by_test (λ b. cond b true (holds q a.steps) ≡ true) (moves q got) (λ _. refl) (λ _. old.1),
            claim_words (eqb n 0) refl q (λ e. full (sym old.2 ∙ e)) ∙ old.2,
          )

      claim_free : n ≡ 0 → holds p a.steps ≡ false
      claim_free e = sym (kept.held p) ∙ ap (is_with a.name) (nowhere_is (m.place p) (sym (one.spells.free p inside) ∙ eq-eqb n 0 e))

      claim_next : IsOneHistory size (words' (eqb n 0)) (set accounts here.place (made a got (longer got) a.known))
      claim_next = steps_on size s.words accounts one here.place a here.at (words' (eqb n 0)) got a.known (one.spells.free p inside) (claim_spells (eqb n 0) refl)
          (record { places = λ q _ _ full. claim_words (eqb n 0) refl q full; heads_too = λ _ k. claim_heads (eqb n 0) k })
          (let f = kept.few in omega (arith, f)) claim_known

      -- what follows if this holder holds the place p
      module _ (held : holds p a.steps ≡ true) where
        mine_here : m.place p ≡ with_holder a.name
        mine_here = with_is a.name (m.place p) (kept.held p ∙ held)

        -- if the word of the place p changes, the words of all other places stay
        held_words : (w : ℕ) (q : Place) → same q p ≡ false → word_at (set s.words i w) q ≡ word_at s.words q
        held_words w q ne = get_or-set_other s.words i (index_of q) w 0 (λ e. true≢false (sym (eq-eqb (index_of q) i e) ∙ ne))

        held_heads : (w k : ℕ) → head_at size (set s.words i w) k ≡ head_at size s.words k
        held_heads w k = get_or-set_other s.words i (size.places + k) w 0 (head_apart size i k inside)

        other_place : (q : Place) → is_with a.name (m.place q) ≡ false → same q p ≡ false
        other_place q e = by_test (λ b. same q p ≡ b → b ≡ false) (same q p)
            (λ _ f. absurd (true≢false (sym (with_itself a.name (m.place q) (ap (λ r. m.place r) (one_place q p f) ∙ mine_here)) ∙ e))) (λ _ _. refl) refl

        held_leaves : (w heads : ℕ) → Leaves size s.words (set s.words i w) m a.name heads
        held_leaves w heads = record { places = λ q _ e _. held_words w q (other_place q e); heads_too = λ _ k. held_heads w k }

        release_spells : Spells size (set s.words i 0) (after m a.name (Release p))
        release_spells = spells_place size s.words m p 0 (λ q. cond (same q p) nowhere (m.place q)) one.spells inside (room_for i inside)
            (λ k. off_stacks m one.sound a.name p k mine_here) (λ q ne. rw ne refl) (rw (same_place p) refl)

        release_known : (q : Place) → known_of (knows p 0 ∷ a.known) q ≢ 0
            → (index_of q < size.places) × (holds q (a.steps ++ Release p ∷ []) ≡ true) × (word_at (set s.words i 0) q ≡ known_of (knows p 0 ∷ a.known) q)
        release_known q = by_test (λ b. same q p ≡ b → cond b 0 (known_of a.known q) ≢ 0 → (index_of q < size.places) × (holds q (a.steps ++ Release p ∷ []) ≡ true) × (word_at (set s.words i 0) q ≡ cond b 0 (known_of a.known q))) (same q p)
            (λ _ e full. absurd (full refl))
            (λ _ e full. let old = kept.known q full in (old.0, holds_more q a.steps (Release p) ∙ rw e old.1, held_words 0 q e ∙ old.2)) refl

        release_next : IsOneHistory size (set s.words i 0) (set accounts here.place (made a (Release p) (longer (Release p)) (knows p 0 ∷ a.known)))
        release_next = steps_on size s.words accounts one here.place a here.at (set s.words i 0) (Release p) (knows p 0 ∷ a.known) mine_here release_spells (held_leaves 0 0)
            (let f = kept.few in omega (arith, f)) release_known

        module _ (w : ℕ) (full : w ≢ 0) where
          abbrev ready : Account
          ready = noted a (knows p w ∷ a.known) a.stack a.saw a.looked

          link_spells : Spells size (set s.words i w) m
          link_spells = spells_place size s.words m p w m.place one.spells inside (room_for i inside)
              (λ k. off_stacks m one.sound a.name p k mine_here) (λ q ne. refl) (ne_eqb w 0 full ∙ ap is_nowhere (sym mine_here))

          link_known : (q : Place) → known_of (knows p w ∷ a.known) q ≢ 0
              → (index_of q < size.places) × (holds q a.steps ≡ true) × (word_at (set s.words i w) q ≡ known_of (knows p w ∷ a.known) q)
          link_known q = by_test (λ b. same q p ≡ b → cond b w (known_of a.known q) ≢ 0 → (index_of q < size.places) × (holds q a.steps ≡ true) × (word_at (set s.words i w) q ≡ cond b w (known_of a.known q))) (same q p)
              (λ _ e _. subst (λ r. (index_of r < size.places) × (holds r a.steps ≡ true) × (word_at (set s.words i w) r ≡ w)) (sym (one_place q p e)) (inside, held, get_or-set_same s.words i w 0 (room_for i inside)))
              (λ _ e known. let old = kept.known q known in (old.0, old.1, held_words w q e ∙ old.2)) refl

          link_next : IsOneHistory size (set s.words i w) (set accounts here.place ready)
          link_next = rests size s.words accounts one here.place a here.at (set s.words i w) ready refl refl link_spells (held_leaves w 0)
              (record { own = kept.own; own_seen = kept.own_seen; begun = kept.begun; held = kept.held; known = link_known; few = kept.few; earlier = kept.earlier; seen = λ e. held_heads w a.stack ∙ kept.seen e })

    -- A STEP ON A HEAD: k is the stack whose head the step is on
    module _ (k : ℕ) (small : k < size.stacks) where
      abbrev j : ℕ
      j = size.places + k

      abbrev h : ℕ
      h = head_at size s.words k

      head_some : h ≢ 0
      head_some e = link_some (first (m.stack k)) (sym (one.spells.heads k small) ∙ e)

      abbrev seen_now : Account
      seen_now = noted a a.known k h (heads_in one.order)

      look_next : IsOneHistory size (set s.words j h) (set accounts here.place seen_now)
      look_next = subst (λ w. IsOneHistory size w (set accounts here.place seen_now)) (sym (same_words j))
          (rests size s.words accounts one here.place a here.at s.words seen_now refl refl one.spells (leaves_all a.name 0)
          (record { own = kept.own; own_seen = kept.own_seen; begun = kept.begun; held = kept.held; known = kept.known; few = kept.few; earlier = omega arith; seen = λ _. refl }))

      peek_next : IsOneHistory size (set s.words j h) (set accounts here.place (sees one.order a))
      peek_next = subst (λ w. IsOneHistory size w (set accounts here.place (sees one.order a))) (sym (same_words j))
          (rests size s.words accounts one here.place a here.at s.words (sees one.order a) refl refl one.spells (leaves_all a.name 0) (kept_seen size s.words one.order m a kept))

      peek_told : Sees size a k h (only size (sees one.order a))
      peek_told = record {
        order = one.order;
        goes = looks_on size s.words accounts one here.place a here.at;
        head = one.spells.heads k small ∙ ap (λ (x : Moment). link_to (first (x.stack k))) (sym one.now_is);
        same = refl;
      }

      later : a.stack ≡ k → a.saw ≢ h → a.looked < heads_in one.order
      later on ne =
          let f = kept.earlier in
          let g : a.looked ≢ heads_in one.order = λ e. ne (sym (kept.seen e) ∙ ap (head_at size s.words) on) in
          omega (arith, f, g)

      bounded : heads_in one.order < 18446744073709551615
      bounded = few_heads size s.words accounts one (let e = was.holders in let f = was.few in omega (arith, e, f))

      beside : (w : ℕ) (q : Place) → index_of q < size.places → word_at (set s.words j w) q ≡ word_at s.words q
      beside w = place_same size s.words m one.spells k w small (room_for_head k small)

      head_leaves : (w : ℕ) → Leaves size s.words (set s.words j w) m a.name 1
      head_leaves w = record { places = λ q low _ _. beside w q low; heads_too = λ e. absurd (omega (arith, e)) }

      module _ (few : pushes_and_takes a.steps < most_steps) where
        -- the push of a chain whose last place is linked to the first member that the head names
        module _ (p : Place) (r : List Place) (w : ℕ) (is_p : w ≡ link_to (Some p)) (once : IsOnce (p ∷ r)) (ready : AreKnownTo a.known (p ∷ r) h) where
          abbrev chain : List Place
          chain = p ∷ r

          known_here : (q : Place) → is_in q chain ≡ true → (index_of q < size.places) × (holds q a.steps ≡ true) × (word_at s.words q ≡ known_of a.known q)
          known_here q member = kept.known q (each_known a.known chain h q head_some ready member)

          mine_there : (q : Place) → is_in q chain ≡ true → m.place q ≡ with_holder a.name
          mine_there q member = with_is a.name (m.place q) (kept.held q ∙ (known_here q member).1)

          push_known : (q : Place) → known_of (forgets chain a.known) q ≢ 0
              → (index_of q < size.places) × (holds q (a.steps ++ Push k chain ∷ []) ≡ true) × (word_at (set s.words j w) q ≡ known_of (forgets chain a.known) q)
          push_known q full = by_test (λ b. is_in q chain ≡ b → (index_of q < size.places) × (holds q (a.steps ++ Push k chain ∷ []) ≡ true) × (word_at (set s.words j w) q ≡ known_of (forgets chain a.known) q)) (is_in q chain)
              (λ _ e. absurd (full (knowledge_lost chain a.known q e)))
              (λ _ e. let f = knowledge_left chain a.known q e in let old = kept.known q (λ g. full (f ∙ g)) in (old.0, holds_more q a.steps (Push k chain) ∙ rw e old.1, beside w q old.0 ∙ (old.2 ∙ sym f))) refl

          push_next : IsOneHistory size (set s.words j w) (set accounts here.place (made a (Push k chain) (longer (Push k chain)) (forgets chain a.known)))
          push_next = steps_on size s.words accounts one here.place a here.at (set s.words j w) (Push k chain) (forgets chain a.known) (once, mine_there)
              (spells_push size s.words m one.spells k w small (room_for_head k small) a.name p r (λ q e. (known_here q e).0) mine_there
              (known_linked s.words a.known chain h (λ q e. (known_here q e).2) ready) is_p)
              (head_leaves w) (omega (arith, few)) push_known

          -- the holder knows no word of the first member of the stack, because it does not hold this member
          head_off : (q : Place) → h ≡ link_to (Some q) → known_of a.known q ≡ 0
          head_off q e = dite (ℕ_discrete (known_of a.known q) 0) (λ none. none)
              (λ full. absurd (true≢false (sym ((kept.known q full).1) ∙ held_off (m.stack k) (one.spells.heads k small) (λ x f. in_its_stack m one.sound a.name x k f) q e)))
            where
              held_off : (t : List Place) → h ≡ link_to (first t) → ((x : Place) → is_in x t ≡ true → m.place x ≡ in_stack k) → (x : Place) → h ≡ link_to (Some x) → holds x a.steps ≡ false
              held_off [] is there x f = let none_first : h ≡ link_to None = is in absurd (omega (arith, none_first, f))
              held_off (y ∷ t) is there x f =
                  let same_one : x ≡ y = one_named x y (sym f ∙ is) in
                  sym (kept.held x) ∙ ap (is_with a.name) (there x (rw (ap (same x) (sym same_one) ∙ same_place x) refl))

          pub the_chain : (t : List Place) → AreKnownTo a.known t h → w ≡ link_to (first t) → chain ≡ t
          the_chain t known e = one_chain a.known h head_some head_off p r t ready known (sym is_p ∙ e)

        -- the members of the stack k, all of which a call takes
        abbrev all : List Place
        all = m.stack k

        take_inside : (q : Place) → is_in q all ≡ true → index_of q < size.places
        take_inside q member = one.spells.inside k q member

        take_free : (q : Place) → is_in q all ≡ true → holds q a.steps ≡ false
        take_free q member = sym (kept.held q) ∙ ap (is_with a.name) (in_its_stack m one.sound a.name q k member)

        take_known : (q : Place) → known_of (knows_all all a.known) q ≢ 0
            → (index_of q < size.places) × (holds q (a.steps ++ TakeAll k all ∷ []) ≡ true) × (word_at (set s.words j 1) q ≡ known_of (knows_all all a.known) q)
        take_known q full = by_test (λ b. is_in q all ≡ b → (index_of q < size.places) × (holds q (a.steps ++ TakeAll k all ∷ []) ≡ true) × (word_at (set s.words j 1) q ≡ known_of (knows_all all a.known) q)) (is_in q all)
            (λ _ e. (take_inside q e, holds_more q a.steps (TakeAll k all) ∙ rw e refl, beside 1 q (take_inside q e) ∙ sym (known_member s.words all a.known q (one.spells.links k) e)))
            (λ _ e. let f = known_beside all a.known q e in let old = kept.known q (λ g. full (f ∙ g)) in (old.0, holds_more q a.steps (TakeAll k all) ∙ rw e old.1, beside 1 q old.0 ∙ (old.2 ∙ sym f))) refl

        take_next : IsOneHistory size (set s.words j 1) (set accounts here.place (made a (TakeAll k all) (longer (TakeAll k all)) (knows_all all a.known)))
        take_next = steps_on size s.words accounts one here.place a here.at (set s.words j 1) (TakeAll k all) (knows_all all a.known) refl
            (spells_take size s.words m one.spells k 1 small (room_for_head k small) a.name one.sound refl)
            (head_leaves 1) (omega (arith, few)) take_known

-- what a compare-exchange of a head changes, if it finds the word n and leaves the word n'
record Tries (size : Size) (a : Account) (k new : ℕ) (s : State (Unit {0}) HeldAccounts) (id n n' : ℕ) : Type 0 where
  after : HeldAccounts
  ruled : Rule size record { words = set s.words (size.places + k) n'; homes = s.homes; views = set s.views id after }
  hits : n ≡ a.saw → (t : List Place) → new ≡ link_to (first t) → IsOnce t → AreKnownTo a.known t a.saw → Makes size a (Push k t) (forgets t a.known) after
  misses : n ≢ a.saw → Misses size a k n after

-- EACH KIND OF STEP KEEPS THE RULE, if it is made on the word of p or on the head of k. Its holder then knows what the definition for the kind says
module _ (size : Size) (slots id : ℕ) (a : Account) (me : Mine) (is : me.0 ≡ only size a) where
  module _ (p : Place) (inside : index_of p < size.places) where
    claims_at : Allows (Rule size) slots id me (index_of p) (λ n. either (eqb n 0) 1 n) (claimed (step slots (index_of p) 0 1 none) me)
    claims_at s was homes at small =
        let n : ℕ = word_at s.words p in
        let b : Account = made a (Claim p (eqb n 0)) (longer size slots id a me is s was at (Claim p (eqb n 0))) a.known in (
          only size b,
          keeps,
          tt,
          ruled size slots id a me is s was at (index_of p) (either (eqb n 0) 1 n) b (claim_next size slots id a me is s was at p inside),
          of_place (step slots (index_of p) 0 1 none) me size a is (λ z c q. Makes z c (Claim q (eqb n 0)) c.known (only size b) × (n ≡ 0 → holds q c.steps ≡ false)) p refl
              (makes size slots id a me is s was at (Claim p (eqb n 0)) a.known (was.one.spells.free p inside), claim_free size slots id a me is s was at p inside),
        )

    releases_at : holds p a.steps ≡ true → Allows (Rule size) slots id me (index_of p) (λ _. 0) (λ _. released (step slots (index_of p) 0 0 none) me 0)
    releases_at held s was homes at small =
        let b : Account = made a (Release p) (longer size slots id a me is s was at (Release p)) (knows p 0 ∷ a.known) in (
          only size b,
          keeps,
          tt,
          ruled size slots id a me is s was at (index_of p) 0 b (release_next size slots id a me is s was at p inside held),
          of_place (step slots (index_of p) 0 0 none) me size a is (λ z c q. Makes z c (Release q) (knows q 0 ∷ c.known) (only size b)) p refl
              (makes size slots id a me is s was at (Release p) (knows p 0 ∷ a.known) (mine_here size slots id a me is s was at p inside held)),
        )

    links_at : (w : ℕ) → holds p a.steps ≡ true → w ≢ 0 → Allows (Rule size) slots id me (index_of p) (λ _. w) (λ _. linked (step slots (index_of p) w 0 none) me w)
    links_at w held full s was homes at small =
        let b : Account = noted a (knows p w ∷ a.known) a.stack a.saw a.looked in (
          only size b,
          keeps,
          tt,
          ruled size slots id a me is s was at (index_of p) w b (link_next size slots id a me is s was at p inside held w full),
          of_place (step slots (index_of p) w 0 none) me size a is (λ z c q. only size b ≡ only z (noted c (knows q w ∷ c.known) c.stack c.saw c.looked)) p refl refl,
        )

    follows_at : known_of a.known p ≢ 0 → Allows (Rule size) slots id me (index_of p) (λ n. n) (followed (step slots (index_of p) 0 0 none) me)
    follows_at full s was homes at small =
        let n : ℕ = word_at s.words p in
        let words : set s.words (index_of p) n ≡ s.words = set-get_or s.words (index_of p) 0 in
        let views : set s.views id me.0 ≡ s.views = set_again s.views id me.0 at in (
          me.0,
          keeps,
          tt,
          subst (λ w. Rule size record { words = w; homes = s.homes; views = set s.views id me.0 }) (sym words) (subst (λ v. Rule size record { words = s.words; homes = s.homes; views = v }) (sym views) was),
          of_place (step slots (index_of p) 0 0 none) me size a is (λ z c q. known_of c.known q ≢ 0 → ((me.0, me.1) ≡ me) × (n ≡ known_of c.known q)) p refl
              (λ known. (refl, ((kept size slots id a me is s was at).known p known).2)),
        )

  module _ (k : ℕ) (small_k : k < size.stacks) where
    looks_at : Allows (Rule size) slots id me (size.places + k) (λ n. n) (looked (step slots (size.places + k) 0 0 none) me)
    looks_at s was homes at small =
        let n : ℕ = head_at size s.words k in
        let c : ℕ = heads_in was.one.order in
        let b : Account = noted a a.known k n c in (
          only size b,
          keeps,
          tt,
          ruled size slots id a me is s was at (size.places + k) n b (look_next size slots id a me is s was at k small_k),
          of_head (step slots (size.places + k) 0 0 none) me size a is (λ z d j. (n ≢ 0) × ((c' : ℕ) × (c' < 18446744073709551615) × (only size b ≡ only z (noted d d.known j n c')))) k refl
              (head_some size slots id a me is s was at k small_k, (c, bounded size slots id a me is s was at k small_k, refl)),
        )

    peeks_at : Allows (Rule size) slots id me (size.places + k) (λ n. n) (peeked (step slots (size.places + k) 0 0 none) me)
    peeks_at s was homes at small =
        let n : ℕ = head_at size s.words k in
        let b : Account = sees was.one.order a in (
          only size b,
          keeps,
          tt,
          ruled size slots id a me is s was at (size.places + k) n b (peek_next size slots id a me is s was at k small_k),
          of_head (step slots (size.places + k) 0 0 none) me size a is (λ z c j. Sees z c j n (only size b)) k refl (peek_told size slots id a me is s was at k small_k),
        )

    module _ (few : pushes_and_takes a.steps < most_steps) where
      takes_at : Allows (Rule size) slots id me (size.places + k) (λ _. 1) (took_all (step slots (size.places + k) 1 0 none) me)
      takes_at s was homes at small =
          let n : ℕ = head_at size s.words k in
          let all : List Place = was.one.now.stack k in
          let b : Account = made a (TakeAll k all) (longer size slots id a me is s was at (TakeAll k all)) (knows_all all a.known) in (
            only size b,
            keeps,
            tt,
            ruled size slots id a me is s was at (size.places + k) 1 b (take_next size slots id a me is s was at k small_k few),
            of_head (step slots (size.places + k) 1 0 none) me size a is (λ z c j. Takes z c j n (only size b)) k refl (record {
              members = all;
              first_is = was.one.spells.heads k small_k;
              once = was.one.sound.once k;
              inside = take_inside size slots id a me is s was at k small_k few;
              free = take_free size slots id a me is s was at k small_k few;
              made = makes size slots id a me is s was at (TakeAll k all) (knows_all all a.known) refl;
            }),
          )

      module _ (p : Place) (r : List Place) (new : ℕ) (is_p : new ≡ link_to (Some p)) (once : IsOnce (p ∷ r)) (ready : AreKnownTo a.known (p ∷ r) a.saw) (on : a.stack ≡ k) where
        -- what a compare-exchange of a head changes is right if it finds the head that was seen, and also if it finds another head
        try_one : (s : State (Unit {0}) HeldAccounts) (was : Rule size s) (at : get_elem? s.views id ≡ some me.0) (b : Bool) → eqb (head_at size s.words k) a.saw ≡ b
            → Tries size a k new s id (head_at size s.words k) (either b new (head_at size s.words k))
        try_one s was at true e =
            let hit : head_at size s.words k ≡ a.saw = eqb-true (head_at size s.words k) a.saw e in
            let ready' : AreKnownTo a.known (p ∷ r) (head_at size s.words k) = subst (AreKnownTo a.known (p ∷ r)) (sym hit) ready in
            let all : List Place = p ∷ r in
            let b : Account = made a (Push k all) (longer size slots id a me is s was at (Push k all)) (forgets all a.known) in record {
              after = only size b;
              ruled = ruled size slots id a me is s was at (size.places + k) new b (push_next size slots id a me is s was at k small_k few p r new is_p once ready');
              hits = λ _ t first_t _ known. subst (λ l. Makes size a (Push k l) (forgets l a.known) (only size b))
                  (the_chain size slots id a me is s was at k small_k few p r new is_p once ready' t (subst (AreKnownTo a.known t) (sym hit) known) first_t)
                  (makes size slots id a me is s was at (Push k all) (forgets all a.known) (once, mine_there size slots id a me is s was at k small_k few p r new is_p once ready'));
              misses = λ ne. absurd (ne hit);
            }
        try_one s was at false e =
            let n : ℕ = head_at size s.words k in
            let miss : n ≢ a.saw = λ f. true≢false (sym (eq-eqb n a.saw f) ∙ e) in
            let b : Account = noted a a.known k n (heads_in was.one.order) in record {
              after = only size b;
              ruled = ruled size slots id a me is s was at (size.places + k) n b (look_next size slots id a me is s was at k small_k);
              hits = λ f. absurd (miss f);
              misses = λ _. record {
                count = heads_in was.one.order;
                some = head_some size slots id a me is s was at k small_k;
                later = later size slots id a me is s was at k small_k on (λ f. miss (sym f));
                few = bounded size slots id a me is s was at k small_k;
                same = refl;
              };
            }

        tries_at : Allows (Rule size) slots id me (size.places + k) (λ n. either (eqb n a.saw) new n) (tried (step slots (size.places + k) a.saw new none) me)
        tries_at s was homes at small =
            let n : ℕ = head_at size s.words k in
            let out = try_one s was at (eqb n a.saw) refl in (
              out.after,
              keeps,
              tt,
              out.ruled,
              of_head (step slots (size.places + k) a.saw new none) me size a is
                  (λ z d j. (n ≡ a.saw → (t : List Place) → new ≡ link_to (first t) → IsOnce t → AreKnownTo d.known t a.saw → Makes z d (Push j t) (forgets t d.known) out.after) × (n ≢ a.saw → Misses z d j n out.after)) k refl
                  (out.hits, out.misses),
            )

-- a step on the word with the number i keeps the rule if i is the index of the place p
module _ (size : Size) (slots id : ℕ) (a : Account) (me : Mine) (is : me.0 ≡ only size a) (p : Place) (inside : index_of p < size.places) (i : ℕ) (on : i ≡ index_of p) where
  pub claims : Allows (Rule size) slots id me i (λ n. either (eqb n 0) 1 n) (claimed (step slots i 0 1 none) me)
  claims = subst (λ j. Allows (Rule size) slots id me j (λ n. either (eqb n 0) 1 n) (claimed (step slots j 0 1 none) me)) (sym on) (claims_at size slots id a me is p inside)

  pub releases : holds p a.steps ≡ true → Allows (Rule size) slots id me i (λ _. 0) (λ _. released (step slots i 0 0 none) me 0)
  releases held = subst (λ j. Allows (Rule size) slots id me j (λ _. 0) (λ _. released (step slots j 0 0 none) me 0)) (sym on) (releases_at size slots id a me is p inside held)

  pub links : (w : ℕ) → holds p a.steps ≡ true → w ≢ 0 → Allows (Rule size) slots id me i (λ _. w) (λ _. linked (step slots i w 0 none) me w)
  links w held full = subst (λ j. Allows (Rule size) slots id me j (λ _. w) (λ _. linked (step slots j w 0 none) me w)) (sym on) (links_at size slots id a me is p inside w held full)

  pub follows : known_of a.known p ≢ 0 → Allows (Rule size) slots id me i (λ n. n) (followed (step slots i 0 0 none) me)
  follows full = subst (λ j. Allows (Rule size) slots id me j (λ n. n) (followed (step slots j 0 0 none) me)) (sym on) (follows_at size slots id a me is p inside full)

-- a step on the word with the number i keeps the rule if i is the number of the head of the stack k
module _ (size : Size) (slots id : ℕ) (a : Account) (me : Mine) (is : me.0 ≡ only size a) (k : ℕ) (small : k < size.stacks) (i : ℕ) (on : i ≡ size.places + k) where
  pub looks : Allows (Rule size) slots id me i (λ n. n) (looked (step slots i 0 0 none) me)
  looks = subst (λ j. Allows (Rule size) slots id me j (λ n. n) (looked (step slots j 0 0 none) me)) (sym on) (looks_at size slots id a me is k small)

  pub peeks : Allows (Rule size) slots id me i (λ n. n) (peeked (step slots i 0 0 none) me)
  peeks = subst (λ j. Allows (Rule size) slots id me j (λ n. n) (peeked (step slots j 0 0 none) me)) (sym on) (peeks_at size slots id a me is k small)

  pub takes : pushes_and_takes a.steps < most_steps → Allows (Rule size) slots id me i (λ _. 1) (took_all (step slots i 1 0 none) me)
  takes few = subst (λ j. Allows (Rule size) slots id me j (λ _. 1) (took_all (step slots j 1 0 none) me)) (sym on) (takes_at size slots id a me is k small few)

  pub tries : pushes_and_takes a.steps < most_steps → (p : Place) (r : List Place) (old new : ℕ) → new ≡ link_to (Some p) → IsOnce (p ∷ r) → AreKnownTo a.known (p ∷ r) old → a.saw ≡ old → a.stack ≡ k
      → Allows (Rule size) slots id me i (λ n. either (eqb n old) new n) (tried (step slots i old new none) me)
  tries few p r old new is_p once ready saw at = subst (λ j. Allows (Rule size) slots id me j (λ n. either (eqb n old) new n) (tried (step slots j old new none) me)) (sym on)
      (subst (λ o. Allows (Rule size) slots id me (size.places + k) (λ n. either (eqb n o) new n) (tried (step slots (size.places + k) o new none) me)) saw
      (tries_at size slots id a me is k small few p r new is_p once (subst (AreKnownTo a.known (p ∷ r)) (sym saw) ready) at))
