-- How the parser finds which call a line is, or that it is no call.
use Rattle.std.proofs.Common.{true≢false, IsTrue, ◌≡◌, ◌≢◌, ℕ, ◌<◌, Bool, true, false, List, [], ◌∷◌, Option, Some, None, option_and_then, IfNone, nat_eq, nat_lt, ◌&&◌, bytes_eq, refl, sym, ap, ◌∙◌}
use Rattle.std.specs.List.{AllByRecursion, list_any}
use Rattle.std.proofs.lemmas.Bool.{cond-true, cond-false, cond_both, and_parts, or_parts, or_from, eq-eqb, ne_eqb, ltb-true}
use Rattle.std.proofs.lemmas.Slice.Eq.{bytes_eq-Decides}
use Rattle.ic_world.specs.declared.call.Command.{Command}
use Rattle.ic_program.specs.Grammar.{calls, named, command_among, command_in}
use Rattle.ic_program.specs.Slots.{slots, fast_slots, is_fast, with_slot, IsNoCallAt}
use Rattle.ic_program.specs.Text.{begins_with, words_in, after_line, without_last, IsCall, IsNoCall}

abbrev Entry : Type 0
Entry = List ℕ × (List (List ℕ) → Option (Command ℕ ℕ))

-- THE FIRST LINE OF A TEXT IS A CALL if its first word is the name of the call, and the words after it are the arguments
pub is_call : (name : List ℕ) (read : List (List ℕ) → Option (Command ℕ ℕ)) (text : List ℕ) (command : Command ℕ ℕ) (rest : List ℕ)
    → IsCall name read text command rest → named calls (without_last name) ≡ Some read → (command_in (words_in text) ≡ Some command) × (rest ≡ after_line text)
unfolding command_in
is_call name read text command rest is entry = (ap (command_among calls) is.are ∙ ap (λ o. option_and_then (λ r. r is.words) o) entry ∙ is.said, is.after)

-- the words are no command of a list of entries, if they are none of the first entry and none of the other entries
among_one : (entry : Entry) (entries : List Entry) (w : List ℕ) (ws : List (List ℕ))
    → (w ≡ entry.0 → entry.1 ws ≡ None) → command_among entries (w ∷ ws) ≡ None → command_among (entry ∷ entries) (w ∷ ws) ≡ None
among_one entry entries w ws here others =
    cond_both (bytes_eq w entry.0) (Some entry.1) (named entries w) (λ o. option_and_then (λ r. r ws) o ≡ None) (λ same. here ((bytes_eq-Decides w entry.0).0 same)) (λ _. others)

no_call_at : (slot : ℕ) (name : List ℕ) (read : List (List ℕ) → Option (Command ℕ ℕ)) (text : List ℕ)
    → with_slot slot slots calls ≡ (without_last name, read) ∷ [] → IsNoCall name read text → begins_with 32 text ≡ false → IsNoCallAt slot (words_in text)
unfolding IsNoCallAt
no_call_at slot name read text entries none word = ap (λ es. command_among es (words_in text)) entries ∙ at (words_in text) refl
  where
    at : (words : List (List ℕ)) → words_in text ≡ words → command_among ((without_last name, read) ∷ []) words ≡ None
    at [] is = refl
    at (w ∷ ws) is = among_one (without_last name, read) [] w ws (λ same. none word ws (is ∙ ap (λ v. v ∷ ws) same)) refl

neither_call_at : (slot : ℕ) (name second : List ℕ) (read read_second : List (List ℕ) → Option (Command ℕ ℕ)) (text : List ℕ)
    → with_slot slot slots calls ≡ (without_last name, read) ∷ (without_last second, read_second) ∷ []
    → IsNoCall name read text → IsNoCall second read_second text → begins_with 32 text ≡ false → IsNoCallAt slot (words_in text)
unfolding IsNoCallAt
neither_call_at slot name second read read_second text entries none none_second word = ap (λ es. command_among es (words_in text)) entries ∙ at (words_in text) refl
  where
    at : (words : List (List ℕ)) → words_in text ≡ words → command_among ((without_last name, read) ∷ (without_last second, read_second) ∷ []) words ≡ None
    at [] is = refl
    at (w ∷ ws) is =
        among_one (without_last name, read) ((without_last second, read_second) ∷ []) w ws (λ same. none word ws (is ∙ ap (λ v. v ∷ ws) same))
        (among_one (without_last second, read_second) [] w ws (λ same. none_second word ws (is ∙ ap (λ v. v ∷ ws) same)) refl)

-- if a function that reads the call of a slot returns none, the words are no call with this slot
if_none : {A P : Type 0} (r : Option A) → P → IfNone r P
if_none None p = p
if_none (Some x) p = tt

pub no_call : {A : Type 0} (r : Option A) (slot at : ℕ) → slot ≡ at → (name : List ℕ) (read : List (List ℕ) → Option (Command ℕ ℕ)) (text : List ℕ)
    → with_slot at slots calls ≡ (without_last name, read) ∷ [] → IsNoCall name read text → IfNone r (begins_with 32 text ≡ false → IsNoCallAt slot (words_in text))
no_call r slot at is name read text entries none =
    let here : begins_with 32 text ≡ false → IsNoCallAt slot (words_in text) = λ word. no_call_at slot name read text (ap (λ s. with_slot s slots calls) is ∙ entries) none word in
    if_none r here

pub neither_call : {A : Type 0} (r : Option A) (slot at : ℕ) → slot ≡ at → (name second : List ℕ) (read read_second : List (List ℕ) → Option (Command ℕ ℕ)) (text : List ℕ)
    → with_slot at slots calls ≡ (without_last name, read) ∷ (without_last second, read_second) ∷ []
    → IsNoCall name read text → IsNoCall second read_second text → IfNone r (begins_with 32 text ≡ false → IsNoCallAt slot (words_in text))
neither_call r slot at is name second read read_second text entries none none_second =
    let here : begins_with 32 text ≡ false → IsNoCallAt slot (words_in text) =
    λ word. neither_call_at slot name second read read_second text (ap (λ s. with_slot s slots calls) is ∙ entries) none none_second word in
    if_none r here

-- if a function that reads the frequent call of a slot returns none, the words are no call with this slot
if_fast : {A : Type 0} (B C D : Type 0) (r : Option A) → IfNone r (B → D) → IfNone r (B → C → D)
if_fast B C D None at = λ b _. at b
if_fast B C D (Some x) at = tt

pub no_fast_call : {A : Type 0} (r : Option A) (slot at : ℕ) → slot ≡ at → (name : List ℕ) (read : List (List ℕ) → Option (Command ℕ ℕ)) (text : List ℕ)
    → with_slot at slots calls ≡ (without_last name, read) ∷ [] → IsNoCall name read text
    → IfNone r (begins_with 32 text ≡ false → IsTrue (is_fast slot) → IsNoCallAt slot (words_in text))
no_fast_call r slot at is name read text entries none = if_fast (begins_with 32 text ≡ false) (IsTrue (is_fast slot)) (IsNoCallAt slot (words_in text)) r (no_call r slot at is name read text entries none)

pub neither_fast_call : {A : Type 0} (r : Option A) (slot at : ℕ) → slot ≡ at → (name second : List ℕ) (read read_second : List (List ℕ) → Option (Command ℕ ℕ)) (text : List ℕ)
    → with_slot at slots calls ≡ (without_last name, read) ∷ (without_last second, read_second) ∷ []
    → IsNoCall name read text → IsNoCall second read_second text
    → IfNone r (begins_with 32 text ≡ false → IsTrue (is_fast slot) → IsNoCallAt slot (words_in text))
neither_fast_call r slot at is name second read read_second text entries none none_second =
    if_fast (begins_with 32 text ≡ false) (IsTrue (is_fast slot)) (IsNoCallAt slot (words_in text)) r (neither_call r slot at is name second read read_second text entries none none_second)

-- if a slot is not in the list of slots, no call has this slot
none_with : {A : Type 0} (slot : ℕ) (ss : List ℕ) (entries : List A) → AllByRecursion (λ s. slot ≢ s) ss → with_slot slot ss entries ≡ []
none_with slot [] entries others = refl
none_with slot (s ∷ ss) [] others = refl
none_with slot (s ∷ ss) (entry ∷ entries) others = cond-false _ _ _ (ne_eqb slot s others.0) ∙ none_with slot ss entries others.1

pub no_slot : (slot : ℕ) (words : List (List ℕ)) → AllByRecursion (λ s. slot ≢ s) slots → IsNoCallAt slot words
unfolding IsNoCallAt
no_slot slot words others = ap (λ es. command_among es words) (none_with slot slots calls others) ∙ at words
  where
    at : (words : List (List ℕ)) → command_among [] words ≡ None
    at [] = refl
    at (w ∷ ws) = refl

-- a slot is different from each slot of a list exactly if `list_any` does not find it in the list
not_among : (slot : ℕ) (ss : List ℕ) → AllByRecursion (λ s. slot ≢ s) ss → list_any (nat_eq slot) ss ≡ false
not_among slot [] others = refl
not_among slot (s ∷ ss) others = or_from _ _ (ne_eqb slot s others.0) (not_among slot ss others.1)

among_none : (slot : ℕ) (ss : List ℕ) → list_any (nat_eq slot) ss ≡ false → AllByRecursion (λ s. slot ≢ s) ss
among_none slot [] none = tt
among_none slot (s ∷ ss) none =
    let parts = or_parts _ _ none in
    (λ same. true≢false (sym (eq-eqb slot s same) ∙ parts.0), among_none slot ss parts.1)

-- a slot that no frequent call has is not a slot of the frequent calls, so nothing is stated of it
pub not_fast : (slot : ℕ) (text : List ℕ) → AllByRecursion (λ s. slot ≢ s) fast_slots
    → begins_with 32 text ≡ false → IsTrue (is_fast slot) → IsNoCallAt slot (words_in text)
unfolding is_fast
not_fast slot text others _ fast = absurd (true≢false (sym fast ∙ not_among slot fast_slots others))

-- words that are no frequent call with the slot are no call with the slot, if no other call has the slot either
pub no_other : {A : Type 0} (r : Option A) (slot : ℕ) (text : List ℕ)
    → IfNone r (begins_with 32 text ≡ false → IsTrue (is_fast slot) → IsNoCallAt slot (words_in text))
    → (AllByRecursion (λ s. slot ≢ s) fast_slots → AllByRecursion (λ s. slot ≢ s) slots)
    → IfNone r (begins_with 32 text ≡ false → IsNoCallAt slot (words_in text))
unfolding is_fast
no_other (Some x) slot text none others = tt
no_other None slot text none others = λ word. at (is_fast slot) refl (none word)
  where
    at : (b : Bool) → is_fast slot ≡ b → (IsTrue b → IsNoCallAt slot (words_in text)) → IsNoCallAt slot (words_in text)
    at true is call = call refl
    at false is call = no_slot slot (words_in text) (others (among_none slot fast_slots is))

-- WORDS THAT ARE NO CALL OF ANY SLOT ARE NO COMMAND, because each call has a slot
among_here : (e : Entry) (es : List Entry) (w : List ℕ) (ws : List (List ℕ)) → bytes_eq w e.0 ≡ true → command_among (e ∷ es) (w ∷ ws) ≡ e.1 ws
among_here e es w ws same = ap (λ o. option_and_then (λ r. r ws) o) (cond-true _ _ _ same)

among_there : (e : Entry) (es : List Entry) (w : List ℕ) (ws : List (List ℕ)) → bytes_eq w e.0 ≡ false → command_among (e ∷ es) (w ∷ ws) ≡ command_among es (w ∷ ws)
among_there e es w ws other = ap (λ o. option_and_then (λ r. r ws) o) (cond-false _ _ _ other)

abbrev AreSlots : ℕ → List ℕ → List Entry → Type 0
AreSlots n [] [] = Unit {0}
AreSlots n (s ∷ ss) (e ∷ es) = (s < n) × AreSlots n ss es
AreSlots n _ _ = ⊥

-- `are_slots` tests whether `AreSlots` holds, and computes a truth value
abbrev are_slots : ℕ → List ℕ → List Entry → Bool
are_slots n [] [] = true
are_slots n (s ∷ ss) (e ∷ es) = nat_lt s n && are_slots n ss es
are_slots n _ _ = false

slots_are : (n : ℕ) (ss : List ℕ) (es : List Entry) → are_slots n ss es ≡ true → AreSlots n ss es
slots_are n [] [] is = tt
slots_are n (s ∷ ss) (e ∷ es) is = (ltb-true s n (and_parts _ _ is).0, slots_are n ss es (and_parts _ _ is).1)
slots_are n [] (e ∷ es) is = absurd (cc (is))
slots_are n (s ∷ ss) [] is = absurd (cc (is))

by_slots : (n : ℕ) (ss : List ℕ) (es : List Entry) (w : List ℕ) (ws : List (List ℕ)) → AreSlots n ss es
    → ((slot : ℕ) → slot < n → command_among (with_slot slot ss es) (w ∷ ws) ≡ None) → command_among es (w ∷ ws) ≡ None
by_slots n [] [] w ws are none = refl
by_slots n [] (e ∷ es) w ws are none = absurd are
by_slots n (s ∷ ss) [] w ws are none = absurd are
by_slots n (s ∷ ss) (e ∷ es) w ws are none = at (bytes_eq w e.0) refl (by_slots n ss es w ws are.1)
  where
    at : (b : Bool) → bytes_eq w e.0 ≡ b
        → (((slot : ℕ) → slot < n → command_among (with_slot slot ss es) (w ∷ ws) ≡ None) → command_among es (w ∷ ws) ≡ None)
        → command_among (e ∷ es) (w ∷ ws) ≡ None
    at true same _ =
        among_here e es w ws same
        ∙ sym (among_here e (with_slot s ss es) w ws same)
        ∙ ap (λ es. command_among es (w ∷ ws)) (sym (cond-true _ _ _ (eq-eqb s s refl)))
        ∙ none s are.0
    at false other rest =
        among_there e es w ws other
        ∙ rest (λ slot low. cond_both (nat_eq slot s) (e ∷ with_slot slot ss es) (with_slot slot ss es)
        (λ entries. command_among entries (w ∷ ws) ≡ None → command_among (with_slot slot ss es) (w ∷ ws) ≡ None)
        (λ _ is. sym (among_there e (with_slot slot ss es) w ws other) ∙ is) (λ _ is. is) (none slot low))

pub no_command : (words : List (List ℕ)) → ((slot : ℕ) → slot < 64 → IsNoCallAt slot words) → command_in words ≡ None
unfolding command_in IsNoCallAt calls slots
no_command [] none = refl
no_command (w ∷ ws) none = by_slots 64 slots calls w ws (slots_are 64 slots calls refl) none

pub no_words : command_in [] ≡ None
unfolding command_in
no_words = refl
