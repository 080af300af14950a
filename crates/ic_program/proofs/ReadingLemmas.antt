-- How a text is read word by word.
use Rattle.std.proofs.Common.{◌≡◌, ◌≢◌, ℕ, ◌^◌, ◌<◌, ◌≤◌, true, false, List, [], ◌∷◌, ◌++◌, inl, inr, length, take, drop, Option, Some, None, option_map, option_and_then, IsTrue, refl, sym, ap, ap₂, ◌∙◌, arith, ◌==◌, take-append-drop}
use Rattle.std.proofs.lemmas.Option.{some_pair_parts}
use Rattle.std.proofs.lemmas.Bool.{or_cases, and_parts, eqb-true, ltb-true, ne_eqb}
use Rattle.std.proofs.lemmas.List.Folds.{length-prefix_len}
use Rattle.std.proofs.lemmas.Str.Parse.{digits_value_short, numerals_by_value, tells_digits}
use Rattle.std.specs.Char.{digit_value, is_ascii_digit}
use Rattle.std.specs.List.{prefix_len}
use Rattle.std.specs.Str.Parse.{AllDigits, digits_value}
use Rattle.ic_program.specs.Number.{IsLeading, leading_digits}
use Rattle.ic_program.proofs.Digits.{all_leading}
use Rattle.ic_program.proofs.WordLemmas.{number_is}
use Rattle.ic_program.specs.Grammar.{number_in}
use Rattle.ic_program.specs.Text.{words_in, after_line, ends_word, word_in, before_words, ReadsWord, first_says, Reads, BeginsWithNumber, is_name, without_last, ReadsName, IsNoName}
use Rattle.ic_program.proofs.TextLemmas.{after_word, after_end, after_more, after_stops, word_end, word_more, words_are, words_end, word_or_end, after_line_word, word_then_after}

-- if `says` reads x from the first word of a list of words, the list has a first word
pub first_parts : {A : Type 0} (says : List ℕ → Option A) (words : List (List ℕ)) (x : A) (others : List (List ℕ)) → first_says says words ≡ Some (x, others)
    → (word : List ℕ) × (words ≡ word ∷ others) × (says word ≡ Some x)
first_parts says [] x others is = absurd (cc (is))
first_parts {A} says (w ∷ ws) x others is = at (says w) refl is
  where
    pair : A → A × List (List ℕ)
    pair y = (y, ws)

    at : (o : Option A) → says w ≡ o → option_map (λ y. pair y) o ≡ Some (x, others) → (word : List ℕ) × (w ∷ ws ≡ word ∷ others) × (says word ≡ Some x)
    at None none is = absurd (cc (is))
    at (Some y) some is = let e : (y ≡ x) × (ws ≡ others) = some_pair_parts y x ws others is in (w, ap (λ vs. w ∷ vs) e.1, some ∙ ap (λ z. Some z) e.0)

pub first_is : {A : Type 0} (says : List ℕ → Option A) (word : List ℕ) (others : List (List ℕ)) (x : A) → says word ≡ Some x → first_says says (word ∷ others) ≡ Some (x, others)
first_is {A} says word others x is = let pair : A → A × List (List ℕ) = λ y. (y, others) in ap (option_map pair) is

pub first_none : {A : Type 0} (says : List ℕ → Option A) (word : List ℕ) (others : List (List ℕ)) → says word ≡ None → first_says says (word ∷ others) ≡ None
first_none {A} says word others is = let pair : A → A × List (List ℕ) = λ y. (y, others) in ap (option_map pair) is

pub no_first : {A : Type 0} (says : List ℕ → Option A) (word : List ℕ) (others : List (List ℕ)) → first_says says (word ∷ others) ≡ None → says word ≡ None
no_first {A} says word others is = at (says word) refl is
  where
    pair : A → A × List (List ℕ)
    pair y = (y, others)

    at : (o : Option A) → says word ≡ o → option_map (λ y. pair y) o ≡ None → says word ≡ None
    at None none _ = none
    at (Some y) _ is = absurd (cc (is))

-- `word` was read from a text. If `says` reads x from `word`, it reads x from the first word of the text. If it cannot read `word`, it cannot read
-- the first word of the text
pub word_says : {A : Type 0} (says : List ℕ → Option A) (text word rest : List ℕ) (x : A) → ReadsWord text word rest → says [] ≡ None → says word ≡ Some x → Reads says text x rest
word_says says text [] rest x reads none is = absurd (cc (none, is))
word_says says text (c ∷ cs) rest x reads none is = record { first = ap (first_says says) reads.words ∙ first_is says (c ∷ cs) (words_in rest) x is; after = reads.after }

pub word_says_not : {A : Type 0} (says : List ℕ → Option A) (text word rest : List ℕ) → ReadsWord text word rest → says word ≡ None → first_says says (words_in text) ≡ None
word_says_not says text [] rest reads is = ap (first_says says) (reads.none refl)
word_says_not says text (c ∷ cs) rest reads is = ap (first_says says) reads.words ∙ first_none says (c ∷ cs) (words_in rest) is

-- the number that was read from `word` is the number of the first word of the text. `number_begins` is about a call that returns only the number, and
-- `number_after` is about a call that returns the text after the word, too
pub number_begins : (text word rest : List ℕ) (result : Option ℕ) → ReadsWord text word rest → result ≡ number_in word → BeginsWithNumber text result
number_begins text word rest None reads is = word_says_not number_in text word rest reads (sym is)
number_begins text word rest (Some n) reads is = (words_in rest, (word_says number_in text word rest n reads refl (sym is)).first)

pub number_after : (text rest : List ℕ) (n : ℕ) (begins : (words : List (List ℕ)) × (first_says number_in (words_in text) ≡ Some (n, words))) (reads : (word : List ℕ) × ReadsWord text word rest)
    → Reads number_in text n rest
number_after text rest n begins reads = at reads.0 reads.1
  where
    at : (word : List ℕ) → ReadsWord text word rest → Reads number_in text n rest
    at [] r = absurd (cc (begins.1, ap (first_says number_in) (r.none refl)))
    at (c ∷ cs) r =
        let p = first_parts number_in (words_in text) n begins.0 begins.1 in
        let same : c ∷ cs ≡ p.0 = cc (r.words, p.1) in
        word_says number_in text (c ∷ cs) rest n r refl (ap number_in same ∙ p.2)

-- the function f turns what `says` has read into another argument, or fails
module _ {A B : Type 0} (says : List ℕ → Option A) (f : A → Option B) where
  abbrev then_says : List ℕ → Option B
  then_says word = option_and_then f (says word)

  pub then_reads : (text rest : List ℕ) (x : A) (y : B) → Reads says text x rest → f x ≡ Some y → Reads then_says text y rest
  then_reads text rest x y reads is =
      let p = first_parts says (words_in text) x (words_in rest) reads.first in
      record { first = ap (first_says then_says) p.1 ∙ first_is then_says p.0 (words_in rest) y (ap (option_and_then f) p.2 ∙ is); after = reads.after }

  pub then_not : (text rest : List ℕ) (x : A) → Reads says text x rest → f x ≡ None → first_says then_says (words_in text) ≡ None
  then_not text rest x reads is =
      let p = first_parts says (words_in text) x (words_in rest) reads.first in
      ap (first_says then_says) p.1 ∙ first_none then_says p.0 (words_in rest) (ap (option_and_then f) p.2 ∙ is)

  pub none_then : (words : List (List ℕ)) → first_says says words ≡ None → first_says then_says words ≡ None
  none_then [] is = refl
  none_then (w ∷ ws) is = first_none then_says w ws (ap (option_and_then f) (no_first says w ws is))

letter_more : (c : ℕ) (text : List ℕ) → 32 < c → ends_word (c ∷ text) ≡ false
letter_more c text above =
    let e10 : (c == 10) ≡ false = ne_eqb c 10 (λ e. omega (arith, e)) in
    let e13 : (c == 13) ≡ false = ne_eqb c 13 (λ e. omega (arith, e)) in
    let e32 : (c == 32) ≡ false = ne_eqb c 32 (λ e. omega (arith, e)) in
    rw (e10, e13, e32) refl

-- A NUMBER OF A FEW DIGITS at the beginning of a text is its first word
digits_word : (ds rest : List ℕ) → AllDigits 10 ds → ends_word rest ≡ true → (word_in (ds ++ rest) ≡ ds) × (after_word (ds ++ rest) ≡ rest)
digits_word [] rest all stops = (word_end rest stops, after_end rest stops)
digits_word (d ∷ ds) rest all stops =
    let goes : ends_word (d ∷ (ds ++ rest)) ≡ false = letter_more d (ds ++ rest) (above d all.0) in
    let others = digits_word ds rest all.1 stops in
    (word_more d (ds ++ rest) goes ∙ ap (λ w. d ∷ w) others.0, after_more d (ds ++ rest) goes ∙ others.1)
  where
    above : (c : ℕ) → digit_value c < 10 → 32 < c
    above c small = grind (arith, small)

small_is : (ds : List ℕ) → AllDigits 10 ds → 1 ≤ length ds → length ds ≤ 4 → number_in ds ≡ Some (digits_value 10 ds)
small_is ds all some few =
    let value : digits_value 10 ds < 10 ^ 4 = digits_value_short (numerals_by_value (AllDigits 10) tells_digits) ds 4 all few in
    number_is ds ((omega (arith, some), all), omega (arith, few), omega (arith, value))

pub small_reads : (text rest : List ℕ) (number digits : ℕ) → IsLeading text number digits → 1 ≤ digits → digits ≤ 4 → rest ≡ drop digits text → ends_word rest ≡ true
    → Reads number_in text number rest
small_reads text rest number digits is some few rest_is stops =
    let ds : List ℕ = leading_digits text in
    let all : AllDigits 10 ds = all_leading text in
    let whole : text ≡ ds ++ rest = sym (take-append-drop (prefix_len is_ascii_digit text) text) ∙ ap (λ (r : List ℕ). ds ++ r) (ap (λ n. drop n text) (sym (is.1 ∙ length-prefix_len is_ascii_digit text)) ∙ sym rest_is) in
    let parts = digits_word ds rest all stops in
    let word : word_in text ≡ ds = ap word_in whole ∙ parts.0 in
    let after : after_word text ≡ rest = ap after_word whole ∙ parts.1 in
    let words : words_in text ≡ before_words ds (words_in rest) = words_are text ∙ ap₂ (λ a b. before_words a (words_in b)) word after in
    record {
      first = ap (first_says number_in) words ∙ first_of ds rest number all (omega (arith, some, is.1)) (omega (arith, few, is.1)) is.0;
      after = ap after_line (sym after) ∙ after_line_word text;
    }
  where
    first_of : (ds rest : List ℕ) (number : ℕ) → AllDigits 10 ds → 1 ≤ length ds → length ds ≤ 4 → number ≡ digits_value 10 ds
        → first_says number_in (before_words ds (words_in rest)) ≡ Some (number, words_in rest)
    first_of [] rest number all some few is = absurd (omega (arith, some))
    first_of (d ∷ ds) rest number all some few is = first_is number_in (d ∷ ds) (words_in rest) number (small_is (d ∷ ds) all some few ∙ ap (λ (n : ℕ). Some n) (sym is))

-- IF A TEXT BEGINS WITH A NAME and a space, the name is its first word
named_word : (name text : List ℕ) → is_name name ≡ true → take (length name) text ≡ name → (word_in text ≡ without_last name) × (after_word text ≡ 32 ∷ drop (length name) text)
named_word [] text is same = absurd (cc (is))
named_word (x ∷ []) [] is same = absurd (cc (same))
named_word (x ∷ []) (c ∷ text) is same =
    let space : c ≡ 32 = cc (same, eqb-true x 32 is) in
    let stops : ends_word (c ∷ text) ≡ true = rw space refl in
    (word_end (c ∷ text) stops, after_end (c ∷ text) stops ∙ ap (λ d. d ∷ text) space)
named_word (x ∷ y ∷ ys) [] is same = absurd (cc (same))
named_word (x ∷ y ∷ ys) (c ∷ text) is same =
    let here : c ≡ x = cc (same) in
    let there : take (length (y ∷ ys)) text ≡ y ∷ ys = cc (same) in
    let goes : ends_word (c ∷ text) ≡ false = letter_more c text (omega (arith, here, ltb-true 32 x (and_parts _ _ is).0)) in
    let others = named_word (y ∷ ys) text (and_parts _ _ is).1 there in
    (word_more c text goes ∙ ap₂ (λ (d : ℕ) (ds : List ℕ). d ∷ ds) here others.0, after_more c text goes ∙ others.1)

pub name_read : (name text rest : List ℕ) → IsTrue (is_name name) → 4 ≤ length name → take (length name) text ≡ name → rest ≡ drop (length name) text → ReadsName name text rest
name_read [] text rest is long same after = absurd (omega (arith, long))
name_read (x ∷ []) text rest is long same after = absurd (omega (arith, long))
name_read (x ∷ y ∷ ys) text rest is long same after =
    let w = named_word (x ∷ y ∷ ys) text is same in record {
      words = words_are text ∙ ap₂ (λ a b. before_words a (words_in b)) w.0 w.1 ∙ ap (λ r. (x ∷ without_last (y ∷ ys)) ∷ words_in r) (sym after);
      after = ap after_line after ∙ ap after_line (sym w.1) ∙ after_line_word text;
    }

-- if the first word of a line is the name, and no space follows the name, the line has no other word
name_is : (name : List ℕ) → is_name name ≡ true → name ≡ without_last name ++ 32 ∷ []
name_is [] is = absurd (cc (is))
name_is (x ∷ []) is = ap (λ y. y ∷ []) (eqb-true x 32 is)
name_is (x ∷ y ∷ ys) is = ap (λ zs. x ∷ zs) (name_is (y ∷ ys) (and_parts _ _ is).1)

take_front : {A : Type 0} (xs ys : List A) → take (length xs) (xs ++ ys) ≡ xs
take_front [] ys = refl
take_front (x ∷ xs) ys = ap (λ zs. x ∷ zs) (take_front xs ys)

joined : (xs ys : List ℕ) → xs ++ 32 ∷ ys ≡ (xs ++ 32 ∷ []) ++ ys
joined [] ys = refl
joined (x ∷ xs) ys = ap (λ zs. x ∷ zs) (joined xs ys)

space_after : (name text rest : List ℕ) → is_name name ≡ true → after_word text ≡ 32 ∷ rest → word_in text ≡ without_last name → take (length name) text ≡ name
space_after name text rest is space same =
    let whole : text ≡ name ++ rest = word_then_after text ∙ ap₂ (λ (a b : List ℕ). a ++ b) same space ∙ joined (without_last name) rest ∙ ap (λ (n : List ℕ). n ++ rest) (sym (name_is name is)) in
    ap (take (length name)) whole ∙ take_front name rest

after_is : (name text after : List ℕ) → is_name name ≡ true → take (length name) text ≢ name → word_in text ≡ without_last name → after_word text ≡ after → ends_word after ≡ true → words_in after ≡ []
after_is name text [] is other same at stops = refl
after_is name text (x ∷ xs) is other same at stops =
    elim (or_cases _ _ stops) [
      | inl ends ↦ words_end (x ∷ xs) ends
      | inr space ↦ absurd (other (space_after name text xs is (at ∙ ap (λ y. y ∷ xs) (eqb-true x 32 space)) same))
    ]

pub name_alone : (name text : List ℕ) → IsTrue (is_name name) → take (length name) text ≢ name → IsNoName name text
name_alone name text is other word words are = at (word_in text) refl
  where
    at : (w : List ℕ) → word_in text ≡ w → words ≡ []
    at [] none = absurd (cc (are, words_end text (word_or_end text word none)))
    at (c ∷ cs) some =
        let parts : (c ∷ cs) ∷ words_in (after_word text) ≡ without_last name ∷ words = sym (words_are text ∙ ap (λ w. before_words w (words_in (after_word text))) some) ∙ are in
        let same : word_in text ≡ without_last name = cc (parts, some) in
        let left : words_in (after_word text) ≡ words = cc (parts) in
        sym left ∙ after_is name text (after_word text) is other same refl (after_stops text)
