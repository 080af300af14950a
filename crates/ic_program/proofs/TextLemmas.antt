-- How the lines and words of a text are found byte by byte.
use Rattle.std.proofs.Common.{◌≡◌, ◌≢◌, ℕ, ◌-◌, Bool, true, false, cond, List, [], ◌∷◌, ◌++◌, length, take, drop, filter, refl, sym, ap, ap₂, ◌∙◌, arith, nat_lt, ◌==◌, Option, Some, None, MatchOption, Bor, take_all, length-drop}
use Rattle.std.specs.List.{slice_split, onto_first}
use Rattle.std.proofs.lemmas.Bool.{cond-true, cond-false, cond_both, or_left, or_right, or_from, or_parts, eqb-true, lt-ltb}
use Rattle.std.proofs.lemmas.List.Splits.{slice_split-cons_yes, slice_split-cons_no}
use Rattle.ic_program.specs.Grammar.{words_of}
use Rattle.ic_program.specs.Text.{begins_with, ends_line, line_in, words_in, after_line, ends_word, word_in, after_spaces, before_words, ReadsWord}

-- `line_in` and `word_in` are empty at the end of a line or word, and otherwise begin with the first byte
pub line_end : (text : List ℕ) → ends_line text ≡ true → line_in text ≡ []
line_end [] is = refl
line_end (x ∷ xs) is = cond-true _ _ _ is

pub line_more : (x : ℕ) (xs : List ℕ) → ends_line (x ∷ xs) ≡ false → line_in (x ∷ xs) ≡ x ∷ line_in xs
line_more x xs not = cond-false _ _ _ not

pub word_end : (text : List ℕ) → ends_word text ≡ true → word_in text ≡ []
word_end [] is = refl
word_end (x ∷ xs) is = cond-true _ _ _ is

pub word_more : (x : ℕ) (xs : List ℕ) → ends_word (x ∷ xs) ≡ false → word_in (x ∷ xs) ≡ x ∷ word_in xs
word_more x xs not = cond-false _ _ _ not

-- the text after the first word, and the parts between spaces of the line that begins there
pub after_word : List ℕ → List ℕ
after_word [] = []
after_word (x ∷ xs) = cond (ends_word (x ∷ xs)) (x ∷ xs) (after_word xs)

parts : List ℕ → List (List ℕ)
parts line = slice_split (λ byte. byte == 32) line

parts_left : List ℕ → List (List ℕ)
parts_left [] = []
parts_left (x ∷ xs) = cond (ends_line (x ∷ xs)) [] (parts (line_in xs))

left_end : (text : List ℕ) → ends_line text ≡ true → parts_left text ≡ []
unfolding parts_left
left_end [] is = refl
left_end (x ∷ xs) is = cond-true _ _ _ is

left_more : (x : ℕ) (xs : List ℕ) → ends_line (x ∷ xs) ≡ false → parts_left (x ∷ xs) ≡ parts (line_in xs)
unfolding parts_left
left_more x xs not = cond-false _ _ _ not

pub after_end : (text : List ℕ) → ends_word text ≡ true → after_word text ≡ text
unfolding after_word
after_end [] is = refl
after_end (x ∷ xs) is = cond-true _ _ _ is

pub after_more : (x : ℕ) (xs : List ℕ) → ends_word (x ∷ xs) ≡ false → after_word (x ∷ xs) ≡ after_word xs
unfolding after_word
after_more x xs not = cond-false _ _ _ not

-- THE PARTS OF A LINE between spaces are its first word, which may be empty, and then the parts of the text after this word
parts_are : (text : List ℕ) → parts (line_in text) ≡ word_in text ∷ parts_left (after_word text)
unfolding parts parts_left after_word
parts_are [] = refl
parts_are (x ∷ xs) = at (ends_line (x ∷ xs)) refl (x == 32) refl (parts_are xs)
  where
    at : (e : Bool) → ends_line (x ∷ xs) ≡ e → (s : Bool) → (x == 32) ≡ s → parts (line_in xs) ≡ word_in xs ∷ parts_left (after_word xs)
        → parts (line_in (x ∷ xs)) ≡ word_in (x ∷ xs) ∷ parts_left (after_word (x ∷ xs))
    at true is s _ _ =
        let w : ends_word (x ∷ xs) ≡ true = or_left _ _ is in
        ap parts (line_end (x ∷ xs) is)
        ∙ sym (ap₂ (λ (w : List ℕ) (p : List (List ℕ)). w ∷ p) (word_end (x ∷ xs) w) (ap parts_left (after_end (x ∷ xs) w) ∙ left_end (x ∷ xs) is))
    at false not true space _ =
        let w : ends_word (x ∷ xs) ≡ true = or_right _ _ space in
        ap parts (line_more x xs not)
        ∙ slice_split-cons_yes (λ byte. byte == 32) x (line_in xs) space
        ∙ sym (ap₂ (λ (w : List ℕ) (p : List (List ℕ)). w ∷ p) (word_end (x ∷ xs) w) (ap parts_left (after_end (x ∷ xs) w) ∙ left_more x xs not))
    at false not false letter others =
        let w : ends_word (x ∷ xs) ≡ false = or_from _ _ not letter in
        ap parts (line_more x xs not)
        ∙ slice_split-cons_no (λ byte. byte == 32) x (line_in xs) letter
        ∙ ap (onto_first x) others
        ∙ sym (ap₂ (λ (w : List ℕ) (p : List (List ℕ)). w ∷ p) (word_more x xs w) (ap parts_left (after_more x xs w)))

-- THE WORDS OF A LINE are its first word, if this is not empty, and then the words of the text after it
kept : List (List ℕ) → List (List ℕ)
kept pieces = filter (λ word. nat_lt 0 (length word)) pieces

kept_first : (word : List ℕ) (pieces : List (List ℕ)) → kept (word ∷ pieces) ≡ before_words word (kept pieces)
unfolding kept
kept_first [] pieces = refl
kept_first (x ∷ xs) pieces = let some : nat_lt 0 (length (x ∷ xs)) ≡ true = lt-ltb 0 (length (x ∷ xs)) (omega arith) in cond-true _ _ _ some

pub after_stops : (text : List ℕ) → ends_word (after_word text) ≡ true
unfolding after_word
after_stops [] = refl
after_stops (x ∷ xs) = cond_both (ends_word (x ∷ xs)) (x ∷ xs) (after_word xs) (λ t. ends_word t ≡ true) (λ is. is) (λ _. after_stops xs)

pub words_are : (text : List ℕ) → words_in text ≡ before_words (word_in text) (words_in (after_word text))
unfolding parts kept
words_are text =
    let stops : ends_word (after_word text) ≡ true = after_stops text in
    let left : words_in (after_word text) ≡ kept (parts_left (after_word text)) =
    ap kept (parts_are (after_word text) ∙ ap₂ (λ (w : List ℕ) (p : List (List ℕ)). w ∷ p) (word_end (after_word text) stops) (ap parts_left (after_end (after_word text) stops))) in
    ap kept (parts_are text) ∙ kept_first (word_in text) (parts_left (after_word text)) ∙ ap (before_words (word_in text)) (sym left)

-- a text has the same words in its first line with or without spaces at its beginning
pub words_space : (xs : List ℕ) → words_in (32 ∷ xs) ≡ words_in xs
words_space xs = refl

pub after_space : (x : ℕ) (xs : List ℕ) → x ≡ 32 → after_line (x ∷ xs) ≡ after_line xs
after_space x xs is = rw is refl

pub words_spaces : (text : List ℕ) → words_in (after_spaces text) ≡ words_in text
words_spaces [] = refl
words_spaces (x ∷ xs) = cond_both (x == 32) (after_spaces xs) (x ∷ xs) (λ t. words_in t ≡ words_in (x ∷ xs)) (λ is. words_spaces xs ∙ sym (ap (λ y. words_in (y ∷ xs)) (eqb-true x 32 is))) (λ _. refl)

pub after_line_spaces : (text : List ℕ) → after_line (after_spaces text) ≡ after_line text
after_line_spaces [] = refl
after_line_spaces (x ∷ xs) = cond_both (x == 32) (after_spaces xs) (x ∷ xs) (λ t. after_line t ≡ after_line (x ∷ xs)) (λ is. after_line_spaces xs ∙ sym (after_space x xs (eqb-true x 32 is))) (λ _. refl)

pub no_space : (text : List ℕ) → begins_with 32 (after_spaces text) ≡ false
no_space [] = refl
no_space (x ∷ xs) = cond_both (x == 32) (after_spaces xs) (x ∷ xs) (λ t. begins_with 32 t ≡ false) (λ _. no_space xs) (λ not. not)

-- a text that begins with the end of a line has no words in its first line
pub words_end : (text : List ℕ) → ends_line text ≡ true → words_in text ≡ []
words_end text is = ap words_of (line_end text is)

-- if a text begins neither with a space nor with a word, it begins with the end of a line
pub word_or_end : (text : List ℕ) → begins_with 32 text ≡ false → word_in text ≡ [] → ends_line text ≡ true
word_or_end [] not none = refl
word_or_end (x ∷ xs) not none = at (ends_line (x ∷ xs)) refl
  where
    at : (e : Bool) → ends_line (x ∷ xs) ≡ e → ends_line (x ∷ xs) ≡ true
    at true is = is
    at false more = absurd (cc (none, word_more x xs (or_from _ _ more not)))

pub words_none : (text : List ℕ) → begins_with 32 text ≡ false → words_in text ≡ [] → ends_line text ≡ true
words_none text not none = at (word_in text) refl
  where
    at : (w : List ℕ) → word_in text ≡ w → ends_line text ≡ true
    at [] is = word_or_end text not is
    at (x ∷ xs) is = absurd (cc (none, words_are text, ap (λ w. before_words w (words_in (after_word text))) is))

-- the first word of a text is as many bytes from its beginning as the word is long
pub take_word : (text : List ℕ) → take (length (word_in text)) text ≡ word_in text
take_word [] = refl
take_word (x ∷ xs) = cond_both (ends_word (x ∷ xs)) [] (x ∷ word_in xs) (λ w. take (length w) (x ∷ xs) ≡ w) (λ _. refl) (λ _. ap (λ w. x ∷ w) (take_word xs))

pub take_line : (text : List ℕ) → take (length (line_in text)) text ≡ line_in text
take_line [] = refl
take_line (x ∷ xs) = cond_both (ends_line (x ∷ xs)) [] (x ∷ line_in xs) (λ w. take (length w) (x ∷ xs) ≡ w) (λ _. refl) (λ _. ap (λ w. x ∷ w) (take_line xs))

pub drop_word : (text : List ℕ) → drop (length (word_in text)) text ≡ after_word text
unfolding after_word
drop_word [] = refl
drop_word (x ∷ xs) =
    cond_both (ends_word (x ∷ xs)) [] (x ∷ word_in xs) (λ w. drop (length w) (x ∷ xs) ≡ after_word (x ∷ xs))
    (λ is. sym (after_end (x ∷ xs) is)) (λ not. drop_word xs ∙ sym (after_more x xs not))

pub after_line_word : (text : List ℕ) → after_line (after_word text) ≡ after_line text
unfolding after_word
after_line_word [] = refl
after_line_word (x ∷ xs) =
    cond_both (ends_word (x ∷ xs)) (x ∷ xs) (after_word xs) (λ t. after_line t ≡ after_line (x ∷ xs)) (λ _. refl)
    (λ not. let other : (x == 10) ≡ false = (or_parts _ _ (or_parts _ _ not).0).0 in after_line_word xs ∙ sym (cond-false _ _ _ other))

-- A WORD WAS READ after the spaces at the beginning of a text
pub reads_word : (text start : List ℕ) (n : ℕ) → start ≡ after_spaces text → n ≡ length (word_in start) → ReadsWord text (take n start) (drop n start)
reads_word text start n start_is n_is =
    let w : take n start ≡ word_in start = ap (λ k. take k start) n_is ∙ take_word start in
    let r : drop n start ≡ after_word start = ap (λ k. drop k start) n_is ∙ drop_word start in
    let same : words_in start ≡ words_in text = ap words_in start_is ∙ words_spaces text in
    let line : after_line start ≡ after_line text = ap after_line start_is ∙ after_line_spaces text in
    record {
      words = sym same ∙ words_are start ∙ sym (ap₂ (λ a b. before_words a (words_in b)) w r);
      none = λ none. sym same ∙ words_end start (word_or_end start (ap (begins_with 32) start_is ∙ no_space text) (sym w ∙ none));
      after = ap after_line r ∙ after_line_word start ∙ line;
    }

pub word_then_after : (text : List ℕ) → text ≡ word_in text ++ after_word text
unfolding after_word
word_then_after [] = refl
word_then_after (x ∷ xs) = at (ends_word (x ∷ xs)) (word_then_after xs)
  where
    at : (e : Bool) → xs ≡ word_in xs ++ after_word xs → x ∷ xs ≡ cond e [] (x ∷ word_in xs) ++ cond e (x ∷ xs) (after_word xs)
    at true others = refl
    at false others = ap (λ ys. x ∷ ys) others

-- the first line of a text has no words exactly if the line ends after the spaces at its beginning
pub line_after : (text start : List ℕ) (rest : Option (Bor (List ℕ))) → start ≡ after_spaces text
    → MatchOption rest (ends_line start ≡ false) (λ r. (ends_line start ≡ true) × (r.now ≡ after_line start))
    → MatchOption rest (words_in text ≢ []) (λ r. (words_in text ≡ []) × (r.now ≡ after_line text))
line_after text start None is no_end = λ none. absurd (cc (no_end, words_none start (ap (begins_with 32) is ∙ no_space text) (ap words_in is ∙ words_spaces text ∙ none)))
line_after text start (Some r) is end = (sym (ap words_in is ∙ words_spaces text) ∙ words_end start end.0, end.1 ∙ ap after_line is ∙ after_line_spaces text)

-- the slice of a text from the index n on is the text without its first n bytes
pub slice_from : (n : ℕ) (text : List ℕ) → take (length text - n) (drop n text) ≡ drop n text
slice_from n text = take_all (length text - n) (drop n text) (omega (arith, length-drop n text))
