-- The lines of a text, one after the other.
use Rattle.std.proofs.Common.{◌≡◌, ◌≢◌, ℕ, zero, suc, ◌+◌, ◌-◌, ◌<◌, ◌≤◌, inl, inr, Bool, true, false, cond, ◌==◌, List, [], ◌∷◌, ◌++◌, map, length, take, drop, slice_index, if◌then◌else◌, refl, sym, ap, ap₂, ◌∙◌, subst, arith, append-nil, Option, Some, None, MatchOption, Bor, is_some}
use Rattle.std.specs.List.{slice_split, onto_first}
use Rattle.std.specs.Str.Lines.{lines, lines_of_parts, strip_carriage_return}
use Rattle.std.proofs.lemmas.Bool.{cond-true, cond-false, cond_both, or_left, or_right, or_from, and_left, and_right, and_from, cases_Bool, ne_eqb}
use Rattle.std.proofs.lemmas.List.Splits.{slice_split-cons_yes, slice_split-cons_no}
use Rattle.ic_program.specs.Text.{begins_with, ends_line, line_in, after_line}
use Rattle.ic_program.proofs.TextLemmas.{line_end, line_more, slice_from}

-- if no line ends at the index `at`, the byte there belongs to the first line
pub line_step : (text : List ℕ) (at : ℕ) → at < length text → ends_line (drop at text) ≡ false → take at text ++ line_in (drop at text) ≡ take (at + 1) text ++ line_in (drop (at + 1) text)
line_step [] at low not = absurd (omega (arith, low))
line_step (x ∷ xs) zero low not = line_more x xs not
line_step (x ∷ xs) (suc n) low not = let less : n < length xs = omega (arith, low) in
    let one : suc n + 1 ≡ suc (n + 1) = omega arith in
    ap (λ (l : List ℕ). x ∷ l) (line_step xs n less not) ∙ sym (ap (λ (k : ℕ). take k (x ∷ xs) ++ line_in (drop k (x ∷ xs))) one)

pub not_ended : (text : List ℕ) (at : ℕ) (r : Option (Bor (List ℕ))) (P : Bor (List ℕ) → Type 0) → false ≡ is_some r → MatchOption r (ends_line (take (length text - at) (drop at text)) ≡ false) P
    → ends_line (drop at text) ≡ false
not_ended text at None P none not = sym (ap ends_line (slice_from at text)) ∙ not
not_ended text at (Some x) P none not = absurd (cc (none))

is_feed : ℕ → Bool
is_feed byte = byte == 10

pieces : List ℕ → List (List ℕ)
pieces text = slice_split (λ b. b == 10) text

pieces_feed : (x : ℕ) (xs : List ℕ) → (x == 10) ≡ true → pieces (x ∷ xs) ≡ [] ∷ pieces xs
unfolding pieces
pieces_feed x xs is = slice_split-cons_yes (λ b. b == 10) x xs is

pieces_more : (x : ℕ) (xs : List ℕ) → (x == 10) ≡ false → pieces (x ∷ xs) ≡ onto_first x (pieces xs)
unfolding pieces
pieces_more x xs not = slice_split-cons_no (λ b. b == 10) x xs not

-- the pieces of a text are the parts between its line feeds. There is always a first piece
data First (ps : List (List ℕ)) : Type 0 where
  first : (p : List ℕ) (others : List (List ℕ)) → ps ≡ p ∷ others → First ps

has_first : (text : List ℕ) → First (pieces text)
unfolding pieces
has_first [] = first [] [] refl
has_first (x ∷ xs) = cond_both (x == 10) ([] ∷ pieces xs) (onto_first x (pieces xs)) First (λ _. first [] (pieces xs) refl) (λ _. elim (has_first xs) [ first p others is ↦ first (x ∷ p) others (ap (onto_first x) is) ])

-- the pieces of a text with a line feed are the pieces before the line feed, and then the pieces after it
onto_both : (x : ℕ) (ps qs : List (List ℕ)) → First ps → onto_first x (ps ++ qs) ≡ onto_first x ps ++ qs
onto_both x ps qs (first p others is) = ap (λ (l : List (List ℕ)). onto_first x (l ++ qs)) is ∙ sym (ap (λ (l : List (List ℕ)). onto_first x l ++ qs) is)

pieces_both : (xs ys : List ℕ) → pieces (xs ++ 10 ∷ ys) ≡ pieces xs ++ pieces ys
unfolding pieces
pieces_both [] ys = refl
pieces_both (x ∷ xs) ys = at (x == 10) (pieces_both xs ys) (has_first xs)
  where
    at : (b : Bool) → pieces (xs ++ 10 ∷ ys) ≡ pieces xs ++ pieces ys → First (pieces xs)
        → cond b ([] ∷ pieces (xs ++ 10 ∷ ys)) (onto_first x (pieces (xs ++ 10 ∷ ys))) ≡ cond b ([] ∷ pieces xs) (onto_first x (pieces xs)) ++ pieces ys
    at true same _ = ap (λ l. [] ∷ l) same
    at false same some = ap (onto_first x) same ∙ onto_both x (pieces xs) (pieces ys) some

of_both : (ps : List (List ℕ)) (q : List ℕ) (qs : List (List ℕ)) → lines_of_parts (ps ++ q ∷ qs) ≡ map strip_carriage_return ps ++ lines_of_parts (q ∷ qs)
of_both [] q qs = refl
of_both (p ∷ []) q qs = refl
of_both (p ∷ o ∷ ps) q qs = ap (λ l. strip_carriage_return p ∷ l) (of_both (o ∷ ps) q qs)

ended : (xs ys : List ℕ) → lines (xs ++ 10 ∷ ys) ≡ map strip_carriage_return (pieces xs) ++ lines ys
unfolding pieces
ended xs ys = ap lines_of_parts (pieces_both xs ys) ∙ at (has_first ys)
  where
    at : First (pieces ys) → lines_of_parts (pieces xs ++ pieces ys) ≡ map strip_carriage_return (pieces xs) ++ lines_of_parts (pieces ys)
    at (first q qs is) =
        ap (λ (l : List (List ℕ)). lines_of_parts (pieces xs ++ l)) is
        ∙ of_both (pieces xs) q qs
        ∙ ap (λ (l : List (List ℕ)). map strip_carriage_return (pieces xs) ++ lines_of_parts l) (sym is)

-- THE LINES AFTER LINES THAT HAVE ENDED are the lines of the rest of the text
pub lines_after : (xs ys : List ℕ) → lines (xs ++ 10 ∷ ys) ≡ lines (xs ++ 10 ∷ []) ++ lines ys
lines_after xs ys =
    let here : lines (xs ++ 10 ∷ []) ≡ map strip_carriage_return (pieces xs) = ended xs [] ∙ append-nil (map strip_carriage_return (pieces xs)) in
    ended xs ys ∙ ap (λ (l : List (List ℕ)). l ++ lines ys) (sym here)

-- THE FIRST LINE of a text either has no line feed after it and is the whole text, or ends before a line feed
data FirstLine (text : List ℕ) : Type 0 where
  last : (p : List ℕ) → pieces text ≡ p ∷ [] → line_in text ≡ p → after_line text ≡ [] → FirstLine text
  more : (p : List ℕ) (rest : List ℕ) → pieces text ≡ p ∷ pieces rest → line_in text ≡ strip_carriage_return p → after_line text ≡ rest → FirstLine text

-- a carriage return at the end is dropped, and what is before it stays
strip_more : (x y : ℕ) (ys : List ℕ) → strip_carriage_return (x ∷ y ∷ ys) ≡ x ∷ strip_carriage_return (y ∷ ys)
strip_more x y ys =
    let long : length (x ∷ y ∷ ys) - 1 ≡ suc (length (y ∷ ys) - 1) = omega arith in
    ap (λ n. if slice_index (x ∷ y ∷ ys) n == 13 then take n (x ∷ y ∷ ys) else x ∷ y ∷ ys) long ∙ at (slice_index (y ∷ ys) (length (y ∷ ys) - 1) == 13)
  where
    at : (b : Bool) → (if b then x ∷ take (length (y ∷ ys) - 1) (y ∷ ys) else x ∷ y ∷ ys) ≡ x ∷ (if b then take (length (y ∷ ys) - 1) (y ∷ ys) else y ∷ ys)
    at true = refl
    at false = refl

-- a text with one more byte at its front has a first line, which begins with this byte if no line ends there
no_pieces : (ps : List (List ℕ)) → First ps → ps ≢ []
no_pieces ps (first p others is) none = cc

starts_more : (y : ℕ) (ys : List ℕ) (qs : List (List ℕ)) → (y == 10) ≡ false → pieces (y ∷ ys) ≢ [] ∷ qs
starts_more y ys qs other is = at (has_first ys)
  where
    at : First (pieces ys) → ⊥
    at (first p others same) = cc (is, pieces_more y ys other, ap (onto_first y) same)

starts : (xs : List ℕ) (qs : List (List ℕ)) → begins_with 10 xs ≡ false → qs ≢ [] → pieces xs ≢ [] ∷ qs
unfolding pieces
starts [] qs other some is = some (cc)
starts (y ∷ ys) qs other some is = starts_more y ys qs other is

one_more : (x : ℕ) (xs : List ℕ) → (x == 10) ≡ false → begins_with 10 xs ≡ false → FirstLine xs → FirstLine (x ∷ xs)
one_more x xs not other (last p is line after) =
    let goes : ends_line (x ∷ xs) ≡ false = or_from _ _ not (and_right _ _ other) in
    last (x ∷ p) (pieces_more x xs not ∙ ap (onto_first x) is) (line_more x xs goes ∙ ap (λ l. x ∷ l) line) (cond-false _ _ _ not ∙ after)
one_more x xs not other (more p rest is line after) =
    let goes : ends_line (x ∷ xs) ≡ false = or_from _ _ not (and_right _ _ other) in
    more (x ∷ p) rest (pieces_more x xs not ∙ ap (onto_first x) is) (line_more x xs goes ∙ ap (λ l. x ∷ l) line ∙ sym (at p is)) (cond-false _ _ _ not ∙ after)
  where
    at : (p : List ℕ) → pieces xs ≡ p ∷ pieces rest → strip_carriage_return (x ∷ p) ≡ x ∷ strip_carriage_return p
    at [] is = absurd (starts xs (pieces rest) other (no_pieces (pieces rest) (has_first rest)) is)
    at (y ∷ ys) is = strip_more x y ys

-- a byte directly before a line feed is the last byte of the first line, or a carriage return that is dropped
last_byte : (x y : ℕ) (ys : List ℕ) → (x == 10) ≡ false → (y == 10) ≡ true → FirstLine (x ∷ y ∷ ys)
last_byte x y ys not feed =
    more (x ∷ []) ys (pieces_more x (y ∷ ys) not ∙ ap (onto_first x) (pieces_feed y ys feed)) (at (x == 13) refl) (cond-false _ _ _ not ∙ cond-true _ _ _ feed)
  where
    none : line_in (y ∷ ys) ≡ []
    none = line_end (y ∷ ys) (or_left _ _ feed)

    at : (b : Bool) → (x == 13) ≡ b → line_in (x ∷ y ∷ ys) ≡ strip_carriage_return (x ∷ [])
    at true is = line_end (x ∷ y ∷ ys) (or_right _ _ (and_from _ _ is feed)) ∙ sym (cond-true _ _ _ is)
    at false is = line_more x (y ∷ ys) (or_from _ _ not (and_left _ _ is)) ∙ ap (λ l. x ∷ l) none ∙ sym (cond-false _ _ _ is)

first_line : (text : List ℕ) → FirstLine text
unfolding pieces
first_line [] = last [] refl refl refl
first_line (x ∷ xs) = at (x == 10) refl xs (first_line xs)
  where
    after : (xs : List ℕ) → (x == 10) ≡ false → FirstLine xs → (b : Bool) → begins_with 10 xs ≡ b → FirstLine (x ∷ xs)
    after xs not others false other = one_more x xs not other others
    after [] not others true feed = absurd (cc (feed))
    after (y ∷ ys) not others true feed = last_byte x y ys not feed

    at : (b : Bool) → (x == 10) ≡ b → (xs : List ℕ) → FirstLine xs → FirstLine (x ∷ xs)
    at true feed xs others = more [] xs (pieces_feed x xs feed) (line_end (x ∷ xs) (or_left _ _ feed)) (cond-true _ _ _ feed)
    at false not xs others = after xs not others (begins_with 10 xs) refl

-- THE LINES OF A TEXT are the first line and then the lines of the text after it
pub lines_first : (x : ℕ) (xs : List ℕ) → lines (x ∷ xs) ≡ line_in (x ∷ xs) ∷ lines (after_line (x ∷ xs))
unfolding pieces
lines_first x xs = at (first_line (x ∷ xs))
  where
    whole : (p : List ℕ) → pieces (x ∷ xs) ≡ p ∷ [] → lines_of_parts (p ∷ []) ≡ p ∷ []
    whole [] is = absurd (elim (cases_Bool (x == 10)) [
      | inl feed ↦ no_pieces (pieces xs) (has_first xs) (cc (is, pieces_feed x xs feed))
      | inr not ↦ starts_more x xs [] not is
    ])
    whole (y ∷ ys) is = let some : (length (y ∷ ys) == 0) ≡ false = ne_eqb (length (y ∷ ys)) 0 (λ e. omega (arith, e)) in cond-false _ _ _ some

    after : (p rest : List ℕ) → First (pieces rest) → lines_of_parts (p ∷ pieces rest) ≡ strip_carriage_return p ∷ lines_of_parts (pieces rest)
    after p rest (first q qs is) = ap (λ (l : List (List ℕ)). lines_of_parts (p ∷ l)) is ∙ sym (ap (λ (l : List (List ℕ)). strip_carriage_return p ∷ lines_of_parts l) is)

    at : FirstLine (x ∷ xs) → lines (x ∷ xs) ≡ line_in (x ∷ xs) ∷ lines (after_line (x ∷ xs))
    at (last p is line end) = ap lines_of_parts is ∙ whole p is ∙ sym (ap₂ (λ (l : List ℕ) (t : List ℕ). l ∷ lines t) line end)
    at (more p rest is line end) = ap lines_of_parts is ∙ after p rest (has_first rest) ∙ sym (ap₂ (λ (l : List ℕ) (t : List ℕ). l ∷ lines t) line end)

pub text_lines : (text : List ℕ) → 0 < length text → lines text ≡ line_in text ∷ lines (after_line text)
text_lines [] some = absurd (omega (arith, some))
text_lines (x ∷ xs) some = lines_first x xs

after_within : (text : List ℕ) → length (after_line text) ≤ length text
after_within [] = omega arith
after_within (x ∷ xs) = cond_both (x == 10) xs (after_line xs) (λ t. length t ≤ length (x ∷ xs)) (λ _. omega arith) (λ _. omega (arith, after_within xs))

pub after_shorter : (text rest : List ℕ) → 0 < length text → rest ≡ after_line text → length rest < length text
after_shorter [] rest some is = absurd (omega (arith, some))
after_shorter (x ∷ xs) rest some is =
    let shorter : length (after_line (x ∷ xs)) < length (x ∷ xs) =
    cond_both (x == 10) xs (after_line xs) (λ t. length t < length (x ∷ xs)) (λ _. omega arith) (λ _. omega (arith, after_within xs)) in
    subst (λ (r : List ℕ). length r < length (x ∷ xs)) (sym is) shorter

-- the text after the first line is what remains of the text if all bytes before it are dropped. The number of these bytes is the difference of the
-- lengths of both texts
pub after_taken : (text : List ℕ) → drop (length text - length (after_line text)) text ≡ after_line text
after_taken [] = refl
after_taken (x ∷ xs) =
    cond_both (x == 10) xs (after_line xs) (λ t. drop (length (x ∷ xs) - length t) (x ∷ xs) ≡ t)
    (λ _. let one : length (x ∷ xs) - length xs ≡ suc 0 = omega arith in ap (λ (k : ℕ). drop k (x ∷ xs)) one)
    (λ _. let more : length (x ∷ xs) - length (after_line xs) ≡ suc (length xs - length (after_line xs)) = omega (arith, after_within xs) in
    ap (λ (k : ℕ). drop k (x ∷ xs)) more ∙ after_taken xs)

pub after_drop : (text rest : List ℕ) (taken : ℕ) → rest ≡ after_line text → taken ≡ length text - length rest → drop taken text ≡ after_line text
after_drop text rest taken is taken_is = ap (λ (k : ℕ). drop k text) (taken_is ∙ ap (λ (r : List ℕ). length text - length r) is) ∙ after_taken text

-- a line of a text that is not empty takes at least one byte
pub some_taken : (text : List ℕ) (taken : ℕ) → 0 < length text → drop taken text ≡ after_line text → 0 < taken
some_taken text taken some is = at taken is
  where
    at : (taken : ℕ) → drop taken text ≡ after_line text → 0 < taken
    at zero is = let shorter : length (after_line text) < length text = after_shorter text (after_line text) some refl in absurd (omega (arith, shorter, ap length is))
    at (suc n) is = omega arith

-- an empty text has no lines
pub no_lines : (text : List ℕ) → true ≡ (length text == 0) → lines text ≡ []
no_lines [] is = refl
no_lines (x ∷ xs) is = absurd (cc (is, ne_eqb (length (x ∷ xs)) 0 (λ e. omega (arith, e))))
