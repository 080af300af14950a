-- A TEXT OF SEVERAL LINES: its first line, and the words of that line.
use Rattle.std.specs.Prelude.{◌≡◌, ◌<◌, ◌≤◌, ◌⊎◌, ℕ, Bool, true, false, ◌&&◌, ◌||◌, List, [], ◌∷◌, ◌++◌, length, slice_index, Option, Some, None, MatchOption, option_map, IsTrue, nat_lt, ◌==◌, if◌then◌else◌, ⊤}
use Rattle.std.specs.Io.BufRead.{drop_through}
use denote.Ref.{Bor}
use Rattle.ic_world.specs.declared.call.Command.{Command}
use Rattle.ic_program.specs.declared.line.Line.{Line}
use Rattle.ic_program.specs.declared.line.Line.TheVariants.{NoCommand}
use Rattle.ic_program.specs.Grammar.{words_of, number_in}

-- whether the text begins with the byte `byte`
abbrev pub begins_with : ℕ → List ℕ → Bool
begins_with byte [] = false
begins_with byte (x ∷ xs) = x == byte

-- whether a line ends where the text begins: the text begins with `\n` or `\r\n`, or is empty
abbrev pub ends_line : List ℕ → Bool
ends_line [] = true
ends_line (x ∷ xs) = (x == 10) || ((x == 13) && begins_with 10 xs)

-- the first line of a text, without its line feed
abbrev pub line_in : List ℕ → List ℕ
line_in [] = []
line_in (x ∷ xs) = if ends_line (x ∷ xs) then [] else x ∷ line_in xs

-- the words of the first line
abbrev pub words_in : List ℕ → List (List ℕ)
words_in text = words_of (line_in text)

-- the text after the first line
abbrev pub after_line : List ℕ → List ℕ
after_line text = drop_through 10 text

-- the text has only one line: no text follows its first line
abbrev pub IsOneLine : List ℕ → Type 0
IsOneLine text = after_line text ≡ []

-- whether a word ends where the text begins: the text begins with a space or with the end of a line
abbrev pub ends_word : List ℕ → Bool
ends_word text = ends_line text || begins_with 32 text

-- the bytes of a text up to the end of its first word
abbrev pub word_in : List ℕ → List ℕ
word_in [] = []
word_in (x ∷ xs) = if ends_word (x ∷ xs) then [] else x ∷ word_in xs

-- the bytes of a text without the spaces with which it begins
abbrev pub after_spaces : List ℕ → List ℕ
after_spaces [] = []
after_spaces (byte ∷ bytes) = if byte == 32 then after_spaces bytes else byte ∷ bytes

-- `ReadsWord`: a word was read from a text, and `rest` is the text after the word. The first line of the text has this word, if it is not empty, and
-- then the words of the first line of `rest`
abbrev pub before_words : List ℕ → List (List ℕ) → List (List ℕ)
before_words [] words = words
before_words (x ∷ xs) words = (x ∷ xs) ∷ words

pub record ReadsWord (text word rest : List ℕ) : Type 0 where
  pub words : words_in text ≡ before_words word (words_in rest)
  pub none : word ≡ [] → words_in text ≡ []
  pub after : after_line rest ≡ after_line text

-- what `says` reads from the first word, and the words after it. The result is none if there is no word, or if `says` cannot read the first one
abbrev pub first_says : {A : Type 0} → (List ℕ → Option A) → List (List ℕ) → Option (A × List (List ℕ))
first_says says [] = None
first_says says (word ∷ words) = option_map (λ x. (x, words)) (says word)

-- THE FIRST WORD WAS READ: `says` reads x from the first word of the text, and `rest` is the text after this word. `ReadsFirst` also says what a
-- result of none means: `says` cannot read the first word
pub record Reads {A : Type 0} (says : List ℕ → Option A) (text : List ℕ) (x : A) (rest : List ℕ) : Type 0 where
  pub first : first_says says (words_in text) ≡ Some (x, words_in rest)
  pub after : after_line rest ≡ after_line text

abbrev pub ReadsFirst : {A : Type 0} → (List ℕ → Option A) → List ℕ → Option (A × Bor (List ℕ)) → Type 0
ReadsFirst says text result = MatchOption result (first_says says (words_in text) ≡ None) (λ read. Reads says text read.0 read.1.now)

-- the result is the number that the first word of the text means, or none if the first word is not a number
abbrev pub BeginsWithNumber : List ℕ → Option ℕ → Type 0
BeginsWithNumber text result =
    MatchOption result (first_says number_in (words_in text) ≡ None) (λ number. (words : List (List ℕ)) × (first_says number_in (words_in text) ≡ Some (number, words)))

-- whether the bytes end with a space, which is the byte 32, and all bytes before it are above 32. `IsName n` says that the bytes can be the name of a
-- call and a space, and that n is from 4 to 24
abbrev pub is_name : List ℕ → Bool
is_name [] = false
is_name (x ∷ []) = x == 32
is_name (x ∷ y ∷ ys) = nat_lt 32 x && is_name (y ∷ ys)

abbrev pub IsName : ℕ → List ℕ → Type 0
IsName n name = (4 ≤ n) × (n ≤ 24) × IsTrue (is_name name)

abbrev pub without_last : List ℕ → List ℕ
without_last [] = []
without_last (x ∷ []) = []
without_last (x ∷ y ∷ ys) = x ∷ without_last (y ∷ ys)

-- `ReadsName`: the first word of the text is the name, and `rest` is the text after it. `IsNoName`: if the text does not begin with a space, its
-- first word is not the name, or the name is the only word of its first line
pub record ReadsName (name text rest : List ℕ) : Type 0 where
  pub words : words_in text ≡ without_last name ∷ words_in rest
  pub after : after_line rest ≡ after_line text

abbrev pub IsNoName : List ℕ → List ℕ → Type 0
IsNoName name text = begins_with 32 text ≡ false → (words : List (List ℕ)) → words_in text ≡ without_last name ∷ words → words ≡ []

-- THE FIRST LINE IS THE CALL `command`: it is the name and then words from which `read` reads the command. `rest` is the text after the line
pub record IsCall (name : List ℕ) (read : List (List ℕ) → Option (Command ℕ ℕ)) (text : List ℕ) (command : Command ℕ ℕ) (rest : List ℕ) : Type 0 where
  pub words : List (List ℕ)
  pub are : words_in text ≡ without_last name ∷ words
  pub said : read words ≡ Some command
  pub after : rest ≡ after_line text

-- the first line is not a call with this name. If the text does not begin with a space and its first word is the name, `read` cannot read the words
-- after it
abbrev pub IsNoCall : List ℕ → (List (List ℕ) → Option (Command ℕ ℕ)) → List ℕ → Type 0
IsNoCall name read text = begins_with 32 text ≡ false → (words : List (List ℕ)) → words_in text ≡ without_last name ∷ words → read words ≡ None

-- `rest` is the text after the first line. If the line is not a command, nothing is stated
abbrev pub Passes : Line → List ℕ → List ℕ → Type 0
Passes NoCommand text rest = ⊤
Passes _ text rest = rest ≡ after_line text

-- the text contains a line feed
abbrev pub HasFeed : List ℕ → Type 0
HasFeed text = (k : ℕ) × (k < length text) × (slice_index text k ≡ 10)

-- every line of the text ends with a line feed: the text is empty, or its last byte is a line feed
abbrev pub HaveEnded : List ℕ → Type 0
HaveEnded text = (text ≡ []) ⊎ ((front : List ℕ) × (text ≡ front ++ 10 ∷ []))
