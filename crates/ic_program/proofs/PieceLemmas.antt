-- Pieces of a text: lines that have ended, an incomplete line that is cut off, and the bytes that come later.
use Rattle.std.proofs.Common.{◌≡◌, ℕ, suc, zero, ◌+◌, ◌<◌, inl, inr, List, [], ◌∷◌, ◌++◌, length, take, drop, slice_index, sym, ap, ◌∙◌, arith, append_assoc}
use Rattle.std.specs.Str.Lines.{lines}
use Rattle.std.proofs.lemmas.List.{take-append-drop, take_more}
use Rattle.ic_program.specs.Text.{HaveEnded}
use Rattle.ic_program.proofs.LinesLemmas.{lines_after}

-- bytes with a line feed at the index e are the bytes before it, the line feed and the bytes after it
around_feed : (bytes : List ℕ) (e : ℕ) → e < length bytes → slice_index bytes e ≡ 10 → bytes ≡ take e bytes ++ 10 ∷ drop (e + 1) bytes
around_feed bytes e low feed =
    sym (take-append-drop (e + 1) bytes)
    ∙ ap (λ (l : List ℕ). l ++ drop (e + 1) bytes) (take_more bytes e 0 low ∙ ap (λ b. take e bytes ++ b ∷ []) feed)
    ∙ append_assoc (take e bytes) (10 ∷ []) (drop (e + 1) bytes)

-- THE INCOMPLETE LINE `cut` ENDS at the first line feed of the next bytes
pub cut_ended : (cut bytes more now : List ℕ) (e : ℕ) → e < length bytes → slice_index bytes e ≡ 10 → now ≡ cut ++ take (e + 1) bytes
    → lines (cut ++ (bytes ++ more)) ≡ lines now ++ lines (drop (e + 1) bytes ++ more)
cut_ended cut bytes more now e low feed is =
    let front : List ℕ = cut ++ take e bytes in
    let rest : List ℕ = drop (e + 1) bytes ++ more in
    let whole : cut ++ (bytes ++ more) ≡ front ++ 10 ∷ rest =
    ap (λ (l : List ℕ). cut ++ (l ++ more)) (around_feed bytes e low feed)
    ∙ ap (λ (l : List ℕ). cut ++ l) (append_assoc (take e bytes) (10 ∷ drop (e + 1) bytes) more)
    ∙ sym (append_assoc cut (take e bytes) (10 ∷ rest)) in
    let ended : now ≡ front ++ 10 ∷ [] =
    is ∙ ap (λ (l : List ℕ). cut ++ l) (take_more bytes e 0 low ∙ ap (λ b. take e bytes ++ b ∷ []) feed) ∙ sym (append_assoc cut (take e bytes) (10 ∷ [])) in
    ap lines whole ∙ lines_after front rest ∙ ap (λ (l : List ℕ). lines l ++ lines rest) (sym ended)

-- LINES THAT HAVE ENDED are lines of the whole text, and then come the lines of the rest
ended_after : (text rest : List ℕ) → HaveEnded text → lines (text ++ rest) ≡ lines text ++ lines rest
ended_after text rest how =
    elim how [
      | inl none ↦ ap (λ (l : List ℕ). lines (l ++ rest)) none ∙ sym (ap (λ (l : List ℕ). lines l ++ lines rest) none)
      | inr some ↦
          ap (λ (l : List ℕ). lines (l ++ rest)) some.1
          ∙ ap lines (append_assoc some.0 (10 ∷ []) rest)
          ∙ lines_after some.0 rest
          ∙ sym (ap (λ (l : List ℕ). lines l ++ lines rest) some.1)
    ]

pub ended_lines : (cut bytes more : List ℕ) (n : ℕ) → HaveEnded (take n bytes) → (0 < n → cut ≡ [])
    → lines (cut ++ (bytes ++ more)) ≡ lines (take n bytes) ++ lines ((cut ++ drop n bytes) ++ more)
ended_lines cut bytes more zero ended none = ap lines (sym (append_assoc cut bytes more))
ended_lines cut bytes more (suc n) ended none =
    let empty : cut ≡ [] = none (omega arith) in
    let parts : bytes ++ more ≡ take (suc n) bytes ++ (drop (suc n) bytes ++ more) =
    ap (λ (l : List ℕ). l ++ more) (sym (take-append-drop (suc n) bytes)) ∙ append_assoc (take (suc n) bytes) (drop (suc n) bytes) more in
    ap (λ (l : List ℕ). lines (l ++ (bytes ++ more))) empty
    ∙ ap lines parts
    ∙ ended_after (take (suc n) bytes) (drop (suc n) bytes ++ more) ended
    ∙ sym (ap (λ (l : List ℕ). lines (take (suc n) bytes) ++ lines ((l ++ drop (suc n) bytes) ++ more)) empty)
