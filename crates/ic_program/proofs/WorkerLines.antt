-- The lines of workers, after one more worker was added.
use Rattle.std.proofs.Common.{◌≡◌, ℕ, ◌+◌, ◌<◌, suc, List, [], ◌∷◌, ◌++◌, Vec, take, length, arith, sym, ap, ◌∙◌, append_assoc, append-nil, length-take-le}
use Rattle.std.proofs.lemmas.List.{length-map}
use Rattle.ic_unsafe_ref.specs.declared.place.Place.{Place}
use Rattle.ic_workers.specs.SharedOut.{places_in}
use Rattle.ic_workers.proofs.TakenPlaces.{places_more}
use Rattle.ic_program.specs.Printed.{worker_line, worker_lines}

-- the line of one more list of places comes after the lines of the other lists
lines_more : (n : ℕ) (ls : List (List Place)) (s : List Place) → worker_lines n (ls ++ s ∷ []) ≡ worker_lines n ls ++ worker_line (n + length ls) s
lines_more n [] s =
    let same : n ≡ n + 0 = omega arith in
    append-nil (worker_line n s) ∙ ap (λ (k : ℕ). worker_line k s) same
lines_more n (l ∷ ls) s =
    let same : n + 1 + length ls ≡ n + suc (length ls) = omega arith in
    ap (λ (x : List ℕ). worker_line n l ++ x) (lines_more (n + 1) ls s)
    ∙ (sym (append_assoc (worker_line n l) (worker_lines (n + 1) ls) (worker_line (n + 1 + length ls) s))
    ∙ ap (λ (k : ℕ). worker_line n l ++ worker_lines (n + 1) ls ++ worker_line k s) same)

module _ {B : Type 0} (lists : List (Vec Place B)) (i : ℕ) (v : Vec Place B) (in_bounds : i < length lists) (cut : take (suc i) lists ≡ take i lists ++ v ∷ []) where
  lines_to : worker_lines 1 (places_in (take (i + 1) lists)) ≡ worker_lines 1 (places_in (take i lists)) ++ worker_line (i + 1) v.items
  lines_to =
      let before = take i lists in
      let up : i + 1 ≡ suc i = omega arith in
      let long : length (places_in before) ≡ i = length-map before _ ∙ length-take-le i lists (omega arith) in
      let number : 1 + length (places_in before) ≡ i + 1 = omega (arith, long) in
      ap (λ (k : ℕ). worker_lines 1 (places_in (take k lists))) up
      ∙ (ap (λ (ls : List (Vec Place B)). worker_lines 1 (places_in ls)) cut
      ∙ (ap (worker_lines 1) (places_more before v)
      ∙ (lines_more 1 (places_in before) v.items
      ∙ ap (λ (k : ℕ). worker_lines 1 (places_in before) ++ worker_line k v.items) number)))

  pub line_put : (old new : List ℕ) → old ≡ worker_lines 1 (places_in (take i lists)) → new ≡ old ++ worker_line (i + 1) v.items → new ≡ worker_lines 1 (places_in (take (i + 1) lists))
  line_put old new before put = put ∙ (ap (λ (l : List ℕ). l ++ worker_line (i + 1) v.items) before ∙ sym lines_to)
