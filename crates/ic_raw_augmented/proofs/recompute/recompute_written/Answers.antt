use Rattle.std.proofs.Common.{◌≡◌, ◌+◌, ◌<◌, ◌≤◌, ◌||◌, ℕ, suc, Bool, Option, length, drop, refl, sym, ap, ◌∙◌, arith}
use Rattle.ic_unsafe_ref.specs.declared.place.Place.{Place}
use Rattle.ic_raw.specs.Seen.{also}
use Rattle.ic_raw_augmented.specs.Written.{is_among}
use Rattle.ic_raw_augmented.proofs.Notes.{among_drop, among_past}
use Rattle.ic_raw_augmented.proofs.recompute.recompute_written.Goals as goal

pub returns-then-written-clause-right : goal.returns-then-written-clause-right
returns-then-written-clause-right c root s shown right = c.recompute_all.ensures.right root s shown

pub loop-word-init : goal.loop-word-init
loop-word-init c = record { right = λ root s shown right. right; kept = record { count = refl; values = λ q. refl } }

pub loop-word-preserved : goal.loop-word-preserved
loop-word-preserved c =
    let ws = c.args.written.now.words in
    let i = c.loop-word.word-index in
    let next : suc i ≡ i + 1 = omega arith in
    let less : i < length ws = omega arith in
    record {
      right = λ root s shown right.
          c.recompute_from.ensures.right root s (is_among (drop (i + 1) ws)) shown (λ q m off.
          c.loop-word.invariant.right root s shown right q m
          (among_drop ws i less q
          ∙ (ap (λ (o : Option Place). also o (is_among (drop (suc i) ws)) q) (sym c.place_in.ensures)
          ∙ (ap (λ (n : ℕ). also c.place_in.result (is_among (drop n ws)) q) next ∙ off))));
      kept = record {
        count = c.recompute_from.ensures.kept.count ∙ c.loop-word.invariant.kept.count;
        values = λ q. c.recompute_from.ensures.kept.values q ∙ c.loop-word.invariant.kept.values q;
      };
    }

pub returns-clause-right : goal.returns-clause-right
returns-clause-right c root s shown right q m =
    let ws = c.args.written.now.words in
    let past : length ws ≤ c.loop-word.word-index = omega arith in
    c.loop-word.invariant.right root s shown (λ z n off. right z n (ap (λ (b : Bool). b || is_among ws z) c.if-written.false ∙ off)) q m
    (among_past ws c.loop-word.word-index past q)
