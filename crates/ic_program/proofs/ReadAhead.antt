-- Which lines remain after bytes were read from a reader.
use Rattle.std.proofs.Common.{◌≡◌, ℕ, ◌+◌, true, List, [], ◌++◌, length, drop, Option, Some, None, IfSome, sym, ap, ◌∙◌, subst, arith, append-nil, take-append-drop}
use Rattle.std.specs.Str.Lines.{lines}
use Rattle.std.specs.Io.{StartsWith}
use Rattle.std.specs.Io.KnownBytes.{Keeps, Consumes}
use Rattle.ic_world.specs.Family.{Family}
use Rattle.ic_program.specs.declared.own_key.OwnKey.{OwnKey}
use Rattle.ic_program.specs.declared.session.Stop.{Stop}
use Rattle.ic_program.specs.HowFar.{AnsweredFirst, AnsweredShort, StopLeft, UnlessLoss, IsLeftToRead, lines_of_both}
use Rattle.ic_program.proofs.AnsweredLemmas.{none_first, unless_loss_map}

module _ (old new : Family OwnKey ℕ) (output now : Option (List ℕ)) where
  -- if the lines are not known, nothing is stated of the lines that remain
  abbrev unknown : {all : Option (List (List ℕ))} {P Q : ℕ → List (List ℕ) → Type 0} → AnsweredFirst all P old new output now → AnsweredFirst None Q old new output now
  unknown a = record { answered = a.answered; is = a.is; left = tt }

  -- if nothing more is to be read, the lines that remain are those of the incomplete line's bytes
  pub read_end : (left : Option (List ℕ)) (cut : List ℕ) (P : ℕ → List (List ℕ) → Type 0) → IfSome left (λ xs. xs ≡ []) → AnsweredFirst (Some (lines cut)) P old new output now
      → AnsweredFirst (lines_of_both cut left) P old new output now
  read_end None cut P none a = record { answered = a.answered; is = a.is; left = tt }
  read_end (Some xs) cut P none a =
      subst (λ (t : List ℕ). AnsweredFirst (Some (lines t)) P old new output now) (sym (append-nil cut) ∙ ap (λ (l : List ℕ). cut ++ l) (sym none)) a

  pub short_end : (left : Option (List ℕ)) (cut : List ℕ) → IfSome left (λ xs. xs ≡ []) → AnsweredShort (Some (lines cut)) old output now → AnsweredShort (lines_of_both cut left) old output now
  short_end None cut none s = record { answered = s.answered; new = s.new; whole = s.whole; is = s.is; cut = s.cut; left = tt }
  short_end (Some xs) cut none s =
      subst (λ (t : List ℕ). AnsweredShort (Some (lines t)) old output now) (sym (append-nil cut) ∙ ap (λ (l : List ℕ). cut ++ l) (sym none)) s

  pub stop_end : (stop : Stop) (before after : ℕ) (left : Option (List ℕ)) (cut text : List ℕ) → text ≡ cut → IfSome left (λ xs. xs ≡ [])
      → UnlessLoss stop (AnsweredShort (Some (lines text)) old output now) (AnsweredFirst (Some (lines text)) (λ count others. StopLeft stop after (before + count) others) old new output now)
      → UnlessLoss stop (AnsweredShort (lines_of_both cut left) old output now) (AnsweredFirst (lines_of_both cut left) (λ count others. StopLeft stop after (before + count) others) old new output now)
  stop_end stop before after left cut text is none =
      unless_loss_map stop
      (λ s. short_end left cut none (subst (λ (t : List ℕ). AnsweredShort (Some (lines t)) old output now) is s))
      (λ a. read_end left cut (λ count others. StopLeft stop after (before + count) others) none
      (subst (λ (t : List ℕ). AnsweredFirst (Some (lines t)) (λ count others. StopLeft stop after (before + count) others) old new output now) is a))

  -- the bytes `taken` were taken from the reader, and the lines that end in them were answered
  pub read_on : (before after : ℕ) (left rest : Option (List ℕ)) (cut then_cut taken : List ℕ) → Consumes left rest taken
      → ((more : List ℕ) → AnsweredFirst (Some (lines (cut ++ (taken ++ more)))) (λ count others. (after ≡ before + count) × (others ≡ lines (then_cut ++ more))) old new output now)
      → AnsweredFirst (lines_of_both cut left) (λ count others. (after ≡ before + count) × IsLeftToRead then_cut rest true others) old new output now
  read_on before after None rest cut then_cut taken took a = let b = a [] in record { answered = b.answered; is = b.is; left = tt }
  read_on before after (Some xs) None cut then_cut taken took a = absurd took
  read_on before after (Some xs) (Some ys) cut then_cut taken took a =
      let b = a ys in record {
        answered = b.answered;
        is = b.is;
        left = (
          b.left.0,
          ap (λ (l : List ℕ). lines (cut ++ l)) took ∙ b.left.1,
          (b.left.2.0, ap (λ (l : List (List ℕ)). Some l) (sym b.left.2.1)),
        );
      }

  -- the bytes `shown` were seen but not taken from the reader, because the run stopped
  pub read_stop : (stop : Stop) (before after : ℕ) (left : Option (List ℕ)) (cut shown : List ℕ) → IfSome left (λ xs. StartsWith xs shown)
      → ((more : List ℕ) → UnlessLoss stop (AnsweredShort (Some (lines (cut ++ (shown ++ more)))) old output now) (AnsweredFirst (Some (lines (cut ++ (shown ++ more)))) (λ count others. StopLeft stop after (before + count) others) old new output now))
      → UnlessLoss stop (AnsweredShort (lines_of_both cut left) old output now) (AnsweredFirst (lines_of_both cut left) (λ count others. StopLeft stop after (before + count) others) old new output now)
  read_stop stop before after None cut shown front a = unless_loss_map stop
      (λ s. record { answered = s.answered; new = s.new; whole = s.whole; is = s.is; cut = s.cut; left = tt })
      (λ b. record { answered = b.answered; is = b.is; left = tt })
      (a [])
  read_stop stop before after (Some xs) cut shown front a =
      let rest : List ℕ = drop (length shown) xs in
      let split : xs ≡ shown ++ rest = sym (take-append-drop (length shown) xs) ∙ ap (λ (l : List ℕ). l ++ rest) front in
      subst (λ (l : List ℕ). UnlessLoss stop (AnsweredShort (Some (lines (cut ++ l))) old output now) (AnsweredFirst (Some (lines (cut ++ l))) (λ count others. StopLeft stop after (before + count) others) old new output now)) (sym split) (a rest)

-- nothing was taken from the reader, and no line was answered
pub read_none : (before : ℕ) (left rest : Option (List ℕ)) (cut : List ℕ) (w : Family OwnKey ℕ) (output : Option (List ℕ)) → Keeps left rest
    → AnsweredFirst (lines_of_both cut left) (λ count others. (before ≡ before + count) × IsLeftToRead cut rest true others) w w output output
read_none before None rest cut w output kept = none_first None (λ count others. (before ≡ before + count) × IsLeftToRead cut rest true others) w output (λ others is. absurd (cc (is)))
read_none before (Some xs) None cut w output kept = absurd kept
read_none before (Some xs) (Some ys) cut w output kept =
    none_first (Some (lines (cut ++ xs))) (λ count others. (before ≡ before + count) × IsLeftToRead cut (Some ys) true others) w output
    (λ others is. (omega arith, ap (λ (l : List ℕ). Some (lines (cut ++ l))) kept ∙ is))
