-- How the runs of the program end.
use Rattle.std.proofs.Common.{◌≡◌, ℕ, ◌+◌, Bool, List, [], ◌++◌, length, Option, Some, None, Result, Ok, Err, IsErr, IsErrAnd, OnSome, IfSome, true, false, cond, arith, refl, sym, ap, ◌∙◌, subst, append-nil, inl, inr, ◌⊎◌, IsSome, IsTrue, IfOk}
use Rattle.std.specs.FinMap as map
use Rattle.std.specs.Str.Lines.{lines}
use Rattle.std.proofs.KnownBytes.{Appends-trans, Appends-kept, Keeps-refl}
use Rattle.std.specs.Io.KnownBytes.{Appends, Keeps, IsAtEnd, append_known}
use Rattle.ic_world.specs.Family.{Family}
use Rattle.ic_program.specs.declared.own_key.OwnKey.{OwnKey}
use Rattle.ic_program.specs.declared.fault.Fault.{Fault}
use Rattle.ic_program.specs.declared.session.Stop.{Stop}
use Rattle.ic_program.specs.declared.session.Stop.TheVariants.{NoCommand, Fault as AFault}
use Rattle.ic_program.specs.declared.program.Ending.{Ending}
use Rattle.ic_program.specs.declared.program.Ending.TheVariants.{Finished, NotUnderstood}
use Rattle.ic_program.specs.Printed.{lines_of, no_command_at}
use Rattle.ic_program.specs.Played.{IsNew, IsRun, IsRunSoFar, CutTo, AnyLeft, NoneLeft, NoCommandLeft}
use Rattle.ic_program.specs.HowFar.{AnsweredFirst, AnsweredShort, FaultLeft, StopLeft, IsLeftToRead, lines_of_both, UnlessLoss, Ends, EndsStopped, is_loss}
use Rattle.ic_program.proofs.AnsweredLemmas.{none_first, and_then, first_kept, left_as, short_then, short_cut, short_none}
use Rattle.ic_program.proofs.CutLemmas.{cut_nothing, cut_more, cut_kept, appended_after}

-- all lines of the input, or none if its bytes are not known
abbrev pub lines_in : Option (List ℕ) → Option (List (List ℕ))
lines_in input = lines_of_both [] input

-- if no bytes wait, the known bytes stay the same when the waiting bytes are appended to them
none_waits : (known : Option (List ℕ)) (waits : List ℕ) → waits ≡ [] → Keeps known (append_known known waits)
none_waits None waits is = tt
none_waits (Some xs) waits is = ap (λ (l : List ℕ). xs ++ l) is ∙ append-nil xs

-- ONE ROUND: the lines that were read are answered after the earlier answers, and their answers are written
pub round : (input left rest : Option (List ℕ)) (cut then_cut : List ℕ) (going : Bool) (at after : ℕ) (first old new : Family OwnKey ℕ) (output k0 k1 k2 : Option (List ℕ)) (waits then_waits : List ℕ)
    → AnsweredFirst (lines_in input) (λ count others. (at ≡ count) × IsLeftToRead cut left true others) first old output k0 → waits ≡ []
    → AnsweredFirst (lines_of_both cut left) (λ count others. (after ≡ at + count) × IsLeftToRead then_cut rest going others) old new (append_known k0 waits) (append_known k1 then_waits)
    → Keeps (append_known k1 then_waits) k2
    → AnsweredFirst (lines_in input) (λ count others. (after ≡ count) × IsLeftToRead then_cut rest going others) first new output k2
round input left rest cut then_cut going at after first old new output k0 k1 k2 waits then_waits a none b kept =
    first_kept (lines_in input) (λ count others. (after ≡ count) × IsLeftToRead then_cut rest going others) first new new output (append_known k1 then_waits) k2
    (and_then (lines_in input) (lines_of_both cut left) (λ count others. (at ≡ count) × IsLeftToRead cut left true others) (λ count others. (after ≡ at + count) × IsLeftToRead then_cut rest going others)
    (λ count others. (after ≡ count) × IsLeftToRead then_cut rest going others) first old new output (append_known k0 waits) (append_known k1 then_waits)
    (first_kept (lines_in input) (λ count others. (at ≡ count) × IsLeftToRead cut left true others) first old old output k0 (append_known k0 waits) a (none_waits k0 waits none) refl) b
    (λ count others next. next.1)
    (λ count count2 others others2 next then. (omega (arith, next.0, then.0), then.1)))
    kept refl

pub last_round : (input left : Option (List ℕ)) (cut : List ℕ) (stop : Stop) (at after : ℕ) (first old new : Family OwnKey ℕ) (output k0 k1 k2 : Option (List ℕ)) (waits then_waits : List ℕ)
    → AnsweredFirst (lines_in input) (λ count others. (at ≡ count) × IsLeftToRead cut left true others) first old output k0 → waits ≡ []
    → AnsweredFirst (lines_of_both cut left) (λ count others. StopLeft stop after (at + count) others) old new (append_known k0 waits) (append_known k1 then_waits)
    → Keeps (append_known k1 then_waits) k2
    → AnsweredFirst (lines_in input) (λ count others. StopLeft stop after count others) first new output k2
last_round input left cut stop at after first old new output k0 k1 k2 waits then_waits a none b kept =
    first_kept (lines_in input) (λ count others. StopLeft stop after count others) first new new output (append_known k1 then_waits) k2
    (and_then (lines_in input) (lines_of_both cut left) (λ count others. (at ≡ count) × IsLeftToRead cut left true others) (λ count others. StopLeft stop after (at + count) others)
    (λ count others. StopLeft stop after count others) first old new output (append_known k0 waits) (append_known k1 then_waits)
    (first_kept (lines_in input) (λ count others. (at ≡ count) × IsLeftToRead cut left true others) first old old output k0 (append_known k0 waits) a (none_waits k0 waits none) refl) b
    (λ count others next. next.1)
    (λ count count2 others others2 next then. let same : at + count2 ≡ count + count2 = omega (arith, next.0) in subst (λ n. StopLeft stop after n others2) same then))
    kept refl

pub short_round : (input left : Option (List ℕ)) (cut : List ℕ) (at : ℕ) (first old : Family OwnKey ℕ) (output k0 k1 k2 : Option (List ℕ)) (waits then_waits : List ℕ)
    → AnsweredFirst (lines_in input) (λ count others. (at ≡ count) × IsLeftToRead cut left true others) first old output k0 → waits ≡ []
    → AnsweredShort (lines_of_both cut left) old (append_known k0 waits) (append_known k1 then_waits)
    → CutTo (append_known k1 then_waits) k2
    → AnsweredShort (lines_in input) first output k2
short_round input left cut at first old output k0 k1 k2 waits then_waits a none s short =
    short_cut (lines_in input) first output (append_known k1 then_waits) k2
    (short_then (lines_in input) (lines_of_both cut left) (λ count others. (at ≡ count) × IsLeftToRead cut left true others) first old output (append_known k0 waits) (append_known k1 then_waits)
    (first_kept (lines_in input) (λ count others. (at ≡ count) × IsLeftToRead cut left true others) first old old output k0 (append_known k0 waits) a (none_waits k0 waits none) refl) s
    (λ count others next. next.1))
    short

-- if the first lines of the input were answered on a new world, and then the bytes `last` were written, this is a run
run_of : (input output mid now : Option (List ℕ)) (IsLeft : ℕ → List (List ℕ) → Type 0) (last : List ℕ) (first end : Family OwnKey ℕ) → IsNew first
    → AnsweredFirst (lines_in input) IsLeft first end output mid → Appends mid now last → IsRun input output now IsLeft last
run_of input output mid now IsLeft last first end is_new a line = record {
  first = first;
  is_new = is_new;
  end = end;
  answered = a.answered;
  commands = a.is.commands;
  said = a.is.said;
  replies = a.is.replies;
  lawful = a.is.lawful;
  printed = Appends-trans output mid now (lines_of a.is.replies) last a.is.printed line;
  left = at input a.left;
}
  where
    at : (input : Option (List ℕ)) → IfSome (lines_in input) (λ ls. (others : List (List ℕ)) × (ls ≡ a.answered ++ others) × IsLeft (length a.answered) others)
        → IfSome input (λ bytes. (others : List (List ℕ)) × (lines bytes ≡ a.answered ++ others) × IsLeft (length a.answered) others)
    at None left = tt
    at (Some bytes) left = left

nothing_more : (a : Option (List ℕ)) → (b : Option (List ℕ)) → Keeps a b → Appends a b []
nothing_more None b kept = tt
nothing_more (Some xs) (Some ys) kept = kept ∙ sym (append-nil xs)
nothing_more (Some xs) None kept = absurd kept

pub run_so_far : (input output mid now : Option (List ℕ)) (IsLeft : ℕ → List (List ℕ) → Type 0) (first end : Family OwnKey ℕ) → IsNew first
    → AnsweredFirst (lines_in input) IsLeft first end output mid → Keeps mid now → IsRun input output now IsLeft []
run_so_far input output mid now IsLeft first end is_new a kept = run_of input output mid now IsLeft [] first end is_new a (nothing_more mid now kept)

pub run_finished : (input output now : Option (List ℕ)) (after : ℕ) (cut : List ℕ) (rest : Option (List ℕ)) (going : Bool) (first end : Family OwnKey ℕ) → IsNew first → going ≡ false
    → AnsweredFirst (lines_in input) (λ count others. (after ≡ count) × IsLeftToRead cut rest going others) first end output now → IsRun input output now NoneLeft []
run_finished input output now after cut rest going first end is_new is a =
    run_so_far input output now now NoneLeft first end is_new
    (left_as (lines_in input) (λ count others. (after ≡ count) × IsLeftToRead cut rest going others) NoneLeft first end output now a
    (λ count others next. subst (λ b. IsLeftToRead cut rest b others) is next.1)) (Keeps-refl now)

-- the run goes on after a round that did not end it
pub run_on : (input output mid now : Option (List ℕ)) (after last : ℕ) (cut : List ℕ) (rest : Option (List ℕ)) (going : Bool) (first end same : Family OwnKey ℕ) → going ≡ true → last ≡ after → same ≡ end
    → AnsweredFirst (lines_in input) (λ count others. (after ≡ count) × IsLeftToRead cut rest going others) first end output mid → Keeps mid now
    → AnsweredFirst (lines_in input) (λ count others. (last ≡ count) × IsLeftToRead cut rest true others) first same output now
run_on input output mid now after last cut rest going first end same is last_is same_is a kept =
    first_kept (lines_in input) (λ count others. (last ≡ count) × IsLeftToRead cut rest true others) first end same output mid now
    (left_as (lines_in input) (λ count others. (after ≡ count) × IsLeftToRead cut rest going others) (λ count others. (last ≡ count) × IsLeftToRead cut rest true others) first end output mid a
    (λ count others next. (last_is ∙ next.0, subst (λ b. IsLeftToRead cut rest b others) is next.1))) kept same_is

-- a run begins with no line read, and with no incomplete line
pub run_begins : (input output : Option (List ℕ)) (read : ℕ) (cut : List ℕ) (first : Family OwnKey ℕ) → read ≡ 0 → cut ≡ []
    → AnsweredFirst (lines_in input) (λ count others. (read ≡ count) × IsLeftToRead cut input true others) first first output output
run_begins input output read cut first zero none =
    none_first (lines_in input) (λ count others. (read ≡ count) × IsLeftToRead cut input true others) first output
    (λ others is. (zero, ap (λ (c : List ℕ). lines_of_both c input) none ∙ is))

-- the program gave up after as many reads as its counter can count, and what it answered is a run
pub run_endless : (input output now : Option (List ℕ)) (after : ℕ) (cut : List ℕ) (rest : Option (List ℕ)) (first end : Family OwnKey ℕ) → IsNew first
    → AnsweredFirst (lines_in input) (λ count others. (after ≡ count) × IsLeftToRead cut rest true others) first end output now → IsRun input output now (λ count others. after ≡ count) []
run_endless input output now after cut rest first end is_new a =
    run_so_far input output now now (λ count others. after ≡ count) first end is_new
    (left_as (lines_in input) (λ count others. (after ≡ count) × IsLeftToRead cut rest true others) (λ count others. after ≡ count) first end output now a (λ count others is. is.0)) (Keeps-refl now)

-- a run stays a run if nothing more is written
kept_run : (input output mid now : Option (List ℕ)) (IsLeft : ℕ → List (List ℕ) → Type 0) (last : List ℕ) → IsRun input output mid IsLeft last → Keeps mid now → IsRun input output now IsLeft last
kept_run input output mid now IsLeft last run kept = record {
  first = run.first;
  is_new = run.is_new;
  end = run.end;
  answered = run.answered;
  commands = run.commands;
  said = run.said;
  replies = run.replies;
  lawful = run.lawful;
  printed = Appends-kept output mid now (lines_of run.replies ++ last) run.printed kept;
  left = run.left;
}

-- A RUN, HOWEVER IT ENDED: either all answers were written, or only a beginning of them
any_left : (input output now : Option (List ℕ)) (IsLeft : ℕ → List (List ℕ) → Type 0) (last : List ℕ) → IsRun input output now IsLeft last → IsRun input output now AnyLeft last
any_left input output now IsLeft last run = record {
  first = run.first;
  is_new = run.is_new;
  end = run.end;
  answered = run.answered;
  commands = run.commands;
  said = run.said;
  replies = run.replies;
  lawful = run.lawful;
  printed = run.printed;
  left = at input run.left;
}
  where
    at : (input : Option (List ℕ)) → IfSome input (λ bytes. (others : List (List ℕ)) × (lines bytes ≡ run.answered ++ others) × IsLeft (length run.answered) others)
        → IfSome input (λ bytes. (others : List (List ℕ)) × (lines bytes ≡ run.answered ++ others) × AnyLeft (length run.answered) others)
    at None left = tt
    at (Some bytes) left = (left.0, left.1, tt)

pub so_far : (input output now : Option (List ℕ)) (r : Result Ending Fault) → Ends r input output now → IsRunSoFar input output now
so_far input output now (Ok Finished) ends = (now, cut_nothing now, inl (any_left input output now NoneLeft [] ends))
so_far input output now (Ok NotUnderstood) ends = (now, cut_nothing now, inr ends)
so_far input output now (Err fault) ends =
    let both : cond (is_loss fault) (IsRunSoFar input output now) (IsRun input output now (FaultLeft fault) []) → IsRunSoFar input output now =
    elim (is_loss fault) as (λ b. cond b (IsRunSoFar input output now) (IsRun input output now (FaultLeft fault) []) → IsRunSoFar input output now)
    [ true ↦ λ s. s | false ↦ λ run. (now, cut_nothing now, inl (any_left input output now (FaultLeft fault) [] run)) ] in
    both ends

so_far_kept : (input output mid now : Option (List ℕ)) → IsRunSoFar input output mid → Keeps mid now → IsRunSoFar input output now
so_far_kept input output mid now s kept = (s.0, cut_more s.0 mid now s.1 (cut_kept mid now kept), s.2)

short_so_far : (input output now : Option (List ℕ)) (first : Family OwnKey ℕ) → IsNew first → AnsweredShort (lines_in input) first output now → IsRunSoFar input output now
short_so_far input output now first is_new s =
    let whole : AnsweredFirst (lines_in input) AnyLeft first s.new output s.whole = record { answered = s.answered; is = s.is; left = at (lines_in input) s.left } in
    (s.whole, s.cut, inl (run_so_far input output s.whole s.whole AnyLeft first s.new is_new whole (Keeps-refl s.whole)))
  where
    at : (all : Option (List (List ℕ))) → IfSome all (λ ls. (others : List (List ℕ)) × (ls ≡ s.answered ++ others))
        → IfSome all (λ ls. (others : List (List ℕ)) × (ls ≡ s.answered ++ others) × AnyLeft (length s.answered) others)
    at None left = tt
    at (Some ls) left = (left.0, left.1, tt)

-- A FAULT BY WHICH ANSWERS MAY BE LOST ends the run as `Ends` states
lost_run : (input output now : Option (List ℕ)) (fault : Fault) (r : Result Ending Fault) → IsErr r × IsErrAnd r (λ passed. passed ≡ fault) → IsTrue (is_loss fault) → IsRunSoFar input output now → Ends r input output now
lost_run input output now fault (Err passed) is loses s =
    subst (λ (f : Fault). cond (is_loss f) (IsRunSoFar input output now) (IsRun input output now (FaultLeft f) [])) (sym is.1)
    (subst (λ b. cond b (IsRunSoFar input output now) (IsRun input output now (FaultLeft fault) [])) (sym loses) s)
lost_run input output now fault (Ok end) is loses s = absurd is.1

pub lost_answers : (input output now : Option (List ℕ)) (fault : Fault) (r : Result Ending Fault) (first : Family OwnKey ℕ) → IsErr r × IsErrAnd r (λ passed. passed ≡ fault) → IsTrue (is_loss fault)
    → IsNew first → AnsweredShort (lines_in input) first output now → Ends r input output now
lost_answers input output now fault r first is loses is_new s = lost_run input output now fault r is loses (short_so_far input output now first is_new s)

-- a run that fails before it makes a world has written nothing, which is the beginning of a run
no_world : Family OwnKey ℕ
no_world = record { adapter = record {}; objects = map.empty; fields = []; collections = [] }

pub no_run : (input output : Option (List ℕ)) → IsRunSoFar input output output
unfolding no_world
no_run input output = short_so_far input output output no_world (refl, refl, refl) (short_none (lines_in input) no_world output)

-- A STOP ENDS THE RUN as `Ends` states
pub stopped_run : (input output mid now : Option (List ℕ)) (stop : Stop) (line : ℕ) (r : Result Ending Fault) (first end : Family OwnKey ℕ) → IsNew first
    → UnlessLoss stop (AnsweredShort (lines_in input) first output mid) (AnsweredFirst (lines_in input) (λ count others. StopLeft stop line count others) first end output mid) → EndsStopped stop line r mid now → Ends r input output now
stopped_run input output mid now NoCommand line (Ok Finished) first end is_new a e = absurd (cc (e.0))
stopped_run input output mid now NoCommand line (Ok NotUnderstood) first end is_new a e = (line, run_of input output mid now (NoCommandLeft line) (no_command_at line) first end is_new a e.1)
stopped_run input output mid now NoCommand line (Err fault) first end is_new a e =
    let whole = append_known mid (no_command_at line) in
    let run = run_of input output mid whole (NoCommandLeft line) (no_command_at line) first end is_new a (appended_after mid (no_command_at line)) in
    subst (λ b. cond b (IsRunSoFar input output now) (IsRun input output now (FaultLeft fault) [])) (sym e.0) (whole, e.1, inr (line, run))
stopped_run input output mid now (AFault fault) line r first end is_new a e =
    let Short = AnsweredShort (lines_in input) first output mid in
    let run : cond (is_loss fault) Short (AnsweredFirst (lines_in input) (FaultLeft fault) first end output mid) → cond (is_loss fault) (IsRunSoFar input output now) (IsRun input output now (FaultLeft fault) []) =
    elim (is_loss fault) as (λ b. cond b Short (AnsweredFirst (lines_in input) (FaultLeft fault) first end output mid) → cond b (IsRunSoFar input output now) (IsRun input output now (FaultLeft fault) []))
    [ true ↦ λ s. so_far_kept input output mid now (short_so_far input output mid first is_new s) e.1 | false ↦ λ p. run_so_far input output mid now (FaultLeft fault) first end is_new p e.1 ] in
    subst (λ (x : Result Ending Fault). Ends x input output now) (sym e.0) (run a)

-- a flush of the writer writes no more bytes, so the end of the run stays as it was
flushed_fault : (input output mid now : Option (List ℕ)) (fault : Fault) → Ends (Err fault) input output mid → Keeps mid now → Ends (Err fault) input output now
flushed_fault input output mid now fault ends kept =
    let both : cond (is_loss fault) (IsRunSoFar input output mid) (IsRun input output mid (FaultLeft fault) []) → cond (is_loss fault) (IsRunSoFar input output now) (IsRun input output now (FaultLeft fault) []) =
    elim (is_loss fault) as (λ b. cond b (IsRunSoFar input output mid) (IsRun input output mid (FaultLeft fault) []) → cond b (IsRunSoFar input output now) (IsRun input output now (FaultLeft fault) []))
    [ true ↦ λ s. so_far_kept input output mid now s kept | false ↦ λ p. kept_run input output mid now (FaultLeft fault) [] p kept ] in
    both ends

flushed_same : (input output mid now : Option (List ℕ)) (r : Result Ending Fault) → Ends r input output mid → Keeps mid now → Ends r input output now
flushed_same input output mid now (Ok Finished) ends kept = kept_run input output mid now NoneLeft [] ends kept
flushed_same input output mid now (Ok NotUnderstood) ends kept = (ends.0, kept_run input output mid now (NoCommandLeft ends.0) (no_command_at ends.0) ends.1 kept)
flushed_same input output mid now (Err fault) ends kept = flushed_fault input output mid now fault ends kept

pub flushed_run : (input output mid now : Option (List ℕ)) (ending r : Result Ending Fault) → Ends ending input output mid → Keeps mid now
    → IfOk r (λ end. ending ≡ Ok end) → ((fault : Fault) → r ≡ Err fault → (ending ≡ Err fault) ⊎ IsTrue (is_loss fault)) → Ends r input output now
flushed_run input output mid now ending (Ok end) ends kept same fault = subst (λ (x : Result Ending Fault). Ends x input output now) same (flushed_same input output mid now ending ends kept)
flushed_run input output mid now ending (Err f) ends kept same fault =
    elim (fault f refl) [
      | inl is ↦ subst (λ (x : Result Ending Fault). Ends x input output now) is (flushed_same input output mid now ending ends kept)
      | inr lost ↦ subst (λ b. cond b (IsRunSoFar input output now) (IsRun input output now (FaultLeft f) [])) (sym lost) (so_far_kept input output mid now (so_far input output mid ending ends) kept)
    ]

-- THE STATUS OF A RUN says how the run ended: for example, a run with the status 0 came to the end of its input
pub finished_run : (input output now : Option (List ℕ)) (r : Result Ending Fault) (status : ℕ) (P : Type 0)
    → (status ≡ 3) ⊎ ((r ≡ Ok Finished) × (status ≡ 0)) ⊎ ((r ≡ Ok NotUnderstood) × (status ≡ 2)) → Ends r input output now → (r ≡ Ok Finished → P) → status ≡ 0
    → IsRun input output now NoneLeft [] × P
finished_run input output now r status P how ends read zero =
    elim how [
      | inl fault ↦ absurd (omega (arith, fault, zero))
      | inr ended ↦ elim ended [
        | inl is ↦ (subst (λ (x : Result Ending Fault). Ends x input output now) is.0 ends, read is.0)
        | inr not ↦ absurd (omega (arith, not.1, zero))
      ]
    ]

-- a reader that had no bytes left, and was not changed, is at its end
pub nothing_left : (old new : Option (List ℕ)) → Keeps old new → IfSome old (λ xs. xs ≡ []) → OnSome old (IsAtEnd new)
nothing_left None new kept none = tt
nothing_left (Some xs) (Some ys) kept none = kept ∙ none
nothing_left (Some xs) None kept none = absurd kept

-- if the bytes of a reader were known at first, they are known before the last read. So a reader that is at its end after this read has no more input
pub still_known : (first old new : Option (List ℕ)) → OnSome first (IsSome old) → OnSome old (IsAtEnd new) → OnSome first (IsAtEnd new)
still_known None old new known end = tt
still_known (Some xs) (Some ys) new known end = end
still_known (Some xs) None new known end = absurd (cc (known))

pub known_on : (first old new : Option (List ℕ)) → OnSome first (IsSome old) → OnSome old (IsSome new) → OnSome first (IsSome new)
known_on None old new known goes_on = tt
known_on (Some xs) (Some ys) new known goes_on = goes_on
known_on (Some xs) None new known goes_on = absurd (cc (known))

-- if the reader returned no bytes, no bytes are left
pub none_represented : {S E : Type 0} (old : Option (List ℕ)) (r : Result S E) (s : S) (P : S → Type 0) → r ≡ Ok s → P s → IfSome old (λ xs. IfOk r (λ t. P t → xs ≡ [])) → IfSome old (λ xs. xs ≡ [])
none_represented None r s P is p h = tt
none_represented {S} {E} (Some xs) r s P is p h = subst (λ (x : Result S E). IfOk x (λ t. P t → xs ≡ [])) is h p

-- a run that was stopped did not come to the end of its input
pub stopped_not_finished : (stop : Stop) (line : ℕ) (r : Result Ending Fault) (output now : Option (List ℕ)) → EndsStopped stop line r output now → r ≡ Ok Finished → ⊥
stopped_not_finished NoCommand line (Ok Finished) output now ends is = absurd (cc (ends.0))
stopped_not_finished NoCommand line (Ok NotUnderstood) output now ends is = absurd (cc (is))
stopped_not_finished NoCommand line (Err fault) output now ends is = absurd (cc (is))
stopped_not_finished (AFault fault) line r output now ends is = absurd (cc (ends.0, is))

pub known_itself : (known : Option (List ℕ)) → OnSome known (IsSome known)
known_itself None = tt
known_itself (Some xs) = refl
