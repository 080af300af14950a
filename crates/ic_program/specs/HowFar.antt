-- HOW MANY LINES WERE ANSWERED by each function of which a run of the program consists, and what remains after a fault.
use Rattle.std.specs.Prelude.{◌≡◌, ℕ, ◌+◌, ◌++◌, Bool, true, false, cond, List, [], ◌∷◌, length, Option, Some, option_map, Result, Ok, Err, IsTrue, IfSome, MatchResult, ⊤}
use Rattle.std.specs.Ordering.{nat_cmp}
use Rattle.std.specs.Str.{IsUtf8}
use Rattle.std.specs.Str.Lines.{lines}
use Rattle.std.specs.Io.KnownBytes.{Appends, Keeps, append_known}
use Rattle.ic_world.specs.declared.call.Command.{Command}
use Rattle.ic_world.specs.Prelude.{Reply, Family}
use Rattle.ic_world_laws.specs.Runs.{IsLawful, AreLawful}
use Rattle.ic_program.specs.declared.own_key.OwnKey.{OwnKey}
use Rattle.ic_program.specs.declared.fault.Fault.{Fault}
use Rattle.ic_program.specs.declared.fault.Fault.TheVariants.{NotText, Reading, Writing, Memory}
use Rattle.ic_program.specs.declared.line.Line.TheVariants.{NoCommand as NoLine}
use Rattle.ic_program.specs.declared.session.Stop.{Stop}
use Rattle.ic_program.specs.declared.session.Stop.TheVariants.{NoCommand, Fault as AFault}
use Rattle.ic_program.specs.declared.program.Ending.{Ending}
use Rattle.ic_program.specs.declared.program.Ending.TheVariants.{Finished, NotUnderstood}
use Rattle.ic_program.specs.Grammar.{said_in, commands_in}
use Rattle.ic_program.specs.Printed.{line_of, lines_of, no_command_at}
use Rattle.ic_program.specs.Played.{own_key, CutTo, IsRun, IsRunSoFar, NoneLeft, NoCommandLeft}

-- ONE CALL WAS ANSWERED: the call was lawful, and the line of its reply was appended to the bytes of the output
pub record AnswersCall (command : Command ℕ ℕ) (old new : Family OwnKey ℕ) (output now : List ℕ) : Type 0 where
  pub reply : Reply
  pub lawful : IsLawful nat_cmp own_key old command reply new
  pub line : now ≡ output ++ line_of reply

-- LINES WERE ANSWERED: their commands were lawful calls that led from the family `old` to `new`. The lines of their replies were appended to the
-- bytes of the output, as far as these are known
pub record Answered (answered : List (List ℕ)) (old new : Family OwnKey ℕ) (output now : Option (List ℕ)) : Type 0 where
  pub commands : List (Command ℕ ℕ)
  pub said : commands_in answered ≡ Some commands
  pub replies : List Reply
  pub lawful : AreLawful nat_cmp own_key old commands replies new
  pub printed : Appends output now (lines_of replies)

-- THE FIRST LINES OF `all` WERE ANSWERED, and `IsLeft` holds of the number of answered lines and of the lines that remain. If `all` is not known,
-- nothing is stated of the remaining lines
pub record AnsweredFirst (all : Option (List (List ℕ))) (IsLeft : ℕ → List (List ℕ) → Type 0)
    (old new : Family OwnKey ℕ) (output now : Option (List ℕ)) : Type 0 where
  pub answered : List (List ℕ)
  pub is : Answered answered old new output now
  pub left : IfSome all (λ ls. (others : List (List ℕ)) × (ls ≡ answered ++ others) × IsLeft (length answered) others)

-- THE FIRST LINES OF `all` WERE ANSWERED, BUT perhaps only a beginning of the answers was written
pub record AnsweredShort (all : Option (List (List ℕ))) (old : Family OwnKey ℕ) (output now : Option (List ℕ)) : Type 0 where
  pub answered : List (List ℕ)
  pub new : Family OwnKey ℕ
  pub whole : Option (List ℕ)
  pub is : Answered answered old new output whole
  pub cut : CutTo whole now
  pub left : IfSome all (λ ls. (others : List (List ℕ)) × (ls ≡ answered ++ others))

-- the first remaining line is not UTF-8. It has the number `number`, counted from 1, if `count` lines were answered before it
abbrev pub NotTextLeft : ℕ → ℕ → List (List ℕ) → Type 0
NotTextLeft number count [] = ⊥
NotTextLeft number count (line ∷ others) = (number ≡ count + 1) × (said_in line ≡ NoLine) × ¬ (IsUtf8 line)

-- whether answers may be lost by a fault. This is so if writing failed or there was not enough memory
abbrev pub is_loss : Fault → Bool
is_loss (NotText line) = false
is_loss (Reading lines) = false
is_loss Writing = true
is_loss Memory = true

-- where a fault stopped the run: at a line that is not UTF-8, or after the lines that were read if reading failed. If a write failed or memory ran
-- out, nothing is stated
abbrev pub FaultLeft : Fault → ℕ → List (List ℕ) → Type 0
FaultLeft (NotText line) count others = NotTextLeft line count others
FaultLeft (Reading read) count others = read ≡ count
FaultLeft Writing count others = ⊤
FaultLeft Memory count others = ⊤

-- where a run stopped that had read `read` lines: at a line that is not a command, or where a fault stopped it
abbrev pub StopLeft : Stop → ℕ → ℕ → List (List ℕ) → Type 0
StopLeft NoCommand read count others = NoCommandLeft read count others
StopLeft (AFault fault) read count others = FaultLeft fault count others

-- the lines of the text that begins with the bytes `cut` of an incomplete line, and goes on with the bytes `more`. The result is none if `more` is
-- not known
abbrev pub lines_of_both : List ℕ → Option (List ℕ) → Option (List (List ℕ))
lines_of_both cut more = option_map (λ bytes. lines (cut ++ bytes)) more

-- `others` are the lines that remain after a read. If the read found bytes (`true`), they are the lines of `cut` and `more` together. If it was at
-- the end of the input (`false`), no line remains
abbrev pub IsLeftToRead : List ℕ → Option (List ℕ) → Bool → List (List ℕ) → Type 0
IsLeftToRead cut more true others = lines_of_both cut more ≡ Some others
IsLeftToRead cut more false others = others ≡ []

-- the run stopped at a fault by which answers may be lost
abbrev pub IsLost : Stop → Type 0
IsLost NoCommand = ⊥
IsLost (AFault fault) = IsTrue (is_loss fault)

-- `Loss` holds if the run stopped at a fault by which answers may be lost. After any other stop P holds
abbrev pub UnlessLoss : Stop → Type 0 → Type 0 → Type 0
UnlessLoss NoCommand Loss P = P
UnlessLoss (AFault fault) Loss P = cond (is_loss fault) Loss P

-- HOW FAR A FUNCTION ANSWERED LINES: it answered the first lines of `all`. Before the function `before` lines were read, and after it `after` lines.
-- The result says which lines remain. If answers may be lost, perhaps only a beginning of the answers was written
abbrev pub HowFar : {T : Type 0} → Result T Stop → ℕ → ℕ → (T → List (List ℕ) → Type 0) → Option (List (List ℕ))
    → Family OwnKey ℕ → Family OwnKey ℕ → Option (List ℕ) → Option (List ℕ) → Type 0
HowFar (Ok x) before after IsLeft all old new output now =
    AnsweredFirst all (λ count others. (after ≡ before + count) × IsLeft x others) old new output now
HowFar (Err stop) before after IsLeft all old new output now =
    UnlessLoss stop (AnsweredShort all old output now)
    (AnsweredFirst all (λ count others. StopLeft stop after (before + count) others) old new output now)

-- HOW A STOP ENDS A RUN: if a line was not a command, a notice is written as far as the writer takes it. After a fault nothing more is written
abbrev pub EndsStopped : Stop → ℕ → Result Ending Fault → Option (List ℕ) → Option (List ℕ) → Type 0
EndsStopped NoCommand line result output now =
    MatchResult result (λ ending. (ending ≡ NotUnderstood) × Appends output now (no_command_at line))
    (λ fault. IsTrue (is_loss fault) × CutTo (append_known output (no_command_at line)) now)
EndsStopped (AFault fault) line result output now = (result ≡ Err fault) × Keeps output now

-- HOW A RUN ENDS: if no answer was lost, all answers were written. If a line was not a command, a notice of this line follows them
abbrev pub Ends : Result Ending Fault → Option (List ℕ) → Option (List ℕ) → Option (List ℕ) → Type 0
Ends (Ok Finished) input output now = IsRun input output now NoneLeft []
Ends (Ok NotUnderstood) input output now = (line : ℕ) × IsRun input output now (NoCommandLeft line) (no_command_at line)
Ends (Err fault) input output now = cond (is_loss fault) (IsRunSoFar input output now) (IsRun input output now (FaultLeft fault) [])
