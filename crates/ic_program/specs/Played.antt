-- WHAT A RUN DID: which lines it read, which calls they are, and what it printed. `input` has the bytes that the reader can give. `output` has the
-- bytes of the writer before the run, and `now` has its bytes after the run. Each is `None` if its bytes are not known to the contract.
use Rattle.std.specs.Prelude.{◌≡◌, ◌⊎◌, ℕ, ◌+◌, ◌++◌, List, [], ◌∷◌, length, Option, Some, None, IfSome, ⊤}
use Rattle.std.specs.FinMap as map
use Rattle.std.specs.Ordering.{nat_cmp}
use Rattle.std.specs.Str.{IsUtf8}
use Rattle.std.specs.Str.Lines.{lines}
use Rattle.std.specs.Io.KnownBytes.{Appends}
use Rattle.ic_world.specs.declared.call.Command.{Command}
use Rattle.ic_world.specs.Prelude.{Reply, Family}
use Rattle.ic_world_laws.specs.Runs.{AreLawful}
use Rattle.ic_program.specs.declared.own_key.OwnKey.{OwnKey}
use Rattle.ic_program.specs.declared.line.Line.TheVariants.{NoCommand}
use Rattle.ic_program.specs.Grammar.{said_in, commands_in}
use Rattle.ic_program.specs.Printed.{lines_of, no_command_at}

-- the key of a value is the value itself
abbrev pub own_key : OwnKey → ℕ → ℕ
own_key adapter value = value

-- the family of a new world, which has no object, field or collection
abbrev pub IsNew : Family OwnKey ℕ → Type 0
IsNew w = (w.objects ≡ map.empty) × (w.fields ≡ []) × (w.collections ≡ [])

-- A RUN: the first lines of the input are commands, which were lawful calls of a new world. The writer has the lines of their replies, and then the
-- bytes `last`. `IsLeft` states where the run ended, by the number of the answered lines and by the lines that remain
pub record IsRun (input output now : Option (List ℕ)) (IsLeft : ℕ → List (List ℕ) → Type 0) (last : List ℕ) : Type 0 where
  pub first : Family OwnKey ℕ
  pub is_new : IsNew first
  pub end : Family OwnKey ℕ
  pub answered : List (List ℕ)
  pub commands : List (Command ℕ ℕ)
  pub said : commands_in answered ≡ Some commands
  pub replies : List Reply
  pub lawful : AreLawful nat_cmp own_key first commands replies end
  pub printed : Appends output now (lines_of replies ++ last)
  pub left : IfSome input (λ bytes. (others : List (List ℕ)) × (lines bytes ≡ answered ++ others) × IsLeft (length answered) others)

-- THE RUN ENDED at the end of the input: no line remains
abbrev pub NoneLeft : ℕ → List (List ℕ) → Type 0
NoneLeft count others = others ≡ []

-- THE RUN ENDED AT A LINE that is UTF-8 but not a command. The line has the number `number`, counted from 1
abbrev pub NoCommandLeft : ℕ → ℕ → List (List ℕ) → Type 0
NoCommandLeft number count [] = ⊥
NoCommandLeft number count (line ∷ others) = (number ≡ count + 1) × (said_in line ≡ NoCommand) × IsUtf8 line

-- THE RUN MAY HAVE ENDED at any line: nothing is stated
abbrev pub AnyLeft : ℕ → List (List ℕ) → Type 0
AnyLeft count others = ⊤

-- the bytes `now` are a beginning of the bytes `whole`, if `whole` are known
abbrev pub CutTo : Option (List ℕ) → Option (List ℕ) → Type 0
CutTo None now = ⊤
CutTo (Some whole) None = ⊥
CutTo (Some whole) (Some now) = (rest : List ℕ) × (whole ≡ now ++ rest)

-- A RUN, HOWEVER IT ENDED: the writer has a beginning of the bytes that some run writes. That run may end at any line without a notice, or with the
-- notice of a line that is not a command
abbrev pub IsRunSoFar : Option (List ℕ) → Option (List ℕ) → Option (List ℕ) → Type 0
IsRunSoFar input output now =
    (whole : Option (List ℕ)) × CutTo whole now
    × (IsRun input output whole AnyLeft [] ⊎ ((line : ℕ) × IsRun input output whole (NoCommandLeft line) (no_command_at line)))
