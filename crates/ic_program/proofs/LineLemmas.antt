-- What a line means, found from its words.
use Rattle.std.proofs.Common.{◌≡◌, ◌≢◌, ℕ, ◌<◌, List, [], ◌∷◌, Option, Some, None, refl, sym, ap, ◌∙◌}
use Rattle.ic_world.specs.declared.call.Command.{Command}
use Rattle.ic_program.specs.declared.line.Line.TheVariants.{Empty, Call, NoCommand}
use Rattle.ic_program.specs.Grammar.{command_in, said_by, said_in}
use Rattle.ic_program.specs.Slots.{IsNoCallAt}
use Rattle.ic_program.specs.Text.{line_in, words_in, after_line, after_spaces}
use Rattle.ic_program.proofs.TextLemmas.{words_spaces, after_line_spaces}
use Rattle.ic_program.proofs.CallLemmas.{no_command, no_words}

pub says_nothing : (text : List ℕ) → words_in text ≡ [] → Empty ≡ said_in (line_in text)
says_nothing text none = sym (ap (λ ws. said_by ws (command_in (words_in text))) none)

said : (words : List (List ℕ)) (command : Command ℕ ℕ) (o : Option (Command ℕ ℕ)) → command_in words ≡ Some command → o ≡ Some command → Call command ≡ said_by words o
said [] command o is same = absurd (cc (is, no_words))
said (w ∷ ws) command o is same = sym (ap (said_by (w ∷ ws)) same)

pub says_call : (text : List ℕ) (command : Command ℕ ℕ) → command_in (words_in text) ≡ Some command → Call command ≡ said_in (line_in text)
says_call text command is = said (words_in text) command (command_in (words_in text)) is is

pub says_call_after : (text start : List ℕ) (command : Command ℕ ℕ) → start ≡ after_spaces text → command_in (words_in start) ≡ Some command → Call command ≡ said_in (line_in text)
says_call_after text start command is said = says_call text command (ap command_in (sym (ap words_in is ∙ words_spaces text)) ∙ said)

pub says_none : (text start : List ℕ) → start ≡ after_spaces text → words_in text ≢ [] → ((slot : ℕ) → slot < 64 → IsNoCallAt slot (words_in start)) → NoCommand ≡ said_in (line_in text)
says_none text start is some none =
    at (words_in text) (command_in (words_in text)) some (ap command_in (sym (ap words_in is ∙ words_spaces text)) ∙ no_command (words_in start) none)
  where
    at : (words : List (List ℕ)) (o : Option (Command ℕ ℕ)) → words ≢ [] → o ≡ None → NoCommand ≡ said_by words o
    at [] o some none = absurd (some refl)
    at (w ∷ ws) o some none = sym (ap (said_by (w ∷ ws)) none)

pub after_same : (text start rest : List ℕ) → start ≡ after_spaces text → rest ≡ after_line start → rest ≡ after_line text
after_same text start rest is after = after ∙ ap after_line is ∙ after_line_spaces text
