-- How the program's functions together answer lines: which lines are answered, and what remains.
use Rattle.std.proofs.Common.{◌≡◌, ℕ, ◌+◌, ◌<◌, ◌⊎◌, inl, inr, List, [], ◌∷◌, ◌++◌, length, drop, Option, Some, None, Result, Ok, Err, IsOk, IsErr, IsErrAnd, IfErr, OnOk, true, false, cond, option_map, refl, sym, ap, ◌∙◌, subst, append_assoc, append-nil, length-append, arith, nat_cmp}
use Rattle.std.specs.Prelude.{⊤, IfSome}
use Rattle.std.specs.Io.KnownBytes.{Appends, Keeps, append_known}
use Rattle.std.proofs.KnownBytes.{Appends-nil, Appends-trans, Appends-kept, Keeps-refl}
use Rattle.std.proofs.lemmas.List.Concat.{flat_map-append}
use Rattle.std.proofs.lemmas.Option.{same_Some}
use Rattle.std.proofs.lemmas.Cmp.{nat_cmp_total}
use Rattle.ic_world.specs.declared.call.Command.{Command}
use Rattle.ic_world.specs.Prelude.{Reply, Family, IsSound, Step}
use Rattle.ic_world_laws.specs.Runs.{IsLawful}
use Rattle.ic_world_laws.proofs.RunLaws.{join_lawful, is_lawful}
use Rattle.ic_program.specs.declared.own_key.OwnKey.{OwnKey}
use Rattle.ic_program.specs.declared.session.Stop.{Stop}
use Rattle.ic_program.specs.declared.session.Stop.TheVariants.{NoCommand, Fault as AFault}
use Rattle.ic_program.specs.declared.fault.Fault.TheVariants.{NotText, Reading, Writing, Memory}
use Rattle.ic_program.specs.declared.line.Line.{Line}
use Rattle.ic_program.specs.declared.line.Line.TheVariants.{Empty, Call, NoCommand as NoLine}
use Rattle.ic_program.specs.Grammar.{command_in, said_in, before_others, commands_in}
use Rattle.std.specs.Str.{IsUtf8}
use Rattle.std.specs.Str.Lines.{lines}
use Rattle.ic_program.specs.Printed.{line_of, lines_of}
use Rattle.ic_program.specs.Text.{line_in, after_line, words_in}
use Rattle.ic_program.proofs.LinesLemmas.{text_lines}
use Rattle.ic_program.proofs.CutLemmas.{cut_nothing, cut_more}
use Rattle.ic_program.specs.Played.{own_key, CutTo, NoCommandLeft}
use Rattle.ic_program.specs.HowFar.{is_loss, AnswersCall, Answered, AnsweredFirst, AnsweredShort, HowFar, NotTextLeft, StopLeft, IsLost, UnlessLoss}

-- the commands of two lists of lines, one after the other, are the commands of the first list and then those of the second
commands_both : (xs ys : List (List ℕ)) (cs ds : List (Command ℕ ℕ)) → commands_in xs ≡ Some cs → commands_in ys ≡ Some ds → commands_in (xs ++ ys) ≡ Some (cs ++ ds)
commands_both [] ys cs ds is others = let none : [] ≡ cs = same_Some [] cs is in others ∙ ap (λ (c : List (Command ℕ ℕ)). Some (c ++ ds)) none
commands_both (x ∷ xs) ys cs ds is others = at (said_in x) is (commands_both xs ys)
  where
    called : (c : Command ℕ ℕ) (o : Option (List (Command ℕ ℕ))) → commands_in xs ≡ o → option_map (λ (es : List (Command ℕ ℕ)). c ∷ es) o ≡ Some cs
        → ((es ds : List (Command ℕ ℕ)) → commands_in xs ≡ Some es → commands_in ys ≡ Some ds → commands_in (xs ++ ys) ≡ Some (es ++ ds))
        → option_map (λ (es : List (Command ℕ ℕ)). c ∷ es) (commands_in (xs ++ ys)) ≡ Some (cs ++ ds)
    called c None none is more = absurd (cc (is))
    called c (Some es) some is more =
        let same : c ∷ es ≡ cs = same_Some (c ∷ es) cs is in
        ap (option_map (λ (es : List (Command ℕ ℕ)). c ∷ es)) (more es ds some others)
        ∙ ap (λ (c : List (Command ℕ ℕ)). Some (c ++ ds)) same

    at : (line : Line) → before_others line (commands_in xs) ≡ Some cs
        → ((es ds : List (Command ℕ ℕ)) → commands_in xs ≡ Some es → commands_in ys ≡ Some ds → commands_in (xs ++ ys) ≡ Some (es ++ ds))
        → before_others line (commands_in (xs ++ ys)) ≡ Some (cs ++ ds)
    at Empty is more = more cs ds is others
    at (Call c) is more = called c (commands_in xs) refl is more
    at NoLine is more = absurd (cc (is))

-- a step of a sound family is lawful
pub step_lawful : (old new : Family OwnKey ℕ) (asked command : Command ℕ ℕ) (reply replied : Reply) → asked ≡ command → IsSound old → Step nat_cmp own_key old command reply new → replied ≡ reply
    → IsLawful nat_cmp own_key old asked replied new
step_lawful old new asked command reply replied is sound step same =
    subst (λ c. IsLawful nat_cmp own_key old c replied new) (sym is)
    (subst (λ r. IsLawful nat_cmp own_key old command r new) (sym same) (is_lawful nat_cmp_total own_key old sound command reply new step))

pub fast_answered : (text rest : List ℕ) (old new : Family OwnKey ℕ) (command : Command ℕ ℕ) (reply replied : Reply) → (command_in (words_in text) ≡ Some command) × (rest ≡ after_line text)
    → IsSound old → Step nat_cmp own_key old command reply new → replied ≡ reply
    → (command : Command ℕ ℕ) × (command_in (words_in text) ≡ Some command) × IsLawful nat_cmp own_key old command replied new × (rest ≡ after_line text)
fast_answered text rest old new command reply replied said sound step same = (command, said.0, step_lawful old new command command reply replied refl sound step same, said.1)

-- `Answered` holds of an empty list of lines, of one line that was answered, and of lines that were answered after other lines
pub none_answered : (w : Family OwnKey ℕ) (output : Option (List ℕ)) → Answered [] w w output output
none_answered w output = record { commands = []; said = refl; replies = []; lawful = refl; printed = Appends-nil output }

pub empty_answered : (line : List ℕ) (w : Family OwnKey ℕ) (output : Option (List ℕ)) → said_in line ≡ Empty → Answered (line ∷ []) w w output output
empty_answered line w output empty = record { commands = []; said = ap (λ l. before_others l (Some [])) empty; replies = []; lawful = refl; printed = Appends-nil output }

pub call_answered : (line : List ℕ) (command : Command ℕ ℕ) (old new : Family OwnKey ℕ) (output now : List ℕ)
    → said_in line ≡ Call command → AnswersCall command old new output now → Answered (line ∷ []) old new (Some output) (Some now)
call_answered line command old new output now call a = record {
  commands = command ∷ [];
  said = ap (λ l. before_others l (Some [])) call;
  replies = a.reply ∷ [];
  lawful = (new, a.lawful, refl);
  printed = a.line ∙ ap (λ (l : List ℕ). output ++ l) (sym (append-nil (line_of a.reply)));
}

pub more_answered : (xs ys : List (List ℕ)) (old mid new : Family OwnKey ℕ) (output then_output now : Option (List ℕ))
    → Answered xs old mid output then_output → Answered ys mid new then_output now → Answered (xs ++ ys) old new output now
more_answered xs ys old mid new output then_output now a b = record {
  commands = a.commands ++ b.commands;
  said = commands_both xs ys a.commands b.commands a.said b.said;
  replies = a.replies ++ b.replies;
  lawful = join_lawful nat_cmp own_key old a.commands a.replies mid b.commands b.replies new a.lawful b.lawful;
  printed = subst (Appends output now) (sym (flat_map-append line_of a.replies b.replies)) (Appends-trans output then_output now (lines_of a.replies) (lines_of b.replies) a.printed b.printed);
}

-- the answers may wait in a buffer after the bytes that are already written, and may be written later
after_known : (known : Option (List ℕ)) (output now text : List ℕ) → now ≡ output ++ text → Appends (append_known known output) (append_known known now) text
after_known None output now text line = tt
after_known (Some xs) output now text line = ap (λ (l : List ℕ). xs ++ l) line ∙ sym (append_assoc xs output text)

answered_after : (xs : List (List ℕ)) (old new : Family OwnKey ℕ) (known : Option (List ℕ)) (output now : List ℕ)
    → Answered xs old new (Some output) (Some now) → Answered xs old new (append_known known output) (append_known known now)
answered_after xs old new known output now a = record { commands = a.commands; said = a.said; replies = a.replies; lawful = a.lawful; printed = after_known known output now (lines_of a.replies) a.printed }

answered_kept : (xs : List (List ℕ)) (old new : Family OwnKey ℕ) (output then_output now : Option (List ℕ)) → Answered xs old new output then_output → Keeps then_output now → Answered xs old new output now
answered_kept xs old new output then_output now a kept = record { commands = a.commands; said = a.said; replies = a.replies; lawful = a.lawful; printed = Appends-kept output then_output now (lines_of a.replies) a.printed kept }

-- THE FIRST LINES OF `all` WERE ANSWERED: no line, one line, or the same lines with another statement about the lines that remain
pub none_first : (all : Option (List (List ℕ))) (IsLeft : ℕ → List (List ℕ) → Type 0) (w : Family OwnKey ℕ) (output : Option (List ℕ))
    → ((others : List (List ℕ)) → all ≡ Some others → IsLeft 0 others) → AnsweredFirst all IsLeft w w output output
none_first None IsLeft w output left = record { answered = []; is = none_answered w output; left = tt }
none_first (Some ls) IsLeft w output left = record { answered = []; is = none_answered w output; left = (ls, refl, left ls refl) }

pub one_first : (line : List ℕ) (others : List (List ℕ)) (all : List (List ℕ)) (IsLeft : ℕ → List (List ℕ) → Type 0) (old new : Family OwnKey ℕ) (output now : Option (List ℕ))
    → all ≡ line ∷ others → Answered (line ∷ []) old new output now → IsLeft 1 others → AnsweredFirst (Some all) IsLeft old new output now
one_first line others all IsLeft old new output now split is left = record { answered = line ∷ []; is = is; left = (others, split, left) }

pub left_as : (all : Option (List (List ℕ))) (P Q : ℕ → List (List ℕ) → Type 0) (old new : Family OwnKey ℕ) (output now : Option (List ℕ))
    → AnsweredFirst all P old new output now → ((count : ℕ) (others : List (List ℕ)) → P count others → Q count others) → AnsweredFirst all Q old new output now
left_as None P Q old new output now a as_is = record { answered = a.answered; is = a.is; left = tt }
left_as (Some ls) P Q old new output now a as_is = record { answered = a.answered; is = a.is; left = (a.left.0, a.left.1, as_is (length a.answered) a.left.0 a.left.2) }

-- if the first lines of `all` were answered, and then the first of the remaining lines, the first lines of `all` were answered
pub and_then : (all more : Option (List (List ℕ))) (Next Then IsLeft : ℕ → List (List ℕ) → Type 0) (old mid new : Family OwnKey ℕ) (output then_output now : Option (List ℕ))
    → AnsweredFirst all Next old mid output then_output → AnsweredFirst more Then mid new then_output now
    → ((count : ℕ) (others : List (List ℕ)) → Next count others → more ≡ Some others)
    → ((count count2 : ℕ) (others others2 : List (List ℕ)) → Next count others → Then count2 others2 → IsLeft (count + count2) others2)
    → AnsweredFirst all IsLeft old new output now
and_then None more Next Then IsLeft old mid new output then_output now a b goes_on left =
    record { answered = a.answered ++ b.answered; is = more_answered a.answered b.answered old mid new output then_output now a.is b.is; left = tt }
and_then (Some ls) more Next Then IsLeft old mid new output then_output now a b goes_on left =
    let others = a.left.0 in
    let known : more ≡ Some others = goes_on (length a.answered) others a.left.2 in
    let rest : (others2 : List (List ℕ)) × (others ≡ b.answered ++ others2) × Then (length b.answered) others2 =
    subst (λ o. IfSome o (λ ls. (others2 : List (List ℕ)) × (ls ≡ b.answered ++ others2) × Then (length b.answered) others2)) known b.left in
    record {
      answered = a.answered ++ b.answered;
      is = more_answered a.answered b.answered old mid new output then_output now a.is b.is;
      left = (
        rest.0,
        a.left.1 ∙ ap (λ (l : List (List ℕ)). a.answered ++ l) rest.1 ∙ sym (append_assoc a.answered b.answered rest.0),
        subst (λ n. IsLeft n rest.0) (sym (length-append a.answered b.answered)) (left (length a.answered) (length b.answered) others rest.0 a.left.2 rest.2),
      );
    }

pub first_after : (all : Option (List (List ℕ))) (IsLeft : ℕ → List (List ℕ) → Type 0) (old new : Family OwnKey ℕ) (known : Option (List ℕ)) (output now : List ℕ)
    → AnsweredFirst all IsLeft old new (Some output) (Some now) → AnsweredFirst all IsLeft old new (append_known known output) (append_known known now)
first_after all IsLeft old new known output now a = record { answered = a.answered; is = answered_after a.answered old new known output now a.is; left = a.left }

pub first_kept : (all : Option (List (List ℕ))) (IsLeft : ℕ → List (List ℕ) → Type 0) (old new same : Family OwnKey ℕ) (output then_output now : Option (List ℕ))
    → AnsweredFirst all IsLeft old new output then_output → Keeps then_output now → same ≡ new → AnsweredFirst all IsLeft old same output now
first_kept all IsLeft old new same output then_output now a kept is =
    record { answered = a.answered; is = subst (λ w. Answered a.answered old w output now) (sym is) (answered_kept a.answered old new output then_output now a.is kept); left = a.left }

-- ANSWERS THAT ARE CUT SHORT: only a beginning of the answers was written. This also holds if they come after other answers
pub short_first : (all : Option (List (List ℕ))) (IsLeft : ℕ → List (List ℕ) → Type 0) (old new : Family OwnKey ℕ) (output whole now : Option (List ℕ))
    → AnsweredFirst all IsLeft old new output whole → CutTo whole now → AnsweredShort all old output now
short_first None IsLeft old new output whole now a cut = record { answered = a.answered; new = new; whole = whole; is = a.is; cut = cut; left = tt }
short_first (Some ls) IsLeft old new output whole now a cut = record { answered = a.answered; new = new; whole = whole; is = a.is; cut = cut; left = (a.left.0, a.left.1) }

pub short_none : (all : Option (List (List ℕ))) (w : Family OwnKey ℕ) (output : Option (List ℕ)) → AnsweredShort all w output output
short_none all w output = short_first all (λ count others. ⊤) w w output output output (none_first all (λ count others. ⊤) w output (λ others is. tt)) (cut_nothing output)

pub short_kept : (all : Option (List (List ℕ))) (w : Family OwnKey ℕ) (output now : List ℕ) → now ≡ output → AnsweredShort all w (Some output) (Some now)
short_kept all w output now same = subst (λ (t : List ℕ). AnsweredShort all w (Some output) (Some t)) (sym same) (short_none all w (Some output))

pub short_cut : (all : Option (List (List ℕ))) (old : Family OwnKey ℕ) (output then_output now : Option (List ℕ)) → AnsweredShort all old output then_output → CutTo then_output now → AnsweredShort all old output now
short_cut all old output then_output now s cut = record { answered = s.answered; new = s.new; whole = s.whole; is = s.is; cut = cut_more s.whole then_output now s.cut cut; left = s.left }

pub short_then : (all more : Option (List (List ℕ))) (Next : ℕ → List (List ℕ) → Type 0) (old mid : Family OwnKey ℕ) (output then_output now : Option (List ℕ))
    → AnsweredFirst all Next old mid output then_output → AnsweredShort more mid then_output now
    → ((count : ℕ) (others : List (List ℕ)) → Next count others → more ≡ Some others)
    → AnsweredShort all old output now
short_then None more Next old mid output then_output now a s goes_on = record {
  answered = a.answered ++ s.answered;
  new = s.new;
  whole = s.whole;
  is = more_answered a.answered s.answered old mid s.new output then_output s.whole a.is s.is;
  cut = s.cut;
  left = tt;
}
short_then (Some ls) more Next old mid output then_output now a s goes_on =
    let others = a.left.0 in
    let known : more ≡ Some others = goes_on (length a.answered) others a.left.2 in
    let rest : (others2 : List (List ℕ)) × (others ≡ s.answered ++ others2) = subst (λ o. IfSome o (λ ls. (others2 : List (List ℕ)) × (ls ≡ s.answered ++ others2))) known s.left in
    record {
      answered = a.answered ++ s.answered;
      new = s.new;
      whole = s.whole;
      is = more_answered a.answered s.answered old mid s.new output then_output s.whole a.is s.is;
      cut = s.cut;
      left = (rest.0, a.left.1 ∙ ap (λ (l : List (List ℕ)). a.answered ++ l) rest.1 ∙ sym (append_assoc a.answered s.answered rest.0));
    }

-- if `now` is a beginning of `whole`, then the bytes of `known` and `now` are a beginning of the bytes of `known` and `whole`
cut_after_known : (known : Option (List ℕ)) (whole now : List ℕ) → CutTo (Some whole) (Some now) → CutTo (append_known known whole) (append_known known now)
cut_after_known None whole now cut = tt
cut_after_known (Some xs) whole now cut = (cut.0, ap (λ (l : List ℕ). xs ++ l) cut.1 ∙ sym (append_assoc xs now cut.0))

pub short_after : (all : Option (List (List ℕ))) (old : Family OwnKey ℕ) (known : Option (List ℕ)) (output now : List ℕ)
    → AnsweredShort all old (Some output) (Some now) → AnsweredShort all old (append_known known output) (append_known known now)
short_after all old known output now s = at s.whole s.is s.cut
  where
    at : (whole : Option (List ℕ)) → Answered s.answered old s.new (Some output) whole → CutTo whole (Some now) → AnsweredShort all old (append_known known output) (append_known known now)
    at None is cut = absurd is.printed
    at (Some whole) is cut = record {
      answered = s.answered;
      new = s.new;
      whole = append_known known whole;
      is = answered_after s.answered old s.new known output whole is;
      cut = cut_after_known known whole now cut;
      left = s.left;
    }

-- A STOP IS PASSED ON as it is: a function returns the stop of the function that it called
pub passed_far : {T : Type 0} (r : Result T Stop) (stop : Stop) (before after : ℕ) (IsLeft : T → List (List ℕ) → Type 0) (all : Option (List (List ℕ))) (old new : Family OwnKey ℕ) (output now : Option (List ℕ))
    → IsErr r × IsErrAnd r (λ passed. passed ≡ stop)
    → UnlessLoss stop (AnsweredShort all old output now) (AnsweredFirst all (λ count others. StopLeft stop after (before + count) others) old new output now)
    → HowFar r before after IsLeft all old new output now
passed_far (Err passed) stop before after IsLeft all old new output now is q =
    subst (λ (s : Stop). UnlessLoss s (AnsweredShort all old output now) (AnsweredFirst all (λ count others. StopLeft s after (before + count) others) old new output now)) (sym is.1) q
passed_far (Ok x) stop before after IsLeft all old new output now is q = absurd is.1

-- if answers may be lost by the stop, `UnlessLoss` follows from `Loss`
pub lost : (Loss P : Type 0) (stop : Stop) → IsLost stop → Loss → UnlessLoss stop Loss P
lost Loss P NoCommand is loss = absurd is
lost Loss P (AFault fault) is loss = subst (λ b. cond b Loss P) (sym is) loss

pub lost_far : {T : Type 0} (r : Result T Stop) (stop : Stop) (before after : ℕ) (IsLeft : T → List (List ℕ) → Type 0) (all : Option (List (List ℕ))) (old new : Family OwnKey ℕ) (output now : Option (List ℕ))
    → IsErr r × IsErrAnd r (λ passed. passed ≡ stop) → IsLost stop → AnsweredShort all old output now → HowFar r before after IsLeft all old new output now
lost_far r stop before after IsLeft all old new output now is loses short =
    passed_far r stop before after IsLeft all old new output now is (lost (AnsweredShort all old output now) (AnsweredFirst all (λ count others. StopLeft stop after (before + count) others) old new output now) stop loses short)

-- what holds after a stop can be weakened: L to M if answers may be lost, and P to Q otherwise
pub unless_loss_map : {L M P Q : Type 0} (stop : Stop) → (L → M) → (P → Q) → UnlessLoss stop L P → UnlessLoss stop M Q
unless_loss_map NoCommand l f p = f p
unless_loss_map {L} {M} {P} {Q} (AFault fault) l f p =
    let both : cond (is_loss fault) L P → cond (is_loss fault) M Q = elim (is_loss fault) as (λ b. cond b L P → cond b M Q) [ true ↦ l | false ↦ f ] in
    both p

-- whatever the result of a function is, a beginning of the answers of some first lines was written
pub far_short : {T : Type 0} (r : Result T Stop) (before after : ℕ) (IsLeft : T → List (List ℕ) → Type 0) (all : Option (List (List ℕ))) (old new : Family OwnKey ℕ) (output now : Option (List ℕ))
    → HowFar r before after IsLeft all old new output now → AnsweredShort all old output now
far_short (Ok x) before after IsLeft all old new output now far = short_first all (λ count others. (after ≡ before + count) × IsLeft x others) old new output now now far (cut_nothing now)
far_short (Err NoCommand) before after IsLeft all old new output now far = short_first all (λ count others. StopLeft NoCommand after (before + count) others) old new output now now far (cut_nothing now)
far_short (Err (AFault fault)) before after IsLeft all old new output now far =
    let both : cond (is_loss fault) (AnsweredShort all old output now) (AnsweredFirst all (λ count others. StopLeft (AFault fault) after (before + count) others) old new output now) → AnsweredShort all old output now =
    elim (is_loss fault) as (λ b. cond b (AnsweredShort all old output now) (AnsweredFirst all (λ count others. StopLeft (AFault fault) after (before + count) others) old new output now) → AnsweredShort all old output now)
    [ true ↦ λ s. s | false ↦ λ a. short_first all (λ count others. StopLeft (AFault fault) after (before + count) others) old new output now now a (cut_nothing now) ] in
    both far

-- A LINE THAT IS NO COMMAND stops the run: no line is answered, and the stop says whether the line is UTF-8
pub stop_first : (text : List ℕ) (stop : Stop) (read before : ℕ) (w : Family OwnKey ℕ) (output : Option (List ℕ)) → 0 < length text → said_in (line_in text) ≡ NoLine → read ≡ before + 1
    → ((stop ≡ NoCommand) × IsUtf8 (line_in text)) ⊎ ((stop ≡ AFault (NotText read)) × ¬ (IsUtf8 (line_in text)))
    → UnlessLoss stop (AnsweredShort (Some (lines text)) w output output) (AnsweredFirst (Some (lines text)) (λ count others. StopLeft stop read (before + count) others) w w output output)
stop_first text stop read before w output some none count how =
    elim how [
      | inl is ↦ subst (λ s. UnlessLoss s (AnsweredShort (Some (lines text)) w output output) (AnsweredFirst (Some (lines text)) (λ count others. StopLeft s read (before + count) others) w w output output)) (sym is.0)
          (none_first (Some (lines text)) (λ count others. NoCommandLeft read (before + count) others) w output
          (λ others all. subst (NoCommandLeft read (before + 0)) (left others all) (omega (arith, count), none, is.1)))
      | inr is ↦ subst (λ s. UnlessLoss s (AnsweredShort (Some (lines text)) w output output) (AnsweredFirst (Some (lines text)) (λ count others. StopLeft s read (before + count) others) w w output output)) (sym is.0)
          (none_first (Some (lines text)) (λ count others. NotTextLeft read (before + count) others) w output
          (λ others all. subst (NotTextLeft read (before + 0)) (left others all) (omega (arith, count), none, is.1)))
    ]
  where
    left : (others : List (List ℕ)) → Some (lines text) ≡ Some others → line_in text ∷ lines (after_line text) ≡ others
    left others is = sym (text_lines text some) ∙ same_Some (lines text) others is

-- THE FIRST LINE OF A TEXT was answered: it has no words, or it is a call
pub empty_first : (text rest : List ℕ) (read before : ℕ) (w : Family OwnKey ℕ) (output : Option (List ℕ)) → 0 < length text → said_in (line_in text) ≡ Empty → rest ≡ after_line text → read ≡ before + 1
    → AnsweredFirst (Some (lines text)) (λ count others. (read ≡ before + count) × (others ≡ lines rest)) w w output output
empty_first text rest read before w output some empty after count =
    one_first (line_in text) (lines (after_line text)) (lines text) (λ count others. (read ≡ before + count) × (others ≡ lines rest)) w w output output
    (text_lines text some) (empty_answered (line_in text) w output empty) (count, ap lines (sym after))

pub call_first : (text rest : List ℕ) (command : Command ℕ ℕ) (read before : ℕ) (old new : Family OwnKey ℕ) (output now : List ℕ) → 0 < length text → said_in (line_in text) ≡ Call command → rest ≡ after_line text → read ≡ before + 1
    → AnswersCall command old new output now → AnsweredFirst (Some (lines text)) (λ count others. (read ≡ before + count) × (others ≡ lines rest)) old new (Some output) (Some now)
call_first text rest command read before old new output now some call after count a =
    one_first (line_in text) (lines (after_line text)) (lines text) (λ count others. (read ≡ before + count) × (others ≡ lines rest)) old new (Some output) (Some now)
    (text_lines text some) (call_answered (line_in text) command old new output now call a) (count, ap lines (sym after))

-- NO LINE WAS ANSWERED, and the number of lines that were read stays `before`
pub reading_first : (all : Option (List (List ℕ))) (before : ℕ) (w : Family OwnKey ℕ) (output : Option (List ℕ)) → AnsweredFirst all (λ count others. before ≡ before + count) w w output output
reading_first all before w output = none_first all (λ count others. before ≡ before + count) w output (λ others is. omega arith)

-- ONE MORE LINE is answered after others, and the answers that wait in the buffer may be written
pub then_first : (text mid rest : List ℕ) (before at after last : ℕ) (old then_old new same : Family OwnKey ℕ) (output known then_known : Option (List ℕ)) (waits then_waits now : List ℕ)
    → AnsweredFirst (Some (lines text)) (λ count others. (at ≡ before + count) × (others ≡ lines mid)) old then_old output (append_known known waits)
    → AnsweredFirst (Some (lines mid)) (λ count others. (after ≡ at + count) × (others ≡ lines rest)) then_old new (Some waits) (Some then_waits)
    → Keeps (append_known known then_waits) (append_known then_known now) → same ≡ new → last ≡ after
    → AnsweredFirst (Some (lines text)) (λ count others. (last ≡ before + count) × (others ≡ lines rest)) old same output (append_known then_known now)
then_first text mid rest before at after last old then_old new same output known then_known waits then_waits now a b kept is last_is =
    first_kept (Some (lines text)) (λ count others. (last ≡ before + count) × (others ≡ lines rest)) old new same output (append_known known then_waits) (append_known then_known now)
    (and_then (Some (lines text)) (Some (lines mid)) (λ count others. (at ≡ before + count) × (others ≡ lines mid)) (λ count others. (after ≡ at + count) × (others ≡ lines rest))
    (λ count others. (last ≡ before + count) × (others ≡ lines rest)) old then_old new output (append_known known waits) (append_known known then_waits)
    a (first_after (Some (lines mid)) (λ count others. (after ≡ at + count) × (others ≡ lines rest)) then_old new known waits then_waits b)
    (λ count others next. ap (λ (l : List (List ℕ)). Some l) (sym next.1))
    (λ count count2 others others2 next then. (omega (arith, next.0, then.0, last_is), then.1)))
    kept is

pub then_next : (text mid rest : List ℕ) (taken before at after last : ℕ) (old then_old new same : Family OwnKey ℕ) (output known then_known : Option (List ℕ)) (waits then_waits now : List ℕ)
    → AnsweredFirst (Some (lines text)) (λ count others. (at ≡ before + count) × (others ≡ lines mid)) old then_old output (append_known known waits)
    → AnsweredFirst (Some (lines mid)) (λ count others. (after ≡ at + count) × (others ≡ lines (drop taken mid))) then_old new (Some waits) (Some then_waits)
    → rest ≡ drop taken mid → Keeps (append_known known then_waits) (append_known then_known now) → same ≡ new → last ≡ after
    → AnsweredFirst (Some (lines text)) (λ count others. (last ≡ before + count) × (others ≡ lines rest)) old same output (append_known then_known now)
then_next text mid rest taken before at after last old then_old new same output known then_known waits then_waits now a b rest_is kept is last_is =
    then_first text mid rest before at after last old then_old new same output known then_known waits then_waits now a
    (subst (λ (t : List ℕ). AnsweredFirst (Some (lines mid)) (λ count others. (after ≡ at + count) × (others ≡ lines t)) then_old new (Some waits) (Some then_waits)) (sym rest_is) b) kept is last_is

-- after some lines were answered, a stop comes in place of one more answer
pub then_stop : (text mid : List ℕ) (stop : Stop) (before at after : ℕ) (old then_old new : Family OwnKey ℕ) (output known : Option (List ℕ)) (waits then_waits : List ℕ)
    → AnsweredFirst (Some (lines text)) (λ count others. (at ≡ before + count) × (others ≡ lines mid)) old then_old output (append_known known waits)
    → AnsweredFirst (Some (lines mid)) (λ count others. StopLeft stop after (at + count) others) then_old new (Some waits) (Some then_waits)
    → AnsweredFirst (Some (lines text)) (λ count others. StopLeft stop after (before + count) others) old new output (append_known known then_waits)
then_stop text mid stop before at after old then_old new output known waits then_waits a b =
    and_then (Some (lines text)) (Some (lines mid)) (λ count others. (at ≡ before + count) × (others ≡ lines mid)) (λ count others. StopLeft stop after (at + count) others)
    (λ count others. StopLeft stop after (before + count) others) old then_old new output (append_known known waits) (append_known known then_waits)
    a (first_after (Some (lines mid)) (λ count others. StopLeft stop after (at + count) others) then_old new known waits then_waits b)
    (λ count others next. ap (λ (l : List (List ℕ)). Some l) (sym next.1))
    (λ count count2 others others2 next then.
    let same : at + count2 ≡ before + (count + count2) = omega (arith, next.0) in
    subst (λ n. StopLeft stop after n others2) same then)

-- after some lines were answered, answers to the following lines may be lost
pub then_short : (text mid : List ℕ) (before at : ℕ) (old then_old : Family OwnKey ℕ) (output known : Option (List ℕ)) (waits then_waits : List ℕ)
    → AnsweredFirst (Some (lines text)) (λ count others. (at ≡ before + count) × (others ≡ lines mid)) old then_old output (append_known known waits)
    → AnsweredShort (Some (lines mid)) then_old (Some waits) (Some then_waits)
    → AnsweredShort (Some (lines text)) old output (append_known known then_waits)
then_short text mid before at old then_old output known waits then_waits a s =
    short_then (Some (lines text)) (Some (lines mid)) (λ count others. (at ≡ before + count) × (others ≡ lines mid)) old then_old output (append_known known waits) (append_known known then_waits)
    a (short_after (Some (lines mid)) then_old known waits then_waits s) (λ count others next. ap (λ (l : List (List ℕ)). Some l) (sym next.1))

-- one more line was answered, but the answers that wait in the buffer could not be written
pub then_room : (text mid rest : List ℕ) (before at after : ℕ) (old then_old new : Family OwnKey ℕ) (output known then_known : Option (List ℕ)) (waits then_waits now : List ℕ)
    → AnsweredFirst (Some (lines text)) (λ count others. (at ≡ before + count) × (others ≡ lines mid)) old then_old output (append_known known waits)
    → AnsweredFirst (Some (lines mid)) (λ count others. (after ≡ at + count) × (others ≡ lines rest)) then_old new (Some waits) (Some then_waits)
    → CutTo (append_known known then_waits) (append_known then_known now)
    → AnsweredShort (Some (lines text)) old output (append_known then_known now)
then_room text mid rest before at after old then_old new output known then_known waits then_waits now a b cut =
    short_first (Some (lines text)) (λ count others. (after ≡ before + count) × (others ≡ lines rest)) old new output (append_known known then_waits) (append_known then_known now)
    (then_first text mid rest before at after after old then_old new new output known known waits then_waits then_waits a b (Keeps-refl (append_known known then_waits)) refl refl) cut

-- IF MORE LINES FOLLOW, the answered lines are also the first of all lines, and the lines that follow remain, too
stop_more : (stop : Stop) (read count : ℕ) (others more : List (List ℕ)) → StopLeft stop read count others → StopLeft stop read count (others ++ more)
stop_more NoCommand read count [] more left = absurd left
stop_more NoCommand read count (line ∷ others) more left = left
stop_more (AFault (NotText number)) read count [] more left = absurd left
stop_more (AFault (NotText number)) read count (line ∷ others) more left = left
stop_more (AFault (Reading number)) read count others more left = left
stop_more (AFault Writing) read count others more left = tt
stop_more (AFault Memory) read count others more left = tt

front_of : (front more all : List (List ℕ)) (P Q : ℕ → List (List ℕ) → Type 0) (old new : Family OwnKey ℕ) (output now : Option (List ℕ)) → all ≡ front ++ more
    → AnsweredFirst (Some front) P old new output now → ((count : ℕ) (others : List (List ℕ)) → P count others → Q count (others ++ more)) → AnsweredFirst (Some all) Q old new output now
front_of front more all P Q old new output now split a left = record {
  answered = a.answered;
  is = a.is;
  left = (
    a.left.0 ++ more,
    split ∙ ap (λ (l : List (List ℕ)). l ++ more) a.left.1 ∙ append_assoc a.answered a.left.0 more,
    left (length a.answered) a.left.0 a.left.2,
  );
}

pub all_of_front : (front more all left : List (List ℕ)) (before after : ℕ) (old new : Family OwnKey ℕ) (output now : Option (List ℕ)) → all ≡ front ++ more → left ≡ more
    → AnsweredFirst (Some front) (λ count others. (after ≡ before + count) × (others ≡ [])) old new output now
    → AnsweredFirst (Some all) (λ count others. (after ≡ before + count) × (others ≡ left)) old new output now
all_of_front front more all left before after old new output now split left_is a =
    front_of front more all (λ count others. (after ≡ before + count) × (others ≡ [])) (λ count others. (after ≡ before + count) × (others ≡ left)) old new output now split a
    (λ count others is. (is.0, ap (λ (l : List (List ℕ)). l ++ more) is.1 ∙ sym left_is))

pub stop_before : (front more all : List (List ℕ)) (stop : Stop) (before after : ℕ) (old new : Family OwnKey ℕ) (output now : Option (List ℕ)) → all ≡ front ++ more
    → AnsweredFirst (Some front) (λ count others. StopLeft stop after (before + count) others) old new output now
    → AnsweredFirst (Some all) (λ count others. StopLeft stop after (before + count) others) old new output now
stop_before front more all stop before after old new output now split a =
    front_of front more all (λ count others. StopLeft stop after (before + count) others) (λ count others. StopLeft stop after (before + count) others) old new output now split a
    (λ count others is. stop_more stop after (before + count) others more is)

pub short_before : (front more all : List (List ℕ)) (old : Family OwnKey ℕ) (output now : Option (List ℕ)) → all ≡ front ++ more → AnsweredShort (Some front) old output now → AnsweredShort (Some all) old output now
short_before front more all old output now split s = record {
  answered = s.answered;
  new = s.new;
  whole = s.whole;
  is = s.is;
  cut = s.cut;
  left = (s.left.0 ++ more, split ∙ ap (λ (l : List (List ℕ)). l ++ more) s.left.1 ∙ append_assoc s.answered s.left.0 more);
}

-- two steps, of which the second answers the lines that the first has left, are one step
pub both_steps : (all : Option (List (List ℕ))) (mid left : List (List ℕ)) (before at after : ℕ) (old then_old new : Family OwnKey ℕ) (output then_output now : Option (List ℕ))
    → AnsweredFirst all (λ count others. (at ≡ before + count) × (others ≡ mid)) old then_old output then_output
    → AnsweredFirst (Some mid) (λ count others. (after ≡ at + count) × (others ≡ left)) then_old new then_output now
    → AnsweredFirst all (λ count others. (after ≡ before + count) × (others ≡ left)) old new output now
both_steps all mid left before at after old then_old new output then_output now a b =
    and_then all (Some mid) (λ count others. (at ≡ before + count) × (others ≡ mid)) (λ count others. (after ≡ at + count) × (others ≡ left))
    (λ count others. (after ≡ before + count) × (others ≡ left)) old then_old new output then_output now a b
    (λ count others next. ap (λ (l : List (List ℕ)). Some l) (sym next.1))
    (λ count count2 others others2 next then. (omega (arith, next.0, then.0), then.1))

pub step_and_stop : (all : Option (List (List ℕ))) (mid : List (List ℕ)) (stop : Stop) (before at after : ℕ) (old then_old new : Family OwnKey ℕ) (output then_output now : Option (List ℕ))
    → AnsweredFirst all (λ count others. (at ≡ before + count) × (others ≡ mid)) old then_old output then_output
    → AnsweredFirst (Some mid) (λ count others. StopLeft stop after (at + count) others) then_old new then_output now
    → AnsweredFirst all (λ count others. StopLeft stop after (before + count) others) old new output now
step_and_stop all mid stop before at after old then_old new output then_output now a b =
    and_then all (Some mid) (λ count others. (at ≡ before + count) × (others ≡ mid)) (λ count others. StopLeft stop after (at + count) others)
    (λ count others. StopLeft stop after (before + count) others) old then_old new output then_output now a b
    (λ count others next. ap (λ (l : List (List ℕ)). Some l) (sym next.1))
    (λ count count2 others others2 next then.
    let same : at + count2 ≡ before + (count + count2) = omega (arith, next.0) in
    subst (λ n. StopLeft stop after n others2) same then)

pub step_and_short : (all : Option (List (List ℕ))) (mid : List (List ℕ)) (before at : ℕ) (old then_old : Family OwnKey ℕ) (output then_output now : Option (List ℕ))
    → AnsweredFirst all (λ count others. (at ≡ before + count) × (others ≡ mid)) old then_old output then_output
    → AnsweredShort (Some mid) then_old then_output now
    → AnsweredShort all old output now
step_and_short all mid before at old then_old output then_output now a s =
    short_then all (Some mid) (λ count others. (at ≡ before + count) × (others ≡ mid)) old then_old output then_output now a s (λ count others next. ap (λ (l : List (List ℕ)). Some l) (sym next.1))

-- the bytes of an incomplete line are kept for the next read. If there is not enough memory for these bytes, answers may be lost
pub kept_far : {T : Type 0} (r : Result T Stop) (before after : ℕ) (IsLeft : List (List ℕ) → Type 0) (all : Option (List (List ℕ))) (old new : Family OwnKey ℕ) (output now : Option (List ℕ))
    → IfErr r IsLost → AnsweredShort all old output now → (IsOk r → AnsweredFirst all (λ count others. (after ≡ before + count) × IsLeft others) old new output now)
    → HowFar r before after (λ _ others. IsLeft others) all old new output now
kept_far (Ok x) before after IsLeft all old new output now loses short a = a refl
kept_far (Err stop) before after IsLeft all old new output now loses short a =
    lost (AnsweredShort all old output now) (AnsweredFirst all (λ count others. StopLeft stop after (before + count) others) old new output now) stop loses short

pub on_ok : {T E P : Type 0} (r : Result T E) → IsOk r → OnOk r P → P
on_ok (Ok x) ok p = p
on_ok (Err e) ok p = absurd (cc (ok))
