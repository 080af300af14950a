-- The `Reply` by which contracts describe each answer of a call.
use Rattle.ic_world.specs.declared.call.Answer.{Answer}
use Rattle.ic_world.specs.declared.call.Answer.TheVariants as answer
use Rattle.ic_world.specs.Calls.{Reply, done, nothing, object, field, opened, items, linked, found, looked, range, entry, refused}

-- the reply by which contracts describe an answer
abbrev pub reply_in : {M : Type 0} → Answer M → Reply
reply_in answer.Done = done
reply_in answer.Nothing = nothing
reply_in (answer.Object place) = object place
reply_in (answer.Field number) = field number
reply_in (answer.Collection number) = opened number
reply_in (answer.Items places) = items places.items
reply_in (answer.Linked is) = linked is
reply_in (answer.Found place looks) = found place looks
reply_in (answer.Looked looks) = looked looks
reply_in (answer.Range places first second) = range places.items first second
reply_in (answer.Entry occupied place looks) = entry occupied place looks
reply_in (answer.Refused refusal) = refused refusal
