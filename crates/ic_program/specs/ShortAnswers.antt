-- The answers of the most frequent calls.
use Rattle.ic_world.specs.Calls.{Reply, done, nothing, object, refused}
use Rattle.ic_program.specs.declared.short_answer.InWords.{InWords}
use Rattle.ic_program.specs.declared.short_answer.InWords.TheVariants.{Done, Nothing, Refused}
use Rattle.ic_program.specs.declared.short_answer.ShortAnswer.{ShortAnswer}
use Rattle.ic_program.specs.declared.short_answer.ShortAnswer.TheVariants.{InWords as Worded, Object}

-- the reply for an answer that is written in fixed words: `ok`, `none`, or a refusal
abbrev pub reply_in_words : InWords → Reply
reply_in_words Done = done
reply_in_words Nothing = nothing
reply_in_words (Refused refusal) = refused refusal

-- THE REPLY by which contracts describe a short answer
abbrev pub reply_of_short : ShortAnswer → Reply
reply_of_short (Worded words) = reply_in_words words
reply_of_short (Object place) = object place
