use Rattle.ic_raw.proofs.Xor.{words_tell}
use Rattle.ic_raw.proofs.xor_list.goes_on.Goals as goal

pub returns-in-None : goal.returns-in-None
returns-in-None c = rw c.in-None.is (words_tell c.to_word.ensures.value c.to_word-in-None.ensures.value)
