use Rattle.ic_raw.proofs.Xor.{words_tell}
use Rattle.ic_raw.proofs.xor_list.faces.Goals as goal

pub returns-in_default-clause-links_back : goal.returns-in_default-clause-links_back
returns-in_default-clause-links_back c = rw c.in_default.is (words_tell c.to_word.ensures.value c.to_word-in_default.ensures.value)
