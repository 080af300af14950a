-- A link consists of words, which name other places, and of a value beside the words.
use Rattle.std.specs.Prelude.{⊤}
use Rattle.ic_link_ops.specs.declared.link.Link.{Link}

module _ {W V : Type 0} where
  -- `link_with w v` is the link with the words w and the value v.
  abbrev pub link_with : W → V → Link W V
  link_with w v = record { words = w; value = v }

  -- The words of which a link consists.
  abbrev pub words_of : Link W V → W
  words_of l = l.words

  -- The value that a link stores beside its words.
  abbrev pub value_of : Link W V → V
  value_of l = l.value

-- `link_of w` is the link with the words w and no value.
abbrev pub link_of : {W : Type 0} → W → Link W ⊤
link_of w = link_with w tt
