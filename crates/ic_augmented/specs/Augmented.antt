-- A value of the type `Augmented` has a table of links and a table of summaries.
use Rattle.ic_augmented.specs.declared.augmented.Augmented.{Augmented}

module _ {N M : Type 0} where
  abbrev pub links_of : Augmented N M → N
  links_of t = t.links

  abbrev pub summaries_of : Augmented N M → M
  summaries_of t = t.summaries
