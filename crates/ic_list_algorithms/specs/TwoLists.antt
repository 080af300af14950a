-- One table represents two lists that share no member.
use Rattle.std.specs.Prelude.{List}
use Rattle.ic_link_ops.specs.Prelude.{Place, IsDisjoint, Table}

-- `Represents t head s`: the table t represents the sequence s for the collection with the head `head`
module _ {E H : Type 0} (Represents : Table E → H → List Place → Type 0) where
  pub record TwoLists (t : Table E) (a b : H) : Type 0 where
    pub first : List Place
    pub second : List Place
    pub shown : Represents t a first
    pub other : Represents t b second
    pub apart : IsDisjoint second first
