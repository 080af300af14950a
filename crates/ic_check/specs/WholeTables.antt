-- What a check of a whole table returns, and what its marks mean.
use Rattle.std.specs.Prelude.{◌≡◌, ℕ, ◌+◌, Bool, true, false, Option, MatchOption, IfSome, List, [], ◌∷◌, ◌++◌, length, count_by}
use Rattle.std.specs.Bool.{Decides}
use Rattle.std.specs.List.{AllByRecursion}
use Rattle.ic_link_ops.specs.Prelude.{Place, index_of, IsAbsent, IsMember, IsDistinct, Table, IsLinked, entry_at}
use Rattle.ic_check.specs.Checked.{IsRepresented, RepresentsNone}

module _ {H : Type 0} (shows : H → List Place → Type 0) where
  -- the table represents a sequence for each of the collections `lists`, and s is these sequences, one after the other
  abbrev pub RepresentsEach : List H → List Place → Type 0
  RepresentsEach [] s = s ≡ []
  RepresentsEach (list ∷ lists) s = (front back : List Place) × shows list front × RepresentsEach lists back × (s ≡ front ++ back)

  -- the table represents a sequence for each of the collections `lists`, s is these sequences, one after the other, and no place occurs twice in s
  pub record RepresentsEachOnce (lists : List H) (s : List Place) : Type 0 where
    pub each : RepresentsEach lists s
    pub distinct : IsDistinct s

  -- the table represents a sequence for each of the collections `lists`, and has no other members: s is the sequences of the collections `lists`, one after the
  -- other. No place occurs twice in s, and only members of s are linked
  pub record RepresentsAll {E : Type 0} (linked : E → Bool) (t : Table E) (lists : List H) (s : List Place) : Type 0 where
    pub each : RepresentsEach lists s
    pub distinct : IsDistinct s
    pub only : (p : Place) → IsLinked linked t p → IsMember p s

-- the table represents a sequence for each collection in `first` and `second`: s is the sequences of `first`, followed by those of `second`. No place occurs
-- twice in s, and only members of s are linked
module _ {H G : Type 0} (shows : H → List Place → Type 0) (others : G → List Place → Type 0) where
  pub record RepresentsBoth {E : Type 0} (linked : E → Bool) (t : Table E) (first : List H) (second : List G) (s : List Place) : Type 0 where
    pub front : List Place
    pub back : List Place
    pub parts : s ≡ front ++ back
    pub each : RepresentsEach shows first front
    pub each_other : RepresentsEach others second back
    pub distinct : IsDistinct s
    pub only : (p : Place) → IsLinked linked t p → IsMember p s

-- whether a place is marked: the mark at its index is true
abbrev pub is_marked : List Bool → Place → Bool
is_marked = entry_at false

-- how many marks are set
abbrev pub many_marked : List Bool → ℕ
many_marked marks = count_by (λ mark. mark) marks

-- each place that is marked in `new` and not in `old` is linked in the table t
pub record MarksLinked {E : Type 0} (linked : E → Bool) (t : Table E) (old new : List Bool) : Type 0 where
  pub besides : (p : Place) → is_marked old p ≡ false → is_marked new p ≡ true → IsLinked linked t p

-- all members of s are marked, and no other place is marked
abbrev pub IsMarking : List Bool → List Place → Type 0
IsMarking marks s = (p : Place) → Decides (is_marked marks p) (IsMember p s)

-- no member of s is marked
abbrev pub AreUnmarked : List Bool → List Place → Type 0
AreUnmarked marks s = AllByRecursion (λ p. is_marked marks p ≡ false) s

-- the members of s are newly marked: they are marked in `new`, every other place is as in `old`, and the number of marked places grows by the length of s
pub record MarksAlso (old new : List Bool) (s : List Place) : Type 0 where
  pub long : length new ≡ length old
  pub more : many_marked new ≡ many_marked old + length s
  pub marked : (p : Place) → IsMember p s → is_marked new p ≡ true
  pub others : (p : Place) → IsAbsent p s → is_marked new p ≡ is_marked old p

-- a check has marked the members of one collection: the table represents a sequence of `count` members. None of them is marked in `old`, and all of them are
-- marked in `new`
module _ (shows : List Place → Type 0) where
  abbrev pub IsGathered : List Bool → List Bool → ℕ → Type 0
  IsGathered old new count = (s : List Place) × shows s × (length s ≡ count) × AreUnmarked old s × MarksAlso old new s

  -- the table represents no sequence whose members are all unmarked in `old`
  abbrev pub RepresentsNoneUnmarked : List Bool → Type 0
  RepresentsNoneUnmarked old = (s : List Place) → shows s → AreUnmarked old s → ⊥

  -- the table represents a sequence, exactly the members of this sequence are marked, and `count` marks are set
  abbrev pub LeavesMarked : List Bool → ℕ → Type 0
  LeavesMarked marks count = (s : List Place) × shows s × IsMarking marks s × (many_marked marks ≡ count)

-- `linked` says whether an entry is that of a linked place
module _ (shows : List Place → Type 0) {E : Type 0} (linked : E → Bool) (t : Table E) where
  -- the result of a check is the number of members of the sequence that the table represents, or none if it represents no sequence. If there is a number,
  -- exactly the members are marked afterwards. Only linked places are marked. `marks` are the marks before the check, and `marks'` those after it
  pub record ChecksMarking (marks : List Bool) (result : Option ℕ) (marks' : List Bool) : Type 0 where
    pub shown : MatchOption result (RepresentsNone shows) (IsRepresented shows)
    pub marked : IfSome result (LeavesMarked shows marks')
    pub only : (p : Place) → is_marked marks' p ≡ true → IsLinked linked t p
    pub length : length marks' ≡ length marks

-- the place with the index i is linked, and is not marked
abbrev pub IsMissed : {E : Type 0} → (E → Bool) → Table E → List Bool → ℕ → Type 0
IsMissed linked t marks i = (p : Place) × (index_of p ≡ i) × IsLinked linked t p × (is_marked marks p ≡ false)
