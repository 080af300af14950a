-- Each record of this file is the whole contract of one call of rings. The first fields say what the call does to rings. The other fields hold
-- whatever the words contain. They say what an accepted call has tested and which entries it changes, what a refused call leaves as it was, and why
-- it was refused.
use Rattle.std.specs.Prelude.{◌≡◌, ◌≢◌, ◌↔◌, ◌⊎◌, ◌++◌, ◌∷◌, ℕ, List, [], Option, Some, None}
use Rattle.ic_link_ops.specs.Prelude.{Place, IsDisjoint, last, ChangesOnly, IsLinked, IsUnlinked, acquires, releases}
use Rattle.ic_raw.specs.declared.gap.GapSide.{GapSide}
use Rattle.ic_raw.specs.declared.gap.GapSide.TheVariants.{After}
use Rattle.ic_raw.specs.declared.status.TheConstants.{OK, NULL}
use Rattle.ic_raw.specs.Answers.{IsStatus, IsAccepted, refusal}
use Rattle.ic_raw.specs.LinkWords.{LinkWords, table_of, FreeIn, fault_at, fault_of}
use Rattle.ic_raw.specs.Ring.{IsCircle, AreLinked, Makes, MakesTwo, around, beside, own_on, put_in, all_put_in}
use Rattle.ic_raw.specs.Touches.{Touches}
use Rattle.ic_raw.specs.Words.{HasNumber}

-- the words confirm both neighbors of the place p: `before` and p name each other, and p and `after` name each other
pub record IsAmid {W : Type 0} (words : LinkWords W) (es : List W) (p : Place) : Type 0 where
  pub before : Place
  pub after : Place
  pub comes : AreLinked words (table_of words es) before p
  pub goes : AreLinked words (table_of words es) p after

-- `words` says how the words of a place are read. `old` and `new` are the words of the table before the call and after it. `status` is the status
-- that the call returns
module _ {W : Type 0} (words : LinkWords W) (old new : List W) (status : ℕ) where
  -- A PLACE BECOMES A HEAD, and is then alone in a ring without members
  pub record InitCall (head : Option Place) : Type 0 where
    pub opened : (h : Place) → head ≡ Some h → FreeIn words old h
        → IsAccepted status (IsCircle words (table_of words new) (h ∷ []) × ChangesOnly (table_of words old) (table_of words new) h)
    pub free : (h : Place) → head ≡ Some h → status ≡ OK → FreeIn words old h
    pub no_place : head ≡ None → status ≢ OK
    pub refused : status ≢ OK → new ≡ old
    pub why : status ≢ OK → status ≡ refusal (fault_of words old head ∷ [])
    pub is_status : IsStatus status

  -- A PLACE IS INSERTED INTO A RING on this side of the place `at`
  pub record InsertCall (side : GapSide) (at place : Option Place) : Type 0 where
    pub inserted : (h p : Place) (r : List Place) → at ≡ Some h → place ≡ Some p → FreeIn words old p → IsCircle words (table_of words old) (h ∷ r)
        → IsAccepted status (Makes words (table_of words old) (table_of words new) (p ∷ h ∷ r) (put_in side h p r))
    pub free : (p : Place) → place ≡ Some p → status ≡ OK → FreeIn words old p
    pub no_place : place ≡ None → status ≢ OK
    pub null : (status ≡ NULL) ↔ (at ≡ None)
    pub links_back : (h : Place) → at ≡ Some h → status ≡ OK → (x : Place × Place) × AreLinked words (table_of words old) x.0 x.1 × (own_on side x ≡ h)
    pub touched : (h p : Place) → at ≡ Some h → place ≡ Some p → status ≡ OK
        → Touches words.is_linked (table_of words old) (table_of words new) (acquires p ∷ []) (Some p ∷ Some h ∷ beside words side (table_of words old) h ∷ [])
    pub refused : status ≢ OK → new ≡ old
    pub why : status ≢ OK → status ≢ NULL → status ≡ refusal (fault_at words old at ∷ fault_of words old place ∷ [])
    pub is_status : IsStatus status

  -- A PLACE IS REMOVED from its ring, and it is then unlinked
  pub record RemoveCall (place : Option Place) : Type 0 where
    pub removed : (p : Place) (r : List Place) → place ≡ Some p → IsCircle words (table_of words old) (p ∷ r)
        → IsAccepted status (Makes words (table_of words old) (table_of words new) (p ∷ r) r × IsUnlinked words.is_linked (table_of words new) p)
    pub null : (status ≡ NULL) ↔ (place ≡ None)
    pub links_back : (p : Place) → place ≡ Some p → status ≡ OK → IsAmid words old p
    pub touched : (p : Place) → place ≡ Some p → status ≡ OK
        → Touches words.is_linked (table_of words old) (table_of words new) (releases p ∷ []) (Some p ∷ around words (table_of words old) p)
    pub refused : status ≢ OK → new ≡ old
    pub why : status ≢ OK → status ≢ NULL → status ≡ refusal (fault_at words old place ∷ [])
    pub is_status : IsStatus status

  -- TWO PLACES EXCHANGE the places that follow them. Two rings become one ring, or one ring becomes two rings
  pub record ExchangeCall (one other : Option Place) : Type 0 where
    pub joins : (x y : Place) (r s : List Place) → one ≡ Some x → other ≡ Some y → IsCircle words (table_of words old) r → IsCircle words (table_of words old) s → IsDisjoint r s
        → last r ≡ Some x → last s ≡ Some y → IsAccepted status (Makes words (table_of words old) (table_of words new) (r ++ s) (r ++ s))
    pub cuts : (x y : Place) (r s : List Place) → one ≡ Some x → other ≡ Some y → IsCircle words (table_of words old) (r ++ s) → last r ≡ Some x → last s ≡ Some y
        → IsAccepted status (MakesTwo words (table_of words old) (table_of words new) (r ++ s) r s)
    pub null : (status ≡ NULL) ↔ ((one ≡ None) ⊎ (other ≡ None))
    pub links_back : (x : Place) → one ≡ Some x → status ≡ OK → (q : Place) × AreLinked words (table_of words old) x q
    pub links_back_other : (y : Place) → other ≡ Some y → status ≡ OK → (q : Place) × AreLinked words (table_of words old) y q
    pub touched : (x y : Place) → one ≡ Some x → other ≡ Some y → status ≡ OK
        → Touches words.is_linked (table_of words old) (table_of words new) [] (Some x ∷ beside words After (table_of words old) x ∷ Some y ∷ beside words After (table_of words old) y ∷ [])
    pub refused : status ≢ OK → new ≡ old
    pub why : status ≢ OK → status ≢ NULL → status ≡ refusal (fault_at words old one ∷ fault_at words old other ∷ [])
    pub is_status : IsStatus status

  -- THE PLACE ON THIS SIDE OF A HEAD IS REMOVED from its ring. The caller's variable contains `was` before the call and `popped` after it. If the
  -- call is accepted, `popped` is the number of the removed place
  pub record PopCall (was popped : ℕ) (side : GapSide) (head : Option Place) : Type 0 where
    pub taken : (h p : Place) (r : List Place) → head ≡ Some h → IsCircle words (table_of words old) (put_in side h p r)
        → IsAccepted status
        (Makes words (table_of words old) (table_of words new) (put_in side h p r) (h ∷ r) × IsUnlinked words.is_linked (table_of words new) p × HasNumber p popped)
    pub empty : (h : Place) → head ≡ Some h → IsCircle words (table_of words old) (h ∷ []) → status ≡ NULL
    pub linked : status ≡ OK → (p : Place) × HasNumber p popped × IsLinked words.is_linked (table_of words old) p
    pub none : head ≡ None → status ≡ NULL
    pub null : (h : Place) → head ≡ Some h → status ≡ NULL → AreLinked words (table_of words old) h h
    pub touched : (h : Place) → head ≡ Some h → status ≡ OK → (p : Place) × (beside words side (table_of words old) h ≡ Some p) × HasNumber p popped
        × Touches words.is_linked (table_of words old) (table_of words new) (releases p ∷ []) (Some p ∷ around words (table_of words old) p)
    pub refused : status ≢ OK → (new ≡ old) × (popped ≡ was)
    pub why : status ≢ OK → status ≢ NULL → status ≡ refusal (fault_at words old head ∷ [])
    pub is_status : IsStatus status

  -- THE PLACE `place` REPLACES THE PLACE `at`, which is removed from its ring
  pub record ReplaceCall (at place : Option Place) : Type 0 where
    pub replaced : (h p : Place) (r : List Place) → at ≡ Some h → place ≡ Some p → FreeIn words old p → IsCircle words (table_of words old) (h ∷ r)
        → IsAccepted status (Makes words (table_of words old) (table_of words new) (p ∷ h ∷ r) (p ∷ r) × IsUnlinked words.is_linked (table_of words new) h)
    pub free : (p : Place) → place ≡ Some p → status ≡ OK → FreeIn words old p
    pub no_place : place ≡ None → status ≢ OK
    pub links_back : (h : Place) → at ≡ Some h → status ≡ OK → IsAmid words old h
    pub null : (status ≡ NULL) ↔ (at ≡ None)
    pub touched : (h p : Place) → at ≡ Some h → place ≡ Some p → status ≡ OK
        → Touches words.is_linked (table_of words old) (table_of words new) (acquires p ∷ releases h ∷ []) (Some p ∷ Some h ∷ around words (table_of words old) h)
    pub refused : status ≢ OK → new ≡ old
    pub why : status ≢ OK → status ≢ NULL → status ≡ refusal (fault_at words old at ∷ fault_of words old place ∷ [])
    pub is_status : IsStatus status

  -- THE PLACE `place` MOVES to this side of the place `at`, out of another ring or within its own ring. If `at` is equal to `place`, nothing changes
  pub record MoveCall (side : GapSide) (at place : Option Place) : Type 0 where
    pub apart : (h p : Place) (r s : List Place) → at ≡ Some h → place ≡ Some p → IsCircle words (table_of words old) (p ∷ r) → IsCircle words (table_of words old) (h ∷ s)
        → IsDisjoint (p ∷ r) (h ∷ s) → IsAccepted status (MakesTwo words (table_of words old) (table_of words new) (p ∷ r ++ h ∷ s) r (put_in side h p s))
    pub in_circle : (h p : Place) (r s : List Place) → at ≡ Some h → place ≡ Some p → IsCircle words (table_of words old) (p ∷ r ++ h ∷ s)
        → IsAccepted status (Makes words (table_of words old) (table_of words new) (p ∷ r ++ h ∷ s) (put_in side h p (s ++ r)))
    pub itself : (p : Place) (r : List Place) → at ≡ Some p → place ≡ Some p → IsCircle words (table_of words old) (p ∷ r) → IsAccepted status (new ≡ old)
    pub links_back : (p : Place) → place ≡ Some p → status ≡ OK → IsAmid words old p
    pub linked : (h : Place) → at ≡ Some h → status ≡ OK → IsLinked words.is_linked (table_of words old) h
    pub null : (status ≡ NULL) ↔ ((at ≡ None) ⊎ (place ≡ None))
    pub touched : (h p : Place) → at ≡ Some h → place ≡ Some p → status ≡ OK
        → Touches words.is_linked (table_of words old) (table_of words new) [] (Some p ∷ around words (table_of words old) p ++ Some h ∷ beside words side (table_of words old) h ∷ [])
    pub refused : status ≢ OK → new ≡ old
    pub why : status ≢ OK → status ≢ NULL → status ≡ refusal (fault_at words old at ∷ fault_at words old place ∷ [])
    pub is_status : IsStatus status

  -- ALL MEMBERS OF THE HEAD `given` MOVE to this side of the place `at` of another ring. The head `given` is then alone in its ring
  pub record SpliceCall (side : GapSide) (at given : Option Place) : Type 0 where
    pub spliced : (h g : Place) (r s : List Place) → at ≡ Some h → given ≡ Some g → IsCircle words (table_of words old) (h ∷ r) → IsCircle words (table_of words old) (g ∷ s)
        → IsDisjoint (h ∷ r) (g ∷ s)
        → IsAccepted status (MakesTwo words (table_of words old) (table_of words new) (h ∷ r ++ g ∷ s) (all_put_in side h r s) (g ∷ []))
    pub links_back : (g : Place) → given ≡ Some g → status ≡ OK → IsAmid words old g
    pub linked : (h : Place) → at ≡ Some h → status ≡ OK → IsLinked words.is_linked (table_of words old) h
    pub other : (h g : Place) → at ≡ Some h → given ≡ Some g → status ≡ OK → h ≢ g
    pub null : (status ≡ NULL) ↔ ((at ≡ None) ⊎ (given ≡ None))
    pub touched : (h g : Place) → at ≡ Some h → given ≡ Some g → status ≡ OK
        → Touches words.is_linked (table_of words old) (table_of words new) [] (Some g ∷ around words (table_of words old) g ++ Some h ∷ beside words side (table_of words old) h ∷ [])
    pub refused : status ≢ OK → new ≡ old
    pub why : status ≢ OK → status ≢ NULL → status ≡ refusal (fault_at words old at ∷ fault_at words old given ∷ [])
    pub is_status : IsStatus status
