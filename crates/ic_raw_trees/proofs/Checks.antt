-- Lemmas on what the results of the checks say about the words.
use Rattle.std.proofs.Common.{◌≡◌, ℕ, Bool, true, false, not, is_some, IsTrue, MatchOption, Option, Some, None, List, refl, sym, ◌∙◌, subst, true≢false}
use Rattle.ic_link_ops.specs.Prelude.{Place, IsMember, Table, HasMember, is_end}
use Rattle.ic_link_ops.proofs.Prelude.{member_split, is_end_no, is_end_yes}
use Rattle.ic_check.specs.Checked.{IsRepresented, RepresentsNone}
use Rattle.ic_check.specs.Subtrees.{AreApart}
use Rattle.ic_raw.specs.declared.words.RawThree.{RawThree}
use Rattle.ic_raw.specs.Tree.{Represents}

-- the roots `one` and `given` are apart exactly if the comparison of the two roots, `same`, is false
pub apart_by : (one given : Option Place) (p : Place) (same : Bool) → given ≡ Some p → same ≡ is_end one p
    → (IsTrue (not same) → AreApart one given) × (AreApart one given → IsTrue (not same))
apart_by one given p true is e = (λ never. absurd (true≢false (sym never)), λ apart. absurd (apart p (is_end_yes one p (sym e)) is))
apart_by one given p false is e = (λ yes q f g. is_end_no one p (sym e) (f ∙ (sym g ∙ is)), λ apart. refl)

-- if a check returns a count, the words represent a sequence, and if it returns `None`, they represent none
pub found : {shows : List Place → Type 0} (count : Option ℕ) (is : Bool) → is ≡ is_some count → MatchOption count (RepresentsNone shows) (IsRepresented shows)
    → (IsTrue is → (s : List Place) × shows s) × (((s : List Place) × shows s) → IsTrue is)
found None is e none = (λ yes. absurd (true≢false (sym yes ∙ e)), λ some. absurd (none some.0 some.1))
found (Some n) is e shown = (λ yes. (shown.0, shown.1), λ some. e)

-- a member of a sequence that the words represent is a member of the tree
pub member_of : {t : Table RawThree} {root : Option Place} {s : List Place} (p : Place) → Represents t root s → IsMember p s → HasMember (Represents t root) p
member_of {t} {root} {s} p shown member =
    let parts = member_split p s member in
    record { front = parts.0; back = parts.1; shown = subst (Represents t root) parts.2 shown }
