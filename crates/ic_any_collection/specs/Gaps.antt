-- The gaps at which calls edit a collection: which kinds can edit at each gap, which member a removal there takes, and where the cursor is after an
-- edit.
use Rattle.std.specs.Prelude.{◌≡◌, Bool, true, false, Option, Some, None, List, drop}
use Rattle.ic_link_ops.specs.Prelude.{Place, Cut, first, but_last, IsAfter, IsBefore}
use Rattle.ic_any_collection.specs.declared.kind.Kind.{Kind}
use Rattle.ic_any_collection.specs.declared.gap.Gap.{Gap}
use Rattle.ic_any_collection.specs.declared.gap.Gap.TheVariants.{Front, Back, Before, After}
use Rattle.ic_any_collection.specs.Kinds.{has_before, is_list, is_two_way_list, is_singly}

-- WHICH KINDS of collection can insert an object into a gap, can remove the member at the gap, and can replace the member at the gap
abbrev pub can_insert : Gap → Kind → Bool
can_insert Front k = is_list k
can_insert Back k = is_two_way_list k
can_insert Before k = has_before k
can_insert After k = true

abbrev pub can_remove : Gap → Kind → Bool
can_remove Front k = is_list k
can_remove Back k = is_two_way_list k
can_remove Before k = has_before k
can_remove After k = is_singly k

abbrev pub can_replace : Gap → Kind → Bool
can_replace Before k = has_before k
can_replace After k = is_singly k
can_replace _ k = false

-- the position from which an edit at a gap is made. The position is null for the gaps at the front and the back, and the cursor's position `at` for
-- the gaps beside the cursor
abbrev pub from : {P : Type 0} → Gap → (null at : P) → P
from Front null at = null
from Back null at = null
from gap null at = at

-- whether a gap is after the position from which an edit at the gap is made. If not, the gap is before that position
abbrev pub is_after : Gap → Bool
is_after Front = true
is_after After = true
is_after gap = false

abbrev pub beside : Bool → Cut → Option Place → Type 0
beside true gap position = IsAfter gap position
beside false gap position = IsBefore gap position

-- THE GAP at which a call edits a collection whose cursor is at `cursor`. `rests` is the position of the cursor after an insertion there: null at the
-- front and the back, and unchanged beside the cursor
abbrev pub IsGapAt : Gap → Option Place → Cut → Type 0
IsGapAt Front cursor gap = IsAfter gap None
IsGapAt Back cursor gap = IsBefore gap None
IsGapAt Before cursor gap = IsBefore gap cursor
IsGapAt After cursor gap = IsAfter gap cursor

abbrev pub rests : Gap → Option Place → Option Place
rests Front cursor = None
rests Back cursor = None
rests gap cursor = cursor

-- THE GAP DIRECTLY BEFORE THE MEMBER that a removal takes. For example, a removal at the back takes the last member, so the gap is the one before the
-- last member
abbrev pub IsFrontOf : Gap → List Place → Option Place → Cut → Type 0
IsFrontOf Front s cursor gap = IsAfter gap None
IsFrontOf Back s cursor gap = gap.front ≡ but_last s
IsFrontOf Before s cursor gap = IsBefore gap cursor
IsFrontOf After s cursor gap = IsAfter gap cursor

-- `onward` is the position of the cursor after a member was removed, and `onto` its position after p replaced a member. If the cursor was on the
-- member, it goes to the next member, or to p
abbrev pub onward : Gap → Option Place → Cut → Option Place
onward Before cursor gap = first (drop 1 gap.back)
onward After cursor gap = cursor
onward _ cursor gap = None

abbrev pub onto : Gap → Option Place → Place → Option Place
onto Before cursor p = Some p
onto After cursor p = cursor
onto _ cursor p = None
