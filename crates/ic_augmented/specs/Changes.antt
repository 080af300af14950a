-- If a summary changes, the summaries above it that were computed from it must change. These definitions say how they are recomputed.
use Rattle.std.specs.Prelude.{◌≡◌, ◌⊎◌, true, Option, Some, None, List, [], ◌∷◌}
use Rattle.ic_link_ops.specs.Prelude.{Place, Table, Node, Tree, top}
use Rattle.ic_link_ops.specs.declared.color.Color.{Color}
use Rattle.ic_link_ops.specs.declared.side.Side.{Side}
use Rattle.ic_link_ops.specs.declared.side.Side.TheVariants.{Left, Right}
use Rattle.ic_link_ops.specs.Frames.{Frame, frame, plug, put_in}
use Rattle.ic_augmented.specs.Summaries.{Summaries, is_fresh, seen}
use Rattle.ic_augmented.specs.Consistent.{IsUnder, IsConsistentTree, IsConsistentBelow}
use Rattle.ic_augmented.specs.Subtrees.{IsSubtree}

-- the place p is on a path, which is a list of frames with one place each
abbrev pub IsAmong : Place → List Frame → Type 0
IsAmong p [] = ⊥
IsAmong p (frame d c q b ∷ fs) = (q ≡ p) ⊎ IsAmong p fs

module _ {S : Type 0} where
  -- if joining `from` on one side with a summary o on the other gives x, then joining `to` with o gives y, whatever o is
  pub record Rejoins (join : Option S → Option S → S) (from to x y : S) : Type 0 where
    pub left : (o : Option S) → x ≡ join (Some from) o → y ≡ join (Some to) o
    pub right : (o : Option S) → x ≡ join o (Some from) → y ≡ join o (Some to)

  -- the parent that is stored with the summary of a place, or none if there is no place
  abbrev pub seen_upper : Summaries S → Option Place → Option Place
  seen_upper z None = None
  seen_upper z (Some p) = z.upper p

  -- the join of the summary x on side d and of the summary y on the other side
  abbrev pub join_on : Side → (Option S → Option S → S) → Option S → Option S → S
  join_on Left join x y = join x y
  join_on Right join x y = join y x

  -- the summary y of the place q was computed from x and from the summary of the child `other`. Here x is the fresh summary of the child on side d, and the
  -- parent `up` that is stored with x is q
  pub record IsJoinedOn (z : Summaries S) (d : Side) (q : Place) (x : Option S) (up other : Option Place) (y : S) : Type 0 where
    pub fresh : is_fresh x ≡ true
    pub under : up ≡ Some q
    pub joined : y ≡ join_on d (z.join q) x (seen z other)
    pub other_is : IsUnder z q other

  -- each fresh summary above and beside a subtree is right, if the root of the subtree has the summary x and the stored parent `up`
  abbrev pub IsConsistentAbove : Summaries S → Option S → Option Place → List Frame → Type 0
  IsConsistentAbove z x up [] = Unit {0}
  IsConsistentAbove z x up (frame d c p b ∷ fs) =
      ((y : S) → z.fresh p ≡ Some y → IsJoinedOn z d p x up (top b) y) × IsConsistentTree z b × IsConsistentAbove z (z.fresh p) (z.upper p) fs

  -- the place `edge` is on the path. Each fresh summary above `edge` is right, and so is each fresh summary in the trees beside the path
  abbrev pub IsEdgeAbove : Summaries S → Place → List Frame → Type 0
  IsEdgeAbove z edge [] = ⊥
  IsEdgeAbove z edge (frame d c p b ∷ fs) =
      IsConsistentTree z b × (((p ≡ edge) × IsConsistentAbove z (z.fresh p) (z.upper p) fs) ⊎ IsEdgeAbove z edge fs)

  -- the place `edge` is p, which is at the lower end of the path, or `edge` is on the path. Each fresh summary above `edge` is right, and so is each fresh
  -- summary in the trees beside the path
  abbrev pub IsEdgeAt : Summaries S → Place → Place → List Frame → Type 0
  IsEdgeAt z edge p fs = ((p ≡ edge) × IsConsistentAbove z (z.fresh p) (z.upper p) fs) ⊎ IsEdgeAbove z edge fs

module _ {E S : Type 0} (n : E → Node) (v : Table E) where
  -- from state z to state y the summary of the place p was recomputed, because the summary of one child had changed from `from` to `to`. In state y the place p
  -- stores the parent `parent`
  abbrev pub RecomputesAt : Summaries S → Summaries S → Place → S → S → Option Place → Type 0
  RecomputesAt z y p from to parent = (d : Side) (c : Color) (b : Tree) (fs : List Frame) (t : Tree) (up : Option Place)
      → IsSubtree n v (frame d c p b ∷ fs) t → IsConsistentTree z t → seen z (top t) ≡ Some to → seen_upper z (top t) ≡ Some p
      → IsConsistentAbove z (Some from) up (frame d c p b ∷ fs) → IsConsistentTree y (put_in (frame d c p b) t) × (y.upper p ≡ parent)

  -- from state z to state y the summary of the place p was recomputed, because that of one child had changed, and then the summaries above p. Each fresh
  -- summary is right afterwards
  abbrev pub PassesOn : Summaries S → Summaries S → Place → S → S → Type 0
  PassesOn z y p from to = (d : Side) (c : Color) (b : Tree) (fs : List Frame) (t : Tree) (up : Option Place)
      → IsSubtree n v (frame d c p b ∷ fs) t → IsConsistentTree z t → seen z (top t) ≡ Some to → seen_upper z (top t) ≡ Some p
      → IsConsistentAbove z (Some from) up (frame d c p b ∷ fs) → IsConsistentTree y (plug (frame d c p b ∷ fs) t)

  -- from state z to state y the summaries from the place p up to the place `edge` were recomputed, and then those above `edge`. Each fresh summary is
  -- right afterwards
  abbrev pub ClimbsTo : Summaries S → Summaries S → Place → Place → Type 0
  ClimbsTo z y p edge = (fs : List Frame) (t : Tree)
      → IsSubtree n v fs t → top t ≡ Some p → IsConsistentBelow z t → IsEdgeAt z edge p fs → IsConsistentTree y (plug fs t)
