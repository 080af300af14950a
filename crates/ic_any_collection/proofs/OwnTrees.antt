-- Trees over their own table of tree links, and over the field's table that contains this table. Both tables represent the same trees, and an edit
-- changes the same entries in both.
use Rattle.std.proofs.Common.{◌≡◌, ◌∙◌, ℕ, Option, Some, None, List, [], ◌∷◌, refl, ap}
use Rattle.std.specs.Prelude.{⊤}
use Rattle.ic_link_ops.specs.Prelude.{Place, Objects, Cut, Table, ChangesOnlyIn, LinkStep, TraceIs, acquires, releases, ArePlaced, RepresentsPlaced, Makes, Inserts, Tree, leaf, fork}
use Rattle.ic_any_collection.specs.Prelude.{Link, ThreeWords, node_of, Entry, number_of, node, of_three, read, is_linked, is_tree_linked}
use Rattle.ic_link_ops.specs.RedBlackTree.{Node, IsTree, Represents}
use Rattle.ic_any_collection.specs.declared.kind.Kind.TheVariants as kind

-- A TREE READ THROUGH ANOTHER TABLE has the same members, if the entries of both tables give the same node at each place
module _ {E F : Type 0} (node : E → Node) (other : F → Node) {entry : Place → E} {entries : Place → F} (same : (p : Place) → other (entries p) ≡ node (entry p)) where
  seen_tree : (up : Option Place) (tree : Tree) → IsTree node entry up tree → IsTree other entries up tree
  seen_tree up leaf h = tt
  seen_tree up (fork c a p b) h = (
    record {
      linked = ap (λ n. n.linked) (same p) ∙ h.0.linked;
      left = ap (λ n. n.left) (same p) ∙ h.0.left;
      right = ap (λ n. n.right) (same p) ∙ h.0.right;
      parent = ap (λ n. n.parent) (same p) ∙ h.0.parent;
      color = ap (λ n. n.color) (same p) ∙ h.0.color;
    },
    seen_tree (Some p) a h.1,
    seen_tree (Some p) b h.2,
  )

pub seen : {E F : Type 0} (node : E → Node) (other : F → Node) {t : Table E} {u : Table F} {root : Option Place} {s : List Place}
    → ((p : Place) → other (u.entry p) ≡ node (t.entry p)) → Represents node t root s → Represents other u root s
seen node other same shown = record {
  tree = shown.tree;
  held = record { order = shown.held.order; distinct = shown.held.distinct; entries = seen_tree node other same None shown.tree shown.held.entries };
  starts = shown.starts;
  shape = shown.shape;
}

-- a table of tree links, read as the table of a field
abbrev pub of_field : Table (Link (ThreeWords ℕ) ⊤) → Table Entry
of_field t = read kind.Tree of_three t

module _ {t : Table (Link (ThreeWords ℕ) ⊤)} {root : Option Place} {s : List Place} where
  pub to_field : Represents node_of t root s → Represents node (of_field t) root s
  to_field shown = seen node_of node (λ p. refl) shown

  pub to_own : Represents node (of_field t) root s → Represents node_of t root s
  to_own shown = seen node node_of (λ p. refl) shown

  -- what a tree's keyed calls require: the table represents some members for the tree, and there is an object at each member
  pub placed_in : {V : Type 0} {objects : Objects V} → Represents node (of_field t) root s → ArePlaced objects s → RepresentsPlaced (Represents node_of t root) objects
  placed_in shown placed = record { members = s; shown = to_own shown; placed = placed }

-- an edit changes the same entries, and makes the same link steps, in a tree's own table and in the field's table
pub frame_in_field : {t t' : Table (Link (ThreeWords ℕ) ⊤)} {s : List Place} → ChangesOnlyIn t t' s → ChangesOnlyIn (of_field t) (of_field t') s
frame_in_field frame =
    record { extent = ap (λ e. record { places = e.places; identity = number_of kind.Tree ∷ [] }) frame.extent; others = λ q out. ap of_three (frame.others q out) }

pub step_in_field : (t t' : Table (Link (ThreeWords ℕ) ⊤)) (step : LinkStep) → Makes is_tree_linked step t t' → Makes is_linked step (of_field t) (of_field t')
step_in_field t t' (acquires p) h = record { was = h.was; is = h.is; others = h.others }
step_in_field t t' (releases p) h = record { was = h.was; is = h.is; others = h.others }

pub trace_in_field : (t t' : Table (Link (ThreeWords ℕ) ⊤)) (steps : List LinkStep) → TraceIs is_tree_linked t t' steps → TraceIs is_linked (of_field t) (of_field t') steps
trace_in_field t t' [] h = h
trace_in_field t t' (step ∷ []) h = step_in_field t t' step h
trace_in_field t t' (step ∷ next ∷ rest) h = (of_field h.0, step_in_field t h.0 step h.1, trace_in_field h.0 t' (next ∷ rest) h.2)

pub inserts_in_field : {t t' : Table (Link (ThreeWords ℕ) ⊤)} {root : Option Place} {p : Place} {gap : Cut} → Inserts (Represents node_of) t t' root gap p → Inserts (Represents node) (of_field t) (of_field t') root gap p
inserts_in_field put = record { shows = to_field put.shows; frame = frame_in_field put.frame }
