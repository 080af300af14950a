-- Lemmas about calls that take no step: they link and unlink no place.
use Rattle.std.proofs.Common.{◌≡◌, Bool, List, [], ◌++◌, append-nil, subst, sym, ◌∙◌}
use Rattle.ic_link_ops.specs.Prelude.{Table, KeepsLinked, LinkStep, Node}
use Rattle.ic_rbtree.specs.Closed.{KeepsNodes}
use Rattle.ic_rbtree.specs.Steps.{TraceStays}

-- if the list of steps from `old` to `new` is empty, each list of steps that leads to `old` also leads to `new`
pub trace_stays_more : {L : Type 0} (Trace : L → L → List LinkStep → Type 0) → ((a b c : L) (s t : List LinkStep) → Trace a b s → Trace b c t → Trace a c (s ++ t))
    → {old new : L} → Trace old new [] → TraceStays Trace old new
trace_stays_more Trace on {old} {new} none start s led =
    subst (λ (t : List LinkStep). Trace start new t) (append-nil s) (on start old new s [] led none)

-- if two tables have the same linked places, the nodes of their entries mark the same places as linked
pub same_nodes : {E : Type 0} (n : E → Node) {linked : E → Bool} → ((e : E) → (n e).linked ≡ linked e) → (old new : Table E) → KeepsLinked linked old new → KeepsNodes n old new
same_nodes n alike old new same q = alike (new.entry q) ∙ (same q ∙ sym (alike (old.entry q)))
