-- This file proves facts about the steps of a table that the laws of tables need.
use Rattle.std.specs.Prelude.{List, [], ◌∷◌, ◌++◌, Bool}
use Rattle.std.proofs.Common.{sym, ◌∙◌}
use Rattle.ic_link_ops.specs.Tables.{Extent, Table, KeepsLinked, with_extent}
use Rattle.ic_link_ops.specs.LinkSteps.{LinkStep, acquires, releases, Makes, TraceIs}

module _ {E : Type 0} (linked : E → Bool) where
  -- `Makes` reads in its two tables only which places are linked. Each of the two tables can therefore be exchanged for a table
  -- with the same linked places: the first by `makes_from`, the second by `makes_to`.
  makes_from : (s : LinkStep) (a b c : Table E) → KeepsLinked linked a b → Makes linked s b c → Makes linked s a c
  makes_from (acquires p) a b c k l = record { was = sym (k p) ∙ l.was; is = l.is; others = λ q n. l.others q n ∙ k q }
  makes_from (releases p) a b c k l = record { was = sym (k p) ∙ l.was; is = l.is; others = λ q n. l.others q n ∙ k q }

  makes_to : (s : LinkStep) (a b c : Table E) → Makes linked s a b → KeepsLinked linked b c → Makes linked s a c
  makes_to (acquires p) a b c l k = record { was = l.was; is = k p ∙ l.is; others = λ q n. k q ∙ l.others q n }
  makes_to (releases p) a b c l k = record { was = l.was; is = k p ∙ l.is; others = λ q n. k q ∙ l.others q n }

  -- If a list of steps leads from one table to another, it also leads there from every table in which the same places are linked
  -- as in the first.
  replays_from : (s : List LinkStep) (a b c : Table E) → KeepsLinked linked a b → TraceIs linked b c s → TraceIs linked a c s
  replays_from [] a b c k l = λ q. l q ∙ k q
  replays_from (x ∷ []) a b c k l = makes_from x a b c k l
  replays_from (x ∷ y ∷ rest) a b c k l = (l.0, makes_from x a b l.0 k l.1, l.2)

  -- Two lists of steps can be joined. If s leads from a to b and t leads from b to c, the list s followed by t leads from a to c.
  pub replays_on : (s t : List LinkStep) (a b c : Table E) → TraceIs linked a b s → TraceIs linked b c t → TraceIs linked a c (s ++ t)
  replays_on [] t a b c l m = replays_from t a b c l m
  replays_on (x ∷ []) [] a b c l m = makes_to x a b c l m
  replays_on (x ∷ []) (y ∷ t) a b c l m = (b, l, m)
  replays_on (x ∷ y ∷ rest) t a b c l m = (l.0, l.1, replays_on (y ∷ rest) t l.0 b c l.2 m)

  -- If the extents of the two tables are replaced, the same steps still lead from one table to the other.
  makes_within : (e f : Extent) (s : LinkStep) (a b : Table E) → Makes linked s a b → Makes linked s (with_extent e a) (with_extent f b)
  makes_within e f (acquires p) a b l = record { was = l.was; is = l.is; others = l.others }
  makes_within e f (releases p) a b l = record { was = l.was; is = l.is; others = l.others }

  pub trace_within : (e f : Extent) (s : List LinkStep) (a b : Table E) → TraceIs linked a b s → TraceIs linked (with_extent e a) (with_extent f b) s
  trace_within e f [] a b l = l
  trace_within e f (x ∷ []) a b l = makes_within e f x a b l
  trace_within e f (x ∷ y ∷ rest) a b l = (with_extent e l.0, makes_within e e x a l.0 l.1, trace_within e f (y ∷ rest) l.0 b l.2)
