-- These lemmas say what values and summaries a table has after a cell is written.
use Rattle.std.proofs.Common.{◌≡◌, ◌≢◌, ◌<◌, ℕ, Option, Some, None, List, length, slice_index_or, slice_set, sym, ap, ◌∙◌, subst, inl, inr}
use Rattle.std.proofs.Math.Path.{fun_ext}
use Rattle.ic_link_ops.specs.Prelude.{Place, index_of, Table, Node}
use Rattle.ic_link_ops.proofs.Prelude.{same_or_not, others_same, entry_same, entry_read}
use Rattle.ic_augmented.specs.declared.augmented_table.Cell.{Cell}
use Rattle.ic_augmented.specs.Prelude.{IsSameAt, IsConsistent, Invalidates, Writes}
use Rattle.ic_augmented.specs.AugmentedTables.{blank, cell_in, joined_in}
use Rattle.ic_augmented.proofs.ConsistencyLemmas.{not_stale, joined_at}

module _ {V S : Type 0} (join : V → Option S → Option S → S) (initial : V) where
  -- the cell `old` of the place p is replaced by the cell `new`
  module _ (es : List (Cell V S)) (p : Place) (old new out : Cell V S) (i : ℕ) (at : i ≡ index_of p) (covered : index_of p < length es) (read : old ≡ slice_index_or es i out) where
    there : cell_in initial es p ≡ old
    there = entry_read (blank initial) es p old out i at covered read

    written : cell_in initial (slice_set es i new) p ≡ new
    written = entry_same (blank initial) es p new i at covered

    others : (q : Place) → q ≢ p → cell_in initial (slice_set es i new) q ≡ cell_in initial es q
    others = others_same (blank initial) es p new i at

    kept : {X : Type 0} (f : Cell V S → X) → f new ≡ f old → (q : Place) → f (cell_in initial (slice_set es i new) q) ≡ f (cell_in initial es q)
    kept {X} f e q = elim (same_or_not q p) [
      | inl is ↦ subst (λ (y : Place). f (cell_in initial (slice_set es i new) y) ≡ f (cell_in initial es y)) (sym is) (ap f written ∙ (e ∙ sym (ap f there)))
      | inr n ↦ ap f (others q n)
    ]

    joins_kept : new.value ≡ old.value → (joined_in join initial (slice_set es i new)).join ≡ (joined_in join initial es).join
    joins_kept e = fun_ext (λ (q : Place). ap (λ (x : V). λ (a b : Option S). join x a b) (kept (λ (y : Cell V S). y.value) e q))

    pub cell_writes : (x : Option S) (up : Option Place) → new.value ≡ old.value → new.summary ≡ x → new.upper ≡ up → Writes (joined_in join initial es) (joined_in join initial (slice_set es i new)) p x up
    cell_writes x up e ex eu = record {
      fresh = ap (λ (y : Cell V S). y.summary) written ∙ ex;
      upper = ap (λ (y : Cell V S). y.upper) written ∙ eu;
      others = λ q n. ap (λ (y : Cell V S). y.summary) (others q n);
      uppers = λ q n. ap (λ (y : Cell V S). y.upper) (others q n);
      join = joins_kept e;
    }

    -- if the new cell has another parent and the old summary, only the stored parent of p changes (`cell_moves`). If the new cell has no summary, the summary
    -- of p becomes stale (`cell_invalidates`)
    pub cell_moves : (up : Option Place) → new.value ≡ old.value → new.summary ≡ old.summary → new.upper ≡ up → Writes (joined_in join initial es) (joined_in join initial (slice_set es i new)) p (cell_in initial es p).summary up
    cell_moves up e eg eu = cell_writes (cell_in initial es p).summary up e (eg ∙ sym (ap (λ (y : Cell V S). y.summary) there)) eu

    pub cell_invalidates : new.value ≡ old.value → new.summary ≡ None → new.upper ≡ old.upper → Invalidates (joined_in join initial es) (joined_in join initial (slice_set es i new)) p
    cell_invalidates e none eu = record {
      stale = ap (λ (y : Cell V S). y.summary) written ∙ none;
      others = λ q n. ap (λ (y : Cell V S). y.summary) (others q n);
      upper = kept (λ (y : Cell V S). y.upper) eu;
      join = joins_kept e;
    }

    -- the summary of the place p is computed from the value in its cell and from the summaries of both subtrees
    pub cell_joins : (x : S) (l r a b : Option S) → x ≡ join old.value l r → l ≡ a → r ≡ b → x ≡ join (cell_in initial es p).value a b
    cell_joins x l r a b e el er =
        e ∙ (ap (λ (o : Option S). join old.value o r) el ∙ (ap (λ (o : Option S). join old.value a o) er ∙ ap (λ (y : Cell V S). join y.value a b) (sym there)))

    -- if a value is set at a place with a stale summary, each fresh summary that was right still is
    pub value_set : {E : Type 0} (n : E → Node) (v : Table E) (s : List Place) → new.summary ≡ old.summary → new.upper ≡ old.upper → (joined_in join initial es).fresh p ≡ None
        → IsConsistent n v (joined_in join initial es) s → IsConsistent n v (joined_in join initial (slice_set es i new)) s
    value_set {E} n v s eg eu none h q m but x e =
        let same : (c : Place) → IsSameAt (joined_in join initial es) (joined_in join initial (slice_set es i new)) c = λ c. record { fresh = kept (λ (y : Cell V S). y.summary) eg c; upper = kept (λ (y : Cell V S). y.upper) eu c } in
        let fresh : (joined_in join initial es).fresh q ≡ Some x = sym (same q).fresh ∙ e in
        let other : q ≢ p = not_stale (joined_in join initial es) p q x none fresh in
        joined_at (joined_in join initial es) (joined_in join initial (slice_set es i new)) q _ _ x (h q m but x fresh)
        (ap (λ (y : Cell V S). λ (a b : Option S). join y.value a b) (others q other)) (λ c k. same c) (λ c k. same c)

  -- two tables in which summaries are computed alike have equal values at each place
  pub same_value : ((x y : V) → ((a b : Option S) → join x a b ≡ join y a b) → x ≡ y) → (es ds : List (Cell V S)) → (joined_in join initial es).join ≡ (joined_in join initial ds).join
      → (q : Place) → (cell_in initial es q).value ≡ (cell_in initial ds q).value
  same_value tells es ds e q = tells _ _ (λ a b. ap (λ (j : Place → Option S → Option S → S). j q a b) e)
