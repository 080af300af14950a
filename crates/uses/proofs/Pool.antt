-- Lemmas about a call that claims one place after the other, and whose claims are all refused.
use Rattle.std.proofs.Common.{◌≡◌, ◌+◌, ℕ, List, [], ◌∷◌, ◌++◌, length, refl, sym, ap, ◌∙◌, arith, append_assoc, append-nil}
use Rattle.std.proofs.lemmas.List.{length_push}
use Rattle.ic_link_ops.specs.Prelude.{Place, index_of}
use Rattle.ic_atomic.specs.declared.step.Step.TheVariants.{Claim}
use Rattle.ic_atomic.specs.declared.step.Event.{Event}
use Rattle.ic_atomic.specs.Records.{event, HoldsAlso, HoldsTheSame}
use Rattle.uses.specs.Pool.{refusals, IsRow, WereRefused}

row_more : (from : ℕ) (ps : List Place) (p : Place) → IsRow from ps → index_of p ≡ from + length ps → IsRow from (ps ++ p ∷ [])
row_more from [] p row e = (omega (arith, e), tt)
row_more from (q ∷ ps) p row e = (row.0, row_more (from + 1) ps p row.1 (omega (arith, e)))

refusals_more : (ps : List Place) (p : Place) → refusals (ps ++ p ∷ []) ≡ refusals ps ++ event (Claim p) 1 ∷ []
refusals_more [] p = refl
refusals_more (q ∷ ps) p = ap (λ (es : List Event). event (Claim q) 1 ∷ es) (refusals_more ps p)

-- at first, 0 places were claimed, and the record has not changed
pub refused_none : (r : List Event) → WereRefused 0 r r
refused_none r = record { tried = []; row = tt; count_is = refl; gained = sym (append-nil r) }

-- if the first `count` places were refused, and then the place with the index `count` is refused, then `count + 1` places were refused
pub refused_more : {count : ℕ} {old now new : List Event} → WereRefused count old now → (p : Place) → index_of p ≡ count → new ≡ now ++ event (Claim p) 1 ∷ [] → WereRefused (count + 1) old new
refused_more {old} were p is gained = record {
  tried = were.tried ++ p ∷ [];
  row = let c = were.count_is in row_more 0 were.tried p were.row (omega (arith, is, c));
  count_is = let n = length_push were.tried p in let c = were.count_is in omega (arith, n, c);
  gained = gained ∙ rw (were.gained, refusals_more were.tried p) (append_assoc old (refusals were.tried) (event (Claim p) 1 ∷ []));
}

-- a holder holds the same places by the records `old` and `now`. If it holds `p` in addition to these places by the record `new`, then `HoldsAlso` holds
-- from `old` to `new`
pub also : {old now new : List Event} {p : Place} → HoldsTheSame old now → HoldsAlso now new p → HoldsAlso old new p
also {p} same more = record { was = sym (same p) ∙ more.was; is = more.is; others = λ q apart. more.others q apart ∙ same q }
