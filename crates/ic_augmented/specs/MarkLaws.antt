-- If two edits write no summary and only make some stale, both edits together write no summary.
use Rattle.std.specs.Prelude.{◌≡◌, true, Bool, Option, None, Some, refl}
use Rattle.std.proofs.Common.{◌∙◌, sym}
use Rattle.ic_unsafe_ref.specs.declared.place.Place.{Place}
use Rattle.ic_augmented.specs.Summaries.{Summaries, WritesNoSummary, is_fresh}
use Rattle.ic_augmented.specs.Beside.{IsWrittenIn, StaysInside}

module _ {S : Type 0} where
  pub marks_still : (z : Summaries S) → WritesNoSummary z z
  marks_still z = record { fresh = λ q x e. e; upper = λ q. refl }

  pub marks_on : {x y z : Summaries S} → WritesNoSummary x y → WritesNoSummary y z → WritesNoSummary x z
  marks_on h k = record { fresh = λ q a e. h.fresh q a (k.fresh q a e); upper = λ q. k.upper q ∙ h.upper q }

  -- if an edit wrote no summary, each summary that is fresh after it was fresh before it
  fresh_before : (x y : Summaries S) → WritesNoSummary x y → (q : Place) → is_fresh (y.fresh q) ≡ true → is_fresh (x.fresh q) ≡ true
  fresh_before x y h q e = printed (y.fresh q) refl e where
    printed : (o : Option S) → y.fresh q ≡ o → is_fresh o ≡ true → is_fresh (x.fresh q) ≡ true
    printed None is k = cc
    printed (Some a) is k = rw (h.fresh q a is) refl

  -- if the parents that are stored inside a set are in the set, they still are after an edit that writes no summary
  pub written_still : (x y : Summaries S) → WritesNoSummary x y → (inside : Place → Bool) → IsWrittenIn x inside → IsWrittenIn y inside
  written_still x y h inside k q p m e up = k q p m (fresh_before x y h q e) (sym (h.upper q) ∙ up)

  -- an edit that changes nothing stays inside a set. If each of two edits stays inside the set, both together stay inside the set
  pub inside_still : (z : Summaries S) (o : Option Place) (inside : Place → Bool) → StaysInside z z o o inside
  inside_still z o inside i = (i, λ k q out. record { fresh = refl; upper = refl })

  pub inside_on : {x y z : Summaries S} (a b c : Option Place) (inside : Place → Bool) → WritesNoSummary x y → StaysInside x y a b inside → StaysInside y z b c inside → StaysInside x z a c inside
  inside_on {x} {y} {z} a b c inside marks h k i =
      let first = h i in
      let next = k first.0 in (
        next.0,
        λ written q out. let still = written_still x y marks inside written in
            record { fresh = (next.1 still q out).fresh ∙ (first.1 written q out).fresh; upper = (next.1 still q out).upper ∙ (first.1 written q out).upper },
      )
