use Rattle.std.proofs.Common.{refl}
use Rattle.std.specs.Fn.{CalledAtTwo}
use Rattle.ic_list_algorithms.specs.Asked.{asks_two}
use Rattle.ic_list_algorithms.specs.Sifts.{differs}
use Rattle.ic_list_algorithms.proofs.AskedLemmas.{deduped}
use Rattle.ic_list_algorithms.proofs.SiftLemmas.{sifts_as}
use Rattle.ic_list_algorithms.proofs.sift.dedup_by.Goals as goal

pub returns : goal.returns
returns g c = record {
  firsts_stay = λ s alike shown. sifts_as (λ computes. (alike, rw c.new-keep.ensures computes, refl)) refl refl (c.sift.ensures.sifted s (differs alike) shown);
  asked = λ s shown.
      let k = c.sift.ensures.asked s shown in
      (k.0, k.1, rw c.new-keep.ensures at (deduped (g.O.Values.values c.args.objects.now) (λ keep prev v kept after. asks_two (CalledAtTwo g.F.FnMut) keep.same prev v kept after.same) (λ keep. keep.same) (CalledAtTwo g.F.FnMut) (λ f v b after h. h) (λ f p v b after h. h) s c.new-keep.result k.0 c.sift.new.keep k.2));
}
