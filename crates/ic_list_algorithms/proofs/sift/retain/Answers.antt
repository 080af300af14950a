use Rattle.std.proofs.Common.{None, refl}
use Rattle.std.specs.Fn.{CalledAt}
use Rattle.ic_list_algorithms.specs.Sifts.{by_itself}
use Rattle.ic_list_algorithms.proofs.AskedLemmas.{filtered}
use Rattle.ic_list_algorithms.proofs.SiftLemmas.{sifts_as, kept_filtered, out_filtered}
use Rattle.ic_list_algorithms.proofs.sift.retain.Goals as goal

pub returns : goal.returns
returns g c = record {
  retained = λ s holds shown.
      sifts_as (λ computes. (holds, rw c.new-keep.ensures computes, refl)) (kept_filtered holds (g.O.Values.values c.args.objects.now) None s) (out_filtered holds (g.O.Values.values c.args.objects.now) None s)
      (c.sift.ensures.sifted s (by_itself holds) shown);
  asked = λ s shown.
      let k = c.sift.ensures.asked s shown in
      (k.0, k.1, rw c.new-keep.ensures at (filtered (g.O.Values.values c.args.objects.now) (λ keep prev v kept after. CalledAt g.F.FnMut keep.test v kept after.test) (λ keep. keep.test) (CalledAt g.F.FnMut) (λ f prev v b after h. h) s c.new-keep.result None k.0 c.sift.new.keep k.2));
}
