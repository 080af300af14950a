use Rattle.ic_any_collection.proofs.Common.{[], subst, table_in, is_linked, ChangesOnlyIn, TraceIs, releases_each, lawful, keeps_frame, held_of, one_sequence}
use Rattle.ic_any_collection.proofs.any_collection.AnyCollection.unlink_all.Goals as goal

pub dispose-requires : goal.dispose-requires
dispose-requires g c = record { held = held_of (lawful c.args.links.now) c.take.result _ (c.take.ensures.whole _ _ c.requires.held) }

pub returns : goal.returns
returns g c =
    let t = table_in c.args.links.now in let t' = table_in c.dispose.new.links in
    let taken = c.take.ensures.whole t _ c.requires.held in let same = one_sequence t (lawful c.args.links.now) c.take.result _ taken.shown in
    let frame = subst (ChangesOnlyIn t t') same c.dispose.ensures.frame in let empty = c.take.ensures.empty t _ c.requires.held in
    record {
      leaves = record { kept = keeps_frame c.take.new.self [] _ empty tt frame; alike = c.take.ensures.empty_alike; cursor_is = c.take.ensures.empty_null; frame = frame };
      links = subst (λ s. TraceIs is_linked t t' (releases_each s)) same c.dispose.ensures.released;
    }
