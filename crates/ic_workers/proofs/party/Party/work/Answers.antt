use Rattle.std.proofs.Common.{[], List, refl, ap, ◌∙◌, subst, arith}
use Rattle.ic_unsafe_ref.specs.declared.place.Place.{Place}
use Rattle.ic_atomic.specs.Holders.{places_of, IsOf}
use Rattle.ic_atomic.specs.Gathering.{chosen}
use Rattle.ic_workers.proofs.Rows.{row_inside}
use Rattle.ic_workers.proofs.party.Party.work.Goals as goal

pub claim_each-holder-requires-clause-covered : goal.claim_each-holder-requires-clause-covered
claim_each-holder-requires-clause-covered g c k d low =
    let r = c.requires in
    let i = row_inside 0 c.args.self.offered.now r.row k d low in
    omega (arith, i, low, r.long, r.covers)

pub returns-clause-gathered : goal.returns-clause-gathered
returns-clause-gathered g c =
    let r = c.requires in
    let all = c.claim_each-holder.ensures.claimed in
    let offered : List Place = c.args.self.offered.now in
    record {
      made = c.claim_each-holder.ensures.made;
      list = chosen offered all.0;
      shows = all.3;
      claimed = record {
        offered = offered;
        row = r.row;
        long = r.long;
        got = all.0;
        each = all.1;
        claimed = all.2;
        are = refl;
      };
    }

pub returns-clause-reported : goal.returns-clause-reported
returns-clause-reported g c = subst (g.G.Gate.Reported c.args.gate.now c.args.number) c.requires.long c.claim_each-holder.ensures.reported
