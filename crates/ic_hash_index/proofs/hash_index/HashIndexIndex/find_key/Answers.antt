use Rattle.std.proofs.Common.{None, Some, refl, sym, ap, eqb-true, eq-eqb, arith}
use Rattle.ic_hash_index.specs.HashIndex.{mixed}
use Rattle.ic_hash_index.proofs.HashLemmas.{hash_chain, hash_found}
use Rattle.ic_hash_index.proofs.hash_index.HashIndexIndex.find_key.Goals as goal

pub find_by-requires-clause-held : goal.find_by-requires-clause-held
find_by-requires-clause-held g c = (c.requires.all.members, c.requires.all.held)

pub find_by-requires-clause-alike : goal.find_by-requires-clause-alike
find_by-requires-clause-alike g c value same = ap mixed (sym (eqb-true _ _ same))

pub returns-in-Some-clause-found : goal.returns-in-Some-clause-found
returns-in-Some-clause-found g c =
    let a = c.requires.all in
    let found = rw c.new-probe.ensures.key at (c.in-Some.ensures.found a.members a.held) in
    rw c.place.ensures (hash_found g.T.HasKey.key_of c.args.objects.now c.args.key _ (λ v h. sym (eqb-true _ _ h)) (λ v e. eq-eqb _ _ (sym e)) a.members (Some c.in-Some.object) a.all found)

pub returns-in-None-clause-found : goal.returns-in-None-clause-found
returns-in-None-clause-found g c =
    let a = c.requires.all in
    let found = rw c.new-probe.ensures.key at (c.in-None.ensures.found a.members a.held) in
    hash_found g.T.HasKey.key_of c.args.objects.now c.args.key _ (λ v h. sym (eqb-true _ _ h)) (λ v e. eq-eqb _ _ (sym e)) a.members None a.all found

pub returns-in-Some-clause-looks : goal.returns-in-Some-clause-looks
returns-in-Some-clause-looks g c order whole =
    let chain = hash_chain (λ e. refl) c.requires.all (mixed c.args.key) in
    let l = (rw c.new-probe.ensures.key at c.in-Some.ensures.looks) chain.0 chain.1 in
    record { slots = c.args.self.now.table.slots; used = refl; well_formed = c.requires.all.held.well_formed; few = omega (arith, l.counted, l.few, c.looks.ensures, c.new-probe.ensures.none, chain.2 order whole); some = λ one. omega (arith, l.counted, l.some (chain.3 order whole one), c.looks.ensures, c.new-probe.ensures.none) }

pub returns-in-None-clause-looks : goal.returns-in-None-clause-looks
returns-in-None-clause-looks g c order whole =
    let chain = hash_chain (λ e. refl) c.requires.all (mixed c.args.key) in
    let l = (rw c.new-probe.ensures.key at c.in-None.ensures.looks) chain.0 chain.1 in
    record { slots = c.args.self.now.table.slots; used = refl; well_formed = c.requires.all.held.well_formed; few = omega (arith, l.counted, l.few, c.looks-in-None.ensures, c.new-probe.ensures.none, chain.2 order whole); some = λ one. omega (arith, l.counted, l.some (chain.3 order whole one), c.looks-in-None.ensures, c.new-probe.ensures.none) }
