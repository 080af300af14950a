use Rattle.std.proofs.Common.{sym}
use Rattle.keyed_tests.proofs.hash_table.readings.is_found_by_looks.Goals as goal

pub find_by-found-requires-clause-alike : goal.find_by-found-requires-clause-alike
find_by-found-requires-clause-alike g c v e =
    rw (sym c.adapter-adapter.ensures, c.new-probe.ensures.adapter, c.new-probe.ensures.key)
    (sym (g.met.A.HashAdapter.equal_alike c.adapter-adapter.result c.args.key.now _ (rw (c.new-probe.ensures.adapter, c.new-probe.ensures.key) at e)))
