use Rattle.std.proofs.Common.{rules}
use Rattle.ic_link_ops.specs.DoublyEntries.{is_linked, plain_table, PlainRepresents}
use Rattle.ic_link_ops.specs.Tables.{IsLinked}
use Rattle.ic_link_ops.proofs.Calling.{has_member}
use Rattle.ic_atomic.specs.AtomicLinks.{links_of}
use Rattle.uses.proofs.SharedJobs.{is_listed, all_but}
use Rattle.uses.proofs.shared_jobs.give_up.Goals as goal

pub remove-requires : goal.remove-requires
remove-requires g c =
    let j = c.requires.jobs in
    let linked : IsLinked is_linked (plain_table (links_of c.args.links.now)) c.args.job.now = search rules in
    record { member = has_member (PlainRepresents (links_of c.args.links.now) c.args.jobs.now) j.0 j.1.shown (is_listed j.1 _ linked) }

pub returns-clause-off : goal.returns-clause-off
returns-clause-off g c s all =
    let linked : IsLinked is_linked (plain_table (links_of c.args.links.now)) c.args.job.now = search rules in all_but all _ linked c.remove.ensures.removed c.remove.ensures.released.did
