use Rattle.std.proofs.Common.{◌≡◌, refl, sym, ◌∙◌}
use Rattle.ic_link_ops.proofs.SequenceLemmas.{some_same}
use Rattle.ic_link_ops.proofs.XorLists.{joined_linked}
use Rattle.ic_raw.proofs.Lists.{inserted}
use Rattle.ic_raw.proofs.Own.{put_in}
use Rattle.ic_raw.proofs.Touches.{touches_insert}
use Rattle.ic_raw.proofs.xor_list.insert.Goals as goal

pub returns-clause-inserted : goal.returns-clause-inserted
returns-clause-inserted c cut p shown after following is free' =
    let taken = c.in-Some.is in
    let one : p ≡ c.in-Some.place = some_same (sym is ∙ c.acquire.ensures.same _ taken) in
    let put = c.insert_linked.ensures in
    rw one (
      refl,
      inserted joined_linked cut after following shown (c.acquire.ensures.free _ taken) (c.acquire.ensures.frame _ taken) put.shows put.extent put.others,
    )

pub returns-clause-free : goal.returns-clause-free
returns-clause-free c made = let taken = c.in-Some.is in (c.in-Some.place, c.acquire.ensures.same _ taken, c.acquire.ensures.free _ taken)

pub returns-clause-own : goal.returns-clause-own
returns-clause-own c made = put_in refl (c.acquire.ensures.same _ c.in-Some.is) c.insert_linked.ensures.ends

pub returns-clause-touched : goal.returns-clause-touched
returns-clause-touched c p is made =
    let taken = c.in-Some.is in
    let one : p ≡ c.in-Some.place = some_same (sym is ∙ c.acquire.ensures.same _ taken) in
    let put = c.insert_linked.ensures in
    rw one (touches_insert (c.acquire.ensures.free _ taken) (c.acquire.ensures.linked _ taken) (c.acquire.ensures.frame _ taken) put.trace_stays put.others)
