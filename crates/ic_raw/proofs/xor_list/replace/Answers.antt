use Rattle.std.proofs.Common.{◌≡◌, refl, sym, ◌∙◌}
use Rattle.ic_link_ops.proofs.SequenceLemmas.{some_same}
use Rattle.ic_link_ops.proofs.XorLists.{joined_linked}
use Rattle.ic_raw.proofs.Gaps.{never}
use Rattle.ic_raw.proofs.Lists.{replaced}
use Rattle.ic_raw.proofs.Xor.{member_linked, next_represented}
use Rattle.ic_raw.proofs.Own.{put_in, sides_are}
use Rattle.ic_raw.proofs.Touches.{touches_replace}
use Rattle.ic_raw.proofs.xor_list.replace.Goals as goal

pub returns-then-not-is_linked-clause-replaced : goal.returns-then-not-is_linked-clause-replaced
returns-then-not-is_linked-clause-replaced c front back p shown before is free =
    absurd (never (sym c.is_linked.ensures ∙ c.if-not-is_linked.true) (member_linked front c.args.member back shown))

pub returns-then-not-is_between-clause-replaced : goal.returns-then-not-is_between-clause-replaced
returns-then-not-is_between-clause-replaced c front back p shown before is free =
    let after = c.next-after.ensures ∙ next_represented front c.args.member back shown before in
    absurd (never c.if-not-is_between.true (c.is_between.ensures.shown front back shown before after))

pub returns-clause-replaced : goal.returns-clause-replaced
returns-clause-replaced c front back p shown before is free' =
    let taken = c.in-Some.is in
    let one : p ≡ c.in-Some.place = some_same (sym is ∙ c.acquire.ensures.same _ taken) in
    let after = c.next-after.ensures ∙ next_represented front c.args.member back shown before in
    let put = c.replace_linked.ensures in
    let released = c.release_link.ensures in
    rw one (
      refl,
      replaced joined_linked front c.args.member back before after shown (c.acquire.ensures.free _ taken) (c.acquire.ensures.frame _ taken) put.shows put.extent put.others
          released.frame,
      released.released.is,
    )

pub returns-clause-free : goal.returns-clause-free
returns-clause-free c made = let taken = c.in-Some.is in (c.in-Some.place, c.acquire.ensures.same _ taken, c.acquire.ensures.free _ taken)

pub returns-clause-own : goal.returns-clause-own
returns-clause-own c made = put_in (sides_are refl c.next-after.ensures) (c.acquire.ensures.same _ c.in-Some.is) c.replace_linked.ensures.ends

pub returns-clause-touched : goal.returns-clause-touched
returns-clause-touched c p is made =
    let taken = c.in-Some.is in
    let one : p ≡ c.in-Some.place = some_same (sym is ∙ c.acquire.ensures.same _ taken) in
    let put = c.replace_linked.ensures in
    let released = c.release_link.ensures in
    rw (one, sym c.next-after.ensures)
    (touches_replace (c.acquire.ensures.free _ taken) (c.acquire.ensures.linked _ taken) (c.acquire.ensures.frame _ taken) put.trace_stays put.others released.released released.frame)
