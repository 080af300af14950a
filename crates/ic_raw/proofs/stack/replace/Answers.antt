use Rattle.std.proofs.Common.{◌≡◌, refl, sym, ◌∙◌}
use Rattle.ic_link_ops.proofs.Prelude.{none_not, some_same, represents_middle}
use Rattle.ic_raw.proofs.Gaps.{never}
use Rattle.ic_raw.proofs.Singly.{law, touches_exchanged}
use Rattle.ic_raw.proofs.Lists.{replaced}
use Rattle.ic_raw.proofs.stack.replace.Goals as goal

pub returns-clause-replaced : goal.returns-clause-replaced
returns-clause-replaced c front back p shown after is free =
    let one : p ≡ c.in-Some.place = some_same (sym is ∙ c.acquire.ensures.same c.in-Some.place c.in-Some.is) in
    let following = c.next-after.ensures ∙ (represents_middle front back shown).next in
    let put = c.replace_linked.ensures in
    let released = c.release_link.ensures in
    rw one (
      refl,
      replaced law front c.args.member back after following shown (c.acquire.ensures.free c.in-Some.place c.in-Some.is) (c.acquire.ensures.frame c.in-Some.place c.in-Some.is)
          put.shows put.extent put.others released.frame,
      released.released.is,
    )

pub returns-in_default-clause-accepted : goal.returns-in_default-clause-accepted
returns-in_default-clause-accepted c = (
  (λ e. absurd (never refl e)),
  (λ free. absurd (none_not _ (sym c.in_default.is ∙ c.acquire.ensures.accepted free.0 free.1 free.2))),
)

pub returns-clause-accepted : goal.returns-clause-accepted
returns-clause-accepted c = (
  (λ made. (c.in-Some.place, c.acquire.ensures.same c.in-Some.place c.in-Some.is, c.acquire.ensures.free c.in-Some.place c.in-Some.is)),
  (λ free. refl),
)

pub returns-clause-own : goal.returns-clause-own
returns-clause-own c made = rw (c.acquire.ensures.same _ c.in-Some.is) c.replace_linked.ensures.ends.head

pub returns-clause-touched : goal.returns-clause-touched
returns-clause-touched c p is made =
    let place = c.in-Some.place in
    let taken = c.in-Some.is in
    let one : p ≡ place = some_same (sym is ∙ c.acquire.ensures.same place taken) in
    let put = c.replace_linked.ensures in
    let released = c.release_link.ensures in
    rw one (touches_exchanged (c.acquire.ensures.free place taken) (c.acquire.ensures.linked place taken) (c.acquire.ensures.frame place taken) put.trace_stays put.others
    released.released released.frame)
