use Rattle.std.proofs.Common.{◌≡◌, ◌≢◌, true, ◌+◌, ◌-◌, ◌++◌, ◌∷◌, refl, sym, ap, ◌∙◌, subst, arith}
use Rattle.ic_link_ops.specs.Prelude.{Place, index_of, HasRoom, nameable, nameable_has_room}
use Rattle.ic_link_ops.specs.EntryLaws.{linked_in_range}
use Rattle.ic_link_ops.proofs.Naming.{end_named}
use Rattle.ic_link_ops.proofs.SequenceLemmas.{some_same}
use Rattle.ic_raw.specs.Fills.{IsFreeRun}
use Rattle.ic_raw.specs.Tables.{nameable_table, raw_entries}
use Rattle.ic_raw.proofs.Gaps.{never}
use Rattle.ic_raw.proofs.Lists.{inserted}
use Rattle.ic_raw.proofs.Runs.{number_small, none_left, not_refused, run_after, Fills, fills_none, fills_more, fills_all, LinksRun, links_none, links_more, touches_run, turns_run}
use Rattle.ic_raw.proofs.Touches.{links_first}
use Rattle.ic_raw.proofs.fill.link_run.Goals as goal

pub loop-left-init : goal.loop-left-init
loop-left-init g c = record {
  small = omega (arith, c.ranges.first.fits);
  extent = refl;
  before = c.requires.stand.0;
  after = c.requires.stand.1;
  links = λ free. (free, links_none g.W.Words.is_linked g.K.ListKind.kept g.K.ForwardLinks.NamesPrev c.args.gap);
  fills = λ law cut free shown is. (free, fills_none g.K.ForwardLinks.Between g.K.ListKind.kept cut refl shown (ap (λ x. x.before) is));
}

pub returns-in_default-clause-filled : goal.returns-in_default-clause-filled
returns-in_default-clause-filled g c law cut free shown is =
    absurd (not_refused (c.loop-left.invariant.fills law cut free shown is).0 (omega (arith, c.loop-left-test.true)) c.place_of.ensures c.acquire.ensures.accepted c.in_default.is)

pub returns-in_default-clause-ends : goal.returns-in_default-clause-ends
returns-in_default-clause-ends g c free some =
    absurd (not_refused (c.loop-left.invariant.links free).0 (omega (arith, c.loop-left-test.true)) c.place_of.ensures c.acquire.ensures.accepted c.in_default.is)

pub returns-in_default-clause-touched : goal.returns-in_default-clause-touched
returns-in_default-clause-touched g c outermost free =
    absurd (not_refused (c.loop-left.invariant.links free).0 (omega (arith, c.loop-left-test.true)) c.place_of.ensures c.acquire.ensures.accepted c.in_default.is)

-- the place after the gap is none or linked, so that words can name it
pub insert_linked-requires-clause-next : goal.insert_linked-requires-clause-next
insert_linked-requires-clause-next g c =
    let width = g.W.Words.width in
    let words = raw_entries c.loop-left.links in
    end_named (HasRoom width) c.args.gap.after
    (λ q e. nameable_has_room width words q (linked_in_range g.W.Words.is_linked g.W.Words.unlinked g.met.W.Words.starts_unlinked (nameable width words) (index_of q) (c.loop-left.invariant.after q e)))

pub overflow_add-number : goal.overflow_add-number
overflow_add-number g c =
    omega (arith, number_small c.loop-left.number c.in-Some.place (sym c.place_of.ensures ∙ c.acquire.ensures.same _ c.in-Some.is) c.loop-left.invariant.small)

pub loop-left-preserved : goal.loop-left-preserved
loop-left-preserved g c =
    let linked = g.W.Words.is_linked in
    let base = nameable_table g.W.Words.width g.W.Words.unlinked c.args.links.now in
    let old = nameable_table g.W.Words.width g.W.Words.unlinked c.loop-left.links in
    let new = nameable_table g.W.Words.width g.W.Words.unlinked c.insert_linked.new.links in
    let number = c.loop-left.number in
    let p = c.in-Some.place in
    let was = c.loop-left.invariant in
    let taken = c.in-Some.is in
    let free' = c.acquire.ensures.free _ taken in
    let only = c.acquire.ensures.frame _ taken in
    let put = c.insert_linked.ensures in
    let named = sym c.place_of.ensures ∙ c.acquire.ensures.same _ taken in
    let small = number_small number p named was.small in
    let also = links_first free' (c.acquire.ensures.linked _ taken) only put.trace_stays in
    let rest = λ (r : IsFreeRun linked old number c.loop-left.left). run_after p named small (put.extent ∙ only.extent) also.others r (omega (arith, c.loop-left-test.true)) in
    record {
      small = small;
      extent = put.extent ∙ only.extent ∙ was.extent;
      before = λ q e. subst (λ z. linked (new.entry z) ≡ true) (some_same e) also.is;
      after = λ q e. also.others q (λ same. never (ap (λ z. linked (old.entry z)) same ∙ free'.unlinked) (was.after q e)) ∙ was.after q e;
      links = λ free.
          let k = was.links free in
          let on = rest k.0 in
          let there : LinksRun linked g.K.ListKind.kept g.K.ForwardLinks.NamesPrev base old c.args.list.now c.loop-left.list c.args.gap c.loop-left.before free.run (p ∷ on.0.run) =
          subst (λ r. LinksRun linked g.K.ListKind.kept g.K.ForwardLinks.NamesPrev base old c.args.list.now c.loop-left.list c.args.gap c.loop-left.before free.run r) on.1 k.1 in (
            on.0,
            links_more linked g.K.ListKind.kept g.K.ForwardLinks.NamesPrev p there also (λ q away other beyond. put.others q away other beyond ∙ only.others q other) put.ends,
          );
      fills = λ law cut free shown is.
          let k = was.fills law cut free shown is in
          let on = rest k.0 in
          let there : Fills g.K.ForwardLinks.Between g.K.ListKind.kept base old c.loop-left.list cut c.loop-left.before free.run (p ∷ on.0.run) =
          subst (λ r. Fills g.K.ForwardLinks.Between g.K.ListKind.kept base old c.loop-left.list cut c.loop-left.before free.run r) on.1 k.1 in (
            on.0,
            fills_more g.K.ForwardLinks.Between g.K.ListKind.kept cut p there
                (inserted law (record { front = cut.front ++ there.done; back = cut.back }) there.after (ap (λ x. x.after) is) there.shows free' only put.shows put.extent put.others),
          );
    }

pub returns-clause-filled : goal.returns-clause-filled
returns-clause-filled g c law cut free shown is =
    let was = c.loop-left.invariant.fills law cut free shown is in
    let t = nameable_table g.W.Words.width g.W.Words.unlinked c.loop-left.links in
    fills_all g.K.ForwardLinks.Between g.K.ListKind.kept cut was.1 (none_left g.W.Words.is_linked t c.loop-left.number c.loop-left.left was.0 (omega (arith, c.loop-left-test.false)))

pub returns-clause-ends : goal.returns-clause-ends
returns-clause-ends g c free some =
    let was = c.loop-left.invariant.links free in
    let t = nameable_table g.W.Words.width g.W.Words.unlinked c.loop-left.links in
    let over = none_left g.W.Words.is_linked t c.loop-left.number c.loop-left.left was.0 (omega (arith, c.loop-left-test.false)) in
    turns_run g.W.Words.is_linked g.K.ListKind.kept g.K.ForwardLinks.NamesPrev was.1 over c.args.first c.args.count free.numbered free.counted some

pub returns-clause-touched : goal.returns-clause-touched
returns-clause-touched g c outermost free =
    let was = c.loop-left.invariant.links free in
    let t = nameable_table g.W.Words.width g.W.Words.unlinked c.loop-left.links in
    let over = none_left g.W.Words.is_linked t c.loop-left.number c.loop-left.left was.0 (omega (arith, c.loop-left-test.false)) in
    touches_run g.W.Words.is_linked g.K.ListKind.kept g.K.ForwardLinks.NamesPrev was.1 over outermost
