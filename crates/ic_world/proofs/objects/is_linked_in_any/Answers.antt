use Rattle.std.proofs.Common.{◌||◌, arith, map, sym, ap, subst, refl, ◌∙◌, Bool, get_or}
use Rattle.std.proofs.lemmas.List.{length-map, get_or-map, take_all}
use Rattle.std.proofs.lemmas.List.Folds.{list_any_at, list_any_more}
use Rattle.std.specs.List.{list_any}
use Rattle.std.specs.FinSet as set
use Rattle.ic_link_ops.specs.Prelude.{index_of, IsCovered}
use Rattle.ic_world.specs.Prelude.{LinkField, table_of, no_table, field_in}
use Rattle.ic_world.proofs.ObjectChanges.{field_has}
use Rattle.ic_world.proofs.objects.is_linked_in_any.Goals as goal

pub loop-f-init : goal.loop-f-init
loop-f-init g c = record { none = refl }

pub is_linked-requires : goal.is_linked-requires
is_linked-requires g c =
    let read = get_or-map table_of c.args.tables.now c.loop-f.f c.index-tables-f.result no_table c.loop-f-test.true in
    record { covered = subst (λ t. IsCovered t c.args.object) read (c.requires.covered c.loop-f.f c.loop-f-test.true) }

pub returns-then-is_linked : goal.returns-then-is_linked
returns-then-is_linked g c =
    let fields = map field_in (map table_of c.args.tables.now) in
    let has : LinkField → Bool = λ x. set.contains x.linked (index_of c.args.object) in
    let here = field_has c.args.tables.now c.args.object c.loop-f.f c.index-tables-f.result c.loop-f-test.true in
    sym (list_any_at has fields c.loop-f.f (field_in no_table) (rw (length-map, length-map) c.loop-f-test.true) (here ∙ sym c.is_linked.ensures ∙ c.if-is_linked.true))

pub loop-f-preserved : goal.loop-f-preserved
loop-f-preserved g c =
    let fields = map field_in (map table_of c.args.tables.now) in
    let has : LinkField → Bool = λ x. set.contains x.linked (index_of c.args.object) in
    let here = field_has c.args.tables.now c.args.object c.loop-f.f c.index-tables-f.result c.loop-f-test.true in
    record {
      none = list_any_more has fields c.loop-f.f (field_in no_table) (rw (length-map, length-map) c.loop-f-test.true)
          ∙ ap (λ b. b || has (get_or fields c.loop-f.f (field_in no_table))) c.loop-f.invariant.none ∙ here ∙ sym c.is_linked.ensures ∙ c.if-is_linked.false;
    }

pub returns : goal.returns
returns g c =
    let fields = map field_in (map table_of c.args.tables.now) in
    let has : LinkField → Bool = λ x. set.contains x.linked (index_of c.args.object) in
    sym c.loop-f.invariant.none ∙ ap (list_any has) (take_all c.loop-f.f fields (rw (length-map, length-map) (omega (arith, c.loop-f-test.false))))
