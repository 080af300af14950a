use Rattle.std.proofs.Common.{◌≡◌, None, refl, ◌∙◌, rules}
use Rattle.ic_raw.specs.Words.{place_in}
use Rattle.ic_raw.proofs.Entries.{named}
use Rattle.ic_raw.proofs.xor_calls.push_front.Goals as goal
use Rattle.ic_raw.proofs.xor_calls.push_front.Goals.{else-has_neighbor-via-then-has_neighbor+else-put, else-has_neighbor-via-else-has_neighbor}

pub returns-then-put : goal.returns-then-put
returns-then-put c = record {
  inserted = rw (← c.has_neighbor.ensures.kept) (λ cut p after following is shown free.
      (c.put.ensures.inserted cut p after (c.place_in-first.ensures ∙ following) (c.place_of.ensures ∙ is) shown free).1 shown free);
  free = search rules;
  no_place = search rules;
  links_back = search rules;
  touched = search rules;
  own = search rules;
  words = search rules;
  refused = search rules;
  why = search rules;
  is_status = search rules;
}

pub returns : goal.returns
returns c =
    let none : place_in 0 ≡ None = named 0 None refl in
    let kept = c.has_neighbor.ensures.kept in
    let same : (c.else-has_neighbor.table ≡ c.args.table.now) × (c.else-has_neighbor.list ≡ c.args.list.now) = elim c.else-has_neighbor.branch [
      | else-has_neighbor-via-then-has_neighbor+else-put w ↦ (w.table-is ∙ (w.put.ensures.refused w.if-put.false).0 ∙ kept, w.list-is ∙ (w.put.ensures.refused w.if-put.false).1)
      | else-has_neighbor-via-else-has_neighbor w ↦ (w.table-is ∙ kept, w.list-is)
    ] in
    rw (same.0, same.1, none) at c.put_slow.ensures
