use Rattle.std.proofs.Common.{◌≡◌, ◌∙◌, ◌++◌, ◌∷◌, [], Some, ap, subst, sym, map, arith, length}
use Rattle.std.proofs.lemmas.List.{length-map}
use Rattle.ic_world.specs.ByNumber.{items_of, AreNumbered, by_number, in_slot}
use Rattle.ic_world.proofs.Steps.{if_ok}
use Rattle.ic_world.proofs.Entered.{not_refused, numbered_more, represented_more}
use Rattle.ic_world.proofs.collections_by_number.CollectionsByNumber.push.Goals as goal

pub invariant_of-self-2 : goal.invariant_of-self-2
invariant_of-self-2 g c =
    let ns = c.self.inside.numbers in
    let new = map items_of c.enter.new.live.items in
    let s = c.in-Some.slot in
    let room = not_refused c.try_reserve.result (sym c.if-is_err.false ∙ c.is_err.ensures.value) c.try_reserve.ensures.ok in
    let more : c.push.new.self.items ≡ ns.items ++ s ∷ [] = c.push.ensures.items ∙ if_ok c.push.result _ _ (c.push.ensures.succeeds (omega (arith, room))) ∙ ap (λ xs. xs ++ s ∷ []) c.try_reserve.ensures.items in
    let number : c.len-number.result ≡ length ns.items = c.len-number.ensures ∙ c.try_reserve.new.self.ok.0 ∙ ap length c.try_reserve.ensures.items in
    subst (AreNumbered new) (sym more) (numbered_more {new = new} c.self.invariant c.args.field (record { number = c.len-number.result; members = c.args.members }) s c.in-Some.ensures number)

pub returns : goal.returns
returns g c =
    let ns = c.self.inside.numbers in
    let ls = map items_of c.self.inside.live.items in
    let new = map items_of c.enter.new.live.items in
    let s = c.in-Some.slot in
    let room = not_refused c.try_reserve.result (sym c.if-is_err.false ∙ c.is_err.ensures.value) c.try_reserve.ensures.ok in
    let more : c.push.new.self.items ≡ ns.items ++ s ∷ [] = c.push.ensures.items ∙ if_ok c.push.result _ _ (c.push.ensures.succeeds (omega (arith, room))) ∙ ap (λ xs. xs ++ s ∷ []) c.try_reserve.ensures.items in
    let number : c.len-number.result ≡ length ns.items = c.len-number.ensures ∙ c.try_reserve.new.self.ok.0 ∙ ap length c.try_reserve.ensures.items in (
      number ∙ sym (length-map ns.items (in_slot ls)) ∙ ap length c.self.view_is,
      ap (by_number new) more ∙ represented_more {new = new} c.self.invariant c.args.field (record { number = c.len-number.result; members = c.args.members }) s c.in-Some.ensures number
          ∙ ap (λ xs. xs ++ Some (record { field = c.args.field; members = c.args.members }) ∷ []) c.self.view_is,
    )
