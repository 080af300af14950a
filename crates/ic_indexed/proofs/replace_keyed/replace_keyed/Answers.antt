use Rattle.std.proofs.Common.{sym, ap, ◌∙◌, option_copied}
use Rattle.ic_unsafe_ref.proofs.Placing.{exchanged_puts, leaves, places_other, without}
use Rattle.ic_indexed.proofs.replace_keyed.replace_keyed.Goals as goal

-- in this case both values have the same key, so the index has each object as before
pub returns-then-key-clause-all : goal.returns-then-key-clause-all
returns-then-key-clause-all g c =
    let there = sym c.get.ensures ∙ ap option_copied c.unwrap.ensures in
    g.met.I.Index.has_alike c.args.index.now c.args.links.now c.args.objects.now c.exchange.new.objects c.args.place _ c.args.value there (exchanged_puts c.exchange.ensures.exchanged) (sym c.key-2.ensures ∙ sym c.if-key.true ∙ c.key.ensures) c.requires.all

-- in this case the values have different keys. After the removal the index has all objects except the changed one, which is inserted again
pub insert_place-requires-clause-lacks : goal.insert_place-requires-clause-lacks
insert_place-requires-clause-lacks g c = record {
  less = without c.args.objects.now c.args.place c.args.value;
  value = c.args.value;
  places = rw c.exchange-gone.ensures.exchanged (places_other c.args.objects.now c.args.place c.args.value);
  all = c.remove_place.ensures.removed (without c.args.objects.now c.args.place c.args.value) (leaves c.args.objects.now c.args.place c.args.value);
}
