use Rattle.std.proofs.Common.{refl}
use Rattle.ic_raw_augmented.proofs.Notes.{write_noted}
use Rattle.ic_raw_augmented.proofs.noting.NotingNodeStore.set_left.Goals as goal

pub returns-clause-keeps_links : goal.returns-clause-keeps_links
returns-clause-keeps_links c = record {
  links_name = refl;
  written_name = refl;
  keeps_links = c.set_left.ensures.keeps_links;
  notes = write_noted _ _ _ _ c.args.place c.note.ensures.here c.note.ensures.others c.set_left.ensures.frame;
}
