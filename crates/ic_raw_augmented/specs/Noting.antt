-- A table of tree links with a record of the places whose children were written.
use Rattle.std.specs.Prelude.{◌≡◌, Bool, true, false, refl}
use Rattle.std.proofs.Common.{◌∙◌, sym}
use Rattle.ic_link_ops.specs.Prelude.{Place, Table}
use Rattle.ic_raw.specs.declared.table.RawTable.{RawTable}
use Rattle.ic_raw.specs.declared.words.RawThree.{RawThree}
use Rattle.ic_raw.specs.Seen.{KeepsMarks}
use Rattle.ic_raw.specs.Tree.{lent_table}
use Rattle.ic_raw_augmented.specs.declared.noting.Noting.{Noting}
use Rattle.ic_raw_augmented.specs.declared.written.Written.{Written}
use Rattle.ic_raw_augmented.specs.Written.{Notes, is_noted}

abbrev pub links_in : Noting → RawTable RawThree
links_in t = t.links.now

abbrev pub written_in : Noting → Written
written_in t = t.written.now

-- the views `old` and `new` borrow the same words, the links change only as edits of trees change them, and each place whose children were written is recorded
pub record NotesWrites (old new : Noting) : Type 0 where
  pub links_name : new.links.ghost_name ≡ old.links.ghost_name
  pub written_name : new.written.ghost_name ≡ old.written.ghost_name
  pub keeps_links : KeepsMarks (lent_table (links_in old)) (lent_table (links_in new))
  pub notes : Notes (written_in old) (written_in new) (lent_table (links_in old)) (lent_table (links_in new))

pub notes_still : (t : Noting) → NotesWrites t t
notes_still t = record {
  links_name = refl;
  written_name = refl;
  keeps_links = record { extent = refl; marks = λ q. refl; names = λ q h. h };
  notes = record { noted = λ q h. h; children = λ q off. record { left = refl; right = refl } };
}

-- a place that is not recorded in `is`, the later state of the record, was not recorded in `was`, the earlier state
before : {was is : Written} {old new : Table RawThree} → Notes was is old new → (q : Place) → is_noted is q ≡ false → is_noted was q ≡ false
before {was} {is} h q off = pick (is_noted was q) refl where
  pick : (b : Bool) → is_noted was q ≡ b → is_noted was q ≡ false
  pick false e = e
  pick true e = let k : true ≡ false = sym (h.noted q e) ∙ off in cc

pub notes_on : (a b c : Noting) → NotesWrites a b → NotesWrites b c → NotesWrites a c
notes_on a b c x y = record {
  links_name = y.links_name ∙ x.links_name;
  written_name = y.written_name ∙ x.written_name;
  keeps_links = record {
    extent = y.keeps_links.extent ∙ x.keeps_links.extent;
    marks = λ q. y.keeps_links.marks q ∙ x.keeps_links.marks q;
    names = λ q h. y.keeps_links.names q (x.keeps_links.names q h);
  };
  notes = record {
    noted = λ q h. y.notes.noted q (x.notes.noted q h);
    children = λ q off.
        let last = y.notes.children q off in
        let first = x.notes.children q (before y.notes q off) in
        record { left = last.left ∙ first.left; right = last.right ∙ first.right };
  };
}
