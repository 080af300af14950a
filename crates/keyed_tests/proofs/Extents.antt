-- The extent of a table after a call: the table still covers the eight places of a test.
use Rattle.std.proofs.Common.{◌≡◌, ap, ◌∙◌}
use Rattle.ic_link_ops.specs.Tables.{Extent}

-- if a call does not change the extent of a table that covers eight places, then the table still covers eight places
pub places_of : {old new : Extent} → new ≡ old → old.places ≡ 8 → new.places ≡ 8
places_of same covers = ap (λ (e : Extent). e.places) same ∙ covers
