use Rattle.std.proofs.Common.{ap, ◌∙◌}
use Rattle.slab.specs.Slab.{get}
use Rattle.ic_unsafe_ref.specs.Places.{index_of}
use Rattle.ic_unsafe_ref.proofs.ObjectLemmas.{get_entries}
use Rattle.ic_unsafe_ref.proofs.objects.Objects.new.Goals as goal

pub returns-clause-vacant : goal.returns-clause-vacant
returns-clause-vacant g c place =
    get_entries c.new.result (index_of place) ∙ ap (λ slots. get (record c.new.result { slots = slots }) (index_of place)) c.new.ensures.empty
