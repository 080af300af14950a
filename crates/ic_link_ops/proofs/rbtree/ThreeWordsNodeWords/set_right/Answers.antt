use Rattle.std.proofs.Common.{◌≡◌, ap, ◌∙◌}
use Rattle.ic_unsafe_ref.specs.Places.{place_at}
use Rattle.ic_unsafe_ref.proofs.PlaceLemmas.{place_at_word}
use Rattle.ic_link_ops.specs.Words.{bits_of}
use Rattle.ic_link_ops.specs.ThreeWords.{node_in}
use Rattle.ic_link_ops.proofs.rbtree.ThreeWordsNodeWords.set_right.Goals as goal

pub returns : goal.returns
returns g c =
    let names : place_at (bits_of c.of-self.result) ≡ c.args.right = ap place_at (c.of-self.ensures ∙ c.of.ensures) ∙ place_at_word c.args.right in
    λ k. record (node_in c.args.self.now) { right = names k }
