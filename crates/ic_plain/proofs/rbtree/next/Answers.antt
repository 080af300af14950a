use Rattle.std.proofs.Common.{◌∷◌, [], ◌++◌, ◌∙◌, sym, append_assoc}
use Rattle.ic_link_ops.proofs.Prelude.{stands_on, last_of_push}
use Rattle.ic_plain.proofs.rbtree.next.Goals as goal

pub next_of-requires : goal.next_of-requires
next_of-requires g c = record { stands = stands_on c.requires.member c.of.ensures }

pub returns : goal.returns
returns g c = record {
  next = λ front back shown.
      c.get.ensures ∙ c.next_of.ensures.moved.leads (record { front = front ++ c.args.place ∷ []; back = back }) (rw (append_assoc front (c.args.place ∷ []) back) shown) (c.of.ensures ∙ sym (last_of_push front c.args.place));
}
