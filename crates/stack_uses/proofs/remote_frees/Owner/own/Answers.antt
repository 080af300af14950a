use Rattle.std.proofs.Common.{◌∷◌, refl}
use Rattle.stack_uses.proofs.ReceiverLemmas.{not_free, on_true, on_false}
use Rattle.stack_uses.proofs.remote_frees.Owner.own.Goals as goal

pub link-requires-clause-shown : goal.link-requires-clause-shown
link-requires-clause-shown g c =
    let was = c.requires.kept.1 in
    let old = c.args.self.now in
    let s = c.requires.kept.0 in
    (s, c.claim-is_claimed.ensures.chains old.free s was.chain (λ q m. refl), not_free c.args.stacks.now old.holder old.free s c.args.place was.chain c.if-is_claimed.ensures.claimed.was)

pub returns-then-is_claimed-clause-owned : goal.returns-then-is_claimed-clause-owned
returns-then-is_claimed-clause-owned g c s was =
    on_true c.claim-is_claimed.result record { made = c.link.ensures.made; stack = was.stack; chain = c.link.ensures.linked s (c.claim-is_claimed.ensures.chains c.args.self.now.free s was.chain (λ q m. refl)) }

pub returns-else-is_claimed-clause-refused : goal.returns-else-is_claimed-clause-refused
returns-else-is_claimed-clause-refused g c s was =
    on_false c.claim-is_claimed.result record { made = c.claim-is_claimed.ensures.made; stack = was.stack; chain = c.claim-is_claimed.ensures.chains c.args.self.now.free s was.chain (λ q m. refl) }

pub returns-then-is_claimed-clause-kept : goal.returns-then-is_claimed-clause-kept
returns-then-is_claimed-clause-kept g c =
    let s = c.requires.kept.0 in
    let was = c.requires.kept.1 in
    (c.args.place ∷ s, record { made = c.link.ensures.made; stack = was.stack; chain = c.link.ensures.linked s (c.claim-is_claimed.ensures.chains c.args.self.now.free s was.chain (λ q m. refl)) })

pub returns-else-is_claimed-clause-kept : goal.returns-else-is_claimed-clause-kept
returns-else-is_claimed-clause-kept g c =
    let s = c.requires.kept.0 in
    let was = c.requires.kept.1 in
    (s, record { made = c.claim-is_claimed.ensures.made; stack = was.stack; chain = c.claim-is_claimed.ensures.chains c.args.self.now.free s was.chain (λ q m. refl) })
