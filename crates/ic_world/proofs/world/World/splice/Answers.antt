use Rattle.std.proofs.Common.{◌∙◌, sym, subst}
use Rattle.ic_world.specs.Prelude.{done, NoneLeftLinked}
use Rattle.ic_world.proofs.CanSplice.{can_be_joined, joined}
use Rattle.ic_world.proofs.LeftLinked.{none_spliced}
use Rattle.ic_world.proofs.world.World.splice.Goals as goal

pub join-requires : goal.join-requires
join-requires g c = can_be_joined c.self.invariant.0 c.self.view_is c.args.before c.args.collection c.args.given (sym c.splice_refused.ensures ∙ c.in_default.is)

pub invariant_of-self : goal.invariant_of-self
invariant_of-self g c =
    let e = joined c.self.invariant.0 c.self.view_is c.args.before c.args.collection c.args.given (sym c.splice_refused.ensures ∙ c.in_default.is) c.join.ensures.joined in
    (e.0, rw c.join.ensures.left (none_spliced (subst (NoneLeftLinked _) c.self.view_is c.self.invariant.1) _ _ c.args.collection c.args.given done e.1))

pub returns : goal.returns
returns g c = (joined c.self.invariant.0 c.self.view_is c.args.before c.args.collection c.args.given (sym c.splice_refused.ensures ∙ c.in_default.is) c.join.ensures.joined).1
