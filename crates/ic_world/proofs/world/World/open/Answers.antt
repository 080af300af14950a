use Rattle.std.proofs.Common.{◌∙◌, sym, subst}
use Rattle.ic_world.specs.LeftLinked.{NoneLeftLinked}
use Rattle.ic_world.proofs.LeftLinked.{none_opened}
use Rattle.ic_world.proofs.Opened.{opened_by}
use Rattle.ic_world.proofs.world.World.open.Goals as goal

pub invariant_of-self : goal.invariant_of-self
invariant_of-self g c =
    let e = opened_by g.A.Key.Ord.cmp g.A.KeyAdapter.key_of c.self.invariant.0 c.self.view_is c.args.field c.args.kind (sym c.open_refused.ensures ∙ c.in_default.is)
    c.new.result c.new.ensures c.push.result c.push.new.self c.push.ensures in
    (e.0, none_opened (subst (NoneLeftLinked _) c.self.view_is c.self.invariant.1) g.A.Key.Ord.cmp g.A.KeyAdapter.key_of c.args.field c.args.kind _ e.1)

pub returns : goal.returns
returns g c =
    (opened_by g.A.Key.Ord.cmp g.A.KeyAdapter.key_of c.self.invariant.0 c.self.view_is c.args.field c.args.kind (sym c.open_refused.ensures ∙ c.in_default.is)
    c.new.result c.new.ensures c.push.result c.push.new.self c.push.ensures).1
