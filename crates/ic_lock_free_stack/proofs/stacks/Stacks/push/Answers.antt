use Rattle.std.proofs.Common.{List, [], ◌∷◌}
use Rattle.ic_unsafe_ref.specs.declared.place.Place.{Place}
use Rattle.ic_lock_free_stack.specs.Holders.{record_of}
use Rattle.ic_lock_free_stack.proofs.RecordLemmas.{gives_one}
use Rattle.ic_lock_free_stack.proofs.HolderLemmas.{keeps_one}
use Rattle.ic_lock_free_stack.proofs.PushLemmas.{one_ready}
use Rattle.ic_lock_free_stack.proofs.stacks.Stacks.push.Goals as goal

pub push_linked-requires : goal.push_linked-requires
push_linked-requires g c = record {
  stack = c.requires.stack;
  made = c.requires.made;
  ready = (c.args.place ∷ [], one_ready c.args.self.now c.args.holder.now c.args.place c.requires.place c.requires.held);
  room = c.requires.room;
}

pub returns : goal.returns
returns g c =
    let s : List Place = c.args.place ∷ [] in
    let one = one_ready c.args.self.now c.args.holder.now c.args.place c.requires.place c.requires.held in
    record {
      made = c.push_linked.ensures.made;
      step = c.push_linked.ensures.step s one;
      pushed = gives_one (record_of c.args.holder.now) (record_of c.push_linked.new.holder) c.args.place (c.push_linked.ensures.pushed s one);
      chains = keeps_one c.args.self.now c.args.holder.now c.push_linked.new.holder c.args.place (c.push_linked.ensures.chains s one);
    }
