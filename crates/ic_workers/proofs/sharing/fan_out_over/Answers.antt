use Rattle.std.proofs.Common.{◌≡◌, List, map, length, vec_len, ap, subst, arith}
use Rattle.std.proofs.lemmas.List.{length-map}
use Rattle.ic_atomic.specs.declared.claims.Holder.{Holder}
use Rattle.ic_atomic.specs.Holders.{holders_of, record_of, NoneTwice, AreWholeList}
use Rattle.ic_workers.specs.SharedOut.{places_in}
use Rattle.ic_workers.proofs.TakenPlaces.{each_made, as_many, as_one_list, shared_out}
use Rattle.ic_workers.proofs.sharing.fan_out_over.Given as given
use Rattle.ic_workers.proofs.sharing.fan_out_over.Goals as goal

pub audit-requires : goal.audit-requires
audit-requires g c = record { made = each_made c.args.claims.now c.in_ok-holders.holders.items (places_in c.in_ok-holders.lists.items) c.in_ok-holders.ensures.taken }

-- there is a list for each holder of the claims, and by the audit the records of these holders are all records
module _ (g : given.Over) (c : goal.After-drop-offered-2 g) where
  workers : vec_len c.in_ok-done.done ≡ holders_of c.args.claims.now
  workers = omega (arith, c.in_ok-done.ensures.len, c.in_ok-parties.ensures.len, c.requires.all)

  each : length (places_in c.in_ok-holders.lists.items) ≡ holders_of c.args.claims.now
  each =
      let listed : length (places_in c.in_ok-holders.lists.items) ≡ length c.in_ok-holders.lists.items = length-map c.in_ok-holders.lists.items (λ list. list.items) in
      omega (arith, listed, c.in_ok-holders.lists.ok.0, c.in_ok-holders.ensures.len, workers)

  apart : NoneTwice (map record_of c.in_ok-holders.holders.items)
  apart = subst NoneTwice c.audit.ensures.same c.audit.ensures.apart

  whole : AreWholeList c.args.claims.now (map record_of c.in_ok-holders.holders.items)
  whole =
      let hs : List Holder = c.in_ok-holders.holders.items in
      let new = c.audit.new.holders in
      let paired : length hs ≡ length (places_in c.in_ok-holders.lists.items) = as_many c.args.claims.now hs (places_in c.in_ok-holders.lists.items) c.in_ok-holders.ensures.taken in
      let same = ap length c.audit.ensures.same in
      let count : vec_len new ≡ holders_of c.args.claims.now = omega (arith, same, length-map new.items record_of, length-map hs record_of, paired, each, new.ok.0) in
      subst (AreWholeList c.args.claims.now) c.audit.ensures.same (c.audit.ensures.whole count)

pub returns-clause-shared : goal.returns-clause-shared
returns-clause-shared g c = shared_out c.args.claims.now c.in_ok-holders.holders.items (places_in c.in_ok-holders.lists.items) c.in_ok-holders.ensures.taken (apart g c) (whole g c) (each g c)

pub returns-clause-one_list : goal.returns-clause-one_list
returns-clause-one_list g c = as_one_list c.args.claims.now c.in_ok-holders.holders.items (places_in c.in_ok-holders.lists.items) c.in_ok-holders.ensures.taken (apart g c) (whole g c) (each g c)

pub returns-clause-reported : goal.returns-clause-reported
returns-clause-reported g c worker some few = c.in_ok-done.ensures.reported worker some (omega (arith, few, workers g c))
