-- Lemmas on a list that has an object at each member, and on a second list, which is empty.
use Rattle.std.proofs.Common.{◌≡◌, ◌<◌, ℕ, Option, [], refl, ap, ◌∙◌, subst}
use Rattle.ic_link_ops.specs.Prelude.{Place, index_of, Objects, Extent, Table, IsCovered, RepresentsPlaced, ListHead, RepresentsChain, RepresentsSomeChain, empty_list}
use Rattle.ic_link_ops.proofs.SequenceLemmas.{disjoint_nothing}
use Rattle.ic_list_algorithms.specs.Runs.{TwoRepresented}
use Rattle.ic_list_algorithms.specs.TwoLists.{TwoLists}
use Rattle.ic_list_algorithms.proofs.WholeLists.{members_placed}
use Rattle.structure_tests.specs.OfEight.{HoldsOfEight}

module _ {E W : Type 0} {between : E → Option Place → Option Place → Type 0} {kept : Option Place → W} {t : Table E} where
  -- the table represents the empty sequence for an empty list
  nothing : {other : ListHead W} → other ≡ empty_list kept → RepresentsChain between kept t other []
  nothing none = rw none (record { distinct = tt; chain = tt; head = refl; tail = refl })

  -- the represented list `list` and the empty list `other` share no member. If there is an object at each member of `list`, then there is one at each
  -- member of both lists
  pub two_placed : {list other : ListHead W} {objects : Objects ℕ} → other ≡ empty_list kept → RepresentsPlaced (RepresentsChain between kept t list) objects
      → TwoRepresented (RepresentsChain between kept) objects t list other
  two_placed none p = record {
    first = p.members;
    second = [];
    shown = p.shown;
    other = nothing none;
    apart = disjoint_nothing p.members;
    placed = p.placed;
    other_placed = tt;
  }

  pub two_lists : {list other : ListHead W} → other ≡ empty_list kept → RepresentsSomeChain between kept t list → TwoLists (RepresentsChain between kept) t list other
  two_lists none s = record { first = s.0; second = []; shown = s.1; other = nothing none; apart = tt }

  -- there is an object at each member of `list`, because each member is one of the eight covered places, and each of these places has an object
  pub placed_members : {list : ListHead W} {objects : Objects ℕ} → ((q : Place) (b a : Option Place) → between (t.entry q) b a → IsCovered t q)
      → HoldsOfEight between kept t list objects → RepresentsPlaced (RepresentsChain between kept t list) objects
  placed_members {objects = objects} covered h = record {
    members = h.shown.0;
    shown = h.shown.1;
    placed = members_placed between objects t (λ q b a k. h.placed q (subst (λ places. index_of q < places) h.covers (covered q b a k))) h.shown.0 h.shown.1;
  }

  -- after a call that keeps the extent of the table, a list that is represented is again a list of some of the eight objects
  pub still_of_eight : {new : Table E} {list after : ListHead W} {objects : Objects ℕ} → HoldsOfEight between kept t list objects → new.extent ≡ t.extent
      → RepresentsSomeChain between kept new after → HoldsOfEight between kept new after objects
  still_of_eight h same shown = record { covers = ap (λ (e : Extent). e.places) same ∙ h.covers; shown = shown; placed = h.placed }
