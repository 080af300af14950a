-- The call `allocate` counts the request first. If this request is to be refused, the result is an error. Otherwise the call returns what the allocator
-- below returns.
use Rattle.std.proofs.Common.{◌≡◌, ℕ, ◌+◌, ◌^◌, ◌<◌, true, false, List, [], ◌∷◌, Ok, Err, refl, w64, Bor}
use Rattle.std.proofs.alloc.Calls.{Al, α, seen, Answer, answer_val, Answer-typed, Answer-Ok, Answer-err, takes_key, Takes, at_takes, Answered, Takes-goes, Takes-gives, answers}
use Rattle.std.proofs.VecSteps.Shapes.{after}
use Rattle.std.proofs.raw_atomic.Walks.{proved}
use seplogic.Ra.Ura.{Ura}
use mir.Syntax.{Ty, Args, Fn, a_type, dnil, dcons}
use mir.Val.{Val, vbool, vint, vptr}
use mir.MapTy.{inst_fn}
use base.Logic.{SProp, ent, id⊢}
use base.Fml.{Lft, Share, ftrue, flft}
use prog.Memory.{Memory, size, align, capped, up}
use prog.Routine.{Routine}
use prog.Wp.{WpFn, Tables}
use types.Logic.{Logic}
use contract.BorrowLft.{◌⊑◌, ⊑_trans}
use contract.Monad.{Fun, fact}
use contract.Running.{tables, tables_of}
use sound.WpLaws.{fm_of}
use types.Kit.{Item, Sq, ‵, raw, ◌⊛◌, some, later, given, at_ret, prop, learn, pick, ◌$◌, ◌∵◌, !, qed, move, keep, use0, use1, use2, split, join, fsplit, fjoin, suffices, await, done}
use types.Part.{agg}
use types.Run.{stop, fld, addr, lit, no_more, and_then, first, branches, skips, exec, returns, returns_within, enter}
use types.ByLocal.{alloc_all, pass_all, free_all, look_at, get, through, sets, lands_as, env}
use denote.Builtin.{usize, RefOf}
use denote.Exit.{yes}
use denote.Opens.{unhide}
use denote.Param.{bounded, param}
use denote.Plain.{uint_vals, uint_Tells}
use denote.RattleType.{owns}
use denote.RawPtr.{block_ptr}
use denote.Ref.{shr_vals}
use denote.Signature.{Slot, plain, types_at}
use denote.Steps.{heard, nothing}
use denote.Triple.Call.{calls_at}
use denote.Triple.Clauses.{Ended, Clauses}
use denote.Triple.Statement.{Triple}
use denote.Triple.Table.{cited}
use denote.Triple.Walked.{Stays, stay_dropped, walk_of, ends_at, Goes-dropped}
use Rattle.ic_test_support.proofs.Asking.{Ask, at_ask, Ask-goes, Ask-gives}
use Rattle.ic_test_support.proofs.rationed.refuses_next.Symbol as asks_symbol
use Rattle.ic_test_support.proofs.rationed.refuses_next.Met as asks_met
use Rattle.ic_test_support.specs.contracts.rationed.Rationed as whole
use Rattle.ic_test_support.specs.contracts.rationed.RationedAllocator.allocate as F
use Rattle.ic_test_support.specs.contracts.rationed.RationedAllocator.allocate.Key as key
use Rattle.ic_test_support.proofs.rationed.RationedAllocator.allocate.Statement.{statement}
use Rattle.ic_test_support.proofs.rationed.RationedAllocator.allocate.Code as code

module _ (Z : Al) where
  abbrev chosen : Args
  chosen = bounded (a_type ∷ []) (Z.row, tt) (dcons Z.d (dcons Z.drops dnil))

  abbrev body : Fn
  body = inst_fn chosen code.function

  abbrev me : Slot 2
  me = RefOf (0 ∷ []) tt (plain (λ _. whole.the_row (param 0 Z.row))) (λ _. tt)

  abbrev ended : Ended
  ended = F.ended Z.row Z.g Z.d Z.drops

  abbrev stayed : Stays ended.signature.params ended.kept
  stayed = (stay_dropped me yes, (stay_dropped (plain (λ _. usize)) yes, (stay_dropped (plain (λ _. usize)) yes, tt)))

module _ (Z : Al) {M : Type 1} {𝓤 : Ura M} (𝓛 : Logic 𝓤) (at_mem : Memory → SProp 𝓤) (run : Routine → Fun 𝓤) (𝓣 : Tables 𝓤 𝓛.H)
    (below : Triple 𝓤 (𝓣.C (takes_key Z)) (Takes Z 𝓛 at_mem run)) (asked : Triple 𝓤 (𝓣.C asks_symbol.name) (Ask 𝓛 at_mem run)) where
  open 𝓛 use {H}

  abbrev said : Clauses 𝓤 (ended Z)
  said = F.clauses Z.row Z.g Z.d Z.drops 𝓛 at_mem run

  module _ (κ κ' : Lft) (q q' : Share) (inn : κ ⊑ κ') (self : Bor (whole.the_row Z.row).Denot) (n a : ℕ) (τ : Ty) where
    abbrev y : (walk_of 𝓛 (ended Z) (stayed Z) said).Ghost
    y = (((κ, (κ', tt)), (q, (q', tt)), (inn, tt), (self, (n, (a, tt))), (shr_vals self, (vint w64 n ∷ [], (vint w64 a ∷ [], tt)))), τ)

    abbrev vs : List Val
    vs = vptr self.ref_ptr.0 self.ref_ptr.1 ∷ vint w64 n ∷ vint w64 a ∷ []

    abbrev Post : Val → SProp 𝓤
    Post = (walk_of 𝓛 (ended Z) (stayed Z) said).post y

    abbrev Others : Item 𝓤
    Others = ‵ (flft κ' q') ⊛ ‵ ftrue

    -- if the result is an error, then the tokens are all that the call has to give back
    gives_up : Sq 𝓛 (‵ (flft κ q) ∷ Others ∷ []) (prop (Post (answer_val false 0 0)))
    gives_up =
        nothing ! $ suffices ! _ (ends_at 𝓛 (ended Z) (stayed Z) said y (answer_val false 0 0) (Err (record {})) (tt, (tt, (tt, tt))) (tt, (tt, (tt, tt)))) $
        use0 𝓛 (‵ (Answer.own_val (Err (record {})) (answer_val false 0 0 ∷ []))) (Answer-err 𝓛) $ nothing ! $ nothing ! $ fjoin ! $ nothing ! $ fjoin ! $ nothing ! $ fjoin ! $ join ! $
        move ! (2 ∷ 3 ∷ []) $ join ! $ join ! $ done !

    walk : n < 2 ^ 64 → a < 2 ^ 64 → ent 𝓤 ((walk_of 𝓛 (ended Z) (stayed Z) said).pre y) (WpFn 𝓤 H 𝓣.C 𝓣.Λ (body Z) vs Post)
    walk n_fits a_fits =
        let handle : Z.row.Denot = self.now.alloc in
        let at : ℕ × ℕ = (self.ref_ptr.0, self.ref_ptr.1 + up (align (α Z)) 0) in
        let beside : ℕ × ℕ = (self.ref_ptr.0, self.ref_ptr.1 + up 8 (up (align (α Z)) 0 + size (α Z))) in
        let z : (Takes Z 𝓛 at_mem run).Ghost = at_takes Z 𝓛 at_mem run κ q at handle n a τ in
        let Sizes : Type 0 = (capped (size τ) ≡ n) × (capped (align τ) ≡ a) in
        qed 𝓛 (((‵ (flft κ q) ⊛ Others) ⊛ ‵ (owns (types_at (ended Z).signature.params y.0.0) y.0.3 y.0.4)) ∷ (raw (fact 𝓤 (κ' ⊑ Z.row.lives)) ⊛ raw (fact 𝓤 Sizes)) ∷ []) ∵
        move ! (1 ∷ []) $ split ! $ heard ! (κ' ⊑ Z.row.lives) (λ outlives. heard ! Sizes (λ sizes.
        split ! $ split ! $ move ! (2 ∷ []) $ fsplit ! $ fsplit ! $ move ! (1 ∷ []) $ unhide ! $ fsplit ! $ fsplit ! $
        use1 𝓛 (‵ (seen Z κ at handle)) (id⊢ 𝓤 _) $ move ! (1 ∷ []) $ fsplit ! $ keep ! (0 ∷ 6 ∷ 2 ∷ 7 ∷ []) $
        -- at this step the proof has, in this order, the count, its token, the handle of the allocator below, and the other tokens
        enter ! 𝓣.C 𝓣.Λ (body Z) vs _ $ alloc_all ! (λ l. pass_all ! refl ((tt, tt), ((tt, record { fits = n_fits }), ((tt, record { fits = a_fits }), tt))) $
        sets ! (addr ! (through ! refl (fld ! refl (stop !)))) refl (tt, tt) $
        use2 𝓛 (raw ((Ask 𝓛 at_mem run).pre (at_ask 𝓛 at_mem run κ q beside self.now.count n))) (Ask-goes 𝓛 at_mem run κ q beside self.now.count n n_fits) $
        calls_at ! (fm_of 𝓤 H 𝓛.laws 𝓣) (Ask 𝓛 at_mem run) asked (at_ask 𝓛 at_mem run κ q beside self.now.count n) (and_then ! (get ! refl) (and_then ! (get ! refl) (no_more !))) (λ v.
        use1 𝓛 (later (some (λ refuses. given (v ≡ vbool refuses) (‵ (flft κ q))))) (Ask-gives 𝓛 at_mem run κ q beside self.now.count n v) $ await ! tt $ pick ! (λ refuses. learn ! (λ is.
        lands_as ! is refl (tt, tt) $
        -- at this step the proof has, in this order, the token, the handle of the allocator below, and the other tokens
        first ! $ branches ! (get ! refl)
        (λ _. sets ! (agg ! (no_more !)) refl (tt, tt) $ sets ! (agg ! (and_then ! (lit ! tt) (and_then ! (get ! refl) (no_more !)))) refl (Answer-typed false 0 0) $
        returns_within ! Post refl (look_at ! 0 refl) $ free_all ! refl $ keep ! (0 ∷ 2 ∷ []) $ gives_up)
        (λ _. skips ! $ exec ! 𝓣.C 𝓣.Λ (env (body Z).locals l) (after 3 (body Z).body) (at_ret (env (body Z).locals l) Post) $
        sets ! (addr ! (through ! refl (fld ! refl (stop !)))) refl (tt, tt) $ move ! (1 ∷ 0 ∷ []) $
        use2 𝓛 (raw ((Takes Z 𝓛 at_mem run).pre z)) (Takes-goes Z 𝓛 at_mem run κ q at handle (⊑_trans κ κ' Z.row.lives inn outlives) n a τ sizes.0 sizes.1 n_fits a_fits) $
        calls_at ! (fm_of 𝓤 H 𝓛.laws 𝓣) (Takes Z 𝓛 at_mem run) below z (and_then ! (get ! refl) (and_then ! (get ! refl) (and_then ! (get ! refl) (no_more !)))) (λ r.
        use1 𝓛 (later (raw (Answered Z 𝓛 at_mem run handle τ r) ⊛ ‵ (flft κ q))) (Takes-gives Z 𝓛 at_mem run κ q at handle n a τ r) $ await ! tt $ split ! $
        answers Z ! at_mem run handle τ r
        (λ b o found. fjoin ! $ lands_as ! found refl (Answer-typed true b o) $ returns ! (look_at ! 0 refl) $ free_all ! refl $
        suffices ! _ (ends_at 𝓛 (ended Z) (stayed Z) said y (answer_val true b o) (Ok (block_ptr b o)) (tt, (tt, (tt, tt))) (tt, (tt, (tt, tt)))) $
        use0 𝓛 (‵ (Answer.own_val (Ok (block_ptr b o)) (answer_val true b o ∷ []))) (Answer-Ok 𝓛 b o) $ nothing ! $ nothing ! $ fjoin ! $ nothing ! $ fjoin ! $ nothing ! $ fjoin ! $ join ! $
        move ! (2 ∷ 3 ∷ []) $ join ! $ join ! $ done !)
        (λ none. lands_as ! none refl (Answer-typed false 0 0) $ returns ! (look_at ! 0 refl) $ free_all ! refl $ gives_up)))))))))

pub allocate_spec : {M : Type 1} → statement M
unfolding tables_of
allocate_spec 𝓤 𝓛 𝓜 𝓡 wired Y L g d d' met _ =
    let Z : Al = record { row = Y; laws = L; g = g; d = d; drops = d' } in
    let 𝓣 : Tables 𝓤 𝓛.H = tables_of 𝓤 𝓛.H 𝓜 (tables 𝓤 𝓛.H 𝓜 𝓡 𝓡.env) in
    let asked = cited 𝓤 𝓛.H _ 𝓜 𝓡 𝓡.env asks_symbol.name (𝓡.env asks_symbol.name) refl (asks_met.met 𝓤 𝓛 𝓜 𝓡 (code.calls-ic_test_support::rationed::refuses_next 𝓡.env wired)) in
    let number = Goes-dropped 𝓛 2 (plain (λ _. usize)) yes (λ κs x f. refl) in
    proved 𝓛 (ended Z) (stayed Z) (F.clauses Y g d d' 𝓛 𝓜.mem 𝓡.returns) 𝓜 𝓡 (Goes-dropped 𝓛 2 (me Z) yes (λ κs x f. refl), (number, (number, tt)))
    (key.name (chosen Z)) (body Z) (code.unfolded 𝓤 𝓛.H 𝓜 𝓡 wired (Y, tt) d d')
    (λ κs. (shr_vals, (uint_vals w64, (uint_vals w64, tt)))) (λ κs. ((λ r us s. s.0), (uint_Tells w64, (uint_Tells w64, tt))))
    (λ κs qs bounds args τ are. walk Z 𝓛 𝓜.mem 𝓡.returns 𝓣 (met.allocate d') asked κs.0 κs.1.0 qs.0 qs.1.0 bounds.0 args.0 args.1.0 args.1.1.0 τ are.1.0.1 are.1.1.0.1)
