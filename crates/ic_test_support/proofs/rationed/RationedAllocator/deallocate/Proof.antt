-- The call `deallocate` returns the block to the allocator below, from which the block came. The call neither reads nor changes the count.
use Rattle.std.proofs.Common.{◌≡◌, ℕ, ◌+◌, ◌^◌, ◌<◌, List, [], ◌∷◌, refl, w64, Bor}
use Rattle.std.proofs.alloc.Calls.{Al, α, seen, token, gives_key, Gives, at_gives, Gives-goes, Gives-Gives}
use Rattle.std.proofs.raw_atomic.Walks.{proved}
use seplogic.Ra.Ura.{Ura}
use mir.Syntax.{Ty, Args, Fn, a_type, dnil, dcons}
use mir.Val.{Val, vunit, vint, vptr}
use mir.MapTy.{inst_fn}
use base.Logic.{SProp, ent, id⊢, never_e}
use base.Fml.{Lft, Share, ffalse, ftrue, flft, froom, fsep}
use prog.Memory.{Memory, size, align, capped, up}
use prog.Routine.{Routine}
use prog.Wp.{WpFn, Tables}
use types.Logic.{Logic}
use contract.BorrowLft.{◌⊑◌, ⊑_trans}
use contract.Monad.{Fun, fact}
use contract.Running.{tables, tables_of}
use sound.WpLaws.{fm_of}
use types.Kit.{Item, ‵, raw, ◌⊛◌, later, given, learn, by, ◌$◌, ◌∵◌, !, qed, move, keep, use1, split, split3, join, fsplit, fjoin, feq_i, suffices, await, done}
use types.Run.{stop, fld, addr, of_opd, unit_lit, no_more, and_then, returns, enter}
use types.ByLocal.{alloc_all, pass_all, free_all, look_at, get, through, sets, lands_as}
use denote.Builtin.{usize, RawPtr, RefOf}
use denote.Exit.{yes}
use denote.Opens.{unhide}
use denote.Param.{bounded, param}
use denote.Plain.{uint_vals, uint_Tells}
use denote.RattleType.{owns}
use denote.RawPtr.{Ptr, block_ptr, null_ptr, ptr_val, rawptr_vals, rawptr_Tells}
use denote.Ref.{shr_vals}
use denote.Signature.{Slot, plain, types_at}
use denote.Steps.{heard, nothing}
use denote.Triple.Call.{calls_at}
use denote.Triple.Clauses.{Ended, Clauses}
use denote.Triple.Statement.{Triple}
use denote.Triple.Walked.{Stays, stay_dropped, walk_of, ends_at, Goes-dropped}
use Rattle.ic_test_support.specs.contracts.rationed.Rationed as whole
use Rattle.ic_test_support.specs.contracts.rationed.RationedAllocator.deallocate as F
use Rattle.ic_test_support.specs.contracts.rationed.RationedAllocator.deallocate.Key as key
use Rattle.ic_test_support.proofs.rationed.RationedAllocator.deallocate.Statement.{statement}
use Rattle.ic_test_support.proofs.rationed.RationedAllocator.deallocate.Code as code

module _ (Z : Al) where
  abbrev chosen : Args
  chosen = bounded (a_type ∷ []) (Z.row, tt) (dcons Z.d (dcons Z.drops dnil))

  abbrev body : Fn
  body = inst_fn chosen code.function

  abbrev me : Slot 2
  me = RefOf (0 ∷ []) tt (plain (λ _. whole.the_row (param 0 Z.row))) (λ _. tt)

  abbrev ended : Ended
  ended = F.ended Z.row Z.g Z.d Z.drops

  abbrev stayed : Stays ended.signature.params ended.kept
  stayed = (stay_dropped me yes, (stay_dropped (plain (λ _. RawPtr)) yes, (stay_dropped (plain (λ _. usize)) yes, (stay_dropped (plain (λ _. usize)) yes, tt))))

module _ (Z : Al) {M : Type 1} {𝓤 : Ura M} (𝓛 : Logic 𝓤) (at_mem : Memory → SProp 𝓤) (run : Routine → Fun 𝓤) (𝓣 : Tables 𝓤 𝓛.H) (below : Triple 𝓤 (𝓣.C (gives_key Z)) (Gives Z 𝓛 at_mem run)) where
  open 𝓛 use {H}

  abbrev said : Clauses 𝓤 (ended Z)
  said = F.clauses Z.row Z.g Z.d Z.drops 𝓛 at_mem run

  module _ (κ κ' : Lft) (q q' : Share) (inn : κ ⊑ κ') (self : Bor (whole.the_row Z.row).Denot) (n a : ℕ) (τ : Ty) where
    abbrev y : Ptr → (walk_of 𝓛 (ended Z) (stayed Z) said).Ghost
    y x = (((κ, (κ', tt)), (q, (q', tt)), (inn, tt), (self, (x, (n, (a, tt)))), (shr_vals self, (rawptr_vals x, (vint w64 n ∷ [], (vint w64 a ∷ [], tt))))), τ)

    abbrev vs : Ptr → List Val
    vs x = vptr self.ref_ptr.0 self.ref_ptr.1 ∷ ptr_val x ∷ vint w64 n ∷ vint w64 a ∷ []

    abbrev Post : Ptr → Val → SProp 𝓤
    Post x = (walk_of 𝓛 (ended Z) (stayed Z) said).post (y x)

    abbrev Given : Ptr → Item 𝓤
    Given x = (‵ (flft κ q) ⊛ ‵ (flft κ' q') ⊛ ‵ ftrue) ⊛ ‵ (owns (types_at (ended Z).signature.params (y x).0.0) (y x).0.3 (y x).0.4)

    abbrev Sizes : Type 0
    Sizes = (capped (size τ) ≡ n) × (capped (align τ) ≡ a)

    -- the pointer is not null, because there is no block at null
    walk : n < 2 ^ 64 → a < 2 ^ 64 → (x : Ptr) → ent 𝓤 ((walk_of 𝓛 (ended Z) (stayed Z) said).pre (y x)) (WpFn 𝓤 H 𝓣.C 𝓣.Λ (body Z) (vs x) (Post x))
    walk n_fits a_fits null_ptr =
        qed 𝓛 (Given null_ptr ∷ (raw (fact 𝓤 (κ' ⊑ Z.row.lives)) ⊛ raw (fact 𝓤 Sizes) ⊛ ‵ (fsep ffalse (token Z self.now.alloc τ null_ptr))) ∷ []) ∵
        move ! (1 ∷ []) $ split3 ! $ move ! (2 ∷ []) $ fsplit ! $ keep ! (0 ∷ []) $ by ! (never_e 𝓤 _)
    walk n_fits a_fits (block_ptr b o) =
        let handle : Z.row.Denot = self.now.alloc in
        let at : ℕ × ℕ = (self.ref_ptr.0, self.ref_ptr.1 + up (align (α Z)) 0) in
        let x : Ptr = block_ptr b o in
        let z : (Gives Z 𝓛 at_mem run).Ghost = at_gives Z 𝓛 at_mem run κ q at handle b o n a τ in
        qed 𝓛 (Given x ∷ (raw (fact 𝓤 (κ' ⊑ Z.row.lives)) ⊛ raw (fact 𝓤 Sizes) ⊛ ‵ (fsep (froom τ b o) (token Z handle τ x))) ∷ []) ∵
        move ! (1 ∷ []) $ split3 ! $ heard ! (κ' ⊑ Z.row.lives) (λ outlives. heard ! Sizes (λ sizes. fsplit ! $
        -- at this step the proof has, in this order, the room of the block, the right to free it, and the arguments of the call
        move ! (2 ∷ []) $ split ! $ split ! $ move ! (2 ∷ []) $ fsplit ! $ fsplit ! $ move ! (1 ∷ []) $ unhide ! $ fsplit ! $ fsplit ! $
        use1 𝓛 (‵ (seen Z κ at handle)) (id⊢ 𝓤 _) $ keep ! (7 ∷ 8 ∷ 0 ∷ 5 ∷ 6 ∷ []) $
        -- at this step the proof has, in this order, the room of the block, the right to free it, the handle of the allocator below, its token, and the
        -- other tokens
        enter ! 𝓣.C 𝓣.Λ (body Z) (vs x) _ $ alloc_all ! (λ l. pass_all ! refl ((tt, tt), ((tt, tt), ((tt, record { fits = n_fits }), ((tt, record { fits = a_fits }), tt)))) $
        sets ! (addr ! (through ! refl (fld ! refl (stop !)))) refl (tt, tt) $
        move ! (2 ∷ 3 ∷ []) $ join ! $ move ! (2 ∷ 0 ∷ []) $ join ! $ move ! (1 ∷ 0 ∷ []) $ join ! $
        use1 𝓛 (raw ((Gives Z 𝓛 at_mem run).pre z)) (Gives-goes Z 𝓛 at_mem run κ q at handle (⊑_trans κ κ' Z.row.lives inn outlives) b o n a τ sizes.0 sizes.1 n_fits a_fits) $
        calls_at ! (fm_of 𝓤 H 𝓛.laws 𝓣) (Gives Z 𝓛 at_mem run) below z (and_then ! (get ! refl) (and_then ! (get ! refl) (and_then ! (get ! refl) (and_then ! (get ! refl) (no_more !))))) (λ v.
        use1 𝓛 (later (given (v ≡ vunit) (‵ (flft κ q)))) (Gives-Gives Z 𝓛 at_mem run κ q at handle b o n a τ v) $ await ! tt $ learn ! (λ is.
        lands_as ! is refl (tt, tt) $ sets ! (of_opd ! (unit_lit !)) refl (tt, tt) $ returns ! (look_at ! 0 refl) $ free_all ! refl $
        suffices ! _ (ends_at 𝓛 (ended Z) (stayed Z) said (y x) vunit tt (tt, (tt, (tt, (tt, tt)))) (tt, (tt, (tt, (tt, tt))))) $
        nothing ! $ feq_i ! (List Val) (vunit ∷ []) (vunit ∷ []) refl $ nothing ! $ nothing ! $ fjoin ! $ nothing ! $ fjoin ! $ nothing ! $ fjoin ! $ nothing ! $ fjoin ! $ join ! $
        move ! (2 ∷ 3 ∷ []) $ join ! $ join ! $ done !)))))

pub deallocate_spec : {M : Type 1} → statement M
unfolding tables_of
deallocate_spec 𝓤 𝓛 𝓜 𝓡 wired Y L g d d' met _ =
    let Z : Al = record { row = Y; laws = L; g = g; d = d; drops = d' } in
    let 𝓣 : Tables 𝓤 𝓛.H = tables_of 𝓤 𝓛.H 𝓜 (tables 𝓤 𝓛.H 𝓜 𝓡 𝓡.env) in
    let number = Goes-dropped 𝓛 2 (plain (λ _. usize)) yes (λ κs x f. refl) in
    proved 𝓛 (ended Z) (stayed Z) (F.clauses Y g d d' 𝓛 𝓜.mem 𝓡.returns) 𝓜 𝓡 (Goes-dropped 𝓛 2 (me Z) yes (λ κs x f. refl), (Goes-dropped 𝓛 2 (plain (λ _. RawPtr)) yes (λ κs x f. refl), (number, (number, tt))))
    (key.name (chosen Z)) (body Z) (code.unfolded 𝓤 𝓛.H 𝓜 𝓡 wired (Y, tt) d d')
    (λ κs. (shr_vals, (rawptr_vals, (uint_vals w64, (uint_vals w64, tt))))) (λ κs. ((λ r us s. s.0), (rawptr_Tells, (uint_Tells w64, (uint_Tells w64, tt)))))
    (λ κs qs bounds args τ are. walk Z 𝓛 𝓜.mem 𝓡.returns 𝓣 (met.deallocate d') κs.0 κs.1.0 qs.0 qs.1.0 bounds.0 args.0 args.1.1.0 args.1.1.1.0 τ are.1.1.0.1 are.1.1.1.0.1 args.1.0)
