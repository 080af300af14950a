-- This file proves facts about the call of `refuses_next` in `allocate`.
--     Ask, at_ask     `Ask` is the contract of `refuses_next`. `at_ask` is what the caller chooses: the lifetime, the token's share, the address and
--                     the value of the cell, and the number of bytes
--     Ask-goes        the call needs a `&` to the count and the token of its lifetime, and nothing else
--     Ask-gives       the call gives the token back, and its result is a truth value
use Rattle.std.proofs.Common.{◌≡◌, ℕ, ◌^◌, ◌<◌, Bool, List, [], ◌∷◌, refl, ap, w64}
use seplogic.Ra.Ura.{Ura}
use mir.Val.{Val, vbool, vint, vptr}
use base.Logic.{SProp, ent, ex, guard, sep, id⊢}
use base.Fml.{Lft, Share, ftrue, fsep, flft}
use prog.Memory.{Memory}
use prog.Routine.{Routine}
use types.Logic.{Logic, sem}
use contract.Monad.{Fun}
use types.Kit.{‵, raw, ◌⊛◌, some, later, ◌$◌, ◌∵◌, !, qed, move, keep, use1, split, join, pick, show, fjoin, feq_i, feq_l, flt_i, check, await, updating, now as at_once, done}
use denote.RattleType.{RattleType}
use denote.Memory.{hidden_shr}
use denote.Builtin.{bool}
use denote.Steps.{nothing, only}
use denote.Triple.Statement.{Contract}
use denote.Triple.Spec.{triple_of}
use Rattle.std.specs.contracts.cell.Cell as cell
use Rattle.ic_test_support.specs.contracts.rationed.Count as count
use Rattle.ic_test_support.specs.contracts.rationed.refuses_next as asks

abbrev Counts : RattleType
Counts = cell.the_row count.the_row

module _ {M : Type 1} {𝓤 : Ura M} (𝓛 : Logic 𝓤) (at_mem : Memory → SProp 𝓤) (run : Routine → Fun 𝓤) where
  abbrev pub Ask : Contract 𝓤
  Ask = triple_of 𝓛 asks.signature (asks.spec 𝓛 at_mem run)

  abbrev pub at_ask : Lft → Share → ℕ × ℕ → Counts.Denot → ℕ → Ask.Ghost
  at_ask κ q at held n = (((κ, tt), (q, tt), tt, (record { ref_ptr = at; now = held }, (n, tt)), (vptr at.0 at.1 ∷ [], (vint w64 n ∷ [], tt))), tt)

  module _ (κ : Lft) (q : Share) (at : ℕ × ℕ) (held : Counts.Denot) (n : ℕ) where
    open 𝓛 use {H, A}

    abbrev y : Ask.Ghost
    y = at_ask κ q at held n

    pub Ask-goes : n < 2 ^ 64 → ent 𝓤 (sep 𝓤 (sem 𝓛 (hidden_shr Counts κ held at.0 at.1)) (A.lft κ q)) (Ask.pre y)
    Ask-goes fits =
        qed 𝓛 (‵ (hidden_shr Counts κ held at.0 at.1) ∷ ‵ (flft κ q) ∷ []) ∵
        nothing ! $ flt_i ! n (2 ^ 64) fits $ feq_i ! (List Val) (vint w64 n ∷ []) (vint w64 n ∷ []) refl $ fjoin ! $ fjoin ! $ move ! (1 ∷ []) $
        feq_i ! (List Val) (vptr at.0 at.1 ∷ []) (vptr at.0 at.1 ∷ []) refl $ fjoin ! $ fjoin ! $
        nothing ! $ move ! (2 ∷ []) $ join ! $ join ! $ nothing ! $ move ! (1 ∷ []) $ done !

    pub Ask-gives : (v : Val) → ent 𝓤 (Ask.post y v) (H.⇛ (ex 𝓤 (λ (b : Bool). guard 𝓤 (v ≡ vbool b) (A.lft κ q))))
    Ask-gives v =
        qed 𝓛 (raw (Ask.post y v) ∷ []) ∵ updating ! $
        use1 𝓛 (later (some (λ (b : Bool). ((‵ (flft κ q) ⊛ ‵ ftrue) ⊛ ‵ (bool.own_val b (v ∷ []))) ⊛ some (λ (ws : Unit {0} × (Unit {0} × Unit {0})). ‵ (fsep ftrue (fsep ftrue ftrue)) ⊛ ‵ ftrue)))) (id⊢ 𝓤 _) $
        await ! tt $ pick ! (λ b. split ! $ split ! $ move ! (1 ∷ []) $ feq_l ! (λ is. split ! $
        at_once ! $ show ! (λ (b : Bool). guard 𝓤 (v ≡ vbool b) (A.lft κ q)) b $ check ! (ap only is) $ keep ! (0 ∷ []) $ done !))
