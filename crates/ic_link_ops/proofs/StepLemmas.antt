-- This file proves which places are linked after the steps of a table.
use Rattle.std.proofs.Common.{◌≡◌, List, [], ◌∷◌, ◌++◌, Bool, refl, ◌∙◌, ap}
use Rattle.ic_link_ops.specs.Base.{Place, IsAbsent, Table, ChangesOnly, IsLinked, IsUnlinked, LinksAlso, Unlinks, releases, releases_each, TraceIs}
use Rattle.ic_link_ops.proofs.LinkedSets.{everywhere}

module _ {E : Type 0} {linked : E → Bool} {a b : Table E} {p : Place} where
  -- If only the entry of p changes, and p becomes linked or becomes unlinked, the change is one step that links or unlinks p.
  pub links_only : IsUnlinked linked a p → IsLinked linked b p → ChangesOnly a b p → LinksAlso linked a b p
  links_only was is only = record { was = was; is = is; others = λ q n. ap linked (only.others q n) }

  pub unlinks_only : IsLinked linked a p → IsUnlinked linked b p → ChangesOnly a b p → Unlinks linked a b p
  unlinks_only was is only = record { was = was; is = is; others = λ q n. ap linked (only.others q n) }

-- The steps that unlink each member of s followed by t are the steps for s, followed by the steps for t.
pub releases_append : (s t : List Place) → releases_each (s ++ t) ≡ releases_each s ++ releases_each t
releases_append [] t = refl
releases_append (x ∷ s) t = ap (λ l. releases x ∷ l) (releases_append s t)

-- After the steps that unlink each member of s, every place that is not in s is linked or unlinked as before.
module _ {E : Type 0} (linked : E → Bool) where
  pub released_stay : (s : List Place) (a b : Table E) (q : Place) → TraceIs linked a b (releases_each s) → IsAbsent q s → linked (b.entry q) ≡ linked (a.entry q)
  released_stay [] a b q l out = l q
  released_stay (x ∷ []) a b q l out = l.others q out.0
  released_stay (x ∷ y ∷ s) a b q l out = released_stay (y ∷ s) l.0 b q l.2 out.1 ∙ l.1.others q out.0

  -- A place that is unlinked stays unlinked after the steps that unlink each member of s.
  unlinked_stays : (s : List Place) (a b : Table E) (q : Place) → TraceIs linked a b (releases_each s) → IsUnlinked linked a q → IsUnlinked linked b q
  unlinked_stays [] a b q l off = l q ∙ off
  unlinked_stays (x ∷ []) a b q l off =
      everywhere (λ z. IsUnlinked linked a z → IsUnlinked linked b z) x q (λ h. l.is) (λ n h. l.others q n ∙ h) off
  unlinked_stays (x ∷ y ∷ s) a b q l off =
      unlinked_stays (y ∷ s) l.0 b q l.2 (everywhere (λ z. IsUnlinked linked a z → IsUnlinked linked l.0 z) x q (λ h. l.1.is) (λ n h. l.1.others q n ∙ h) off)

  -- After the steps that unlink each member of s, each member of s is unlinked.
  pub each_unlinked : (s : List Place) (a b : Table E) (q : Place) → TraceIs linked a b (releases_each s) → (IsAbsent q s → ⊥) → IsUnlinked linked b q
  each_unlinked [] a b q l member = absurd (member tt)
  each_unlinked (x ∷ []) a b q l member =
      everywhere (λ z. (IsAbsent z (x ∷ []) → ⊥) → IsUnlinked linked b z) x q (λ m. l.is) (λ n m. absurd (m (n, tt))) member
  each_unlinked (x ∷ y ∷ s) a b q l member =
      everywhere (λ z. (IsAbsent z (x ∷ y ∷ s) → ⊥) → IsUnlinked linked b z) x q (λ m. unlinked_stays (y ∷ s) l.0 b x l.2 l.1.is)
      (λ n m. each_unlinked (y ∷ s) l.0 b q l.2 (λ out. m (n, out))) member
