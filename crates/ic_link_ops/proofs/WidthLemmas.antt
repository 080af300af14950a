-- This file proves for which numbers words of each width have room.
use Rattle.std.proofs.Common.{◌≡◌, ◌≢◌, ℕ, ◌+◌, ◌*◌, ◌/◌, ◌-◌, ◌<◌, ◌≤◌, max, min, Option, Some, None, List, length, take, slice_set, slice_index_or, bit_xor, inl, inr, arith, refl, sym, ◌∙◌, length-take, get_or-take}
use Rattle.std.proofs.lemmas.Bool.Decides.{eqb_tells}
use Rattle.std.proofs.Math.ListN.{get_or-eq_default}
use Rattle.std.proofs.Math.Seq.{take-set-lt}
use Rattle.std.proofs.lemmas.Nat.{xor_lt}
use Rattle.ic_link_ops.specs.Base.{Place, word_of, IsNameable}
use Rattle.ic_link_ops.specs.Widths.{Width, wide, narrow, HasRoom, CanKeep, nameable, count_nameable, most_places}

-- If words of the width w can name the end o, which is a place or none, they have room for the word of o.
pub word_kept : (w : Width) (o : Option Place) → IsNameable (HasRoom w) o → CanKeep w (word_of o)
word_kept wide o h = tt
word_kept narrow None h = omega arith
word_kept narrow (Some p) h = omega (arith, h)

-- Words of each width have room for each number below 2 ^ 32. If words can name the end o, they have room for the word of o and
-- three more bits.
pub small_kept : (w : Width) (n : ℕ) → n < 4294967296 → CanKeep w n
small_kept wide n h = tt
small_kept narrow n h = h

pub word_and_bits_kept : (w : Width) (o : Option Place) (k : ℕ) → k < 8 → IsNameable (HasRoom w) o → CanKeep w (word_of o + k)
word_and_bits_kept wide o k few h = tt
word_and_bits_kept narrow None k few h = omega (arith, few)
word_and_bits_kept narrow (Some p) k few h = omega (arith, few, h)

-- If words have room for the number n, they have room for n with another lowest bit.
pub lowest_bit_kept : (w : Width) (n k : ℕ) → k < 2 → CanKeep w n → CanKeep w (n / 2 * 2 + k)
lowest_bit_kept wide n k few h = tt
lowest_bit_kept narrow n k few h = omega (arith, few, h)

-- If words have room for two numbers, they have room for the exclusive or of them.
pub xor_kept : (w : Width) (a b : ℕ) → CanKeep w a → CanKeep w b → CanKeep w (bit_xor a b)
xor_kept wide a b h k = tt
xor_kept narrow a b h k = xor_lt 32 a b h k

-- The number of nameable links in a list is what `count_nameable` computes from the number of all links. It is at most the number
-- of all links.
pub nameable_count : {E : Type 0} (w : Width) (es : List E) → length (nameable w es) ≡ count_nameable w (length es)
nameable_count wide es = refl
nameable_count narrow es = length-take 536870911 es

pub nameable_fits : {E : Type 0} (w : Width) (es : List E) → length (nameable w es) ≤ length es
nameable_fits wide es = omega arith
nameable_fits narrow es = omega (arith, length-take 536870911 es)

-- Words that can name every place can name each of the first n places. Other words can name as many of the first n places as they
-- can name at all, or all n if these are fewer.
pub all_nameable : (w : Width) (n : ℕ) → most_places w ≡ 4294967296 → count_nameable w n ≡ n
all_nameable wide n all = refl
all_nameable narrow n all = absurd (omega (arith, all))

pub some_nameable : (w : Width) (n : ℕ) → most_places w ≢ 4294967296 → count_nameable w n ≡ min (most_places w) n
some_nameable wide n some = absurd (some refl)
some_nameable narrow n some = refl

-- A link that is read among the nameable links is the link with the same index among all links.
pub nameable_read : {E : Type 0} (w : Width) (es : List E) (i : ℕ) (d : E) → i < length (nameable w es) → slice_index_or (nameable w es) i d ≡ slice_index_or es i d
nameable_read wide es i d h = refl
nameable_read narrow es i d h = get_or-take 536870911 es i d (omega (arith, h, length-take 536870911 es))

-- If a nameable link is written, the nameable links are the old ones with that link written.
pub nameable_written : {E : Type 0} (w : Width) (es : List E) (i : ℕ) (e : E) → i < length (nameable w es) → nameable w (slice_set es i e) ≡ slice_set (nameable w es) i e
nameable_written wide es i e h = refl
nameable_written narrow es i e h = take-set-lt 536870911 es i e (omega (arith, h, length-take 536870911 es))

-- If the link with the index i stays, the nameable link with the index i stays. `nameable_grown` and `nameable_enough` compute
-- the number of covered places after `cover`, and `nameable_at_most` says that there are at most as many covered places as links.
pub nameable_stays : {E : Type 0} (w : Width) (d : E) (es fs : List E) (i : ℕ) → slice_index_or fs i d ≡ slice_index_or es i d
    → slice_index_or (nameable w fs) i d ≡ slice_index_or (nameable w es) i d
nameable_stays wide d es fs i same = same
nameable_stays narrow d es fs i same =
    elim (eqb_tells (536870911 - i) 0) [
      | inl e ↦ get_or-eq_default (take 536870911 fs) d {n = i} (omega (arith, e.1, length-take 536870911 fs))
          ∙ sym (get_or-eq_default (take 536870911 es) d {n = i} (omega (arith, e.1, length-take 536870911 es)))
      | inr e ↦ get_or-take 536870911 fs i d (omega (arith, e.1)) ∙ same ∙ sym (get_or-take 536870911 es i d (omega (arith, e.1)))
    ]

pub nameable_grown : (w : Width) (n count : ℕ) → count ≤ most_places w → n < count → count_nameable w count ≡ max (count_nameable w n) count
nameable_grown wide n count few more = omega (arith, more)
nameable_grown narrow n count few more = omega (arith, few, more)

pub nameable_enough : (w : Width) (n count : ℕ) → count ≤ most_places w → count ≤ n → count_nameable w n ≡ max (count_nameable w n) count
nameable_enough wide n count few more = omega (arith, more)
nameable_enough narrow n count few more = omega (arith, few, more)

pub nameable_at_most : (w : Width) (n : ℕ) → count_nameable w n ≤ n
nameable_at_most wide n = omega arith
nameable_at_most narrow n = omega arith
