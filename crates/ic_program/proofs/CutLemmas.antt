-- Bytes of which only a beginning was written.
use Rattle.std.proofs.Common.{◌≡◌, ℕ, List, [], ◌++◌, take, drop, Option, Some, None, Result, Ok, Err, OnErr, refl, sym, ap, ◌∙◌, append_assoc, append-nil, take-append-drop}
use Rattle.std.specs.Io.KnownBytes.{Appends, Keeps, append_known}
use Rattle.std.proofs.KnownBytes.{append_known-moved}
use Rattle.ic_program.specs.Played.{CutTo}

pub cut_nothing : (known : Option (List ℕ)) → CutTo known known
cut_nothing None = tt
cut_nothing (Some xs) = ([], sym (append-nil xs))

pub cut_more : (a b c : Option (List ℕ)) → CutTo a b → CutTo b c → CutTo a c
cut_more None b c p q = tt
cut_more (Some xs) None c p q = absurd p
cut_more (Some xs) (Some ys) None p q = absurd q
cut_more (Some xs) (Some ys) (Some zs) p q = (q.0 ++ p.0, p.1 ∙ ap (λ (l : List ℕ). l ++ p.0) q.1 ∙ append_assoc zs q.0 p.0)

pub cut_kept : (a b : Option (List ℕ)) → Keeps a b → CutTo a b
cut_kept None b p = tt
cut_kept (Some xs) None p = absurd p
cut_kept (Some xs) (Some ys) p = ([], sym p ∙ sym (append-nil ys))

pub kept_cut : (a b c : Option (List ℕ)) → Keeps a b → CutTo b c → CutTo a c
kept_cut a b c p q = cut_more a b c (cut_kept a b p) q

-- the written bytes are a beginning of these bytes with the waiting bytes after them
pub cut_waiting : (known : Option (List ℕ)) (waits : List ℕ) → CutTo (append_known known waits) known
cut_waiting None waits = tt
cut_waiting (Some xs) waits = (waits, refl)

-- if no bytes wait, the written bytes are all bytes
pub nothing_waits : (known : Option (List ℕ)) (waits : List ℕ) → waits ≡ [] → Keeps (append_known known waits) known
nothing_waits None waits is = tt
nothing_waits (Some xs) waits is = sym (append-nil xs) ∙ ap (λ (l : List ℕ). xs ++ l) (sym is)

-- if the writer took the first n bytes, the written bytes and the remaining bytes are together the same bytes as before
pub some_written : (a b : Option (List ℕ)) (bytes : List ℕ) (n : ℕ) → Appends a b (take n bytes) → Keeps (append_known a bytes) (append_known b (drop n bytes))
some_written a b bytes n took = append_known-moved a b (take n bytes) (drop n bytes) bytes took (sym (take-append-drop n bytes))

-- if only a beginning of `bytes` was written, it is also a beginning of `bytes` with `more` after them
pub cut_before : (a c : Option (List ℕ)) (bytes more : List ℕ) → CutTo (append_known a bytes) c → CutTo (append_known a (bytes ++ more)) c
cut_before None c bytes more p = tt
cut_before (Some xs) None bytes more p = absurd p
cut_before (Some xs) (Some ys) bytes more p =
    (p.0 ++ more, sym (append_assoc xs bytes more) ∙ ap (λ (l : List ℕ). l ++ more) p.1 ∙ append_assoc ys p.0 more)

-- if all of `bytes` was written, and then a beginning of `more`, a beginning of both together was written
pub cut_after : (a b c : Option (List ℕ)) (bytes more : List ℕ) → Keeps (append_known a bytes) b → CutTo (append_known b more) c → CutTo (append_known a (bytes ++ more)) c
cut_after None b c bytes more p q = tt
cut_after (Some xs) None c bytes more p q = absurd p
cut_after (Some xs) (Some ys) None bytes more p q = absurd q
cut_after (Some xs) (Some ys) (Some zs) bytes more p q =
    (q.0, sym (append_assoc xs bytes more) ∙ ap (λ (l : List ℕ). l ++ more) (sym p) ∙ q.1)

-- if all of `bytes` was written, and then all of `more`, both together were written
pub both_written : (a b c : Option (List ℕ)) (bytes more : List ℕ) → Keeps (append_known a bytes) b → Keeps (append_known b more) c → Keeps (append_known a (bytes ++ more)) c
both_written None b c bytes more p q = tt
both_written (Some xs) None c bytes more p q = absurd p
both_written (Some xs) (Some ys) None bytes more p q = absurd q
both_written (Some xs) (Some ys) (Some zs) bytes more p q = q ∙ ap (λ (l : List ℕ). l ++ more) p ∙ append_assoc xs bytes more

pub written_appends : (a b : Option (List ℕ)) (bytes : List ℕ) → Keeps (append_known a bytes) b → Appends a b bytes
written_appends None b bytes p = tt
written_appends (Some xs) None bytes p = absurd p
written_appends (Some xs) (Some ys) bytes p = p

-- known bytes with other bytes after them are what results if the bytes are appended
pub appended_after : (known : Option (List ℕ)) (bytes : List ℕ) → Appends known (append_known known bytes) bytes
appended_after None bytes = tt
appended_after (Some xs) bytes = refl

-- a statement P that is true also holds if the result is an error
pub on_err : {T E P : Type 0} (r : Result T E) → P → OnErr r P
on_err (Ok x) p = tt
on_err (Err e) p = p

pub on_err_map : {T E P Q : Type 0} (r : Result T E) → (P → Q) → OnErr r P → OnErr r Q
on_err_map (Ok x) f p = tt
on_err_map (Err e) f p = f p
