-- The characters at the front that pass a test, by their length in bytes.
use Rattle.std.proofs.Common.{◌≡◌, ℕ, ◌+◌, ◌<◌, ◌≤◌, Bool, true, false, cond, List, [], ◌∷◌, length, get_or, drop, suc, sym, ap, ◌∙◌, refl, arith, ◌&&◌, ◌||◌, ◌⊎◌, eqb, inl, inr}
use Rattle.std.specs.Char.{len_utf8}
use Rattle.std.specs.Str.{encode_utf8_all}
use Rattle.std.specs.List.{prefix_len}
use Rattle.std.proofs.lemmas.List.{at_drop_more, length-append}
use Rattle.std.proofs.lemmas.Str.{length-encode, len_utf8_ascii}
use Rattle.std.proofs.lemmas.Bool.{eqb-true}
use Rattle.delta_lex.specs.Pieces.{begins_with, joins}
use Rattle.delta_lex.specs.Measures.{run_bytes, bytes_of}

pub one_add : (n : ℕ) → 1 + n ≡ suc n
one_add n = omega arith

-- the length of one character more
pub bytes_of_cons : (n c : ℕ) (cs : List ℕ) → bytes_of (suc n) (c ∷ cs) ≡ len_utf8 c + bytes_of n cs
bytes_of_cons n c cs = length-append _ _ ∙ ap (λ k. k + bytes_of n cs) (length-encode c)

-- a run from a place on
pub run_bytes-drop : (p : ℕ → Bool) (cs : List ℕ) (n c : ℕ) → (n < length cs) × (c ≡ get_or cs n c)
    → run_bytes p (drop n cs) ≡ cond (p c) (len_utf8 c + run_bytes p (drop (n + 1) cs)) 0
run_bytes-drop p cs n c h =
    at_drop_more (run_bytes p) cs n c h.0 ∙ ap (λ x. cond (p x) (len_utf8 x + run_bytes p (drop (n + 1) cs)) 0) (sym h.1)

run_step : (b : Bool) (n r c : ℕ) (cs : List ℕ) → r ≡ bytes_of n cs → cond b (len_utf8 c + r) 0 ≡ bytes_of (cond b (1 + n) 0) (c ∷ cs)
run_step true n r c cs e = ap (λ k. len_utf8 c + k) e ∙ sym (bytes_of_cons n c cs) ∙ ap (λ k. bytes_of k (c ∷ cs)) (sym (one_add n))
run_step false n r c cs e = refl

-- a run is the front that passes the test
pub run_bytes_is : (p : ℕ → Bool) (cs : List ℕ) → run_bytes p cs ≡ bytes_of (prefix_len p cs) cs
run_bytes_is p [] = refl
run_bytes_is p (c ∷ cs) = run_step (p c) (prefix_len p cs) (run_bytes p cs) c cs (run_bytes_is p cs)

le_step : (b : Bool) (r c whole tail : ℕ) → whole ≡ len_utf8 c + tail → r ≤ tail → cond b (len_utf8 c + r) 0 ≤ whole
le_step true r c whole tail e h = omega arith
le_step false r c whole tail e h = omega arith

-- the length of a character and others
pub length_cons : (c : ℕ) (cs : List ℕ) → length (encode_utf8_all (c ∷ cs)) ≡ len_utf8 c + length (encode_utf8_all cs)
length_cons c cs = length-append _ _ ∙ ap (λ k. k + length (encode_utf8_all cs)) (length-encode c)

-- a run isn't longer than the text
pub run_bytes_le : (p : ℕ → Bool) (cs : List ℕ) → run_bytes p cs ≤ length (encode_utf8_all cs)
run_bytes_le p [] = omega arith
run_bytes_le p (c ∷ cs) = le_step (p c) (run_bytes p cs) c _ (length (encode_utf8_all cs)) (length_cons c cs) (run_bytes_le p cs)

-- an ASCII character at the front is one byte
begins_bytes : (k : ℕ) (cs : List ℕ) → k < 128 → begins_with k cs ≡ true → bytes_of 1 cs ≡ 1
begins_bytes k [] small h = cc
begins_bytes k (d ∷ cs) small h =
    let same : d ≡ k = eqb-true d k h in
    let one : len_utf8 d ≡ 1 = len_utf8_ascii d (omega arith) in
    bytes_of_cons 0 d cs ∙ ap (λ n. n + 0) one

one_of_three : (a b c d e f : Bool) → ((a && b) || ((c && d) || (e && f))) ≡ true → (b ≡ true) ⊎ ((d ≡ true) ⊎ (f ≡ true))
one_of_three a b c d e f h = grind arith

-- the second character of a sign is one byte
pub joins_bytes : (c : ℕ) (cs : List ℕ) → joins c cs ≡ true → bytes_of 1 cs ≡ 1
joins_bytes c cs h =
    elim (one_of_three (eqb c 58) (begins_with 58 cs) (eqb c 61) (begins_with 62 cs) (eqb c 124) (begins_with 124 cs) h) [
      | inl e ↦ begins_bytes 58 cs (omega arith) e
      | inr (inl e) ↦ begins_bytes 62 cs (omega arith) e
      | inr (inr e) ↦ begins_bytes 124 cs (omega arith) e
    ]
