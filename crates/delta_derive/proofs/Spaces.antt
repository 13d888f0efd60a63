-- A line is cut at its first space, or is one word; and what one line of a text does.
use Rattle.std.proofs.Common.{◌≡◌, ◌∙◌, ◌+◌, ◌<◌, ℕ, suc, Bool, true, false, ◌||◌, not, cond, List, [], ◌∷◌, length, take, drop, Some, None, if◌then◌else◌, ap, refl, sym, arith}
use Rattle.std.specs.Prelude.{◌==◌, nat_lt, position, Option}
use Rattle.std.specs.List.{list_any, position_or_len, before_first, after_first}
use Rattle.std.proofs.lemmas.Bool.{ltb-true, ltb-false, lt-ltb, le-ltb}
use Rattle.core_term.specs.CoreTerm.{CoreBody}
use Rattle.bunch_rules.specs.Written.{Line}
use Rattle.delta_derive.specs.declared.fault.DeriveFault.TheVariants.{BadLine}
use Rattle.delta_derive.specs.LineText.{bare_line, line_with_path, line_in, lines_in}
use Rattle.delta_derive.specs.Claims.{Claim}
use Rattle.delta_derive.specs.FirstFault.{TextLines, first_from}
use Rattle.delta_derive.proofs.Options.{some_same, none_some}
use Rattle.delta_derive.proofs.Cutting.{lines_cut}

abbrev space : ℕ → Bool
space byte = byte == 32

shifted : (m n : ℕ) → nat_lt (1 + m) (suc n) ≡ nat_lt m n
shifted m n = go (nat_lt m n) refl
  where
    go : (b : Bool) → nat_lt m n ≡ b → nat_lt (1 + m) (suc n) ≡ b
    go true k = let lt = ltb-true m n k in lt-ltb (1 + m) (suc n) (omega (arith, lt))
    go false k = let le = ltb-false m n k in le-ltb (1 + m) (suc n) (omega (arith, le))

-- an element passes exactly where the first that does is within the list
any_within : (p : ℕ → Bool) (xs : List ℕ) → list_any p xs ≡ nat_lt (position_or_len p xs) (length xs)
any_within p [] = refl
any_within p (x ∷ xs) = go (any_within p xs) (p x)
  where
    go : list_any p xs ≡ nat_lt (position_or_len p xs) (length xs) → (b : Bool) → (b || list_any p xs) ≡ nat_lt (cond (not b) (1 + position_or_len p xs) 0) (suc (length xs))
    go more true = sym (lt-ltb 0 (suc (length xs)) (omega arith))
    go more false = more ∙ sym (shifted (position_or_len p xs) (length xs))

spaced_at : (bytes : List ℕ) (b : Bool) → nat_lt (position_or_len space bytes) (length bytes) ≡ b → line_in bytes ≡ (if b then line_with_path (before_first space bytes) (after_first space bytes) else bare_line bytes)
spaced_at bytes b h = ap (λ c. if c then line_with_path (before_first space bytes) (after_first space bytes) else bare_line bytes) (any_within space bytes ∙ h)

pub spaced : (bytes : List ℕ) (i : ℕ) → position space bytes ≡ Some i → line_in bytes ≡ line_with_path (take i bytes) (drop (i + 1) bytes)
spaced bytes i h = go (nat_lt (position_or_len space bytes) (length bytes)) refl h
  where
    go : (b : Bool) → nat_lt (position_or_len space bytes) (length bytes) ≡ b → cond b (Some (position_or_len space bytes)) None ≡ Some i → line_in bytes ≡ line_with_path (take i bytes) (drop (i + 1) bytes)
    go true k q = spaced_at bytes true k ∙ ap (λ n. line_with_path (take n bytes) (drop (n + 1) bytes)) (some_same q)
    go false k q = none_some q

pub space_within : (bytes : List ℕ) (i : ℕ) → position space bytes ≡ Some i → i < length bytes
space_within bytes i h = go (nat_lt (position_or_len space bytes) (length bytes)) refl h
  where
    go : (b : Bool) → nat_lt (position_or_len space bytes) (length bytes) ≡ b → cond b (Some (position_or_len space bytes)) None ≡ Some i → i < length bytes
    go true k q = let e = some_same q in let lt = ltb-true (position_or_len space bytes) (length bytes) k in omega (arith, lt, e)
    go false k q = none_some q

pub unspaced : (bytes : List ℕ) → position space bytes ≡ None → line_in bytes ≡ bare_line bytes
unspaced bytes h = go (nat_lt (position_or_len space bytes) (length bytes)) refl h
  where
    go : (b : Bool) → nat_lt (position_or_len space bytes) (length bytes) ≡ b → cond b (Some (position_or_len space bytes)) None ≡ None → line_in bytes ≡ bare_line bytes
    go true k q = none_some (sym q)
    go false k q = spaced_at bytes false k

pub ruleset spaces = (spaced, space_within, unspaced)

module _ (funs : List CoreBody) (counts : ℕ → Bool) (n : ℕ) (gs : List Claim) where
  bad_next : (hs : List Claim) (ls : TextLines) → first_from funs counts n hs (None ∷ ls) ≡ Some (BadLine n)
  bad_next [] ls = refl
  bad_next (g ∷ hs) ls = refl

  -- bytes that are no line of a derivation
  pub piece_bad : (o : Option Line) → None ≡ o → (hs : List Claim) (ls : TextLines) → first_from funs counts n hs (o ∷ ls) ≡ Some (BadLine n)
  piece_bad o e hs ls = ap (λ p. first_from funs counts n hs (p ∷ ls)) (sym e) ∙ bad_next hs ls

  -- a text is gone through line by line
  pub text_next : (text : List ℕ) (k : ℕ) → position (λ byte. byte == 10) text ≡ Some k → first_from funs counts n gs (lines_in text) ≡ first_from funs counts n gs (line_in (take k text) ∷ lines_in (drop (k + 1) text))
  text_next text k h = ap (λ ls. first_from funs counts n gs ls) (lines_cut text k h)

pub ruleset pieces = (piece_bad, text_next)
