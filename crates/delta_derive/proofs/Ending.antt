-- What is at fault where no line is left.
use Rattle.std.proofs.Common.{◌≡◌, ◌∙◌, ◌<◌, ℕ, Bool, List, [], ◌∷◌, length, map, reverse, ap, refl, arith}
use Rattle.std.specs.Prelude.{Some, None, position, ◌==◌}
use Rattle.std.proofs.lemmas.List.{length-reverse}
use Rattle.core_term.specs.CoreTerm.{CoreBody}
use Rattle.delta_derive.specs.declared.open.OpenTerm.{OpenTerm}
use Rattle.delta_derive.specs.declared.fault.DeriveFault.TheVariants.{BadLine, Short}
use Rattle.delta_derive.specs.LineText.{lines_in}
use Rattle.delta_derive.specs.Claims.{Claim}
use Rattle.delta_derive.specs.OpenTerms.{claim_of, claims_in}
use Rattle.delta_derive.specs.FirstFault.{first_from}
use Rattle.delta_derive.proofs.Cutting.{lines_uncut, no_lines, bad_rest}

bad_first : (funs : List CoreBody) (counts : ℕ → Bool) (n : ℕ) (gs : List Claim) → first_from funs counts n gs (None ∷ []) ≡ Some (BadLine n)
bad_first funs counts n [] = refl
bad_first funs counts n (g ∷ gs) = refl

short_first : (funs : List CoreBody) (counts : ℕ → Bool) (n : ℕ) (os : List OpenTerm) → 0 < length os → first_from funs counts n (map claim_of os) [] ≡ Some (Short n)
short_first funs counts n [] h = absurd (omega arith)
short_first funs counts n (o ∷ os) h = refl

none_open : (os : List OpenTerm) → length os ≡ 0 → map claim_of (reverse os) ≡ []
none_open [] h = refl
none_open (o ∷ os) h = absurd (omega arith)

module _ (funs : List CoreBody) (counts : ℕ → Bool) (n : ℕ) (os : List OpenTerm) (text : List ℕ) where
  pub end_fine : length text ≡ 0 → length os ≡ 0 → first_from funs counts n (claims_in os) (lines_in text) ≡ None
  end_fine h k = ap (λ ls. first_from funs counts n (claims_in os) ls) (no_lines text h) ∙ ap (λ gs. first_from funs counts n gs []) (none_open os k)

  pub end_short : length text ≡ 0 → 0 < length os → first_from funs counts n (claims_in os) (lines_in text) ≡ Some (Short n)
  end_short h k = ap (λ ls. first_from funs counts n (claims_in os) ls) (no_lines text h) ∙ short_first funs counts n (reverse os) (omega (arith, length-reverse os, k))

  pub end_bad : position (λ byte. byte == 10) text ≡ None → 0 < length text → first_from funs counts n (claims_in os) (lines_in text) ≡ Some (BadLine n)
  end_bad h k = ap (λ ls. first_from funs counts n (claims_in os) ls) (lines_uncut text h ∙ bad_rest text k) ∙ bad_first funs counts n (claims_in os)

pub ruleset ending = (end_fine, end_short, end_bad)
