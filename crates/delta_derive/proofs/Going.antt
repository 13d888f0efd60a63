-- A text is gone through line by line.
use Rattle.std.proofs.Common.{◌≡◌, ◌∙◌, ◌+◌, ◌-◌, ◌≤◌, ℕ, suc, Bool, List, ◌∷◌, length, take, drop, add-one, length-drop, ap, subst, sym, arith}
use Rattle.std.specs.Prelude.{◌==◌, Some, position}
use Rattle.std.proofs.lemmas.List.{take_all}
use Rattle.core_term.specs.CoreTerm.{CoreBody}
use Rattle.delta_derive.specs.declared.fault.DeriveFault.{DeriveFault}
use Rattle.delta_derive.specs.LineText.{line_in, lines_in}
use Rattle.delta_derive.specs.Claims.{Claim}
use Rattle.delta_derive.specs.FirstFault.{TextLines, TellsFirst, first_from}
use Rattle.delta_derive.proofs.Cutting.{feed_within}
use Rattle.delta_derive.proofs.Spaces.{text_next}

-- what is left behind a place, as the program cuts it
pub rest_cut : (text : List ℕ) (i : ℕ) → take (length text - i) (drop i text) ≡ drop i text
rest_cut text i = take_all (length text - i) (drop i text) (omega (arith, length-drop i text))

-- the lines so far and what is left are no more than all bytes
pub still_within : (text rest : List ℕ) (n k : ℕ) → n + length rest ≤ length text → position (λ byte. byte == 10) rest ≡ Some k → n + 1 + length (take (length rest - (k + 1)) (drop (k + 1) rest)) ≤ length text
still_within text rest n k h e =
    let at = feed_within rest k e in
    let cut = ap length (rest_cut rest (k + 1)) in
    omega (arith, h, at, cut, length-drop (k + 1) rest)

module _ (funs : List CoreBody) (counts : ℕ → Bool) (n : ℕ) (gs : List Claim) (text : List ℕ) (k : ℕ) where
  -- the first line is valid
  pub goes_on : (hs : List Claim) → position (λ byte. byte == 10) text ≡ Some k → ((ls : TextLines) → first_from funs counts n gs (line_in (take k text) ∷ ls) ≡ first_from funs counts (suc n) hs ls)
      → first_from funs counts (n + 1) hs (lines_in (take (length text - (k + 1)) (drop (k + 1) text))) ≡ first_from funs counts n gs (lines_in text)
  goes_on hs h w =
      ap (λ t. first_from funs counts (n + 1) hs (lines_in t)) (rest_cut text (k + 1)) ∙ ap (λ m. first_from funs counts m hs (lines_in (drop (k + 1) text))) (add-one n)
      ∙ sym (text_next funs counts n gs text k h ∙ w (lines_in (drop (k + 1) text)))

  -- the first line is at fault
  pub stops_at : (f : DeriveFault) → position (λ byte. byte == 10) text ≡ Some k → ((ls : TextLines) → TellsFirst f (first_from funs counts n gs (line_in (take k text) ∷ ls))) → TellsFirst f (first_from funs counts n gs (lines_in text))
  stops_at f h w = subst (TellsFirst f) (sym (text_next funs counts n gs text k h)) (w (lines_in (drop (k + 1) text)))
