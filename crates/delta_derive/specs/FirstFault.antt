-- Which line of a derivation is at fault first.
use Rattle.std.specs.Prelude.{ℕ, suc, ◌≡◌, Bool, List, [], ◌∷◌, ◌++◌, map, Option, Some, None, option_map, ⊤}
use Rattle.core_term.specs.CoreTerm.{CoreBody, CoreProgram}
use Rattle.core_term.specs.Inert.{is_inert_fun}
use Rattle.bunch_rules.specs.Written.{Line, plain_rule, rule_at, step_at, IsWritten}
use Rattle.delta_derive.specs.declared.fault.DeriveFault.{DeriveFault}
use Rattle.delta_derive.specs.declared.fault.DeriveFault.TheVariants.{Memory, BadLine, BadStep, BadRule, Short, Long}
use Rattle.delta_derive.specs.LineText.{lines_in}
use Rattle.delta_derive.specs.Rearranged.{rearranged}
use Rattle.delta_derive.specs.Claims.{Claim, claim, rule_parts, rule_parts_by, program_claims}

-- the fault where there are no claims, and else what is said of them
abbrev pub judged : DeriveFault → Option (List Claim) → (List Claim → Option DeriveFault) → Option DeriveFault
judged f None rest = Some f
judged f (Some hs) rest = rest hs

-- the lines of a text; None stands for what is no line of a derivation
abbrev pub TextLines : Type 0
TextLines = List (Option Line)

-- the fault of a line that isn't valid
abbrev pub fault_at : ℕ → Line → DeriveFault
fault_at n plain_rule = BadRule n
fault_at n (rule_at p) = BadRule n
fault_at n (step_at w p) = BadStep n

module _ (funs : List CoreBody) (counts : ℕ → Bool) where
  -- the claims that a line leaves of one, or None where it is at fault
  abbrev pub after : Line → Claim → Option (List Claim)
  after plain_rule g = rule_parts funs counts g.known g.bunch g.term g.result
  after (rule_at p) g = rule_parts_by funs counts p g.known g.bunch g.term g.result
  after (step_at w p) g = option_map (λ h. claim g.known h g.term g.result ∷ []) (rearranged w p g.bunch)

  -- the first fault of lines that are numbered from n, where these claims are still to be derived, in turn
  abbrev pub first_from : ℕ → List Claim → TextLines → Option DeriveFault
  first_from n [] [] = None
  first_from n (g ∷ gs) [] = Some (Short n)
  first_from n gs (None ∷ ls) = Some (BadLine n)
  first_from n [] (Some l ∷ ls) = Some (Long n)
  first_from n (g ∷ gs) (Some l ∷ ls) = judged (fault_at n l) (after l g) (λ hs. first_from (suc n) (hs ++ gs) ls)

-- the first fault of a text as a derivation of a program, or None
abbrev pub first_fault : CoreProgram → List ℕ → Option DeriveFault
first_fault c text = first_from c.funs (is_inert_fun c.funs) 0 (program_claims c) (lines_in text)

-- the lines of the text write a derivation of the program
abbrev pub IsValidText : CoreProgram → List ℕ → Type 0
IsValidText c text = (ls : List Line) × (lines_in text ≡ map Some ls) × IsWritten c ls

-- a fault that isn't want of memory is the first one
abbrev pub TellsFirst : DeriveFault → Option DeriveFault → Type 0
TellsFirst Memory first = ⊤
TellsFirst f first = first ≡ Some f

-- and it says that something isn't so
abbrev pub Denies : DeriveFault → Type 0 → Type 0
Denies Memory P = ⊤
Denies f P = P → ⊥
