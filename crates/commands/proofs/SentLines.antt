-- What was sent of a line tells what the line does.
use Rattle.std.proofs.Common.{◌≡◌, ◌∙◌, ℕ, List, [], ◌∷◌, ◌++◌, ap, refl, subst, sym}
use Rattle.commands.specs.Bounding.{TellsAll, TellsFront}

-- a front of it
pub front_told : (text line sent rest : List ℕ) → TellsAll text line → line ≡ sent ++ rest → TellsFront text sent
front_told text line sent rest h e = record { number = h.number; bounded = h.bounded; front = (rest, sym h.all ∙ e) }

append-none : (xs : List ℕ) → xs ++ [] ≡ xs
append-none [] = refl
append-none (x ∷ xs) = ap (λ l. x ∷ l) (append-none xs)

-- and all of it
pub all_told : (text line sent rest : List ℕ) → TellsAll text line → line ≡ sent ++ rest → rest ≡ [] → TellsAll text sent
all_told text line sent rest h e n = subst (λ (l : List ℕ). TellsAll text l) (e ∙ (ap (λ l. sent ++ l) n ∙ append-none sent)) h
