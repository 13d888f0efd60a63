-- Lists that grew twice, and pieces of which more was taken.
use Rattle.std.proofs.Common.{◌≡◌, ℕ, List, ◌++◌, Option, Some, ◌∙◌, ap, sym, append_assoc, take, drop, length, ◌-◌}
use Rattle.std.proofs.lemmas.List.{take_rest, take-append-drop}
use Rattle.port.specs.Told.{Grows}

-- two lists were added, one after the other
pub grows_more : {A : Type 0} (start now next : Option (List A)) (moves more : List A) → Grows start now moves → Grows now next more → Grows start next (moves ++ more)
grows_more start now next moves more first then told is = then (told ++ moves) (first told is) ∙ ap Some (append_assoc told moves more)

-- a piece of which n bytes more were taken
pub split_more : (piece sent rest : List ℕ) (n : ℕ) → piece ≡ sent ++ rest → piece ≡ (sent ++ take n rest) ++ take (length rest - n) (drop n rest)
split_more piece sent rest n split =
    split ∙ ap (λ (bs : List ℕ). sent ++ bs) (sym (take-append-drop n rest) ∙ ap (λ (bs : List ℕ). take n rest ++ bs) (sym (take_rest rest n))) ∙ sym (append_assoc sent (take n rest) (take (length rest - n) (drop n rest)))
