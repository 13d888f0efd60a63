-- Lists: tests of all items of two of them, and a first item with the rest.
use Rattle.std.proofs.Common.{◌≡◌, ◌∙◌, ◌-◌, ◌≤◌, List, [], ◌∷◌, length, get_or, take, drop, ap, ap₂, sym, arith}
use Rattle.std.proofs.lemmas.List.{take_all}
use Rattle.std.proofs.lemmas.List.Folds.{list_all-append}
use Rattle.delta_keep.specs.declared.kept.Argument.{Argument}

-- arguments are the first one and the rest
pub first_and_rest : (args : List Argument) (a : Argument) → 1 ≤ length args → a ≡ get_or args 0 a → args ≡ a ∷ take (length args - 1) (drop 1 args)
first_and_rest [] a l e = absurd (omega (arith, l))
first_and_rest (b ∷ args) a l e =
    let n : length (b ∷ args) - 1 ≡ length args = omega arith in
    ap₂ (λ x xs. x ∷ xs) (sym e) (sym (ap (λ k. take k args) n ∙ take_all (length args) args (omega arith)))

pub ruleset lists = (list_all-append)
