-- Worked examples: the line of a bound, and what is read off a core with the places of its nodes.
use Rattle.std.proofs.Common.{◌≡◌, ℕ, List, [], ◌∷◌, ◌++◌, Some, refl, ap, true, arith}
use Rattle.std.specs.Prelude.{codes}
use Rattle.std.proofs.lemmas.Fmt.{decimal_digit}
use Rattle.stream_type.specs.StreamType.{int, star, one, sum}
use Rattle.bunch.specs.BunchTree.{leaf, comma}
use Rattle.core_term.specs.CoreTerm.{CoreBody, wait_term, case_sum_term, var_term, cat_term, unit_term}
use Rattle.commands.specs.Unsized.{first_unsized_in}
use Rattle.commands.specs.Bounding.{bound_line}

line_of_one : bound_line 1 ≡ codes "bound 1\n"
line_of_one = ap (λ (digits : List ℕ). codes "bound " ++ (digits ++ 10 ∷ [])) (decimal_digit 1 (omega arith))

-- a wait for a list of numbers, which is its own name 0, at place 7
abbrev waiting : CoreBody
waiting = record { past = []; params = leaf 0 (star int); result = star int; body = wait_term 0 (star int) (var_term 0) }

wait_counts_itself : first_unsized_in [] (λ f. true) (7 ∷ 9 ∷ []) waiting ≡ Some (0, 7)
wait_counts_itself = refl

-- a case on 0 that counts the list 1, behind another node
abbrev choosing : CoreBody
choosing = record {
  past = [];
  params = comma (leaf 0 (sum one one)) (leaf 1 (star int));
  result = star int;
  body = cat_term unit_term (case_sum_term 0 (star int) 2 (var_term 1) 3 (var_term 1));
}

case_counts_others : first_unsized_in [] (λ f. true) (5 ∷ 6 ∷ 8 ∷ 10 ∷ 12 ∷ []) choosing ≡ Some (1, 8)
case_counts_others = refl
