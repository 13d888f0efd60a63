-- The core of the load's program: of pairs of numbers it gives the first of each whose second is above 500.
use Rattle.std.specs.Prelude.{pos, [], ◌∷◌, codes}
use Rattle.stream_type.specs.StreamType.{one, int, sum, star}
use Rattle.bunch.specs.BunchTree.{leaf}
use Rattle.hist_value.specs.declared.expr.Op.TheVariants.{Less}
use Rattle.hist_value.specs.HistExpr.{variable, literal, reckoned}
use Rattle.core_term.specs.CoreTerm.{CoreTerm, CoreBody, CoreProgram, var_term, nil_term, past_term, cons_term, let_term, let_cat_term, case_sum_term, case_star_term, wait_term, call_term, no_terms, term_before}
use Rattle.delta_load.specs.Load.{load_type}

-- the names are xs 0, y 1, ys 2, k 3 and v 4, and three that have no name in the text
abbrev pub over_rest : CoreTerm
over_rest = call_term 0 [] (term_before (var_term 2) no_terms)

-- if 500 < v then {k} :: over(ys) else over(ys)
abbrev pub choice_term : CoreTerm
choice_term =
    let_term 5 (sum one one) (past_term (reckoned Less (literal (pos 500)) (variable 4)))
    (case_sum_term 5 (star int) 6 (cons_term (past_term (variable 3)) over_rest) 7 over_rest)

-- fun over(xs : (Int . Int)*) : Int* =
--   case xs of { nil => nil | y :: ys => let (k; v) = y in wait k in wait v in if 500 < v then {k} :: over(ys) else over(ys) }
abbrev pub over_core : CoreBody
over_core = record {
  past = [];
  params = leaf 0 load_type;
  result = star int;
  body = case_star_term 0 (star int) nil_term 1 2 (let_cat_term 3 4 1 (wait_term 3 (star int) (wait_term 4 (star int) choice_term)));
}

-- main(xs : (Int . Int)*) : Int* = over(xs)
abbrev pub load_core : CoreProgram
load_core = record {
  funs = over_core ∷ [];
  main = record { past = []; params = leaf 8 load_type; result = star int; body = call_term 0 [] (term_before (var_term 8) no_terms) };
  texts = codes "xs" ∷ codes "y" ∷ codes "ys" ∷ codes "k" ∷ codes "v" ∷ codes "#5" ∷ codes "#6" ∷ codes "#7" ∷ codes "xs" ∷ [];
}
