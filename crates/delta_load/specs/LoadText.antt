-- The text of the load's program, which is its canonical one, its tokens, and its tree.
use Rattle.std.specs.Prelude.{ℕ, ◌+◌, List, [], ◌∷◌, pos, codes}
use Rattle.hist_value.specs.declared.expr.Op.TheVariants.{Less}
use Rattle.hist_value.specs.HistExpr.{variable, literal, reckoned}
use Rattle.delta_tree.specs.SyntaxTree.{WrittenType, int_written, cat_written, star_written, parameter, Expression, name_at, nil_at, hist_at, cons_at, let_cat_at, case_star_at, wait_at, if_at, call_at, name_head, no_expressions, expression_before, WrittenFunction, function_declared, ProgramTree}

-- the text, in which a program stands on one line
abbrev pub load_text : List ℕ
load_text = codes "fun over (xs : (Int . Int)*) : Int* = case xs of { nil => nil | y :: ys => let (k; v) = y in wait k in wait v in if 500 < v then { k } :: over (ys) else over (ys) }\nmain (xs : (Int . Int)*) : Int* = over (xs)\n"

-- `(Int . Int)*` and `Int*` at a place
abbrev pub pairs_written : ℕ → WrittenType
pairs_written at = star_written at (cat_written (at + 1) (int_written (at + 1)) (int_written (at + 7)))

abbrev pub ints_written : ℕ → WrittenType
ints_written at = star_written at (int_written at)

-- the names are over 0, xs 1, y 2, ys 3, k 4 and v 5
abbrev pub over_of_rest : ℕ → Expression
over_of_rest at = call_at at 0 [] (expression_before (name_at (at + 6) 3) no_expressions)

abbrev pub over_written : WrittenFunction
over_written = record {
  name = 0;
  past = [];
  context = parameter 1 (pairs_written 15);
  result = ints_written 31;
  body = case_star_at 38 (name_head 43 1) (nil_at 58) 2 3
      (let_cat_at 75 4 5 (name_head 88 2) (wait_at 93 4 (wait_at 103 5
      (if_at 113 (record { at = 116; expr = reckoned Less (literal (pos 500)) (variable 5) })
      (cons_at 129 (hist_at 129 (record { at = 131; expr = variable 4 })) (over_of_rest 138)) (over_of_rest 153)))));
  at = 0;
}

abbrev pub main_written : WrittenFunction
main_written = record {
  name = 6;
  past = [];
  context = parameter 1 (pairs_written 176);
  result = ints_written 192;
  body = call_at 199 0 [] (expression_before (name_at 205 1) no_expressions);
  at = 165;
}

abbrev pub load_tree : ProgramTree
load_tree = record {
  names = codes "over" ∷ codes "xs" ∷ codes "y" ∷ codes "ys" ∷ codes "k" ∷ codes "v" ∷ [];
  declarations = function_declared over_written ∷ [];
  main = main_written;
}
