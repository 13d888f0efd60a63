-- Worked examples: two programs and some types, and their canonical texts.
use Rattle.std.proofs.Common.{◌≡◌, [], ◌∷◌, ◌++◌, refl, codes, arith, ◌<◌}
use Rattle.std.specs.Fmt.{decimal}
use Rattle.std.proofs.lemmas.Fmt.{decimal_digit}
use Rattle.std.specs.Prelude.{pos}
use Rattle.hist_value.specs.declared.expr.Op.TheVariants.{Mul}
use Rattle.hist_value.specs.HistExpr.{variable, literal, reckoned}
use Rattle.stream_type.specs.StreamType.{one, int, cat, sum, par, star}
use Rattle.delta_tree.specs.SyntaxTree.{int_written, star_written, parameter, name_at, nil_at, hist_at, cons_at, case_star_at, wait_at, call_at, name_head, no_expressions, expression_before, WrittenFunction, function_declared, ProgramTree}
use Rattle.std.specs.Str.{chars}
use Rattle.unicode_ident.proofs.Computing.{unicode_ident}
use lib.Utf8.{encode}
use Rattle.delta_print.specs.Canonical.{canonical_text, type_text}
use Rattle.delta_print.specs.ReadingBack.{IsNameText, AreDistinct, IsPrintable}

-- what comes on the input goes to the output
abbrev same_program : ProgramTree
same_program = record {
  names = codes "x" ∷ [];
  declarations = [];
  main = record { name = 1; past = []; context = parameter 0 (int_written 9); result = int_written 16; body = name_at 22 0; at = 0 };
}

same_text : canonical_text same_program ≡ codes "main (x : Int) : Int = x" ++ 10 ∷ []
same_text = refl

-- each number twice as great
abbrev twice_function : WrittenFunction
twice_function = record {
  name = 0;
  past = [];
  context = parameter 1 (star_written 0 (int_written 0));
  result = star_written 0 (int_written 0);
  body = case_star_at 0 (name_head 0 1) (nil_at 0) 2 3
      (wait_at 0 2 (cons_at 0 (hist_at 0 (record { at = 0; expr = reckoned Mul (variable 2) (literal (pos 2)) })) (call_at 0 0 [] (expression_before (name_at 0 3) no_expressions))));
  at = 0;
}

abbrev twice_program : ProgramTree
twice_program = record {
  names = codes "twice" ∷ codes "xs" ∷ codes "y" ∷ codes "ys" ∷ [];
  declarations = function_declared twice_function ∷ [];
  main = record {
    name = 4;
    past = [];
    context = parameter 1 (star_written 0 (int_written 0));
    result = star_written 0 (int_written 0);
    body = call_at 0 0 [] (expression_before (name_at 0 1) no_expressions);
    at = 0;
  };
}

two_written : decimal 2 ≡ codes "2"
two_written = decimal_digit 2 (omega arith)

twice_text : canonical_text twice_program
    ≡ codes "fun twice (xs : Int*) : Int* = case xs of { nil => nil | y :: ys => wait y in { y * 2 } :: twice (ys) }" ++ 10 ∷ codes "main (xs : Int*) : Int* = twice (xs)" ++ 10 ∷ []
twice_text = rw two_written refl

-- a bracket stands only where it is needed
sum_in_sequence : type_text (cat (sum one int) int) ≡ codes "(1 + Int) . Int"
sum_in_sequence = refl

sum_goes_on : type_text (sum one (sum int one)) ≡ codes "1 + Int + 1"
sum_goes_on = refl

stars_of_all : type_text (star (star (par int (cat one int)))) ≡ codes "(Int || 1 . Int)**"
stars_of_all = refl

-- the first program is one that can be read again
x_is_name : IsNameText (codes "x")
unfolding chars unicode_ident encode
x_is_name = record { utf8 = (codes "x", (refl, refl)); shape = refl; no_word = refl }

x_distinct : AreDistinct same_program.names
x_distinct i j less within same = absurd (omega arith)

same_printable : IsPrintable same_program
same_printable =
    let x : (0 < 1) × IsNameText (codes "x") = (omega arith, x_is_name) in record {
      made = record { declarations = refl; context = refl; past = refl };
      spelled = (refl, (refl, (x, (refl, (refl, (refl, (refl, (refl, (refl, (x, tt))))))))));
      ordered = (tt, (tt, (omega arith, (tt, (tt, (tt, (tt, (tt, (tt, (omega arith, refl))))))))));
      distinct = x_distinct;
      main = refl;
    }
