-- Worked examples: a small program as a tree, what its parts in the program stand for, and places.
use Rattle.std.proofs.Common.{◌≡◌, [], ◌∷◌, map, refl, ap, ◌∙◌, codes}
use Rattle.std.specs.declared.vec.Vec.{Vec}
use Rattle.std.specs.declared.alloc.Global.{Global}
use Rattle.std.specs.declared.boxed.Box.{Box}
use Rattle.bunch.specs.declared.name.Name.{Name}
use Rattle.delta_tree.specs.declared.types.TyForm.{TyForm}
use Rattle.delta_tree.specs.declared.types.TyForm.TheVariants as types
use Rattle.delta_tree.specs.declared.expressions.Exp.{Exp}
use Rattle.delta_tree.specs.declared.expressions.Hist.{Hist}
use Rattle.delta_tree.specs.declared.expressions.Form.{Form}
use Rattle.delta_tree.specs.declared.expressions.Form.TheVariants.{Var, Nil, Let', Cat', CaseStar', Call}
use Rattle.delta_tree.specs.declared.expressions.HeadForm.TheVariants.{Var as HeadVar}
use Rattle.delta_tree.specs.SyntaxTree.{eps_written, int_written, one_written, nil_at, case_star_at, star_written, cat_written, parameter, name_at, cat_at, call_at, no_expressions, expression_before, let_at, name_head, WrittenFunction, ProgramTree}
use Rattle.delta_tree.specs.Tree.{type_form_of, type_tree_of, expression_form_of, expression_of, expressions_of, hist_of}
use Rattle.delta_tree.specs.Places.{place_of_type, place_of_expression, place_of_head}
use Rattle.delta_tree.specs.Unplaced.{unplaced_type, unplaced_expression, unplaced_program}
use Rattle.delta_tree.proofs.Rows.{expression_form_of-call}

-- `main(x : Int) : Int = x`, whose name `x` has the number 0 and whose name `main` has the number 1
abbrev same_main : WrittenFunction
same_main = record {
  name = 1;
  past = [];
  context = parameter 0 (int_written 9);
  result = int_written 16;
  body = name_at 22 0;
  at = 0;
}

abbrev same_program : ProgramTree
same_program = record { names = codes "x" ∷ []; declarations = []; main = same_main }

-- `Int` at 16 in the program
result_stands_for : (b : Box TyForm Global) → b.value ≡ types.Int → type_tree_of (record { at = 16; form = b }) ≡ same_main.result
result_stands_for b h = ap (type_form_of 16) h

-- `x` at 22 in the program
body_stands_for : (x : Name) (b : Box Form Global) → x.0 ≡ 0 → b.value ≡ Var x → expression_of (record { at = 22; form = b }) ≡ same_main.body
body_stands_for x b h v = ap (expression_form_of 22) v ∙ ap (name_at 22) h

-- the same program with spaces in front: `  main(x:Int):Int=x`
abbrev other_program : ProgramTree
other_program = record {
  names = codes "x" ∷ [];
  declarations = [];
  main = record {
    name = 1;
    past = [];
    context = parameter 0 (int_written 9);
    result = int_written 14;
    body = name_at 18 0;
    at = 2;
  };
}

-- the two are alike but for places
alike : unplaced_program same_program ≡ unplaced_program other_program
alike = refl

-- `let y = x in (y; f())` and without its places
let_unplaced : unplaced_expression (let_at 4 1 (name_head 12 0) (cat_at 17 (name_at 18 1) (call_at 21 2 [] no_expressions)))
    ≡ let_at 0 1 (name_head 0 0) (cat_at 0 (name_at 0 1) (call_at 0 2 [] no_expressions))
let_unplaced = refl

-- `(1 . Int)*`: the star stands at its bracket, and the bracketed part at its own first token
type_unplaced : unplaced_type (star_written 5 (cat_written 6 (one_written 6) (int_written 10)))
    ≡ star_written 0 (cat_written 0 (one_written 0) (int_written 0))
type_unplaced = refl

places : (place_of_type same_main.result ≡ 16) × (place_of_expression same_main.body ≡ 22) × (place_of_head (name_head 12 0) ≡ 12)
places = (refl, refl, refl)

-- `Int . eps` in the program, in the order in which it is written
type_in_order : (p q : _) → type_form_of 3 (types.Cat' 3 p types.Int 9 q types.Eps)
    ≡ cat_written 3 (int_written 3) (eps_written 9)
type_in_order p q = refl

-- `let y = x in (y; x)` in the program
let_stands_for : (x y : Name) (p q r s : _)
    → expression_form_of 4 (Let' y 12 p (HeadVar x) 17 q (Cat' 18 r (Var y) 21 s (Var x)))
    ≡ let_at 4 y.0 (name_head 12 x.0) (cat_at 17 (name_at 18 y.0) (name_at 21 x.0))
let_stands_for x y p q r s = refl

-- `case x of { nil => nil | y :: z => z }` in the program
case_stands_for : (x y z : Name) (p q r : _)
    → expression_form_of 0 (CaseStar' 5 p (HeadVar x) 19 q Nil y z 35 r (Var z))
    ≡ case_star_at 0 (name_head 5 x.0) (nil_at 19) y.0 z.0 (name_at 35 z.0)
case_stands_for x y z p q r = refl

-- `f(x, nil)` in the program
call_stands_for : (f x : Name) (ms : Vec Hist Global) (es : Vec Exp Global) (a b : Box Form Global) → a.value ≡ Var x → b.value ≡ Nil
    → es.items ≡ record { at = 2; form = a } ∷ record { at = 5; form = b } ∷ []
    → expression_form_of 0 (Call f ms es)
    ≡ call_at 0 f.0 (map hist_of ms.items) (expression_before (name_at 2 x.0) (expression_before (nil_at 5) no_expressions))
call_stands_for f x ms es a b va vb h = expression_form_of-call 0 f ms es
    ∙ ap (λ row. call_at 0 f.0 (map hist_of ms.items) (expressions_of row)) h
    ∙ ap (λ v. call_at 0 f.0 (map hist_of ms.items) (expression_before (expression_form_of 2 v) (expression_before (expression_form_of 5 b.value) no_expressions))) va
    ∙ ap (λ v. call_at 0 f.0 (map hist_of ms.items) (expression_before (name_at 2 x.0) (expression_before (expression_form_of 5 v) no_expressions))) vb
