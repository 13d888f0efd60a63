-- The arguments of a call, as the tree has them.
use Rattle.std.proofs.Common.{◌≡◌, ◌∙◌, List, [], ◌∷◌, map, refl, sym, ap}
use Rattle.std.specs.declared.vec.Vec.{Vec}
use Rattle.std.specs.declared.alloc.Global.{Global}
use Rattle.delta_tree.specs.declared.expressions.Exp.{Exp}
use Rattle.delta_tree.specs.declared.expressions.Form.TheBlock.{hidden-the_row-Exp-0}
use Rattle.delta_tree.specs.SyntaxTree.{expression_before}
use Rattle.delta_tree.specs.Tree.{expression_of, expressions_of, row_of}
use Rattle.delta_tree.proofs.Rows.{row_of-hidden}
use Rattle.delta_parse.specs.Actions.{expression_list}

list_is : (es : List Exp) → expressions_of es ≡ expression_list (map expression_of es)
list_is [] = refl
list_is (e ∷ es) = ap (expression_before (expression_of e)) (list_is es)

-- the arguments of a call in the tree are those that were read
pub arguments_are : (es : Vec Exp Global) → expression_list (map expression_of es.items) ≡ row_of (hidden-the_row-Exp-0 es)
arguments_are es = sym (row_of-hidden es ∙ list_is es.items)
