-- What lists of expressions stand for, and calls.
use mathlib.Core.Former.{Count}
use Rattle.std.proofs.Common.{◌≡◌, ℕ, map, refl, ap, ◌∙◌}
use Rattle.std.specs.declared.vec.Vec.{Vec}
use Rattle.std.specs.declared.alloc.Global.{Global}
use Rattle.bunch.specs.declared.name.Name.{Name}
use Rattle.delta_tree.specs.declared.expressions.Exp.{Exp}
use Rattle.delta_tree.specs.declared.expressions.Hist.{Hist}
use Rattle.delta_tree.specs.declared.expressions.Form.{Row_of-Exp, end_of-Exp, more_of-Exp, items-the_row-Exp, items_hidden-the_row-Exp-0}
use Rattle.delta_tree.specs.declared.expressions.Form.TheBlock.{hidden-the_row-Exp-0}
use Rattle.delta_tree.specs.declared.expressions.Form.TheVariants.{Call}
use Rattle.delta_tree.specs.declared.expressions.HeadForm.TheVariants.{Call as HeadCall}
use Rattle.delta_tree.specs.SyntaxTree.{call_at, call_head}
use Rattle.delta_tree.specs.Tree.{hist_of, expression_form_of, head_form_of, row_of, expressions_of}

-- what a row of trees stands for, tree by tree
row_of-list : (m : Count) (k : Row_of-Exp m) → row_of k ≡ expressions_of (items-the_row-Exp m k)
row_of-list m end_of-Exp = refl
row_of-list m (more_of-Exp i p e k) = cc (row_of-list _ k)

-- what a list's trees stand for
pub row_of-hidden : (v : Vec Exp Global) → row_of (hidden-the_row-Exp-0 v) ≡ expressions_of v.items
row_of-hidden v = row_of-list _ (hidden-the_row-Exp-0 v) ∙ ap expressions_of (items_hidden-the_row-Exp-0 v)

-- what a call stands for
pub expression_form_of-call : (at : ℕ) (f : Name) (ms : Vec Hist Global) (es : Vec Exp Global)
    → expression_form_of at (Call f ms es) ≡ call_at at f.0 (map hist_of ms.items) (expressions_of es.items)
expression_form_of-call at f ms es = ap (call_at at f.0 (map hist_of ms.items)) (row_of-hidden es)

-- what a call stands for where it is a head
pub head_form_of-call : (at : ℕ) (f : Name) (ms : Vec Hist Global) (es : Vec Exp Global)
    → head_form_of at (HeadCall f ms es) ≡ call_head at f.0 (map hist_of ms.items) (expressions_of es.items)
head_form_of-call at f ms es = ap (call_head at f.0 (map hist_of ms.items)) (row_of-hidden es)

-- for functions over the trees, in the crates above
pub ruleset rows = (row_of-hidden, expression_form_of-call, head_form_of-call)
