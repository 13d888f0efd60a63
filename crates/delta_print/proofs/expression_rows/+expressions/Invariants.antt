-- What was appended so far, and then the expressions that are left. Each call goes down, or is nearer to one that does.
use Rattle.std.proofs.Common.{◌≡◌, ◌+◌, ◌*◌, ◌++◌, drop, max}
use Rattle.delta_tree.specs.declared.expressions.Exp.{size-Exp}
use Rattle.delta_tree.specs.declared.expressions.Form.{size-Form}
use Rattle.delta_tree.specs.declared.expressions.Head.{size-Head}
use Rattle.delta_tree.specs.declared.expressions.HeadForm.{size-HeadForm}
use Rattle.delta_tree.specs.Tree.{expressions_of}
use Rattle.delta_print.specs.Rows.{expressions_row}
use Rattle.delta_print.proofs.Appends.{expressions_behind}
use Rattle.delta_print.proofs.expression_rows.+expressions.Given as goal

abbrev pub invariant-put_expressions-loop-e : goal.invariant-put_expressions-loop-e
invariant-put_expressions-loop-e l =
    l.row.items ++ expressions_behind l.behind_one (expressions_of (drop l.e-index l.es)) ≡ l.fn.row.items ++ expressions_row (expressions_of l.es)

abbrev pub decreases-put_expression : goal.decreases-put_expression
decreases-put_expression l = 3 * size-Exp l.e.now

abbrev pub decreases-put_form : goal.decreases-put_form
decreases-put_form l = 3 * size-Form l.form.now

abbrev pub decreases-put_application : goal.decreases-put_application
decreases-put_application l = 3 * size-Exp l.e.now + 1

abbrev pub decreases-put_first : goal.decreases-put_first
decreases-put_first l = 3 * size-Exp l.e.now + 1

abbrev pub decreases-put_pair : goal.decreases-put_pair
decreases-put_pair l = max (3 * size-Exp l.a.now) (3 * size-Exp l.b.now) + 2

abbrev pub decreases-put_side : goal.decreases-put_side
decreases-put_side l = 3 * size-Exp l.e.now + 2

abbrev pub decreases-put_split : goal.decreases-put_split
decreases-put_split l = max (3 * size-Head l.head.now) (3 * size-Exp l.e.now) + 2

abbrev pub decreases-put_sum_case : goal.decreases-put_sum_case
decreases-put_sum_case l = max (3 * size-Head l.head.now) (max (3 * size-Exp l.a.now) (3 * size-Exp l.b.now)) + 2

abbrev pub decreases-put_star_case : goal.decreases-put_star_case
decreases-put_star_case l = max (3 * size-Head l.head.now) (max (3 * size-Exp l.a.now) (3 * size-Exp l.b.now)) + 2

abbrev pub decreases-put_typed : goal.decreases-put_typed
decreases-put_typed l = 3 * size-Exp l.e.now + 2

abbrev pub decreases-put_bound : goal.decreases-put_bound
decreases-put_bound l = 3 * size-Head l.head.now + 1

abbrev pub decreases-put_subject : goal.decreases-put_subject
decreases-put_subject l = 3 * size-Head l.head.now + 1

abbrev pub decreases-put_arm : goal.decreases-put_arm
decreases-put_arm l = 3 * size-Exp l.e.now + 1

abbrev pub decreases-put_item_arm : goal.decreases-put_item_arm
decreases-put_item_arm l = 3 * size-Exp l.e.now + 1

abbrev pub decreases-put_head : goal.decreases-put_head
decreases-put_head l = 3 * size-Head l.head.now

abbrev pub decreases-put_head_form : goal.decreases-put_head_form
decreases-put_head_form l = 3 * size-HeadForm l.form.now

abbrev pub decreases-put_expressions : goal.decreases-put_expressions
decreases-put_expressions l = 3 * goal.size-put_expressions l + 1
