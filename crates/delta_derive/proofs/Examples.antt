-- Worked examples: lines, steps, and the first fault of some derivations of `(x; y)` and of a let.
use Rattle.std.proofs.Common.{◌≡◌, false, [], ◌∷◌, ◌++◌, Some, None, refl}
use Rattle.std.specs.Prelude.{codes, Option}
use Rattle.stream_type.specs.StreamType.{StreamType, int, one, cat}
use Rattle.bunch.specs.BunchTree.{BunchTree, empty, leaf, comma, semi}
use Rattle.core_term.specs.CoreTerm.{CoreTerm, var_term, unit_term, cat_term, let_term}
use Rattle.bunch_rules.specs.Rearranging.{to_left, to_right, drop_step, swap_step, loosen_step, unit_step}
use Rattle.bunch_rules.specs.Written.{plain_rule, rule_at, step_at}
use Rattle.delta_derive.specs.declared.fault.DeriveFault.{DeriveFault}
use Rattle.delta_derive.specs.declared.fault.DeriveFault.TheVariants.{BadLine, BadStep, BadRule, Short, Long}
use Rattle.delta_derive.specs.LineText.{line_in, lines_in}
use Rattle.delta_derive.specs.Rearranged.{rearranged}
use Rattle.delta_derive.specs.Claims.{claim}
use Rattle.delta_derive.specs.FirstFault.{TextLines, first_from}

-- a rule, a rule at the end of a path, and a step at the root
rule_line : line_in (codes "rule") ≡ Some plain_rule
rule_line = refl

rule_at_line : line_in (codes "rule lr") ≡ Some (rule_at (to_left ∷ (to_right ∷ [])))
rule_at_line = refl

step_line : line_in (codes "loosen .") ≡ Some (step_at loosen_step [])
step_line = refl

-- a step wants a path, and there is one space
bare_step : line_in (codes "drop") ≡ None
bare_step = refl

open_rule : line_in (codes "rule ") ≡ None
open_rule = refl

two_spaces : line_in (codes "rule  .") ≡ None
two_spaces = refl

-- each line is ended
no_line : lines_in [] ≡ []
no_line = refl

ended : lines_in (codes "rule" ++ (10 ∷ [])) ≡ Some plain_rule ∷ []
ended = refl

not_ended : lines_in (codes "rule") ≡ None ∷ []
not_ended = refl

abbrev x_then_y : BunchTree
x_then_y = semi (leaf 0 int) (leaf 1 int)

-- what stands before is put beside, and only then changes places
loosened : rearranged loosen_step [] x_then_y ≡ Some (comma (leaf 0 int) (leaf 1 int))
loosened = refl

not_swapped : rearranged swap_step [] x_then_y ≡ None
not_swapped = refl

-- a part is dropped, and the empty side goes away
dropped : rearranged drop_step (to_left ∷ []) x_then_y ≡ Some (semi empty (leaf 1 int))
dropped = refl

taken_away : rearranged unit_step [] (semi empty (leaf 1 int)) ≡ Some (leaf 1 int)
taken_away = refl

-- no part stands below a name
no_part : rearranged drop_step (to_left ∷ (to_left ∷ [])) x_then_y ≡ None
no_part = refl

-- the first fault of lines, where a bunch is to derive a term
abbrev told : BunchTree → CoreTerm → StreamType → TextLines → Option DeriveFault
told g e r ls = first_from [] (λ _. false) 0 (claim (λ _. None) g e r ∷ []) ls

abbrev three : TextLines
three = Some plain_rule ∷ (Some plain_rule ∷ (Some plain_rule ∷ []))

abbrev in_turn : CoreTerm
in_turn = cat_term (var_term 0) (var_term 1)

-- `(x; y)` from `x ; y` has three rules, and from `x , y` not even the first
three_rules : told x_then_y in_turn (cat int int) three ≡ None
three_rules = refl

side_by_side : told (comma (leaf 0 int) (leaf 1 int)) in_turn (cat int int) three ≡ Some (BadRule 0)
side_by_side = refl

-- a line too few, a line too many, a line that is none, and a step that isn't there
too_short : told x_then_y in_turn (cat int int) (Some plain_rule ∷ []) ≡ Some (Short 1)
too_short = refl

too_long : told (leaf 0 int) (var_term 0) int three ≡ Some (Long 1)
too_long = refl

a_bad_line : told (leaf 0 int) (var_term 0) int (Some plain_rule ∷ (None ∷ [])) ≡ Some (BadLine 1)
a_bad_line = refl

a_bad_step : told x_then_y in_turn (cat int int) (Some (step_at swap_step []) ∷ three) ≡ Some (BadStep 0)
a_bad_step = refl

-- `()` isn't inert at `1`: its name may stand beside all, but not right of the semicolon
abbrev a_let : CoreTerm
a_let = let_term 2 one unit_term (var_term 2)

beside_all : told x_then_y a_let one (Some (rule_at []) ∷ (Some plain_rule ∷ (Some plain_rule ∷ []))) ≡ None
beside_all = refl

behind : told x_then_y a_let one (Some (rule_at (to_right ∷ [])) ∷ []) ≡ Some (BadRule 0)
behind = refl
