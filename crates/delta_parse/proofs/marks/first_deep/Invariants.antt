use Rattle.std.proofs.Common.{◌≡◌, ◌≤◌, take, length}
use Rattle.delta_parse.specs.Terminals.{plains}
use Rattle.delta_parse.specs.Marks.{opened, opened_of, none_open, IsShallow}
use Rattle.delta_parse.proofs.marks.first_deep.Given as goal

abbrev pub invariant-loop-i : goal.invariant-loop-i
invariant-loop-i l = record {
  within : l.i ≤ length l.tokens;
  marks_so_far : opened none_open (take l.i (plains l.tokens)) ≡ opened_of l.marks;
  shallow : IsShallow (plains l.tokens) l.i;
}
