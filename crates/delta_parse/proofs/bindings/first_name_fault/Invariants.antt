use Rattle.std.proofs.Common.{◌≡◌, ◌≤◌, take, length}
use Rattle.delta_parse.specs.Terminals.{plains}
use Rattle.delta_parse.specs.Bindings.{bound, bound_of, none_bound, AreNamed}
use Rattle.delta_parse.proofs.bindings.first_name_fault.Given as goal

abbrev pub invariant-loop-i : goal.invariant-loop-i
invariant-loop-i l = record {
  within : l.i ≤ length l.tokens;
  bound_so_far : bound none_bound (take l.i (plains l.tokens)) ≡ bound_of l.bindings;
  named : AreNamed (plains l.tokens) l.i;
}
