-- The lines so far were gone through, so the rest decide; and there are no more of them than bytes.
use Rattle.std.proofs.Common.{◌≡◌, ◌+◌, ◌≤◌, length}
use Rattle.core_term.specs.CoreTerm.{core_of}
use Rattle.delta_check.specs.Counting.{counts_in}
use Rattle.delta_derive.specs.LineText.{lines_in}
use Rattle.delta_derive.specs.OpenTerms.{claims_in}
use Rattle.delta_derive.specs.FirstFault.{first_from}
use Rattle.delta_derive.proofs.checking.take_lines.Given as goal

abbrev pub invariant-lines : goal.invariant-lines
invariant-lines l = record {
  within : l.number + length l.rest ≤ length l.text;
  same : first_from (core_of l.c).funs (counts_in (core_of l.c).funs l.marks) l.number (claims_in l.goals.items) (lines_in l.rest)
      ≡ first_from (core_of l.c).funs (counts_in (core_of l.c).funs l.marks) 0 (claims_in l.initial.goals.items) (lines_in l.text);
}

abbrev pub decreases-lines : goal.decreases-lines
decreases-lines l = length l.rest
