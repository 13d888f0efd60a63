-- The next line is gone through, and the rest of the text is shorter.
use Rattle.std.proofs.Common.{◌∙◌, sym}
use Rattle.core_term.specs.CoreTerm.{core_of}
use Rattle.delta_check.specs.Counting.{counts_in}
use Rattle.delta_derive.specs.OpenTerms.{claims_in}
use Rattle.delta_derive.proofs.Going.{still_within, goes_on}
use Rattle.delta_derive.proofs.checking.take_lines.Goals as goal

pub lines-preserved : goal.lines-preserved
lines-preserved c =
    let funs = (core_of c.args.c.now).funs in
    record {
      within = still_within c.args.text.now c.lines.rest.now c.lines.number c.in-Some.end c.lines.invariant.within (sym c.in-Some.ensures);
      same = goes_on funs (counts_in funs c.args.marks.now) c.lines.number (claims_in c.lines.goals.items) c.lines.rest.now c.in-Some.end (claims_in c.take_piece.new.goals.items) (sym c.in-Some.ensures) c.in-Ok.ensures.on
          ∙ c.lines.invariant.same;
    }
