-- What states are judged by.
use Rattle.std.specs.Prelude.{ℕ, ◌≡◌, List}
use Rattle.core_term.specs.CoreTerm.{CoreBody, core_of}
use Rattle.core_term.specs.Inert.{is_inert_fun}
use Rattle.delta_check.specs.Counting.{counts_in}
use Rattle.kept_check.specs.declared.judge.Judge.{Judge}

-- the functions of the program
abbrev pub funs_of : Judge → List CoreBody
funs_of j = (core_of j.program.now).funs

-- its marks are those of the functions that are inert
abbrev pub IsJudge : Judge → Type 0
IsJudge j = (f : ℕ) → counts_in (funs_of j) j.marks.now f ≡ is_inert_fun (funs_of j) f
