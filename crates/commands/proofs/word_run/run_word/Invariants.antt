-- So much of the word was taken, and what stands there is what the program says of it.
use Rattle.std.proofs.Common.{take}
use Rattle.core_term.specs.CoreTerm.{core_of}
use Rattle.delta_session.specs.Programs.{IsRunning, course_of, one_shot}
use Rattle.delta_session.specs.Standing.{Stands}
use Rattle.commands.proofs.OnTheWord.{Says}
use Rattle.commands.proofs.word_run.run_word.Given as goal

abbrev pub invariant-loop-at : goal.invariant-loop-at
invariant-loop-at g l = record {
  stands : Stands (IsRunning g.M.Machine.seen g.M.Machine.stands) l.session (course_of (core_of l.checked) l.budget) (take l.at l.word);
  says : Says (one_shot (core_of l.checked)) (take l.at l.word) l.said.items;
}
