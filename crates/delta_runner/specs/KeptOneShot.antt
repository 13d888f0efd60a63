-- A kept state as what it gives on the whole of what comes since, and what it then means to the loop.
--
-- Choices that are not obvious:
-- - What is written goes on from what was written before the state was kept. So no header is written, and nothing comes
--   first: a settled state gives nothing before anything more has come.
use Rattle.std.specs.Prelude.{ℕ, None}
use Rattle.event_frame.specs.declared.version.Version.{Version}
use Rattle.core_term.specs.CoreTerm.{CoreProgram}
use Rattle.kept_state.specs.KeptTree.{KeptTree}
use Rattle.kept_state.specs.KeptMeaning.{input_kept, mean_kept, calls_kept, level_kept}
use Rattle.delta_loop.specs.Meaning.{Meaning}
use Rattle.delta_session.specs.OneShot.{OneShot}
use Rattle.delta_output.specs.LoopMeaning.{meaning_under}

-- what it gives, the calls that it makes, and the greatest level of one
abbrev pub one_shot_kept : CoreProgram → KeptTree → OneShot
one_shot_kept c k = record { input = input_kept c k; result = k.out; gives = mean_kept c k; calls = calls_kept c k; level = level_kept c k }

-- what it means to the loop, in a version and with so many calls at each event
abbrev pub meaning_since : Version → ℕ → CoreProgram → KeptTree → Meaning
meaning_since v budget c k = meaning_under None v budget (one_shot_kept c k)
