-- What the law of sessions says that go on from what was kept of a program.
--
-- Choices that are not obvious:
-- - The contracts of a session ask nothing of how the kept state came to be. Where it was kept of a program after a
--   word (`IsKept` in `kept_state`, which `to_kept` of a machine answers), the program's own meaning tells all of it.
-- - That the program's output goes on by the kept state's (`IsKept`) doesn't tell the type of what is left of it: what
--   is joined behind a whole prefix is dropped. So that type is a premise of its own.
use Rattle.std.specs.Prelude.{◌≡◌, ℕ, List, [], ◌∷◌, ◌++◌}
use Rattle.event_word.specs.StreamEvent.{StreamEvent}
use Rattle.event_word.specs.Word.{IsWord, after_word}
use Rattle.core_term.specs.CoreTerm.{CoreProgram}
use Rattle.delta_state.specs.MachineView.{input_of, answer_to, IsCostly, IsDeep}
use Rattle.delta_state.specs.Stands.{input_type, output_left}
use Rattle.delta_session.specs.Programs.{CanRun}
use Rattle.kept_state.specs.KeptTree.{KeptTree}
use Rattle.kept_state.specs.KeptMeaning.{input_kept}
use Rattle.kept_state.specs.Laws.{IsKept}
use Rattle.machine_kept.specs.SinceView.{answer_since, IsCostlySince, IsDeepSince}

-- the kept state, of which this word came since, is to an event what the program is after the word before and this one
pub record IsAsProgram (c : CoreProgram) (k : KeptTree) (before word : List StreamEvent) (x : StreamEvent) : Type 0 where
  -- it awaits the same,
  pub awaits : after_word word (input_kept c k) ≡ after_word (before ++ word) (input_type c)
  -- says the same to the event,
  pub answers : answer_since c k word x ≡ answer_to c (before ++ word) x
  -- and an event that makes too many calls, or one at too great a level, does so in the program
  pub costly : (n : ℕ) → IsCostlySince c k n word x → IsCostly c n (before ++ word) x
  pub deep : (n : ℕ) → IsDeepSince c k n word x → IsDeep c n (before ++ word) x

-- so is what was kept of the program after the word before
abbrev pub GoesOnAsProgram : Type 0
GoesOnAsProgram =
    (c : CoreProgram) (k : KeptTree) (before word : List StreamEvent) (x : StreamEvent) → CanRun c → IsWord (input_type c) before
    → IsKept c (input_of c before) k → k.out ≡ output_left c (input_of c before) → IsWord (input_kept c k) (word ++ x ∷ [])
    → IsAsProgram c k before word x
