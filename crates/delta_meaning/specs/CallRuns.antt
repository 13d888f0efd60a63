-- What calls give, which answers to them are right, and what is known where one is put off.
use Rattle.std.specs.Prelude.{ℕ, ◌≡◌, ◌<◌, map, All}
use Rattle.std.specs.declared.alloc.Global.{Global}
use Rattle.std.specs.declared.boxed.Box.{Box}
use Rattle.stream_prefix.specs.Tree.{prefix_of}
use Rattle.hist_value.specs.HistValue.{hist_value_of}
use Rattle.core_term.specs.Run.{Run}
use Rattle.delta_meaning.specs.SourceBody.{SourceBody}
use Rattle.delta_meaning.specs.SourceMeaning.{source_call_at}
use Rattle.delta_meaning.specs.Evaluated.{run_of}
use Rattle.delta_meaning.specs.declared.calls.Call.{Call}
use Rattle.delta_meaning.specs.declared.calls.Answer.{Answer}
use Rattle.delta_meaning.specs.declared.pause.Pause.{Pause}
use Rattle.delta_meaning.specs.declared.pause.Pause.TheVariants.{PutOff}
use Rattle.delta_meaning.specs.declared.rounds.Rounds.{Rounds}

module _ (functions : ℕ → SourceBody) where
  -- what a call gives
  abbrev pub given : Call → Run
  given c = source_call_at functions c.depth c.function.0 (map hist_value_of c.values.items) (map prefix_of c.streams.items)

  -- an answer is right where its run is what its call gives
  abbrev pub IsRight : Answer → Type 0
  IsRight a = run_of a.run ≡ given a.call

  -- a call is one of some calls, of which so many are left: where it makes more than are left for it, they are
  -- more than are left
  abbrev pub IsAmong : ℕ → ℕ → Call → Type 0
  IsAmong left calls c = c.left < (given c).calls → left < calls

  -- an evaluation that stops at a call, stops at one of its own calls
  abbrev pub StopsAmong : ℕ → ℕ → Pause → Type 0
  StopsAmong left calls s = (c : Box Call Global) → s ≡ PutOff c → IsAmong left calls c.value

  -- between two rounds: the calls that wait are among those of the whole, and the answers are right
  pub record IsUnderWay (left calls : ℕ) (r : Rounds) : Type 0 where
    pub waiting : All (λ w. IsAmong left calls w.call) r.waiting.items
    pub answers : All IsRight r.answers.items
