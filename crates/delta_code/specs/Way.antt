-- The way to a call that stands at the level of the whole: what is gained before it, and what stands round it.
use Rattle.std.specs.Prelude.{ℕ, ◌+◌, max, List, map}
use Rattle.stream_type.specs.StreamType.{type_of}
use Rattle.stream_prefix.specs.StreamPrefix.{StreamPrefix}
use Rattle.stream_prefix.specs.Tree.{prefix_of, star_of}
use Rattle.hist_value.specs.HistValue.{hist_value_of}
use Rattle.core_term.specs.Run.{Run}
use Rattle.core_term.specs.Meaning.{call_at}
use Rattle.delta_state.specs.StateTree.{StateTree, let_state, let_par_state, let_cat_state, frame_state}
use Rattle.delta_state.specs.Rest.{call_rest_at}
use Rattle.template_state.specs.declared.code.Code.{Code}
use Rattle.template_state.specs.Readers.{state_in, arguments_in}
use Rattle.delta_code.specs.declared.way.Layers.{Layers}
use Rattle.delta_code.specs.declared.way.Layers.TheVariants.{None, Let', Pair', Row', Frame'}
use Rattle.delta_code.specs.declared.way.Way.{Way}
use Rattle.delta_code.specs.declared.way.Reached.{Reached}
use Rattle.delta_code.specs.declared.way.Reached.TheVariants.{Given, Call}
use Rattle.delta_code.specs.Begun.{run_of, rest_of}
use Rattle.delta_code.specs.Steps.{funs_of}

-- a state with what stands round it, from the inside out
abbrev pub within : Layers → StateTree → StateTree
within None s = s
within (Let' x t a q outer) s = within outer (let_state x.0 (type_of t) (state_in a.value) s)
within (Pair' x y z q outer) s = within outer (let_par_state x.0 y.0 z.0 s)
within (Row' x y z q outer) s = within outer (let_cat_state x.0 y.0 z.0 s)
within (Frame' args q outer) s = within outer (frame_state (arguments_in args.value) s)

-- a run behind whole items and so many calls at this level
unfoldable pub gained : List StreamPrefix → ℕ → ℕ → Run → Run
gained items calls level a = record { out = star_of items a.out; calls = calls + a.calls; level = max level a.level }

-- a run at the end of a way
abbrev pub after : Way → Run → Run
after w a = gained (map prefix_of w.items.items) w.calls w.level a

-- the run of what was reached, where calls may be so deep, and what is left of it
abbrev pub reached_run : Code → ℕ → Reached → Run
reached_run c k (Given b) = run_of b
reached_run c k (Call f vs ps) = call_at (funs_of c) k f (map hist_value_of vs.items) (map prefix_of ps.items)

abbrev pub reached_rest : Code → ℕ → Reached → StateTree
reached_rest c k (Given b) = rest_of b
reached_rest c k (Call f vs ps) = call_rest_at (funs_of c) k f (map hist_value_of vs.items) (map prefix_of ps.items)

-- the calls that were made in it, and their level
abbrev pub reached_calls : Reached → ℕ
reached_calls (Given b) = b.calls
reached_calls (Call f vs ps) = 0

abbrev pub reached_level : Reached → ℕ
reached_level (Given b) = b.level
reached_level (Call f vs ps) = 0
