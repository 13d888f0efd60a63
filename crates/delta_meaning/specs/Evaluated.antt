-- What the evaluator's results stand for.
use Rattle.std.specs.Prelude.{◌+◌, max, Bool, true, false, ◌&&◌, ◌||◌, List, [], ◌∷◌, ◌++◌, map}
use Rattle.stream_type.specs.StreamType.{StreamType}
use Rattle.stream_prefix.specs.StreamPrefix.{StreamPrefix, emp, is_maximal}
use Rattle.stream_prefix.specs.Tree.{prefix_of}
use Rattle.hist_value.specs.HistValue.{HistValue, left_of}
use Rattle.core_term.specs.Run.{Run, Runs, quiet}
use Rattle.delta_meaning.specs.declared.parts.Taken.{Taken}
use Rattle.delta_meaning.specs.declared.parts.Taken.TheVariants.{Nothing, Over, Item}
use Rattle.delta_meaning.specs.declared.parts.Sided.{Sided}
use Rattle.delta_meaning.specs.declared.parts.Sided.TheVariants.{Nothing as Unsided, Left, Right}
use Rattle.delta_meaning.specs.declared.evaluated.Evaluated.{Evaluated}
use Rattle.delta_meaning.specs.declared.evaluated.Arguments.{Arguments}

-- whether a value is one of the left side of a sum
abbrev pub is_left : HistValue → Bool
is_left (left_of v) = true
is_left _ = false

-- the run that a result stands for
abbrev pub run_of : Evaluated → Run
run_of a = record { out = prefix_of a.output; calls = a.calls; level = a.level }

-- the runs of arguments that a result stands for
abbrev pub runs_of : Arguments → Runs
runs_of as' = record { outs = map prefix_of as'.outputs.items; calls = as'.calls; level = as'.level; are_shut = as'.are_shut }

-- one more argument after others
abbrev pub runs_after : Runs → Bool → Run → Runs
runs_after as' is_name a =
    record {
      outs = as'.outs ++ a.out ∷ [];
      calls = as'.calls + a.calls;
      level = max as'.level a.level;
      are_shut = as'.are_shut
          && (is_name || is_maximal a.out);
    }

-- more arguments after others
abbrev pub runs_joined : Runs → Runs → Runs
runs_joined as' bs =
    record { outs = as'.outs ++ bs.outs; calls = as'.calls + bs.calls; level = max as'.level bs.level; are_shut = as'.are_shut && bs.are_shut }

-- by what has come of a sum: nothing, or the branch of the side that is chosen, with what has come on it
abbrev pub sided_run : Sided → StreamType → (StreamPrefix → Run) → (StreamPrefix → Run) → Run
sided_run Unsided r a b = quiet (emp r)
sided_run (Left p) r a b = a (prefix_of p.now)
sided_run (Right p) r a b = b (prefix_of p.now)

-- by what has come of a star: nothing, the branch of its end, or that of an item with the item and the rest
abbrev pub taken_run : Taken → StreamType → Run → (StreamPrefix → StreamPrefix → Run) → Run
taken_run Nothing r a b = quiet (emp r)
taken_run Over r a b = a
taken_run (Item p q) r a b = b (prefix_of p) (prefix_of q)

-- the first of some types, or else t
abbrev pub first_type : StreamType → List StreamType → StreamType
first_type t [] = t
first_type t (s ∷ ss) = s

-- the others
abbrev pub other_types : List StreamType → List StreamType
other_types [] = []
other_types (t ∷ ts) = ts
