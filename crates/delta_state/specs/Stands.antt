-- What it is for a state to stand for a program after some of its input has come.
--
-- Choices that are not obvious:
-- - A state is compared with the one-shot meaning of the whole program on the whole input: what came and
--   what comes. Nothing here knows how the state was reached.
-- - The budget of calls is renewed at each event. So it isn't told how many calls were made before; it is
--   told that the calls of the state rise no more than those of the program do, and, since a settled state
--   makes no call on nothing, that they are no more than those that the program makes beyond what came.
-- - Levels don't grow with the input, so they are compared at each input and not as differences.
-- - Code that isn't reached keeps some depth, so that no call that the budget allows stands at depth 0.
use Rattle.std.specs.Prelude.{ℕ, pred, ◌+◌, ◌-◌, ◌*◌, ◌^◌, ◌≤◌, ◌≡◌, IsTrue, Some, None, if◌then◌else◌}
use Rattle.std.specs.List.{All}
use Rattle.stream_type.specs.StreamType.{StreamType}
use Rattle.stream_prefix.specs.StreamPrefix.{StreamPrefix, IsPrefix, der, join}
use Rattle.bunch.specs.Names.{holds}
use Rattle.bunch.specs.BunchTree.{as_type, leaf_names, stands_before}
use Rattle.core_term.specs.CoreTerm.{CoreProgram, fun_at}
use Rattle.core_term.specs.Environment.{left_at}
use Rattle.core_term.specs.Agreement.{types_in}
use Rattle.core_term.specs.Split.{split, split_after}
use Rattle.core_term.specs.Inert.{is_inert_fun}
use Rattle.core_term.specs.Run.{Run}
use Rattle.core_term.specs.Meaning.{mean, calls_of, level_of}
use Rattle.core_term.specs.Typing.{Context}
use Rattle.delta_state.specs.StateTree.{StateTree, laters_of}
use Rattle.delta_state.specs.StateMeaning.{run_state}
use Rattle.delta_state.specs.StateTyping.{HasStateType, no_pasts}
use Rattle.delta_state.specs.Settled.{is_settled}

-- the type of a program's input
abbrev pub input_type : CoreProgram → StreamType
input_type c = as_type c.main.params

-- what is left of the type of a program's output, after the input p
abbrev pub output_left : CoreProgram → StreamPrefix → StreamType
output_left c p = der (mean c p) c.main.result

-- main's parameters in their order, with what is left of their types after the input p
abbrev pub context_after : CoreProgram → StreamPrefix → Context
context_after c p =
    record {
      types = λ x. if holds x (leaf_names c.main.params) then Some (left_at (split c.main.params p) (types_in c.main.params) x) else None;
      order = stands_before c.main.params;
      past = no_pasts;
    }

-- the run of a state on what comes after the input p
abbrev pub rest_run : CoreProgram → StreamPrefix → StateTree → StreamPrefix → Run
rest_run c p s q = run_state (fun_at c.funs) s (left_at (split c.main.params p) (types_in c.main.params)) (output_left c p) (split_after c.main.params p q)

-- what a state gives on what comes after the input p, the calls that it makes, and the greatest level of one
abbrev pub rest_mean : CoreProgram → StreamPrefix → StateTree → StreamPrefix → StreamPrefix
rest_mean c p s q = (rest_run c p s q).out

abbrev pub rest_calls : CoreProgram → StreamPrefix → StateTree → StreamPrefix → ℕ
rest_calls c p s q = (rest_run c p s q).calls

abbrev pub rest_level : CoreProgram → StreamPrefix → StateTree → StreamPrefix → ℕ
rest_level c p s q = pred (rest_run c p s q).level

-- the state stands for the program after the input p, and each code in it that isn't reached has a depth of n or more
pub record StandsFor (c : CoreProgram) (n : ℕ) (p : StreamPrefix) (s : StateTree) : Type 0 where
  pub is_typed : HasStateType c.funs (is_inert_fun c.funs) (context_after c p) s (output_left c p)
  pub settled : IsTrue (is_settled s (output_left c p))
  pub is_deep : All (λ l. n ≤ l.depth) (laters_of s)
  -- on all that may come it gives what the program gives beyond what it gave on p
  pub gives_rest : (q : StreamPrefix) → IsPrefix (der p (input_type c)) q → mean c (join p q) ≡ join (mean c p) (rest_mean c p s q)
  -- it makes no more calls than the program makes beyond those on p
  pub calls_rest : (q : StreamPrefix) → IsPrefix (der p (input_type c)) q → calls_of c p + rest_calls c p s q ≤ calls_of c (join p q)
  -- as more comes, its calls rise no more than the program's
  pub calls_rise : (q r : StreamPrefix) → IsPrefix (der p (input_type c)) q → IsPrefix (der q (der p (input_type c))) r
      → calls_of c (join p q) + rest_calls c p s (join q r) ≤ calls_of c (join p (join q r)) + rest_calls c p s q
  -- no call stands at a greater level than the greatest of the program
  pub levels_below : (q : StreamPrefix) → IsPrefix (der p (input_type c)) q → rest_level c p s q ≤ level_of c (join p q)

-- the depth that is left after so many events, of 2^42 at most, with a million calls at each of them
abbrev pub depth_after : ℕ → ℕ
depth_after events = (2 ^ 42 - events) * 1000000
