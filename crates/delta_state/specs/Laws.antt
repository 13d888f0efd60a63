-- What the laws of states say.
use Rattle.std.specs.Prelude.{ℕ, ◌≡◌, ◌≤◌, Bool, true, IsTrue, List, None}
use Rattle.std.specs.List.{All}
use Rattle.stream_type.specs.StreamType.{StreamType, null_of}
use Rattle.stream_prefix.specs.StreamPrefix.{emp, is_maximal, IsPrefix, IsPart}
use Rattle.bunch.specs.Names.{holds}
use Rattle.core_term.specs.CoreTerm.{CoreBody, fun_at}
use Rattle.core_term.specs.Environment.{Environment, IsTyped, IsPartAt, IsEmptyOn, IsWholeOn}
use Rattle.core_term.specs.Inert.{is_inert_fun}
use Rattle.core_term.specs.Run.{Run}
use Rattle.core_term.specs.Typing.{Context, types_of, IsTypedBody}
use Rattle.delta_state.specs.StateTree.{StateTree, free_in_state, laters_of}
use Rattle.delta_state.specs.StateMeaning.{run_state}
use Rattle.delta_state.specs.StateTyping.{HasStateType}
use Rattle.delta_state.specs.Settled.{is_settled}

-- a run that gives nothing of a type, and makes no call
pub record GivesNothing (r : StreamType) (a : Run) : Type 0 where
  pub out : a.out ≡ emp r
  pub calls : a.calls ≡ 0
  pub level : a.level ≡ 0

-- a settled typed state gives nothing where nothing comes on its free names, and makes no call
abbrev pub SettledGivesNothing : Type 0
SettledGivesNothing = (funs : List CoreBody) (counts : ℕ → Bool) (c : Context) (s : StateTree) (r : StreamType) (env : Environment)
    → HasStateType funs counts c s r → IsTrue (is_settled s r) → IsEmptyOn (free_in_state s) (types_of c) env
    → GivesNothing r (run_state (fun_at funs) s (types_of c) r env)

-- and where nothing more can come on them, it is finished too
abbrev pub SettledIsFinished : Type 0
SettledIsFinished = (funs : List CoreBody) (counts : ℕ → Bool) (c : Context) (s : StateTree) (r : StreamType)
    → HasStateType funs counts c s r → IsTrue (is_settled s r) → ((x : ℕ) → holds x (free_in_state s) ≡ true → null_of (types_of c x) ≡ true)
    → null_of r ≡ true

-- a state is typed, in a context without historical names, over functions whose bodies are typed
pub record IsTypedState (funs : List CoreBody) (c : Context) (s : StateTree) (r : StreamType) : Type 0 where
  pub funs_typed : All (IsTypedBody funs) funs
  pub none_past : (x : ℕ) → c.past x ≡ None
  pub state_typed : HasStateType funs (is_inert_fun funs) c s r

-- a typed state gives a prefix of its type, where each name has one of its own; a name that isn't in the
-- context counts as of type `eps`
abbrev pub StateIsTyped : Type 0
StateIsTyped = (funs : List CoreBody) (c : Context) (s : StateTree) (r : StreamType) (env : Environment) → IsTypedState funs c s r → IsTyped (types_of c) env
    → IsPrefix r (run_state (fun_at funs) s (types_of c) r env).out

-- on more input it gives no less, and makes no fewer calls
abbrev pub StateGrows : Type 0
StateGrows =
    (funs : List CoreBody) (c : Context) (s : StateTree) (r : StreamType) (env other : Environment) → IsTypedState funs c s r
    → IsTyped (types_of c) env → IsPartAt (types_of c) env other
    → IsPart r (run_state (fun_at funs) s (types_of c) r env).out (run_state (fun_at funs) s (types_of c) r other).out
    × ((run_state (fun_at funs) s (types_of c) r env).calls ≤ (run_state (fun_at funs) s (types_of c) r other).calls)

-- and it gives a whole stream where its free names are whole, if it makes no more calls than the least depth
-- of its code that isn't reached
abbrev pub StateIsWhole : Type 0
StateIsWhole =
    (funs : List CoreBody) (c : Context) (s : StateTree) (r : StreamType) (env : Environment) (n : ℕ) → IsTypedState funs c s r
    → IsTyped (types_of c) env → All (λ l. n ≤ l.depth) (laters_of s)
    → IsWholeOn (free_in_state s) env → (run_state (fun_at funs) s (types_of c) r env).calls ≤ n
    → IsTrue (is_maximal (run_state (fun_at funs) s (types_of c) r env).out)
