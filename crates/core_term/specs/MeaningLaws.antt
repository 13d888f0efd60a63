-- The laws of what core terms and programs mean.
--
-- Those on terms hold at each depth and in each context; those on programs speak of `program_run`, which
-- begins at the depth `horizon`.
use Rattle.std.specs.Prelude.{ℕ, pred, ◌≡◌, ◌≤◌, true, List, Some, IsTrue}
use Rattle.std.specs.List.{All}
use Rattle.stream_type.specs.StreamType.{StreamType}
use Rattle.stream_prefix.specs.StreamPrefix.{StreamPrefix, emp, is_maximal, IsPrefix, IsPart}
use Rattle.bunch.specs.Names.{holds}
use Rattle.bunch.specs.BunchTree.{as_type}
use Rattle.hist_value.specs.Renaming.{AgreeAlong}
use Rattle.hist_value.specs.Laws.{HasTypes}
use Rattle.core_term.specs.CoreTerm.{CoreTerm, CoreBody, CoreProgram, fun_at}
use Rattle.core_term.specs.FreeNames.{free_names, IsCore}
use Rattle.core_term.specs.FreePast.{is_free_past}
use Rattle.core_term.specs.Environment.{Environment, NameTypes, IsWholeOn, IsEmptyOn}
use Rattle.core_term.specs.Inert.{is_inert, is_inert_fun}
use Rattle.core_term.specs.Meaning.{Past, run_at, horizon, no_past, program_run, mean, calls_of, level_of}
use Rattle.core_term.specs.Level.{level_at}
use Rattle.core_term.specs.Agreement.{types_in}
use Rattle.core_term.specs.Split.{split}
use Rattle.core_term.specs.Renaming.{Scope, IsRenamedTerm, IsRenamedProgram}
use Rattle.core_term.specs.Typing.{Context, HasType, IsTypedBody, IsTypedCore}

-- a term's run, that is its prefix, its calls and their level, depends on its free stream names with their
-- types and on its free historical names alone
abbrev pub RunOfFreeNames : Type 0
RunOfFreeNames =
    (funs : ℕ → CoreBody) (k : ℕ) (e : CoreTerm) (types other_types : NameTypes) (r : StreamType) (env other_env : Environment) (past other_past : Past)
    → ((x : ℕ) → holds x (free_names e) ≡ true → (types x ≡ other_types x) × (env x ≡ other_env x))
    → ((z : ℕ) → is_free_past z e ≡ true → past z ≡ other_past z)
    → run_at funs k e types r env past ≡ run_at funs k e other_types r other_env other_past

-- what a term is run on fits a context: each stream variable has its type among those given and a prefix of
-- it, and each historical variable a value of its type. What stands at other names is free
pub record FitsContext (c : Context) (types : NameTypes) (env : Environment) (past : Past) : Type 0 where
  pub has_types : (x : ℕ) (s : StreamType) → c.types x ≡ Some s → types x ≡ s
  pub has_prefixes : (x : ℕ) (s : StreamType) → c.types x ≡ Some s → IsPrefix s (env x)
  pub has_values : HasTypes c.past past

-- of each stream variable no less has come in the other environment
abbrev pub IsPartOver : Context → Environment → Environment → Type 0
IsPartOver c env other = (x : ℕ) (s : StreamType) → c.types x ≡ Some s → IsPart s (env x) (other x)

-- each function's body has its result's type, and so has the term in its context
pub record IsTypedTerm (funs : List CoreBody) (c : Context) (e : CoreTerm) (r : StreamType) : Type 0 where
  pub funs_typed : All (IsTypedBody funs) funs
  pub term_typed : HasType funs (is_inert_fun funs) c e r

-- a typed term gives a prefix of its type
abbrev pub RunIsTyped : Type 0
RunIsTyped =
    (funs : List CoreBody) (k : ℕ) (c : Context) (e : CoreTerm) (r : StreamType) → IsTypedTerm funs c e r
    → (types : NameTypes) (env : Environment) (past : Past) → FitsContext c types env past
    → IsPrefix r (run_at (fun_at funs) k e types r env past).out

-- a typed program gives a prefix of its result's type
abbrev pub MeanIsTyped : Type 0
MeanIsTyped = (c : CoreProgram) → IsCore c → IsTypedCore c → (p : StreamPrefix) → IsPrefix (as_type c.main.params) p → IsPrefix c.main.result (mean c p)

-- a typed term gives no less on more input, and makes no fewer calls
abbrev pub RunGrows : Type 0
RunGrows =
    (funs : List CoreBody) (k : ℕ) (c : Context) (e : CoreTerm) (r : StreamType) → IsTypedTerm funs c e r
    → (types : NameTypes) (env other : Environment) (past : Past) → FitsContext c types env past → IsPartOver c env other
    → IsPart r (run_at (fun_at funs) k e types r env past).out (run_at (fun_at funs) k e types r other past).out
    × ((run_at (fun_at funs) k e types r env past).calls ≤ (run_at (fun_at funs) k e types r other past).calls)

-- so does a typed program
abbrev pub MeanGrows : Type 0
MeanGrows =
    (c : CoreProgram) → IsCore c → IsTypedCore c → (p q : StreamPrefix) → IsPrefix (as_type c.main.params) p → IsPart (as_type c.main.params) p q
    → IsPart c.main.result (mean c p) (mean c q) × (calls_of c p ≤ calls_of c q)

-- a typed term gives a whole stream where its free stream names are whole and it makes no more calls than
-- its depth, so that none of them stands at depth 0
abbrev pub RunIsWhole : Type 0
RunIsWhole =
    (funs : List CoreBody) (k : ℕ) (c : Context) (e : CoreTerm) (r : StreamType) → IsTypedTerm funs c e r
    → (types : NameTypes) (env : Environment) (past : Past) → FitsContext c types env past
    → IsWholeOn (free_names e) env → (run_at (fun_at funs) k e types r env past).calls ≤ k → IsTrue (is_maximal (run_at (fun_at funs) k e types r env past).out)

-- a typed program gives a whole stream on a whole one, where its calls stay within the horizon
abbrev pub MeanIsWhole : Type 0
MeanIsWhole =
    (c : CoreProgram) → IsCore c → IsTypedCore c → (p : StreamPrefix) → IsPrefix (as_type c.main.params) p → IsTrue (is_maximal p)
    → calls_of c p ≤ horizon → IsTrue (is_maximal (mean c p))

-- the body of an inert function is inert, where the inert functions count as such
abbrev pub InertBodies : Type 0
InertBodies =
    (funs : List CoreBody) (f : ℕ) → is_inert_fun funs f ≡ true → is_inert (fun_at funs) (is_inert_fun funs) (fun_at funs f).body (fun_at funs f).result ≡ true

-- a typed inert term gives nothing where nothing has come on its free stream names; it may make calls
abbrev pub InertGivesNothing : Type 0
InertGivesNothing =
    (funs : List CoreBody) (k : ℕ) (c : Context) (e : CoreTerm) (r : StreamType) → IsTypedTerm funs c e r
    → is_inert (fun_at funs) (is_inert_fun funs) e r ≡ true
    → (types : NameTypes) (env : Environment) (past : Past) → FitsContext c types env past → IsEmptyOn (free_names e) types env
    → (run_at (fun_at funs) k e types r env past).out ≡ emp r

-- a typed program whose body is inert gives nothing before anything has come
abbrev pub InertMainGivesNothing : Type 0
InertMainGivesNothing =
    (c : CoreProgram) → IsCore c → IsTypedCore c → is_inert (fun_at c.funs) (is_inert_fun c.funs) c.main.body c.main.result ≡ true
    → mean c (emp (as_type c.main.params)) ≡ emp c.main.result

-- the level of a run, which is counted from below, is the one that is counted from above where the term
-- stands at level 0
abbrev pub LevelIsFromAbove : Type 0
LevelIsFromAbove =
    (funs : ℕ → CoreBody) (k : ℕ) (e : CoreTerm) (types : NameTypes) (r : StreamType) (env : Environment) (past : Past)
    → level_at funs k e types r env past 0 ≡ pred (run_at funs k e types r env past).level

-- so is a program's
abbrev pub MeanLevelIsFromAbove : Type 0
MeanLevelIsFromAbove =
    (c : CoreProgram) (p : StreamPrefix)
    → level_at (fun_at c.funs) horizon c.main.body (types_in c.main.params) c.main.result (split c.main.params p) no_past 0 ≡ level_of c p

-- terms that are alike but for names run alike, where the same stands at each name and at its number
abbrev pub RenamedRun : Type 0
RenamedRun =
    (funs : ℕ → CoreBody) (k : ℕ) (names pasts : Scope) (e o : CoreTerm) → IsRenamedTerm names pasts e o
    → (types other_types : NameTypes) (r : StreamType) (env other_env : Environment) (past other_past : Past)
    → AgreeAlong names types other_types → AgreeAlong names env other_env → AgreeAlong pasts past other_past
    → run_at funs k e types r env past ≡ run_at funs k o other_types r other_env other_past

-- programs that are alike but for names run alike, where the second binds each name once
abbrev pub RenamedProgramRun : Type 0
RenamedProgramRun =
    (c d : CoreProgram) → IsCore d → IsRenamedProgram c d → (p : StreamPrefix) → program_run c p ≡ program_run d p
