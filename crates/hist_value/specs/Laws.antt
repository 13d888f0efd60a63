-- The laws of historical values and expressions.
use Rattle.std.specs.Prelude.{ℕ, ◌≡◌, ◌↔◌, true, IsTrue, Option, Some}
use Rattle.stream_type.specs.StreamType.{StreamType}
use Rattle.stream_prefix.specs.StreamPrefix.{StreamPrefix, IsPrefix, is_maximal}
use Rattle.hist_value.specs.HistType.{HistType, past}
use Rattle.hist_value.specs.HistValue.{HistValue, HasType}
use Rattle.hist_value.specs.HistExpr.{HistExpr}
use Rattle.hist_value.specs.Evaluate.{value}
use Rattle.hist_value.specs.Typing.{Gives, Agrees}
use Rattle.hist_value.specs.Judge.{judge, good}
use Rattle.hist_value.specs.Renaming.{IsRenaming, AgreeAlong, IsJudgedAlike}
use Rattle.hist_value.specs.FreeNames.{is_free}
use Rattle.hist_value.specs.Wholes.{value_of, full}

-- the value of a whole stream is of the type of the stream's past
abbrev pub ValueHasPast : Type 0
ValueHasPast = (s : StreamType) (p : StreamPrefix) → IsPrefix s p → IsTrue (is_maximal p) → HasType (past s) (value_of p)

-- the whole stream with a value is a prefix of its type
abbrev pub FullIsPrefix : Type 0
FullIsPrefix = (s : StreamType) (v : HistValue) → HasType (past s) v → IsPrefix s (full s v)

-- it is maximal
abbrev pub FullIsMaximal : Type 0
FullIsMaximal = (s : StreamType) (v : HistValue) → HasType (past s) v → IsTrue (is_maximal (full s v))

-- it has that value
abbrev pub ValueOfFull : Type 0
ValueOfFull = (s : StreamType) (v : HistValue) → HasType (past s) v → value_of (full s v) ≡ v

-- and a whole stream is the one with its value
abbrev pub FullOfValue : Type 0
FullOfValue = (s : StreamType) (p : StreamPrefix) → IsPrefix s p → IsTrue (is_maximal p) → full s (value_of p) ≡ p

-- at each name that has a type stands a value of it
abbrev pub HasTypes : (ℕ → Option HistType) → (ℕ → HistValue) → Type 0
HasTypes env past = (x : ℕ) (t : HistType) → env x ≡ Some t → HasType t (past x)

-- an expression that the rules give a type has a value of it
abbrev pub ValueHasType : Type 0
ValueHasType =
    (env : ℕ → Option HistType) (past : ℕ → HistValue) → HasTypes env past → (e : HistExpr) (w : Option HistType) (t : HistType) → Gives env e w t
    → HasType t (value e past)

-- the value of an expression depends on what stands at its free names alone
abbrev pub ValueOfFreeNames : Type 0
ValueOfFreeNames = (e : HistExpr) (p q : ℕ → HistValue) → ((z : ℕ) → is_free z e ≡ true → p z ≡ q z) → value e p ≡ value e q

-- an expression is judged to have a type exactly where the rules give it that type
abbrev pub JudgeIsGives : Type 0
JudgeIsGives = (env : ℕ → Option HistType) (e : HistExpr) (w : Option HistType) (t : HistType) → (judge env e w ≡ good t) ↔ Gives env e w t

-- the rules give an expression at most one type
abbrev pub GivesAtMostOne : Type 0
GivesAtMostOne = (env : ℕ → Option HistType) (e : HistExpr) (w : Option HistType) (t u : HistType) → Gives env e w t → Gives env e w u → t ≡ u

-- a type that they give is the wanted one, where one is wanted
abbrev pub GivesWhatIsWanted : Type 0
GivesWhatIsWanted = (env : ℕ → Option HistType) (e : HistExpr) (w : Option HistType) (t : HistType) → Gives env e w t → Agrees w t

-- what is judged of an expression depends on the types of its free names alone
abbrev pub JudgeOfFreeNames : Type 0
JudgeOfFreeNames = (e : HistExpr) (p q : ℕ → Option HistType) → ((z : ℕ) → is_free z e ≡ true → p z ≡ q z) → (w : Option HistType) → judge p e w ≡ judge q e w

-- expressions that are alike but for names have one value, where the environments agree along the scope
abbrev pub ValueOfRenaming : Type 0
ValueOfRenaming = (scope : ℕ → Option ℕ) (e f : HistExpr) → IsRenaming scope e f → (p q : ℕ → HistValue) → AgreeAlong scope p q → value e p ≡ value f q

-- and the same is judged of them
abbrev pub JudgeOfRenaming : Type 0
JudgeOfRenaming =
    (scope : ℕ → Option ℕ) (e f : HistExpr) → IsRenaming scope e f → (p q : ℕ → Option HistType) → AgreeAlong scope p q → (w : Option HistType)
    → IsJudgedAlike scope p (judge p e w) (judge q f w)

-- so the rules give them the same types
abbrev pub GivesOfRenaming : Type 0
GivesOfRenaming =
    (scope : ℕ → Option ℕ) (e f : HistExpr) → IsRenaming scope e f → (p q : ℕ → Option HistType) → AgreeAlong scope p q
    → (w : Option HistType) (t : HistType) → Gives p e w t ↔ Gives q f w t
