-- What is found as the states of a kept state are gone through in turn.
use Rattle.std.specs.Prelude.{ℕ, zero, suc, ◌≡◌, ◌+◌, ⊤, List, [], ◌∷◌, ◌++◌, length, Result, Ok, Err, OnOk}
use Rattle.core_term.specs.CoreTerm.{CoreBody}
use Rattle.kept_rules.specs.InTurn.{StateAt, own_names}
use Rattle.kept_rules.specs.StateRules.{IsGood, AreGood}
use Rattle.kept_check.specs.declared.stop.Stop.{Stop}
use Rattle.kept_check.specs.declared.stop.Stop.TheVariants.{Memory, At}

-- the state with this number isn't, and those before it are
abbrev pub IsFirstBad : List CoreBody → ℕ → List StateAt → ℕ → Type 0
IsFirstBad funs depth [] i = ⊥
IsFirstBad funs depth (j ∷ js) zero = IsGood funs depth j → ⊥
IsFirstBad funs depth (j ∷ js) (suc i) = IsGood funs depth j × IsFirstBad funs depth js i

-- what is answered of states that are numbered from n: the number after them where each is good, and else the first
-- that isn't
abbrev pub FindsBad : List CoreBody → ℕ → ℕ → List StateAt → Result ℕ Stop → Type 0
FindsBad funs depth n js (Ok next) = AreGood funs depth js × (next ≡ n + length js)
FindsBad funs depth n js (Err Memory) = ⊤
FindsBad funs depth n js (Err (At m)) = (i : ℕ) × (m ≡ n + i) × IsFirstBad funs depth js i

-- the same, where `old` are the names that are bound before these states, and `new` those that are bound then: where
-- each is good, these names are bound behind the old ones
pub record Finds (funs : List CoreBody) (depth n : ℕ) (js : List StateAt) (old names new : List ℕ) (r : Result ℕ Stop) : Type 0 where
  pub found : FindsBad funs depth n js r
  pub bound : OnOk r (new ≡ old ++ names)

-- what is answered of one state for itself, which has the number n, and which names are bound then
abbrev pub ChecksOwn : {A : Type 0} → List CoreBody → ℕ → ℕ → StateAt → List ℕ → Result A Stop → Type 0
ChecksOwn funs depth n j new (Ok _) = IsGood funs depth j × (new ≡ j.before ++ own_names j.state)
ChecksOwn funs depth n j new (Err Memory) = ⊤
ChecksOwn funs depth n j new (Err (At m)) = (m ≡ n) × (IsGood funs depth j → ⊥)
