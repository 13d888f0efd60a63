-- What the laws of the first untyped state say.
use Rattle.std.specs.Prelude.{ℕ, ◌≡◌, ◌↔◌, Some, slice_get}
use Rattle.core_term.specs.CoreTerm.{CoreProgram}
use Rattle.kept_state.specs.KeptTree.{KeptTree}
use Rattle.kept_state.specs.KeptTyping.{IsTypedKept}
use Rattle.kept_rules.specs.InTurn.{StateAt, states_kept}
use Rattle.kept_rules.specs.StateRules.{IsGoodAt}
use Rattle.kept_rules.specs.FirstUntyped.{IsFirstUntyped}

-- a kept state is typed just where each of its states is as it should be
abbrev pub TypedIsGood : Type 0
TypedIsGood =
    (c : CoreProgram) (k : KeptTree)
    → IsTypedKept c k ↔ ((n : ℕ) (j : StateAt) → slice_get (states_kept c k) n ≡ Some j → IsGoodAt c k n j)

-- so where there is a first one that isn't, it isn't typed
abbrev pub UntypedIsNotTyped : Type 0
UntypedIsNotTyped = (c : CoreProgram) (k : KeptTree) (n : ℕ) → IsFirstUntyped c k n → IsTypedKept c k → ⊥

-- and no two are the first
abbrev pub OneFirst : Type 0
OneFirst = (c : CoreProgram) (k : KeptTree) (m n : ℕ) → IsFirstUntyped c k m → IsFirstUntyped c k n → m ≡ n
