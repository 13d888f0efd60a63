-- What is asked of a case or a wait beside what it holds.
use Rattle.std.specs.Prelude.{ℕ, ◌≡◌, Bool, false, ⊤, List}
use Rattle.stream_type.specs.StreamType.{StreamType}
use Rattle.stream_prefix.specs.StreamPrefix.{is_maximal}
use Rattle.core_term.specs.CoreTerm.{CoreBody}
use Rattle.core_term.specs.Typing.{Context}
use Rattle.delta_state.specs.StateTree.{HeldName, StateTree, sum_state, star_state, wait_state}
use Rattle.delta_state.specs.StateMeaning.{prefixes_held}
use Rattle.delta_state.specs.Settled.{has_tag}
use Rattle.kept_rules.specs.StateRules.{IsGoodSum, IsGoodStar, IsGoodWait}

-- a case or a wait of this type, which holds this
abbrev pub IsHolding : StreamType → List HeldName → StateTree → Type 0
IsHolding t held (sum_state z u more x l y m) = (u ≡ t) × (more ≡ held)
IsHolding t held (star_state z u more l y ys m) = (u ≡ t) × (more ≡ held)
IsHolding t held (wait_state x u more l) = (u ≡ t) × (more ≡ held)
IsHolding t held _ = ⊥

-- whether what it holds of its subject decides how it goes on
abbrev pub is_decided : StateTree → Bool
is_decided (sum_state z t held x l y m) = has_tag (prefixes_held held z)
is_decided (star_state z t held l y ys m) = has_tag (prefixes_held held z)
is_decided (wait_state x t held l) = is_maximal (prefixes_held held x)
is_decided _ = false

-- what is asked of the code by which it goes on, over the types from before anything was held
abbrev pub MayGoOn : List CoreBody → ℕ → Context → StateTree → StreamType → Type 0
MayGoOn funs depth c (sum_state z t held x l y m) r = IsGoodSum funs depth c z x l y m r
MayGoOn funs depth c (star_state z t held l y ys m) r = IsGoodStar funs depth c z l y ys m r
MayGoOn funs depth c (wait_state x t held l) r = IsGoodWait funs depth c x l r
MayGoOn funs depth c _ r = ⊤
