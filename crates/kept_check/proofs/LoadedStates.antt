-- What is told of bytes, from what is found of the states that were read from them.
use Rattle.std.proofs.Common.{◌≡◌, ℕ, List, subst}
use Rattle.std.specs.Prelude.{Result, Ok, Err}
use Rattle.stream_type.specs.declared.ty.Ty.{Ty}
use Rattle.stream_type.specs.StreamType.{StreamType}
use Rattle.bunch.specs.declared.name.Name.{Name}
use Rattle.bunch.specs.BunchTree.{leaf_names, stands_before}
use Rattle.bunch.specs.Facts.{Facts}
use Rattle.core_term.specs.CoreTerm.{CoreProgram}
use Rattle.core_term.specs.Params.{names_in, types_listed}
use Rattle.core_term.specs.Typing.{Context}
use Rattle.delta_check.specs.Scopes.{context_given}
use Rattle.delta_state.specs.StateTree.{StateTree}
use Rattle.delta_state.specs.Stands.{depth_after}
use Rattle.kept_state.specs.KeptTree.{KeptTree}
use Rattle.kept_state.specs.KeptTyping.{IsPlaced, context_kept}
use Rattle.kept_rules.specs.InTurn.{states_of, states_kept}
use Rattle.delta_keep.specs.declared.kept.Kept.{Kept}
use Rattle.delta_keep.specs.KeptView.{kept_of}
use Rattle.kept_check.specs.declared.stop.Stop.{Stop}
use Rattle.kept_check.specs.declared.stop.Stop.TheVariants.{Memory, At}
use Rattle.kept_check.specs.Loading.{TellsStop, TellsTyped}
use Rattle.kept_check.specs.Walk.{FindsBad}
use Rattle.kept_check.proofs.FirstStates.{first_where, typed_where}
use Rattle.kept_check.proofs.InputContexts.{input_context}

-- what is found in the scope of main's parameters is found of the states of the kept state
pub kept_found : (c : CoreProgram) (k : KeptTree) (v : List (Name × Ty)) (before : Facts) (depth : ℕ) (out : StreamType) (names : List ℕ) (s : StateTree) (q : Result ℕ Stop)
    → names_in v ≡ leaf_names c.main.params → types_listed v ≡ k.ins → before ≡ stands_before c.main.params → depth ≡ depth_after k.events → out ≡ k.out → names ≡ leaf_names c.main.params → s ≡ k.state
    → FindsBad c.funs depth 0 (states_of (context_given v before) out names s) q → FindsBad c.funs (depth_after k.events) 0 (states_kept c k) q
kept_found c k v before depth out names s q e f o d t n i h =
    let D = depth_after k.events in
    let P : ℕ → Type 0 = λ m. FindsBad c.funs m 0 (states_of (context_given v before) out names s) q in
    let Q : Context → Type 0 = λ g. FindsBad c.funs D 0 (states_of g out names s) q in
    let R : StreamType → Type 0 = λ r. FindsBad c.funs D 0 (states_of (context_kept c k) r names s) q in
    let S : List ℕ → Type 0 = λ l. FindsBad c.funs D 0 (states_of (context_kept c k) k.out l s) q in
    let T : StateTree → Type 0 = λ u. FindsBad c.funs D 0 (states_of (context_kept c k) k.out (leaf_names c.main.params) u) q in
    subst T i (subst S n (subst R t (subst Q (input_context c k v before e f o) (subst P d h))))

-- it is told which state isn't typed
stop_told : (c : CoreProgram) (k : Kept) (e : Stop) → IsPlaced c (kept_of k) → FindsBad c.funs (depth_after k.events) 0 (states_kept c (kept_of k)) (Err e) → TellsStop c k e
stop_told c k Memory p h = tt
stop_told c k (At m) p h = first_where c (kept_of k) m p h

-- or that it is typed
pub typed_told : (c : CoreProgram) (k : Kept) (q : Result ℕ Stop) → IsPlaced c (kept_of k) → FindsBad c.funs (depth_after k.events) 0 (states_kept c (kept_of k)) q → TellsTyped c k q
typed_told c k (Ok next) p h = typed_where c (kept_of k) 0 next p h
typed_told c k (Err e) p h = stop_told c k e p h
