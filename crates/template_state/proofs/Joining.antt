-- Frames that become one, arguments that go, and arguments that take the place of their frame, for any type that is left.
use Rattle.std.proofs.Common.{◌≡◌, ℕ, true, subst, sym}
use Rattle.stream_type.specs.StreamType.{StreamType}
use Rattle.bunch.specs.Names.{holds}
use Rattle.delta_state.specs.StateTree.{StateTree, ArgumentTrees, var_state, frame_state, argument_names, argument_at, free_in_state}
use Rattle.state_rewriting.proofs.RewritingsInside.{by_same, by_then}
use Rattle.state_rewriting.specs.Rewriting.{as_it_is, one_more, here, frames, returned, are_plain, names_passed, composed, SimplerBy}
use Rattle.template_state.specs.Passing.{passes_once, only_used}
use Rattle.template_state.proofs.PassedOnce.{stands_once}
use Rattle.template_state.proofs.UsedArguments.{used_is_simpler}

pub joined_at_all : {args inner : ArgumentTrees} {a b : StateTree} → true ≡ are_plain inner → true ≡ passes_once args (names_passed inner) → b ≡ frame_state (composed args inner) a → (q : StreamType) → SimplerBy q (frame_state args (frame_state inner a)) b
joined_at_all {args = args} {inner = inner} {a = a} m n e q =
    subst (λ u. SimplerBy q (frame_state args (frame_state inner a)) u) (sym e) (one_more as_it_is (here (frames (sym m) (stands_once args (names_passed inner) (sym n)))))

pub kept_at_all : {a b : StateTree} → a ≡ b → (q : StreamType) → SimplerBy q a b
kept_at_all e q = by_same e

pub used_at_all : {args others : ArgumentTrees} {a : StateTree} → others ≡ only_used (free_in_state a) args → (q : StreamType) → SimplerBy q (frame_state args a) (frame_state others a)
used_at_all {args = args} {a = a} e q = subst (λ r. SimplerBy q (frame_state args a) (frame_state r a)) (sym e) (used_is_simpler a args q)

pub returned_at_all : {args : ArgumentTrees} {u : ℕ} {a b : StateTree} → a ≡ var_state u → true ≡ holds u (argument_names args) → b ≡ argument_at args u → (q : StreamType) → SimplerBy q (frame_state args a) b
returned_at_all {args = args} {u = u} {b = b} e m f q = subst (λ o. SimplerBy q (frame_state args o) b) (sym e) (subst (λ o. SimplerBy q (frame_state args (var_state u)) o) (sym f) (one_more as_it_is (here (returned (sym m)))))

pub in_three : {a b e f : StateTree} → ((q : StreamType) → SimplerBy q a b) → ((q : StreamType) → SimplerBy q b e) → ((q : StreamType) → SimplerBy q e f) → (q : StreamType) → SimplerBy q a f
in_three h k l q = by_then (by_then (h q) (k q)) (l q)

pub ruleset joining = (used_at_all, joined_at_all, returned_at_all, kept_at_all)
