-- Worked examples: a call that waits, one step deeper and without what it held; a binding in front of it, which isn't
-- used there either; and code with another term, in which a name is used that wasn't before.
use Rattle.std.proofs.Common.{◌≡◌, ℕ, suc, true, false, List, [], refl}
use Rattle.stream_type.specs.StreamType.{eps, int}
use Rattle.bunch.specs.Names.{holds}
use Rattle.core_term.specs.CoreTerm.{var_term}
use Rattle.delta_state.specs.StateTree.{HeldName, LaterTree, StateTree, sink, var_state, cat_state, let_state, wait_state, frame_state, no_arguments, argument_before, free_in_state}
use Rattle.state_rewriting.specs.Rewriting.{SimplerBy, as_it_is, one_more, here, unused}
use Rattle.mapped_states.specs.Mapped.{mapped}
use Rattle.mapped_states.proofs.SimplerMapped.{simpler_mapped}

-- code at a depth
abbrev code : ℕ → LaterTree
code d = record { term = var_term 1; past = []; depth = d }

-- a call on the name 9 whose body waits for its parameter
abbrev waits : ℕ → List HeldName → StateTree
waits d held = frame_state (argument_before 0 int (var_state 9) no_arguments) (wait_state 0 int held (code d))

abbrev deeper : LaterTree → LaterTree
deeper l = record { term = l.term; past = l.past; depth = suc l.depth }

abbrev nothing_held : List HeldName → List HeldName
nothing_held held = []

-- the code is a step deeper, nothing is held, and all else is there
waits_mapped : (d : ℕ) (held : List HeldName) → mapped deeper nothing_held (waits d held) ≡ waits (suc d) []
waits_mapped d held = refl

-- a binding in front of the call, whose name isn't used, is left out,
bound_simpler : (d : ℕ) (held : List HeldName) → SimplerBy int (let_state 5 eps (sink eps) (waits d held)) (waits d held)
bound_simpler d held = one_more as_it_is (here (unused refl))

-- and so where both are mapped
bound_mapped : (d : ℕ) (held : List HeldName) → SimplerBy int (let_state 5 eps (sink eps) (waits (suc d) [])) (waits (suc d) [])
bound_mapped d held = simpler_mapped deeper nothing_held (λ l. refl) int (let_state 5 eps (sink eps) (waits d held)) (waits d held) (bound_simpler d held)

-- where the term isn't kept, a name may be used that wasn't
abbrev other_term : LaterTree → LaterTree
other_term l = record { term = var_term 5; past = l.past; depth = l.depth }

not_used : (d : ℕ) → holds 5 (free_in_state (cat_state (var_state 9) (code d))) ≡ false
not_used d = refl

used_then : (d : ℕ) → holds 5 (free_in_state (mapped other_term nothing_held (cat_state (var_state 9) (code d)))) ≡ true
used_then d = refl
