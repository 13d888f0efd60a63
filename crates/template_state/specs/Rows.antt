-- States that take a sequence apart and put it together again, by tests.
use Rattle.std.specs.Prelude.{ℕ, Bool, false, ◌==◌, ◌&&◌}
use Rattle.core_term.specs.CoreTerm.{CoreTerm, var_term}
use Rattle.delta_state.specs.StateTree.{StateTree, var_state, cat_state, let_cat_state}

-- whether a term is the name
abbrev pub is_term_name : CoreTerm → ℕ → Bool
is_term_name (var_term u) x = u == x
is_term_name _ x = false

-- whether a state is the name
abbrev pub is_name : StateTree → ℕ → Bool
is_name (var_state u) x = u == x
is_name _ x = false

-- whether a state is the first name and then the second
abbrev pub is_row : StateTree → ℕ → ℕ → Bool
is_row (cat_state a l) x y = is_name a x && is_term_name l.term y
is_row _ x y = false

-- whether a state takes the name apart and puts both parts together again
abbrev pub repeats_row : StateTree → ℕ → Bool
repeats_row (let_cat_state x y z a) w = z == w && is_row a x y
repeats_row _ w = false
