-- Which functions count as inert, by a list with a mark for each of them.
use Rattle.std.specs.Prelude.{ℕ, ◌<◌, ◌≡◌, Bool, false, ◌&&◌, List, length, slice_index_or}
use Rattle.core_term.specs.CoreTerm.{CoreBody, fun_at, is_there}
use Rattle.core_term.specs.Inert.{is_inert}

-- a function counts where it is there and its mark is true; one without a mark doesn't count
abbrev pub counts_in : List CoreBody → List Bool → ℕ → Bool
counts_in funs marks f = is_there funs f && slice_index_or marks f false

-- whether a function keeps its mark
abbrev pub stays_inert : List CoreBody → List Bool → ℕ → Bool
stays_inert funs marks f =
    slice_index_or marks f false && is_inert (fun_at funs) (counts_in funs marks) (fun_at funs f).body (fun_at funs f).result

-- the marks after one more round: a function keeps its mark where its body is inert with those marked
-- counted as inert
pub record IsRound (funs : List CoreBody) (marks kept : List Bool) : Type 0 where
  pub has_each : length kept ≡ length funs
  pub keeps_inert : (f : ℕ) → f < length funs → slice_index_or kept f false ≡ stays_inert funs marks f
