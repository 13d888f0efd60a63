-- The definitions at single kept states. Each answer was worked out by hand, and the check computes it.
use Rattle.std.proofs.Common.{◌≡◌, ◌<◌, ℕ, zero, suc, true≢false, [], ◌∷◌, refl, subst, sym, arith}
use Rattle.std.specs.Prelude.{Some, slice_get}
use Rattle.stream_type.specs.StreamType.{one, int, par}
use Rattle.bunch.specs.BunchTree.{leaf}
use Rattle.core_term.specs.CoreTerm.{CoreProgram, var_term, par_term}
use Rattle.delta_state.specs.StateTree.{var_state, par_state, let_state}
use Rattle.kept_state.specs.KeptTree.{KeptTree}
use Rattle.kept_state.specs.KeptTyping.{context_kept}
use Rattle.kept_rules.specs.InTurn.{StateAt, state_at, states_kept, names_in_turn}
use Rattle.kept_rules.specs.StateRules.{IsGoodAt}
use Rattle.kept_rules.specs.FirstUntyped.{IsFirstUntyped}

-- `main(x : Int) : Int = x`
abbrev one_number : CoreProgram
one_number = record { funs = []; main = record { past = []; params = leaf 0 int; result = int; body = var_term 0 }; texts = [] }

-- kept before any event, but for its output, of which another type is left: the name has the type `Int`
abbrev other_output : KeptTree
other_output = record { events = 0; ins = int ∷ []; cuts = []; out = one; state = var_state 0 }

output_is_first : IsFirstUntyped one_number other_output 0
output_is_first = record { before = λ m j l e. absurd (omega (arith, l)); fails = λ g. absurd (cc g.good.rule) }

-- a let of x, whose name is main's parameter: it is bound again by the let, which is the state 0
abbrev bound_again : KeptTree
bound_again = record { events = 0; ins = int ∷ []; cuts = []; out = int; state = let_state 0 int (var_state 0) (var_state 0) }

again_is_first : IsFirstUntyped one_number bound_again 0
again_is_first = record { before = λ m j l e. absurd (omega (arith, l)); fails = λ g. true≢false (sym g.good.once) }

-- `main(x : Int) : Int || Int = (x, x)`
abbrev two_numbers : CoreProgram
two_numbers = record { funs = []; main = record { past = []; params = leaf 0 int; result = par int int; body = par_term (var_term 0) (var_term 0) }; texts = [] }

-- kept before any event, but for the second name, which is another one
abbrev other_name : KeptTree
other_name = record { events = 0; ins = int ∷ []; cuts = []; out = par int int; state = par_state (var_state 0) (var_state 1) }

-- the pair,
abbrev pair_at : StateAt
pair_at = state_at (context_kept two_numbers other_name) (par int int) (0 ∷ []) (par_state (var_state 0) (var_state 1))

-- and the first name in it
abbrev name_at : StateAt
name_at = state_at (context_kept two_numbers other_name) int (0 ∷ []) (var_state 0)

-- are good
first_two : (m : ℕ) (j : StateAt) → m < 2 → slice_get (states_kept two_numbers other_name) m ≡ Some j → IsGoodAt two_numbers other_name m j
first_two zero j l e =
    let is : pair_at ≡ j = cc e in
    subst (IsGoodAt two_numbers other_name 0) is
    (record {
      placed = λ i. record { are_few = omega arith; reaches = omega arith; has_types = refl; has_cuts = refl; is_place = tt };
      good = record { rule = refl; once = refl };
    })
first_two (suc zero) j l e =
    let is : name_at ≡ j = cc e in
    subst (IsGoodAt two_numbers other_name 1) is (record { placed = λ i. absurd (omega (arith, i)); good = record { rule = refl; once = refl } })
first_two (suc (suc m)) j l e = absurd (omega (arith, l))

-- so it is the state 2
name_is_first : IsFirstUntyped two_numbers other_name 2
name_is_first = record { before = first_two; fails = λ g. absurd (cc g.good.rule) }

-- of a let the name stands before those of its parts
let_names : names_in_turn (let_state 5 int (let_state 6 int (var_state 0) (var_state 6)) (var_state 5)) ≡ 5 ∷ (6 ∷ [])
let_names = refl
