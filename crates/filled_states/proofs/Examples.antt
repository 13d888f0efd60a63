-- Worked examples: registers, a filled state, and depths that are moved.
use Rattle.std.proofs.Common.{◌≡◌, ℕ, ℤ, pos, true, false, List, [], ◌∷◌, refl, arith}
use Rattle.stream_type.specs.StreamType.{int}
use Rattle.stream_prefix.specs.StreamPrefix.{int_full}
use Rattle.hist_value.specs.HistValue.{number}
use Rattle.core_term.specs.CoreTerm.{var_term}
use Rattle.delta_state.specs.StateTree.{StateTree, wait_state}
use Rattle.filled_states.specs.Registers.{number_at, are_distinct}
use Rattle.filled_states.specs.Filled.{filled_state}
use Rattle.filled_states.specs.Shifts.{AreSpread, spread_from, shift}

-- three keys, and the numbers beside them
abbrev keys : List ℤ
keys = pos 0 ∷ (pos 1 ∷ (pos 2 ∷ []))

abbrev numbers : List ℤ
numbers = pos 70 ∷ (pos 80 ∷ (pos 90 ∷ []))

key_found : number_at keys numbers (pos 1) ≡ pos 80
key_found = refl

-- what is no key has the first number,
other_found : number_at keys numbers (pos 7) ≡ pos 70
other_found = refl

-- and where there are none it stays
none_found : number_at keys [] (pos 7) ≡ pos 7
none_found = refl

keys_are_distinct : are_distinct keys ≡ true
keys_are_distinct = refl

some_are_not : are_distinct (pos 1 ∷ (pos 0 ∷ (pos 1 ∷ []))) ≡ false
some_are_not = refl

-- a wait that knows the number of one name and holds another
abbrev waits : ℤ → ℤ → ℕ → StateTree
waits m n d =
    wait_state 0 int (record { name = 1; type = int; prefix = int_full m } ∷ []) (record { term = var_term 1; past = record { name = 2; type = int; value = number n } ∷ []; depth = d })

-- filled: key 2 and key 0 by numbers, depth 0 by a depth
waits_filled : filled_state keys numbers (0 ∷ []) (500 ∷ []) (waits (pos 2) (pos 0) 0) ≡ waits (pos 90) (pos 70) 500
waits_filled = refl

-- three depths, each more than 4 above the next
depths_down : spread_from 4 20 3 ≡ 20 ∷ (15 ∷ (10 ∷ []))
depths_down = refl

are_spread : AreSpread 4 (20 ∷ (15 ∷ (10 ∷ [])))
are_spread = (omega arith, (omega arith, (tt, tt)))

-- two below 15, beside which 700 stands, is moved to two below 700,
two_below : shift (20 ∷ (15 ∷ (10 ∷ []))) (900 ∷ (700 ∷ (800 ∷ []))) 4 13 ≡ 698
two_below = refl

-- and 16 to four below 900
four_below : shift (20 ∷ (15 ∷ (10 ∷ []))) (900 ∷ (700 ∷ (800 ∷ []))) 4 16 ≡ 896
four_below = refl
