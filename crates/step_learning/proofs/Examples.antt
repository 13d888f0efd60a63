-- A worked example: a step that was learned between two stations, and made again.
use Rattle.std.proofs.Common.{◌≡◌, ◌+◌, ◌<◌, ◌≤◌, ◌^◌, ℕ, ℤ, pos, negsuc, List, [], ◌∷◌, refl, arith}
use Rattle.std.proofs.lemmas.List.Elements.{All-nil, All-cons}
use Rattle.stream_type.specs.StreamType.{eps, int, par}
use Rattle.stream_prefix.specs.StreamPrefix.{int_emp, int_full, par_both}
use Rattle.event_word.specs.declared.event.Step.TheVariants.{Left}
use Rattle.event_word.specs.declared.event.Leaf.TheVariants.{Int}
use Rattle.event_word.specs.StreamEvent.{StreamEvent, leaf_of, under}
use Rattle.bunch.specs.BunchTree.{leaf}
use Rattle.hist_value.specs.declared.expr.Op.TheVariants.{Add}
use Rattle.hist_value.specs.HistExpr.{variable, literal, reckoned, first_expr}
use Rattle.core_term.specs.CoreTerm.{CoreTerm, CoreProgram, past_term, wait_term}
use Rattle.delta_state.specs.StateTree.{StateTree, wait_state}
use Rattle.state_rewriting.specs.Rewriting.{as_it_is}
use Rattle.machine_parts.specs.AwaitedTree.{stream_awaited}
use Rattle.machine_kept.specs.Keeping.{KeepsTidy}
use Rattle.learned_table.specs.StepTree.{StepTree}
use Rattle.learned_table.specs.Suits.{GoesAlong}
use Rattle.stations.specs.StationTree.{StationTree}
use Rattle.step_learning.specs.IsLearned.{HasValue, IsLearned}
use Rattle.step_learning.specs.Laws.{WentOn, numbers_with, depths_with}
use Rattle.step_learning.proofs.LearnedStepGoes.{learned_step_goes}

-- {fst x + 1}
abbrev sum : CoreTerm
sum = past_term (reckoned Add (first_expr (variable 0)) (literal (pos 1)))

-- main(x : Int || Int) : Int = wait x in {fst x + 1}
abbrev first_number : CoreProgram
first_number = record { funs = []; main = record { past = []; params = leaf 0 (par int int); result = int; body = wait_term 0 (par int int) sum }; texts = [] }

-- a wait for both numbers, and one that holds the first of them
abbrev waits_for_both : ℕ → StateTree
waits_for_both d = wait_state 0 int (record { name = 0; type = par int int; prefix = par_both int_emp int_emp } ∷ []) (record { term = sum; past = []; depth = d })

abbrev holds_first : ℤ → ℕ → StateTree
holds_first n d = wait_state 0 int (record { name = 0; type = par int int; prefix = par_both (int_full n) int_emp } ∷ []) (record { term = sum; past = []; depth = d })

-- the stations, with the key 0 for the number that is held and the key 0 for the depth of the code
abbrev before : StationTree
before = record { shape = record { numbers = pos 0 ∷ []; depths = 0 ∷ []; state = waits_for_both 0 }; awaited = stream_awaited 0 (par int int); input = par int int; output = int }

abbrev after : StationTree
after = record { shape = record { numbers = pos 0 ∷ []; depths = 0 ∷ []; state = holds_first (pos 0) 0 }; awaited = stream_awaited 0 (par eps int); input = par eps int; output = int }

-- 3 comes first and is held, and nothing is said; it was learned at the depth 2^61
abbrev hold : StepTree
hold = record {
  numbers = pos 3 ∷ [];
  depths = 2305843009213693952 ∷ [];
  event = under Left (leaf_of (Int (pos 3)));
  asks = [];
  said = [];
  calls = 0;
  numbers_left = pos 3 ∷ [];
  depths_left = 2305843009213693952 ∷ [];
}

hold_is_learned : IsLearned first_number 1000 before after hold
hold_is_learned = record {
  has = record {
    learned = record {
      state = waits_for_both 2305843009213693952;
      awaited = stream_awaited 0 (par int int);
      input = par int int;
      output = int;
      event = under Left (leaf_of (Int (pos 3)));
      out = int_emp;
      calls = 0;
      level = 0;
      next = holds_first (pos 3) 2305843009213693952;
      admits = tt;
      runs = refl;
      simpler = as_it_is;
    };
    registers = record { numbers_beside = refl; depths_beside = refl; some_numbers = omega arith; some_depths = omega arith };
    is_state = refl;
    is_awaited = refl;
    is_input = refl;
    is_output = refl;
    is_event = refl;
    are_asked = refl;
    have_values = All-nil HasValue;
    is_said = refl;
    are_calls = refl;
    in_budget = omega arith;
    within = omega arith;
    are_spread = (tt, tt);
    are_deep = All-cons (λ d. 1000000 ≤ d) 2305843009213693952 [] (omega arith) (All-nil (λ d. 1000000 ≤ d));
  };
  left = record {
    registers = record { numbers_beside = refl; depths_beside = refl; some_numbers = omega arith; some_depths = omega arith };
    is_state = refl;
    is_awaited = refl;
    is_input = refl;
    is_output = refl;
  };
}

-- with 8 in the place of 3
abbrev five_more : ℤ → ℤ
five_more (pos n) = pos (n + 5)
five_more (negsuc n) = negsuc n

-- so a machine that waits for both, with its code at the depth 900, and to which 8 comes first, then holds 8, at that
-- depth
holds_eight : (events spent : ℕ) (word : List StreamEvent) → events < 2 ^ 42 → KeepsTidy first_number 1000 (waits_for_both 900) (stream_awaited 0 (par int int)) (par int int) int events spent word
    → WentOn first_number 1000 after hold five_more (900 ∷ []) (under Left (leaf_of (Int (pos 8)))) events word
holds_eight events spent word room k =
    learned_step_goes first_number 1000 before after hold five_more (pos 8 ∷ []) (900 ∷ []) (under Left (leaf_of (Int (pos 8)))) events spent word hold_is_learned
    (record { registers = refl; event = refl; asks = All-nil (GoesAlong five_more) }) refl room k

the_number : numbers_with hold five_more ≡ pos 8 ∷ []
the_number = refl

the_depth : depths_with hold (900 ∷ []) ≡ 900 ∷ []
the_depth = refl
