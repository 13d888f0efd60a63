-- Worked examples: steps that are made again with other numbers, one that isn't, and one whose states are shapes.
use Rattle.std.proofs.Common.{◌≡◌, ◌<◌, ◌≤◌, ◌^◌, ℕ, ℤ, pos, ◌+ℤ◌, List, [], ◌∷◌, refl, arith}
use Rattle.std.proofs.lemmas.List.Elements.{All-nil, All-cons, All-head}
use Rattle.stream_type.specs.StreamType.{StreamType, eps, int, par, cat, star}
use Rattle.stream_prefix.specs.StreamPrefix.{int_emp, int_full, par_both, cat_fst}
use Rattle.event_word.specs.declared.event.Step.TheVariants.{Left, First}
use Rattle.event_word.specs.declared.event.Leaf.TheVariants.{Int}
use Rattle.event_word.specs.StreamEvent.{StreamEvent, leaf_of, under}
use Rattle.bunch.specs.BunchTree.{leaf}
use Rattle.bunch.specs.Names.{put}
use Rattle.hist_value.specs.declared.expr.Op.TheVariants.{Add}
use Rattle.hist_value.specs.HistExpr.{variable, literal, reckoned, first_expr}
use Rattle.hist_value.specs.HistValue.{number}
use Rattle.core_term.specs.CoreTerm.{CoreTerm, CoreProgram, var_term, past_term, wait_term}
use Rattle.core_term.specs.Meaning.{no_past}
use Rattle.delta_state.specs.StateTree.{LaterTree, StateTree, sink, var_state, wait_state}
use Rattle.state_rewriting.specs.Rewriting.{as_it_is}
use Rattle.machine_parts.specs.AwaitedTree.{stream_awaited}
use Rattle.machine_kept.specs.Keeping.{KeepsTidy}
use Rattle.other_numbers.specs.Asked.{Asked}
use Rattle.other_numbers.specs.Commutes.{Commutes, AllCommute}
use Rattle.other_depths.specs.Suits.{SuitsAt}
use Rattle.filled_states.specs.Shifts.{shift}
use Rattle.learned_steps.specs.Learned.{Learned, GoesWith, asked_in}
use Rattle.learned_steps.specs.Shapes.{LearnedShapes, LearnedApart}
use Rattle.learned_steps.specs.Laws.{Made}
use Rattle.learned_steps.proofs.LearnedGoes.{learned_goes}
use Rattle.learned_steps.proofs.ShapesGo.{shapes_go_deep}

-- a main program of one parameter, the name 0
abbrev of_one : StreamType → StreamType → CoreTerm → CoreProgram
of_one s r e = record { funs = []; main = record { past = []; params = leaf 0 s; result = r; body = e }; texts = [] }

-- an item's type and what follows it, once the item has begun
abbrev items_left : StreamType
items_left = cat int (star int)

-- main(xs : Int*) : Int* = xs
abbrev echo : CoreProgram
echo = of_one (star int) (star int) (var_term 0)

-- an item has begun, and its number, 3, comes: the program says it
abbrev echo_step : Learned echo
echo_step = record {
  state = var_state 0;
  awaited = stream_awaited 0 items_left;
  input = items_left;
  output = items_left;
  event = under First (leaf_of (Int (pos 3)));
  out = cat_fst (int_full (pos 3));
  calls = 0;
  level = 0;
  next = var_state 0;
  admits = tt;
  runs = refl;
  simpler = as_it_is;
}

-- nothing is asked, and no code is kept, so the step goes with any numbers and any depths,
echo_goes_with : (f : ℤ → ℤ) → GoesWith echo echo_step f (λ d. d)
echo_goes_with f = record { commute = All-nil (Commutes f); suits = All-nil (λ (l : LaterTree). SuitsAt (λ d. d) 0 l.depth) }

-- and a machine that makes it with any number in the place of 3 keeps what it has to
echo_goes : (f : ℤ → ℤ) (budget events spent : ℕ) (word : List StreamEvent) → events < 2 ^ 42
    → KeepsTidy echo budget (var_state 0) (stream_awaited 0 items_left) items_left items_left events spent word → Made echo echo_step f (var_state 0) budget events word
echo_goes f budget events spent word room k = learned_goes echo echo_step f (λ d. d) budget events spent word (echo_goes_with f) (omega arith) room k

-- main(x : Int) : Int = wait x in {x + 1}
abbrev next_number : CoreProgram
next_number = of_one int int (wait_term 0 int (past_term (reckoned Add (variable 0) (literal (pos 1)))))

abbrev waits : ℕ → StateTree
waits d =
    wait_state 0 int (record { name = 0; type = int; prefix = int_emp } ∷ []) (record { term = past_term (reckoned Add (variable 0) (literal (pos 1))); past = []; depth = d })

-- 3 comes, and the program says 4 and is over
abbrev sum_step : Learned next_number
sum_step = record {
  state = waits 5;
  awaited = stream_awaited 0 int;
  input = int;
  output = int;
  event = leaf_of (Int (pos 3));
  out = int_full (pos 4);
  calls = 0;
  level = 0;
  next = sink eps;
  admits = tt;
  runs = refl;
  simpler = as_it_is;
}

-- one sum is asked
abbrev sum_asked : Asked
sum_asked = record { expr = reckoned Add (variable 0) (literal (pos 1)); past = put 0 (number (pos 3)) no_past }

sum_asks : asked_in next_number sum_step ≡ sum_asked ∷ []
sum_asks = refl

-- with numbers that are five more it goes: 8 comes and 9 is said
abbrev five_more : ℤ → ℤ
five_more n = n +ℤ pos 5

sum_commutes : AllCommute five_more (asked_in next_number sum_step)
sum_commutes = All-cons (Commutes five_more) sum_asked [] refl (All-nil (Commutes five_more))

-- but not with numbers that are twice as great: 6 comes, and 7 isn't twice 4
abbrev twice : ℤ → ℤ
twice n = n +ℤ n

sum_differs : AllCommute twice (asked_in next_number sum_step) → ⊥
sum_differs h = let e : number (pos 7) ≡ number (pos 8) = All-head (Commutes twice) sum_asked [] h in cc

-- main(x : Int || Int) : Int = wait x in {fst x + 1}
abbrev first_number : CoreProgram
first_number = of_one (par int int) int (wait_term 0 int (past_term (reckoned Add (first_expr (variable 0)) (literal (pos 1)))))

-- a wait for both numbers, and one that holds the first of them
abbrev waits_for_both : ℕ → StateTree
waits_for_both d =
    wait_state 0 int (record { name = 0; type = par int int; prefix = par_both int_emp int_emp } ∷ []) (record { term = past_term (reckoned Add (first_expr (variable 0)) (literal (pos 1))); past = []; depth = d })

abbrev holds_first : ℤ → ℕ → StateTree
holds_first n d =
    wait_state 0 int (record { name = 0; type = par int int; prefix = par_both (int_full n) int_emp } ∷ []) (record { term = past_term (reckoned Add (first_expr (variable 0)) (literal (pos 1))); past = []; depth = d })

-- 3 comes first and is held; nothing is said
abbrev held_step : Learned first_number
held_step = record {
  state = waits_for_both 20;
  awaited = stream_awaited 0 (par int int);
  input = par int int;
  output = int;
  event = under Left (leaf_of (Int (pos 3)));
  out = int_emp;
  calls = 0;
  level = 0;
  next = holds_first (pos 3) 20;
  admits = tt;
  runs = refl;
  simpler = as_it_is;
}

-- its states as shapes, with 3 in the register 0 for numbers and 20 in the register 0 for depths
abbrev held_shapes : LearnedShapes first_number
held_shapes = record {
  step = held_step;
  before = record { numbers = pos 0 ∷ []; depths = 0 ∷ []; state = waits_for_both 0 };
  after = record { numbers = pos 0 ∷ []; depths = 0 ∷ []; state = holds_first (pos 0) 0 };
  numbers = pos 3 ∷ [];
  depths = 20 ∷ [];
  numbers_left = pos 3 ∷ [];
  depths_left = 20 ∷ [];
  is_before = refl;
  is_after = refl;
  has_numbers = omega arith;
  has_depths = omega arith;
  leaves_numbers = omega arith;
  leaves_depths = omega arith;
}

held_apart : LearnedApart first_number held_shapes 10
held_apart = record { are_spread = (tt, tt); are_deep = All-cons (λ d. 10 ≤ d) 20 [] (omega arith) (All-nil (λ d. 10 ≤ d)); in_reach = omega arith }

-- so wherever a machine waits for both, whichever number comes and whichever depth its code has, it then holds that
-- number, and its code has that depth
held_goes : (f : ℤ → ℤ) (d budget events spent : ℕ) (word : List StreamEvent) → events < 2 ^ 42
    → KeepsTidy first_number budget (waits_for_both d) (stream_awaited 0 (par int int)) (par int int) int events spent word
    → Made first_number held_step f (holds_first (f (pos 3)) (shift (20 ∷ []) (d ∷ []) 10 20)) budget events word
held_goes f d budget events spent word room k = shapes_go_deep first_number held_shapes 10 f (d ∷ []) budget events spent word held_apart (All-nil (Commutes f)) refl (omega arith) room k

the_same_depth : shift (20 ∷ []) (900 ∷ []) 10 20 ≡ 900
the_same_depth = refl
