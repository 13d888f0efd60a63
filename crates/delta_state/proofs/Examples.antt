-- The definitions at single programs and states: each answer was worked out by hand, and the check computes it.
use Rattle.std.proofs.Common.{◌≡◌, ℕ, ◌==◌, ◌≤◌, Bool, true, false, ◌||◌, ◌+◌, ℤ, pos, List, [], ◌∷◌, refl, lit≤}
use Rattle.std.proofs.lemmas.List.Elements.{All-nil, All-cons}
use Rattle.stream_type.specs.StreamType.{eps, one, int, cat, par, sum}
use Rattle.stream_prefix.specs.StreamPrefix.{StreamPrefix, eps_emp, one_emp, one_full, int_emp, int_full, par_both, cat_fst, cat_both, sum_emp, in_left, IsPrefix, der, join}
use Rattle.bunch.specs.BunchTree.{BunchTree, leaf, comma, semi, stands_before}
use Rattle.bunch.specs.Facts.{place_let}
use Rattle.hist_value.specs.HistType.{past}
use Rattle.hist_value.specs.HistValue.{number, HasType as HasValueType}
use Rattle.core_term.specs.CoreTerm.{CoreProgram, var_term, par_term, cat_term, case_sum_term}
use Rattle.std.specs.Prelude.{Some, None, if◌then◌else◌}
use Rattle.std.specs.List.{All}
use Rattle.core_term.specs.Inert.{is_inert_fun}
use Rattle.core_term.specs.Typing.{Context, HasType, with_name, with_name_like}
use Rattle.core_term.specs.Meaning.{mean, calls_of, level_of, horizon}
use Rattle.delta_state.specs.StateTree.{StateTree, LaterTree, HeldName, var_state, par_state, cat_state, sum_state, let_state, free_in_sum}
use Rattle.delta_state.specs.StateTyping.{HasStateType, IsHeld, IsTypedLater, context_held, no_pasts}
use Rattle.delta_state.specs.Settled.{is_settled}
use Rattle.delta_state.specs.PlaceTree.{place_at}
use Rattle.delta_state.specs.PlainState.{without_marks, events_held, state_count}
use Rattle.delta_state.specs.Stands.{StandsFor, output_left, context_after, rest_mean, rest_calls, rest_level}
use Rattle.delta_state.specs.Rest.{first_state, next_state}

-- `main(x : Int, y : Int) : Int || Int = (y, x)`, x being 0 and y 1
abbrev swap : CoreProgram
swap = record {
  funs = [];
  main = record { past = []; params = comma (leaf 0 int) (leaf 1 int); result = par int int; body = par_term (var_term 1) (var_term 0) };
  texts = [];
}

-- x has come
abbrev x_came : StreamPrefix
x_came = par_both (int_full (pos 4)) int_emp

-- its state before and after
abbrev swap_state : StateTree
swap_state = par_state (var_state 1) (var_state 0)

swap_first : first_state swap ≡ swap_state
swap_first = refl

swap_next : next_state swap (par_both int_emp int_emp) swap_state x_came ≡ swap_state
swap_next = refl

-- the second number was put out, so the first is left
swap_left : output_left swap x_came ≡ par int eps
swap_left = refl

-- what may come now is the second number, or nothing
second_number : (P : StreamPrefix → Type 0) → P (par_both eps_emp int_emp) → ((n : ℤ) → P (par_both eps_emp (int_full n))) → (q : StreamPrefix) → IsPrefix (par eps int) q → P q
second_number P a b (par_both eps_emp int_emp) h = a
second_number P a b (par_both eps_emp (int_full n)) h = b n
second_number P a b (par_both eps_emp q) h = absurd h.1
second_number P a b (par_both p q) h = absurd h.0
second_number P a b _ h = absurd h

-- the state stands for the program after x
swap_stands : (n : ℕ) → StandsFor swap n x_came swap_state
swap_stands n = record {
  is_typed = (refl, refl);
  settled = refl;
  is_deep = All-nil (λ l. n ≤ l.depth);
  gives_rest = second_number (λ q. mean swap (join x_came q) ≡ join (mean swap x_came) (rest_mean swap x_came swap_state q)) refl (λ m. refl);
  calls_rest = second_number (λ q. calls_of swap x_came + rest_calls swap x_came swap_state q ≤ calls_of swap (join x_came q)) (lit≤ tt) (λ m. lit≤ tt);
  calls_rise = λ q r h k. lit≤ tt;
  levels_below = second_number (λ q. rest_level swap x_came swap_state q ≤ level_of swap (join x_came q)) (lit≤ tt) (λ m. lit≤ tt);
}

-- `main(z : 1 + 1, x : Int) : Int = case z of { inl u => x | inr v => x }`, z being 0, x 1, u 2 and v 3
abbrev pub choose : CoreProgram
choose = record {
  funs = [];
  main = record { past = []; params = comma (leaf 0 (sum one one)) (leaf 1 int); result = int; body = case_sum_term 0 int 2 (var_term 1) 3 (var_term 1) };
  texts = [];
}

-- the number has come before the side
abbrev pub number_came : StreamPrefix
number_came = par_both sum_emp (int_full (pos 4))

abbrev pub branch : LaterTree
branch = record { term = var_term 1; past = []; depth = horizon }

-- the case holds it
abbrev held_side : HeldName
held_side = record { name = 0; type = sum one one; prefix = sum_emp }

abbrev held_number : HeldName
held_number = record { name = 1; type = int; prefix = int_full (pos 4) }

abbrev choose_held_names : List HeldName
choose_held_names = held_side ∷ held_number ∷ []

of_both : (P : HeldName → Type 0) → P held_side → P held_number → All P choose_held_names
of_both P a b = All-cons P held_side (held_number ∷ []) a (All-cons P held_number [] b (All-nil P))

abbrev pub choose_state : StateTree
choose_state = sum_state 0 int choose_held_names 2 branch 3 branch

choose_first : next_state choose (par_both sum_emp int_emp) (first_state choose) number_came ≡ choose_state
choose_first = refl

-- nothing has been put out
choose_left : output_left choose number_came ≡ int
choose_left = refl

-- z and x are its free names, however often they are used
held_or_free : (a b : Bool) → (a || (b || false)) ≡ (a || (b || (b || false)))
held_or_free true b = refl
held_or_free false true = refl
held_or_free false false = refl

-- what is held and what is left of it are a prefix of each name's type and the type that it leaves
choose_held : IsHeld (context_after choose number_came) (free_in_sum 0 2 branch 3 branch) choose_held_names
choose_held = record {
  are_prefixes = of_both (λ h. IsPrefix h.type h.prefix) tt tt;
  are_left = of_both (λ h. (context_after choose number_came).types h.name ≡ Some (der h.prefix h.type)) refl refl;
  are_free = λ x. held_or_free (x == 0) (x == 1);
  are_once = refl;
}

-- each branch gives x, whose type from before it has
branch_typed : (inside : Context → Context) → HasType [] (is_inert_fun []) (inside (context_held choose_held_names (stands_before choose.main.params))) (var_term 1) int
    → IsTypedLater [] (is_inert_fun []) (context_held choose_held_names (stands_before choose.main.params)) inside branch int
branch_typed inside h = record { has_values = All-nil (λ e. HasValueType (past e.type) e.value); has_type = h; binds_apart = tt }

choose_typed : HasStateType [] (is_inert_fun []) (context_after choose number_came) choose_state int
choose_typed = (
  refl,
  choose_held,
  record {
    subject_typed = refl;
    left_typed = branch_typed (with_name_like 2 one 0) refl;
    right_typed = branch_typed (with_name_like 3 one 0) refl;
  },
)

choose_settled : is_settled choose_state int ≡ true
choose_settled = refl

-- it holds one event, and is three states
choose_holds : events_held (without_marks choose_state) ≡ 1
choose_holds = refl

choose_counts : state_count (without_marks choose_state) ≡ 3
choose_counts = refl

-- once the side comes, the state gives the number that it held, as the program does
abbrev pub side_came : StreamPrefix
side_came = par_both (in_left one_emp) eps_emp

choose_gives : rest_mean choose number_came choose_state side_came ≡ int_full (pos 4)
choose_gives = refl

choose_means : mean choose (join number_came side_came) ≡ int_full (pos 4)
choose_means = refl

-- what is left then: the name of the side, and the rest of x
choose_next : next_state choose number_came choose_state side_came ≡ let_state 2 one (var_state 0) (var_state 1)
choose_next = refl

-- beside a value of x, the code `let x = y in case z of { inl u => x | inr v => x }`, y being 4, leaves a let of x
-- round the case while the side hasn't come; x is the let's in both branches, though they still have its value
abbrev valued_branch : LaterTree
valued_branch = record { term = var_term 1; past = record { name = 1; type = int; value = number (pos 7) } ∷ []; depth = horizon }

abbrev held_nothing : List HeldName
held_nothing = held_side ∷ (record { name = 1; type = int; prefix = int_emp } ∷ [])

abbrev shown_context : Context
shown_context = record { types = λ x. if x == 0 then Some (sum one one) else (if x == 4 then Some int else None); order = λ x y. false; past = no_pasts }

shown_held : IsHeld (with_name 1 int (place_let 1 (4 ∷ []) true (λ x y. false)) shown_context) (free_in_sum 0 2 valued_branch 3 valued_branch) held_nothing
shown_held = record {
  are_prefixes = both (λ h. IsPrefix h.type h.prefix) tt tt;
  are_left = both (λ h. (with_name 1 int (place_let 1 (4 ∷ []) true (λ x y. false)) shown_context).types h.name ≡ Some (der h.prefix h.type)) refl refl;
  are_free = λ x. held_or_free (x == 0) (x == 1);
  are_once = refl;
}
  where
    both : (P : HeldName → Type 0) → P held_side → P (record { name = 1; type = int; prefix = int_emp }) → All P held_nothing
    both P a b = All-cons P held_side (record { name = 1; type = int; prefix = int_emp } ∷ []) a (All-cons P (record { name = 1; type = int; prefix = int_emp }) [] b (All-nil P))

shown_again : HasStateType [] (is_inert_fun []) shown_context (let_state 1 int (var_state 4) (sum_state 0 int held_nothing 2 valued_branch 3 valued_branch)) int
shown_again = (
  refl,
  (
    refl,
    shown_held,
    record {
      subject_typed = refl;
      left_typed = record { has_values = value; has_type = refl; binds_apart = tt };
      right_typed = record { has_values = value; has_type = refl; binds_apart = tt };
    },
  ),
)
  where
    value : All (λ e. HasValueType (past e.type) e.value) valued_branch.past
    value = All-cons (λ e. HasValueType (past e.type) e.value) (record { name = 1; type = int; value = number (pos 7) }) [] tt (All-nil (λ e. HasValueType (past e.type) e.value))

-- a state that holds the side isn't settled
side_held : is_settled (sum_state 0 int (record { name = 0; type = sum one one; prefix = in_left one_emp } ∷ record { name = 1; type = int; prefix = int_full (pos 4) } ∷ []) 2 branch 3 branch) int ≡ false
side_held = refl

-- the places of `x : 1; y : Int` before and after the mark, which alone says that x is over
abbrev in_turn : BunchTree
in_turn = semi (leaf 0 one) (leaf 1 int)

before_mark : place_at in_turn (cat_fst one_full) ≡ record { ins = eps ∷ int ∷ []; cuts = false ∷ [] }
before_mark = refl

after_mark : place_at in_turn (cat_both one_full (int_full (pos 3))) ≡ record { ins = eps ∷ eps ∷ []; cuts = true ∷ [] }
after_mark = refl

-- `main(x : Int; y : Int) : Int . Int = (x; y)`: while x hasn't come the second part waits as code, and once
-- it has come it is reached
abbrev pair : CoreProgram
pair = record {
  funs = [];
  main = record { past = []; params = semi (leaf 0 int) (leaf 1 int); result = cat int int; body = cat_term (var_term 0) (var_term 1) };
  texts = [];
}

pair_first : first_state pair ≡ cat_state (var_state 0) (record { term = var_term 1; past = []; depth = horizon })
pair_first = refl

pair_next : next_state pair (cat_fst int_emp) (first_state pair) (cat_fst (int_full (pos 4))) ≡ var_state 1
pair_next = refl

-- the number is put out, and what is left of the output is the second number
pair_left : output_left pair (cat_fst (int_full (pos 4))) ≡ int
pair_left = refl
