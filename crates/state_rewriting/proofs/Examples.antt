-- Worked examples of rewritings, of a place at which a name must not be put in, and of a pair that stays.
use Rattle.std.proofs.Common.{◌≡◌, ◌≢◌, ◌∙◌, ℕ, pos, Bool, true, false, true≢false, [], ◌∷◌, eqb, if◌then◌else◌, ap, refl, subst, sym}
use Rattle.std.specs.Prelude.{Some, None, unwrap_or}
use Rattle.std.specs.List.{All}
use Rattle.std.proofs.lemmas.List.Elements.{All-nil, All-cons}
use Rattle.stream_type.specs.StreamType.{StreamType, eps, int, one, par, cat, sum, star}
use Rattle.stream_prefix.specs.StreamPrefix.{eps_emp, int_emp, par_both, der, IsPrefix, int_full, cat_fst, cat_both, star_emp}
use Rattle.stream_prefix.proofs.Derivations.{derives}
use Rattle.stream_prefix.proofs.Parts.{part_refl}
use Rattle.bunch.specs.Names.{put, holds}
use Rattle.hist_value.specs.HistType.{past}
use Rattle.hist_value.specs.HistValue.{HasType as HasValueType}
use Rattle.core_term.proofs.Sides.{eqb-same}
use Rattle.core_term.specs.CoreTerm.{CoreTerm, var_term, nil_term, cat_term, cons_term, let_term, let_cat_term, case_sum_term, call_term, no_terms, term_before}
use Rattle.core_term.specs.Environment.{Environment, nothing, IsTyped, IsPartAt}
use Rattle.core_term.specs.Typing.{Context, types_of, is_before, with_name, with_parts, with_fact, IsTypedBody}
use Rattle.bunch.specs.Facts.{place_let}
use Rattle.bunch.proofs.NameLists.{one_name}
use Rattle.delta_state.specs.StateTree.{HeldName, LaterTree, StateTree, ArgumentTrees, sink, var_state, par_state, cat_state, let_state, let_par_state, let_cat_state, star_state, wait_state, frame_state, no_arguments, argument_before, free_in_wait}
use Rattle.delta_state.specs.StateTyping.{HasStateType, IsHeld, with_known, context_held, context_of_arguments, no_pasts}
use Rattle.delta_state.specs.Laws.{IsTypedState}
use Rattle.delta_state.specs.Settled.{is_settled}
use Rattle.state_rewriting.specs.MarksAtOnce.{marks_at_once}
use Rattle.state_rewriting.specs.Laws.{run_in}
use Rattle.state_rewriting.specs.Rewriting.{here, in_left, in_bound, in_let, in_arguments, in_body, at_first, unused, unused_pair, alias, pair, renamed, frames, returned, finished, alias_for, pair_for, Simpler, SimplerBy, as_it_is, one_more, row}
use Rattle.state_rewriting.proofs.SimplerStates.{simpler_keeps_run}

-- the arguments of a call with one parameter
abbrev single : ℕ → StreamType → StateTree → ArgumentTrees
single x t s = argument_before x t s no_arguments

-- A loop over a feed, `fun f(xs) = case xs of { nil => nil | y :: ys => y :: f(ys) }`, after an item was put
-- out: the item 1 is over, the rest 2 is what is left of the parameter 0, and the next call, of the parameter
-- 3, has it. As it is, each item would leave one call more
abbrev after_item : StateTree
after_item = frame_state (single 0 (star int) (var_state 9)) (let_state 1 eps (sink eps) (let_state 2 (star int) (var_state 0) (frame_state (single 3 (star int) (var_state 2)) (var_state 3))))

-- one call alone, on the feed itself
abbrev before_item : StateTree
before_item = frame_state (single 3 (star int) (var_state 9)) (var_state 3)

-- the item goes, since it isn't used; 0 is put in for 2, which isn't used then and goes; and both calls become
-- one. So the loop is after the item what it was before it
loop_stays : SimplerBy (star int) after_item before_item
loop_stays =
    one_more
    (one_more (one_more (one_more as_it_is (in_body refl (here (unused refl)))) (in_body refl (here (alias (in_arguments (at_first (here alias_for)))))))
    (in_body refl (here (unused refl))))
    (here (frames refl refl))

-- A loop with two outputs after an item: what the next call gives, 4, is taken apart into 5 and 6, and these are
-- put together again
abbrev two_outputs : StateTree
two_outputs = let_state 4 (par (star int) (star one)) before_item (let_par_state 5 6 4 (par_state (var_state 5) (var_state 6)))

-- A feed that is cut into sessions at each mark, `fun sessions(xs) = case xs of { nil => nil | x :: xt =>
-- let (ns; rest) = session(x :: xt) in ns :: sessions(rest) }`, behind a session. The call of `session` gives from the
-- mark on the rest of its feed, so it has become its parameter 0; it is bound to 13, and the next call of `sessions`, of
-- the parameter 8, has it. a is what a call of `sessions` is before anything comes
abbrev feed : StreamType
feed = star (sum int one)

abbrev after_session : StateTree → StateTree
after_session a = frame_state (single 8 feed (var_state 14)) (let_state 13 feed (frame_state (single 0 feed (var_state 8)) (var_state 0)) (frame_state (single 8 feed (var_state 13)) a))

-- the call of `session` gives way to its argument 8; 8 is put in for 13, which isn't used then and goes; and both
-- calls of `sessions` become one. So behind a session the state is what it was before it
session_leaves_nothing : (a : StateTree) → SimplerBy (star (star int)) (after_session a) (frame_state (single 8 feed (var_state 14)) a)
session_leaves_nothing a =
    one_more
    (one_more (one_more (one_more as_it_is (in_body refl (in_bound (here (returned refl))))) (in_body refl (here (alias (in_arguments (at_first (here alias_for)))))))
    (in_body refl (here (unused refl))))
    (here (frames refl refl))

-- numbers that the test tells apart
differ : (m n : ℕ) → eqb m n ≡ false → m ≢ n
differ m n f e = absurd (true≢false (sym (eqb-same n) ∙ (ap (λ k. eqb k n) (sym e) ∙ f)))

-- 4 is put in for the pair of 5 and 6, which aren't used then and go; and what 4 is bound to is all that follows
two_stay : SimplerBy (par (star int) (star one)) two_outputs before_item
two_stay =
    one_more (one_more (one_more as_it_is (in_let refl (here (pair (differ 5 6 refl) (differ 6 4 refl) (here pair_for))))) (in_let refl (here (unused_pair refl refl)))) (here renamed)

-- a side that gives nothing more is finished, whatever it was
over : Simpler (par eps int) (par_state (let_state 1 int (var_state 9) (sink eps)) (var_state 2)) (par_state (sink eps) (var_state 2))
over = in_left (here (finished refl))

-- A place at which a name must not be put in: under a destructuring of itself. The parameter 0 is finished, so
-- it stands before each name, itself too; 2 is an alias of it; 3 and 4 are its parts. Then 2 stands before 3,
-- and 0 doesn't. In the call inside, whose code is 5 before 6 and waits for 7, the argument 2 may be that of 5
-- and 3 that of 6; with 0 in the place of 2 the order isn't there any more.

-- a number comes on 9
abbrev outside : Context
outside = record { types = put 9 (Some int) (λ x. None); order = λ x y. false; past = no_pasts }

-- code that isn't reached, 5 and then 6
abbrev code : LaterTree
code = record { term = cat_term (var_term 5) (var_term 6); past = []; depth = 0 }

-- what is held of 7: nothing yet
abbrev held_number : HeldName
held_number = record { name = 7; type = int; prefix = int_emp }

-- of 5: all of a pair that gives nothing
abbrev held_first : HeldName
held_first = record { name = 5; type = par eps eps; prefix = par_both eps_emp eps_emp }

-- of 6: all of what gives nothing
abbrev held_second : HeldName
held_second = record { name = 6; type = eps; prefix = eps_emp }

-- it waits for 7
abbrev waits : StateTree
waits = wait_state 7 (cat (par eps eps) eps) (held_number ∷ (held_first ∷ (held_second ∷ []))) code

-- the arguments of the inner call, with s as that of 5
abbrev inner : StateTree → ArgumentTrees
inner s = argument_before 5 (par eps eps) s (argument_before 6 eps (var_state 3) (argument_before 7 int (var_state 1) no_arguments))

-- those of the outer call: 0 is finished, and 1 is the number
abbrev outer : ArgumentTrees
outer = argument_before 0 (par eps eps) (sink (par eps eps)) (argument_before 1 int (var_state 9) no_arguments)

-- the whole state, with s at the place in question
abbrev apart : StateTree → StateTree
apart s = frame_state outer (let_state 2 (par eps eps) (var_state 0) (let_par_state 3 4 0 (frame_state (inner s) waits)))

-- what is true of all that is held
of_three : (P : HeldName → Type 0) → P held_number → P held_first → P held_second → All P (held_number ∷ (held_first ∷ (held_second ∷ [])))
of_three P a b e = All-cons P held_number (held_first ∷ (held_second ∷ [])) a (All-cons P held_first (held_second ∷ []) b (All-cons P held_second [] e (All-nil P)))

-- the contexts on the way in: in the outer call
abbrev in_outer : Context
in_outer = context_of_arguments outside outer

-- with the alias 2 of 0
abbrev in_let_two : Context
in_let_two = with_name 2 (par eps eps) (place_let 2 (0 ∷ []) true in_outer.order) in_outer

-- with the parts 3 and 4 of 0
abbrev in_parts : Context
in_parts = with_parts 3 eps 4 eps 0 in_let_two

-- in the inner call
abbrev in_inner : StateTree → Context
in_inner s = context_of_arguments in_parts (inner s)

-- in the code, once 7 is whole
abbrev in_code : StateTree → Context
in_code s = with_known 7 int (context_held (held_number ∷ (held_first ∷ (held_second ∷ []))) (in_inner s).order)

module _ (counts : ℕ → Bool) where
  -- with the alias what is held leaves the types in the context,
  alias_held : IsHeld (in_inner (var_state 2)) (free_in_wait 7 code) (held_number ∷ (held_first ∷ (held_second ∷ [])))
  alias_held = record {
    are_prefixes = of_three (λ h. IsPrefix h.type h.prefix) tt (tt, tt) tt;
    are_left = of_three (λ h. (in_inner (var_state 2)).types h.name ≡ Some (der h.prefix h.type)) refl refl refl;
    are_free = λ x. refl;
    are_once = refl;
  }

  -- and 5 stands before 6
  alias_in_order : (x y : ℕ) → holds x (5 ∷ []) ≡ true → holds y (6 ∷ []) ≡ true → is_before (in_code (var_state 2)) x y ≡ true
  alias_in_order x y m n = subst (λ u. is_before (in_code (var_state 2)) u y ≡ true) (sym (one_name x 5 m)) (subst (λ u. is_before (in_code (var_state 2)) 5 u ≡ true) (sym (one_name y 6 n)) refl)

  -- so the state is typed with the alias,
  with_alias : HasStateType [] counts outside (apart (var_state 2)) (cat (par eps eps) eps)
  with_alias = (
    ((refl, refl), (refl, tt)),
    (
      refl,
      (
        differ 3 0 refl,
        refl,
        (
          (refl, (refl, (refl, tt))),
          (
            refl,
            alias_held,
            record {
              subject_typed = refl;
              subject_not_null = refl;
              rest_typed = record { has_values = All-nil (λ e. HasValueType (past e.type) e.value); has_type = (refl, refl, alias_in_order); binds_apart = (tt, tt) };
            },
          ),
        ),
      ),
    ),
  )

  -- and settled
  alias_settled : is_settled (apart (var_state 2)) (cat (par eps eps) eps) ≡ true
  alias_settled = refl

  -- with the name that the alias stands for it isn't typed
  without_alias : HasStateType [] counts outside (apart (var_state 0)) (cat (par eps eps) eps) → ⊥
  without_alias h = true≢false (sym (h.1.1.2.1.2.rest_typed.has_type.2 5 6 refl refl))

-- A loop that cuts a feed of numbers and marks at the next mark,
-- `fun f(xs) = case xs of { nil => (nil; nil) | x :: xt => case x of { inl n => let (ns; rest) = f(xt) in (n :: ns; rest) | inr m => (nil; xt) } }`

-- an item of the feed, and what the loop gives
abbrev marked_feed : StreamType
marked_feed = star (sum int one)

abbrev session : StreamType
session = cat (star int) marked_feed

-- code without values
abbrev plain_code : CoreTerm → LaterTree
plain_code e = record { term = e; past = []; depth = 0 }

-- after a number n: the parts 5 and 6 of what the next call gives, and n before them
abbrev one_number : CoreTerm
one_number = let_term 4 session (call_term 0 [] (term_before (var_term 2) no_terms)) (let_cat_term 5 6 4 (cat_term (cons_term (var_term 7) (var_term 5)) (var_term 6)))

-- a call of the loop, with the name u as its feed, that waits for an item
abbrev cuts : ℕ → StateTree
cuts u =
    frame_state (single 3 marked_feed (var_state u))
    (star_state 3 session (record { name = 3; type = marked_feed; prefix = star_emp } ∷ []) (plain_code (cat_term nil_term nil_term)) 1 2
    (plain_code (case_sum_term 1 session 7 one_number 8 (cat_term nil_term (var_term 2)))))

-- what a sequence of numbers and of the feed gives is 4, and its parts 5 and 6 are put together again
abbrev put_together : StateTree → StateTree
put_together s = let_state 4 session s (let_cat_state 5 6 4 (cat_state (var_state 5) (plain_code (var_term 6))))

-- what is left of a call after a number was put out: the item 1 is over, 2 is what is left of the parameter 0, and
-- 4 is what the next call gives
abbrev after_number : StateTree
after_number = frame_state (single 0 marked_feed (var_state 9)) (let_state 1 eps (sink eps) (let_state 2 marked_feed (var_state 0) (put_together (cuts 2))))

-- in each branch the next call gives its mark with the end of the numbers, so the pair goes; and the loop is after
-- the number what it was before it. As it is, each number would leave a binding more
cut_stays : SimplerBy session after_number (cuts 9)
cut_stays =
    one_more
    (one_more
    (one_more (one_more (one_more as_it_is (in_body refl (here (unused refl)))) (in_body refl (here (alias (in_bound (in_arguments (at_first (here alias_for))))))))
    (in_body refl (here (unused refl))))
    (in_body refl (here (row refl refl refl))))
    (here (frames refl refl))

-- The same with the name 9 in the place of the call: its mark may come later than its first part ends, and the pair
-- would give it at once
abbrev late : StateTree
late = let_state 4 (cat int int) (var_state 9) (let_cat_state 5 6 4 (cat_state (var_state 5) (plain_code (var_term 6))))

-- so the test is false of it
name_is_late : marks_at_once (var_state 9) ≡ false
name_is_late = refl

-- a number comes on 9, and then another one
abbrev two_numbers : Context
two_numbers = record { types = put 9 (Some (cat int int)) (λ x. None); order = λ x y. false; past = no_pasts }

-- the first has come, and the mark hasn't
abbrev first_alone : Environment
first_alone = put 9 (cat_fst (int_full (pos 1))) nothing

-- then the name gives the number alone,
name_gives : (run_in [] two_numbers (cat int int) (var_state 9) first_alone).out ≡ cat_fst (int_full (pos 1))
name_gives = refl

-- and the pair gives the mark too
pair_gives : (run_in [] two_numbers (cat int int) late first_alone).out ≡ cat_both (int_full (pos 1)) int_emp
pair_gives = refl

-- the context of the pair
abbrev in_pair : Context
in_pair = with_fact 5 6 (with_parts 5 int 6 int 4 (with_name 4 (cat int int) (place_let 4 (9 ∷ []) true two_numbers.order) two_numbers))

late_in_order : (x y : ℕ) → holds x (5 ∷ []) ≡ true → holds y (6 ∷ []) ≡ true → is_before in_pair x y ≡ true
late_in_order x y m n = subst (λ u. is_before in_pair u y ≡ true) (sym (one_name x 5 m)) (subst (λ u. is_before in_pair 5 u ≡ true) (sym (one_name y 6 n)) refl)

-- the pair is typed,
late_typed : IsTypedState [] two_numbers late (cat int int)
late_typed = record {
  funs_typed = All-nil (IsTypedBody []);
  none_past = λ x. refl;
  state_typed = (
    refl,
    (
      record { from_subject = differ 5 4 refl; from_second = differ 5 6 refl },
      refl,
      (refl, record { has_values = All-nil (λ e. HasValueType (past e.type) e.value); has_type = refl; binds_apart = tt }, late_in_order),
    ),
  );
}

-- the prefixes are of their types,
first_typed : IsTyped (types_of two_numbers) first_alone
first_typed x = go (eqb x 9)
  where
    go : (b : Bool) → IsPrefix (unwrap_or (if b then Some (cat int int) else None) eps) (if b then cat_fst (int_full (pos 1)) else eps_emp)
    go true = tt
    go false = tt

-- and each is part of itself
first_stays : IsPartAt (types_of two_numbers) first_alone first_alone
first_stays x = part_refl (derives (types_of two_numbers x) (first_alone x) (first_typed x))

-- so no rewriting puts the name in the place of the pair, since it would give less
name_stays : Simpler (cat int int) late (var_state 9) → ⊥
name_stays h =
    let same : cat_fst (int_full (pos 1)) ≡ cat_both (int_full (pos 1)) int_emp = (simpler_keeps_run [] two_numbers (cat int int) late (var_state 9) first_alone first_alone late_typed h first_typed first_stays).same in
    cc same
