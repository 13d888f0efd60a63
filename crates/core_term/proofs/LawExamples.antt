-- What the laws of meaning speak of, at single programs: that their premises hold of some, and what would
-- be false without them. Each answer was worked out by hand, and the check computes it.
use Rattle.std.proofs.Common.{◌≡◌, ℕ, pos, Bool, true, false, eqb, if◌then◌else◌, true≢false, List, [], ◌∷◌, ℤ, ap, refl, sym, ltb, ◌<◌}
use Rattle.std.proofs.lemmas.Bool.{ltb-true}
use Rattle.std.proofs.lemmas.List.Elements.{All-nil, All-cons}
use Rattle.std.specs.Prelude.{Option, Some, None}
use Rattle.std.specs.List.{list_all}
use Rattle.stream_type.specs.StreamType.{one, int, par, star}
use Rattle.stream_prefix.specs.StreamPrefix.{StreamPrefix, IsPrefix, IsPart, one_emp, one_full, int_emp, int_full, par_both, star_emp, star_done, star_rest}
use Rattle.bunch.specs.Names.{put, holds}
use Rattle.bunch.specs.BunchTree.{leaf}
use Rattle.hist_value.specs.declared.expr.Op.TheVariants.{Mul}
use Rattle.hist_value.specs.HistExpr.{variable, literal, reckoned}
use Rattle.hist_value.specs.Renaming.{IsFreeFor, renamed_variable, renamed_literal, renamed_reckoned}
use Rattle.hist_value.specs.Typing.{gives_variable, gives_literal, gives_reckoned}
use Rattle.core_term.specs.CoreTerm.{CoreTerm, CoreBody, CoreProgram, var_term, unit_term, nil_term, past_term, par_term, cons_term, let_term, case_star_term, wait_term, call_term, no_terms, term_before, fun_at}
use Rattle.core_term.specs.FreeNames.{IsBoundOnce, IsCore}
use Rattle.core_term.specs.FreePast.{is_free_past}
use Rattle.core_term.specs.Inert.{is_inert, is_inert_fun}
use Rattle.core_term.specs.Meaning.{no_past, call_at, main_run, run_at, mean}
use Rattle.core_term.specs.Typing.{IsTypedBody, IsTypedCore}
use Rattle.core_term.specs.Renaming.{Scope, numbered, leaf_renamed, IsRenamedTerm, var_renamed, nil_renamed, let_renamed, par_renamed, past_renamed, cons_renamed, case_star_renamed, wait_renamed, call_renamed, none_renamed, before_renamed, no_terms_renamed, IsRenamedBody}
use Rattle.core_term.proofs.Sides.{all-holds}
use Rattle.core_term.proofs.TypedRuns.{mean_is_typed, mean_grows}
use Rattle.core_term.proofs.RenamedPrograms.{renamed_program_run}

-- each name of the list is below the number
below : (n : ℕ) (xs : List ℕ) → list_all (λ x. ltb x n) xs ≡ true → (x : ℕ) → holds x xs ≡ true → x < n
below n xs h x m = ltb-true x n (all-holds (λ y. ltb y n) xs h x m)

-- fun twice(xs : Int*) : Int* = case xs of { nil => nil | y :: ys => wait y in ({y * 2} :: twice(ys)) }
abbrev twice : CoreBody
twice = record {
  past = [];
  params = leaf 0 (star int);
  result = star int;
  body = case_star_term 0 (star int) nil_term 1 2 (wait_term 1 (star int) (cons_term (past_term (reckoned Mul (variable 1) (literal (pos 2)))) (call_term 0 [] (term_before (var_term 2) no_terms))));
}

-- main(xs : Int*) : Int* = twice(xs)
abbrev doubled : CoreProgram
doubled = record {
  funs = twice ∷ [];
  main = record { past = []; params = leaf 0 (star int); result = star int; body = call_term 0 [] (term_before (var_term 0) no_terms) };
  texts = [] ∷ ([] ∷ ([] ∷ []));
}

-- the program is typed and binds each name once: the laws speak of it
doubled-typed : IsTypedCore doubled
doubled-typed = record {
  funs_typed = All-cons (IsTypedBody (twice ∷ [])) twice [] (
    refl,
    refl,
    refl,
    (
      refl,
      refl,
      refl,
      (
        gives_reckoned (gives_variable refl refl) (gives_literal refl) refl,
        (refl, refl, tt, (refl, tt), λ u v o. absurd (true≢false (sym o))),
        λ x y m n. absurd (true≢false (sym m)),
      ),
    ),
  ) (All-nil (IsTypedBody (twice ∷ [])));
  main_typed = (refl, refl, tt, (refl, tt), λ u v o. absurd (true≢false (sym o)));
}

doubled-core : IsCore doubled
doubled-core = record {
  funs_once = All-cons (IsBoundOnce 3) twice [] (record { is_once = refl; has_text = below 3 (0 ∷ (1 ∷ (2 ∷ []))) refl }) (All-nil (IsBoundOnce 3));
  main_once = record { is_once = refl; has_text = below 3 (0 ∷ []) refl };
  main_past = refl;
}

-- a whole list is doubled whole, with one call more than it has items
doubled-whole : main_run (fun_at doubled.funs) 5 doubled.main (star_rest (int_full (pos 3)) star_done) ≡ record { out = star_rest (int_full (pos 6)) star_done; calls = 2; level = 1 }
unfolding call_at
doubled-whole = refl

-- with a depth of 1 a call stands at depth 0 and gives nothing: there are two calls, more than the depth, and
-- what is given isn't whole
doubled-cut : main_run (fun_at doubled.funs) 1 doubled.main (star_rest (int_full (pos 3)) star_done) ≡ record { out = star_rest (int_full (pos 6)) star_emp; calls = 2; level = 1 }
unfolding call_at
doubled-cut = refl

-- so what it gives is a list of numbers, and on more input no less
doubled-gives : (n : ℤ) → IsPrefix (star int) (mean doubled (star_rest (int_full n) star_emp))
doubled-gives n = mean_is_typed doubled doubled-core doubled-typed (star_rest (int_full n) star_emp) (tt, refl, tt)

doubled-grows : (n : ℤ) → IsPart (star int) (mean doubled star_emp) (mean doubled (star_rest (int_full n) star_emp))
doubled-grows n = (mean_grows doubled doubled-core doubled-typed star_emp (star_rest (int_full n) star_emp) tt (record { rest = star_rest (int_full n) star_emp; comes = (tt, refl, tt); joins = refl })).0

-- the same program with other names: xs is 2, y is 0 and ys is 1
abbrev twice_other : CoreBody
twice_other = record {
  past = [];
  params = leaf 2 (star int);
  result = star int;
  body = case_star_term 2 (star int) nil_term 0 1 (wait_term 0 (star int) (cons_term (past_term (reckoned Mul (variable 0) (literal (pos 2)))) (call_term 0 [] (term_before (var_term 1) no_terms))));
}

abbrev doubled_other : CoreProgram
doubled_other = record {
  funs = twice_other ∷ [];
  main = record { past = []; params = leaf 1 (star int); result = star int; body = call_term 0 [] (term_before (var_term 1) no_terms) };
  texts = [] ∷ ([] ∷ ([] ∷ []));
}

doubled_other-core : IsCore doubled_other
doubled_other-core = record {
  funs_once = All-cons (IsBoundOnce 3) twice_other [] (record { is_once = refl; has_text = below 3 (2 ∷ (0 ∷ (1 ∷ []))) refl }) (All-nil (IsBoundOnce 3));
  main_once = record { is_once = refl; has_text = below 3 (1 ∷ []) refl };
  main_past = refl;
}

twice-renamed : IsRenamedBody twice twice_other
twice-renamed = record {
  same_past = refl;
  like_params = leaf_renamed;
  same_result = refl;
  like_body = case_star_renamed refl nil_renamed first second (wait_renamed refl (λ y e. absurd (cc e)) (cons_renamed (past_renamed (renamed_reckoned (renamed_variable refl) renamed_literal)) (call_renamed none_renamed (before_renamed (var_renamed refl) no_terms_renamed))));
}
  where
    some : ℕ → Option ℕ
    some n = Some n

    not_zero : (b : Bool) → (if b then some 2 else None) ≡ some 0 → ⊥
    not_zero true e = absurd (cc e)
    not_zero false e = absurd (cc e)

    first : IsFreeFor (numbered (0 ∷ []) (2 ∷ [])) 1 0
    first y e = absurd (not_zero (eqb y 0) e)

    not_one : (a b : Bool) → (if a then some 0 else (if b then some 2 else None)) ≡ some 1 → ⊥
    not_one true b e = absurd (cc e)
    not_one false true e = absurd (cc e)
    not_one false false e = absurd (cc e)

    second : IsFreeFor (put 1 (Some 0) (numbered (0 ∷ []) (2 ∷ []))) 2 1
    second y e = absurd (not_one (eqb y 1) (eqb y 0) e)

-- it gives the same
doubled-renamed : (p : StreamPrefix) → mean doubled p ≡ mean doubled_other p
doubled-renamed p =
    ap (λ a. a.out) (renamed_program_run doubled doubled_other doubled_other-core (record {
      like_funs = (twice-renamed, tt);
      like_main = record { same_past = refl; like_params = leaf_renamed; same_result = refl; like_body = call_renamed none_renamed (before_renamed (var_renamed refl) no_terms_renamed) };
    }) p)

-- fun same(x : 1) : 1 = x
abbrev same : List CoreBody
same = record { past = []; params = leaf 0 one; result = one; body = var_term 0 } ∷ []

-- `same(x)` is inert, and makes a call on nothing
same-inert : is_inert (fun_at same) (is_inert_fun same) (call_term 0 [] (term_before (var_term 0) no_terms)) one ≡ true
same-inert = refl

same-calls : run_at (fun_at same) 5 (call_term 0 [] (term_before (var_term 0) no_terms)) (λ x. one) one (λ x. one_emp) no_past ≡ record { out = one_emp; calls = 1; level = 1 }
unfolding call_at
same-calls = refl

-- `let y = (x, ()) in same(())`
abbrev late : CoreTerm
late = let_term 1 (par one one) (par_term (var_term 0) unit_term) (call_term 0 [] (term_before unit_term no_terms))

-- the level isn't monotone: the call stands one deeper until x has come
late-before : (run_at (fun_at same) 5 late (λ x. one) one (λ x. one_emp) no_past).level ≡ 2
unfolding call_at
late-before = refl

late-after : (run_at (fun_at same) 5 late (λ x. one) one (λ x. one_full) no_past).level ≡ 1
unfolding call_at
late-after = refl

-- a wait binds its subject as a historical name, and no other name is free in what follows
wait-binds : is_free_past 1 (wait_term 1 int (past_term (variable 1))) ≡ false
wait-binds = refl

wait-leaves : is_free_past 2 (wait_term 1 int (past_term (variable 2))) ≡ true
wait-leaves = refl

-- `let y = {5} in (x, y)`, with x as 0 and y as 1
abbrev paired : ℕ → CoreTerm
paired y = let_term y int (past_term (literal (pos 5))) (par_term (var_term 0) (var_term y))

-- x keeps its number
abbrev keeps_x : Scope
keeps_x = put 0 (Some 0) (λ x. None)

-- y may be called 7
paired-renamed : IsRenamedTerm keeps_x (λ x. None) (paired 1) (paired 7)
paired-renamed = let_renamed (past_renamed renamed_literal) free (par_renamed (var_renamed refl) (var_renamed refl))
  where
    zeroth : Option ℕ
    zeroth = Some 0

    seven : (c : Bool) → (if c then zeroth else None) ≡ Some 7 → ⊥
    seven true e = absurd (cc e)
    seven false e = absurd (cc e)

    free : (y : ℕ) → keeps_x y ≡ Some 7 → y ≡ 1
    free y e = absurd (seven (eqb y 0) e)

-- and not 0, which is x's number
paired-other : run_at (fun_at []) 5 (paired 1) (λ x. int) (par int int) (λ x. int_emp) no_past ≡ record { out = par_both int_emp (int_full (pos 5)); calls = 0; level = 0 }
paired-other = refl

paired-captured : run_at (fun_at []) 5 (paired 0) (λ x. int) (par int int) (λ x. int_emp) no_past ≡ record { out = par_both (int_full (pos 5)) (int_full (pos 5)); calls = 0; level = 0 }
paired-captured = refl
