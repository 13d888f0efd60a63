-- Single derivations, and terms that have none.
use Rattle.std.proofs.Common.{◌≡◌, ℕ, Bool, true, false, true≢false, [], ◌∷◌, inl, inr, ◌⊎◌, if◌then◌else◌, eqb, ◌<◌, refl, sym, arith}
use Rattle.stream_type.specs.StreamType.{StreamType, one, int, cat, par, sum}
use Rattle.bunch.specs.BunchTree.{BunchTree, leaf, comma, semi}
use Rattle.hist_value.specs.HistExpr.{variable}
use Rattle.hist_value.specs.Typing.{gives_variable}
use Rattle.core_term.specs.CoreTerm.{CoreTerm, CoreBody, var_term, eps_term, unit_term, past_term, par_term, cat_term, let_term, let_cat_term, case_sum_term, wait_term, call_term, no_terms, term_before, fun_at}
use Rattle.core_term.specs.Agreement.{types_in}
use Rattle.core_term.specs.Inert.{is_inert, is_inert_fun}
use Rattle.bunch_rules.specs.Rearranging.{to_left, to_right, right_here, left_of_comma, right_of_semi, stays_first, swap_step, Becomes, dropped, loosened, left_unit_of_comma}
use Rattle.bunch_rules.specs.Derivation.{WaitTheirTurn, IsDerivedBody, rearranged, var_rule, unit_rule, past_rule, par_rule, cat_rule, let_rule, let_cat_rule, case_sum_rule, wait_rule, call_rule, shared, leaf_shared, semi_shared}
use Rattle.bunch_rules.proofs.Parts.{two_names}
use Rattle.bunch_rules.proofs.Programs.{derived_body_is_typed}

-- a body with parameters and a result
abbrev body : BunchTree → StreamType → CoreTerm → CoreBody
body params r e = record { past = []; params = params; result = r; body = e }

-- `x : Int; y : Int`, x being 0 and y 1
abbrev in_turn : BunchTree
in_turn = semi (leaf 0 int) (leaf 1 int)

-- `(x; y)` has three rules and no step
pair_in_turn : IsDerivedBody [] (body in_turn (cat int int) (cat_term (var_term 0) (var_term 1)))
pair_in_turn = cat_rule (var_rule (refl, refl)) (var_rule (refl, refl))

-- the sides of a semicolon don't change places
no_swap_of_semi : {b c e : BunchTree} → Becomes swap_step (semi b c) e → ⊥
no_swap_of_semi h = elim h [ ]

-- `(y; x)` has no derivation at all, since it isn't typed
abbrev turned_pair : CoreBody
turned_pair = body in_turn (cat int int) (cat_term (var_term 1) (var_term 0))

turned_pair_is_not_derived : IsDerivedBody [] turned_pair → ⊥
turned_pair_is_not_derived i = true≢false (sym ((derived_body_is_typed [] 2 turned_pair (λ f. tt) (record { is_once = refl; has_text = λ x m. few x (two_names x 0 1 m) }) i).2 1 0 refl refl))
  where
    few : (x : ℕ) → (x ≡ 0) ⊎ (x ≡ 1) → x < 2
    few x (inl e) = omega arith
    few x (inr e) = omega arith

-- `(x, y)` after `loosen`, and as it is
pair_loosened : IsDerivedBody [] (body in_turn (par int int) (par_term (var_term 0) (var_term 1)))
pair_loosened = rearranged loosened right_here (par_rule (var_rule (inl (refl, refl))) (var_rule (inr (refl, refl))))

pair_as_it_is : IsDerivedBody [] (body in_turn (par int int) (par_term (var_term 0) (var_term 1)))
pair_as_it_is = par_rule (var_rule (inl (refl, refl))) (var_rule (inr (refl, refl)))

-- a let of `()`, which isn't inert: it may not stand right of the semicolon, but beside both sides it may
unit_is_not_inert : is_inert (fun_at []) (is_inert_fun []) unit_term one ≡ false
unit_is_not_inert = refl

right_is_not_first : stays_first (to_right ∷ []) in_turn ≡ false
right_is_not_first = refl

left_is_first : stays_first (to_left ∷ []) in_turn ≡ true
left_is_first = refl

-- `let u = () in (u, y)`, u being 2
unit_beside : IsDerivedBody [] (body in_turn (par one int) (let_term 2 one unit_term (par_term (var_term 2) (var_term 1))))
unit_beside = let_rule {p = []} right_here (inr refl) unit_rule (par_rule (var_rule (inr (refl, refl))) (var_rule (inl (inr (refl, refl)))))

-- `let u = y in (x; u)`: y is inert, so u may stand beside it, right of the semicolon
renamed_in_turn : IsDerivedBody [] (body in_turn (cat int int) (let_term 2 int (var_term 1) (cat_term (var_term 0) (var_term 2))))
renamed_in_turn = let_rule {p = to_right ∷ []} (right_of_semi right_here) (inl refl) (var_rule (refl, refl)) (cat_rule (var_rule (refl, refl)) (var_rule (inr (refl, refl))))

-- `let (u; v) = z in (u; v)` for `z : Int . Int`, u being 1 and v 2: z is dropped first, and then the empty side
split_in_turn : IsDerivedBody [] (body (leaf 0 (cat int int)) (cat int int) (let_cat_term 1 2 0 (cat_term (var_term 1) (var_term 2))))
split_in_turn =
    let_cat_rule right_here
    (rearranged dropped (left_of_comma right_here)
    (rearranged left_unit_of_comma right_here (cat_rule (var_rule (refl, refl)) (var_rule (refl, refl)))))

-- `wait x in {x}`: the name leaves the bunch, and its value is known
waited_for : IsDerivedBody [] (body (leaf 0 int) int (wait_term 0 int (past_term (variable 0))))
waited_for = wait_rule refl right_here (past_rule (gives_variable refl refl))

-- `case z of { inl u => u | inr v => y }` for `z : Int + 1, y : Int`, y being 1, u 2 and v 3
chosen : IsDerivedBody [] (body (comma (leaf 0 (sum int one)) (leaf 1 int)) int (case_sum_term 0 int 2 (var_term 2) 3 (var_term 1)))
chosen = case_sum_rule (left_of_comma right_here) (var_rule (inl (inr (refl, refl)))) (left_of_comma right_here) (var_rule (inr (refl, refl)))

-- a call of a function with the parameters `u : Int; v : Int`, from a bunch of the same shape: `f(x, y)`
abbrev pairing : CoreBody
pairing = body in_turn (cat int int) (cat_term (var_term 0) (var_term 1))

called : IsDerivedBody (pairing ∷ []) (body in_turn (cat int int) (call_term 0 [] (term_before (var_term 0) (term_before (var_term 1) no_terms))))
called = call_rule refl refl tt (shared (semi_shared (leaf_shared (var_rule (refl, refl))) (leaf_shared (var_rule (refl, refl))))) still
  where
    inert : (a b : Bool) (t : StreamType) → is_inert (fun_at (pairing ∷ [])) (is_inert_fun (pairing ∷ [])) (if a then var_term 0 else (if b then var_term 1 else eps_term)) t ≡ true
    inert true b t = refl
    inert false true t = refl
    inert false false t = refl

    still : WaitTheirTurn (pairing ∷ []) (is_inert_fun (pairing ∷ [])) pairing (term_before (var_term 0) (term_before (var_term 1) no_terms))
    still u v k = inert (eqb v 0) (eqb v 1) (types_in in_turn v)
