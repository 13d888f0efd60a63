-- What the tokens of each part do to the names that are told token by token.
use Rattle.std.proofs.Common.{◌≡◌, ◌∙◌, ℕ, ◌+◌, Bool, true, false, ◌&&◌, List, [], ◌∷◌, ◌++◌, map, Option, Some, None, refl, sym, ap, subst, arith, append_assoc, append-nil, inl, inr}
use Rattle.std.proofs.lemmas.Bool.{and_parts}
use Rattle.grammar.specs.Rules.{Sort, token as token_sort, thing, one_of, part, both, either, maybe, placed, make}
use Rattle.grammar.proofs.Tests.{implied, implied_is}
use Rattle.delta_tree.specs.SyntaxTree.{WrittenType, WrittenContext, WrittenHist, Expression, Head, WrittenFunction, WrittenAlias, Declaration, alias_declared, function_declared}
use Rattle.delta_parse.specs.declared.terminal.Terminal.{Terminal}
use Rattle.delta_parse.specs.declared.terminal.Terminal.TheVariants.{InWord, CaseWord, InlWord, InrWord, NilWord, EpsWord, FoldWord, FromWord, Close, CloseBrace, Comma, Semicolon, Colon, Colons, Equals, Arrow, Dot, NameToken}
use Rattle.delta_parse.specs.Terminals.{Tok, is_kind}
use Rattle.delta_parse.specs.Parts.{expression_thing, Pattern, one_name, two_at_once, two_in_turn, Arms, sum_arms, star_arms, Thing, Part, a_program, declarations, a_declaration, a_main, a_past, an_entry, more_entries, parameters, a_context, more_commas, more_semicolons, an_item, a_type, a_par, a_cat, a_star, more_stars, a_base, an_expression, a_pattern, a_head, an_application, an_atom, an_ending, the_arms, arguments, more_histories, more_expressions, a_history, a_comparison, a_sum, more_summands, a_product, more_factors, a_unary, a_history_atom, stands_for, Meant, RuleFor}
use Rattle.delta_parse.specs.Rules.{sign, is_separator, alias_rule, function_rule, let_rule, wait_rule, if_rule, cons_rule, name_rule, bracket_rule, braces_rule, case_rule, branch_rule, fold_rule, choice_rule, hist_cons_rule, entry_items_rule, past_rule, given_past_rule, parameters_rule, main_rule, rule_of}
use Rattle.delta_parse.specs.Actions.{let_with, case_with, pattern_with, context_with, context_from, given_or_none, more_of, more_behind, eps_of, nil_of, function_with, main_from}
use Rattle.delta_parse.specs.Bindings.{none_bound}
use Rattle.delta_parse.proofs.Tables.{every, every_is}
use Rattle.text_laws.specs.TreeNames.{same_names, bound_in, twice_in, bound_in_head, twice_in_head, parameter_names, header_names, IsNamedProgram}
use Rattle.text_laws.proofs.TokenKinds.{kind_is}
use Rattle.text_laws.proofs.Splits.{OptionSays, Says}
use Rattle.text_laws.proofs.NameRuns.{Stand, at_body, at_header, at_type, at_first, at_bound, Fine, fine-front, fine-join, Steps, joins, told_as, Same, same_join, still, is_quiet, is_of_type, AreOfType, quiet, types_in_body, types_in_header, let_word, with_word, of_word, bar, open_first, brace_first, inl_first, inr_first, nil_first, arrow_behind, equals_behind, first_name, two_names, is_between}
use Rattle.text_laws.proofs.HeaderRuns.{Binds, binds_join, named_as, silent, parameter_name, colon_begins, colon_goes_on, bracket_opens, bracket_closes, type_closes, brace_opens, brace_closes, comma_parts, semicolon_parts, equals_ends}
use Rattle.text_laws.proofs.DeclarationRuns.{Tails, body_tail, tail_front, AreWell, Declares, declares_join, declares_none, alias_declares, function_declares, Mains, main_mains}
use Rattle.text_laws.proofs.PartNumbers.{names_at, twice_at, pattern_bound, pattern_twice, arms_bound, arms_twice, hist_bound, hist_twice, Measure, head_numbers, application_numbers, ending_numbers, arguments_numbers, wait_numbers, if_numbers, cons_numbers, name_numbers, bracket_numbers, braces_numbers, histories_numbers, expressions_numbers, hist_cons_numbers, comparison_numbers, sum_numbers, product_numbers, summands_numbers, factors_numbers, unary_numbers, history_atom_numbers}

abbrev pub entry_names : List (ℕ × WrittenType) → List ℕ
entry_names ps = map (λ p. p.0) ps

-- the tokens of a program, behind no names
pub record Programs (u : List Tok) (ds : List Declaration) (m : WrittenFunction) : Type 0 where
  pub forth : Fine none_bound u → IsNamedProgram ds m
  pub back : IsNamedProgram ds m → Fine none_bound u

-- what the tokens of a part do: they declare, bind in a header, are those of a type, or bind in a body
abbrev pub PartSays : (p : Part) → List Tok → Meant (stands_for p) → Type 0
PartSays a_program u v = Programs u v.0 v.1
PartSays declarations u v = Declares u v
PartSays a_declaration u v = Declares u (v ∷ [])
PartSays a_main u v = Mains u v
PartSays a_past u v = Binds at_header at_header u (entry_names v)
PartSays an_entry u v = Binds at_header at_type u (v.0 ∷ [])
PartSays more_entries u v = Binds at_type at_type u (entry_names v)
PartSays parameters u v = (t : Tok) → is_kind Colon t.kind ≡ true → Binds at_header at_type (u ++ (t ∷ [])) (parameter_names v)
PartSays a_context u v = Binds at_header at_type u (parameter_names v)
PartSays more_commas u v = Binds at_header at_type u (parameter_names v)
PartSays more_semicolons u v = Binds at_header at_type u (parameter_names v)
PartSays an_item u v = Binds at_header at_type u (parameter_names v)
PartSays a_type u v = AreOfType u
PartSays a_par u v = AreOfType u
PartSays a_cat u v = AreOfType u
PartSays a_star u v = AreOfType u
PartSays more_stars u v = AreOfType u
PartSays a_base u v = AreOfType u
PartSays a_pattern u v = (t : Tok) → is_kind Equals t.kind ≡ true → Steps at_first at_body (u ++ (t ∷ [])) (pattern_bound v) (pattern_twice v)
PartSays the_arms u v = Steps at_first at_body u (arms_bound v) (arms_twice v)
PartSays an_expression u v = Steps at_body at_body u (names_at an_expression v) (twice_at an_expression v)
PartSays a_head u v = Steps at_body at_body u (names_at a_head v) (twice_at a_head v)
PartSays an_application u v = Steps at_body at_body u (names_at an_application v) (twice_at an_application v)
PartSays an_atom u v = Steps at_body at_body u (names_at an_atom v) (twice_at an_atom v)
PartSays an_ending u v = Steps at_body at_body u (names_at an_ending v) (twice_at an_ending v)
PartSays arguments u v = Steps at_body at_body u (names_at arguments v) (twice_at arguments v)
PartSays more_histories u v = Steps at_body at_body u (names_at more_histories v) (twice_at more_histories v)
PartSays more_expressions u v = Steps at_body at_body u (names_at more_expressions v) (twice_at more_expressions v)
PartSays a_history u v = Steps at_body at_body u (names_at a_history v) (twice_at a_history v)
PartSays a_comparison u v = Steps at_body at_body u (names_at a_comparison v) (twice_at a_comparison v)
PartSays a_sum u v = Steps at_body at_body u (names_at a_sum v) (twice_at a_sum v)
PartSays more_summands u v = Steps at_body at_body u (names_at more_summands v) (twice_at more_summands v)
PartSays a_product u v = Steps at_body at_body u (names_at a_product v) (twice_at a_product v)
PartSays more_factors u v = Steps at_body at_body u (names_at more_factors v) (twice_at more_factors v)
PartSays a_unary u v = Steps at_body at_body u (names_at a_unary v) (twice_at a_unary v)
PartSays a_history_atom u v = Steps at_body at_body u (names_at a_history_atom v) (twice_at a_history_atom v)

abbrev SaysOf : {s : Sort Thing} → RuleFor s → List Tok → Meant s → Type 0
SaysOf a u v = Says PartSays a u v

-- TYPES

abbrev is_type : Part → Bool
is_type a_type = true
is_type a_par = true
is_type a_cat = true
is_type a_star = true
is_type more_stars = true
is_type a_base = true
is_type _ = false

-- a rule of types alone
abbrev makes_type : {s : Sort Thing} → RuleFor s → Bool
makes_type (one_of is) = every (λ k. implied (is k) (is_of_type k))
makes_type (part p) = is_type p
makes_type (both a b) = makes_type a && makes_type b
makes_type (either a b) = makes_type a && makes_type b
makes_type (maybe a) = makes_type a
makes_type (placed a) = makes_type a
makes_type (make f a) = makes_type a

type_append : (x y : List Tok) → AreOfType x → AreOfType y → AreOfType (x ++ y)
type_append [] y h g = g
type_append (t ∷ x) y (a, h) g = (a, type_append x y h g)

type_part : (p : Part) (u : List Tok) (v : Meant (stands_for p)) → is_type p ≡ true → PartSays p u v → AreOfType u
type_part a_program u v h g = absurd (cc h)
type_part declarations u v h g = absurd (cc h)
type_part a_declaration u v h g = absurd (cc h)
type_part a_main u v h g = absurd (cc h)
type_part a_past u v h g = absurd (cc h)
type_part an_entry u v h g = absurd (cc h)
type_part more_entries u v h g = absurd (cc h)
type_part parameters u v h g = absurd (cc h)
type_part a_context u v h g = absurd (cc h)
type_part more_commas u v h g = absurd (cc h)
type_part more_semicolons u v h g = absurd (cc h)
type_part an_item u v h g = absurd (cc h)
type_part a_type u v h g = g
type_part a_par u v h g = g
type_part a_cat u v h g = g
type_part a_star u v h g = g
type_part more_stars u v h g = g
type_part a_base u v h g = g
type_part an_expression u v h g = absurd (cc h)
type_part a_pattern u v h g = absurd (cc h)
type_part a_head u v h g = absurd (cc h)
type_part an_application u v h g = absurd (cc h)
type_part an_atom u v h g = absurd (cc h)
type_part an_ending u v h g = absurd (cc h)
type_part the_arms u v h g = absurd (cc h)
type_part arguments u v h g = absurd (cc h)
type_part more_histories u v h g = absurd (cc h)
type_part more_expressions u v h g = absurd (cc h)
type_part a_history u v h g = absurd (cc h)
type_part a_comparison u v h g = absurd (cc h)
type_part a_sum u v h g = absurd (cc h)
type_part more_summands u v h g = absurd (cc h)
type_part a_product u v h g = absurd (cc h)
type_part more_factors u v h g = absurd (cc h)
type_part a_unary u v h g = absurd (cc h)
type_part a_history_atom u v h g = absurd (cc h)

mutual
  type_rule : {s : Sort Thing} → (a : RuleFor s) (u : List Tok) (v : Meant s) → makes_type a ≡ true → SaysOf a u v → AreOfType u
  type_rule (one_of is) u v h (e, k) =
      let t : is_of_type v.kind ≡ true = implied_is (is v.kind) (is_of_type v.kind) (every_is (λ k. implied (is k) (is_of_type k)) h v.kind) k in
      subst AreOfType (sym e) (t, tt)
  type_rule (part p) u v h g = type_part p u v h g
  type_rule (both a b) u v h (x, (y, (e, (g, k)))) =
      let c = and_parts _ _ h in
      subst AreOfType (sym e) (type_append x y (type_rule a x v.0 c.0 g) (type_rule b y v.1 c.1 k))
  type_rule (either a b) u v h (inl g) = type_rule a u v (and_parts _ _ h).0 g
  type_rule (either a b) u v h (inr g) = type_rule b u v (and_parts _ _ h).1 g
  type_rule (maybe a) u None h g = subst AreOfType (sym g) tt
  type_rule (maybe a) u (Some v) h g = type_rule a u v h g
  type_rule (placed a) u v h g = type_rule a u v.1 h g
  type_rule (make f a) u v h (x, (e, g)) = type_rule a u x h g

-- BODIES

abbrev is_body : Part → Bool
is_body a_type = true
is_body a_par = true
is_body a_cat = true
is_body a_star = true
is_body more_stars = true
is_body a_base = true
is_body an_expression = true
is_body a_head = true
is_body an_application = true
is_body an_atom = true
is_body an_ending = true
is_body arguments = true
is_body more_histories = true
is_body more_expressions = true
is_body a_history = true
is_body a_comparison = true
is_body a_sum = true
is_body more_summands = true
is_body a_product = true
is_body more_factors = true
is_body a_unary = true
is_body a_history_atom = true
is_body _ = false

-- a rule whose tokens leave the names as they are, but for those of its parts
abbrev is_uniform : {s : Sort Thing} → RuleFor s → Bool
is_uniform (one_of is) = every (λ k. implied (is k) (is_quiet k))
is_uniform (part p) = is_body p
is_uniform (both a b) = is_uniform a && is_uniform b
is_uniform (either a b) = is_uniform a && is_uniform b
is_uniform (maybe a) = is_uniform a
is_uniform (placed a) = is_uniform a
is_uniform (make f a) = is_uniform a

-- the tokens bind as many names as the rule's parts
record Measured {s : Sort Thing} (a : RuleFor s) (u : List Tok) (v : Meant s) : Type 0 where
  pub names : ℕ
  pub twice : ℕ
  pub measure : Measure a v names twice
  pub steps : Steps at_body at_body u names twice

-- tokens that are others, told so
pub along : {from to : Stand} {u w : List Tok} {n k : ℕ} → u ≡ w → Steps from to w n k → Steps from to u n k
along {from = from} {to = to} {n = n} {k = k} e a = subst (λ r. Steps from to r n k) (sym e) a

body_part : (p : Part) (u : List Tok) (v : Meant (stands_for p)) → is_body p ≡ true → PartSays p u v → Steps at_body at_body u (names_at p v) (twice_at p v)
body_part a_program u v h g = absurd (cc h)
body_part declarations u v h g = absurd (cc h)
body_part a_declaration u v h g = absurd (cc h)
body_part a_main u v h g = absurd (cc h)
body_part a_past u v h g = absurd (cc h)
body_part an_entry u v h g = absurd (cc h)
body_part more_entries u v h g = absurd (cc h)
body_part parameters u v h g = absurd (cc h)
body_part a_context u v h g = absurd (cc h)
body_part more_commas u v h g = absurd (cc h)
body_part more_semicolons u v h g = absurd (cc h)
body_part an_item u v h g = absurd (cc h)
body_part a_type u v h g = still (types_in_body u g)
body_part a_par u v h g = still (types_in_body u g)
body_part a_cat u v h g = still (types_in_body u g)
body_part a_star u v h g = still (types_in_body u g)
body_part more_stars u v h g = still (types_in_body u g)
body_part a_base u v h g = still (types_in_body u g)
body_part an_expression u v h g = g
body_part a_pattern u v h g = absurd (cc h)
body_part a_head u v h g = g
body_part an_application u v h g = g
body_part an_atom u v h g = g
body_part an_ending u v h g = g
body_part the_arms u v h g = absurd (cc h)
body_part arguments u v h g = g
body_part more_histories u v h g = g
body_part more_expressions u v h g = g
body_part a_history u v h g = g
body_part a_comparison u v h g = g
body_part a_sum u v h g = g
body_part more_summands u v h g = g
body_part a_product u v h g = g
body_part more_factors u v h g = g
body_part a_unary u v h g = g
body_part a_history_atom u v h g = g

none_measured : {s : Sort Thing} → (a : RuleFor s) (u : List Tok) → u ≡ [] → Measured (maybe a) u None
none_measured a u e = record { names = 0; twice = 0; measure = (refl, refl); steps = along e (still (record { is = λ s. refl; fine = λ s. tt })) }

uniform : {s : Sort Thing} → (a : RuleFor s) (u : List Tok) (v : Meant s) → is_uniform a ≡ true → SaysOf a u v → Measured a u v
uniform (one_of is) u v h (e, k) =
    let t : is_quiet v.kind ≡ true = implied_is (is v.kind) (is_quiet v.kind) (every_is (λ k. implied (is k) (is_quiet k)) h v.kind) k in
    record { names = 0; twice = 0; measure = (refl, refl); steps = along e (still (quiet v t)) }
uniform (part p) u v h g = record { names = names_at p v; twice = twice_at p v; measure = (refl, refl); steps = body_part p u v h g }
uniform (both a b) u v h (x, (y, (e, (g, k)))) =
    let c = and_parts _ _ h in
    let l = uniform a x v.0 c.0 g in
    let r = uniform b y v.1 c.1 k in
    record {
      names = l.names + r.names;
      twice = l.twice + r.twice;
      measure = (l.names, (r.names, (l.twice, (r.twice, (refl, (refl, (l.measure, r.measure)))))));
      steps = along e (joins l.steps r.steps);
    }
uniform (either a b) u v h (inl g) =
    let l = uniform a u v (and_parts _ _ h).0 g in
    record { names = l.names; twice = l.twice; measure = inl l.measure; steps = l.steps }
uniform (either a b) u v h (inr g) =
    let r = uniform b u v (and_parts _ _ h).1 g in
    record { names = r.names; twice = r.twice; measure = inr r.measure; steps = r.steps }
uniform (maybe a) u None h g = none_measured a u g
uniform (maybe a) u (Some v) h g =
    let l = uniform a u v h g in
    record { names = l.names; twice = l.twice; measure = l.measure; steps = l.steps }
uniform (placed a) u v h g =
    let l = uniform a u v.1 h g in
    record { names = l.names; twice = l.twice; measure = l.measure; steps = l.steps }
uniform (make f a) u v h (x, (e, g)) =
    let l = uniform a u x h g in
    record { names = l.names; twice = l.twice; measure = (x, (e, l.measure)); steps = l.steps }

-- such a rule, with the numbers of its value
by_numbers : {s : Sort Thing} → (a : RuleFor s) (u : List Tok) (v : Meant s) (f g : Meant s → ℕ) → is_uniform a ≡ true → ((n k : ℕ) → Measure a v n k → (n ≡ f v) × (k ≡ g v)) → SaysOf a u v
    → Steps at_body at_body u (f v) (g v)
by_numbers a u v f g h numbers says =
    let m = uniform a u v h says in
    let e = numbers m.names m.twice m.measure in
    told_as (f v) (g v) m.steps e.0 e.1

-- a token, and what stands behind it
pub token : {from mid to : Stand} {u x y : List Tok} {t : Tok} {n k : ℕ} → u ≡ x ++ y → x ≡ t ∷ [] → Same from mid (t ∷ []) → Steps mid to y n k → Steps from to u n k
token {from = from} {to = to} {u = u} {x = x} {y = y} {t = t} {n = n} {k = k} e g a b =
    told_as n k (along (e ∙ ap (λ r. r ++ y) g) (joins (still a) b)) (omega arith) (omega arith)

-- tokens that bind, and what stands behind them
then : {from mid to : Stand} {u x y : List Tok} {n m k j : ℕ} → u ≡ x ++ y → Steps from mid x n k → Steps mid to y m j → Steps from to u (n + m) (k + j)
then e a b = along e (joins a b)

-- a sign of this kind in a body
quiet_sign : (k : Terminal) → is_quiet k ≡ true → (t : Tok) → is_kind k t.kind ≡ true → Same at_body at_body (t ∷ [])
quiet_sign k q t h = quiet t (subst (λ i. is_quiet i ≡ true) (sym (kind_is k t.kind h)) q)

-- a name and a sign behind it
name_then : {to : Stand} {u x y : List Tok} {t : Tok} {n k : ℕ} → u ≡ x ++ y → x ≡ t ∷ [] → is_kind NameToken t.kind ≡ true → Steps at_bound to y n k → Steps at_first to u (1 + n) k
name_then {to = to} {u = u} {x = x} {y = y} {t = t} {n = n} {k = k} e g h b =
    told_as (1 + n) k (along (e ∙ ap (λ r. r ++ y) g) (joins (first_name t h) b)) refl (omega arith)

-- two names with a sign between them
pair_then : {to : Stand} {u x y x' y' x'' y'' : List Tok} {t c r : Tok} {n k : ℕ} → u ≡ x ++ y → x ≡ t ∷ [] → is_kind NameToken t.kind ≡ true → y ≡ x' ++ y' → x' ≡ c ∷ [] → is_between c.kind ≡ true
    → y' ≡ x'' ++ y'' → x'' ≡ r ∷ [] → is_kind NameToken r.kind ≡ true → Steps at_body to y'' n k → Steps at_first to u (2 + n) (same_names t.worth.name r.worth.name + k)
pair_then {y = y} {y' = y'} {y'' = y''} {t = t} {c = c} {r = r} e a h f b g i d j s =
    let whole = e ∙ ap (λ w. w ++ y) a ∙ ap (λ w. t ∷ w) (f ∙ ap (λ w. w ++ y') b) ∙ ap (λ w. t ∷ c ∷ w) (i ∙ ap (λ w. w ++ y'') d) in
    along whole (joins (two_names t c r h g j) s)

between_comma : (k : Terminal) → is_kind Comma k ≡ true → is_between k ≡ true
between_comma k h = subst (λ i. is_between i ≡ true) (sym (kind_is Comma k h)) refl

between_colons : (k : Terminal) → is_kind Colons k ≡ true → is_between k ≡ true
between_colons k h = subst (λ i. is_between i ≡ true) (sym (kind_is Colons k h)) refl

between_separator : (k : Terminal) → is_separator k ≡ true → is_between k ≡ true
between_separator Comma h = refl
between_separator Semicolon h = refl
between_separator k h = absurd (cc h)

pattern_names : (k : Terminal) (x y : ℕ) → (2 ≡ pattern_bound (pattern_with k x y)) × (same_names x y ≡ pattern_twice (pattern_with k x y))
pattern_names Semicolon x y = (refl, refl)
pattern_names _ x y = (refl, refl)

let_numbers : (at : ℕ) (p : Pattern) (h : Head) (e : Expression)
    → (pattern_bound p + (bound_in_head h + bound_in e) ≡ bound_in (let_with at p h e)) × (pattern_twice p + (twice_in_head h + twice_in e) ≡ twice_in (let_with at p h e))
let_numbers at (one_name x) h e = (omega arith, omega arith)
let_numbers at (two_at_once x y) h e = (omega arith, omega arith)
let_numbers at (two_in_turn x y) h e = (omega arith, omega arith)

case_numbers : (at : ℕ) (h : Head) (x : Arms) → (bound_in_head h + arms_bound x ≡ bound_in (case_with at h x)) × (twice_in_head h + arms_twice x ≡ twice_in (case_with at h x))
case_numbers at h (sum_arms x a y b) = (omega arith, omega arith)
case_numbers at h (star_arms a y ys b) = (omega arith, omega arith)

-- a token at the end
last : {from to : Stand} {u : List Tok} {t : Tok} → u ≡ t ∷ [] → Same from to (t ∷ []) → Steps from to u 0 0
last e a = along e (still a)

let_says : (u : List Tok) (v : Expression) → SaysOf let_rule u v → Steps at_body at_body u (bound_in v) (twice_in v)
let_says u v (x, (e, (x1, (y1, (e1, ((a1, k1), (x2, (y2, (e2, (p, (x3, (y3, (e3, ((a3, k3), (x4, (y4, (e4, (h, (x5, (y5, (e5, ((a5, k5), g)))))))))))))))))))))) =
    let pattern : y1 ≡ (x2 ++ (x.1.1.0 ∷ [])) ++ y3 = e2 ∙ ap (λ r. x2 ++ r) (e3 ∙ ap (λ r. r ++ y3) a3) ∙ sym (append_assoc x2 (x.1.1.0 ∷ []) y3) in
    let steps = token e1 a1 (let_word x.0 k1) (along pattern (joins (p x.1.1.0 k3) (then e4 h (token e5 a5 (quiet_sign InWord refl x.1.1.1.1.0 k5) g)))) in
    let numbers = let_numbers x.0.at x.1.0 x.1.1.1.0 x.1.1.1.1.1 in
    told_as (bound_in v) (twice_in v) steps (numbers.0 ∙ ap bound_in (sym e)) (numbers.1 ∙ ap twice_in (sym e))

case_says : (u : List Tok) (v : Expression) → SaysOf case_rule u v → Steps at_body at_body u (bound_in v) (twice_in v)
case_says u v (x, (e, (x1, (y1, (e1, ((a1, k1), (x2, (y2, (e2, (h, (x3, (y3, (e3, ((a3, k3), (x4, (y4, (e4, ((a4, k4), (x5, (y5, (e5, (g, (a6, k6))))))))))))))))))))))) =
    let steps = token e1 a1 (quiet_sign CaseWord refl x.0 k1) (then e2 h (token e3 a3 (of_word x.1.1.0 k3) (token e4 a4 (brace_first x.1.1.1.0 k4) (then e5 g (last a6 (quiet_sign CloseBrace refl x.1.1.1.1.1 k6)))))) in
    let numbers = case_numbers x.0.at x.1.0 x.1.1.1.1.0 in
    let names = ap bound_in e in
    let twice = ap twice_in e in
    told_as (bound_in v) (twice_in v) steps (omega (arith, numbers.0, names)) (omega (arith, numbers.1, twice))

arms_say : (u : List Tok) (v : Arms) → SaysOf (rule_of the_arms) u v → Steps at_first at_body u (arms_bound v) (arms_twice v)
arms_say u v (inl (x, (e, (x1, (y1, (e1, ((a1, k1), (x2, (y2, (e2, ((a2, k2), (x3, (y3, (e3, ((a3, k3), (x4, (y4, (e4, (g, (x5, (y5, (e5, ((a5, k5), (x6, (y6, (e6, ((a6, k6), (x7, (y7, (e7, ((a7, k7), (x8, (y8, (e8, ((a8, k8), h))))))))))))))))))))))))))))))))))) =
    let steps = token e1 a1 (inl_first x.0 k1) (name_then e2 a2 k2 (token e3 a3 (arrow_behind x.1.1.0 k3) (then e4 g (token e5 a5 (bar x.1.1.1.1.0 k5) (token e6 a6 (inr_first x.1.1.1.1.1.0 k6)
    (name_then e7 a7 k7 (token e8 a8 (arrow_behind x.1.1.1.1.1.1.1.0 k8) h))))))) in
    let names = ap arms_bound e in
    let twice = ap arms_twice e in
    told_as (arms_bound v) (arms_twice v) steps (omega (arith, names)) (omega (arith, twice))
arms_say u v (inr (x, (e, (x1, (y1, (e1, ((a1, k1), (x2, (y2, (e2, ((a2, k2), (x3, (y3, (e3, (g, (x4, (y4, (e4, ((a4, k4), (x5, (y5, (e5, ((a5, k5), (x6, (y6, (e6, ((a6, k6), (x7, (y7, (e7, ((a7, k7), (x8, (y8, (e8, ((a8, k8), h))))))))))))))))))))))))))))))))))) =
    let steps = token e1 a1 (nil_first x.0 k1) (token e2 a2 (quiet_sign Arrow refl x.1.0 k2) (then e3 g (token e4 a4 (bar x.1.1.1.0 k4)
    (pair_then e5 a5 k5 e6 a6 (between_colons x.1.1.1.1.1.0.kind k6) e7 a7 k7 (token e8 a8 (quiet_sign Arrow refl x.1.1.1.1.1.1.1.0 k8) h))))) in
    let names = ap arms_bound e in
    let twice = ap arms_twice e in
    told_as (arms_bound v) (arms_twice v) steps (omega (arith, names)) (omega (arith, twice))

pattern_says : (u : List Tok) (v : Pattern) → SaysOf (rule_of a_pattern) u v → (t : Tok) → is_kind Equals t.kind ≡ true → Steps at_first at_body (u ++ (t ∷ [])) (pattern_bound v) (pattern_twice v)
pattern_says u v (inl (x, (e, (a, k)))) t h =
    let names = ap pattern_bound e in
    let twice = ap pattern_twice e in
    told_as (pattern_bound v) (pattern_twice v) (along (ap (λ r. r ++ (t ∷ [])) a) (joins (first_name x k) (still (equals_behind t h)))) (omega (arith, names)) (omega (arith, twice))
pattern_says u v (inr (x, (e, (x1, (y1, (e1, ((a1, k1), (x2, (y2, (e2, ((a2, k2), (x3, (y3, (e3, ((a3, k3), (x4, (y4, (e4, ((a4, k4), (a5, k5)))))))))))))))))))) t h =
    let inside = token e1 a1 (open_first x.0 k1) (pair_then e2 a2 k2 e3 a3 (between_separator x.1.1.0.kind k3) e4 a4 k4 (last a5 (quiet_sign Close refl x.1.1.1.1 k5))) in
    let numbers = pattern_names x.1.1.0.kind x.1.0.worth.name x.1.1.1.0.worth.name in
    let names = ap pattern_bound e in
    let twice = ap pattern_twice e in
    told_as (pattern_bound v) (pattern_twice v) (joins inside (still (quiet_sign Equals refl t h))) (omega (arith, numbers.0, names)) (omega (arith, numbers.1, twice))

fold_says : (u : List Tok) (v : WrittenHist) → SaysOf fold_rule u v → Steps at_body at_body u (hist_bound v) (hist_twice v)
fold_says u v (x, (e, (x1, (y1, (e1, ((a1, k1), (x2, (y2, (e2, (g, (x3, (y3, (e3, ((a3, k3), (x4, (y4, (e4, (h, (x5, (y5, (e5, ((a5, k5), (x6, (y6, (e6, ((a6, k6), (x7, (y7, (e7, ((a7, k7), (x8, (y8, (e8, ((a8, k8), (x9, (y9, (e9, ((a9, k9), b)))))))))))))))))))))))))))))))))))))) =
    let steps = token e1 a1 (quiet_sign FoldWord refl x.0 k1) (then e2 g (token e3 a3 (quiet_sign FromWord refl x.1.1.0 k3) (then e4 h (token e5 a5 (with_word x.1.1.1.1.0 k5)
    (pair_then e6 a6 k6 e7 a7 (between_comma x.1.1.1.1.1.1.0.kind k7) e8 a8 k8 (token e9 a9 (quiet_sign Dot refl x.1.1.1.1.1.1.1.1.0 k9) b)))))) in
    let names = ap hist_bound e in
    let twice = ap hist_twice e in
    told_as (hist_bound v) (hist_twice v) steps (omega (arith, names)) (omega (arith, twice))

-- an arm of a choice
branch_says : (k : Terminal) → ((t : Tok) → is_kind k t.kind ≡ true → Same at_first at_first (t ∷ [])) → (u : List Tok) (v : ℕ × WrittenHist) → SaysOf (branch_rule k) u v
    → Steps at_first at_body u (1 + hist_bound v.1) (hist_twice v.1)
branch_says k f u v (x, (e, (x1, (y1, (e1, ((a1, k1), (x2, (y2, (e2, ((a2, k2), (x3, (y3, (e3, ((a3, k3), h)))))))))))))) =
    let steps = token e1 a1 (f x.0 k1) (name_then e2 a2 k2 (token e3 a3 (arrow_behind x.1.1.0 k3) h)) in
    let names = ap (λ (w : ℕ × WrittenHist). hist_bound w.1) e in
    let twice = ap (λ (w : ℕ × WrittenHist). hist_twice w.1) e in
    told_as (1 + hist_bound v.1) (hist_twice v.1) steps (omega (arith, names)) (omega (arith, twice))

choice_says : (u : List Tok) (v : WrittenHist) → SaysOf choice_rule u v → Steps at_body at_body u (hist_bound v) (hist_twice v)
choice_says u v (x, (e, (x1, (y1, (e1, ((a1, k1), (x2, (y2, (e2, (g, (x3, (y3, (e3, ((a3, k3), (x4, (y4, (e4, ((a4, k4), (x5, (y5, (e5, (h, (x6, (y6, (e6, ((a6, k6), (x7, (y7, (e7, (b, (a8, k8))))))))))))))))))))))))))))))) =
    let first = branch_says InlWord inl_first x5 x.1.1.1.1.0 h in
    let second = branch_says InrWord inr_first x7 x.1.1.1.1.1.1.0 b in
    let steps = token e1 a1 (quiet_sign CaseWord refl x.0 k1) (then e2 g (token e3 a3 (of_word x.1.1.0 k3) (token e4 a4 (brace_first x.1.1.1.0 k4)
    (then e5 first (token e6 a6 (bar x.1.1.1.1.1.0 k6) (then e7 second (last a8 (quiet_sign CloseBrace refl x.1.1.1.1.1.1.1 k8)))))))) in
    let names = ap hist_bound e in
    let twice = ap hist_twice e in
    told_as (hist_bound v) (hist_twice v) steps (omega (arith, names)) (omega (arith, twice))

-- one token that is an expression
leaf_says : (k : Terminal) (f : Tok → Expression) → is_quiet k ≡ true → ((t : Tok) → (bound_in (f t) ≡ 0) × (twice_in (f t) ≡ 0)) → (u : List Tok) (v : Expression) → SaysOf {s = thing expression_thing} (make {s = token_sort} {t = thing expression_thing} f (sign k)) u v
    → Steps at_body at_body u (bound_in v) (twice_in v)
leaf_says k f q none u v (x, (e, (a, h))) =
    told_as (bound_in v) (twice_in v) (last a (quiet_sign k q x h)) (sym (ap bound_in e ∙ (none x).0)) (sym (ap twice_in e ∙ (none x).1))

atom_says : (u : List Tok) (v : Expression) → SaysOf (rule_of an_atom) u v → Steps at_body at_body u (bound_in v) (twice_in v)
atom_says u v (inl h) = by_numbers name_rule u v bound_in twice_in refl (name_numbers v) h
atom_says u v (inr (inl h)) = leaf_says EpsWord eps_of refl (λ t. (refl, refl)) u v h
atom_says u v (inr (inr (inl h))) = leaf_says NilWord nil_of refl (λ t. (refl, refl)) u v h
atom_says u v (inr (inr (inr (inl h)))) = by_numbers bracket_rule u v bound_in twice_in refl (bracket_numbers v) h
atom_says u v (inr (inr (inr (inr (inl h))))) = by_numbers braces_rule u v bound_in twice_in refl (braces_numbers v) h
atom_says u v (inr (inr (inr (inr (inr h))))) = case_says u v h

expression_says : (u : List Tok) (v : Expression) → SaysOf (rule_of an_expression) u v → Steps at_body at_body u (bound_in v) (twice_in v)
expression_says u v (inl h) = let_says u v h
expression_says u v (inr (inl h)) = by_numbers wait_rule u v bound_in twice_in refl (wait_numbers v) h
expression_says u v (inr (inr (inl h))) = by_numbers if_rule u v bound_in twice_in refl (if_numbers v) h
expression_says u v (inr (inr (inr h))) = by_numbers cons_rule u v bound_in twice_in refl (cons_numbers v) h

history_says : (u : List Tok) (v : WrittenHist) → SaysOf (rule_of a_history) u v → Steps at_body at_body u (hist_bound v) (hist_twice v)
history_says u v (inl h) = fold_says u v h
history_says u v (inr (inl h)) = choice_says u v h
history_says u v (inr (inr h)) = by_numbers hist_cons_rule u v hist_bound hist_twice refl (hist_cons_numbers v) h

-- HEADERS

binds_along : {from to : Stand} {u w : List Tok} {xs : List ℕ} → u ≡ w → Binds from to w xs → Binds from to u xs
binds_along {from = from} {to = to} {xs = xs} e a = subst (λ r. Binds from to r xs) (sym e) a

-- tokens of a header, and what stands behind them
behind : {from mid to : Stand} {u x y : List Tok} {xs ys : List ℕ} → u ≡ x ++ y → Binds from mid x xs → Binds mid to y ys → Binds from to u (xs ++ ys)
behind e a b = binds_along e (binds_join a b)

-- a sign of a header
mark : {from to : Stand} {u : List Tok} {t : Tok} → u ≡ t ∷ [] → Same from to (t ∷ []) → Binds from to u []
mark e a = binds_along e (silent a)

entry_says : (u : List Tok) (v : ℕ × WrittenType) → SaysOf (rule_of an_entry) u v → Binds at_header at_type u (v.0 ∷ [])
entry_says u v (x, (e, (x1, (y1, (e1, ((a1, k1), (x2, (y2, (e2, ((a2, k2), h)))))))))) =
    named_as (v.0 ∷ []) (behind e1 (binds_along a1 (parameter_name x.0 k1)) (behind e2 (mark a2 (colon_begins x.1.0 k2)) (silent (types_in_header y2 h))))
    (ap (λ (w : ℕ × WrittenType). w.0 ∷ []) (sym e))

more_entries_say : (u : List Tok) (o : Option (Tok × ((ℕ × WrittenType) × List (ℕ × WrittenType)))) → OptionSays (SaysOf (both (sign Comma) (both (part an_entry) (part more_entries)))) u o
    → Binds at_type at_type u (entry_names (more_behind o))
more_entries_say u None h = binds_along h (silent (record { is = λ s. refl; fine = λ s. tt }))
more_entries_say u (Some v) (x1, (y1, (e1, ((a1, k1), (x2, (y2, (e2, (g, h)))))))) = behind e1 (mark a1 (comma_parts v.0 k1)) (behind e2 g h)

-- an entry and more of them
items_say : (u : List Tok) (v : List (ℕ × WrittenType)) → SaysOf entry_items_rule u v → Binds at_header at_type u (entry_names v)
items_say u v (x, (e, (x1, (y1, (e1, (g, h)))))) = named_as (entry_names v) (behind e1 g h) (ap entry_names (sym e))

past_says : (u : List Tok) (v : List (ℕ × WrittenType)) → SaysOf past_rule u v → Binds at_header at_header u (entry_names v)
past_says u v (x, (e, (x1, (y1, (e1, ((a1, k1), (x2, (y2, (e2, (g, (a3, k3))))))))))) =
    named_as (entry_names v) (behind e1 (mark a1 (brace_opens x.0 k1)) (behind e2 (items_say x2 x.1.0 g) (mark a3 (brace_closes x.1.1 k3))))
    (append-nil (entry_names x.1.0) ∙ ap entry_names (sym e))

given_past : (u : List Tok) (o : Option (List (ℕ × WrittenType))) → OptionSays (SaysOf (part a_past)) u o → Binds at_header at_header u (entry_names (given_or_none o))
given_past u None h = binds_along h (silent (record { is = λ s. refl; fine = λ s. tt }))
given_past u (Some v) h = h

given_past_says : (u : List Tok) (v : List (ℕ × WrittenType)) → SaysOf given_past_rule u v → Binds at_header at_header u (entry_names v)
given_past_says u v (x, (e, g)) = named_as (entry_names v) (given_past u x g) (ap entry_names (sym e))

-- what stands behind an item, by a comma or a semicolon
abbrev rest_names : Option (Tok × WrittenContext) → List ℕ
rest_names None = []
rest_names (Some x) = parameter_names x.1

with_names : (k : Terminal) (a b : WrittenContext) → parameter_names (context_with k a b) ≡ parameter_names a ++ parameter_names b
with_names Semicolon a b = refl
with_names _ a b = refl

from_names : (a : WrittenContext) (o : Option (Tok × WrittenContext)) → parameter_names a ++ rest_names o ≡ parameter_names (context_from (a, o))
from_names a None = append-nil (parameter_names a)
from_names a (Some (t, b)) = sym (with_names t.kind a b)

commas_say : (u : List Tok) (o : Option (Tok × WrittenContext)) → OptionSays (SaysOf (both (sign Comma) (part more_commas))) u o → Binds at_type at_type u (rest_names o)
commas_say u None h = binds_along h (silent (record { is = λ s. refl; fine = λ s. tt }))
commas_say u (Some v) (x1, (y1, (e1, ((a1, k1), h)))) = behind e1 (mark a1 (comma_parts v.0 k1)) h

semicolons_say : (u : List Tok) (o : Option (Tok × WrittenContext)) → OptionSays (SaysOf (both (sign Semicolon) (part more_semicolons))) u o → Binds at_type at_type u (rest_names o)
semicolons_say u None h = binds_along h (silent (record { is = λ s. refl; fine = λ s. tt }))
semicolons_say u (Some v) (x1, (y1, (e1, ((a1, k1), h)))) = behind e1 (mark a1 (semicolon_parts v.0 k1)) h

either_say : (u : List Tok) (o : Option (Tok × WrittenContext)) → OptionSays (SaysOf (either (both (sign Comma) (part more_commas)) (both (sign Semicolon) (part more_semicolons)))) u o
    → Binds at_type at_type u (rest_names o)
either_say u None h = binds_along h (silent (record { is = λ s. refl; fine = λ s. tt }))
either_say u (Some v) (inl h) = commas_say u (Some v) h
either_say u (Some v) (inr h) = semicolons_say u (Some v) h

context_says : (u : List Tok) (v : WrittenContext) → SaysOf (rule_of a_context) u v → Binds at_header at_type u (parameter_names v)
context_says u v (x, (e, (x1, (y1, (e1, (g, h)))))) =
    named_as (parameter_names v) (behind e1 g (either_say y1 x.1 h)) (from_names x.0 x.1 ∙ ap parameter_names (sym e))

more_commas_say : (u : List Tok) (v : WrittenContext) → SaysOf (rule_of more_commas) u v → Binds at_header at_type u (parameter_names v)
more_commas_say u v (x, (e, (x1, (y1, (e1, (g, h)))))) =
    named_as (parameter_names v) (behind e1 g (commas_say y1 x.1 h)) (from_names x.0 x.1 ∙ ap parameter_names (sym e))

more_semicolons_say : (u : List Tok) (v : WrittenContext) → SaysOf (rule_of more_semicolons) u v → Binds at_header at_type u (parameter_names v)
more_semicolons_say u v (x, (e, (x1, (y1, (e1, (g, h)))))) =
    named_as (parameter_names v) (behind e1 g (semicolons_say y1 x.1 h)) (from_names x.0 x.1 ∙ ap parameter_names (sym e))

item_says : (u : List Tok) (v : WrittenContext) → SaysOf (rule_of an_item) u v → Binds at_header at_type u (parameter_names v)
item_says u v (inl (x, (e, (x1, (y1, (e1, ((a1, k1), (x2, (y2, (e2, ((a2, k2), h))))))))))) =
    named_as (parameter_names v) (behind e1 (binds_along a1 (parameter_name x.0 k1)) (behind e2 (mark a2 (colon_begins x.1.0 k2)) (silent (types_in_header y2 h)))) (ap parameter_names (sym e))
item_says u v (inr (x, (e, (x1, (y1, (e1, ((a1, k1), (x2, (y2, (e2, (h, (a3, k3)))))))))))) =
    named_as (parameter_names v) (behind e1 (mark a1 (bracket_opens x.0 k1)) (behind e2 h (mark a3 (type_closes x.1.1 k3)))) (append-nil (parameter_names x.1.0) ∙ ap parameter_names (sym e))

parameters_say : (u : List Tok) (v : WrittenContext) → SaysOf parameters_rule u v → (t : Tok) → is_kind Colon t.kind ≡ true → Binds at_header at_type (u ++ (t ∷ [])) (parameter_names v)
parameters_say u v (x, (e, (x1, (y1, (e1, ((a1, k1), inl (z, (f, (a2, k2))))))))) t h =
    let inside = behind e1 (mark a1 (bracket_opens x.0 k1)) (mark a2 (bracket_closes z k2)) in
    named_as (parameter_names v) (binds_join inside (silent (colon_begins t h))) (ap parameter_names (sym (e ∙ f)))
parameters_say u v (x, (e, (x1, (y1, (e1, ((a1, k1), inr (z, (f, (x2, (y2, (e2, (g, (a3, k3))))))))))))) t h =
    let inside = behind e1 (mark a1 (bracket_opens x.0 k1)) (behind e2 g (mark a3 (type_closes z.1 k3))) in
    named_as (parameter_names v) (binds_join inside (silent (colon_goes_on t h)))
    (append-nil (parameter_names z.0 ++ []) ∙ append-nil (parameter_names z.0) ∙ ap parameter_names (sym (e ∙ f)))

-- DECLARATIONS

-- parameters, a colon and a type, `=`, and a body
signature : (x x'' : List Tok) {u y x' y' y'' p3 q3 : List Tok} (t r : Tok) (names : List ℕ) (n k : ℕ) → u ≡ x ++ y → ((t : Tok) → is_kind Colon t.kind ≡ true → Binds at_header at_type (x ++ (t ∷ [])) names) → y ≡ x' ++ y' → x' ≡ t ∷ [] → is_kind Colon t.kind ≡ true
    → y' ≡ x'' ++ y'' → AreOfType x'' → y'' ≡ p3 ++ q3 → p3 ≡ r ∷ [] → is_kind Equals r.kind ≡ true → Steps at_body at_body q3 n k → Tails at_header u names n k
signature x x'' {u = u} {y = y} {x' = x'} {y' = y'} t r names n k e c f a h g types i b j steps =
    let front : u ≡ (x ++ (t ∷ [])) ++ y' = e ∙ ap (λ w. x ++ w) (f ∙ ap (λ w. w ++ y') a) ∙ sym (append_assoc x (t ∷ []) y') in
    let whole : Tails at_header u (names ++ []) n k = tail_front front (c t h) (tail_front g (silent (types_in_header x'' types)) (tail_front i (mark b (equals_ends r j)) (body_tail steps))) in
    subst (λ l. Tails at_header u l n k) (append-nil names) whole

main_says : (u : List Tok) (v : WrittenFunction) → SaysOf main_rule u v → Mains u v
main_says u v (x, (e, (x1, (y1, (e1, ((a1, k1), (x2, (y2, (e2, (c, (x3, (y3, (e3, ((a3, k3), (x4, (y4, (e4, (ty, (x5, (y5, (e5, ((a5, k5), g)))))))))))))))))))))) =
    let m : WrittenFunction = main_from x in
    let tails = signature x2 x4 x.1.1.0 x.1.1.1.1.0 (parameter_names x.1.0) (bound_in x.1.1.1.1.1) (twice_in x.1.1.1.1.1) e2 c e3 a3 k3 e4 ty e5 a5 k5 g in
    subst (λ (f : WrittenFunction). Mains u f) (sym e) (subst (λ r. Mains r m) (sym (e1 ∙ ap (λ r. r ++ y1) a1)) (main_mains x.0 y1 m k1 tails))

function_says : (u : List Tok) (v : Declaration) → SaysOf function_rule u v → Declares u (v ∷ [])
function_says u v (x, (e, (x1, (y1, (e1, ((a1, k1), (x2, (y2, (e2, ((a2, k2), (x3, (y3, (e3, (p, (x4, (y4, (e4, (c, (x5, (y5, (e5, ((a5, k5), (x6, (y6, (e6, (ty, (x7, (y7, (e7, ((a7, k7), g)))))))))))))))))))))))))))))) =
    let f : WrittenFunction = function_with x.0.at x.1.0.worth.name x.1.1.0 x.1.1.1.0 x.1.1.1.1.1.0 x.1.1.1.1.1.1.1 in
    let tails = signature x4 x6 x.1.1.1.1.0 x.1.1.1.1.1.1.0 (parameter_names x.1.1.1.0) (bound_in x.1.1.1.1.1.1.1) (twice_in x.1.1.1.1.1.1.1) e4 c e5 a5 k5 e6 ty e7 a7 k7 g in
    let header : Tails at_header y2 (header_names f) (bound_in f.body) (twice_in f.body) = tail_front e3 (given_past_says x3 x.1.1.0 p) tails in
    let front : u ≡ x.0 ∷ x.1.0 ∷ y2 = e1 ∙ ap (λ r. r ++ y1) a1 ∙ ap (λ r. x.0 ∷ r) (e2 ∙ ap (λ r. r ++ y2) a2) in
    subst (λ d. Declares u (d ∷ [])) (sym e) (subst (λ r. Declares r (function_declared f ∷ [])) (sym front) (function_declares x.0 x.1.0 y2 f k1 k2 refl header))

alias_says : (u : List Tok) (v : Declaration) → SaysOf alias_rule u v → Declares u (v ∷ [])
alias_says u v (x, (e, (x1, (y1, (e1, ((a1, k1), (x2, (y2, (e2, ((a2, k2), (x3, (y3, (e3, ((a3, k3), ty)))))))))))))) =
    let a : WrittenAlias = record { name = x.1.0.worth.name; type = x.1.1.1; at = x.0.at } in
    let rest : Same at_body at_body ((x.1.1.0 ∷ []) ++ y3) = same_join (quiet_sign Equals refl x.1.1.0 k3) (types_in_body y3 ty) in
    let same : Same at_body at_body y2 = subst (λ r. Same at_body at_body r) (sym (e3 ∙ ap (λ r. r ++ y3) a3)) rest in
    let front : u ≡ x.0 ∷ x.1.0 ∷ y2 = e1 ∙ ap (λ r. r ++ y1) a1 ∙ ap (λ r. x.0 ∷ r) (e2 ∙ ap (λ r. r ++ y2) a2) in
    subst (λ d. Declares u (d ∷ [])) (sym e) (subst (λ r. Declares r (alias_declared a ∷ [])) (sym front) (alias_declares x.0 x.1.0 y2 a k1 k2 refl same))

declarations_say : (u : List Tok) (o : Option (Declaration × List Declaration)) → OptionSays (SaysOf (both (part a_declaration) (part declarations))) u o → Declares u (more_of o)
declarations_say u None h = subst (λ r. Declares r []) (sym h) declares_none
declarations_say u (Some (d, ds)) (x, (y, (e, (g, h)))) = subst (λ r. Declares r (d ∷ ds)) (sym e) (declares_join d ds g h)

program_says : (x y : List Tok) (ds : List Declaration) (m : WrittenFunction) → Declares x ds → Mains y m → Programs (x ++ y) ds m
program_says x y ds m d h =
    let r = d.declare none_bound in
    record {
      forth = λ fine.
          let parts = fine-front none_bound x y fine in
          let well = r.forth parts.0 (omega arith) in
          let few = well.few in
          record {
            types = well.new_types;
            functions = well.new_functions;
            few = omega (arith, few);
            declared = well.named;
            main = h.forth r.next (subst (λ s. Fine s y) r.is parts.1);
          };
      back = λ named.
          let few = named.few in
          let well : AreWell [] [] ds = record { new_types = named.types; new_functions = named.functions; few = omega (arith, few); named = named.declared } in
          fine-join none_bound x y (r.back well) (subst (λ s. Fine s y) (sym r.is) (h.back r.next named.main));
    }

pub part_says : (p : Part) (u : List Tok) (v : Meant (stands_for p)) → SaysOf (rule_of p) u v → PartSays p u v
part_says a_program u v (x, (y, (e, (d, m)))) = subst (λ r. Programs r v.0 v.1) (sym e) (program_says x y v.0 v.1 d m)
part_says declarations u v (x, (e, h)) = subst (λ ds. Declares u ds) (sym e) (declarations_say u x h)
part_says a_declaration u v (inl h) = alias_says u v h
part_says a_declaration u v (inr h) = function_says u v h
part_says a_main u v h = main_says u v h
part_says a_past u v h = past_says u v h
part_says an_entry u v h = entry_says u v h
part_says more_entries u v (x, (e, h)) = named_as (entry_names v) (more_entries_say u x h) (ap entry_names (sym e))
part_says parameters u v h = parameters_say u v h
part_says a_context u v h = context_says u v h
part_says more_commas u v h = more_commas_say u v h
part_says more_semicolons u v h = more_semicolons_say u v h
part_says an_item u v h = item_says u v h
part_says a_type u v h = type_rule (rule_of a_type) u v refl h
part_says a_par u v h = type_rule (rule_of a_par) u v refl h
part_says a_cat u v h = type_rule (rule_of a_cat) u v refl h
part_says a_star u v h = type_rule (rule_of a_star) u v refl h
part_says more_stars u v h = type_rule (rule_of more_stars) u v refl h
part_says a_base u v h = type_rule (rule_of a_base) u v refl h
part_says an_expression u v h = expression_says u v h
part_says a_pattern u v h = pattern_says u v h
part_says a_head u v h = by_numbers (rule_of a_head) u v (names_at a_head) (twice_at a_head) refl (head_numbers v) h
part_says an_application u v h = by_numbers (rule_of an_application) u v (names_at an_application) (twice_at an_application) refl (application_numbers v) h
part_says an_atom u v h = atom_says u v h
part_says an_ending u v h = by_numbers (rule_of an_ending) u v (names_at an_ending) (twice_at an_ending) refl (ending_numbers v) h
part_says the_arms u v h = arms_say u v h
part_says arguments u v h = by_numbers (rule_of arguments) u v (names_at arguments) (twice_at arguments) refl (arguments_numbers v) h
part_says more_histories u v h = by_numbers (rule_of more_histories) u v (names_at more_histories) (twice_at more_histories) refl (histories_numbers v) h
part_says more_expressions u v h = by_numbers (rule_of more_expressions) u v (names_at more_expressions) (twice_at more_expressions) refl (expressions_numbers v) h
part_says a_history u v h = history_says u v h
part_says a_comparison u v h = by_numbers (rule_of a_comparison) u v (names_at a_comparison) (twice_at a_comparison) refl (comparison_numbers v) h
part_says a_sum u v h = by_numbers (rule_of a_sum) u v (names_at a_sum) (twice_at a_sum) refl (sum_numbers v) h
part_says more_summands u v h = by_numbers (rule_of more_summands) u v (names_at more_summands) (twice_at more_summands) refl (summands_numbers v) h
part_says a_product u v h = by_numbers (rule_of a_product) u v (names_at a_product) (twice_at a_product) refl (product_numbers v) h
part_says more_factors u v h = by_numbers (rule_of more_factors) u v (names_at more_factors) (twice_at more_factors) refl (factors_numbers v) h
part_says a_unary u v h = by_numbers (rule_of a_unary) u v (names_at a_unary) (twice_at a_unary) refl (unary_numbers v) h
part_says a_history_atom u v h = by_numbers (rule_of a_history_atom) u v (names_at a_history_atom) (twice_at a_history_atom) refl (history_atom_numbers v) h
