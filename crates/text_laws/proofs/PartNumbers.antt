-- How many names a part of a body binds, and how often two that are bound together are the same, by the rule that makes it.
use Rattle.std.proofs.Common.{◌≡◌, ◌∙◌, ℕ, ◌+◌, List, [], ◌∷◌, Option, Some, None, refl, sym, subst, arith, ◌⊎◌, inl, inr}
use Rattle.grammar.specs.Rules.{Sort, one_of, part, both, either, maybe, placed, make}
use Rattle.hist_value.specs.HistExpr.{HistExpr, reckoned}
use Rattle.delta_tree.specs.SyntaxTree.{WrittenHist, Expression, Head}
use Rattle.delta_parse.specs.declared.terminal.Terminal.{Terminal}
use Rattle.delta_parse.specs.declared.terminal.Terminal.TheVariants.{FstWord, SndWord, InlWord}
use Rattle.delta_parse.specs.Terminals.{Tok}
use Rattle.delta_parse.specs.Parts.{Pattern, one_name, two_at_once, two_in_turn, Arms, sum_arms, star_arms, Ending, plain_ending, at_once, in_turn, of_type, Thing, Part, an_expression, a_head, an_application, an_atom, an_ending, the_arms, arguments, more_histories, more_expressions, a_history, a_comparison, a_sum, more_summands, a_product, more_factors, a_unary, a_history_atom, stands_for, Meant, RuleFor}
use Rattle.delta_parse.specs.Rules.{rule_of, wait_rule, if_rule, cons_rule, name_rule, bracket_rule, braces_rule, hist_cons_rule, braced_histories_rule, histories_rule, expressions_rule}
use Rattle.delta_parse.specs.Actions.{given_or_none, more_of, more_behind, expression_list, hist_with, operator, to_left, compared, hist_consed, prefixed, prefixed_expr, bracketed_hist, consed, head_from, atom_from, ended, bracketed}
use Rattle.text_laws.specs.TreeNames.{same_names, bound_in_hist, bound_in_hists, bound_in, bound_in_head, bound_in_all, twice_in_hist, twice_in_hists, twice_in, twice_in_head, twice_in_all}

-- NUMBERS OF VALUES

abbrev pub hist_bound : WrittenHist → ℕ
hist_bound m = bound_in_hist m.expr

abbrev pub hist_twice : WrittenHist → ℕ
hist_twice m = twice_in_hist m.expr

abbrev pub operands_bound : List (Tok × WrittenHist) → ℕ
operands_bound [] = 0
operands_bound (x ∷ xs) = hist_bound x.1 + operands_bound xs

abbrev pub operands_twice : List (Tok × WrittenHist) → ℕ
operands_twice [] = 0
operands_twice (x ∷ xs) = hist_twice x.1 + operands_twice xs

abbrev pub list_bound : List Expression → ℕ
list_bound es = bound_in_all (expression_list es)

abbrev pub list_twice : List Expression → ℕ
list_twice es = twice_in_all (expression_list es)

abbrev pub given_bound : List WrittenHist × List Expression → ℕ
given_bound v = bound_in_hists v.0 + list_bound v.1

abbrev pub given_twice : List WrittenHist × List Expression → ℕ
given_twice v = twice_in_hists v.0 + list_twice v.1

abbrev pub ending_bound : Ending → ℕ
ending_bound plain_ending = 0
ending_bound (at_once b) = bound_in b
ending_bound (in_turn b) = bound_in b
ending_bound (of_type t) = 0

abbrev pub ending_twice : Ending → ℕ
ending_twice plain_ending = 0
ending_twice (at_once b) = twice_in b
ending_twice (in_turn b) = twice_in b
ending_twice (of_type t) = 0

abbrev pub pattern_bound : Pattern → ℕ
pattern_bound (one_name x) = 1
pattern_bound (two_at_once x y) = 2
pattern_bound (two_in_turn x y) = 2

abbrev pub pattern_twice : Pattern → ℕ
pattern_twice (one_name x) = 0
pattern_twice (two_at_once x y) = same_names x y
pattern_twice (two_in_turn x y) = same_names x y

abbrev pub arms_bound : Arms → ℕ
arms_bound (sum_arms x a y b) = 1 + bound_in a + (1 + bound_in b)
arms_bound (star_arms a y ys b) = bound_in a + (2 + bound_in b)

abbrev pub arms_twice : Arms → ℕ
arms_twice (sum_arms x a y b) = twice_in a + twice_in b
arms_twice (star_arms a y ys b) = twice_in a + (same_names y ys + twice_in b)

-- of the value of a part of a body
abbrev pub names_at : (p : Part) → Meant (stands_for p) → ℕ
names_at an_expression v = bound_in v
names_at a_head v = bound_in_head v
names_at an_application v = bound_in v
names_at an_atom v = bound_in v
names_at an_ending v = ending_bound v
names_at the_arms v = arms_bound v
names_at arguments v = given_bound v
names_at more_histories v = bound_in_hists v
names_at more_expressions v = list_bound v
names_at a_history v = hist_bound v
names_at a_comparison v = hist_bound v
names_at a_sum v = hist_bound v
names_at more_summands v = operands_bound v
names_at a_product v = hist_bound v
names_at more_factors v = operands_bound v
names_at a_unary v = hist_bound v
names_at a_history_atom v = hist_bound v
names_at _ v = 0

abbrev pub twice_at : (p : Part) → Meant (stands_for p) → ℕ
twice_at an_expression v = twice_in v
twice_at a_head v = twice_in_head v
twice_at an_application v = twice_in v
twice_at an_atom v = twice_in v
twice_at an_ending v = ending_twice v
twice_at the_arms v = arms_twice v
twice_at arguments v = given_twice v
twice_at more_histories v = twice_in_hists v
twice_at more_expressions v = list_twice v
twice_at a_history v = hist_twice v
twice_at a_comparison v = hist_twice v
twice_at a_sum v = hist_twice v
twice_at more_summands v = operands_twice v
twice_at a_product v = hist_twice v
twice_at more_factors v = operands_twice v
twice_at a_unary v = hist_twice v
twice_at a_history_atom v = hist_twice v
twice_at _ v = 0

-- BY RULES

abbrev pub OptionMeasure : {A : Type 0} → (A → ℕ → ℕ → Type 0) → Option A → ℕ → ℕ → Type 0
OptionMeasure P None n k = (n ≡ 0) × (k ≡ 0)
OptionMeasure P (Some x) n k = P x n k

-- a rule makes the value of parts that bind n names in all, and k that are bound together are the same
abbrev pub Measure : {s : Sort Thing} → RuleFor s → Meant s → ℕ → ℕ → Type 0
Measure (one_of is) v n k = (n ≡ 0) × (k ≡ 0)
Measure (part p) v n k = (n ≡ names_at p v) × (k ≡ twice_at p v)
Measure (both a b) v n k =
    (i : ℕ) × ((j : ℕ) × ((l : ℕ) × ((o : ℕ) × ((n ≡ i + j) × ((k ≡ l + o) × (Measure a v.0 i l × Measure b v.1 j o))))))
Measure (either a b) v n k = Measure a v n k ⊎ Measure b v n k
Measure (maybe a) v n k = OptionMeasure (Measure a) v n k
Measure (placed a) v n k = Measure a v.1 n k
Measure (make {s = s} f a) v n k = (x : Meant s) × ((v ≡ f x) × Measure a x n k)

same_both : {A : Type 0} (f g : A → ℕ) {v w : A} {n k : ℕ} → v ≡ w → (n ≡ f w) × (k ≡ g w) → (n ≡ f v) × (k ≡ g v)
same_both f g {n = n} {k = k} e h = subst (λ u. (n ≡ f u) × (k ≡ g u)) (sym e) h

head_is : (t : Tok) (x : Option (List WrittenHist × List Expression)) (n j k o : ℕ) → n ≡ j → k ≡ o → OptionMeasure (λ v n k. (n ≡ given_bound v) × (k ≡ given_twice v)) x j o
    → (n ≡ bound_in_head (head_from (t, x))) × (k ≡ twice_in_head (head_from (t, x)))
head_is t None n j k o e f (g, h) = (omega arith, omega arith)
head_is t (Some (ms, es)) n j k o e f (g, h) = (omega arith, omega arith)

atom_is : (t : Tok) (x : Option (List WrittenHist × List Expression)) (n j k o : ℕ) → n ≡ j → k ≡ o → OptionMeasure (λ v n k. (n ≡ given_bound v) × (k ≡ given_twice v)) x j o
    → (n ≡ bound_in (atom_from (t, x))) × (k ≡ twice_in (atom_from (t, x)))
atom_is t None n j k o e f (g, h) = (omega arith, omega arith)
atom_is t (Some (ms, es)) n j k o e f (g, h) = (omega arith, omega arith)

ended_is : (at : ℕ) (e : Expression) (x : Ending) (n k : ℕ) → n ≡ bound_in e + ending_bound x → k ≡ twice_in e + ending_twice x → (n ≡ bound_in (ended at e x)) × (k ≡ twice_in (ended at e x))
ended_is at e plain_ending n k g h = (omega arith, omega arith)
ended_is at e (at_once f) n k g h = (omega arith, omega arith)
ended_is at e (in_turn f) n k g h = (omega arith, omega arith)
ended_is at e (of_type t) n k g h = (omega arith, omega arith)

-- behind a sign an option of one more part
abbrev OneMore : {A : Type 0} → (A → ℕ) → (A → ℕ) → Tok × A → ℕ → ℕ → Type 0
OneMore f g v n k = (i : ℕ) × ((j : ℕ) × ((l : ℕ) × ((o : ℕ) × ((n ≡ i + j) × ((k ≡ l + o) × (((i ≡ 0) × (l ≡ 0)) × ((j ≡ f v.1) × (o ≡ g v.1))))))))

cons_is : (at : ℕ) (e : Expression) (x : Option (Tok × Expression)) (n j k o : ℕ) → n ≡ bound_in e + j → k ≡ twice_in e + o → OptionMeasure (OneMore bound_in twice_in) x j o
    → (n ≡ bound_in (consed (at, (e, x)))) × (k ≡ twice_in (consed (at, (e, x))))
cons_is at e None n j k o f g (a, b) = (omega arith, omega arith)
cons_is at e (Some (t, r)) n j k o f g (i, (q, (l, (z, (p, (y, ((a, b), (c, d)))))))) = (omega arith, omega arith)

hist_cons_is : (at : ℕ) (e : WrittenHist) (x : Option (Tok × WrittenHist)) (n j k o : ℕ) → n ≡ hist_bound e + j → k ≡ hist_twice e + o → OptionMeasure (OneMore hist_bound hist_twice) x j o
    → (n ≡ hist_bound (hist_consed (at, (e, x)))) × (k ≡ hist_twice (hist_consed (at, (e, x))))
hist_cons_is at e None n j k o f g (a, b) = (omega arith, omega arith)
hist_cons_is at e (Some (t, r)) n j k o f g (i, (q, (l, (z, (p, (y, ((a, b), (c, d)))))))) = (omega arith, omega arith)

compared_is : (at : ℕ) (e : WrittenHist) (x : Option (Tok × WrittenHist)) (n j k o : ℕ) → n ≡ hist_bound e + j → k ≡ hist_twice e + o → OptionMeasure (OneMore hist_bound hist_twice) x j o
    → (n ≡ hist_bound (compared (at, (e, x)))) × (k ≡ hist_twice (compared (at, (e, x))))
compared_is at e None n j k o f g (a, b) = (omega arith, omega arith)
compared_is at e (Some (t, r)) n j k o f g (i, (q, (l, (z, (p, (y, ((a, b), (c, d)))))))) = (omega arith, omega arith)

second_is : (t : Tok) (e : WrittenHist) (x : Option (Tok × WrittenHist)) (n j k o : ℕ) → n ≡ hist_bound e + j → k ≡ hist_twice e + o → OptionMeasure (OneMore hist_bound hist_twice) x j o
    → (n ≡ hist_bound (bracketed_hist (t, Some (e, x)))) × (k ≡ hist_twice (bracketed_hist (t, Some (e, x))))
second_is t e None n j k o f g (a, b) = (omega arith, omega arith)
second_is t e (Some (c', r)) n j k o f g (i, (q, (l, (z, (p, (y, ((a, b), (c, d)))))))) = (omega arith, omega arith)

to_left_is : (at : ℕ) (h : WrittenHist) (more : List (Tok × WrittenHist)) → (hist_bound (to_left at h more) ≡ hist_bound h + operands_bound more) × (hist_twice (to_left at h more) ≡ hist_twice h + operands_twice more)
to_left_is at h [] = (omega arith, omega arith)
to_left_is at h ((t, r) ∷ more) = (let w = to_left_is at (hist_with at (reckoned (operator t.kind) h.expr r.expr)) more in (omega (arith, w.0), omega (arith, w.1)))

prefixed_same : (k : Terminal) (e : HistExpr) → (bound_in_hist (prefixed_expr k e) ≡ bound_in_hist e) × (twice_in_hist (prefixed_expr k e) ≡ twice_in_hist e)
prefixed_same FstWord e = (refl, refl)
prefixed_same SndWord e = (refl, refl)
prefixed_same InlWord e = (refl, refl)
prefixed_same _ e = (refl, refl)

prefixed_is : (t : Tok) (h : WrittenHist) (n k : ℕ) → n ≡ hist_bound h → k ≡ hist_twice h → (n ≡ hist_bound (prefixed (t, h))) × (k ≡ hist_twice (prefixed (t, h)))
prefixed_is t h n k e f = (let w = prefixed_same t.kind h.expr in (omega (arith, e, w.0), omega (arith, f, w.1)))

-- two parts behind a sign
abbrev TwoMore : {A B : Type 0} → (A → ℕ) → (A → ℕ) → (B → ℕ) → (B → ℕ) → A × B → ℕ → ℕ → Type 0
TwoMore f g f' g' v n k = (i : ℕ) × ((j : ℕ) × ((l : ℕ) × ((o : ℕ) × ((n ≡ i + j) × ((k ≡ l + o) × (((i ≡ f v.0) × (l ≡ g v.0)) × ((j ≡ f' v.1) × (o ≡ g' v.1))))))))

abbrev MoreBehind : {A B : Type 0} → (A → ℕ) → (A → ℕ) → (B → ℕ) → (B → ℕ) → Tok × (A × B) → ℕ → ℕ → Type 0
MoreBehind f g f' g' v n k = (i : ℕ) × ((j : ℕ) × ((l : ℕ) × ((o : ℕ) × ((n ≡ i + j) × ((k ≡ l + o) × (((i ≡ 0) × (l ≡ 0)) × TwoMore f g f' g' v.1 j o))))))

more_histories_are : (x : Option (Tok × (WrittenHist × List WrittenHist))) (n k : ℕ) → OptionMeasure (MoreBehind hist_bound hist_twice bound_in_hists twice_in_hists) x n k
    → (n ≡ bound_in_hists (more_behind x)) × (k ≡ twice_in_hists (more_behind x))
more_histories_are None n k h = h
more_histories_are (Some (t, (m, ms))) n k (i, (j, (l, (o, (p, (q, ((a, b), (i', (j', (l', (o', (p', (q', ((c, d), (e, f))))))))))))))) = (omega arith, omega arith)

more_expressions_are : (x : Option (Tok × (Expression × List Expression))) (n k : ℕ) → OptionMeasure (MoreBehind bound_in twice_in list_bound list_twice) x n k
    → (n ≡ list_bound (more_behind x)) × (k ≡ list_twice (more_behind x))
more_expressions_are None n k h = h
more_expressions_are (Some (t, (m, ms))) n k (i, (j, (l, (o, (p, (q, ((a, b), (i', (j', (l', (o', (p', (q', ((c, d), (e, f))))))))))))))) = (omega arith, omega arith)

-- an operator with its operand, and more of them
abbrev MoreOperands : (Tok × WrittenHist) × List (Tok × WrittenHist) → ℕ → ℕ → Type 0
MoreOperands v n k = (i : ℕ) × ((j : ℕ) × ((l : ℕ) × ((o : ℕ) × ((n ≡ i + j) × ((k ≡ l + o) × (OneMore hist_bound hist_twice v.0 i l × ((j ≡ operands_bound v.1) × (o ≡ operands_twice v.1))))))))

more_operands_are : (x : Option ((Tok × WrittenHist) × List (Tok × WrittenHist))) (n k : ℕ) → OptionMeasure MoreOperands x n k
    → (n ≡ operands_bound (more_of x)) × (k ≡ operands_twice (more_of x))
more_operands_are None n k h = h
more_operands_are (Some ((t, m), ms)) n k (i, (j, (l, (o, (p, (q, ((i', (j', (l', (o', (p', (q', ((a, b), (c, d)))))))), (e, f)))))))) = (omega arith, omega arith)

histories_in_braces : (x : Option (List WrittenHist)) (n k : ℕ) → OptionMeasure (Measure braced_histories_rule) x n k → (n ≡ bound_in_hists (given_or_none x)) × (k ≡ twice_in_hists (given_or_none x))
histories_in_braces None n k h = h
histories_in_braces (Some ms) n k (y, (e, (i, (j, (l, (o, (p, (q, ((a, b), (i', (j', (l', (o', (p', (q', ((w, (f, (i2, (j2, (l2, (o2, (p2, (q2, ((c, d), (g, h)))))))))), (r, s))))))))))))))))) =
    let z : ms ≡ w.0 ∷ w.1 = e ∙ f in
    same_both bound_in_hists twice_in_hists z (omega arith, omega arith)

given_histories : (x : List WrittenHist) (n k : ℕ) → Measure histories_rule x n k → (n ≡ bound_in_hists x) × (k ≡ twice_in_hists x)
given_histories x n k (y, (e, g)) = same_both bound_in_hists twice_in_hists e (histories_in_braces y n k g)

given_expressions : (x : List Expression) (n k : ℕ) → Measure expressions_rule x n k → (n ≡ list_bound x) × (k ≡ list_twice x)
given_expressions x n k (inl (y, (e, (a, b)))) = same_both list_bound list_twice e (a, b)
given_expressions x n k (inr (y, (e, (i, (j, (l, (o, (p, (q, ((w, (f, (i2, (j2, (l2, (o2, (p2, (q2, ((c, d), (g, h)))))))))), (r, s))))))))))) =
    let z : x ≡ w.0 ∷ w.1 = e ∙ f in
    same_both list_bound list_twice z (omega arith, omega arith)

-- THE NUMBERS OF EACH PART

pub head_numbers : (v : Head) (n k : ℕ) → Measure (rule_of a_head) v n k → (n ≡ bound_in_head v) × (k ≡ twice_in_head v)
head_numbers v n k (inl (x, (e, (i1, (j1, (l1, (o1, (p1, (q1, ((e1, d1), g)))))))))) = same_both bound_in_head twice_in_head e (head_is x.0 x.1 n j1 k o1 (omega arith) (omega arith) g)
head_numbers v n k (inr (x, (e, (i1, (j1, (l1, (o1, (p1, (q1, ((e1, d1), (i2, (j2, (l2, (o2, (p2, (q2, ((e2, d2), (i3, (j3, (l3, (o3, (p3, (q3, ((e3, d3), (i4, (j4, (l4, (o4, (p4, (q4, ((e4, d4), (e5, d5)))))))))))))))))))))))))))))))) = same_both bound_in_head twice_in_head e (omega arith, omega arith)

pub application_numbers : (v : Expression) (n k : ℕ) → Measure (rule_of an_application) v n k → (n ≡ bound_in v) × (k ≡ twice_in v)
application_numbers v n k (inl (x, (e, (i1, (j1, (l1, (o1, (p1, (q1, ((e1, d1), (e2, d2))))))))))) = same_both bound_in twice_in e (omega arith, omega arith)
application_numbers v n k (inr (inl (x, (e, (i1, (j1, (l1, (o1, (p1, (q1, ((e1, d1), (e2, d2)))))))))))) = same_both bound_in twice_in e (omega arith, omega arith)
application_numbers v n k (inr (inr h)) = h

pub ending_numbers : (v : Ending) (n k : ℕ) → Measure (rule_of an_ending) v n k → (n ≡ ending_bound v) × (k ≡ ending_twice v)
ending_numbers v n k (inl (x, (e, (e1, d1)))) = same_both ending_bound ending_twice e (omega arith, omega arith)
ending_numbers v n k (inr (inl (x, (e, (i1, (j1, (l1, (o1, (p1, (q1, ((e1, d1), (i2, (j2, (l2, (o2, (p2, (q2, ((e2, d2), (e3, d3))))))))))))))))))) = same_both ending_bound ending_twice e (omega arith, omega arith)
ending_numbers v n k (inr (inr (inl (x, (e, (i1, (j1, (l1, (o1, (p1, (q1, ((e1, d1), (i2, (j2, (l2, (o2, (p2, (q2, ((e2, d2), (e3, d3)))))))))))))))))))) = same_both ending_bound ending_twice e (omega arith, omega arith)
ending_numbers v n k (inr (inr (inr (x, (e, (i1, (j1, (l1, (o1, (p1, (q1, ((e1, d1), (i2, (j2, (l2, (o2, (p2, (q2, ((e2, d2), (e3, d3)))))))))))))))))))) = same_both ending_bound ending_twice e (omega arith, omega arith)

pub arguments_numbers : (v : List WrittenHist × List Expression) (n k : ℕ) → Measure (rule_of arguments) v n k → (n ≡ given_bound v) × (k ≡ given_twice v)
arguments_numbers v n k (x, (e, (i1, (j1, (l1, (o1, (p1, (q1, (g, (i2, (j2, (l2, (o2, (p2, (q2, ((e1, d1), h)))))))))))))))) =
    let a = given_histories x.0 i1 l1 g in
    let b = given_expressions x.1.1 j2 o2 h in
    same_both given_bound given_twice e (omega (arith, a.0, b.0), omega (arith, a.1, b.1))

pub wait_numbers : (v : Expression) (n k : ℕ) → Measure wait_rule v n k → (n ≡ bound_in v) × (k ≡ twice_in v)
wait_numbers v n k (x, (e, (i1, (j1, (l1, (o1, (p1, (q1, ((e1, d1), (i2, (j2, (l2, (o2, (p2, (q2, ((e2, d2), (i3, (j3, (l3, (o3, (p3, (q3, ((e3, d3), (e4, d4)))))))))))))))))))))))) = same_both bound_in twice_in e (omega arith, omega arith)

pub if_numbers : (v : Expression) (n k : ℕ) → Measure if_rule v n k → (n ≡ bound_in v) × (k ≡ twice_in v)
if_numbers v n k (x, (e, (i1, (j1, (l1, (o1, (p1, (q1, ((e1, d1), (i2, (j2, (l2, (o2, (p2, (q2, ((e2, d2), (i3, (j3, (l3, (o3, (p3, (q3, ((e3, d3), (i4, (j4, (l4, (o4, (p4, (q4, ((e4, d4), (i5, (j5, (l5, (o5, (p5, (q5, ((e5, d5), (e6, d6)))))))))))))))))))))))))))))))))))))) = same_both bound_in twice_in e (omega arith, omega arith)

pub cons_numbers : (v : Expression) (n k : ℕ) → Measure cons_rule v n k → (n ≡ bound_in v) × (k ≡ twice_in v)
cons_numbers v n k (x, (e, (i1, (j1, (l1, (o1, (p1, (q1, ((e1, d1), g))))))))) = same_both bound_in twice_in e (cons_is x.0 x.1.0 x.1.1 n j1 k o1 (omega arith) (omega arith) g)

pub name_numbers : (v : Expression) (n k : ℕ) → Measure name_rule v n k → (n ≡ bound_in v) × (k ≡ twice_in v)
name_numbers v n k (x, (e, (i1, (j1, (l1, (o1, (p1, (q1, ((e1, d1), g))))))))) = same_both bound_in twice_in e (atom_is x.0 x.1 n j1 k o1 (omega arith) (omega arith) g)

pub bracket_numbers : (v : Expression) (n k : ℕ) → Measure bracket_rule v n k → (n ≡ bound_in v) × (k ≡ twice_in v)
bracket_numbers v n k (x, (e, (i1, (j1, (l1, (o1, (p1, (q1, ((e1, d1), inl (y, (f, (c, d)))))))))))) =
    same_both bound_in twice_in e (same_both (λ q. bound_in (bracketed (x.0, q))) (λ q. twice_in (bracketed (x.0, q))) f (omega arith, omega arith))
bracket_numbers v n k (x, (e, (i1, (j1, (l1, (o1, (p1, (q1, ((e1, d1), inr (y, (f, (i, (j, (l, (o, (p, (q, ((c, d), (a, b))))))))))))))))))) =
    same_both bound_in twice_in e (same_both (λ q. bound_in (bracketed (x.0, q))) (λ q. twice_in (bracketed (x.0, q))) f (ended_is x.0.at y.0 y.1 n k (omega arith) (omega arith)))

pub braces_numbers : (v : Expression) (n k : ℕ) → Measure braces_rule v n k → (n ≡ bound_in v) × (k ≡ twice_in v)
braces_numbers v n k (x, (e, (i1, (j1, (l1, (o1, (p1, (q1, ((e1, d1), (i2, (j2, (l2, (o2, (p2, (q2, ((e2, d2), (e3, d3))))))))))))))))) = same_both bound_in twice_in e (omega arith, omega arith)

pub histories_numbers : (v : List WrittenHist) (n k : ℕ) → Measure (rule_of more_histories) v n k → (n ≡ bound_in_hists v) × (k ≡ twice_in_hists v)
histories_numbers v n k (x, (e, g)) = same_both bound_in_hists twice_in_hists e (more_histories_are x n k g)

pub expressions_numbers : (v : List Expression) (n k : ℕ) → Measure (rule_of more_expressions) v n k → (n ≡ list_bound v) × (k ≡ list_twice v)
expressions_numbers v n k (x, (e, g)) = same_both list_bound list_twice e (more_expressions_are x n k g)

pub hist_cons_numbers : (v : WrittenHist) (n k : ℕ) → Measure hist_cons_rule v n k → (n ≡ hist_bound v) × (k ≡ hist_twice v)
hist_cons_numbers v n k (x, (e, (i1, (j1, (l1, (o1, (p1, (q1, ((e1, d1), g))))))))) = same_both hist_bound hist_twice e (hist_cons_is x.0 x.1.0 x.1.1 n j1 k o1 (omega arith) (omega arith) g)

pub comparison_numbers : (v : WrittenHist) (n k : ℕ) → Measure (rule_of a_comparison) v n k → (n ≡ hist_bound v) × (k ≡ hist_twice v)
comparison_numbers v n k (x, (e, (i1, (j1, (l1, (o1, (p1, (q1, ((e1, d1), g))))))))) = same_both hist_bound hist_twice e (compared_is x.0 x.1.0 x.1.1 n j1 k o1 (omega arith) (omega arith) g)

pub sum_numbers : (v : WrittenHist) (n k : ℕ) → Measure (rule_of a_sum) v n k → (n ≡ hist_bound v) × (k ≡ hist_twice v)
sum_numbers v n k (x, (e, (i1, (j1, (l1, (o1, (p1, (q1, ((e1, d1), (e2, d2)))))))))) = (let w = to_left_is x.0 x.1.0 x.1.1 in same_both hist_bound hist_twice e (omega (arith, w.0), omega (arith, w.1)))

pub product_numbers : (v : WrittenHist) (n k : ℕ) → Measure (rule_of a_product) v n k → (n ≡ hist_bound v) × (k ≡ hist_twice v)
product_numbers v n k (x, (e, (i1, (j1, (l1, (o1, (p1, (q1, ((e1, d1), (e2, d2)))))))))) = (let w = to_left_is x.0 x.1.0 x.1.1 in same_both hist_bound hist_twice e (omega (arith, w.0), omega (arith, w.1)))

pub summands_numbers : (v : List (Tok × WrittenHist)) (n k : ℕ) → Measure (rule_of more_summands) v n k → (n ≡ operands_bound v) × (k ≡ operands_twice v)
summands_numbers v n k (x, (e, g)) = same_both operands_bound operands_twice e (more_operands_are x n k g)

pub factors_numbers : (v : List (Tok × WrittenHist)) (n k : ℕ) → Measure (rule_of more_factors) v n k → (n ≡ operands_bound v) × (k ≡ operands_twice v)
factors_numbers v n k (x, (e, g)) = same_both operands_bound operands_twice e (more_operands_are x n k g)

pub unary_numbers : (v : WrittenHist) (n k : ℕ) → Measure (rule_of a_unary) v n k → (n ≡ hist_bound v) × (k ≡ hist_twice v)
unary_numbers v n k (inl (x, (e, (i1, (j1, (l1, (o1, (p1, (q1, ((e1, d1), (e2, d2))))))))))) = same_both hist_bound hist_twice e (prefixed_is x.0 x.1 n k (omega arith) (omega arith))
unary_numbers v n k (inr h) = h

pub history_atom_numbers : (v : WrittenHist) (n k : ℕ) → Measure (rule_of a_history_atom) v n k → (n ≡ hist_bound v) × (k ≡ hist_twice v)
history_atom_numbers v n k (inl (x, (e, h))) = same_both hist_bound hist_twice e h
history_atom_numbers v n k (inr (inl (x, (e, h)))) = same_both hist_bound hist_twice e h
history_atom_numbers v n k (inr (inr (inl (x, (e, (i1, (j1, (l1, (o1, (p1, (q1, ((e1, d1), (e2, d2))))))))))))) = same_both hist_bound hist_twice e (omega arith, omega arith)
history_atom_numbers v n k (inr (inr (inr (inl (x, (e, h)))))) = same_both hist_bound hist_twice e h
history_atom_numbers v n k (inr (inr (inr (inr (x, (e, (i1, (j1, (l1, (o1, (p1, (q1, ((e1, d1), inl (y, (f, (c, d)))))))))))))))) =
    same_both hist_bound hist_twice e (same_both (λ q. hist_bound (bracketed_hist (x.0, q))) (λ q. hist_twice (bracketed_hist (x.0, q))) f (omega arith, omega arith))
history_atom_numbers v n k (inr (inr (inr (inr (x, (e, (i3, (j3, (l3, (o3, (p3, (q3, ((e3, d3), inr (y, (f, (i1, (j1, (l1, (o1, (p1, (q1, ((e1, d1), (i2, (j2, (l2, (o2, (p2, (q2, (g, (e2, d2)))))))))))))))))))))))))))))) =
    same_both hist_bound hist_twice e (same_both (λ q. hist_bound (bracketed_hist (x.0, q))) (λ q. hist_twice (bracketed_hist (x.0, q))) f (second_is x.0 y.0 y.1.0 n i2 k l2 (omega arith) (omega arith) g))
