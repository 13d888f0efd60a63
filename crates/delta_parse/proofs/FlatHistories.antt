-- What the rules of historical expressions read, with their parts in one row.
use Rattle.std.proofs.Common.{◌≡◌, ◌∙◌, ℕ, true, false, List, ◌∷◌, ◌||◌, refl, ap, sym}
use Rattle.grammar.specs.Grammar.{place_of}
use Rattle.grammar.specs.Rules.{token, thing, pair, option, one_of, part, both, either, maybe, make}
use Rattle.grammar.specs.Reading.{Outcome, got, ◌>>=◌, starts, token_at}
use Rattle.hist_value.specs.HistExpr.{variable, literal, unit_expr, reckoned, choice, nil_expr}
use Rattle.delta_tree.specs.SyntaxTree.{WrittenHist}
use Rattle.delta_parse.specs.declared.terminal.Terminal.{Terminal}
use Rattle.delta_parse.specs.declared.terminal.Terminal.TheVariants.{FoldWord, CaseWord, OfWord, FromWord, InlWord, InrWord, NilWord, NameToken, OneToken, NumberToken, Open, Close, OpenBrace, CloseBrace, Comma, Colons, Arrow, Bar, Less, Equals, Plus, Minus, Times, Slash}
use Rattle.delta_parse.specs.Terminals.{Tok, is_kind}
use Rattle.delta_parse.specs.Parts.{history_thing, branch_thing, RuleFor, a_history, a_comparison, a_sum, more_summands, a_product, more_factors, a_unary, a_history_atom}
use Rattle.delta_parse.specs.Actions.{operator, chosen, hist_with, hist_consed, compared, prefixed_expr, bracketed_hist, unit_inside, pair_inside}
use Rattle.delta_parse.specs.Rules.{sign, is_comparison, is_prefix, branch_rule, fold_rule, choice_rule, hist_bracket_rule}
use Rattle.delta_parse.specs.Tables.{reading, read_rule}
use Rattle.delta_parse.specs.Readers.{with_operands}
use Rattle.delta_parse.specs.Reads.{before, name_between, negative, two_expr, fold_on, choice_on, second_inside}
use Rattle.delta_parse.proofs.Steps.{history_is, comparison_is, sum_is, summands_is, product_is, factors_is, unary_is, history_atom_is}
use Rattle.delta_parse.proofs.Flat.{assoc}

pub fold_flat : (ts : List Tok) → read_rule fold_rule ts ≡ (token_at (is_kind FoldWord) ts >>= λ w. before FromWord (reading a_history w.1) >>= λ l. fold_on w.0.at l.0 l.1)
fold_flat ts = simp assoc

pub branch_flat : (k : Terminal) (ts : List Tok) → read_rule (branch_rule k) ts ≡ (name_between k Arrow ts >>= λ x. reading a_history x.1 >>= λ h. got (x.0.1, h.0) h.1)
branch_flat k ts = simp assoc

choice_of : (l r : RuleFor (thing branch_thing)) (ts : List Tok) → read_rule {s = thing history_thing} (make {t = thing history_thing} chosen (both (sign CaseWord) (both (part a_history) (both (sign OfWord) (both (sign OpenBrace) (both l (both (sign Bar) (both r (sign CloseBrace))))))))) ts
    ≡ (token_at (is_kind CaseWord) ts >>= λ w. before OpenBrace (before OfWord (reading a_history w.1)) >>= λ m. before Bar (read_rule l m.1) >>= λ x. before CloseBrace (read_rule r x.1) >>= λ y. got (hist_with w.0.at (choice m.0.expr x.0.0 x.0.1.expr y.0.0 y.0.1.expr)) y.1)
choice_of l r ts = simp assoc

pub choice_flat : (ts : List Tok) → read_rule choice_rule ts ≡ (token_at (is_kind CaseWord) ts >>= λ w. before OpenBrace (before OfWord (reading a_history w.1)) >>= λ m. choice_on w.0.at m.0 m.1)
choice_flat ts = choice_of (branch_rule InlWord) (branch_rule InrWord) ts

pub history_fold : (ts : List Tok) → starts (is_kind FoldWord) ts ≡ true → reading a_history ts ≡ read_rule fold_rule ts
history_fold ts k = rw (history_is ts, k) refl

pub history_choice : (ts : List Tok) → starts (is_kind FoldWord) ts ≡ false → starts (is_kind CaseWord) ts ≡ true → reading a_history ts ≡ read_rule choice_rule ts
history_choice ts n k = rw (history_is ts, n, k) refl

-- a history, and maybe others behind it
abbrev pub tail : ℕ → WrittenHist → List Tok → Outcome Tok WrittenHist
tail at h ts = read_rule (maybe (both (sign Colons) (part a_history))) ts >>= λ y. got (hist_consed (at, (h, y.0))) y.1

pub history_cons : (ts : List Tok) → starts (is_kind FoldWord) ts ≡ false → starts (is_kind CaseWord) ts ≡ false → reading a_history ts ≡ (reading a_comparison ts >>= λ x. tail (place_of ts) x.0 x.1)
history_cons ts n p = rw (history_is ts, n, p) (simp assoc)

pub tail_alone : (at : ℕ) (h : WrittenHist) (ts : List Tok) → starts (is_kind Colons) ts ≡ false → tail at h ts ≡ got h ts
tail_alone at h ts k = rw k refl

pub tail_more : (at : ℕ) (h : WrittenHist) (ts : List Tok) (t : Tok) (mid : List Tok) → ts ≡ t ∷ mid → is_kind Colons t.kind ≡ true → tail at h ts ≡ (reading a_history mid >>= λ y. got (hist_with at (two_expr Colons h.expr y.0.expr)) y.1)
tail_more at h ts t mid q k = ap (tail at h) q ∙ rw k (simp assoc)

-- a side of a comparison, and maybe the other
abbrev pub other : ℕ → WrittenHist → List Tok → Outcome Tok WrittenHist
other at h ts = read_rule (maybe (both (one_of is_comparison) (part a_sum))) ts >>= λ y. got (compared (at, (h, y.0))) y.1

pub comparison_flat : (ts : List Tok) → reading a_comparison ts ≡ (reading a_sum ts >>= λ x. other (place_of ts) x.0 x.1)
comparison_flat ts = rw (comparison_is ts) (simp assoc)

pub other_alone : (at : ℕ) (h : WrittenHist) (ts : List Tok) → starts (λ k. is_kind Less k || is_kind Equals k) ts ≡ false → other at h ts ≡ got h ts
other_alone at h ts k = rw k refl

pub other_more : (at : ℕ) (h : WrittenHist) (ts : List Tok) (t : Tok) (mid : List Tok) → ts ≡ t ∷ mid → (is_kind Less t.kind || is_kind Equals t.kind) ≡ true → other at h ts ≡ (reading a_sum mid >>= λ y. got (hist_with at (reckoned (operator t.kind) h.expr y.0.expr)) y.1)
other_more at h ts t mid q k = ap (other at h) q ∙ rw k (simp assoc)

pub sum_flat : (ts : List Tok) → reading a_sum ts ≡ (reading a_product ts >>= λ x. with_operands (place_of ts) x.0 (reading more_summands x.1))
sum_flat ts = rw (sum_is ts) (simp assoc)

pub summands_none : (at : ℕ) (h : WrittenHist) (ts : List Tok) → starts (λ k. is_kind Plus k || is_kind Minus k) ts ≡ false → with_operands at h (reading more_summands ts) ≡ got h ts
summands_none at h ts k = rw (summands_is ts, k) refl

pub summands_more : (at : ℕ) (h : WrittenHist) (ts : List Tok) (t : Tok) (mid : List Tok) → ts ≡ t ∷ mid → (is_kind Plus t.kind || is_kind Minus t.kind) ≡ true
    → with_operands at h (reading more_summands ts) ≡ ((reading a_product mid >>= λ r. got (hist_with at (reckoned (operator t.kind) h.expr r.0.expr)) r.1) >>= λ y. with_operands at y.0 (reading more_summands y.1))
summands_more at h ts t mid q k = ap (λ us. with_operands at h (reading more_summands us)) q ∙ rw (summands_is (t ∷ mid), k) (simp assoc)

pub product_flat : (ts : List Tok) → reading a_product ts ≡ (reading a_unary ts >>= λ x. with_operands (place_of ts) x.0 (reading more_factors x.1))
product_flat ts = rw (product_is ts) (simp assoc)

pub factors_none : (at : ℕ) (h : WrittenHist) (ts : List Tok) → starts (λ k. is_kind Times k || is_kind Slash k) ts ≡ false → with_operands at h (reading more_factors ts) ≡ got h ts
factors_none at h ts k = rw (factors_is ts, k) refl

pub factors_more : (at : ℕ) (h : WrittenHist) (ts : List Tok) (t : Tok) (mid : List Tok) → ts ≡ t ∷ mid → (is_kind Times t.kind || is_kind Slash t.kind) ≡ true
    → with_operands at h (reading more_factors ts) ≡ ((reading a_unary mid >>= λ r. got (hist_with at (reckoned (operator t.kind) h.expr r.0.expr)) r.1) >>= λ y. with_operands at y.0 (reading more_factors y.1))
factors_more at h ts t mid q k = ap (λ us. with_operands at h (reading more_factors us)) q ∙ rw (factors_is (t ∷ mid), k) (simp assoc)

pub unary_prefix : (ts : List Tok) (t : Tok) (mid : List Tok) → ts ≡ t ∷ mid → is_prefix t.kind ≡ true → reading a_unary ts ≡ (reading a_unary mid >>= λ h. got (hist_with t.at (prefixed_expr t.kind h.0.expr)) h.1)
unary_prefix ts t mid q k = ap (reading a_unary) q ∙ rw (unary_is (t ∷ mid), k) (simp assoc)

pub unary_atom : (ts : List Tok) → starts is_prefix ts ≡ false → reading a_unary ts ≡ reading a_history_atom ts
unary_atom ts k = rw (unary_is ts, k) refl

-- ATOMS

pub atom_name : (ts : List Tok) (t : Tok) (mid : List Tok) → ts ≡ t ∷ mid → is_kind NameToken t.kind ≡ true → reading a_history_atom ts ≡ got (hist_with t.at (variable t.worth.name)) mid
atom_name ts t mid q k = ap (reading a_history_atom) q ∙ rw (history_atom_is (t ∷ mid), k) (refl {a = got (hist_with t.at (variable t.worth.name)) mid})

pub atom_number : (ts : List Tok) (t : Tok) (mid : List Tok) → starts (is_kind NameToken) ts ≡ false → ts ≡ t ∷ mid → (is_kind OneToken t.kind || is_kind NumberToken t.kind) ≡ true → reading a_history_atom ts ≡ got (hist_with t.at (literal t.worth.number)) mid
atom_number ts t mid n q k =
    let m : is_kind NameToken t.kind ≡ false = sym (ap (λ us. starts (is_kind NameToken) us) q) ∙ n in
    ap (reading a_history_atom) q ∙ rw (history_atom_is (t ∷ mid), m, k) (refl {a = got (hist_with t.at (literal t.worth.number)) mid})

pub atom_negative : (ts : List Tok) (t : Tok) (mid : List Tok) → starts (is_kind NameToken) ts ≡ false → starts (λ k. is_kind OneToken k || is_kind NumberToken k) ts ≡ false → ts ≡ t ∷ mid → is_kind Minus t.kind ≡ true
    → reading a_history_atom ts ≡ negative t.at mid
atom_negative ts t mid n p q k =
    let m : is_kind NameToken t.kind ≡ false = sym (ap (λ us. starts (is_kind NameToken) us) q) ∙ n in
    let l : (is_kind OneToken t.kind || is_kind NumberToken t.kind) ≡ false = sym (ap (λ us. starts (λ k. is_kind OneToken k || is_kind NumberToken k) us) q) ∙ p in
    ap (reading a_history_atom) q ∙ rw (history_atom_is (t ∷ mid), m, l, k) (simp assoc)

pub atom_nil : (ts : List Tok) (t : Tok) (mid : List Tok) → starts (is_kind NameToken) ts ≡ false → starts (λ k. is_kind OneToken k || is_kind NumberToken k) ts ≡ false → starts (is_kind Minus) ts ≡ false → ts ≡ t ∷ mid → is_kind NilWord t.kind ≡ true
    → reading a_history_atom ts ≡ got (hist_with t.at nil_expr) mid
atom_nil ts t mid n p s q k =
    let m : is_kind NameToken t.kind ≡ false = sym (ap (λ us. starts (is_kind NameToken) us) q) ∙ n in
    let l : (is_kind OneToken t.kind || is_kind NumberToken t.kind) ≡ false = sym (ap (λ us. starts (λ k. is_kind OneToken k || is_kind NumberToken k) us) q) ∙ p in
    let r : is_kind Minus t.kind ≡ false = sym (ap (λ us. starts (is_kind Minus) us) q) ∙ s in
    ap (reading a_history_atom) q ∙ rw (history_atom_is (t ∷ mid), m, l, r, k) (refl {a = got (hist_with t.at nil_expr) mid})

pub atom_bracket : (ts : List Tok) → starts (is_kind NameToken) ts ≡ false → starts (λ k. is_kind OneToken k || is_kind NumberToken k) ts ≡ false → starts (is_kind Minus) ts ≡ false → starts (is_kind NilWord) ts ≡ false
    → reading a_history_atom ts ≡ read_rule hist_bracket_rule ts
atom_bracket ts n p s l = rw (history_atom_is ts, n, p, s, l) refl

-- BRACKETS

abbrev pub inside_rule : RuleFor (option (pair (thing history_thing) (option (pair token (thing history_thing)))))
inside_rule = either {s = option (pair (thing history_thing) (option (pair token (thing history_thing))))}
    (make {t = option (pair (thing history_thing) (option (pair token (thing history_thing))))} unit_inside (sign Close))
    (make {t = option (pair (thing history_thing) (option (pair token (thing history_thing))))} pair_inside
    (both (part a_history) (both (maybe (both (sign Comma) (part a_history))) (sign Close))))

-- what stands behind a bracket that opens
abbrev pub inside : Tok → List Tok → Outcome Tok WrittenHist
inside t ts = read_rule inside_rule ts >>= λ y. got (bracketed_hist (t, y.0)) y.1

pub bracket_flat : (ts : List Tok) → read_rule hist_bracket_rule ts ≡ (token_at (is_kind Open) ts >>= λ t. inside t.0 t.1)
bracket_flat ts = simp assoc

pub inside_none : (o : Tok) (ts : List Tok) (t : Tok) (mid : List Tok) → ts ≡ t ∷ mid → is_kind Close t.kind ≡ true → inside o ts ≡ got (hist_with o.at unit_expr) mid
inside_none o ts t mid q k = ap (inside o) q ∙ rw k refl

pub inside_some : (o : Tok) (ts : List Tok) → starts (is_kind Close) ts ≡ false → inside o ts ≡ (reading a_history ts >>= λ h. second_inside o h.0 h.1)
inside_some o ts k = rw k (simp assoc)

pub second_none : (o : Tok) (h : WrittenHist) (ts : List Tok) → starts (is_kind Comma) ts ≡ false → second_inside o h ts ≡ before Close (got h ts)
second_none o h ts k = rw k (simp assoc)

pub second_some : (o : Tok) (h : WrittenHist) (ts : List Tok) (t : Tok) (mid : List Tok) → ts ≡ t ∷ mid → is_kind Comma t.kind ≡ true
    → second_inside o h ts ≡ (before Close (reading a_history mid) >>= λ y. got (hist_with o.at (two_expr Comma h.expr y.0.expr)) y.1)
second_some o h ts t mid q k = ap (second_inside o h) q ∙ rw k (simp assoc)
