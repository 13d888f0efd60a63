-- What the rules of expressions read, with their parts in one row.
use Rattle.std.proofs.Common.{◌≡◌, ◌∙◌, ℕ, true, false, List, [], ◌∷◌, ◌||◌, refl, ap, sym}
use Rattle.grammar.specs.Grammar.{place_of}
use Rattle.grammar.specs.Rules.{thing, pair, option, part, both, either, maybe, make}
use Rattle.grammar.specs.Reading.{Outcome, got, stuck, out, ◌>>=◌, starts, token_at}
use Rattle.delta_tree.specs.SyntaxTree.{Expression, name_at, call_at, name_head, call_head, typed_head, typed_at, hist_at, wait_at, if_at, unit_at, eps_at, nil_at}
use Rattle.delta_parse.specs.declared.terminal.Terminal.TheVariants.{LetWord, WaitWord, IfWord, InWord, ElseWord, CaseWord, OfWord, InlWord, InrWord, NilWord, EpsWord, NameToken, Open, Close, OpenBrace, CloseBrace, Comma, Semicolon, Colons, Arrow, Bar}
use Rattle.delta_parse.specs.Terminals.{Tok, is_kind}
use Rattle.delta_parse.specs.Parts.{expression_thing, ending_thing, RuleFor, sum_arms, star_arms, a_head, an_application, an_atom, an_ending, an_expression, the_arms, arguments, more_expressions, a_history}
use Rattle.delta_parse.specs.Actions.{let_with, case_with, consed, atom_from, bracketed, nothing_inside, something_inside, expression_list}
use Rattle.delta_parse.specs.Rules.{sign, let_rule, wait_rule, if_rule, bracket_rule, braces_rule, case_rule, name_rule, sum_arms_rule, star_arms_rule, expressions_rule, expression_items_rule, histories_rule}
use Rattle.delta_parse.specs.Tables.{reading, read_rule}
use Rattle.delta_parse.specs.Readers.{behind, with_ending}
use Rattle.delta_parse.specs.Reads.{before, name_between, two_names, let_front, if_front, type_between, one_at, two_at}
use Rattle.delta_parse.proofs.Steps.{head_is, expression_is, application_is, atom_is, ending_is, arms_is, arguments_is}

pub assoc : {K A B C : Type 0} (o : Outcome K A) (f : A × List K → Outcome K B) (g : B × List K → Outcome K C) → (o >>= f) >>= g ≡ o >>= λ x. f x >>= g
assoc (got x r) f g = refl
assoc (stuck n) f g = refl
assoc out f g = refl

-- THE FORMS

pub let_flat : (ts : List Tok) → read_rule let_rule ts ≡ (let_front ts >>= λ x. before InWord (reading a_head x.1) >>= λ h. reading an_expression h.1 >>= λ e. got (let_with x.0.0 x.0.1 h.0 e.0) e.1)
let_flat ts = simp assoc

pub wait_flat : (ts : List Tok) → read_rule wait_rule ts ≡ (name_between WaitWord InWord ts >>= λ x. reading an_expression x.1 >>= λ e. got (wait_at x.0.0 x.0.1 e.0) e.1)
wait_flat ts = simp assoc

pub if_flat : (ts : List Tok) → read_rule if_rule ts ≡ (if_front ts >>= λ x. before ElseWord (reading an_expression x.1) >>= λ a. reading an_expression a.1 >>= λ b. got (if_at x.0.0 x.0.1 a.0 b.0) b.1)
if_flat ts = simp assoc

pub braces_flat : (ts : List Tok) → read_rule braces_rule ts ≡ (token_at (is_kind OpenBrace) ts >>= λ t. before CloseBrace (reading a_history t.1) >>= λ m. got (hist_at t.0.at m.0) m.1)
braces_flat ts = simp assoc

pub case_flat : (ts : List Tok) → read_rule case_rule ts ≡ (token_at (is_kind CaseWord) ts >>= λ w. before OpenBrace (before OfWord (reading a_head w.1)) >>= λ h. before CloseBrace (reading the_arms h.1) >>= λ a. got (case_with w.0.at h.0 a.0) a.1)
case_flat ts = simp assoc

pub sum_flat : (ts : List Tok) → read_rule sum_arms_rule ts ≡ (name_between InlWord Arrow ts >>= λ x. before Bar (reading an_expression x.1) >>= λ a. name_between InrWord Arrow a.1 >>= λ y. reading an_expression y.1 >>= λ b. got (sum_arms x.0.1 a.0 y.0.1 b.0) b.1)
sum_flat ts = simp assoc

pub star_flat : (ts : List Tok) → read_rule star_arms_rule ts ≡ (before Arrow (token_at (is_kind NilWord) ts) >>= λ x. before Bar (reading an_expression x.1) >>= λ a. two_names Colons Arrow a.1 >>= λ y. reading an_expression y.1 >>= λ b. got (star_arms a.0 y.0.0 y.0.1 b.0) b.1)
star_flat ts = simp assoc

pub arms_sum : (ts : List Tok) → starts (is_kind InlWord) ts ≡ true → reading the_arms ts ≡ read_rule sum_arms_rule ts
arms_sum ts k = rw (arms_is ts, k) refl

pub arms_star : (ts : List Tok) → starts (is_kind InlWord) ts ≡ false → reading the_arms ts ≡ read_rule star_arms_rule ts
arms_star ts k = rw (arms_is ts, k) refl

-- CALLS

pub arguments_flat : (ts : List Tok) → reading arguments ts ≡ (before Open (read_rule histories_rule ts) >>= λ m. read_rule expressions_rule m.1 >>= λ e. got (m.0, e.0) e.1)
arguments_flat ts = rw (arguments_is ts) (simp assoc)

pub no_expressions_read : (ts : List Tok) (t : Tok) (mid : List Tok) → ts ≡ t ∷ mid → is_kind Close t.kind ≡ true → read_rule expressions_rule ts ≡ got [] mid
no_expressions_read ts t mid e k = ap (λ us. read_rule expressions_rule us) e ∙ rw k refl

pub expressions_flat : (ts : List Tok) → starts (is_kind Close) ts ≡ false → read_rule expressions_rule ts ≡ before Close (read_rule expression_items_rule ts)
expressions_flat ts k = rw k (simp assoc)

pub items_flat : (ts : List Tok) → read_rule expression_items_rule ts ≡ (reading an_expression ts >>= λ x. behind (x.0 ∷ []) (reading more_expressions x.1))
items_flat ts = simp assoc

pub name_alone : (t : Tok) (mid : List Tok) → starts (λ k. is_kind OpenBrace k || is_kind Open k) mid ≡ false
    → (read_rule (maybe (part arguments)) mid >>= λ x. got (atom_from (t, x.0)) x.1) ≡ got (name_at t.at t.worth.name) mid
name_alone t mid s = rw s refl

pub name_called : (t : Tok) (mid : List Tok) → starts (λ k. is_kind OpenBrace k || is_kind Open k) mid ≡ true
    → (read_rule (maybe (part arguments)) mid >>= λ x. got (atom_from (t, x.0)) x.1) ≡ (reading arguments mid >>= λ x. got (call_at t.at t.worth.name x.0.0 (expression_list x.0.1)) x.1)
name_called t mid s = rw s (simp assoc)

pub name_flat : (ts : List Tok) → read_rule name_rule ts ≡ (token_at (is_kind NameToken) ts >>= λ t. read_rule (maybe (part arguments)) t.1 >>= λ x. got (atom_from (t.0, x.0)) x.1)
name_flat ts = simp assoc

-- HEADS

pub head_typed : (ts : List Tok) → starts (is_kind NameToken) ts ≡ false
    → reading a_head ts ≡ (token_at (is_kind Open) ts >>= λ t. reading an_expression t.1 >>= λ e. type_between e.1 >>= λ s. got (typed_head t.0.at e.0 s.0) s.1)
head_typed ts n = rw (head_is ts, n) (simp assoc)

pub head_named : (ts : List Tok) (t : Tok) (mid : List Tok) → ts ≡ t ∷ mid → is_kind NameToken t.kind ≡ true → starts (λ k. is_kind OpenBrace k || is_kind Open k) mid ≡ false
    → reading a_head ts ≡ got (name_head t.at t.worth.name) mid
head_named ts t mid e k s = ap (reading a_head) e ∙ rw (head_is (t ∷ mid), k, s) refl

pub head_called : (ts : List Tok) (t : Tok) (mid : List Tok) → ts ≡ t ∷ mid → is_kind NameToken t.kind ≡ true → starts (λ k. is_kind OpenBrace k || is_kind Open k) mid ≡ true
    → reading a_head ts ≡ (reading arguments mid >>= λ x. got (call_head t.at t.worth.name x.0.0 (expression_list x.0.1)) x.1)
head_called ts t mid e k s = ap (reading a_head) e ∙ rw (head_is (t ∷ mid), k, s) (simp assoc)

-- EXPRESSIONS

pub expression_let : (ts : List Tok) → starts (is_kind LetWord) ts ≡ true → reading an_expression ts ≡ read_rule let_rule ts
expression_let ts k = rw (expression_is ts, k) refl

pub expression_wait : (ts : List Tok) → starts (is_kind LetWord) ts ≡ false → starts (is_kind WaitWord) ts ≡ true → reading an_expression ts ≡ read_rule wait_rule ts
expression_wait ts l k = rw (expression_is ts, l, k) refl

pub expression_if : (ts : List Tok) → starts (is_kind LetWord) ts ≡ false → starts (is_kind WaitWord) ts ≡ false → starts (is_kind IfWord) ts ≡ true → reading an_expression ts ≡ read_rule if_rule ts
expression_if ts l w k = rw (expression_is ts, l, w, k) refl

-- an expression, and maybe others behind it
abbrev pub tail : ℕ → Expression → List Tok → Outcome Tok Expression
tail at e ts = read_rule (maybe (both (sign Colons) (part an_expression))) ts >>= λ y. got (consed (at, (e, y.0))) y.1

pub expression_cons : (ts : List Tok) → starts (is_kind LetWord) ts ≡ false → starts (is_kind WaitWord) ts ≡ false → starts (is_kind IfWord) ts ≡ false
    → reading an_expression ts ≡ (reading an_application ts >>= λ x. tail (place_of ts) x.0 x.1)
expression_cons ts l w k = rw (expression_is ts, l, w, k) (simp assoc)

pub tail_alone : (at : ℕ) (e : Expression) (ts : List Tok) → starts (is_kind Colons) ts ≡ false → tail at e ts ≡ got e ts
tail_alone at e ts k = rw k refl

pub tail_more : (at : ℕ) (e : Expression) (ts : List Tok) (t : Tok) (mid : List Tok) → ts ≡ t ∷ mid → is_kind Colons t.kind ≡ true → tail at e ts ≡ (reading an_expression mid >>= λ y. got (two_at Colons at e y.0) y.1)
tail_more at e ts t mid q k = ap (tail at e) q ∙ rw k (simp assoc)

pub application_left : (ts : List Tok) (t : Tok) (mid : List Tok) → ts ≡ t ∷ mid → is_kind InlWord t.kind ≡ true → reading an_application ts ≡ (reading an_application mid >>= λ e. got (one_at InlWord t.at e.0) e.1)
application_left ts t mid q k = ap (reading an_application) q ∙ rw (application_is (t ∷ mid), k) (simp assoc)

pub application_right : (ts : List Tok) (t : Tok) (mid : List Tok) → starts (is_kind InlWord) ts ≡ false → ts ≡ t ∷ mid → is_kind InrWord t.kind ≡ true
    → reading an_application ts ≡ (reading an_application mid >>= λ e. got (one_at InrWord t.at e.0) e.1)
application_right ts t mid n q k =
    let m : is_kind InlWord t.kind ≡ false = sym (ap (λ us. starts (is_kind InlWord) us) q) ∙ n in
    ap (reading an_application) q ∙ rw (application_is (t ∷ mid), m, k) (simp assoc)

pub application_atom : (ts : List Tok) → starts (is_kind InlWord) ts ≡ false → starts (is_kind InrWord) ts ≡ false → reading an_application ts ≡ reading an_atom ts
application_atom ts l r = rw (application_is ts, l, r) refl

-- ATOMS

pub atom_name : (ts : List Tok) → starts (is_kind NameToken) ts ≡ true → reading an_atom ts ≡ read_rule name_rule ts
atom_name ts k = rw (atom_is ts, k) refl

pub atom_eps : (ts : List Tok) (t : Tok) (mid : List Tok) → starts (is_kind NameToken) ts ≡ false → ts ≡ t ∷ mid → is_kind EpsWord t.kind ≡ true → reading an_atom ts ≡ got (eps_at t.at) mid
atom_eps ts t mid n q k =
    let m : is_kind NameToken t.kind ≡ false = sym (ap (λ us. starts (is_kind NameToken) us) q) ∙ n in
    ap (reading an_atom) q ∙ rw (atom_is (t ∷ mid), m, k) (refl {a = got (eps_at t.at) mid})

pub atom_nil : (ts : List Tok) (t : Tok) (mid : List Tok) → starts (is_kind NameToken) ts ≡ false → starts (is_kind EpsWord) ts ≡ false → ts ≡ t ∷ mid → is_kind NilWord t.kind ≡ true → reading an_atom ts ≡ got (nil_at t.at) mid
atom_nil ts t mid n p q k =
    let m : is_kind NameToken t.kind ≡ false = sym (ap (λ us. starts (is_kind NameToken) us) q) ∙ n in
    let l : is_kind EpsWord t.kind ≡ false = sym (ap (λ us. starts (is_kind EpsWord) us) q) ∙ p in
    ap (reading an_atom) q ∙ rw (atom_is (t ∷ mid), m, l, k) (refl {a = got (nil_at t.at) mid})

pub atom_bracket : (ts : List Tok) → starts (is_kind NameToken) ts ≡ false → starts (is_kind EpsWord) ts ≡ false → starts (is_kind NilWord) ts ≡ false → starts (is_kind Open) ts ≡ true → reading an_atom ts ≡ read_rule bracket_rule ts
atom_bracket ts n e l k = rw (atom_is ts, n, e, l, k) refl

pub atom_braces : (ts : List Tok) → starts (is_kind NameToken) ts ≡ false → starts (is_kind EpsWord) ts ≡ false → starts (is_kind NilWord) ts ≡ false → starts (is_kind Open) ts ≡ false → starts (is_kind OpenBrace) ts ≡ true
    → reading an_atom ts ≡ read_rule braces_rule ts
atom_braces ts n e l o k = rw (atom_is ts, n, e, l, o, k) refl

pub atom_case : (ts : List Tok) → starts (is_kind NameToken) ts ≡ false → starts (is_kind EpsWord) ts ≡ false → starts (is_kind NilWord) ts ≡ false → starts (is_kind Open) ts ≡ false → starts (is_kind OpenBrace) ts ≡ false
    → reading an_atom ts ≡ read_rule case_rule ts
atom_case ts n e l o k = rw (atom_is ts, n, e, l, o, k) refl

-- BRACKETS

-- what stands behind the bracket that opens at a place
abbrev pub inside_rule : RuleFor (option (pair (thing expression_thing) (thing ending_thing)))
inside_rule = either {s = option (pair (thing expression_thing) (thing ending_thing))}
    (make {t = option (pair (thing expression_thing) (thing ending_thing))} nothing_inside (sign Close))
    (make {t = option (pair (thing expression_thing) (thing ending_thing))} something_inside (both (part an_expression) (part an_ending)))

abbrev pub inside : Tok → List Tok → Outcome Tok Expression
inside t ts = read_rule inside_rule ts >>= λ y. got (bracketed (t, y.0)) y.1

pub bracket_flat : (ts : List Tok) → read_rule bracket_rule ts ≡ (token_at (is_kind Open) ts >>= λ t. inside t.0 t.1)
bracket_flat ts = simp assoc

pub inside_none : (o : Tok) (ts : List Tok) (t : Tok) (mid : List Tok) → ts ≡ t ∷ mid → is_kind Close t.kind ≡ true → inside o ts ≡ got (unit_at o.at) mid
inside_none o ts t mid q k = ap (inside o) q ∙ rw k refl

pub inside_some : (o : Tok) (ts : List Tok) → starts (is_kind Close) ts ≡ false → inside o ts ≡ (reading an_expression ts >>= λ e. with_ending o.at e.0 (reading an_ending e.1))
inside_some o ts k = rw k (simp assoc)

pub ending_none : (at : ℕ) (e : Expression) (ts : List Tok) (t : Tok) (mid : List Tok) → ts ≡ t ∷ mid → is_kind Close t.kind ≡ true → with_ending at e (reading an_ending ts) ≡ got e mid
ending_none at e ts t mid q k = ap (λ us. with_ending at e (reading an_ending us)) q ∙ rw (ending_is (t ∷ mid), k) refl

pub ending_at_once : (at : ℕ) (e : Expression) (ts : List Tok) (t : Tok) (mid : List Tok) → starts (is_kind Close) ts ≡ false → ts ≡ t ∷ mid → is_kind Comma t.kind ≡ true
    → with_ending at e (reading an_ending ts) ≡ (before Close (reading an_expression mid) >>= λ b. got (two_at Comma at e b.0) b.1)
ending_at_once at e ts t mid n q k =
    let m : is_kind Close t.kind ≡ false = sym (ap (λ us. starts (is_kind Close) us) q) ∙ n in
    ap (λ us. with_ending at e (reading an_ending us)) q ∙ rw (ending_is (t ∷ mid), m, k) (simp assoc)

pub ending_in_turn : (at : ℕ) (e : Expression) (ts : List Tok) (t : Tok) (mid : List Tok) → starts (is_kind Close) ts ≡ false → starts (is_kind Comma) ts ≡ false → ts ≡ t ∷ mid → is_kind Semicolon t.kind ≡ true
    → with_ending at e (reading an_ending ts) ≡ (before Close (reading an_expression mid) >>= λ b. got (two_at Semicolon at e b.0) b.1)
ending_in_turn at e ts t mid n p q k =
    let m : is_kind Close t.kind ≡ false = sym (ap (λ us. starts (is_kind Close) us) q) ∙ n in
    let l : is_kind Comma t.kind ≡ false = sym (ap (λ us. starts (is_kind Comma) us) q) ∙ p in
    ap (λ us. with_ending at e (reading an_ending us)) q ∙ rw (ending_is (t ∷ mid), m, l, k) (simp assoc)

pub ending_typed : (at : ℕ) (e : Expression) (ts : List Tok) → starts (is_kind Close) ts ≡ false → starts (is_kind Comma) ts ≡ false → starts (is_kind Semicolon) ts ≡ false
    → with_ending at e (reading an_ending ts) ≡ (type_between ts >>= λ s. got (typed_at at e s.0) s.1)
ending_typed at e ts n p q = rw (ending_is ts, n, p, q) (simp assoc)
