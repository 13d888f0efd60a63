-- What a reader of a cycle answers, and what is read before, between and behind the parts of a form.
use Rattle.std.specs.Prelude.{ℕ, neg_ℤ, ◌<◌, ◌≡◌, List, length, Result, Ok, Err, IfOk}
use Rattle.grammar.specs.Rules.{part, both, maybe}
use Rattle.grammar.specs.Reading.{Outcome, got, ◌>>=◌, token_at}
use Rattle.hist_value.specs.HistExpr.{HistExpr, literal, choice, fold_expr, pair_expr, cons_expr}
use Rattle.delta_tree.specs.SyntaxTree.{WrittenType, WrittenContext, WrittenFunction, sum_written, par_written, cat_written, WrittenHist, Expression, inl_at, inr_at, par_at, cat_at, cons_at}
use Rattle.delta_parse.specs.declared.cursor.Halt.{Halt}
use Rattle.delta_parse.specs.declared.plain.Plain.{Plain}
use Rattle.delta_parse.specs.declared.terminal.Terminal.{Terminal}
use Rattle.delta_parse.specs.declared.terminal.Terminal.TheVariants.{FunWord, LetWord, Plus, Bars, IfWord, ThenWord, WithWord, InlWord, InrWord, CloseBrace, Bar, Dot, Comma, Semicolon, Equals, Colon, Close, NameToken}
use Rattle.delta_parse.specs.Terminals.{Tok, is_kind, plains}
use Rattle.delta_parse.specs.Parts.{Pattern, Arms, parameters, a_pattern, a_type, an_expression, a_history}
use Rattle.delta_parse.specs.Actions.{function_with, pattern_with, hist_with, bracketed_hist, pair_inside}
use Rattle.delta_parse.specs.Rules.{sign, is_separator, is_number, branch_rule}
use Rattle.delta_parse.specs.Tables.{reading, read_rule}
use Rattle.delta_parse.specs.Readers.{Halts, Gives}

-- a reader gives what reading gives, and leaves less than so many tokens
pub record Reads {X Y : Type 0} (tree : X → Y) (rest : X → List Plain) (result : Result X Halt) (o : Outcome Tok Y) (n : ℕ) : Type 0 where
  pub given : Gives tree (λ x. plains (rest x)) result o
  pub shorter : IfOk result (λ x. length (rest x) < n)

-- what is read, and then what is read behind it
abbrev pub going_on : {A B : Type 0} → Outcome Tok A → (A × List Tok → Outcome Tok B) → Outcome Tok B
going_on o f = o >>= f

-- what is read, and a sign behind it
abbrev pub before : {A : Type 0} → Terminal → Outcome Tok A → Outcome Tok A
before k o = do
  x ← o
  t ← token_at (is_kind k) x.1
  got x.0 t.1

-- a sign, a name and a sign: the place of the first, and the name's number
abbrev pub name_between : Terminal → Terminal → List Tok → Outcome Tok (ℕ × ℕ)
name_between a b ts = do
  word ← token_at (is_kind a) ts
  x ← before b (token_at (is_kind NameToken) word.1)
  got (word.0.at, x.0.worth.name) x.1

-- "let" pat "="
abbrev pub let_front : List Tok → Outcome Tok (ℕ × Pattern)
let_front ts = do
  word ← token_at (is_kind LetWord) ts
  p ← before Equals (reading a_pattern word.1)
  got (word.0.at, p.0) p.1

-- "if" hist "then"
abbrev pub if_front : List Tok → Outcome Tok (ℕ × WrittenHist)
if_front ts = do
  word ← token_at (is_kind IfWord) ts
  m ← before ThenWord (reading a_history word.1)
  got (word.0.at, m.0) m.1

-- ":" type ")"
abbrev pub type_between : List Tok → Outcome Tok WrittenType
type_between ts = do
  colon ← token_at (is_kind Colon) ts
  before Close (reading a_type colon.1)

-- two names, with a sign behind each
abbrev pub two_names : Terminal → Terminal → List Tok → Outcome Tok (ℕ × ℕ)
two_names a b ts = do
  x ← before a (token_at (is_kind NameToken) ts)
  y ← before b (token_at (is_kind NameToken) x.1)
  got (x.0.worth.name, y.0.worth.name) y.1

-- a sign was read behind what was read before
pub record Followed {V T : Type 0} (k : Terminal) (value : V → T) (rest : V → List Plain) (v w : V) : Type 0 where
  pub same : value w ≡ value v
  pub sign : Tok
  pub read : token_at (is_kind k) (plains (rest v)) ≡ got sign (plains (rest w))
  pub shorter : length (rest w) < length (rest v)

-- what was read is answered where a sign is read behind it; where its reader or that of the sign stopped, it stops there
abbrev pub Behind : {V T : Type 0} → Terminal → (V → T) → (V → List Plain) → Result V Halt → Result V Halt → Type 0
Behind k value rest (Ok v) (Ok w) = Followed k value rest v w
Behind k value rest (Ok v) (Err e) = Halts e (token_at (is_kind k) (plains (rest v)))
Behind k value rest (Err e) (Ok w) = ⊥
Behind k value rest (Err e) (Err f) = f ≡ e

pub record Follows {V T : Type 0} (k : Terminal) (value : V → T) (rest : V → List Plain) (read result : Result V Halt) : Type 0 where
  pub follows : Behind k value rest read result

-- an expression of one part or of two, by the sign that tells which
abbrev pub one_at : Terminal → ℕ → Expression → Expression
one_at InlWord at e = inl_at at e
one_at _ at e = inr_at at e

abbrev pub two_at : Terminal → ℕ → Expression → Expression → Expression
two_at Comma at e f = par_at at e f
two_at Semicolon at e f = cat_at at e f
two_at _ at e f = cons_at at e f

-- the arms of a case, as reading gives them
abbrev pub ArmsRead : Type 0
ArmsRead = Outcome Tok Arms

-- a pair, or an item before others, by the sign that tells which
abbrev pub two_expr : Terminal → HistExpr → HistExpr → HistExpr
two_expr Comma e f = pair_expr e f
two_expr _ e f = cons_expr e f

-- a side of a choice, as reading gives it
abbrev pub BranchRead : Type 0
BranchRead = Outcome Tok (ℕ × WrittenHist)

-- a number behind a minus at a place
abbrev pub negative : ℕ → List Tok → Outcome Tok WrittenHist
negative at ts = do
  t ← token_at is_number ts
  got (hist_with at (literal (neg_ℤ t.0.worth.number))) t.1

-- a fold behind its list
abbrev pub fold_on : ℕ → WrittenHist → List Tok → Outcome Tok WrittenHist
fold_on at l ts = do
  s ← before WithWord (reading a_history ts)
  x ← two_names Comma Dot s.1
  b ← reading a_history x.1
  got (hist_with at (fold_expr l.expr s.0.expr x.0.0 x.0.1 b.0.expr)) b.1

-- a choice behind what it is about
abbrev pub choice_on : ℕ → WrittenHist → List Tok → Outcome Tok WrittenHist
choice_on at m ts = do
  l ← before Bar (read_rule (branch_rule InlWord) ts)
  r ← before CloseBrace (read_rule (branch_rule InrWord) l.1)
  got (hist_with at (choice m.expr l.0.0 l.0.1.expr r.0.0 r.0.1.expr)) r.1

-- what stands behind a bracket and its first expression, read to the bracket's end
abbrev pub second_inside : Tok → WrittenHist → List Tok → Outcome Tok WrittenHist
second_inside t h ts = read_rule (both (maybe (both (sign Comma) (part a_history))) (sign Close)) ts >>= λ y. got (bracketed_hist (t, pair_inside (h, y.0))) y.1

-- two types with a sign between them
abbrev pub two_types : Terminal → ℕ → WrittenType → WrittenType → WrittenType
two_types Plus at s t = sum_written at s t
two_types Bars at s t = par_written at s t
two_types _ at s t = cat_written at s t

-- what stands behind the first of two names that are bound: a sign, the other name and the bracket that closes
abbrev pub second_name : ℕ → List Tok → Outcome Tok Pattern
second_name x ts = do
  s ← token_at is_separator ts
  y ← before Close (token_at (is_kind NameToken) s.1)
  got (pattern_with s.0.kind x y.0.worth.name) y.1

-- "fun" name
abbrev pub fun_name : List Tok → Outcome Tok (ℕ × ℕ)
fun_name ts = do
  word ← token_at (is_kind FunWord) ts
  x ← token_at (is_kind NameToken) word.1
  got (word.0.at, x.0.worth.name) x.1

-- params ":" type "="
abbrev pub header : List Tok → Outcome Tok (WrittenContext × WrittenType)
header ts = do
  c ← before Colon (reading parameters ts)
  t ← before Equals (reading a_type c.1)
  got (c.0, t.0) t.1

-- params ":" type "=" exp, behind the name of a function and its historical parameters
abbrev pub headed : ℕ → ℕ → List (ℕ × WrittenType) → List Tok → Outcome Tok WrittenFunction
headed at name past ts = do
  h ← header ts
  e ← reading an_expression h.1
  got (function_with at name past h.0.0 h.0.1 e.0) e.1
