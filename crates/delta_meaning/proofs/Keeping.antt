-- The core of an expression runs as the expression does, where the environments of both agree, nothing is wrong
-- with the names, and each name that the core reads as a stream name is one.
use Rattle.std.proofs.Common.{◌≡◌, ℕ, suc, ◌+◌, ◌≤◌, max, Bool, true, false, ◌||◌, List, [], ◌∷◌, ◌++◌, length, refl, sym, ap, ap₂, ◌∙◌, arith}
use mathlib.Core.Path.{fun_ext}
use Rattle.stream_type.specs.StreamType.{StreamType, eps, one, sum}
use Rattle.stream_prefix.specs.StreamPrefix.{StreamPrefix, eps_emp, one_full, in_left, in_right, is_maximal}
use Rattle.bunch.specs.Names.{put}
use Rattle.hist_value.specs.HistExpr.{HistExpr, variable, literal, unit_expr, reckoned, pair_expr, first_expr, second_expr, left_expr, right_expr, choice, nil_expr, cons_expr, fold_expr}
use Rattle.hist_value.specs.HistValue.{HistValue, pair_of, left_of, right_of}
use Rattle.hist_value.specs.Evaluate.{value, reckon_values, first_of, second_of, choose, cons_of, gather}
use Rattle.hist_value.specs.Wholes.{value_of, full}
use Rattle.delta_tree.specs.SyntaxTree.{WrittenHist, Expression, name_at, eps_at, unit_at, nil_at, hist_at, par_at, cat_at, cons_at, inl_at, inr_at, typed_at, let_at, let_par_at, let_cat_at, case_sum_at, case_star_at, wait_at, if_at, call_at, Head, name_head, call_head, typed_head, Expressions, no_expressions, expression_before}
use Rattle.core_term.specs.CoreTerm.{CoreTerm, CoreBody, is_var, leaf_types}
use Rattle.core_term.specs.Environment.{Environment, NameTypes}
use Rattle.core_term.specs.Parts.{par_left, par_right, cat_first, cat_second, sum_left, sum_right, star_item, star_items, left_part, right_part, first_part, second_part, as_star}
use Rattle.core_term.specs.Run.{Run, Runs, deeper, quiet, relabel, par_run, cat_run, let_run, sum_run, star_run, wait_run, run_before, call_run}
use Rattle.core_term.specs.Meaning.{Past, Calls, values, run_with, run_all}
use Rattle.core_term.proofs.Sides.{put-same}
use Rattle.core_term.proofs.FreeRuns.{star_run-same}
use Rattle.delta_meaning.specs.TypeNames.{TypeNames, type_meant}
use Rattle.delta_meaning.specs.SourceBody.{SourceBody}
use Rattle.delta_meaning.specs.SourceMeaning.{is_name, is_name_head, head_type, typed_run, if_run, written_values, source_run, head_run, arguments_run}
use Rattle.delta_meaning.specs.NewNames.{new_in_expr, new_in_exprs, new_in, new_in_head, new_in_subject}
use Rattle.delta_meaning.specs.Elaboration.{Numbers, numbered_expr, numbered_exprs, subject, round, core_at, core_of_head, core_of_arguments}
use Rattle.delta_meaning.specs.Faults.{Fault, no_function, unless, expr_faults, exprs_faults, faults_in, head_faults, argument_faults}
use Rattle.delta_meaning.proofs.Fitting.{Reads, Fits, reads_of, reads_new, reads_later, fits_new, fits_extra, fits_later, fits_wait}
use Rattle.delta_meaning.proofs.StreamNames.{ReadsStreams, ReadStreams}

-- two lists that joined have nothing have nothing
pub none_first : {A : Type 0} (xs ys : List A) → xs ++ ys ≡ [] → xs ≡ []
none_first [] ys h = refl
none_first (x ∷ xs) ys h = absurd (cc h)

pub none_second : {A : Type 0} (xs ys : List A) → xs ++ ys ≡ [] → ys ≡ []
none_second [] ys h = h
none_second (x ∷ xs) ys h = absurd (cc h)

-- a test that nothing is wrong with holds
pub unless_none : (b : Bool) (x : Fault) → unless b x ≡ [] → b ≡ true
unless_none true x h = refl
unless_none false x h = absurd (cc h)

-- an expression with numbers for its names has the same value
pub keeps_value : (m : HistExpr) (at : ℕ) {bound : ℕ → Bool} {numbers : Numbers} {n : ℕ} {past core_past : Past} → Reads bound numbers n past core_past → expr_faults at m bound ≡ []
    → value (numbered_expr m numbers n) core_past ≡ value m past
keeps_value (variable x) at {bound = bound} f ok = sym (f.value_is x (unless_none (bound x) _ ok))
keeps_value (literal z) at f ok = refl
keeps_value unit_expr at f ok = refl
keeps_value (reckoned o a b) at f ok =
    ap₂ (reckon_values o) (keeps_value a at f (none_first _ _ ok)) (keeps_value b at (reads_later f _ (omega arith)) (none_second _ _ ok))
keeps_value (pair_expr a b) at f ok = ap₂ pair_of (keeps_value a at f (none_first _ _ ok)) (keeps_value b at (reads_later f _ (omega arith)) (none_second _ _ ok))
keeps_value (first_expr a) at f ok = ap first_of (keeps_value a at f ok)
keeps_value (second_expr a) at f ok = ap second_of (keeps_value a at f ok)
keeps_value (left_expr a) at f ok = ap left_of (keeps_value a at f ok)
keeps_value (right_expr a) at f ok = ap right_of (keeps_value a at f ok)
keeps_value (choice a x b y d) at {bound = bound} {numbers = numbers} {n = n} {past = past} {core_past = core_past} f ok =
    let i = n + length (new_in_expr a) in
    let j = suc i + length (new_in_expr b) in
    let later = none_second (expr_faults at a bound) _ ok in
    let left : (λ v. value (numbered_expr b (put x i numbers) (suc i)) (put i v core_past)) ≡ (λ v. value b (put x v past))
    = fun_ext (λ v. keeps_value b at (reads_new f x i (suc i) v (omega arith) (omega arith)) (none_first _ _ later)) in
    let right : (λ v. value (numbered_expr d (put y j numbers) (suc j)) (put j v core_past)) ≡ (λ v. value d (put y v past))
    = fun_ext (λ v. keeps_value d at (reads_new f y j (suc j) v (omega arith) (omega arith)) (none_second _ _ later)) in
    ap (choose _ _) (keeps_value a at f (none_first _ _ ok)) ∙ ap₂ (λ g h. choose g h (value a past)) left right
keeps_value nil_expr at f ok = refl
keeps_value (cons_expr a b) at f ok = ap₂ cons_of (keeps_value a at f (none_first _ _ ok)) (keeps_value b at (reads_later f _ (omega arith)) (none_second _ _ ok))
keeps_value (fold_expr a s x y b) at {bound = bound} {numbers = numbers} {n = n} {past = past} {core_past = core_past} f ok =
    let i = n + length (new_in_expr a) in
    let j = i + length (new_in_expr s) in
    let later = none_second (expr_faults at a bound) _ ok in
    let step : (λ g v. value (numbered_expr b (put y (suc j) (put x j numbers)) (suc (suc j))) (put (suc j) v (put j g core_past))) ≡ (λ g v. value b (put y v (put x g past)))
    = fun_ext (λ g. fun_ext (λ v. keeps_value b at (reads_new (reads_new f x j (suc j) g (omega arith) (omega arith)) y (suc j) (suc (suc j)) v (omega arith) (omega arith)) (none_second _ _ later))) in
    ap₂ (gather _) (keeps_value s at (reads_later f i (omega arith)) (none_first _ _ later)) (keeps_value a at f (none_first _ _ ok))
    ∙ ap (λ g. gather g (value s past) (value a past)) step

pub keeps_values : (ms : List WrittenHist) {bound : ℕ → Bool} {numbers : Numbers} {n : ℕ} {past core_past : Past} → Reads bound numbers n past core_past → exprs_faults ms bound ≡ []
    → values (numbered_exprs ms numbers n) core_past ≡ written_values ms past
keeps_values [] f ok = refl
keeps_values (m ∷ ms) f ok = ap₂ ◌∷◌ (keeps_value m.expr m.at f (none_first _ _ ok)) (keeps_values ms (reads_later f _ (omega arith)) (none_second _ _ ok))

-- runs with equal parts
run_is : (p : StreamPrefix) {c d l m : ℕ} → c ≡ d → l ≡ m → (let a : Run = record { out = p; calls = c; level = l } in a) ≡ (let b : Run = record { out = p; calls = d; level = m } in b)
run_is p ec el = ap₂ (λ c l. let a : Run = record { out = p; calls = c; level = l } in a) ec el

deeper-none : (still : Bool) → deeper still 0 ≡ 0
deeper-none true = refl
deeper-none false = refl

-- a let of a name that stands at once in its body
let_run-name : (is_name : Bool) (a : Run) → let_run is_name a (quiet a.out) ≡ typed_run a
let_run-name b a = let z = deeper-none (b || is_maximal a.out) in run_is a.out (omega arith) (ap (max (deeper false a.level)) z ∙ omega arith)

-- a let to a name makes nothing of its own
let_run-quiet : (p : StreamPrefix) (b : Run) → let_run true (quiet p) b ≡ b
let_run-quiet p b = run_is b.out (omega arith) (omega arith)

-- a let to a whole prefix neither
let_run-whole : (p : StreamPrefix) (b : Run) → is_maximal p ≡ true → let_run false (quiet p) b ≡ b
let_run-whole p b e = run_is b.out (omega arith) (ap (λ c. max (deeper false 0) (deeper c b.level)) e ∙ omega arith)

sum_run-same : (r : StreamType) (p : StreamPrefix) (a c b d : StreamPrefix → Run) → ((q : StreamPrefix) → a q ≡ c q) → ((q : StreamPrefix) → b q ≡ d q) → sum_run r p a b ≡ sum_run r p c d
sum_run-same r (in_left p) a c b d ea eb = ea p
sum_run-same r (in_right p) a c b d ea eb = eb p
sum_run-same r _ a c b d ea eb = refl

-- cases on equal prefixes with equal branches
pub sum_run-at : (r : StreamType) {p q : StreamPrefix} (a c b d : StreamPrefix → Run) → p ≡ q → ((q : StreamPrefix) → a q ≡ c q) → ((q : StreamPrefix) → b q ≡ d q) → sum_run r p a b ≡ sum_run r q c d
sum_run-at r {q = q} a c b d e ea eb = ap (λ p. sum_run r p a b) e ∙ sum_run-same r q a c b d ea eb

pub star_run-at : (r : StreamType) {p q : StreamPrefix} (a c : Run) (b d : StreamPrefix → StreamPrefix → Run) → p ≡ q → a ≡ c → ((p q : StreamPrefix) → b p q ≡ d p q) → star_run r p a b ≡ star_run r q c d
star_run-at r {q = q} a c b d e ea eb = ap (λ p. star_run r p a b) e ∙ star_run-same r q a c b d ea eb

-- waits for equal prefixes
wait_run-at : (r : StreamType) {p q : StreamPrefix} {a b : Run} → p ≡ q → a ≡ b → wait_run r (is_maximal p) a ≡ wait_run r (is_maximal q) b
wait_run-at r ep ea = ap₂ (λ p a. wait_run r (is_maximal p) a) ep ea

-- equal arguments
run_before-at : {b c : Bool} {a d : Run} {us ws : Runs} → b ≡ c → a ≡ d → us ≡ ws → run_before b a us ≡ run_before c d ws
run_before-at {c = c} {a = a} {us = us} eb ea eu = ap (λ b. run_before b a us) eb ∙ ap₂ (run_before c) ea eu

-- the whole prefix of a value of `1 + 1` is whole
full-truth : (v : HistValue) → is_maximal (full (sum one one) v) ≡ true
full-truth (left_of v) = refl
full-truth (right_of v) = refl
full-truth _ = refl

-- a case on it is an `if`
if_run-same : (r : StreamType) (v : HistValue) (a b : Run) (c d : StreamPrefix → Run) → ((p : StreamPrefix) → c p ≡ a) → ((p : StreamPrefix) → d p ≡ b) → sum_run r (full (sum one one) v) c d ≡ if_run v a b
if_run-same r (left_of v) a b c d ea eb = ea one_full
if_run-same r (right_of v) a b c d ea eb = eb one_full
if_run-same r _ a b c d ea eb = eb one_full

if_run-at : (r : StreamType) {p : StreamPrefix} {v w : HistValue} (a b : Run) (c d : StreamPrefix → Run) → p ≡ full (sum one one) v → v ≡ w → ((p : StreamPrefix) → c p ≡ a) → ((p : StreamPrefix) → d p ≡ b)
    → let_run false (quiet (full (sum one one) v)) (sum_run r p c d) ≡ if_run w a b
if_run-at r {v = v} a b c d e ev ea eb =
    let_run-whole (full (sum one one) v) _ (full-truth v) ∙ (ap (λ q. sum_run r q c d) e ∙ (if_run-same r v a b c d ea eb ∙ ap (λ w. if_run w a b) ev))

module _ (functions : ℕ → SourceBody) (number : ℕ → ℕ) (is_there : ℕ → Bool) (funs : ℕ → CoreBody) (call core_call : Calls)
    (same_types : (f : ℕ) → is_there f ≡ true → leaf_types (funs (number f)).params ≡ leaf_types (functions f).params)
    (same_calls : (f : ℕ) (vs : List HistValue) (ps : List StreamPrefix) → is_there f ≡ true → core_call (number f) vs ps ≡ call f vs ps)
    (names : TypeNames) where
  round_is_let : (h : Head) (z : ℕ) (s : StreamType) (a e : CoreTerm) → is_var e ≡ false → is_var (round h z s a e) ≡ false
  round_is_let (name_head at x) z s a e h = h
  round_is_let (call_head at f ms es) z s a e h = refl
  round_is_let (typed_head at b t) z s a e h = refl

  -- the core of a name is a name, and no other is
  same_name : (e : Expression) (numbers : Numbers) (types : NameTypes) (r : StreamType) (n : ℕ) → is_var (core_at functions number names e numbers types r n) ≡ is_name e
  same_name (name_at at x) numbers types r n = refl
  same_name (eps_at at) numbers types r n = refl
  same_name (unit_at at) numbers types r n = refl
  same_name (nil_at at) numbers types r n = refl
  same_name (hist_at at m) numbers types r n = refl
  same_name (par_at at a b) numbers types r n = refl
  same_name (cat_at at a b) numbers types r n = refl
  same_name (cons_at at a b) numbers types r n = refl
  same_name (inl_at at a) numbers types r n = refl
  same_name (inr_at at a) numbers types r n = refl
  same_name (typed_at at a t) numbers types r n = refl
  same_name (let_at at x h e) numbers types r n = refl
  same_name (let_par_at at x y h e) numbers types r n = round_is_let h _ _ _ _ refl
  same_name (let_cat_at at x y h e) numbers types r n = round_is_let h _ _ _ _ refl
  same_name (case_sum_at at h x a y b) numbers types r n = round_is_let h _ _ _ _ refl
  same_name (case_star_at at h a y ys b) numbers types r n = round_is_let h _ _ _ _ refl
  same_name (wait_at at x e) numbers types r n = refl
  same_name (if_at at m a b) numbers types r n = refl
  same_name (call_at at f ms es) numbers types r n = refl

  same_head : (h : Head) (numbers : Numbers) (types : NameTypes) (n : ℕ) → is_var (core_of_head functions number names h numbers types n) ≡ is_name_head h
  same_head (name_head at x) numbers types n = refl
  same_head (call_head at f ms es) numbers types n = refl
  same_head (typed_head at e t) numbers types n = same_name e numbers types (type_meant names t) n

  -- what stands round a form that takes a head apart: the form reads the head's prefix at the subject
  record Rounded (bound : ℕ → Bool) (numbers : Numbers) (streams : ℕ → Bool) (n : ℕ) (types : NameTypes) (env : Environment) (past : Past) (core_types : NameTypes) (core_env : Environment) (core_past : Past)
      (h : Head) (z : ℕ) (k : ℕ) : Type 0 where
    streams_there : ℕ → Bool
    types_there : NameTypes
    env_there : Environment
    fits : Fits bound numbers streams_there n types env past types_there env_there core_past
    reads : (form : CoreTerm) → ReadsStreams (round h z (head_type functions names h types) (core_of_head functions number names h numbers types k) form) streams → ReadsStreams form streams_there
    type_is : streams_there (subject h numbers z) ≡ true → types_there (subject h numbers z) ≡ head_type functions names h types
    prefix_is : streams_there (subject h numbers z) ≡ true → env_there (subject h numbers z) ≡ (head_run functions call names h types env past).out
    runs : (form : CoreTerm) (r : StreamType) → ReadsStreams (round h z (head_type functions names h types) (core_of_head functions number names h numbers types k) form) streams
        → run_with funs core_call (round h z (head_type functions names h types) (core_of_head functions number names h numbers types k) form) core_types r core_env core_past
        ≡ let_run (is_name_head h) (head_run functions call names h types env past) (run_with funs core_call form types_there r env_there core_past)

  rounded : (h : Head) (z k : ℕ) {bound : ℕ → Bool} {numbers : Numbers} {streams : ℕ → Bool} {n : ℕ} {types : NameTypes} {env : Environment} {past : Past} {core_types : NameTypes} {core_env : Environment} {core_past : Past}
      → Fits bound numbers streams n types env past core_types core_env core_past → n ≤ z → head_faults is_there names h bound ≡ []
      → (ReadsStreams (core_of_head functions number names h numbers types k) streams
      → run_with funs core_call (core_of_head functions number names h numbers types k) core_types (head_type functions names h types) core_env core_past ≡ head_run functions call names h types env past)
      → Rounded bound numbers streams n types env past core_types core_env core_past h z k
  rounded (name_head at x) z k {bound = bound} {numbers = numbers} {streams = streams} {env = env} {core_types = core_types} {core_env = core_env} {core_past = core_past} f le ok keep = record {
    streams_there = streams;
    types_there = core_types;
    env_there = core_env;
    fits = f;
    reads = λ form s. s;
    type_is = λ s. sym (f.type_is x (unless_none (bound x) _ ok) s);
    prefix_is = λ s. sym (f.prefix_is x (unless_none (bound x) _ ok) s);
    runs = λ form r s. sym (let_run-quiet (env x) (run_with funs core_call form core_types r core_env core_past));
  }
  rounded (call_head at g ms es) z k {numbers = numbers} {streams = streams} {types = types} {env = env} {past = past} {core_types = core_types} {core_env = core_env} {core_past = core_past} f le ok keep =
      let h = call_head at g ms es in
      let s = head_type functions names h types in
      let a = head_run functions call names h types env past in
      record {
        streams_there = put z true streams;
        types_there = put z s core_types;
        env_there = put z a.out core_env;
        fits = fits_extra f z s a.out le;
        reads = λ form q. q.1;
        type_is = λ q. put-same z s core_types;
        prefix_is = λ q. put-same z a.out core_env;
        runs = λ form r q. ap (λ u. let_run false u (run_with funs core_call form (put z s core_types) r (put z u.out core_env) core_past)) (keep q.0);
      }
  rounded (typed_head at e t) z k {numbers = numbers} {streams = streams} {types = types} {env = env} {past = past} {core_types = core_types} {core_env = core_env} {core_past = core_past} f le ok keep =
      let h = typed_head at e t in
      let s = head_type functions names h types in
      let a = head_run functions call names h types env past in
      record {
        streams_there = put z true streams;
        types_there = put z s core_types;
        env_there = put z a.out core_env;
        fits = fits_extra f z s a.out le;
        reads = λ form q. q.1;
        type_is = λ q. put-same z s core_types;
        prefix_is = λ q. put-same z a.out core_env;
        runs = λ form r q.
            ap₂ (λ b u. let_run b u (run_with funs core_call form (put z s core_types) r (put z u.out core_env) core_past)) (same_head h numbers types k) (keep q.0);
      }

  called : (g : ℕ) (ms : List WrittenHist) {bound : ℕ → Bool} {numbers : Numbers} {n : ℕ} {past core_past : Past} {us ws : Runs} → is_there g ≡ true → exprs_faults ms bound ≡ [] → Reads bound numbers n past core_past → us ≡ ws
      → call_run us (core_call (number g) (values (numbered_exprs ms numbers n) core_past) us.outs) ≡ call_run ws (call g (written_values ms past) ws.outs)
  called g ms {numbers = numbers} {n = n} {past = past} {core_past = core_past} {ws = ws} there ok f eu =
      ap₂ (λ vs u. call_run u (core_call (number g) vs (Runs.outs u))) (keeps_values ms f ok) eu ∙ ap (call_run ws) (same_calls g (written_values ms past) ws.outs there)

  mutual
    pub keeps : (e : Expression) (r : StreamType) {bound : ℕ → Bool} {numbers : Numbers} {streams : ℕ → Bool} {n : ℕ} {types : NameTypes} {env : Environment} {past : Past} {core_types : NameTypes} {core_env : Environment} {core_past : Past}
        → Fits bound numbers streams n types env past core_types core_env core_past → faults_in is_there names e bound ≡ [] → ReadsStreams (core_at functions number names e numbers types r n) streams
        → run_with funs core_call (core_at functions number names e numbers types r n) core_types r core_env core_past ≡ source_run functions call names e types r env past
    keeps (name_at at x) r {bound = bound} f ok s = ap quiet (sym (f.prefix_is x (unless_none (bound x) _ ok) s))
    keeps (eps_at at) r f ok s = refl
    keeps (unit_at at) r f ok s = refl
    keeps (nil_at at) r f ok s = refl
    keeps (hist_at at m) r f ok s = ap (λ v. quiet (full r v)) (keeps_value m.expr m.at (reads_of f) ok)
    keeps (par_at at a b) r f ok s =
        ap₂ par_run (keeps a (par_left r) f (none_first _ _ ok) s.0) (keeps b (par_right r) (fits_later f _ (omega arith)) (none_second _ _ ok) s.1)
    keeps (cat_at at a b) r f ok s =
        ap₂ cat_run (keeps a (cat_first r) f (none_first _ _ ok) s.0) (keeps b (cat_second r) (fits_later f _ (omega arith)) (none_second _ _ ok) s.1)
    keeps (cons_at at a b) r f ok s =
        ap₂ (λ u v. relabel as_star (cat_run u v)) (keeps a (star_item r) f (none_first _ _ ok) s.0) (keeps b (star_items r) (fits_later f _ (omega arith)) (none_second _ _ ok) s.1)
    keeps (inl_at at a) r f ok s = ap (relabel in_left) (keeps a (sum_left r) f ok s)
    keeps (inr_at at a) r f ok s = ap (relabel in_right) (keeps a (sum_right r) f ok s)
    keeps (typed_at at a t) r {numbers = numbers} {n = n} {types = types} {core_types = core_types} {core_env = core_env} {core_past = core_past} f ok s =
        let form = core_at functions number names a numbers types (type_meant names t) (suc n) in
        let u = run_with funs core_call form core_types (type_meant names t) core_env core_past in
        ap (λ p. let_run (is_var form) u (quiet p)) (put-same n u.out core_env)
        ∙ (let_run-name (is_var form) u ∙ ap typed_run (keeps a (type_meant names t) (fits_later f (suc n) (omega arith)) (none_first _ _ ok) s.0))
    keeps (let_at at x h e) r {numbers = numbers} {n = n} {types = types} {env = env} {past = past} {core_types = core_types} {core_env = core_env} {core_past = core_past} f ok s =
        let t = head_type functions names h types in
        let a = head_run functions call names h types env past in
        let k = suc n + length (new_in_head h) in
        let form = core_at functions number names e (put x n numbers) (put x t types) r k in
        ap₂ (λ b u. let_run b u (run_with funs core_call form (put n t core_types) r (put n (Run.out u) core_env) core_past))
        (same_head h numbers types (suc n)) (keeps_head h (fits_later f (suc n) (omega arith)) (none_first _ _ ok) s.0)
        ∙ ap (let_run (is_name_head h) a) (keeps e r (fits_later (fits_new f x n (suc n) t t a.out a.out (omega arith) (omega arith) refl refl) k (omega arith)) (none_second _ _ ok) s.1)
    keeps (let_par_at at x y h e) r {numbers = numbers} {n = n} {types = types} {env = env} {past = past} f ok s =
        let t = head_type functions names h types in
        let a = head_run functions call names h types env past in
        let z = suc (suc n) in
        let o = rounded h z (suc z) f (omega arith) (none_first _ _ ok) (λ q. keeps_head h (fits_later f (suc z) (omega arith)) (none_first _ _ ok) q) in
        let q = o.reads _ s in
        let et = o.type_is q.0 in
        let ep = o.prefix_is q.0 in
        let left = fits_new o.fits x n (suc n) (par_left t) _ (left_part a.out) _ (omega arith) (omega arith) (ap par_left (sym et)) (ap left_part (sym ep)) in
        let both = fits_new left y (suc n) z (par_right t) _ (right_part a.out) _ (omega arith) (omega arith) (ap par_right (sym et)) (ap right_part (sym ep)) in
        o.runs _ r s ∙ ap (let_run (is_name_head h) a) (keeps e r (fits_later both (z + length (new_in_subject h)) (omega arith)) (none_second _ _ ok) q.1)
    keeps (let_cat_at at x y h e) r {numbers = numbers} {n = n} {types = types} {env = env} {past = past} f ok s =
        let t = head_type functions names h types in
        let a = head_run functions call names h types env past in
        let z = suc (suc n) in
        let o = rounded h z (suc z) f (omega arith) (none_first _ _ ok) (λ q. keeps_head h (fits_later f (suc z) (omega arith)) (none_first _ _ ok) q) in
        let q = o.reads _ s in
        let et = o.type_is q.0 in
        let ep = o.prefix_is q.0 in
        let first = fits_new o.fits x n (suc n) (cat_first t) _ (first_part a.out) _ (omega arith) (omega arith) (ap cat_first (sym et)) (ap first_part (sym ep)) in
        let both = fits_new first y (suc n) z (cat_second t) _ (second_part (cat_second t) a.out) _ (omega arith) (omega arith) (ap cat_second (sym et)) (ap₂ (λ u p. second_part (cat_second u) p) (sym et) (sym ep)) in
        o.runs _ r s ∙ ap (let_run (is_name_head h) a) (keeps e r (fits_later both (z + length (new_in_subject h)) (omega arith)) (none_second _ _ ok) q.1)
    keeps (case_sum_at at h x a y b) r {bound = bound} {numbers = numbers} {n = n} {types = types} {env = env} {past = past} f ok s =
        let t = head_type functions names h types in
        let u = head_run functions call names h types env past in
        let i = n + length (new_in_subject h) in
        let j = suc i + length (new_in a) in
        let o = rounded h n (suc n) f (omega arith) (none_first _ _ ok) (λ q. keeps_head h (fits_later f (suc n) (omega arith)) (none_first _ _ ok) q) in
        let q = o.reads _ s in
        let et = o.type_is q.0 in
        let later = none_second (head_faults is_there names h bound) _ ok in
        o.runs _ r s ∙ ap (let_run (is_name_head h) u) (sum_run-at r _ _ _ _ (o.prefix_is q.0)
        (λ p. keeps a r (fits_new o.fits x i (suc i) (sum_left t) _ p p (omega arith) (omega arith) (ap sum_left (sym et)) refl) (none_first _ _ later) q.1)
        (λ p. keeps b r (fits_new o.fits y j (suc j) (sum_right t) _ p p (omega arith) (omega arith) (ap sum_right (sym et)) refl) (none_second _ _ later) q.2))
    keeps (case_star_at at h a y ys b) r {bound = bound} {numbers = numbers} {n = n} {types = types} {env = env} {past = past} f ok s =
        let t = head_type functions names h types in
        let u = head_run functions call names h types env past in
        let i = n + length (new_in_subject h) in
        let j = i + length (new_in a) in
        let o = rounded h n (suc n) f (omega arith) (none_first _ _ ok) (λ q. keeps_head h (fits_later f (suc n) (omega arith)) (none_first _ _ ok) q) in
        let q = o.reads _ s in
        let et = o.type_is q.0 in
        let later = none_second (head_faults is_there names h bound) _ ok in
        o.runs _ r s ∙ ap (let_run (is_name_head h) u) (star_run-at r _ _ _ _ (o.prefix_is q.0)
        (keeps a r (fits_later o.fits i (omega arith)) (none_first _ _ later) q.1)
        (λ p w. keeps b r (fits_new (fits_new o.fits y j (suc j) (star_item t) _ p p (omega arith) (omega arith) (ap star_item (sym et)) refl) ys (suc j) (suc (suc j)) (star_items t) _ w w (omega arith) (omega arith) (ap star_items (sym et)) refl)
        (none_second _ _ later) q.2))
    keeps (wait_at at x e) r {bound = bound} {numbers = numbers} {n = n} {types = types} {env = env} {past = past} {core_types = core_types} {core_env = core_env} {core_past = core_past} f ok s =
        let there = unless_none (bound x) _ (none_first _ _ ok) in
        let ep = f.prefix_is x there s.0 in
        wait_run-at r (sym ep) (keeps e r (fits_wait f x eps eps_emp (value_of (env x)) (value_of (core_env (numbers x))) there (ap value_of ep)) (none_second _ _ ok) s.1)
    keeps (if_at at m a b) r {bound = bound} {numbers = numbers} {n = n} {types = types} {env = env} {past = past} {core_types = core_types} {core_env = core_env} {core_past = core_past} f ok s =
        let first = suc (suc (suc n)) in
        let i = first + length (new_in_expr m.expr) in
        let p = full (sum one one) (value (numbered_expr m.expr numbers first) core_past) in
        let f0 = fits_extra f n (sum one one) p (omega arith) in
        let later = none_second (expr_faults m.at m.expr bound) _ ok in
        if_run-at r (source_run functions call names a types r env past) (source_run functions call names b types r env past) _ _ (put-same n p core_env)
        (keeps_value m.expr m.at (reads_of (fits_later f first (omega arith))) (none_first _ _ ok))
        (λ q. keeps a r (fits_later (fits_extra f0 (suc n) _ q (omega arith)) i (omega arith)) (none_first _ _ later) s.1.1)
        (λ q. keeps b r (fits_later (fits_extra f0 (suc (suc n)) _ q (omega arith)) (i + length (new_in a)) (omega arith)) (none_second _ _ later) s.1.2)
    keeps (call_at at g ms es) r {numbers = numbers} {n = n} {types = types} {core_types = core_types} {core_env = core_env} {core_past = core_past} f ok s =
        let there = unless_none (is_there g) _ (none_first _ _ ok) in
        let later = none_second (unless (is_there g) (no_function g at)) _ ok in
        called g ms there (none_first _ _ later) (reads_of f)
        (ap (λ ts. run_all funs core_call (core_of_arguments functions number names es (leaf_types (functions g).params) numbers types (n + length (new_in_exprs ms))) ts core_types core_env core_past) (same_types g there)
        ∙ keeps_arguments es (leaf_types (functions g).params) (fits_later f _ (omega arith)) (none_second _ _ later) s)

    keeps_head : (h : Head) {bound : ℕ → Bool} {numbers : Numbers} {streams : ℕ → Bool} {n : ℕ} {types : NameTypes} {env : Environment} {past : Past} {core_types : NameTypes} {core_env : Environment} {core_past : Past}
        → Fits bound numbers streams n types env past core_types core_env core_past → head_faults is_there names h bound ≡ [] → ReadsStreams (core_of_head functions number names h numbers types n) streams
        → run_with funs core_call (core_of_head functions number names h numbers types n) core_types (head_type functions names h types) core_env core_past ≡ head_run functions call names h types env past
    keeps_head (name_head at x) {bound = bound} f ok s = ap quiet (sym (f.prefix_is x (unless_none (bound x) _ ok) s))
    keeps_head (call_head at g ms es) {numbers = numbers} {n = n} {types = types} {core_types = core_types} {core_env = core_env} {core_past = core_past} f ok s =
        let there = unless_none (is_there g) _ (none_first _ _ ok) in
        let later = none_second (unless (is_there g) (no_function g at)) _ ok in
        called g ms there (none_first _ _ later) (reads_of f)
        (ap (λ ts. run_all funs core_call (core_of_arguments functions number names es (leaf_types (functions g).params) numbers types (n + length (new_in_exprs ms))) ts core_types core_env core_past) (same_types g there)
        ∙ keeps_arguments es (leaf_types (functions g).params) (fits_later f _ (omega arith)) (none_second _ _ later) s)
    keeps_head (typed_head at e t) f ok s = keeps e (type_meant names t) f (none_first _ _ ok) s

    keeps_arguments : (es : Expressions) (ts : List StreamType) {bound : ℕ → Bool} {numbers : Numbers} {streams : ℕ → Bool} {n : ℕ} {types : NameTypes} {env : Environment} {past : Past} {core_types : NameTypes} {core_env : Environment} {core_past : Past}
        → Fits bound numbers streams n types env past core_types core_env core_past → argument_faults is_there names es bound ≡ [] → ReadStreams (core_of_arguments functions number names es ts numbers types n) streams
        → run_all funs core_call (core_of_arguments functions number names es ts numbers types n) ts core_types core_env core_past ≡ arguments_run functions call names es ts types env past
    keeps_arguments no_expressions ts f ok s = refl
    keeps_arguments (expression_before e es) [] {numbers = numbers} {n = n} {types = types} {core_types = core_types} {core_env = core_env} {core_past = core_past} f ok s =
        run_before-at (same_name e numbers types eps n) (keeps e eps f (none_first _ _ ok) s.0) (keeps_arguments es [] (fits_later f _ (omega arith)) (none_second _ _ ok) s.1)
    keeps_arguments (expression_before e es) (t ∷ ts) {numbers = numbers} {n = n} {types = types} f ok s =
        run_before-at (same_name e numbers types t n) (keeps e t f (none_first _ _ ok) s.0) (keeps_arguments es ts (fits_later f _ (omega arith)) (none_second _ _ ok) s.1)
