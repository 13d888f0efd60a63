-- Each term has a node.
use Rattle.std.proofs.Common.{◌≡◌, ◌+◌, ◌<◌, ◌≤◌, ℕ, List, Option, Some, None, arith}
use Rattle.std.specs.Prelude.{IfSome, IfNone}
use Rattle.hist_value.specs.HistExpr.{HistExpr}
use Rattle.core_term.specs.CoreTerm.{CoreTerm, CoreTerms, var_term, eps_term, unit_term, nil_term, past_term, par_term, cat_term, cons_term, inl_term, inr_term, let_term, let_par_term, let_cat_term, case_sum_term, case_star_term, wait_term, call_term, node_count, node_counts}

pub positive : (t : CoreTerm) → 1 ≤ node_count t
positive (var_term x) = omega arith
positive eps_term = omega arith
positive unit_term = omega arith
positive nil_term = omega arith
positive (past_term m) = omega arith
positive (par_term a b) = omega arith
positive (cat_term a b) = omega arith
positive (cons_term a b) = omega arith
positive (inl_term a) = omega arith
positive (inr_term a) = omega arith
positive (let_term x s a b) = omega arith
positive (let_par_term x y z a) = omega arith
positive (let_cat_term x y z a) = omega arith
positive (case_sum_term z t x a y b) = omega arith
positive (case_star_term z t a y ys b) = omega arith
positive (wait_term x t a) = omega arith
positive (call_term f ms es) = omega arith

-- what is left after a call, from what is left after its arguments
pub call-left : (o : Option ℕ) (t : CoreTerm) (f : ℕ) (ms : List HistExpr) (es : CoreTerms) (inner room : ℕ) → t ≡ call_term f ms es → inner + 1 ≡ room
    → IfSome o (λ left. left + node_counts es ≡ inner) → IfSome o (λ left. left + node_count t ≡ room)
call-left None t f ms es inner room e more h = tt
call-left (Some left) t f ms es inner room e more h = rw e (omega (arith, more, h))

-- there is no room for a call where there is none for its arguments
pub call-none : (o : Option ℕ) (t : CoreTerm) (f : ℕ) (ms : List HistExpr) (es : CoreTerms) (inner room : ℕ) → t ≡ call_term f ms es → inner + 1 ≡ room
    → IfNone o (inner < node_counts es) → IfNone o (room < node_count t)
call-none None t f ms es inner room e more h = rw e (omega (arith, more, h))
call-none (Some left) t f ms es inner room e more h = tt

-- what is left after a form with one part, and that there is no room for it
pub part-left : (o : Option ℕ) (t a : CoreTerm) (inner room : ℕ) → node_count t ≡ 1 + node_count a → inner + 1 ≡ room
    → IfSome o (λ left. left + node_count a ≡ inner) → IfSome o (λ left. left + node_count t ≡ room)
part-left None t a inner room e more h = tt
part-left (Some left) t a inner room e more h = omega (arith, e, more, h)

pub part-none : (o : Option ℕ) (t a : CoreTerm) (inner room : ℕ) → node_count t ≡ 1 + node_count a → inner + 1 ≡ room
    → IfNone o (inner < node_count a) → IfNone o (room < node_count t)
part-none None t a inner room e more h = omega (arith, e, more, h)
part-none (Some left) t a inner room e more h = tt

-- one more term is counted
pub one-counted : (left less room all this rest : ℕ) → left + all ≡ room + (this + rest) → less + this ≡ left → less + all ≡ room + rest
one-counted left less room all this rest e h = omega arith

-- and all of them
pub all-counted : (left room all rest : ℕ) → left + all ≡ room + rest → rest ≡ 0 → left + all ≡ room
all-counted left room all rest e h = omega arith
