-- Which types the rules give to historical expressions, from the type that is wanted of each, if any.
--
-- The type that is wanted of a whole says what is wanted of its parts, so that an empty list or one side
-- of a sum has a type where one is wanted alone.
use Rattle.std.specs.Prelude.{ℕ, ◌≡◌, Option, Some, None, ⊤}
use Rattle.hist_value.specs.declared.expr.Op.{Op}
use Rattle.hist_value.specs.declared.expr.Op.TheVariants.{Add, Sub, Mul, Div, Less, Same}
use Rattle.hist_value.specs.HistType.{HistType, unit_type, int_type, pair_type, sum_type, list_type}
use Rattle.hist_value.specs.HistExpr.{HistExpr, variable, literal, unit_expr, reckoned, pair_expr, first_expr, second_expr, left_expr, right_expr, choice, nil_expr, cons_expr, fold_expr}
use Rattle.bunch.specs.Names.{put}

-- the type of what is reckoned with two numbers
abbrev pub type_of_op : Op → HistType
type_of_op Add = int_type
type_of_op Sub = int_type
type_of_op Mul = int_type
type_of_op Div = int_type
type_of_op Less = sum_type unit_type unit_type
type_of_op Same = sum_type unit_type unit_type

-- the type is the wanted one, where one is wanted
abbrev pub Agrees : Option HistType → HistType → Type 0
Agrees None t = ⊤
Agrees (Some s) t = s ≡ t

-- the expression has the type t, where the names have types and a type may be wanted
pub data Gives : (ℕ → Option HistType) → HistExpr → Option HistType → HistType → Type 0 where
  gives_variable : {env : ℕ → Option HistType} {x : ℕ} {w : Option HistType} {t : HistType} → env x ≡ Some t → Agrees w t → Gives env (variable x) w t
  gives_literal : {env : ℕ → Option HistType} {n : _} {w : Option HistType} → Agrees w int_type → Gives env (literal n) w int_type
  gives_unit : {env : ℕ → Option HistType} {w : Option HistType} → Agrees w unit_type → Gives env unit_expr w unit_type
  gives_reckoned : {env : ℕ → Option HistType} {o : Op} {a b : HistExpr} {w : Option HistType} → Gives env a (Some int_type) int_type
      → Gives env b (Some int_type) int_type → Agrees w (type_of_op o) → Gives env (reckoned o a b) w (type_of_op o)
  gives_pair : {env : ℕ → Option HistType} {a b : HistExpr} {s t : HistType} → Gives env a None s → Gives env b None t
      → Gives env (pair_expr a b) None (pair_type s t)
  gives_wanted_pair : {env : ℕ → Option HistType} {a b : HistExpr} {s t : HistType} → Gives env a (Some s) s → Gives env b (Some t) t
      → Gives env (pair_expr a b) (Some (pair_type s t)) (pair_type s t)
  gives_first : {env : ℕ → Option HistType} {a : HistExpr} {w : Option HistType} {s t : HistType} → Gives env a None (pair_type s t) → Agrees w s
      → Gives env (first_expr a) w s
  gives_second : {env : ℕ → Option HistType} {a : HistExpr} {w : Option HistType} {s t : HistType} → Gives env a None (pair_type s t) → Agrees w t
      → Gives env (second_expr a) w t
  gives_left : {env : ℕ → Option HistType} {a : HistExpr} {s t : HistType} → Gives env a (Some s) s
      → Gives env (left_expr a) (Some (sum_type s t)) (sum_type s t)
  gives_right : {env : ℕ → Option HistType} {a : HistExpr} {s t : HistType} → Gives env a (Some t) t
      → Gives env (right_expr a) (Some (sum_type s t)) (sum_type s t)
  gives_choice : {env : ℕ → Option HistType} {a b c : HistExpr} {x y : ℕ} {w : Option HistType} {s t r : HistType} → Gives env a None (sum_type s t)
      → Gives (put x (Some s) env) b w r → Gives (put y (Some t) env) c (Some r) r → Gives env (choice a x b y c) w r
  gives_nil : {env : ℕ → Option HistType} {s : HistType} → Gives env nil_expr (Some (list_type s)) (list_type s)
  gives_cons : {env : ℕ → Option HistType} {a b : HistExpr} {s : HistType} → Gives env a None s → Gives env b (Some (list_type s)) (list_type s)
      → Gives env (cons_expr a b) None (list_type s)
  gives_wanted_cons : {env : ℕ → Option HistType} {a b : HistExpr} {s : HistType} → Gives env a (Some s) s
      → Gives env b (Some (list_type s)) (list_type s) → Gives env (cons_expr a b) (Some (list_type s)) (list_type s)
  gives_fold : {env : ℕ → Option HistType} {a i b : HistExpr} {x y : ℕ} {w : Option HistType} {s r : HistType} → Gives env a None (list_type s)
      → Gives env i w r → Gives (put y (Some s) (put x (Some r) env)) b (Some r) r → Gives env (fold_expr a i x y b) w r
