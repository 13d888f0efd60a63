-- Historical expressions that are alike but for names.
--
-- A scope gives names of the first expression numbers in the second. A name that a choice or a fold
-- binds may become any number that the scope gives to no other name.
use Rattle.std.specs.Prelude.{ℕ, ℤ, ◌≡◌, Option, Some, None}
use Rattle.hist_value.specs.declared.expr.Op.{Op}
use Rattle.hist_value.specs.HistType.{HistType}
use Rattle.hist_value.specs.HistExpr.{HistExpr, variable, literal, unit_expr, reckoned, pair_expr, first_expr, second_expr, left_expr, right_expr, choice, nil_expr, cons_expr, fold_expr}
use Rattle.hist_value.specs.Refusal.{unbound, mismatch, needs_type}
use Rattle.hist_value.specs.Judge.{Judged, good, bad}
use Rattle.bunch.specs.Names.{put}

-- no name but x has the number n
abbrev pub IsFreeFor : (ℕ → Option ℕ) → ℕ → ℕ → Type 0
IsFreeFor scope x n = (y : ℕ) → scope y ≡ Some n → y ≡ x

-- the second expression is the first one under the scope's numbers
pub data IsRenaming : (ℕ → Option ℕ) → HistExpr → HistExpr → Type 0 where
  renamed_variable : {scope : ℕ → Option ℕ} {x n : ℕ} → scope x ≡ Some n → IsRenaming scope (variable x) (variable n)
  renamed_literal : {scope : ℕ → Option ℕ} {n : ℤ} → IsRenaming scope (literal n) (literal n)
  renamed_unit : {scope : ℕ → Option ℕ} → IsRenaming scope unit_expr unit_expr
  renamed_reckoned : {scope : ℕ → Option ℕ} {o : Op} {a b c d : HistExpr} → IsRenaming scope a c → IsRenaming scope b d
      → IsRenaming scope (reckoned o a b) (reckoned o c d)
  renamed_pair : {scope : ℕ → Option ℕ} {a b c d : HistExpr} → IsRenaming scope a c → IsRenaming scope b d → IsRenaming scope (pair_expr a b) (pair_expr c d)
  renamed_first : {scope : ℕ → Option ℕ} {a c : HistExpr} → IsRenaming scope a c → IsRenaming scope (first_expr a) (first_expr c)
  renamed_second : {scope : ℕ → Option ℕ} {a c : HistExpr} → IsRenaming scope a c → IsRenaming scope (second_expr a) (second_expr c)
  renamed_left : {scope : ℕ → Option ℕ} {a c : HistExpr} → IsRenaming scope a c → IsRenaming scope (left_expr a) (left_expr c)
  renamed_right : {scope : ℕ → Option ℕ} {a c : HistExpr} → IsRenaming scope a c → IsRenaming scope (right_expr a) (right_expr c)
  renamed_choice : {scope : ℕ → Option ℕ} {a b c d e f : HistExpr} {x y m n : ℕ} → IsRenaming scope a d → IsFreeFor scope x m
      → IsRenaming (put x (Some m) scope) b e → IsFreeFor scope y n → IsRenaming (put y (Some n) scope) c f
      → IsRenaming scope (choice a x b y c) (choice d m e n f)
  renamed_nil : {scope : ℕ → Option ℕ} → IsRenaming scope nil_expr nil_expr
  renamed_cons : {scope : ℕ → Option ℕ} {a b c d : HistExpr} → IsRenaming scope a c → IsRenaming scope b d → IsRenaming scope (cons_expr a b) (cons_expr c d)
  renamed_fold : {scope : ℕ → Option ℕ} {a b c d e f : HistExpr} {x y m n : ℕ} → IsRenaming scope a d → IsRenaming scope b e → IsFreeFor scope x m
      → IsFreeFor (put x (Some m) scope) y n → IsRenaming (put y (Some n) (put x (Some m) scope)) c f
      → IsRenaming scope (fold_expr a b x y c) (fold_expr d e m n f)

-- two environments agree at each name of the scope and its number
abbrev pub AgreeAlong : {A : Type 0} → (ℕ → Option ℕ) → (ℕ → A) → (ℕ → A) → Type 0
AgreeAlong scope p q = (x n : ℕ) → scope x ≡ Some n → p x ≡ q n

-- the same is judged; a name that p gives no type has its number in the second
pub data IsJudgedAlike : (ℕ → Option ℕ) → (ℕ → Option HistType) → Judged → Judged → Type 0 where
  alike_good : {scope : ℕ → Option ℕ} {p : ℕ → Option HistType} {t : HistType} → IsJudgedAlike scope p (good t) (good t)
  alike_unbound : {scope : ℕ → Option ℕ} {p : ℕ → Option HistType} {x n : ℕ} → scope x ≡ Some n → p x ≡ None
      → IsJudgedAlike scope p (bad (unbound x)) (bad (unbound n))
  alike_mismatch : {scope : ℕ → Option ℕ} {p : ℕ → Option HistType} {w f : Option HistType} → IsJudgedAlike scope p (bad (mismatch w f)) (bad (mismatch w f))
  alike_needs_type : {scope : ℕ → Option ℕ} {p : ℕ → Option HistType} → IsJudgedAlike scope p (bad needs_type) (bad needs_type)
