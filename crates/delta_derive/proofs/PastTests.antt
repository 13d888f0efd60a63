-- Historical arguments that are tested in turn.
use Rattle.std.proofs.Common.{◌≡◌, ◌∙◌, ◌+◌, ◌<◌, ℕ, Bool, true, false, true≢false, List, [], length, drop, get_or, ap, refl, sym}
use Rattle.std.specs.Prelude.{Option, Some, None, option_map, is_some, not, nat_lt}
use Rattle.stream_type.specs.StreamType.{type_of}
use Rattle.stream_type.specs.declared.ty.Ty.{Ty}
use Rattle.bunch.specs.declared.name.Name.{Name}
use Rattle.hist_value.specs.HistType.{HistType, past}
use Rattle.hist_value.specs.HistExpr.{expr_of}
use Rattle.hist_value.specs.Refusal.{HistRefusal}
use Rattle.hist_value.specs.declared.expr.Expr.{Expr}
use Rattle.core_term.specs.TypeFaults.{Cause, first_some, history_fault, expr_refusal}
use Rattle.delta_check.proofs.RuleForms.{pasts_of, pasts_of-next}

-- what is wrong with the next one is wrong with all
pub next_bad : (o : Option HistRefusal) (rest : Option (Cause HistRefusal)) → not (is_some o) ≡ false → not (is_some (first_some (option_map history_fault o) rest)) ≡ false
next_bad None rest h = absurd (true≢false h)
next_bad (Some f) rest h = refl

pub next_fine : (o : Option HistRefusal) (rest : Option (Cause HistRefusal)) → not (is_some o) ≡ true → first_some (option_map history_fault o) rest ≡ rest
next_fine None rest h = refl
next_fine (Some f) rest h = absurd (true≢false (sym h))

-- whether all have their types
abbrev pub all_fine : (ℕ → Option HistType) → List Expr → List (Name × Ty) → Bool
all_fine env ms ps = not (is_some (pasts_of env ms ps))

module _ (env : ℕ → Option HistType) (ms : List Expr) (ps : List (Name × Ty)) (i : ℕ) where
  -- no more are tested
  pub fine_over : pasts_of env (drop i ms) (drop i ps) ≡ None → pasts_of env (drop i ms) (drop i ps) ≡ pasts_of env ms ps → true ≡ all_fine env ms ps
  fine_over h k = sym (ap (λ o. not (is_some o)) (sym k ∙ h))

  -- the next one decides, or is passed over
  pub bad_from : (m : Expr) (p : Name × Ty) → i < length ms → true ≡ nat_lt i (length ps) → m ≡ get_or ms i m → p ≡ get_or ps i p → not (is_some (expr_refusal env (expr_of m) (past (type_of p.1)))) ≡ false
      → pasts_of env (drop i ms) (drop i ps) ≡ pasts_of env ms ps → false ≡ all_fine env ms ps
  bad_from m p h k em ep b inv =
      sym (ap (λ o. not (is_some o)) (sym inv ∙ pasts_of-next env ms ps i m p h k em ep) ∙ next_bad (expr_refusal env (expr_of m) (past (type_of p.1))) (pasts_of env (drop (i + 1) ms) (drop (i + 1) ps)) b)

  pub fine_from : (m : Expr) (p : Name × Ty) → i < length ms → true ≡ nat_lt i (length ps) → m ≡ get_or ms i m → p ≡ get_or ps i p → not (is_some (expr_refusal env (expr_of m) (past (type_of p.1)))) ≡ true
      → pasts_of env (drop i ms) (drop i ps) ≡ pasts_of env ms ps → pasts_of env (drop (i + 1) ms) (drop (i + 1) ps) ≡ pasts_of env ms ps
  fine_from m p h k em ep b inv =
      sym (pasts_of-next env ms ps i m p h k em ep ∙ next_fine (expr_refusal env (expr_of m) (past (type_of p.1))) (pasts_of env (drop (i + 1) ms) (drop (i + 1) ps)) b) ∙ inv
