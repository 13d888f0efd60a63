-- Whether a call keeps its rules, and what it then leaves to derive.
use Rattle.std.proofs.Common.{◌≡◌, ◌∙◌, ℕ, Bool, true, false, ◌&&◌, List, length, map, if◌then◌else◌, ap, ap₂, sym}
use Rattle.std.specs.Prelude.{None, ◌==◌}
use Rattle.std.proofs.lemmas.List.{length-map}
use Rattle.stream_type.specs.StreamType.{StreamType, type_of}
use Rattle.stream_type.specs.declared.ty.Ty.{Ty}
use Rattle.bunch.specs.declared.name.Name.{Name}
use Rattle.hist_value.specs.declared.expr.Expr.{Expr}
use Rattle.bunch.specs.BunchTree.{BunchTree}
use Rattle.hist_value.specs.HistExpr.{HistExpr, expr_of}
use Rattle.core_term.specs.CoreTerm.{CoreTerms, CoreBody, fun_at, is_there, typed_names_of}
use Rattle.bunch_rules.specs.Derivation.{Known}
use Rattle.delta_derive.specs.Claims.{is_called, passes, call_parts}

module _ (funs : List CoreBody) (counts : ℕ → Bool) (known : Known) (g : BunchTree) (f : ℕ) (ms : List HistExpr) (es : CoreTerms) (r : StreamType) where
  -- no function has the number
  pub call_unknown : is_there funs f ≡ false → call_parts funs counts known g f ms es r ≡ None
  call_unknown i = ap (λ c. if c && is_called funs counts known (fun_at funs f) ms es r then passes known (fun_at funs f).params g es else None) i

  both_tests : (b : CoreBody) (c : Bool) → is_there funs f ≡ true → b ≡ fun_at funs f → is_called funs counts known b ms es r ≡ c → call_parts funs counts known g f ms es r ≡ (if c then passes known b.params g es else None)
  both_tests b c i e q =
      ap (λ d. if d && is_called funs counts known (fun_at funs f) ms es r then passes known (fun_at funs f).params g es else None) i
      ∙ ap (λ d. if is_called funs counts known d ms es r then passes known d.params g es else None) (sym e)
      ∙ ap (λ d. if d then passes known b.params g es else None) q

  -- a rule is broken
  pub call_refused : (b : CoreBody) → is_there funs f ≡ true → b ≡ fun_at funs f → is_called funs counts known b ms es r ≡ false → call_parts funs counts known g f ms es r ≡ None
  call_refused b i e q = both_tests b false i e q

  -- and none is
  pub call_passed : (b : CoreBody) → is_there funs f ≡ true → b ≡ fun_at funs f → is_called funs counts known b ms es r ≡ true → call_parts funs counts known g f ms es r ≡ passes known b.params g es
  call_passed b i e q = both_tests b true i e q

-- what stands for historical arguments and parameters is as many as they are
pub same_number : (ms : List Expr) (ps : List (Name × Ty)) → (length (map expr_of ms) == length (typed_names_of ps)) ≡ (length ms == length ps)
same_number ms ps = ap₂ (λ m n. m == n) (length-map ms expr_of) (length-map ps (λ p. (p.0.0, type_of p.1)))

pub ruleset passed = (call_unknown, call_refused, call_passed, same_number)
