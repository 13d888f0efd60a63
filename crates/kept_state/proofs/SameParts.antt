-- Types, historical expressions, prefixes and values of which the bytes begin the same.
use Rattle.std.proofs.Common.{◌≡◌, ◌∙◌, ℕ, suc, List, [], ◌∷◌, ◌++◌, length, map, ap, refl, sym, arith}
use Rattle.std.specs.List.{concat, AllByRecursion}
use Rattle.stream_type.specs.StreamType.{StreamType, eps, one, int, cat, par, sum, star}
use Rattle.stream_prefix.specs.StreamPrefix.{StreamPrefix, eps_emp, one_emp, one_full, int_emp, int_full, par_both, cat_fst, cat_both, sum_emp, in_left, in_right, star_emp, star_done, star_first, star_rest}
use Rattle.hist_value.specs.declared.expr.Op.{Op}
use Rattle.hist_value.specs.declared.expr.Op.TheVariants.{Add, Sub, Mul, Div, Less, Same as Equal}
use Rattle.hist_value.specs.HistValue.{HistValue, unit_value, number, pair_of, left_of, right_of, no_items, item_before}
use Rattle.hist_value.specs.HistExpr.{HistExpr, variable, literal, unit_expr, reckoned, pair_expr, first_expr, second_expr, left_expr, right_expr, choice, nil_expr, cons_expr, fold_expr}
use Rattle.kept_state.specs.KeptBytes.{short_bytes, list_bytes, type_bytes, whole_items, prefix_bytes, rest_bytes, item_count, value_bytes, items_bytes, op_byte, expr_bytes}
use Rattle.kept_state.specs.KeptSizes.{FitsShort, FitsPrefix, FitsValue, FitsExpr, IsOfStar, IsShaped, IsOfList, IsShapedValue}
use Rattle.kept_state.proofs.SameNumbers.{Same, short_same, int_same, first_of, behind_byte, pred_same, after_none, clash}

-- types
pub types_same : (a b : StreamType) (u1 u2 : List ℕ) → type_bytes a ++ u1 ≡ type_bytes b ++ u2 → Same StreamType a b u1 u2
types_same eps eps u1 u2 e = record { same = refl; rest = behind_byte _ _ _ _ e }
types_same one one u1 u2 e = record { same = refl; rest = behind_byte _ _ _ _ e }
types_same int int u1 u2 e = record { same = refl; rest = behind_byte _ _ _ _ e }
types_same (cat a b) (cat a2 b2) u1 u2 e =
    let r0 = types_same a a2 _ _ (first_of (type_bytes a) _ _ (type_bytes a2) _ _ (behind_byte _ _ _ _ e)) in
    let r1 = types_same b b2 _ _ r0.rest in
    record { same = ap (λ part. cat part b) r0.same ∙ (ap (λ part. cat a2 part) r1.same); rest = r1.rest }
types_same (par a b) (par a2 b2) u1 u2 e =
    let r0 = types_same a a2 _ _ (first_of (type_bytes a) _ _ (type_bytes a2) _ _ (behind_byte _ _ _ _ e)) in
    let r1 = types_same b b2 _ _ r0.rest in
    record { same = ap (λ part. par part b) r0.same ∙ (ap (λ part. par a2 part) r1.same); rest = r1.rest }
types_same (sum a b) (sum a2 b2) u1 u2 e =
    let r0 = types_same a a2 _ _ (first_of (type_bytes a) _ _ (type_bytes a2) _ _ (behind_byte _ _ _ _ e)) in
    let r1 = types_same b b2 _ _ r0.rest in
    record { same = ap (λ part. sum part b) r0.same ∙ (ap (λ part. sum a2 part) r1.same); rest = r1.rest }
types_same (star a) (star a2) u1 u2 e =
    let r0 = types_same a a2 _ _ (behind_byte _ _ _ _ e) in
    record { same = ap (λ part. star part) r0.same; rest = r0.rest }
types_same _ _ u1 u2 e = absurd (clash _ _ _ _ e refl)

-- operations
op_same : (a b : Op) (x y : List ℕ) → op_byte a ∷ x ≡ op_byte b ∷ y → Same Op a b x y
op_same Add Add x y e = record { same = refl; rest = behind_byte _ _ _ _ e }
op_same Sub Sub x y e = record { same = refl; rest = behind_byte _ _ _ _ e }
op_same Mul Mul x y e = record { same = refl; rest = behind_byte _ _ _ _ e }
op_same Div Div x y e = record { same = refl; rest = behind_byte _ _ _ _ e }
op_same Less Less x y e = record { same = refl; rest = behind_byte _ _ _ _ e }
op_same Equal Equal x y e = record { same = refl; rest = behind_byte _ _ _ _ e }
op_same _ _ x y e = absurd (clash _ _ _ _ e refl)

-- historical expressions
pub exprs_same : (a b : HistExpr) (u1 u2 : List ℕ) → FitsExpr a → FitsExpr b → expr_bytes a ++ u1 ≡ expr_bytes b ++ u2 → Same HistExpr a b u1 u2
exprs_same (variable x) (variable x2) u1 u2 fa fb e =
    let r0 = short_same x x2 _ _ fa fb (behind_byte _ _ _ _ e) in
    record { same = ap (λ part. variable part) r0.same; rest = r0.rest }
exprs_same (literal n) (literal n2) u1 u2 fa fb e =
    let r0 = int_same n n2 _ _ fa fb (behind_byte _ _ _ _ e) in
    record { same = ap (λ part. literal part) r0.same; rest = r0.rest }
exprs_same unit_expr unit_expr u1 u2 fa fb e = record { same = refl; rest = behind_byte _ _ _ _ e }
exprs_same (reckoned o a b) (reckoned o2 a2 b2) u1 u2 fa fb e =
    let r0 = op_same o o2 _ _ (behind_byte _ _ _ _ e) in
    let r1 = exprs_same a a2 _ _ fa.0 fb.0 (first_of (expr_bytes a) _ _ (expr_bytes a2) _ _ r0.rest) in
    let r2 = exprs_same b b2 _ _ fa.1 fb.1 r1.rest in
    record { same = ap (λ part. reckoned part a b) r0.same ∙ (ap (λ part. reckoned o2 part b) r1.same ∙ (ap (λ part. reckoned o2 a2 part) r2.same)); rest = r2.rest }
exprs_same (pair_expr a b) (pair_expr a2 b2) u1 u2 fa fb e =
    let r0 = exprs_same a a2 _ _ fa.0 fb.0 (first_of (expr_bytes a) _ _ (expr_bytes a2) _ _ (behind_byte _ _ _ _ e)) in
    let r1 = exprs_same b b2 _ _ fa.1 fb.1 r0.rest in
    record { same = ap (λ part. pair_expr part b) r0.same ∙ (ap (λ part. pair_expr a2 part) r1.same); rest = r1.rest }
exprs_same (first_expr a) (first_expr a2) u1 u2 fa fb e =
    let r0 = exprs_same a a2 _ _ fa fb (behind_byte _ _ _ _ e) in
    record { same = ap (λ part. first_expr part) r0.same; rest = r0.rest }
exprs_same (second_expr a) (second_expr a2) u1 u2 fa fb e =
    let r0 = exprs_same a a2 _ _ fa fb (behind_byte _ _ _ _ e) in
    record { same = ap (λ part. second_expr part) r0.same; rest = r0.rest }
exprs_same (left_expr a) (left_expr a2) u1 u2 fa fb e =
    let r0 = exprs_same a a2 _ _ fa fb (behind_byte _ _ _ _ e) in
    record { same = ap (λ part. left_expr part) r0.same; rest = r0.rest }
exprs_same (right_expr a) (right_expr a2) u1 u2 fa fb e =
    let r0 = exprs_same a a2 _ _ fa fb (behind_byte _ _ _ _ e) in
    record { same = ap (λ part. right_expr part) r0.same; rest = r0.rest }
exprs_same (choice a x b y c) (choice a2 x2 b2 y2 c2) u1 u2 fa fb e =
    let r0 = exprs_same a a2 _ _ fa.0 fb.0 (first_of (expr_bytes a) _ _ (expr_bytes a2) _ _ (behind_byte _ _ _ _ e)) in
    let r1 = short_same x x2 _ _ fa.1 fb.1 r0.rest in
    let r2 = exprs_same b b2 _ _ fa.2 fb.2 (first_of (expr_bytes b) _ _ (expr_bytes b2) _ _ r1.rest) in
    let r3 = short_same y y2 _ _ fa.3 fb.3 r2.rest in
    let r4 = exprs_same c c2 _ _ fa.4 fb.4 r3.rest in
    record { same = ap (λ part. choice part x b y c) r0.same ∙ (ap (λ part. choice a2 part b y c) r1.same ∙ (ap (λ part. choice a2 x2 part y c) r2.same ∙ (ap (λ part. choice a2 x2 b2 part c) r3.same ∙ (ap (λ part. choice a2 x2 b2 y2 part) r4.same)))); rest = r4.rest }
exprs_same nil_expr nil_expr u1 u2 fa fb e = record { same = refl; rest = behind_byte _ _ _ _ e }
exprs_same (cons_expr a b) (cons_expr a2 b2) u1 u2 fa fb e =
    let r0 = exprs_same a a2 _ _ fa.0 fb.0 (first_of (expr_bytes a) _ _ (expr_bytes a2) _ _ (behind_byte _ _ _ _ e)) in
    let r1 = exprs_same b b2 _ _ fa.1 fb.1 r0.rest in
    record { same = ap (λ part. cons_expr part b) r0.same ∙ (ap (λ part. cons_expr a2 part) r1.same); rest = r1.rest }
exprs_same (fold_expr a s x y b) (fold_expr a2 s2 x2 y2 b2) u1 u2 fa fb e =
    let r0 = exprs_same a a2 _ _ fa.0 fb.0 (first_of (expr_bytes a) _ _ (expr_bytes a2) _ _ (behind_byte _ _ _ _ e)) in
    let r1 = exprs_same s s2 _ _ fa.1 fb.1 (first_of (expr_bytes s) _ _ (expr_bytes s2) _ _ r0.rest) in
    let r2 = short_same x x2 _ _ fa.2 fb.2 r1.rest in
    let r3 = short_same y y2 _ _ fa.3 fb.3 r2.rest in
    let r4 = exprs_same b b2 _ _ fa.4 fb.4 r3.rest in
    record { same = ap (λ part. fold_expr part s x y b) r0.same ∙ (ap (λ part. fold_expr a2 part x y b) r1.same ∙ (ap (λ part. fold_expr a2 s2 part y b) r2.same ∙ (ap (λ part. fold_expr a2 s2 x2 part b) r3.same ∙ (ap (λ part. fold_expr a2 s2 x2 y2 part) r4.same)))); rest = r4.rest }
exprs_same _ _ u1 u2 fa fb e = absurd (clash _ _ _ _ e refl)

-- no item is not one or more
none_some : (n : ℕ) (x y : List ℕ) → FitsShort (suc n) → short_bytes 0 ++ x ≡ short_bytes (suc n) ++ y → ⊥
none_some n x y h e = let r = (short_same 0 (suc n) x y (omega arith) h e).same in omega (arith, r)

some_none : (n : ℕ) (x y : List ℕ) → FitsShort (suc n) → short_bytes (suc n) ++ x ≡ short_bytes 0 ++ y → ⊥
some_none n x y h e = none_some n y x h (sym e)

mutual
  -- prefixes
  pub prefixes_same : (a b : StreamPrefix) (u1 u2 : List ℕ) → FitsPrefix a → FitsPrefix b → IsShaped a → IsShaped b → prefix_bytes a ++ u1 ≡ prefix_bytes b ++ u2 → Same StreamPrefix a b u1 u2
  prefixes_same eps_emp eps_emp u1 u2 fa fb ha hb e = record { same = refl; rest = behind_byte _ _ _ _ e }
  prefixes_same one_emp one_emp u1 u2 fa fb ha hb e = record { same = refl; rest = behind_byte _ _ _ _ e }
  prefixes_same one_full one_full u1 u2 fa fb ha hb e = record { same = refl; rest = behind_byte _ _ _ _ e }
  prefixes_same int_emp int_emp u1 u2 fa fb ha hb e = record { same = refl; rest = behind_byte _ _ _ _ e }
  prefixes_same (int_full n) (int_full n2) u1 u2 fa fb ha hb e =
      let r0 = int_same n n2 _ _ fa fb (behind_byte _ _ _ _ e) in
      record { same = ap (λ part. int_full part) r0.same; rest = r0.rest }
  prefixes_same (par_both p q) (par_both p2 q2) u1 u2 fa fb ha hb e =
      let r0 = prefixes_same p p2 _ _ fa.0 fb.0 ha.0 hb.0 (first_of (prefix_bytes p) _ _ (prefix_bytes p2) _ _ (behind_byte _ _ _ _ e)) in
      let r1 = prefixes_same q q2 _ _ fa.1 fb.1 ha.1 hb.1 r0.rest in
      record { same = ap (λ part. par_both part q) r0.same ∙ (ap (λ part. par_both p2 part) r1.same); rest = r1.rest }
  prefixes_same (cat_fst p) (cat_fst p2) u1 u2 fa fb ha hb e =
      let r0 = prefixes_same p p2 _ _ fa fb ha hb (behind_byte _ _ _ _ e) in
      record { same = ap (λ part. cat_fst part) r0.same; rest = r0.rest }
  prefixes_same (cat_both p q) (cat_both p2 q2) u1 u2 fa fb ha hb e =
      let r0 = prefixes_same p p2 _ _ fa.0 fb.0 ha.0 hb.0 (first_of (prefix_bytes p) _ _ (prefix_bytes p2) _ _ (behind_byte _ _ _ _ e)) in
      let r1 = prefixes_same q q2 _ _ fa.1 fb.1 ha.1 hb.1 r0.rest in
      record { same = ap (λ part. cat_both part q) r0.same ∙ (ap (λ part. cat_both p2 part) r1.same); rest = r1.rest }
  prefixes_same sum_emp sum_emp u1 u2 fa fb ha hb e = record { same = refl; rest = behind_byte _ _ _ _ e }
  prefixes_same (in_left p) (in_left p2) u1 u2 fa fb ha hb e =
      let r0 = prefixes_same p p2 _ _ fa fb ha hb (behind_byte _ _ _ _ e) in
      record { same = ap (λ part. in_left part) r0.same; rest = r0.rest }
  prefixes_same (in_right p) (in_right p2) u1 u2 fa fb ha hb e =
      let r0 = prefixes_same p p2 _ _ fa fb ha hb (behind_byte _ _ _ _ e) in
      record { same = ap (λ part. in_right part) r0.same; rest = r0.rest }
  prefixes_same star_emp star_emp u1 u2 fa fb ha hb e = record { same = refl; rest = behind_byte _ _ _ _ (after_none _ _ (behind_byte _ _ _ _ e)) }
  prefixes_same star_done star_done u1 u2 fa fb ha hb e = record { same = refl; rest = behind_byte _ _ _ _ (after_none _ _ (behind_byte _ _ _ _ e)) }
  prefixes_same (star_first p) (star_first p2) u1 u2 fa fb ha hb e =
      let r0 = prefixes_same p p2 _ _ fa fb ha hb (behind_byte _ _ _ _ (after_none _ _ (behind_byte _ _ _ _ e))) in
      record { same = ap star_first r0.same; rest = r0.rest }
  prefixes_same (star_rest p q) (star_rest p2 q2) u1 u2 fa fb ha hb e =
      let c = short_same (suc (whole_items q)) (suc (whole_items q2)) _ _ fa.2 fb.2 (behind_byte _ _ _ _ e) in
      let r0 = prefixes_same p p2 _ _ fa.0 fb.0 ha.0 hb.0 (first_of (prefix_bytes p) _ _ (prefix_bytes p2) _ _ c.rest) in
      let r1 = ends_same q q2 _ _ fa.1 fb.1 ha.1 hb.1 ha.2 hb.2 (pred_same _ _ c.same) r0.rest in
      record { same = ap (λ part. star_rest part q) r0.same ∙ ap (λ part. star_rest p2 part) r1.same; rest = r1.rest }
  prefixes_same star_emp (star_rest p q) u1 u2 fa fb ha hb e = absurd (none_some _ _ _ fb.2 (behind_byte _ _ _ _ e))
  prefixes_same star_done (star_rest p q) u1 u2 fa fb ha hb e = absurd (none_some _ _ _ fb.2 (behind_byte _ _ _ _ e))
  prefixes_same (star_first r) (star_rest p q) u1 u2 fa fb ha hb e = absurd (none_some _ _ _ fb.2 (behind_byte _ _ _ _ e))
  prefixes_same (star_rest p q) star_emp u1 u2 fa fb ha hb e = absurd (some_none _ _ _ fa.2 (behind_byte _ _ _ _ e))
  prefixes_same (star_rest p q) star_done u1 u2 fa fb ha hb e = absurd (some_none _ _ _ fa.2 (behind_byte _ _ _ _ e))
  prefixes_same (star_rest p q) (star_first r) u1 u2 fa fb ha hb e = absurd (some_none _ _ _ fa.2 (behind_byte _ _ _ _ e))
  prefixes_same star_emp star_done u1 u2 fa fb ha hb e = absurd (clash _ _ _ _ (after_none _ _ (behind_byte _ _ _ _ e)) refl)
  prefixes_same star_emp (star_first p) u1 u2 fa fb ha hb e = absurd (clash _ _ _ _ (after_none _ _ (behind_byte _ _ _ _ e)) refl)
  prefixes_same star_done star_emp u1 u2 fa fb ha hb e = absurd (clash _ _ _ _ (after_none _ _ (behind_byte _ _ _ _ e)) refl)
  prefixes_same star_done (star_first p) u1 u2 fa fb ha hb e = absurd (clash _ _ _ _ (after_none _ _ (behind_byte _ _ _ _ e)) refl)
  prefixes_same (star_first p) star_emp u1 u2 fa fb ha hb e = absurd (clash _ _ _ _ (after_none _ _ (behind_byte _ _ _ _ e)) refl)
  prefixes_same (star_first p) star_done u1 u2 fa fb ha hb e = absurd (clash _ _ _ _ (after_none _ _ (behind_byte _ _ _ _ e)) refl)
  prefixes_same _ _ u1 u2 fa fb ha hb e = absurd (clash _ _ _ _ e refl)

  -- what follows as many whole items
  ends_same : (a b : StreamPrefix) (x y : List ℕ) → FitsPrefix a → FitsPrefix b → IsOfStar a → IsOfStar b → IsShaped a → IsShaped b → whole_items a ≡ whole_items b → rest_bytes a ++ x ≡ rest_bytes b ++ y → Same StreamPrefix a b x y
  ends_same star_emp star_emp u1 u2 fa fb sa sb ha hb n e = record { same = refl; rest = behind_byte _ _ _ _ e }
  ends_same star_emp star_done u1 u2 fa fb sa sb ha hb n e = absurd (clash _ _ _ _ e refl)
  ends_same star_emp (star_first p2) u1 u2 fa fb sa sb ha hb n e = absurd (clash _ _ _ _ e refl)
  ends_same star_emp (star_rest p2 q2) u1 u2 fa fb sa sb ha hb n e = absurd (let none : ⊥ = omega (arith, n) in none)
  ends_same star_done star_emp u1 u2 fa fb sa sb ha hb n e = absurd (clash _ _ _ _ e refl)
  ends_same star_done star_done u1 u2 fa fb sa sb ha hb n e = record { same = refl; rest = behind_byte _ _ _ _ e }
  ends_same star_done (star_first p2) u1 u2 fa fb sa sb ha hb n e = absurd (clash _ _ _ _ e refl)
  ends_same star_done (star_rest p2 q2) u1 u2 fa fb sa sb ha hb n e = absurd (let none : ⊥ = omega (arith, n) in none)
  ends_same (star_first p) star_emp u1 u2 fa fb sa sb ha hb n e = absurd (clash _ _ _ _ e refl)
  ends_same (star_first p) star_done u1 u2 fa fb sa sb ha hb n e = absurd (clash _ _ _ _ e refl)
  ends_same (star_first p) (star_first p2) u1 u2 fa fb sa sb ha hb n e =
      let r0 = prefixes_same p p2 _ _ fa fb ha hb (behind_byte _ _ _ _ e) in
      record { same = ap star_first r0.same; rest = r0.rest }
  ends_same (star_first p) (star_rest p2 q2) u1 u2 fa fb sa sb ha hb n e = absurd (let none : ⊥ = omega (arith, n) in none)
  ends_same (star_rest p q) star_emp u1 u2 fa fb sa sb ha hb n e = absurd (let none : ⊥ = omega (arith, n) in none)
  ends_same (star_rest p q) star_done u1 u2 fa fb sa sb ha hb n e = absurd (let none : ⊥ = omega (arith, n) in none)
  ends_same (star_rest p q) (star_first p2) u1 u2 fa fb sa sb ha hb n e = absurd (let none : ⊥ = omega (arith, n) in none)
  ends_same (star_rest p q) (star_rest p2 q2) u1 u2 fa fb sa sb ha hb n e =
      let r0 = prefixes_same p p2 _ _ fa.0 fb.0 ha.0 hb.0 (first_of (prefix_bytes p) _ _ (prefix_bytes p2) _ _ e) in
      let r1 = ends_same q q2 _ _ fa.1 fb.1 ha.1 hb.1 ha.2 hb.2 (pred_same _ _ n) r0.rest in
      record { same = ap (λ part. star_rest part q) r0.same ∙ ap (λ part. star_rest p2 part) r1.same; rest = r1.rest }
  ends_same star_emp _ u1 u2 fa fb sa sb ha hb n e = absurd sb
  ends_same star_done _ u1 u2 fa fb sa sb ha hb n e = absurd sb
  ends_same (star_first p) _ u1 u2 fa fb sa sb ha hb n e = absurd sb
  ends_same (star_rest p q) _ u1 u2 fa fb sa sb ha hb n e = absurd sb
  ends_same _ _ u1 u2 fa fb sa sb ha hb n e = absurd sa

mutual
  -- values
  pub values_same : (a b : HistValue) (u1 u2 : List ℕ) → FitsValue a → FitsValue b → IsShapedValue a → IsShapedValue b → value_bytes a ++ u1 ≡ value_bytes b ++ u2 → Same HistValue a b u1 u2
  values_same unit_value unit_value u1 u2 fa fb ha hb e = record { same = refl; rest = behind_byte _ _ _ _ e }
  values_same (number n) (number n2) u1 u2 fa fb ha hb e =
      let r0 = int_same n n2 _ _ fa fb (behind_byte _ _ _ _ e) in
      record { same = ap (λ part. number part) r0.same; rest = r0.rest }
  values_same (pair_of v w) (pair_of v2 w2) u1 u2 fa fb ha hb e =
      let r0 = values_same v v2 _ _ fa.0 fb.0 ha.0 hb.0 (first_of (value_bytes v) _ _ (value_bytes v2) _ _ (behind_byte _ _ _ _ e)) in
      let r1 = values_same w w2 _ _ fa.1 fb.1 ha.1 hb.1 r0.rest in
      record { same = ap (λ part. pair_of part w) r0.same ∙ (ap (λ part. pair_of v2 part) r1.same); rest = r1.rest }
  values_same (left_of v) (left_of v2) u1 u2 fa fb ha hb e =
      let r0 = values_same v v2 _ _ fa fb ha hb (behind_byte _ _ _ _ e) in
      record { same = ap (λ part. left_of part) r0.same; rest = r0.rest }
  values_same (right_of v) (right_of v2) u1 u2 fa fb ha hb e =
      let r0 = values_same v v2 _ _ fa fb ha hb (behind_byte _ _ _ _ e) in
      record { same = ap (λ part. right_of part) r0.same; rest = r0.rest }
  values_same no_items no_items u1 u2 fa fb ha hb e = record { same = refl; rest = after_none _ _ (behind_byte _ _ _ _ e) }
  values_same (item_before a b) (item_before a2 b2) u1 u2 fa fb ha hb e =
      let c = short_same (suc (item_count b)) (suc (item_count b2)) _ _ fa.2 fb.2 (behind_byte _ _ _ _ e) in
      let r0 = values_same a a2 _ _ fa.0 fb.0 ha.0 hb.0 (first_of (value_bytes a) _ _ (value_bytes a2) _ _ c.rest) in
      let r1 = items_same b b2 _ _ fa.1 fb.1 ha.1 hb.1 ha.2 hb.2 (pred_same _ _ c.same) r0.rest in
      record { same = ap (λ part. item_before part b) r0.same ∙ ap (λ part. item_before a2 part) r1.same; rest = r1.rest }
  values_same no_items (item_before a b) u1 u2 fa fb ha hb e = absurd (none_some _ _ _ fb.2 (behind_byte _ _ _ _ e))
  values_same (item_before a b) no_items u1 u2 fa fb ha hb e = absurd (some_none _ _ _ fa.2 (behind_byte _ _ _ _ e))
  values_same _ _ u1 u2 fa fb ha hb e = absurd (clash _ _ _ _ e refl)

  -- as many items of lists
  items_same : (a b : HistValue) (x y : List ℕ) → FitsValue a → FitsValue b → IsOfList a → IsOfList b → IsShapedValue a → IsShapedValue b → item_count a ≡ item_count b → items_bytes a ++ x ≡ items_bytes b ++ y → Same HistValue a b x y
  items_same no_items no_items u1 u2 fa fb sa sb ha hb n e = record { same = refl; rest = e }
  items_same (item_before a b) (item_before a2 b2) u1 u2 fa fb sa sb ha hb n e =
      let r0 = values_same a a2 _ _ fa.0 fb.0 ha.0 hb.0 (first_of (value_bytes a) _ _ (value_bytes a2) _ _ e) in
      let r1 = items_same b b2 _ _ fa.1 fb.1 ha.1 hb.1 ha.2 hb.2 (pred_same _ _ n) r0.rest in
      record { same = ap (λ part. item_before part b) r0.same ∙ ap (λ part. item_before a2 part) r1.same; rest = r1.rest }
  items_same no_items (item_before a b) u1 u2 fa fb sa sb ha hb n e = absurd (let none : ⊥ = omega (arith, n) in none)
  items_same (item_before a b) no_items u1 u2 fa fb sa sb ha hb n e = absurd (let none : ⊥ = omega (arith, n) in none)
  items_same no_items _ u1 u2 fa fb sa sb ha hb n e = absurd sb
  items_same (item_before a b) _ u1 u2 fa fb sa sb ha hb n e = absurd sb
  items_same _ _ u1 u2 fa fb sa sb ha hb n e = absurd sa

-- as many things, each with bytes of its own
pub each_same : {A : Type 0} (bytes : A → List ℕ) (Fits : A → Type 0) → ((a b : A) (x y : List ℕ) → Fits a → Fits b → bytes a ++ x ≡ bytes b ++ y → Same A a b x y)
    → (as' bs : List A) (x y : List ℕ) → AllByRecursion Fits as' → AllByRecursion Fits bs → length as' ≡ length bs → concat (map bytes as') ++ x ≡ concat (map bytes bs) ++ y → Same (List A) as' bs x y
each_same bytes Fits same [] [] x y f g n e = record { same = refl; rest = e }
each_same bytes Fits same (a ∷ as') (b ∷ bs) x y f g n e =
    let r0 = same a b _ _ f.0 g.0 (first_of (bytes a) _ _ (bytes b) _ _ e) in
    let r1 = each_same bytes Fits same as' bs _ _ f.1 g.1 (pred_same _ _ n) r0.rest in
    record { same = ap (λ part. part ∷ as') r0.same ∙ ap (λ part. b ∷ part) r1.same; rest = r1.rest }
each_same bytes Fits same [] (b ∷ bs) x y f g n e = absurd (let none : ⊥ = omega (arith, n) in none)
each_same bytes Fits same (a ∷ as') [] x y f g n e = absurd (let none : ⊥ = omega (arith, n) in none)

-- a list of them
pub lists_same : {A : Type 0} (bytes : A → List ℕ) (Fits : A → Type 0) → ((a b : A) (x y : List ℕ) → Fits a → Fits b → bytes a ++ x ≡ bytes b ++ y → Same A a b x y)
    → (as' bs : List A) (x y : List ℕ) → FitsShort (length as') × AllByRecursion Fits as' → FitsShort (length bs) × AllByRecursion Fits bs → list_bytes bytes as' ++ x ≡ list_bytes bytes bs ++ y → Same (List A) as' bs x y
lists_same bytes Fits same as' bs x y f g e =
    let c = short_same (length as') (length bs) _ _ f.0 g.0 e in
    each_same bytes Fits same as' bs x y f.1 g.1 c.same c.rest
