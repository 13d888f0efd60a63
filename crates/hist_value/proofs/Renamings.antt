-- Expressions that are alike but for names have one value, and the same is judged of them.
use Rattle.std.proofs.Common.{◌≡◌, ℕ, ◌==◌, Bool, true, false, refl, sym, ap, ap₂, ◌∙◌, subst, arith}
use Rattle.std.specs.Prelude.{Option, Some, None, if◌then◌else◌, ◌↔◌}
use Rattle.hist_value.specs.HistType.{HistType, unit_type, int_type, pair_type, sum_type, list_type, same_type}
use Rattle.hist_value.specs.HistValue.{HistValue, pair_of, left_of, right_of}
use Rattle.hist_value.specs.HistExpr.{HistExpr}
use Rattle.bunch.specs.Names.{put}
use Rattle.hist_value.specs.Evaluate.{value, reckon_values, first_of, second_of, choose, cons_of, gather}
use Rattle.hist_value.specs.Typing.{type_of_op}
use Rattle.hist_value.specs.Refusal.{unbound, mismatch}
use Rattle.hist_value.specs.Judge.{Judged, good, bad, and_then, at_name, found, of_pair, of_sum, of_list, of_items, in_pair, in_sum, in_list, judge}
use Rattle.hist_value.specs.Renaming.{IsFreeFor, IsRenaming, renamed_variable, renamed_literal, renamed_unit, renamed_reckoned, renamed_pair, renamed_first, renamed_second, renamed_left, renamed_right, renamed_choice, renamed_nil, renamed_cons, renamed_fold, AgreeAlong, IsJudgedAlike, alike_good, alike_unbound, alike_mismatch, alike_needs_type}
use Rattle.hist_value.specs.Laws.{ValueOfRenaming, JudgeOfRenaming, GivesOfRenaming}
use Rattle.hist_value.proofs.Judgments.{bad_no, judged, given}
use Rattle.hist_value.proofs.FreeValues.{choose-same, gather-same, self_equal}

equal_is : (x y : ℕ) → (x == y) ≡ true → x ≡ y
equal_is x y h = grind arith

-- environments agree along a scope under a bound name and its number too
pub agree_under : {A : Type 0} (scope : ℕ → Option ℕ) (x n : ℕ) (a : A) (p q : ℕ → A) → AgreeAlong scope p q → IsFreeFor scope x n → AgreeAlong (put x (Some n) scope) (put x a p) (put n a q)
agree_under scope x n a p q agree free y m h = outer (y == x) refl h
  where
    inner : (c : Bool) → (m == n) ≡ c → (y == x) ≡ false → scope y ≡ Some m → p y ≡ (if c then a else q m)
    inner true e off h =
        let same : y ≡ x = free y (h ∙ ap Some (equal_is m n e)) in
        absurd (cc (off, subst (λ z. (y == z) ≡ true) same (self_equal y)))
    inner false e off h = agree y m h

    outer : (b : Bool) → (y == x) ≡ b → (if b then Some n else scope y) ≡ Some m → (if b then a else p y) ≡ (if m == n then a else q m)
    outer true e h =
        let same : n ≡ m = cc h in
        ap (λ b. if b then a else q m) (sym (subst (λ k. (m == k) ≡ true) (sym same) (self_equal m)))
    outer false e h = inner (m == n) refl e h

-- the values are equal
value_renamed : {scope : ℕ → Option ℕ} {e f : HistExpr} → IsRenaming scope e f → (p q : ℕ → HistValue) → AgreeAlong scope p q → value e p ≡ value f q
value_renamed (renamed_variable {x = x} {n = n} k) p q h = h x n k
value_renamed renamed_literal p q h = refl
value_renamed renamed_unit p q h = refl
value_renamed (renamed_reckoned {o = o} ra rb) p q h = ap₂ (reckon_values o) (value_renamed ra p q h) (value_renamed rb p q h)
value_renamed (renamed_pair ra rb) p q h = ap₂ pair_of (value_renamed ra p q h) (value_renamed rb p q h)
value_renamed (renamed_first ra) p q h = ap first_of (value_renamed ra p q h)
value_renamed (renamed_second ra) p q h = ap second_of (value_renamed ra p q h)
value_renamed (renamed_left ra) p q h = ap left_of (value_renamed ra p q h)
value_renamed (renamed_right ra) p q h = ap right_of (value_renamed ra p q h)
value_renamed (renamed_choice {scope = scope} {b = b} {c = c} {d = d} {e = e} {f = f} {x = x} {y = y} {m = m} {n = n} ra fx rb fy rc) p q h =
    ap (choose (λ v. value b (put x v p)) (λ v. value c (put y v p))) (value_renamed ra p q h)
    ∙ choose-same (λ v. value b (put x v p)) (λ v. value e (put m v q)) (λ v. value c (put y v p)) (λ v. value f (put n v q)) (value d q)
    (λ v. value_renamed rb (put x v p) (put m v q) (agree_under scope x m v p q h fx))
    (λ v. value_renamed rc (put y v p) (put n v q) (agree_under scope y n v p q h fy))
value_renamed renamed_nil p q h = refl
value_renamed (renamed_cons ra rb) p q h = ap₂ cons_of (value_renamed ra p q h) (value_renamed rb p q h)
value_renamed (renamed_fold {scope = scope} {c = c} {d = d} {e = e} {f = f} {x = x} {y = y} {m = m} {n = n} ra rb fx fy rc) p q h =
    ap₂ (gather (λ g v. value c (put y v (put x g p)))) (value_renamed rb p q h) (value_renamed ra p q h)
    ∙ gather-same (λ g v. value c (put y v (put x g p))) (λ g v. value f (put n v (put m g q)))
    (λ g v. value_renamed rc (put y v (put x g p)) (put n v (put m g q))
    (agree_under (put x (Some m) scope) y n v (put x g p) (put m g q) (agree_under scope x m g p q h fx) fy))
    (value e q) (value d q)

-- the steps of a judgment, part by part
then_alike : {scope : ℕ → Option ℕ} {p : ℕ → Option HistType} {m n : Judged} (f g : HistType → Judged) → IsJudgedAlike scope p m n → ((t : HistType) → IsJudgedAlike scope p (f t) (g t)) → IsJudgedAlike scope p (and_then m f) (and_then n g)
then_alike f g (alike_good {t = t}) h = h t
then_alike f g (alike_unbound k e) h = alike_unbound k e
then_alike f g alike_mismatch h = alike_mismatch
then_alike f g alike_needs_type h = alike_needs_type

found_alike : {scope : ℕ → Option ℕ} {p : ℕ → Option HistType} (w : Option HistType) (t : HistType) → IsJudgedAlike scope p (found w t) (found w t)
found_alike None t = alike_good
found_alike {scope = scope} {p = p} (Some w) t = go (same_type w t)
  where
    go : (b : Bool) → IsJudgedAlike scope p (if b then good t else bad (mismatch (Some w) (Some t))) (if b then good t else bad (mismatch (Some w) (Some t)))
    go true = alike_good
    go false = alike_mismatch

of_pair-alike : {scope : ℕ → Option ℕ} {p : ℕ → Option HistType} (w : Option HistType) (f g : Option HistType → Option HistType → Judged) → ((s t : Option HistType) → IsJudgedAlike scope p (f s t) (g s t)) → IsJudgedAlike scope p (of_pair w f) (of_pair w g)
of_pair-alike None f g h = h None None
of_pair-alike (Some (pair_type s t)) f g h = h (Some s) (Some t)
of_pair-alike (Some unit_type) f g h = alike_mismatch
of_pair-alike (Some int_type) f g h = alike_mismatch
of_pair-alike (Some (sum_type s t)) f g h = alike_mismatch
of_pair-alike (Some (list_type s)) f g h = alike_mismatch

of_sum-alike : {scope : ℕ → Option ℕ} {p : ℕ → Option HistType} (w : Option HistType) (f g : HistType → HistType → Judged) → ((s t : HistType) → IsJudgedAlike scope p (f s t) (g s t)) → IsJudgedAlike scope p (of_sum w f) (of_sum w g)
of_sum-alike None f g h = alike_needs_type
of_sum-alike (Some (sum_type s t)) f g h = h s t
of_sum-alike (Some unit_type) f g h = alike_mismatch
of_sum-alike (Some int_type) f g h = alike_mismatch
of_sum-alike (Some (pair_type s t)) f g h = alike_mismatch
of_sum-alike (Some (list_type s)) f g h = alike_mismatch

of_list-alike : {scope : ℕ → Option ℕ} {p : ℕ → Option HistType} (w : Option HistType) (f : HistType → HistType) → IsJudgedAlike scope p (of_list w (λ s. good (f s))) (of_list w (λ s. good (f s)))
of_list-alike None f = alike_needs_type
of_list-alike (Some (list_type s)) f = alike_good
of_list-alike (Some unit_type) f = alike_mismatch
of_list-alike (Some int_type) f = alike_mismatch
of_list-alike (Some (pair_type s t)) f = alike_mismatch
of_list-alike (Some (sum_type s t)) f = alike_mismatch

of_items-alike : {scope : ℕ → Option ℕ} {p : ℕ → Option HistType} (w : Option HistType) (f g : Option HistType → Judged) → ((s : Option HistType) → IsJudgedAlike scope p (f s) (g s)) → IsJudgedAlike scope p (of_items w f) (of_items w g)
of_items-alike None f g h = h None
of_items-alike (Some (list_type s)) f g h = h (Some s)
of_items-alike (Some unit_type) f g h = alike_mismatch
of_items-alike (Some int_type) f g h = alike_mismatch
of_items-alike (Some (pair_type s t)) f g h = alike_mismatch
of_items-alike (Some (sum_type s t)) f g h = alike_mismatch

in_pair-alike : {scope : ℕ → Option ℕ} {p : ℕ → Option HistType} (k : HistType) (f : HistType → HistType → Judged) → ((s t : HistType) → IsJudgedAlike scope p (f s t) (f s t)) → IsJudgedAlike scope p (in_pair k f) (in_pair k f)
in_pair-alike (pair_type s t) f h = h s t
in_pair-alike unit_type f h = alike_mismatch
in_pair-alike int_type f h = alike_mismatch
in_pair-alike (sum_type s t) f h = alike_mismatch
in_pair-alike (list_type s) f h = alike_mismatch

in_sum-alike : {scope : ℕ → Option ℕ} {p : ℕ → Option HistType} (k : HistType) (f g : HistType → HistType → Judged) → ((s t : HistType) → IsJudgedAlike scope p (f s t) (g s t)) → IsJudgedAlike scope p (in_sum k f) (in_sum k g)
in_sum-alike (sum_type s t) f g h = h s t
in_sum-alike unit_type f g h = alike_mismatch
in_sum-alike int_type f g h = alike_mismatch
in_sum-alike (pair_type s t) f g h = alike_mismatch
in_sum-alike (list_type s) f g h = alike_mismatch

in_list-alike : {scope : ℕ → Option ℕ} {p : ℕ → Option HistType} (k : HistType) (f g : HistType → Judged) → ((s : HistType) → IsJudgedAlike scope p (f s) (g s)) → IsJudgedAlike scope p (in_list k f) (in_list k g)
in_list-alike (list_type s) f g h = h s
in_list-alike unit_type f g h = alike_mismatch
in_list-alike int_type f g h = alike_mismatch
in_list-alike (pair_type s t) f g h = alike_mismatch
in_list-alike (sum_type s t) f g h = alike_mismatch

-- a name without a type isn't the bound one, so it is one of the outer scope
outward : {scope : ℕ → Option ℕ} {p : ℕ → Option HistType} {j k : Judged} (x n : ℕ) (s : HistType) → IsJudgedAlike (put x (Some n) scope) (put x (Some s) p) j k → IsJudgedAlike scope p j k
outward x n s alike_good = alike_good
outward {scope = scope} {p = p} x n s (alike_unbound {x = y} {n = m} h e) = go (y == x) h e
  where
    go : (b : Bool) → (if b then Some n else scope y) ≡ Some m → (if b then Some s else p y) ≡ None → IsJudgedAlike scope p (bad (unbound y)) (bad (unbound m))
    go true h e = absurd (cc e)
    go false h e = alike_unbound h e
outward x n s alike_mismatch = alike_mismatch
outward x n s alike_needs_type = alike_needs_type

variable_alike : {scope : ℕ → Option ℕ} {p : ℕ → Option HistType} (w : Option HistType) (x n : ℕ) (o r : Option HistType) → scope x ≡ Some n → p x ≡ o → o ≡ r → IsJudgedAlike scope p (and_then (at_name x o) (λ t. found w t)) (and_then (at_name n r) (λ t. found w t))
variable_alike w x n None None k e h = alike_unbound k e
variable_alike {scope = scope} {p = p} w x n (Some t) (Some u) k e h =
    let same : t ≡ u = cc h in
    subst (λ z. IsJudgedAlike scope p (found w t) (found w z)) same (found_alike w t)
variable_alike w x n None (Some u) k e h = absurd (cc h)
variable_alike w x n (Some t) None k e h = absurd (cc h)

-- the same is judged
judge_renamed : {scope : ℕ → Option ℕ} {e f : HistExpr} → IsRenaming scope e f → (p q : ℕ → Option HistType) → AgreeAlong scope p q → (w : Option HistType) → IsJudgedAlike scope p (judge p e w) (judge q f w)
judge_renamed (renamed_variable {x = x} {n = n} k) p q h w = variable_alike w x n (p x) (q n) k refl (h x n k)
judge_renamed renamed_literal p q h w = found_alike w int_type
judge_renamed renamed_unit p q h w = found_alike w unit_type
judge_renamed (renamed_reckoned {o = o} {a = a} {b = b} {c = c} {d = d} ra rb) p q h w =
    then_alike (λ t. and_then (judge p a (Some int_type)) (λ _. and_then (judge p b (Some int_type)) (λ _. good t))) (λ t. and_then (judge q c (Some int_type)) (λ _. and_then (judge q d (Some int_type)) (λ _. good t))) (found_alike w (type_of_op o))
    (λ t. then_alike (λ _. and_then (judge p b (Some int_type)) (λ _. good t)) (λ _. and_then (judge q d (Some int_type)) (λ _. good t)) (judge_renamed ra p q h (Some int_type))
    (λ _. then_alike (λ _. good t) (λ _. good t) (judge_renamed rb p q h (Some int_type)) (λ _. alike_good)))
judge_renamed (renamed_pair {a = a} {b = b} {c = c} {d = d} ra rb) p q h w =
    of_pair-alike w (λ s t. and_then (judge p a s) (λ u. and_then (judge p b t) (λ v. good (pair_type u v)))) (λ s t. and_then (judge q c s) (λ u. and_then (judge q d t) (λ v. good (pair_type u v))))
    (λ s t. then_alike (λ u. and_then (judge p b t) (λ v. good (pair_type u v))) (λ u. and_then (judge q d t) (λ v. good (pair_type u v))) (judge_renamed ra p q h s)
    (λ u. then_alike (λ v. good (pair_type u v)) (λ v. good (pair_type u v)) (judge_renamed rb p q h t) (λ v. alike_good)))
judge_renamed (renamed_first ra) p q h w =
    then_alike (λ k. in_pair k (λ s t. found w s)) (λ k. in_pair k (λ s t. found w s)) (judge_renamed ra p q h None) (λ k. in_pair-alike k (λ s t. found w s) (λ s t. found_alike w s))
judge_renamed (renamed_second ra) p q h w =
    then_alike (λ k. in_pair k (λ s t. found w t)) (λ k. in_pair k (λ s t. found w t)) (judge_renamed ra p q h None) (λ k. in_pair-alike k (λ s t. found w t) (λ s t. found_alike w t))
judge_renamed (renamed_left {a = a} {c = c} ra) p q h w =
    of_sum-alike w (λ s t. and_then (judge p a (Some s)) (λ u. good (sum_type u t))) (λ s t. and_then (judge q c (Some s)) (λ u. good (sum_type u t)))
    (λ s t. then_alike (λ u. good (sum_type u t)) (λ u. good (sum_type u t)) (judge_renamed ra p q h (Some s)) (λ u. alike_good))
judge_renamed (renamed_right {a = a} {c = c} ra) p q h w =
    of_sum-alike w (λ s t. and_then (judge p a (Some t)) (λ u. good (sum_type s u))) (λ s t. and_then (judge q c (Some t)) (λ u. good (sum_type s u)))
    (λ s t. then_alike (λ u. good (sum_type s u)) (λ u. good (sum_type s u)) (judge_renamed ra p q h (Some t)) (λ u. alike_good))
judge_renamed (renamed_choice {scope = scope} {b = b} {c = c} {e = e} {f = f} {x = x} {y = y} {m = m} {n = n} ra fx rb fy rc) p q h w =
    then_alike (λ k. in_sum k (λ s t. and_then (judge (put x (Some s) p) b w) (λ r. judge (put y (Some t) p) c (Some r)))) (λ k. in_sum k (λ s t. and_then (judge (put m (Some s) q) e w) (λ r. judge (put n (Some t) q) f (Some r)))) (judge_renamed ra p q h None)
    (λ k. in_sum-alike k (λ s t. and_then (judge (put x (Some s) p) b w) (λ r. judge (put y (Some t) p) c (Some r))) (λ s t. and_then (judge (put m (Some s) q) e w) (λ r. judge (put n (Some t) q) f (Some r)))
    (λ s t. then_alike (λ r. judge (put y (Some t) p) c (Some r)) (λ r. judge (put n (Some t) q) f (Some r))
    (outward x m s (judge_renamed rb (put x (Some s) p) (put m (Some s) q) (agree_under scope x m (Some s) p q h fx) w))
    (λ r. outward y n t (judge_renamed rc (put y (Some t) p) (put n (Some t) q) (agree_under scope y n (Some t) p q h fy) (Some r)))))
judge_renamed renamed_nil p q h w = of_list-alike w list_type
judge_renamed (renamed_cons {a = a} {b = b} {c = c} {d = d} ra rb) p q h w =
    of_items-alike w (λ s. and_then (judge p a s) (λ u. judge p b (Some (list_type u)))) (λ s. and_then (judge q c s) (λ u. judge q d (Some (list_type u))))
    (λ s. then_alike (λ u. judge p b (Some (list_type u))) (λ u. judge q d (Some (list_type u))) (judge_renamed ra p q h s) (λ u. judge_renamed rb p q h (Some (list_type u))))
judge_renamed (renamed_fold {scope = scope} {b = b} {c = c} {e = e} {f = f} {x = x} {y = y} {m = m} {n = n} ra rb fx fy rc) p q h w =
    then_alike (λ k. in_list k (λ s. and_then (judge p b w) (λ r. judge (put y (Some s) (put x (Some r) p)) c (Some r)))) (λ k. in_list k (λ s. and_then (judge q e w) (λ r. judge (put n (Some s) (put m (Some r) q)) f (Some r)))) (judge_renamed ra p q h None)
    (λ k. in_list-alike k (λ s. and_then (judge p b w) (λ r. judge (put y (Some s) (put x (Some r) p)) c (Some r))) (λ s. and_then (judge q e w) (λ r. judge (put n (Some s) (put m (Some r) q)) f (Some r)))
    (λ s. then_alike (λ r. judge (put y (Some s) (put x (Some r) p)) c (Some r)) (λ r. judge (put n (Some s) (put m (Some r) q)) f (Some r)) (judge_renamed rb p q h w)
    (λ r. outward x m r
    (outward y n s
    (judge_renamed rc (put y (Some s) (put x (Some r) p)) (put n (Some s) (put m (Some r) q))
    (agree_under (put x (Some m) scope) y n (Some s) (put x (Some r) p) (put m (Some r) q) (agree_under scope x m (Some r) p q h fx) fy) (Some r))))))

pub value_of_renaming : ValueOfRenaming
value_of_renaming scope e f r p q h = value_renamed r p q h

pub judge_of_renaming : JudgeOfRenaming
judge_of_renaming scope e f r p q h w = judge_renamed r p q h w

-- a type that one of the two is judged to have the other is judged to have
good_alike : {scope : ℕ → Option ℕ} {p : ℕ → Option HistType} {j k : Judged} (t : HistType) → IsJudgedAlike scope p j k → (j ≡ good t) ↔ (k ≡ good t)
good_alike t alike_good = (λ h. h, λ h. h)
good_alike t (alike_unbound k e) = (λ h. absurd (bad_no h), λ h. absurd (bad_no h))
good_alike t alike_mismatch = (λ h. h, λ h. h)
good_alike t alike_needs_type = (λ h. h, λ h. h)

pub gives_of_renaming : GivesOfRenaming
gives_of_renaming scope e f r p q h w t =
    let alike = good_alike t (judge_renamed r p q h w) in
    (λ g. given q f w t (alike.0 (judged g)), λ g. given p e w t (alike.1 (judged g)))
