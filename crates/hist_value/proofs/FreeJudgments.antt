-- What is judged of an expression depends on the types of its free names alone.
use Rattle.std.proofs.Common.{◌≡◌, ℕ, ◌==◌, not, ◌&&◌, ◌||◌, refl, ap, ◌∙◌}
use Rattle.std.specs.Prelude.{Option, Some, None}
use Rattle.std.proofs.lemmas.Bool.{or_left, or_right}
use Rattle.hist_value.specs.HistType.{HistType, unit_type, int_type, pair_type, sum_type, list_type}
use Rattle.hist_value.specs.HistExpr.{HistExpr, variable, literal, unit_expr, reckoned, pair_expr, first_expr, second_expr, left_expr, right_expr, choice, nil_expr, cons_expr, fold_expr}
use Rattle.bunch.specs.Names.{put}
use Rattle.hist_value.specs.Typing.{type_of_op}
use Rattle.hist_value.specs.Judge.{Judged, good, bad, and_then, at_name, found, of_pair, of_sum, of_items, in_pair, in_sum, in_list, judge}
use Rattle.hist_value.specs.FreeNames.{is_free}
use Rattle.hist_value.specs.Laws.{JudgeOfFreeNames}
use Rattle.hist_value.proofs.FreeValues.{Same, under, self_equal}

-- the steps of a judgment, part by part
then_same : (m n : Judged) (f g : HistType → Judged) → m ≡ n → ((t : HistType) → f t ≡ g t) → and_then m f ≡ and_then n g
then_same m n f g e h = ap (λ k. and_then k f) e ∙ go n
  where
    go : (n : Judged) → and_then n f ≡ and_then n g
    go (good t) = h t
    go (bad r) = refl

of_pair-same : (w : Option HistType) (f g : Option HistType → Option HistType → Judged) → ((s t : Option HistType) → f s t ≡ g s t) → of_pair w f ≡ of_pair w g
of_pair-same None f g h = h None None
of_pair-same (Some (pair_type s t)) f g h = h (Some s) (Some t)
of_pair-same (Some unit_type) f g h = refl
of_pair-same (Some int_type) f g h = refl
of_pair-same (Some (sum_type s t)) f g h = refl
of_pair-same (Some (list_type s)) f g h = refl

of_sum-same : (w : Option HistType) (f g : HistType → HistType → Judged) → ((s t : HistType) → f s t ≡ g s t) → of_sum w f ≡ of_sum w g
of_sum-same None f g h = refl
of_sum-same (Some (sum_type s t)) f g h = h s t
of_sum-same (Some unit_type) f g h = refl
of_sum-same (Some int_type) f g h = refl
of_sum-same (Some (pair_type s t)) f g h = refl
of_sum-same (Some (list_type s)) f g h = refl

of_items-same : (w : Option HistType) (f g : Option HistType → Judged) → ((s : Option HistType) → f s ≡ g s) → of_items w f ≡ of_items w g
of_items-same None f g h = h None
of_items-same (Some (list_type s)) f g h = h (Some s)
of_items-same (Some unit_type) f g h = refl
of_items-same (Some int_type) f g h = refl
of_items-same (Some (pair_type s t)) f g h = refl
of_items-same (Some (sum_type s t)) f g h = refl

in_sum-same : (p : HistType) (f g : HistType → HistType → Judged) → ((s t : HistType) → f s t ≡ g s t) → in_sum p f ≡ in_sum p g
in_sum-same (sum_type s t) f g h = h s t
in_sum-same unit_type f g h = refl
in_sum-same int_type f g h = refl
in_sum-same (pair_type s t) f g h = refl
in_sum-same (list_type s) f g h = refl

in_list-same : (p : HistType) (f g : HistType → Judged) → ((s : HistType) → f s ≡ g s) → in_list p f ≡ in_list p g
in_list-same (list_type s) f g h = h s
in_list-same unit_type f g h = refl
in_list-same int_type f g h = refl
in_list-same (pair_type s t) f g h = refl
in_list-same (sum_type s t) f g h = refl

same : (e : HistExpr) (p q : ℕ → Option HistType) → Same (λ z. is_free z e) p q → (w : Option HistType) → judge p e w ≡ judge q e w
same (variable x) p q h w = ap (λ o. and_then (at_name x o) (λ t. found w t)) (h x (self_equal x))
same (literal n) p q h w = refl
same unit_expr p q h w = refl
same (reckoned o a b) p q h w =
    let ha : Same (λ z. is_free z a) p q = λ z k. h z (or_left (is_free z a) (is_free z b) k) in
    let hb : Same (λ z. is_free z b) p q = λ z k. h z (or_right (is_free z a) (is_free z b) k) in
    then_same (found w (type_of_op o)) (found w (type_of_op o)) (λ t. and_then (judge p a (Some int_type)) (λ _. and_then (judge p b (Some int_type)) (λ _. good t))) (λ t. and_then (judge q a (Some int_type)) (λ _. and_then (judge q b (Some int_type)) (λ _. good t))) refl
    (λ t. then_same (judge p a (Some int_type)) (judge q a (Some int_type)) (λ _. and_then (judge p b (Some int_type)) (λ _. good t)) (λ _. and_then (judge q b (Some int_type)) (λ _. good t)) (same a p q ha (Some int_type))
    (λ _. ap (λ m. and_then m (λ _. good t)) (same b p q hb (Some int_type))))
same (pair_expr a b) p q h w =
    let ha : Same (λ z. is_free z a) p q = λ z k. h z (or_left (is_free z a) (is_free z b) k) in
    let hb : Same (λ z. is_free z b) p q = λ z k. h z (or_right (is_free z a) (is_free z b) k) in
    of_pair-same w (λ s t. and_then (judge p a s) (λ u. and_then (judge p b t) (λ v. good (pair_type u v)))) (λ s t. and_then (judge q a s) (λ u. and_then (judge q b t) (λ v. good (pair_type u v))))
    (λ s t. then_same (judge p a s) (judge q a s) (λ u. and_then (judge p b t) (λ v. good (pair_type u v))) (λ u. and_then (judge q b t) (λ v. good (pair_type u v))) (same a p q ha s)
    (λ u. ap (λ m. and_then m (λ v. good (pair_type u v))) (same b p q hb t)))
same (first_expr a) p q h w = ap (λ m. and_then m (λ p. in_pair p (λ s t. found w s))) (same a p q h None)
same (second_expr a) p q h w = ap (λ m. and_then m (λ p. in_pair p (λ s t. found w t))) (same a p q h None)
same (left_expr a) p q h w =
    of_sum-same w (λ s t. and_then (judge p a (Some s)) (λ u. good (sum_type u t))) (λ s t. and_then (judge q a (Some s)) (λ u. good (sum_type u t)))
    (λ s t. ap (λ m. and_then m (λ u. good (sum_type u t))) (same a p q h (Some s)))
same (right_expr a) p q h w =
    of_sum-same w (λ s t. and_then (judge p a (Some t)) (λ u. good (sum_type s u))) (λ s t. and_then (judge q a (Some t)) (λ u. good (sum_type s u)))
    (λ s t. ap (λ m. and_then m (λ u. good (sum_type s u))) (same a p q h (Some t)))
same (choice a x b y c) p q h w =
    let ha : Same (λ z. is_free z a) p q = λ z k. h z (or_left (is_free z a) ((not (z == x) && is_free z b) || (not (z == y) && is_free z c)) k) in
    let hb : Same (λ z. not (z == x) && is_free z b) p q = λ z k. h z (or_right (is_free z a) ((not (z == x) && is_free z b) || (not (z == y) && is_free z c)) (or_left (not (z == x) && is_free z b) (not (z == y) && is_free z c) k)) in
    let hc : Same (λ z. not (z == y) && is_free z c) p q = λ z k. h z (or_right (is_free z a) ((not (z == x) && is_free z b) || (not (z == y) && is_free z c)) (or_right (not (z == x) && is_free z b) (not (z == y) && is_free z c) k)) in
    then_same (judge p a None) (judge q a None) (λ k. in_sum k (λ s t. and_then (judge (put x (Some s) p) b w) (λ r. judge (put y (Some t) p) c (Some r)))) (λ k. in_sum k (λ s t. and_then (judge (put x (Some s) q) b w) (λ r. judge (put y (Some t) q) c (Some r))))
    (same a p q ha None)
    (λ k. in_sum-same k (λ s t. and_then (judge (put x (Some s) p) b w) (λ r. judge (put y (Some t) p) c (Some r))) (λ s t. and_then (judge (put x (Some s) q) b w) (λ r. judge (put y (Some t) q) c (Some r)))
    (λ s t. then_same (judge (put x (Some s) p) b w) (judge (put x (Some s) q) b w) (λ r. judge (put y (Some t) p) c (Some r)) (λ r. judge (put y (Some t) q) c (Some r))
    (same b (put x (Some s) p) (put x (Some s) q) (under (λ z. is_free z b) x (Some s) p q hb) w)
    (λ r. same c (put y (Some t) p) (put y (Some t) q) (under (λ z. is_free z c) y (Some t) p q hc) (Some r))))
same nil_expr p q h w = refl
same (cons_expr a b) p q h w =
    let ha : Same (λ z. is_free z a) p q = λ z k. h z (or_left (is_free z a) (is_free z b) k) in
    let hb : Same (λ z. is_free z b) p q = λ z k. h z (or_right (is_free z a) (is_free z b) k) in
    of_items-same w (λ s. and_then (judge p a s) (λ u. judge p b (Some (list_type u)))) (λ s. and_then (judge q a s) (λ u. judge q b (Some (list_type u))))
    (λ s. then_same (judge p a s) (judge q a s) (λ u. judge p b (Some (list_type u))) (λ u. judge q b (Some (list_type u))) (same a p q ha s) (λ u. same b p q hb (Some (list_type u))))
same (fold_expr a i x y b) p q h w =
    let ha : Same (λ z. is_free z a) p q = λ z k. h z (or_left (is_free z a) (is_free z i || (not (z == x) && (not (z == y) && is_free z b))) k) in
    let hi : Same (λ z. is_free z i) p q = λ z k. h z (or_right (is_free z a) (is_free z i || (not (z == x) && (not (z == y) && is_free z b))) (or_left (is_free z i) (not (z == x) && (not (z == y) && is_free z b)) k)) in
    let hb : Same (λ z. not (z == x) && (not (z == y) && is_free z b)) p q = λ z k. h z (or_right (is_free z a) (is_free z i || (not (z == x) && (not (z == y) && is_free z b))) (or_right (is_free z i) (not (z == x) && (not (z == y) && is_free z b)) k)) in
    then_same (judge p a None) (judge q a None) (λ k. in_list k (λ s. and_then (judge p i w) (λ r. judge (put y (Some s) (put x (Some r) p)) b (Some r)))) (λ k. in_list k (λ s. and_then (judge q i w) (λ r. judge (put y (Some s) (put x (Some r) q)) b (Some r))))
    (same a p q ha None)
    (λ k. in_list-same k (λ s. and_then (judge p i w) (λ r. judge (put y (Some s) (put x (Some r) p)) b (Some r))) (λ s. and_then (judge q i w) (λ r. judge (put y (Some s) (put x (Some r) q)) b (Some r)))
    (λ s. then_same (judge p i w) (judge q i w) (λ r. judge (put y (Some s) (put x (Some r) p)) b (Some r)) (λ r. judge (put y (Some s) (put x (Some r) q)) b (Some r))
    (same i p q hi w)
    (λ r. same b (put y (Some s) (put x (Some r) p)) (put y (Some s) (put x (Some r) q))
    (under (λ z. is_free z b) y (Some s) (put x (Some r) p) (put x (Some r) q) (under (λ z. not (z == y) && is_free z b) x (Some r) p q hb)) (Some r))))

pub judge_of_free_names : JudgeOfFreeNames
judge_of_free_names e p q h w = same e p q h w
