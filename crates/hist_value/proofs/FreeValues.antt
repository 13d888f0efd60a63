-- The value of an expression depends on its free names alone.
use Rattle.std.proofs.Common.{◌≡◌, ℕ, ◌==◌, Bool, true, false, not, ◌&&◌, ◌||◌, refl, ap, ap₂, ◌∙◌, arith}
use Rattle.std.specs.Prelude.{if◌then◌else◌}
use Rattle.std.proofs.lemmas.Bool.{or_left, or_right}
use Rattle.hist_value.specs.HistValue.{HistValue, pair_of, left_of, right_of, item_before}
use Rattle.hist_value.specs.HistExpr.{HistExpr, variable, literal, unit_expr, reckoned, pair_expr, first_expr, second_expr, left_expr, right_expr, choice, nil_expr, cons_expr, fold_expr}
use Rattle.bunch.specs.Names.{put}
use Rattle.hist_value.specs.Evaluate.{value, reckon_values, first_of, second_of, choose, cons_of, gather}
use Rattle.hist_value.specs.FreeNames.{is_free}
use Rattle.hist_value.specs.Laws.{ValueOfFreeNames}

-- where the test holds, the two environments have the same
abbrev pub Same : {A : Type 0} → (ℕ → Bool) → (ℕ → A) → (ℕ → A) → Type 0
Same test p q = (z : ℕ) → test z ≡ true → p z ≡ q z

-- under a bound name
pick : {A : Type 0} (b c : Bool) (v p q : A) → ((not b && c) ≡ true → p ≡ q) → c ≡ true → (if b then v else p) ≡ (if b then v else q)
pick true c v p q h k = refl
pick false c v p q h k = h k

pub under : {A : Type 0} (test : ℕ → Bool) (x : ℕ) (v : A) (p q : ℕ → A) → Same (λ z. not (z == x) && test z) p q → Same test (put x v p) (put x v q)
under test x v p q h z k = pick (z == x) (test z) v (p z) (q z) (h z) k

pub choose-same : (f f2 g g2 : HistValue → HistValue) (v : HistValue) → ((w : HistValue) → f w ≡ f2 w) → ((w : HistValue) → g w ≡ g2 w) → choose f g v ≡ choose f2 g2 v
choose-same f f2 g g2 (left_of v) h k = h v
choose-same f f2 g g2 (right_of v) h k = k v
choose-same f f2 g g2 _ h k = refl

pub gather-same : (f f2 : HistValue → HistValue → HistValue) → ((g w : HistValue) → f g w ≡ f2 g w) → (g v : HistValue) → gather f g v ≡ gather f2 g v
gather-same f f2 h g (item_before v w) = gather-same f f2 h (f g v) w ∙ ap (λ u. gather f2 u w) (h g v)
gather-same f f2 h g _ = refl

pub self_equal : (x : ℕ) → (x == x) ≡ true
self_equal x = grind arith

same : (e : HistExpr) (p q : ℕ → HistValue) → Same (λ z. is_free z e) p q → value e p ≡ value e q
same (variable x) p q h = h x (self_equal x)
same (literal n) p q h = refl
same unit_expr p q h = refl
same (reckoned o a b) p q h = ap₂ (reckon_values o) (same a p q (λ z k. h z (or_left (is_free z a) (is_free z b) k))) (same b p q (λ z k. h z (or_right (is_free z a) (is_free z b) k)))
same (pair_expr a b) p q h = ap₂ pair_of (same a p q (λ z k. h z (or_left (is_free z a) (is_free z b) k))) (same b p q (λ z k. h z (or_right (is_free z a) (is_free z b) k)))
same (first_expr a) p q h = ap first_of (same a p q h)
same (second_expr a) p q h = ap second_of (same a p q h)
same (left_expr a) p q h = ap left_of (same a p q h)
same (right_expr a) p q h = ap right_of (same a p q h)
same (choice a x b y c) p q h =
    let ha : Same (λ z. is_free z a) p q = λ z k. h z (or_left (is_free z a) ((not (z == x) && is_free z b) || (not (z == y) && is_free z c)) k) in
    let hb : Same (λ z. not (z == x) && is_free z b) p q = λ z k. h z (or_right (is_free z a) ((not (z == x) && is_free z b) || (not (z == y) && is_free z c)) (or_left (not (z == x) && is_free z b) (not (z == y) && is_free z c) k)) in
    let hc : Same (λ z. not (z == y) && is_free z c) p q = λ z k. h z (or_right (is_free z a) ((not (z == x) && is_free z b) || (not (z == y) && is_free z c)) (or_right (not (z == x) && is_free z b) (not (z == y) && is_free z c) k)) in
    ap (choose (λ v. value b (put x v p)) (λ v. value c (put y v p))) (same a p q ha)
    ∙ choose-same (λ v. value b (put x v p)) (λ v. value b (put x v q)) (λ v. value c (put y v p)) (λ v. value c (put y v q)) (value a q)
    (λ w. same b (put x w p) (put x w q) (under (λ z. is_free z b) x w p q hb))
    (λ w. same c (put y w p) (put y w q) (under (λ z. is_free z c) y w p q hc))
same nil_expr p q h = refl
same (cons_expr a b) p q h = ap₂ cons_of (same a p q (λ z k. h z (or_left (is_free z a) (is_free z b) k))) (same b p q (λ z k. h z (or_right (is_free z a) (is_free z b) k)))
same (fold_expr a s x y b) p q h =
    let ha : Same (λ z. is_free z a) p q = λ z k. h z (or_left (is_free z a) (is_free z s || (not (z == x) && (not (z == y) && is_free z b))) k) in
    let hs : Same (λ z. is_free z s) p q = λ z k. h z (or_right (is_free z a) (is_free z s || (not (z == x) && (not (z == y) && is_free z b))) (or_left (is_free z s) (not (z == x) && (not (z == y) && is_free z b)) k)) in
    let hb : Same (λ z. not (z == x) && (not (z == y) && is_free z b)) p q = λ z k. h z (or_right (is_free z a) (is_free z s || (not (z == x) && (not (z == y) && is_free z b))) (or_right (is_free z s) (not (z == x) && (not (z == y) && is_free z b)) k)) in
    ap₂ (gather (λ g v. value b (put y v (put x g p)))) (same s p q hs) (same a p q ha)
    ∙ gather-same (λ g v. value b (put y v (put x g p))) (λ g v. value b (put y v (put x g q)))
    (λ g v. same b (put y v (put x g p)) (put y v (put x g q)) (under (λ z. is_free z b) y v (put x g p) (put x g q) (under (λ z. not (z == y) && is_free z b) x g p q hb)))
    (value s q) (value a q)

pub value_of_free_names : ValueOfFreeNames
value_of_free_names e p q h = same e p q h
