-- An expression is judged to have a type exactly where the rules give it that type.
use Rattle.std.proofs.Common.{◌≡◌, ℕ, Bool, true, false, refl, sym, ap, ap₂, ◌∙◌, subst}
use Rattle.std.specs.Prelude.{Option, Some, None, if◌then◌else◌, ⊤}
use Rattle.hist_value.specs.HistType.{HistType, unit_type, int_type, pair_type, sum_type, list_type, same_type}
use Rattle.hist_value.specs.HistExpr.{HistExpr, variable, literal, unit_expr, reckoned, pair_expr, first_expr, second_expr, left_expr, right_expr, choice, nil_expr, cons_expr, fold_expr}
use Rattle.bunch.specs.Names.{put}
use Rattle.bunch.proofs.Tests.{and_first, and_second}
use Rattle.hist_value.specs.Typing.{type_of_op, Agrees, Gives, gives_variable, gives_literal, gives_unit, gives_reckoned, gives_pair, gives_wanted_pair, gives_first, gives_second, gives_left, gives_right, gives_choice, gives_nil, gives_cons, gives_wanted_cons, gives_fold}
use Rattle.hist_value.specs.Refusal.{HistRefusal, mismatch}
use Rattle.hist_value.specs.Judge.{Judged, good, bad, and_then, at_name, found, in_pair, in_sum, in_list, judge}
use Rattle.hist_value.specs.Laws.{JudgeIsGives, GivesAtMostOne, GivesWhatIsWanted}

pub same_type_itself : (t : HistType) → same_type t t ≡ true
same_type_itself unit_type = refl
same_type_itself int_type = refl
same_type_itself (pair_type s t) = cc (same_type_itself s, same_type_itself t)
same_type_itself (sum_type s t) = cc (same_type_itself s, same_type_itself t)
same_type_itself (list_type s) = same_type_itself s

pub same_type_is : (s t : HistType) → same_type s t ≡ true → s ≡ t
same_type_is unit_type unit_type h = refl
same_type_is int_type int_type h = refl
same_type_is (pair_type s t) (pair_type u v) h = ap₂ pair_type (same_type_is s u (and_first (same_type s u) (same_type t v) h)) (same_type_is t v (and_second (same_type s u) (same_type t v) h))
same_type_is (sum_type s t) (sum_type u v) h = ap₂ sum_type (same_type_is s u (and_first (same_type s u) (same_type t v) h)) (same_type_is t v (and_second (same_type s u) (same_type t v) h))
same_type_is (list_type s) (list_type u) h = ap list_type (same_type_is s u h)
same_type_is _ _ h = absurd (cc h)

-- the type of what is judged good
abbrev type_in : HistType → Judged → HistType
type_in d (good t) = t
type_in d (bad r) = d

pub good_is : {s t : HistType} → good s ≡ good t → s ≡ t
good_is {s = s} e = ap (type_in s) e

abbrev is_good : Judged → Type 0
is_good (good t) = ⊤
is_good (bad r) = ⊥

pub bad_no : {r : HistRefusal} {t : HistType} → bad r ≡ good t → ⊥
bad_no e = subst is_good (sym e) tt

-- a type that the rules give is the wanted one
pub gives_wanted : {env : ℕ → Option HistType} {e : HistExpr} {w : Option HistType} {t : HistType} → Gives env e w t → Agrees w t
gives_wanted (gives_variable k a) = a
gives_wanted (gives_literal a) = a
gives_wanted (gives_unit a) = a
gives_wanted (gives_reckoned h k a) = a
gives_wanted (gives_pair h k) = tt
gives_wanted (gives_wanted_pair h k) = refl
gives_wanted (gives_first h a) = a
gives_wanted (gives_second h a) = a
gives_wanted (gives_left h) = refl
gives_wanted (gives_right h) = refl
gives_wanted (gives_choice h k l) = gives_wanted k
gives_wanted gives_nil = refl
gives_wanted (gives_cons h k) = tt
gives_wanted (gives_wanted_cons h k) = refl
gives_wanted (gives_fold h k l) = gives_wanted k

found_good : (w : Option HistType) (t : HistType) → Agrees w t → found w t ≡ good t
found_good None t a = refl
found_good (Some s) t a = subst (λ u. found (Some s) u ≡ good u) a (ap (λ b. if b then good s else bad (mismatch (Some s) (Some s))) (same_type_itself s))

then_is : {m : Judged} {t : HistType} (f : HistType → Judged) → m ≡ good t → and_then m f ≡ f t
then_is f e = ap (λ n. and_then n f) e

-- what the rules give is judged
pub judged : {env : ℕ → Option HistType} {e : HistExpr} {w : Option HistType} {t : HistType} → Gives env e w t → judge env e w ≡ good t
judged (gives_variable {x = x} {w = w} {t = t} k a) = then_is (λ u. found w u) (ap (at_name x) k) ∙ found_good w t a
judged (gives_literal {w = w} a) = found_good w int_type a
judged (gives_unit {w = w} a) = found_good w unit_type a
judged (gives_reckoned {env = env} {o = o} {a = a} {b = b} {w = w} h k g) =
    then_is (λ t. and_then (judge env a (Some int_type)) (λ _. and_then (judge env b (Some int_type)) (λ _. good t))) (found_good w (type_of_op o) g)
    ∙ then_is (λ _. and_then (judge env b (Some int_type)) (λ _. good (type_of_op o))) (judged h)
    ∙ then_is (λ _. good (type_of_op o)) (judged k)
judged (gives_pair {env = env} {b = b} {s = s} h k) = then_is (λ u. and_then (judge env b None) (λ v. good (pair_type u v))) (judged h) ∙ then_is (λ v. good (pair_type s v)) (judged k)
judged (gives_wanted_pair {env = env} {b = b} {s = s} {t = t} h k) = then_is (λ u. and_then (judge env b (Some t)) (λ v. good (pair_type u v))) (judged h) ∙ then_is (λ v. good (pair_type s v)) (judged k)
judged (gives_first {w = w} {s = s} h a) = then_is (λ p. in_pair p (λ s t. found w s)) (judged h) ∙ found_good w s a
judged (gives_second {w = w} {t = t} h a) = then_is (λ p. in_pair p (λ s t. found w t)) (judged h) ∙ found_good w t a
judged (gives_left {t = t} h) = then_is (λ u. good (sum_type u t)) (judged h)
judged (gives_right {s = s} h) = then_is (λ u. good (sum_type s u)) (judged h)
judged (gives_choice {env = env} {b = b} {c = c} {x = x} {y = y} {w = w} {t = t} h k l) =
    then_is (λ p. in_sum p (λ s t. and_then (judge (put x (Some s) env) b w) (λ r. judge (put y (Some t) env) c (Some r)))) (judged h)
    ∙ then_is (λ r. judge (put y (Some t) env) c (Some r)) (judged k)
    ∙ judged l
judged gives_nil = refl
judged (gives_cons {env = env} {b = b} h k) = then_is (λ u. judge env b (Some (list_type u))) (judged h) ∙ judged k
judged (gives_wanted_cons {env = env} {b = b} h k) = then_is (λ u. judge env b (Some (list_type u))) (judged h) ∙ judged k
judged (gives_fold {env = env} {i = i} {b = b} {x = x} {y = y} {w = w} {s = s} h k l) =
    then_is (λ p. in_list p (λ s. and_then (judge env i w) (λ r. judge (put y (Some s) (put x (Some r) env)) b (Some r)))) (judged h)
    ∙ then_is (λ r. judge (put y (Some s) (put x (Some r) env)) b (Some r)) (judged k)
    ∙ judged l

-- what a good judgment came from
got : {P : Type 0} (m : Judged) (f : HistType → Judged) (t : HistType) → and_then m f ≡ good t → ((s : HistType) → m ≡ good s → f s ≡ good t → P) → P
got (good s) f t e k = k s refl e
got (bad r) f t e k = absurd (bad_no e)

named : {P : Type 0} (x : ℕ) (o : Option HistType) {t : HistType} → at_name x o ≡ good t → (o ≡ Some t → P) → P
named x (Some s) e k = k (ap Some (good_is e))
named x None e k = absurd (bad_no e)

-- the found type is the answer, and the wanted one
found_is : {P : Type 0} (w : Option HistType) (s t : HistType) → found w s ≡ good t → (s ≡ t → Agrees w t → P) → P
found_is None s t e k = k (good_is e) tt
found_is {P = P} (Some w) s t e k = go (same_type w s) refl e
  where
    go : (b : Bool) → same_type w s ≡ b → (if b then good s else bad (mismatch (Some w) (Some s))) ≡ good t → P
    go true h e = k (good_is e) (same_type_is w s h ∙ good_is e)
    go false h e = absurd (bad_no e)

-- what is judged the rules give
pub given : (env : ℕ → Option HistType) (e : HistExpr) (w : Option HistType) (t : HistType) → judge env e w ≡ good t → Gives env e w t
given env (variable x) w t q =
    got (at_name x (env x)) (λ u. found w u) t q
    (λ s m r. named x (env x) m (λ k. found_is w s t r (λ e a. gives_variable (k ∙ ap Some e) a)))
given env (literal n) w t q = found_is w int_type t q (λ e a. subst (λ u. Gives env (literal n) w u) e (gives_literal (subst (Agrees w) (sym e) a)))
given env unit_expr w t q = found_is w unit_type t q (λ e a. subst (λ u. Gives env unit_expr w u) e (gives_unit (subst (Agrees w) (sym e) a)))
given env (reckoned o a b) w t q =
    got (found w (type_of_op o)) (λ t. and_then (judge env a (Some int_type)) (λ _. and_then (judge env b (Some int_type)) (λ _. good t))) t q
    (λ s m r. got (judge env a (Some int_type)) (λ _. and_then (judge env b (Some int_type)) (λ _. good s)) t r
    (λ ta ma ra. got (judge env b (Some int_type)) (λ _. good s) t ra
    (λ tb mb rb. found_is w (type_of_op o) s m
    (λ e g.
    let ga = given env a (Some int_type) ta ma in
    let gb = given env b (Some int_type) tb mb in
    let ga' : Gives env a (Some int_type) int_type = subst (λ u. Gives env a (Some int_type) u) (sym (gives_wanted ga)) ga in
    let gb' : Gives env b (Some int_type) int_type = subst (λ u. Gives env b (Some int_type) u) (sym (gives_wanted gb)) gb in
    subst (λ u. Gives env (reckoned o a b) w u) (e ∙ good_is rb) (gives_reckoned ga' gb' (subst (Agrees w) (sym e) g))))))
given env (pair_expr a b) None t q =
    got (judge env a None) (λ u. and_then (judge env b None) (λ v. good (pair_type u v))) t q
    (λ u m r. got (judge env b None) (λ v. good (pair_type u v)) t r
    (λ v n l. subst (λ z. Gives env (pair_expr a b) None z) (good_is l) (gives_pair (given env a None u m) (given env b None v n))))
given env (pair_expr a b) (Some (pair_type s s2)) t q =
    got (judge env a (Some s)) (λ u. and_then (judge env b (Some s2)) (λ v. good (pair_type u v))) t q
    (λ u m r. got (judge env b (Some s2)) (λ v. good (pair_type u v)) t r
    (λ v n l.
    let ga = given env a (Some s) u m in
    let gb = given env b (Some s2) v n in
    let ga' : Gives env a (Some s) s = subst (λ z. Gives env a (Some s) z) (sym (gives_wanted ga)) ga in
    let gb' : Gives env b (Some s2) s2 = subst (λ z. Gives env b (Some s2) z) (sym (gives_wanted gb)) gb in
    subst (λ z. Gives env (pair_expr a b) (Some (pair_type s s2)) z) (ap₂ pair_type (gives_wanted ga) (gives_wanted gb) ∙ good_is l) (gives_wanted_pair ga' gb')))
given env (pair_expr a b) (Some unit_type) t q = absurd (bad_no q)
given env (pair_expr a b) (Some int_type) t q = absurd (bad_no q)
given env (pair_expr a b) (Some (sum_type s s2)) t q = absurd (bad_no q)
given env (pair_expr a b) (Some (list_type s)) t q = absurd (bad_no q)
given env (first_expr a) w t q =
    got (judge env a None) (λ p. in_pair p (λ s t. found w s)) t q
    (λ p m r. in_first p (given env a None p m) r)
  where
    in_first : (p : HistType) → Gives env a None p → in_pair p (λ s t. found w s) ≡ good t → Gives env (first_expr a) w t
    in_first (pair_type s s2) g r = found_is w s t r (λ e k. subst (λ z. Gives env (first_expr a) w z) e (gives_first g (subst (Agrees w) (sym e) k)))
    in_first unit_type g r = absurd (bad_no r)
    in_first int_type g r = absurd (bad_no r)
    in_first (sum_type s s2) g r = absurd (bad_no r)
    in_first (list_type s) g r = absurd (bad_no r)
given env (second_expr a) w t q =
    got (judge env a None) (λ p. in_pair p (λ s t. found w t)) t q
    (λ p m r. in_second p (given env a None p m) r)
  where
    in_second : (p : HistType) → Gives env a None p → in_pair p (λ s t. found w t) ≡ good t → Gives env (second_expr a) w t
    in_second (pair_type s s2) g r = found_is w s2 t r (λ e k. subst (λ z. Gives env (second_expr a) w z) e (gives_second g (subst (Agrees w) (sym e) k)))
    in_second unit_type g r = absurd (bad_no r)
    in_second int_type g r = absurd (bad_no r)
    in_second (sum_type s s2) g r = absurd (bad_no r)
    in_second (list_type s) g r = absurd (bad_no r)
given env (left_expr a) (Some (sum_type s s2)) t q =
    got (judge env a (Some s)) (λ u. good (sum_type u s2)) t q
    (λ u m r.
    let g = given env a (Some s) u m in
    let g' : Gives env a (Some s) s = subst (λ z. Gives env a (Some s) z) (sym (gives_wanted g)) g in
    subst (λ z. Gives env (left_expr a) (Some (sum_type s s2)) z) (ap (λ z. sum_type z s2) (gives_wanted g) ∙ good_is r) (gives_left g'))
given env (left_expr a) None t q = absurd (bad_no q)
given env (left_expr a) (Some unit_type) t q = absurd (bad_no q)
given env (left_expr a) (Some int_type) t q = absurd (bad_no q)
given env (left_expr a) (Some (pair_type s s2)) t q = absurd (bad_no q)
given env (left_expr a) (Some (list_type s)) t q = absurd (bad_no q)
given env (right_expr a) (Some (sum_type s s2)) t q =
    got (judge env a (Some s2)) (λ u. good (sum_type s u)) t q
    (λ u m r.
    let g = given env a (Some s2) u m in
    let g' : Gives env a (Some s2) s2 = subst (λ z. Gives env a (Some s2) z) (sym (gives_wanted g)) g in
    subst (λ z. Gives env (right_expr a) (Some (sum_type s s2)) z) (ap (λ z. sum_type s z) (gives_wanted g) ∙ good_is r) (gives_right g'))
given env (right_expr a) None t q = absurd (bad_no q)
given env (right_expr a) (Some unit_type) t q = absurd (bad_no q)
given env (right_expr a) (Some int_type) t q = absurd (bad_no q)
given env (right_expr a) (Some (pair_type s s2)) t q = absurd (bad_no q)
given env (right_expr a) (Some (list_type s)) t q = absurd (bad_no q)
given env (choice a x b y c) w t q =
    got (judge env a None) (λ p. in_sum p (λ s s2. and_then (judge (put x (Some s) env) b w) (λ r. judge (put y (Some s2) env) c (Some r)))) t q
    (λ p m r. go p (given env a None p m) (λ s u k. given (put x (Some s) env) b w u k) (λ s u k. given (put y (Some s) env) c (Some u) t k) r)
  where
    go : (p : HistType)
        → Gives env a None p
        → ((s u : HistType) → judge (put x (Some s) env) b w ≡ good u → Gives (put x (Some s) env) b w u)
        → ((s u : HistType) → judge (put y (Some s) env) c (Some u) ≡ good t → Gives (put y (Some s) env) c (Some u) t)
        → in_sum p (λ s s2. and_then (judge (put x (Some s) env) b w) (λ r. judge (put y (Some s2) env) c (Some r))) ≡ good t
        → Gives env (choice a x b y c) w t
    go (sum_type s s2) g hb hc r =
        got (judge (put x (Some s) env) b w) (λ u. judge (put y (Some s2) env) c (Some u)) t r
        (λ u m l.
        let gc = hc s2 u l in
        let e : u ≡ t = gives_wanted gc in
        let gb : Gives (put x (Some s) env) b w t = subst (λ z. Gives (put x (Some s) env) b w z) e (hb s u m) in
        let gc' : Gives (put y (Some s2) env) c (Some t) t = subst (λ z. Gives (put y (Some s2) env) c (Some z) t) e gc in
        gives_choice g gb gc')
    go unit_type g hb hc r = absurd (bad_no r)
    go int_type g hb hc r = absurd (bad_no r)
    go (pair_type s s2) g hb hc r = absurd (bad_no r)
    go (list_type s) g hb hc r = absurd (bad_no r)
given env nil_expr (Some (list_type s)) t q = subst (λ z. Gives env nil_expr (Some (list_type s)) z) (good_is q) gives_nil
given env nil_expr None t q = absurd (bad_no q)
given env nil_expr (Some unit_type) t q = absurd (bad_no q)
given env nil_expr (Some int_type) t q = absurd (bad_no q)
given env nil_expr (Some (pair_type s s2)) t q = absurd (bad_no q)
given env nil_expr (Some (sum_type s s2)) t q = absurd (bad_no q)
given env (cons_expr a b) None t q =
    got (judge env a None) (λ u. judge env b (Some (list_type u))) t q
    (λ u m r.
    let g = given env b (Some (list_type u)) t r in
    let e : list_type u ≡ t = gives_wanted g in
    subst (λ z. Gives env (cons_expr a b) None z) e (gives_cons (given env a None u m) (subst (λ z. Gives env b (Some (list_type u)) z) (sym e) g)))
given env (cons_expr a b) (Some (list_type s)) t q =
    got (judge env a (Some s)) (λ u. judge env b (Some (list_type u))) t q
    (λ u m r.
    let ga = given env a (Some s) u m in
    let es : s ≡ u = gives_wanted ga in
    let gb = given env b (Some (list_type u)) t r in
    let e : list_type u ≡ t = gives_wanted gb in
    let gb' : Gives env b (Some (list_type u)) (list_type u) = subst (λ z. Gives env b (Some (list_type u)) z) (sym e) gb in
    let ga' : Gives env a (Some s) s = subst (λ z. Gives env a (Some s) z) (sym es) ga in
    let gc : Gives env b (Some (list_type s)) (list_type s) = subst (λ z. Gives env b (Some (list_type z)) (list_type z)) (sym es) gb' in
    subst (λ z. Gives env (cons_expr a b) (Some (list_type s)) z) (ap list_type es ∙ e) (gives_wanted_cons ga' gc))
given env (cons_expr a b) (Some unit_type) t q = absurd (bad_no q)
given env (cons_expr a b) (Some int_type) t q = absurd (bad_no q)
given env (cons_expr a b) (Some (pair_type s s2)) t q = absurd (bad_no q)
given env (cons_expr a b) (Some (sum_type s s2)) t q = absurd (bad_no q)
given env (fold_expr a i x y b) w t q =
    got (judge env a None) (λ p. in_list p (λ s. and_then (judge env i w) (λ r. judge (put y (Some s) (put x (Some r) env)) b (Some r)))) t q
    (λ p m r. go p (given env a None p m) (λ u k. given env i w u k) (λ s u k. given (put y (Some s) (put x (Some u) env)) b (Some u) t k) r)
  where
    go : (p : HistType)
        → Gives env a None p
        → ((u : HistType) → judge env i w ≡ good u → Gives env i w u)
        → ((s u : HistType) → judge (put y (Some s) (put x (Some u) env)) b (Some u) ≡ good t → Gives (put y (Some s) (put x (Some u) env)) b (Some u) t)
        → in_list p (λ s. and_then (judge env i w) (λ r. judge (put y (Some s) (put x (Some r) env)) b (Some r))) ≡ good t
        → Gives env (fold_expr a i x y b) w t
    go (list_type s) g hi hb r =
        got (judge env i w) (λ u. judge (put y (Some s) (put x (Some u) env)) b (Some u)) t r
        (λ u m l.
        let gb = hb s u l in
        let e : u ≡ t = gives_wanted gb in
        let gi : Gives env i w t = subst (λ z. Gives env i w z) e (hi u m) in
        let gb' : Gives (put y (Some s) (put x (Some t) env)) b (Some t) t = subst (λ z. Gives (put y (Some s) (put x (Some z) env)) b (Some z) t) e gb in
        gives_fold g gi gb')
    go unit_type g hi hb r = absurd (bad_no r)
    go int_type g hi hb r = absurd (bad_no r)
    go (pair_type s s2) g hi hb r = absurd (bad_no r)
    go (sum_type s s2) g hi hb r = absurd (bad_no r)

pub judge_is_gives : JudgeIsGives
judge_is_gives env e w t = (given env e w t, λ h. judged h)

pub gives_at_most_one : GivesAtMostOne
gives_at_most_one env e w t u h k = good_is (sym (judged h) ∙ judged k)

pub gives_what_is_wanted : GivesWhatIsWanted
gives_what_is_wanted env e w t h = gives_wanted h
