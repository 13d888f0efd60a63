-- Lines that write a derivation have no fault: each claim has one leaf for a name, so the leaf that a rule is about is
-- the one that is found.
use Rattle.std.proofs.Common.{◌≡◌, ◌∙◌, ℕ, suc, Bool, true, false, ◌&&◌, ◌||◌, inl, inr, List, [], ◌∷◌, ◌++◌, length, map, if◌then◌else◌, ap, refl, sym, subst, append_assoc}
use Rattle.std.proofs.lemmas.Bool.{eq-eqb, or_left, or_right, and_from}
use Rattle.std.specs.Prelude.{Option, Some, None, option_map, is_some, not, ◌==◌}
use Rattle.std.proofs.lemmas.List.{length-map}
use Rattle.stream_type.specs.StreamType.{StreamType, par, cat, sum, star, null_of}
use Rattle.bunch.specs.Names.{holds}
use Rattle.bunch.specs.BunchTree.{BunchTree, empty, leaf, comma, semi, leaf_names, IsDistinct}
use Rattle.hist_value.specs.HistType.{past}
use Rattle.hist_value.specs.HistExpr.{HistExpr}
use Rattle.core_term.specs.CoreTerm.{CoreTerm, CoreTerms, CoreBody, var_term, past_term, let_term, let_par_term, let_cat_term, case_sum_term, case_star_term, wait_term, call_term, no_terms, past_types, fun_at, is_there}
use Rattle.core_term.specs.FreeNames.{bound_names, bound_in_terms, bound_in_exprs, is_distinct}
use Rattle.core_term.specs.Inert.{is_inert}
use Rattle.core_term.specs.Parts.{is_same_type}
use Rattle.core_term.specs.Typing.{Context}
use Rattle.core_term.specs.TypeFaults.{found_where, expr_refusal, of_pasts, first_jumpy}
use Rattle.core_term.proofs.Causes.{is_same_type-same}
use Rattle.core_term.proofs.Sides.{holds-head, holds-left, holds-right}
use Rattle.core_term.proofs.Without.{holds-tail}
use Rattle.core_term.proofs.BoundOnce.{not_again, distinct_right, differ}
use Rattle.core_term.proofs.Unbroken.{expr_refusal_is_exact}
use Rattle.bunch_rules.specs.Rearranging.{Turn, Replaces, stays_first}
use Rattle.bunch_rules.specs.Derivation.{Known, hidden, learned}
use Rattle.bunch_rules.specs.Laws.{BindsNew}
use Rattle.bunch_rules.specs.Written.{Line, plain_rule, rule_at, Writes, WritesPassed, WritesShared, nothing_written, shared_lines, empty_lines, leaf_lines, comma_lines, semi_lines, line_of_step, var_line, eps_line, unit_line, nil_line, past_line, par_line, inl_line, inr_line, cat_line, cons_line, let_line, let_par_line, let_cat_line, case_sum_line, case_star_line, wait_line, call_line}
use Rattle.bunch_rules.proofs.Replacing.{part_names, part_distinct, new_names, still_distinct}
use Rattle.bunch_rules.proofs.Steps.{names_kept, distinct_kept}
use Rattle.bunch_rules.proofs.Serving.{step_names}
use Rattle.bunch_rules.proofs.Parts.{beside_distinct, pair_distinct, single_apart, waited_distinct}
use Rattle.bunch_rules.proofs.Derivations.{either, none_in, let_names, beside_names, pair_names, binds_fewer, binds_first, binds_second, binds_tail, binds_below, binds_below_two, let_distinct}
use Rattle.delta_derive.specs.declared.fault.DeriveFault.TheVariants.{BadStep, BadRule}
use Rattle.delta_derive.specs.Rearranged.{then_by, put_at, leaf_type, with_leaf}
use Rattle.delta_derive.specs.Claims.{Claim, claim, below_one, below_two, let_claims, with_claims, shares, all_shared, passes, is_called, call_parts, rule_parts, rule_parts_by}
use Rattle.delta_derive.specs.FirstFault.{judged, first_from}
use Rattle.delta_derive.proofs.Options.{none_some}
use Rattle.delta_derive.proofs.ExactSteps.{rearranged_of}
use Rattle.delta_derive.proofs.Paths.{part_found, part_put}
use Rattle.delta_derive.proofs.OneLeaf.{leaf_found, only_leaf, only_replaced}
use Rattle.delta_derive.proofs.Calls.{pasts_good, still_good}

-- a context without names
nowhere : Context
nowhere = record { types = λ x. None; order = λ x y. false; past = λ x. None }

-- the claims of all parts of a bunch that a rule with a subject leaves, where its leaf is found
leaf_rule : {z : ℕ} {t : StreamType} {e g h : BunchTree} {p : List Turn} → Replaces (leaf z t) e p g h → IsDistinct g → (f : StreamType → Option (List Claim)) → then_by (leaf_type z g) f ≡ f t
leaf_rule k d f = ap (λ o. then_by o f) (only_leaf k d)

module _ (funs : List CoreBody) (counts : ℕ → Bool) where
  -- no line is at fault from here on
  abbrev pub Passes : List Claim → List Line → Type 0
  Passes gs ls = (n : ℕ) → first_from funs counts n gs (map (λ l. Some l) ls) ≡ None

  -- a rule that leaves these claims
  by_rule : (known : Known) (g : BunchTree) (e : CoreTerm) (r : StreamType) (hs gs : List Claim) (ls : List Line) → rule_parts funs counts known g e r ≡ Some hs → Passes (hs ++ gs) ls → Passes (claim known g e r ∷ gs) (plain_rule ∷ ls)
  by_rule known g e r hs gs ls q w n = ap (λ o. judged (BadRule n) o (λ is. first_from funs counts (suc n) (is ++ gs) (map (λ l. Some l) ls))) q ∙ w (suc n)

  by_let : (p : List Turn) (known : Known) (g : BunchTree) (e : CoreTerm) (r : StreamType) (hs gs : List Claim) (ls : List Line) → rule_parts_by funs counts p known g e r ≡ Some hs → Passes (hs ++ gs) ls → Passes (claim known g e r ∷ gs) (rule_at p ∷ ls)
  by_let p known g e r hs gs ls q w n = ap (λ o. judged (BadRule n) o (λ is. first_from funs counts (suc n) (is ++ gs) (map (λ l. Some l) ls))) q ∙ w (suc n)

  is_good_call : (known : Known) (b : CoreBody) (ms : List HistExpr) (es : CoreTerms) (r : StreamType) → b.result ≡ r → (length ms ≡ length (past_types b)) × (of_pasts [] (λ _. false) expr_refusal known ms (past_types b) ≡ None) → first_jumpy funs counts b es ≡ None
      → is_called funs counts known b ms es r ≡ true
  is_good_call known b ms es r q hs w =
      and_from (is_same_type b.result r && (length ms == length b.past)) (not (is_some (of_pasts [] (λ _. false) expr_refusal known ms (past_types b))) && not (is_some (first_jumpy funs counts b es)))
      (and_from (is_same_type b.result r) (length ms == length b.past) (ap (λ t. is_same_type b.result t) (sym q) ∙ is_same_type-same b.result) (eq-eqb (length ms) (length b.past) (hs.0 ∙ length-map b.past (λ e. e.1))))
      (and_from (not (is_some (of_pasts [] (λ _. false) expr_refusal known ms (past_types b)))) (not (is_some (first_jumpy funs counts b es))) (ap (λ o. not (is_some o)) hs.1) (ap (λ o. not (is_some o)) w))

  call_left : (known : Known) (g : BunchTree) (f : ℕ) (ms : List HistExpr) (es : CoreTerms) (r : StreamType) (hs : List Claim) → is_there funs f ≡ true → is_called funs counts known (fun_at funs f) ms es r ≡ true → passes known (fun_at funs f).params g es ≡ Some hs
      → call_parts funs counts known g f ms es r ≡ Some hs
  call_left known g f ms es r hs i c q =
      ap (λ b. if b then passes known (fun_at funs f).params g es else None) (and_from (is_there funs f) (is_called funs counts known (fun_at funs f) ms es r) i c) ∙ q

  -- the claims of arguments, and that no line is at fault where none is behind them
  abbrev pub SharesWell : Known → BunchTree → BunchTree → CoreTerms → CoreTerms → List Line → List Line → Type 0
  SharesWell known params g es fs ls ms = (hs : List Claim) × (shares known params g es ≡ Some (hs, fs)) × ((gs : List Claim) → Passes gs ms → Passes (hs ++ gs) ls)

  two_shared : (known : Known) (a b g h : BunchTree) (es fs gs : CoreTerms) (ls ms ns : List Line) (u : SharesWell known a g es fs ls ms) (v : SharesWell known b h fs gs ms ns)
      → (then_by (shares known a g es) (λ r. with_claims r.0 (shares known b h r.1)) ≡ Some (u.0 ++ v.0, gs)) × ((is : List Claim) → Passes is ns → Passes ((u.0 ++ v.0) ++ is) ls)
  two_shared known a b g h es fs gs ls ms ns u v = (
    ap (λ o. then_by o (λ r. with_claims r.0 (shares known b h r.1))) u.1 ∙ ap (λ o. with_claims u.0 o) v.1,
    λ is w. subst (λ l. Passes l ls) (sym (append_assoc u.0 v.0 is)) (u.2 (v.0 ++ is) (v.2 is w)),
  )

  all_left : (known : Known) (params g : BunchTree) (es : CoreTerms) (hs : List Claim) → shares known params g es ≡ Some (hs, no_terms) → passes known params g es ≡ Some hs
  all_left known empty empty es hs e = ap all_shared e
  all_left known empty (leaf x t) es hs e = none_some e
  all_left known empty (comma a b) es hs e = none_some e
  all_left known empty (semi a b) es hs e = none_some e
  all_left known (leaf u t) g es hs e = ap all_shared e
  all_left known (comma a b) g es hs e = ap all_shared e
  all_left known (semi a b) g es hs e = ap all_shared e

  mutual
    -- what lines write has no fault
    pub goes : {known : Known} {g : BunchTree} {e : CoreTerm} {r : StreamType} {ls ms : List Line} → Writes funs counts known g e r ls ms → IsDistinct g → BindsNew (bound_names e) g → (gs : List Claim) → Passes gs ms → Passes (claim known g e r ∷ gs) ls
    goes (line_of_step {known = known} {w = w} {p = p} {g = g} {h = h} {a = a} {r = r} {ls = ls} b k i) d n gs q = λ m.
        ap (λ o. judged (BadStep m) (option_map (λ h. claim known h a r ∷ []) o) (λ is. first_from funs counts (suc m) (is ++ gs) (map (λ l. Some l) ls))) (rearranged_of b k)
        ∙ goes i (still_distinct k d (distinct_kept b (part_distinct k d)) (λ u m. inl (names_kept b u m))) (binds_fewer (bound_names a) (bound_names a) g h n n.once (λ u m. m) (λ u m o. inl (step_names b k u o))) gs q (suc m)
    goes (var_line {known = known} {g = g} {x = x} {r = r} {ls = ls} l) d n gs q = by_rule known g (var_term x) r [] gs ls (ap (λ b. found_where b []) (leaf_found g x r l)) q
    goes eps_line d n gs q = λ m. q (suc m)
    goes unit_line d n gs q = λ m. q (suc m)
    goes nil_line d n gs q = λ m. q (suc m)
    goes (past_line {known = known} {g = g} {m = m} {r = r} {ls = ls} i) d n gs q =
        by_rule known g (past_term m) r [] gs ls (ap (λ o. found_where (not (is_some o)) []) ((expr_refusal_is_exact known m (past r)).1 i)) q
    goes (par_line {known = known} {g = g} {a = a} {b = b} {t = t} i j) d n gs q = λ m.
        goes i d (binds_first (bound_names a) (bound_names b) g g n (λ u m. m)) (claim known g b t ∷ gs) (goes j d (binds_second (bound_names a) (bound_names b) g g n (λ u m. m)) gs q) (suc m)
    goes (inl_line i) d n gs q = λ m. goes i d n gs q (suc m)
    goes (inr_line i) d n gs q = λ m. goes i d n gs q (suc m)
    goes (cat_line {known = known} {g = g} {h = h} {a = a} {b = b} {t = t} i j) d n gs q = λ m.
        goes i d.0 (binds_first (bound_names a) (bound_names b) (semi g h) g n (λ u m. holds-left u (leaf_names g) (leaf_names h) m)) (claim known h b t ∷ gs)
        (goes j d.1 (binds_second (bound_names a) (bound_names b) (semi g h) h n (λ u m. holds-right u (leaf_names g) (leaf_names h) m)) gs q) (suc m)
    goes (cons_line {known = known} {g = g} {h = h} {a = a} {b = b} {s = s} i j) d n gs q = λ m.
        goes i d.0 (binds_first (bound_names a) (bound_names b) (semi g h) g n (λ u m. holds-left u (leaf_names g) (leaf_names h) m)) (claim known h b (star s) ∷ gs)
        (goes j d.1 (binds_second (bound_names a) (bound_names b) (semi g h) h n (λ u m. holds-right u (leaf_names g) (leaf_names h) m)) gs q) (suc m)
    goes (let_line {known = known} {p = p} {d = d'} {g = g} {h = h} {x = x} {s = s} {r = r} {a = a} {b = b} {ls = ls} {ms = ms} k o i j) d n gs q =
        let nx = n.new x (holds-head x (bound_names a ++ bound_names b)) in
        let rest = binds_tail x (bound_names a ++ bound_names b) g g n (λ u m. m) in
        let under = binds_fewer (x ∷ (bound_names a ++ bound_names b)) (bound_names b) g h n (distinct_right (bound_names a) (bound_names b) rest.once) (λ u m. holds-tail u x (bound_names a ++ bound_names b) (holds-right u (bound_names a) (bound_names b) m))
        (λ u m l. either (λ q. inl q) (λ q. inr (not_again x (bound_names a ++ bound_names b) n.once (holds-right x (bound_names a) (bound_names b) (subst (λ w. holds w (bound_names b) ≡ true) q m)))) (let_names k u l)) in
        let second : Passes (claim (hidden x known) (put_at p (comma d' (leaf x s)) g) b r ∷ gs) ms = subst (λ w. Passes (claim (hidden x known) w b r ∷ gs) ms) (part_put k) (goes j (let_distinct k d nx) under gs q) in
        by_let p known g (let_term x s a b) r (let_claims known p d' g x s a b r) gs ls
        (ap (λ o. then_by o (λ e. found_where (is_inert (fun_at funs) counts a s || stays_first p g) (let_claims known p e g x s a b r))) (part_found k)
        ∙ ap (λ c. found_where c (let_claims known p d' g x s a b r)) (either (or_left (is_inert (fun_at funs) counts a s) (stays_first p g)) (or_right (is_inert (fun_at funs) counts a s) (stays_first p g)) o))
        (goes i (part_distinct k d) (binds_first (bound_names a) (bound_names b) g d' rest (part_names k)) (claim (hidden x known) (put_at p (comma d' (leaf x s)) g) b r ∷ gs) second)
    goes (let_par_line {known = known} {p = p} {g = g} {h = h} {x = x} {y = y} {z = z} {s = s} {t = t} {r = r} {a = a} {ls = ls} k i) d n gs q =
        let nx = n.new x (holds-head x (y ∷ bound_names a)) in
        let ny = n.new y (holds-tail y x (y ∷ bound_names a) (holds-head y (bound_names a))) in
        let xy = differ x y (bound_names a) n.once in
        let v = comma (leaf x s) (leaf y t) in
        by_rule known g (let_par_term x y z a) r (below_two known x y z (par s t) v g a r ∷ []) gs ls (leaf_rule k d _)
        (subst (λ w. Passes (claim (hidden y (hidden x known)) w a r ∷ gs) ls) (only_replaced k d)
        (goes i (pair_distinct g h v p x y z s t (par s t) nowhere d nx ny xy refl (λ u q m. m) k (tt, tt, single_apart x y xy)) (binds_below_two x y (bound_names a) g h n (pair_names x y refl k)) gs q))
    goes (let_cat_line {known = known} {p = p} {g = g} {h = h} {x = x} {y = y} {z = z} {s = s} {t = t} {r = r} {a = a} {ls = ls} k i) d n gs q =
        let nx = n.new x (holds-head x (y ∷ bound_names a)) in
        let ny = n.new y (holds-tail y x (y ∷ bound_names a) (holds-head y (bound_names a))) in
        let xy = differ x y (bound_names a) n.once in
        let v = semi (leaf x s) (leaf y t) in
        by_rule known g (let_cat_term x y z a) r (below_two known x y z (cat s t) v g a r ∷ []) gs ls (leaf_rule k d _)
        (subst (λ w. Passes (claim (hidden y (hidden x known)) w a r ∷ gs) ls) (only_replaced k d)
        (goes i (pair_distinct g h v p x y z s t (cat s t) nowhere d nx ny xy refl (λ u q m. m) k (tt, tt, single_apart x y xy)) (binds_below_two x y (bound_names a) g h n (pair_names x y refl k)) gs q))
    goes (case_sum_line {known = known} {p = p} {q = q} {g = g} {h = h} {k = h'} {x = x} {y = y} {z = z} {s = s} {t = t} {r = r} {a = a} {b = b} {ls = ls} {ms = ms} k i l j) d n gs w =
        let na = binds_first (x ∷ bound_names a) (y ∷ bound_names b) g g n (λ u m. m) in
        let nb = binds_second (x ∷ bound_names a) (y ∷ bound_names b) g g n (λ u m. m) in
        let nx = na.new x (holds-head x (bound_names a)) in
        let ny = nb.new y (holds-head y (bound_names b)) in
        let u = below_one known x z (sum s t) (leaf x s) g a r in
        let v = below_one known y z (sum s t) (leaf y t) g b r in
        let second : Passes (v ∷ gs) ms = subst (λ w. Passes (claim (hidden y known) w b r ∷ gs) ms) (only_replaced l d) (goes j (beside_distinct g h' q y z t (sum s t) nowhere d ny l) (binds_below y (bound_names b) g h' nb (beside_names l)) gs w) in
        by_rule known g (case_sum_term z r x a y b) r (u ∷ v ∷ []) gs ls (leaf_rule k d _ ∙ ap (λ c. found_where c (u ∷ v ∷ [])) (is_same_type-same r))
        (subst (λ w. Passes (claim (hidden x known) w a r ∷ v ∷ gs) ls) (only_replaced k d) (goes i (beside_distinct g h p x z s (sum s t) nowhere d nx k) (binds_below x (bound_names a) g h na (beside_names k)) (v ∷ gs) second))
    goes (case_star_line {known = known} {p = p} {g = g} {h = h} {y = y} {ys = ys} {z = z} {s = s} {r = r} {a = a} {b = b} {ls = ls} {ms = ms} i k j) d n gs w =
        let na = binds_first (bound_names a) (y ∷ (ys ∷ bound_names b)) g g n (λ u m. m) in
        let nb = binds_second (bound_names a) (y ∷ (ys ∷ bound_names b)) g g n (λ u m. m) in
        let ny = nb.new y (holds-head y (ys ∷ bound_names b)) in
        let nys = nb.new ys (holds-tail ys y (ys ∷ bound_names b) (holds-head ys (bound_names b))) in
        let xy = differ y ys (bound_names b) nb.once in
        let v = semi (leaf y s) (leaf ys (star s)) in
        let u = below_two known y ys z (star s) v g b r in
        let second : Passes (u ∷ gs) ms = subst (λ w. Passes (claim (hidden ys (hidden y known)) w b r ∷ gs) ms) (only_replaced k d)
        (goes j (pair_distinct g h v p y ys z s (star s) (star s) nowhere d ny nys xy refl (λ u q m. m) k (tt, tt, single_apart y ys xy)) (binds_below_two y ys (bound_names b) g h nb (pair_names y ys refl k)) gs w) in
        by_rule known g (case_star_term z r a y ys b) r (claim known g a r ∷ u ∷ []) gs ls (leaf_rule k d _ ∙ ap (λ c. found_where c (claim known g a r ∷ u ∷ [])) (is_same_type-same r))
        (goes i d na (u ∷ gs) second)
    goes (wait_line {known = known} {p = p} {g = g} {h = h} {x = x} {s = s} {r = r} {a = a} {ls = ls} o k i) d n gs w =
        let u = claim (learned x s known) (with_leaf x empty g) a r in
        by_rule known g (wait_term x r a) r (u ∷ []) gs ls (leaf_rule k d _ ∙ ap (λ c. found_where c (u ∷ [])) (and_from (not (null_of s)) (is_same_type r r) (ap not o) (is_same_type-same r)))
        (subst (λ w. Passes (claim (learned x s known) w a r ∷ gs) ls) (only_replaced k d)
        (goes i (waited_distinct g h p x s nowhere d k) (binds_fewer (bound_names a) (bound_names a) g h n n.once (λ u m. m) (λ u m l. either (λ q. inl q) (λ q. none_in u q) (new_names k u l))) gs w))
    goes (call_line {known = known} {g = g} {f = f} {ms = ms} {es = es} {r = r} {ls = ls} o q hs ps t) d n gs w =
        let r' = goes_passed ps d (binds_second (bound_in_exprs ms) (bound_in_terms es) g g n (λ u m. m)) in
        by_rule known g (call_term f ms es) r r'.0 gs ls
        (call_left known g f ms es r r'.0 o (is_good_call known (fun_at funs f) ms es r q (pasts_good known ms (past_types (fun_at funs f)) hs) (still_good funs counts (fun_at funs f) es t)) r'.1) (r'.2 gs w)

    goes_passed : {known : Known} {params g : BunchTree} {es : CoreTerms} {ls ms : List Line} → WritesPassed funs counts known params g es ls ms → IsDistinct g → BindsNew (bound_in_terms es) g
        → (hs : List Claim) × (passes known params g es ≡ Some hs) × ((gs : List Claim) → Passes gs ms → Passes (hs ++ gs) ls)
    goes_passed nothing_written d n = ([], refl, λ gs q. q)
    goes_passed (shared_lines {known = known} {params = params} {g = g} {es = es} i) d n = let r = goes_shared i d n in (r.0, all_left known params g es r.0 r.1, r.2)

    goes_shared : {known : Known} {params g : BunchTree} {es fs : CoreTerms} {ls ms : List Line} → WritesShared funs counts known params g es fs ls ms → IsDistinct g → BindsNew (bound_in_terms es) g → SharesWell known params g es fs ls ms
    goes_shared empty_lines d n = ([], refl, λ gs q. q)
    goes_shared (leaf_lines {known = known} {t = t} {g = g} {e = e} {es = es} i) d n = (claim known g e t ∷ [], refl, λ gs q. goes i d (binds_first (bound_names e) (bound_in_terms es) g g n (λ u m. m)) gs q)
    goes_shared (comma_lines {known = known} {a = a} {b = b} {g = g} {h = h} {es = es} {fs = fs} {gs = gs} {ls = ls} {ms = ms} {ns = ns} i j) d n =
        let u = goes_shared i d.0 (binds_fewer (bound_in_terms es) (bound_in_terms es) (comma g h) g n n.once (λ u m. m) (λ u m l. inl (holds-left u (leaf_names g) (leaf_names h) l))) in
        let v = goes_shared j d.1 (binds_fewer (bound_in_terms es) (bound_in_terms fs) (comma g h) h n (rest_distinct i n.once) (rest_bound i) (λ u m l. inl (holds-right u (leaf_names g) (leaf_names h) l))) in
        let r = two_shared known a b g h es fs gs ls ms ns u v in
        (u.0 ++ v.0, r.0, r.1)
    goes_shared (semi_lines {known = known} {a = a} {b = b} {g = g} {h = h} {es = es} {fs = fs} {gs = gs} {ls = ls} {ms = ms} {ns = ns} i j) d n =
        let u = goes_shared i d.0 (binds_fewer (bound_in_terms es) (bound_in_terms es) (semi g h) g n n.once (λ u m. m) (λ u m l. inl (holds-left u (leaf_names g) (leaf_names h) l))) in
        let v = goes_shared j d.1 (binds_fewer (bound_in_terms es) (bound_in_terms fs) (semi g h) h n (rest_distinct i n.once) (rest_bound i) (λ u m l. inl (holds-right u (leaf_names g) (leaf_names h) l))) in
        let r = two_shared known a b g h es fs gs ls ms ns u v in
        (u.0 ++ v.0, r.0, r.1)

    -- the arguments that are left bind no other names
    rest_bound : {known : Known} {params g : BunchTree} {es fs : CoreTerms} {ls ms : List Line} → WritesShared funs counts known params g es fs ls ms → (u : ℕ) → holds u (bound_in_terms fs) ≡ true → holds u (bound_in_terms es) ≡ true
    rest_bound empty_lines u m = m
    rest_bound (leaf_lines {e = e} {es = es} i) u m = holds-right u (bound_names e) (bound_in_terms es) m
    rest_bound (comma_lines i j) u m = rest_bound i u (rest_bound j u m)
    rest_bound (semi_lines i j) u m = rest_bound i u (rest_bound j u m)

    rest_distinct : {known : Known} {params g : BunchTree} {es fs : CoreTerms} {ls ms : List Line} → WritesShared funs counts known params g es fs ls ms → is_distinct (bound_in_terms es) ≡ true → is_distinct (bound_in_terms fs) ≡ true
    rest_distinct empty_lines m = m
    rest_distinct (leaf_lines {e = e} {es = es} i) m = distinct_right (bound_names e) (bound_in_terms es) m
    rest_distinct (comma_lines i j) m = rest_distinct j (rest_distinct i m)
    rest_distinct (semi_lines i j) m = rest_distinct j (rest_distinct i m)
