-- Lines that write the terms of claims, in turn; and a line that leaves claims of one, with the lines that write them,
-- writes that one.
use Rattle.std.proofs.Common.{◌≡◌, ◌∙◌, ℕ, Bool, true, false, ◌&&◌, ◌||◌, if◌then◌else◌, List, [], ◌∷◌, ◌++◌, length, ap, refl, sym, subst}
use Rattle.std.proofs.lemmas.Bool.{eqb-true, not-true, and_parts}
use Rattle.std.specs.Prelude.{Option, Some, None, is_some, not, ◌==◌}
use Rattle.std.proofs.lemmas.List.{length-map}
use Rattle.stream_type.specs.StreamType.{StreamType, eps, one, null_of}
use Rattle.bunch.specs.BunchTree.{BunchTree, empty, leaf, comma, semi}
use Rattle.bunch.proofs.Tests.{or_split}
use Rattle.hist_value.specs.HistType.{past}
use Rattle.hist_value.specs.HistExpr.{HistExpr}
use Rattle.core_term.specs.CoreTerm.{CoreTerm, CoreTerms, CoreBody, var_term, eps_term, unit_term, nil_term, past_term, par_term, cat_term, cons_term, inl_term, inr_term, let_term, let_par_term, let_cat_term, case_sum_term, case_star_term, wait_term, call_term, no_terms, term_before, past_types, fun_at, is_there}
use Rattle.core_term.specs.Inert.{is_inert}
use Rattle.core_term.specs.Parts.{par_left, par_right, cat_first, cat_second, sum_left, sum_right, star_item, star_items, is_par, is_cat, is_sum, is_star, is_same_type}
use Rattle.core_term.specs.TypeFaults.{found_where, expr_refusal, of_pasts, first_jumpy}
use Rattle.core_term.proofs.Causes.{is_same_type-true, is_par-form, is_cat-form, is_sum-form, is_star-form}
use Rattle.core_term.proofs.Unbroken.{expr_refusal_is_exact}
use Rattle.bunch_rules.specs.Rearranging.{Turn, Replaces, stays_first}
use Rattle.bunch_rules.specs.Derivation.{Known, hidden, learned}
use Rattle.bunch_rules.specs.Written.{Line, plain_rule, rule_at, step_at, Writes, WritesPassed, WritesShared, nothing_written, shared_lines, empty_lines, leaf_lines, comma_lines, semi_lines, line_of_step, var_line, eps_line, unit_line, nil_line, past_line, par_line, inl_line, inr_line, cat_line, cons_line, let_line, let_par_line, let_cat_line, case_sum_line, case_star_line, wait_line, call_line}
use Rattle.delta_derive.specs.Rearranged.{rearranged, part_at, put_at, has_leaf, leaf_type, with_leaf}
use Rattle.delta_derive.specs.Claims.{Claim, claim, two, beside, below_one, below_two, let_claims, of_semi, with_claims, shares, where_none, all_shared, passes, is_called, call_parts, rule_parts, rule_parts_by}
use Rattle.delta_derive.specs.FirstFault.{after}
use Rattle.delta_derive.proofs.Options.{some_same, none_some, mapped, bound, found, not_some}
use Rattle.delta_derive.proofs.ExactSteps.{step_of_rearranged}
use Rattle.delta_derive.proofs.Paths.{part_replaced}
use Rattle.delta_derive.proofs.OneLeaf.{leaf_there, leaf_replaced}
use Rattle.delta_derive.proofs.Calls.{pasts_there, still_there}

-- the sides of a semicolon
sides_of : {A : Type 0} (g : BunchTree) (f : BunchTree → BunchTree → Option A) (a : A) → of_semi g f ≡ Some a → (h : BunchTree) × (k : BunchTree) × (g ≡ semi h k) × (f h k ≡ Some a)
sides_of empty f a e = none_some e
sides_of (leaf x t) f a e = none_some e
sides_of (comma h k) f a e = none_some e
sides_of (semi h k) f a e = (h, k, refl, e)

-- claims of two lists of parts
both_shared : (gs : List Claim) (o : Option (List Claim × CoreTerms)) (r : List Claim × CoreTerms) → with_claims gs o ≡ Some r → (q : List Claim × CoreTerms) × (o ≡ Some q) × ((gs ++ q.0, q.1) ≡ r)
both_shared gs None r e = none_some e
both_shared gs (Some q) r e = (q, refl, some_same e)

abbrev pub beside_rest : List Claim → CoreTerms → List Claim × CoreTerms
beside_rest gs es = (gs, es)

left_none : (gs : List Claim) (es : CoreTerms) (hs : List Claim) → where_none gs es ≡ Some hs → Some (beside_rest gs es) ≡ Some (beside_rest hs no_terms)
left_none gs no_terms hs e = ap (λ l. Some (beside_rest l no_terms)) (some_same e)
left_none gs (term_before a es) hs e = none_some e

none_is_left : (o : Option (List Claim × CoreTerms)) (hs : List Claim) → all_shared o ≡ Some hs → o ≡ Some (beside_rest hs no_terms)
none_is_left None hs e = none_some e
none_is_left (Some r) hs e = left_none r.0 r.1 hs e

module _ (funs : List CoreBody) (counts : ℕ → Bool) where
  -- lines from some place on write the term of a claim, up to another place
  abbrev pub WritesClaim : Claim → List Line → List Line → Type 0
  WritesClaim g ls ms = Writes funs counts g.known g.bunch g.term g.result ls ms

  abbrev pub WritesAll : List Claim → List Line → List Line → Type 0
  WritesAll [] ls ms = ls ≡ ms
  WritesAll (g ∷ gs) ls ms = (ks : List Line) × WritesClaim g ls ks × WritesAll gs ks ms

  pub all_of_both : (gs hs : List Claim) (ls ms : List Line) → WritesAll (gs ++ hs) ls ms → (ks : List Line) × WritesAll gs ls ks × WritesAll hs ks ms
  all_of_both [] hs ls ms w = (ls, refl, w)
  all_of_both (g ∷ gs) hs ls ms w = let r = all_of_both gs hs w.0 ms w.2 in (r.0, (w.0, w.1, r.1), r.2)

  one_of : (g : Claim) (ls ms : List Line) → WritesAll (g ∷ []) ls ms → WritesClaim g ls ms
  one_of g ls ms w = subst (λ k. WritesClaim g ls k) w.2 w.1

  two_of : (g h : Claim) (ls ms : List Line) → WritesAll (g ∷ h ∷ []) ls ms → (ks : List Line) × WritesClaim g ls ks × WritesClaim h ks ms
  two_of g h ls ms w = (w.0, w.1, one_of h w.0 ms w.2)

  -- the arguments of a call
  writes_shared : (known : Known) (params g : BunchTree) (es : CoreTerms) (r : List Claim × CoreTerms) → shares known params g es ≡ Some r → (ls ms : List Line) → WritesAll r.0 ls ms → WritesShared funs counts known params g es r.1 ls ms
  writes_shared known empty empty es r e ls ms w = subst (λ q. WritesAll q.0 ls ms → WritesShared funs counts known empty empty es q.1 ls ms) (some_same e) (λ k. subst (λ l. WritesShared funs counts known empty empty es es ls l) k empty_lines) w
  writes_shared known empty (leaf x t) es r e ls ms w = none_some e
  writes_shared known empty (comma a b) es r e ls ms w = none_some e
  writes_shared known empty (semi a b) es r e ls ms w = none_some e
  writes_shared known (leaf u t) g no_terms r e ls ms w = none_some e
  writes_shared known (leaf u t) g (term_before a es) r e ls ms w =
      subst (λ q. WritesAll q.0 ls ms → WritesShared funs counts known (leaf u t) g (term_before a es) q.1 ls ms) (some_same e) (λ k. leaf_lines (one_of (claim known g a t) ls ms k)) w
  writes_shared known (comma a b) empty es r e ls ms w = none_some e
  writes_shared known (comma a b) (leaf x t) es r e ls ms w = none_some e
  writes_shared known (comma a b) (comma g h) es r e ls ms w =
      let m = bound (shares known a g es) (λ q. with_claims q.0 (shares known b h q.1)) r e in
      let n = both_shared m.0.0 (shares known b h m.0.1) r m.2 in
      subst (λ q. WritesAll q.0 ls ms → WritesShared funs counts known (comma a b) (comma g h) es q.1 ls ms) n.2
      (λ k. let s = all_of_both m.0.0 n.0.0 ls ms k in comma_lines (writes_shared known a g es m.0 m.1 ls s.0 s.1) (writes_shared known b h m.0.1 n.0 n.1 s.0 ms s.2)) w
  writes_shared known (comma a b) (semi g h) es r e ls ms w = none_some e
  writes_shared known (semi a b) empty es r e ls ms w = none_some e
  writes_shared known (semi a b) (leaf x t) es r e ls ms w = none_some e
  writes_shared known (semi a b) (comma g h) es r e ls ms w = none_some e
  writes_shared known (semi a b) (semi g h) es r e ls ms w =
      let m = bound (shares known a g es) (λ q. with_claims q.0 (shares known b h q.1)) r e in
      let n = both_shared m.0.0 (shares known b h m.0.1) r m.2 in
      subst (λ q. WritesAll q.0 ls ms → WritesShared funs counts known (semi a b) (semi g h) es q.1 ls ms) n.2
      (λ k. let s = all_of_both m.0.0 n.0.0 ls ms k in semi_lines (writes_shared known a g es m.0 m.1 ls s.0 s.1) (writes_shared known b h m.0.1 n.0 n.1 s.0 ms s.2)) w

  writes_whole : (known : Known) (params g : BunchTree) (es : CoreTerms) (hs : List Claim) → all_shared (shares known params g es) ≡ Some hs → (ls ms : List Line) → WritesAll hs ls ms → WritesPassed funs counts known params g es ls ms
  writes_whole known params g es hs e ls ms w = shared_lines (writes_shared known params g es (beside_rest hs no_terms) (none_is_left (shares known params g es) hs e) ls ms w)

  writes_passed : (known : Known) (params g : BunchTree) (es : CoreTerms) (hs : List Claim) → passes known params g es ≡ Some hs → (ls ms : List Line) → WritesAll hs ls ms → WritesPassed funs counts known params g es ls ms
  writes_passed known empty g no_terms hs e ls ms w = subst (λ q. WritesAll q ls ms → WritesPassed funs counts known empty g no_terms ls ms) (some_same e) (λ k. subst (λ l. WritesPassed funs counts known empty g no_terms ls l) k nothing_written) w
  writes_passed known empty g (term_before a es) hs e ls ms w = none_some e
  writes_passed known (leaf u t) g es hs e ls ms w = writes_whole known (leaf u t) g es hs e ls ms w
  writes_passed known (comma a b) g es hs e ls ms w = writes_whole known (comma a b) g es hs e ls ms w
  writes_passed known (semi a b) g es hs e ls ms w = writes_whole known (semi a b) g es hs e ls ms w

  call_there : (known : Known) (g : BunchTree) (f : ℕ) (ms : List HistExpr) (es : CoreTerms) (r : StreamType) (hs : List Claim) → is_there funs f ≡ true → is_called funs counts known (fun_at funs f) ms es r ≡ true → passes known (fun_at funs f).params g es ≡ Some hs
      → (ls ks : List Line) → WritesAll hs ls ks → Writes funs counts known g (call_term f ms es) r (plain_rule ∷ ls) ks
  call_there known g f ms es r hs i q h ls ks w =
      let b = fun_at funs f in
      let both = and_parts (is_same_type b.result r && (length ms == length b.past)) (not (is_some (of_pasts [] (λ _. false) expr_refusal known ms (past_types b))) && not (is_some (first_jumpy funs counts b es))) q in
      let first = and_parts (is_same_type b.result r) (length ms == length b.past) both.0 in
      let second = and_parts (not (is_some (of_pasts [] (λ _. false) expr_refusal known ms (past_types b)))) (not (is_some (first_jumpy funs counts b es))) both.1 in
      call_line i (is_same_type-true b.result r first.0)
      (pasts_there known ms (past_types b) (eqb-true (length ms) (length b.past) first.1 ∙ sym (length-map b.past (λ e. e.1))) (not_some (of_pasts [] (λ _. false) expr_refusal known ms (past_types b)) second.0))
      (writes_passed known b.params g es hs h ls ks w) (still_there funs counts b es (not_some (first_jumpy funs counts b es) second.1))

  writes_call : (known : Known) (g : BunchTree) (f : ℕ) (ms : List HistExpr) (es : CoreTerms) (r : StreamType) (hs : List Claim) → call_parts funs counts known g f ms es r ≡ Some hs → (ls ks : List Line) → WritesAll hs ls ks
      → Writes funs counts known g (call_term f ms es) r (plain_rule ∷ ls) ks
  writes_call known g f ms es r hs e ls ks w = go (is_there funs f) refl (is_called funs counts known (fun_at funs f) ms es r) refl e
    where
      go : (there : Bool) → is_there funs f ≡ there → (good : Bool) → is_called funs counts known (fun_at funs f) ms es r ≡ good → (if there && good then passes known (fun_at funs f).params g es else None) ≡ Some hs
          → Writes funs counts known g (call_term f ms es) r (plain_rule ∷ ls) ks
      go true i true q h = call_there known g f ms es r hs i q h ls ks w
      go true i false q h = none_some h
      go false i good q h = none_some h

  -- a rule without a path
  writes_plain : (known : Known) (g : BunchTree) (e : CoreTerm) (r : StreamType) (hs : List Claim) → rule_parts funs counts known g e r ≡ Some hs → (ls ms : List Line) → WritesAll hs ls ms → Writes funs counts known g e r (plain_rule ∷ ls) ms
  writes_plain known g (var_term x) r hs e ls ms w =
      let f = found (has_leaf g x r) [] hs e in
      subst (λ k. Writes funs counts known g (var_term x) r (plain_rule ∷ ls) k) (subst (λ l. WritesAll l ls ms) (sym f.1) w) (var_line (leaf_there g x r f.0))
  writes_plain known g eps_term r hs e ls ms w =
      let f = found (is_same_type r eps) [] hs e in
      subst (λ k. Writes funs counts known g eps_term r (plain_rule ∷ ls) k) (subst (λ l. WritesAll l ls ms) (sym f.1) w) (subst (λ t. Writes funs counts known g eps_term t (plain_rule ∷ ls) ls) (sym (is_same_type-true r eps f.0)) eps_line)
  writes_plain known g unit_term r hs e ls ms w =
      let f = found (is_same_type r one) [] hs e in
      subst (λ k. Writes funs counts known g unit_term r (plain_rule ∷ ls) k) (subst (λ l. WritesAll l ls ms) (sym f.1) w) (subst (λ t. Writes funs counts known g unit_term t (plain_rule ∷ ls) ls) (sym (is_same_type-true r one f.0)) unit_line)
  writes_plain known g nil_term r hs e ls ms w =
      let f = found (is_star r) [] hs e in
      subst (λ k. Writes funs counts known g nil_term r (plain_rule ∷ ls) k) (subst (λ l. WritesAll l ls ms) (sym f.1) w) (subst (λ t. Writes funs counts known g nil_term t (plain_rule ∷ ls) ls) (sym (is_star-form r f.0)) nil_line)
  writes_plain known g (past_term m) r hs e ls ms w =
      let f = found (not (is_some (expr_refusal known m (past r)))) [] hs e in
      subst (λ k. Writes funs counts known g (past_term m) r (plain_rule ∷ ls) k) (subst (λ l. WritesAll l ls ms) (sym f.1) w) (past_line ((expr_refusal_is_exact known m (past r)).0 (not_some (expr_refusal known m (past r)) f.0)))
  writes_plain known g (par_term a b) r hs e ls ms w =
      let f = found (is_par r) (two known g g a b (par_left r) (par_right r)) hs e in
      let q = two_of (claim known g a (par_left r)) (claim known g b (par_right r)) ls ms (subst (λ l. WritesAll l ls ms) (sym f.1) w) in
      subst (λ t. Writes funs counts known g (par_term a b) t (plain_rule ∷ ls) ms) (sym (is_par-form r f.0)) (par_line q.1 q.2)
  writes_plain known g (cat_term a b) r hs e ls ms w =
      let s = sides_of g (λ h k. found_where (is_cat r) (two known h k a b (cat_first r) (cat_second r))) hs e in
      let f = found (is_cat r) (two known s.0 s.1 a b (cat_first r) (cat_second r)) hs s.3 in
      let q = two_of (claim known s.0 a (cat_first r)) (claim known s.1 b (cat_second r)) ls ms (subst (λ l. WritesAll l ls ms) (sym f.1) w) in
      subst (λ g. Writes funs counts known g (cat_term a b) r (plain_rule ∷ ls) ms) (sym s.2) (subst (λ t. Writes funs counts known (semi s.0 s.1) (cat_term a b) t (plain_rule ∷ ls) ms) (sym (is_cat-form r f.0)) (cat_line q.1 q.2))
  writes_plain known g (cons_term a b) r hs e ls ms w =
      let s = sides_of g (λ h k. found_where (is_star r) (two known h k a b (star_item r) (star_items r))) hs e in
      let f = found (is_star r) (two known s.0 s.1 a b (star_item r) (star_items r)) hs s.3 in
      let q = two_of (claim known s.0 a (star_item r)) (claim known s.1 b (star_items r)) ls ms (subst (λ l. WritesAll l ls ms) (sym f.1) w) in
      let form = is_star-form r f.0 in
      subst (λ g. Writes funs counts known g (cons_term a b) r (plain_rule ∷ ls) ms) (sym s.2) (subst (λ t. Writes funs counts known (semi s.0 s.1) (cons_term a b) t (plain_rule ∷ ls) ms) (sym form) (cons_line q.1 (subst (λ t. Writes funs counts known s.1 b t q.0 ms) (ap star_items form) q.2)))
  writes_plain known g (inl_term a) r hs e ls ms w =
      let f = found (is_sum r) (claim known g a (sum_left r) ∷ []) hs e in
      subst (λ t. Writes funs counts known g (inl_term a) t (plain_rule ∷ ls) ms) (sym (is_sum-form r f.0)) (inl_line (one_of (claim known g a (sum_left r)) ls ms (subst (λ l. WritesAll l ls ms) (sym f.1) w)))
  writes_plain known g (inr_term a) r hs e ls ms w =
      let f = found (is_sum r) (claim known g a (sum_right r) ∷ []) hs e in
      subst (λ t. Writes funs counts known g (inr_term a) t (plain_rule ∷ ls) ms) (sym (is_sum-form r f.0)) (inr_line (one_of (claim known g a (sum_right r)) ls ms (subst (λ l. WritesAll l ls ms) (sym f.1) w)))
  writes_plain known g (let_term x s a b) r hs e ls ms w = none_some e
  writes_plain known g (let_par_term x y z a) r hs e ls ms w =
      let m = bound (leaf_type z g) (λ t. found_where (is_par t) (below_two known x y z t (comma (leaf x (par_left t)) (leaf y (par_right t))) g a r ∷ [])) hs e in
      let t = m.0 in
      let v = comma (leaf x (par_left t)) (leaf y (par_right t)) in
      let f = found (is_par t) (below_two known x y z t v g a r ∷ []) hs m.2 in
      let k = leaf_replaced z (beside z t v) g t m.1 in
      let_par_line (subst (λ q. Replaces (leaf z q) (beside z q v) k.0 g (with_leaf z (beside z t v) g)) (is_par-form t f.0) k.1) (one_of (below_two known x y z t v g a r) ls ms (subst (λ l. WritesAll l ls ms) (sym f.1) w))
  writes_plain known g (let_cat_term x y z a) r hs e ls ms w =
      let m = bound (leaf_type z g) (λ t. found_where (is_cat t) (below_two known x y z t (semi (leaf x (cat_first t)) (leaf y (cat_second t))) g a r ∷ [])) hs e in
      let t = m.0 in
      let v = semi (leaf x (cat_first t)) (leaf y (cat_second t)) in
      let f = found (is_cat t) (below_two known x y z t v g a r ∷ []) hs m.2 in
      let k = leaf_replaced z (beside z t v) g t m.1 in
      let_cat_line (subst (λ q. Replaces (leaf z q) (beside z q v) k.0 g (with_leaf z (beside z t v) g)) (is_cat-form t f.0) k.1) (one_of (below_two known x y z t v g a r) ls ms (subst (λ l. WritesAll l ls ms) (sym f.1) w))
  writes_plain known g (case_sum_term z s x a y b) r hs e ls ms w =
      let m = bound (leaf_type z g) (λ t. found_where (is_sum t && is_same_type s r) (below_one known x z t (leaf x (sum_left t)) g a r ∷ below_one known y z t (leaf y (sum_right t)) g b r ∷ [])) hs e in
      let t = m.0 in
      let u = leaf x (sum_left t) in
      let v = leaf y (sum_right t) in
      let f = found (is_sum t && is_same_type s r) (below_one known x z t u g a r ∷ below_one known y z t v g b r ∷ []) hs m.2 in
      let i = and_parts (is_sum t) (is_same_type s r) f.0 in
      let k = leaf_replaced z (beside z t u) g t m.1 in
      let l = leaf_replaced z (beside z t v) g t m.1 in
      let q = two_of (below_one known x z t u g a r) (below_one known y z t v g b r) ls ms (subst (λ l. WritesAll l ls ms) (sym f.1) w) in
      subst (λ t'. Writes funs counts known g (case_sum_term z t' x a y b) r (plain_rule ∷ ls) ms) (sym (is_same_type-true s r i.1))
      (case_sum_line (subst (λ q. Replaces (leaf z q) (beside z q u) k.0 g (with_leaf z (beside z t u) g)) (is_sum-form t i.0) k.1) q.1 (subst (λ q. Replaces (leaf z q) (beside z q v) l.0 g (with_leaf z (beside z t v) g)) (is_sum-form t i.0) l.1) q.2)
  writes_plain known g (case_star_term z s a y ys b) r hs e ls ms w =
      let m = bound (leaf_type z g) (λ t. found_where (is_star t && is_same_type s r) (claim known g a r ∷ below_two known y ys z t (semi (leaf y (star_item t)) (leaf ys (star_items t))) g b r ∷ [])) hs e in
      let t = m.0 in
      let v = semi (leaf y (star_item t)) (leaf ys (star_items t)) in
      let f = found (is_star t && is_same_type s r) (claim known g a r ∷ below_two known y ys z t v g b r ∷ []) hs m.2 in
      let i = and_parts (is_star t) (is_same_type s r) f.0 in
      let k = leaf_replaced z (beside z t v) g t m.1 in
      let form = is_star-form t i.0 in
      let q = two_of (claim known g a r) (below_two known y ys z t v g b r) ls ms (subst (λ l. WritesAll l ls ms) (sym f.1) w) in
      subst (λ t'. Writes funs counts known g (case_star_term z t' a y ys b) r (plain_rule ∷ ls) ms) (sym (is_same_type-true s r i.1))
      (case_star_line q.1 (subst (λ q. Replaces (leaf z q) (beside z q (semi (leaf y (star_item t)) (leaf ys q))) k.0 g (with_leaf z (beside z t v) g)) form
      (subst (λ q. Replaces (leaf z t) (beside z t (semi (leaf y (star_item t)) (leaf ys q))) k.0 g (with_leaf z (beside z t v) g)) (ap star_items form ∙ sym form) k.1)) q.2)
  writes_plain known g (wait_term x s a) r hs e ls ms w =
      let m = bound (leaf_type x g) (λ t. found_where (not (null_of t) && is_same_type s r) (claim (learned x t known) (with_leaf x empty g) a r ∷ [])) hs e in
      let t = m.0 in
      let f = found (not (null_of t) && is_same_type s r) (claim (learned x t known) (with_leaf x empty g) a r ∷ []) hs m.2 in
      let i = and_parts (not (null_of t)) (is_same_type s r) f.0 in
      let k = leaf_replaced x empty g t m.1 in
      subst (λ t'. Writes funs counts known g (wait_term x t' a) r (plain_rule ∷ ls) ms) (sym (is_same_type-true s r i.1))
      (wait_line (not-true (null_of t) i.0) k.1 (one_of (claim (learned x t known) (with_leaf x empty g) a r) ls ms (subst (λ l. WritesAll l ls ms) (sym f.1) w)))
  writes_plain known g (call_term f ms es) r hs e ls ks w = writes_call known g f ms es r hs e ls ks w

  -- a rule with a path
  writes_let : (p : List Turn) (known : Known) (g : BunchTree) (x : ℕ) (s : StreamType) (a b : CoreTerm) (r : StreamType) (hs : List Claim) → rule_parts_by funs counts p known g (let_term x s a b) r ≡ Some hs → (ls ms : List Line) → WritesAll hs ls ms → Writes funs counts known g (let_term x s a b) r (rule_at p ∷ ls) ms
  writes_let p known g x s a b r hs e ls ms w =
      let m = bound (part_at p g) (λ d. found_where (is_inert (fun_at funs) counts a s || stays_first p g) (let_claims known p d g x s a b r)) hs e in
      let d = m.0 in
      let f = found (is_inert (fun_at funs) counts a s || stays_first p g) (let_claims known p d g x s a b r) hs m.2 in
      let q = two_of (claim known d a s) (claim (hidden x known) (put_at p (comma d (leaf x s)) g) b r) ls ms (subst (λ l. WritesAll l ls ms) (sym f.1) w) in
      let_line (part_replaced p (comma d (leaf x s)) g d m.1) (or_split (is_inert (fun_at funs) counts a s) (stays_first p g) f.0) q.1 q.2

  writes_by : (p : List Turn) (known : Known) (g : BunchTree) (e : CoreTerm) (r : StreamType) (hs : List Claim) → rule_parts_by funs counts p known g e r ≡ Some hs → (ls ms : List Line) → WritesAll hs ls ms → Writes funs counts known g e r (rule_at p ∷ ls) ms
  writes_by p known g (let_term x s a b) r hs e ls ms w = writes_let p known g x s a b r hs e ls ms w
  writes_by p known g (var_term x) r hs e ls ms w = none_some e
  writes_by p known g eps_term r hs e ls ms w = none_some e
  writes_by p known g unit_term r hs e ls ms w = none_some e
  writes_by p known g nil_term r hs e ls ms w = none_some e
  writes_by p known g (past_term m) r hs e ls ms w = none_some e
  writes_by p known g (par_term a b) r hs e ls ms w = none_some e
  writes_by p known g (cat_term a b) r hs e ls ms w = none_some e
  writes_by p known g (cons_term a b) r hs e ls ms w = none_some e
  writes_by p known g (inl_term a) r hs e ls ms w = none_some e
  writes_by p known g (inr_term a) r hs e ls ms w = none_some e
  writes_by p known g (let_par_term x y z a) r hs e ls ms w = none_some e
  writes_by p known g (let_cat_term x y z a) r hs e ls ms w = none_some e
  writes_by p known g (case_sum_term z s x a y b) r hs e ls ms w = none_some e
  writes_by p known g (case_star_term z s a y ys b) r hs e ls ms w = none_some e
  writes_by p known g (wait_term x s a) r hs e ls ms w = none_some e
  writes_by p known g (call_term f ns es) r hs e ls ms w = none_some e

  -- any line
  pub writes_after : (l : Line) (g : Claim) (hs : List Claim) → after funs counts l g ≡ Some hs → (ls ms : List Line) → WritesAll hs ls ms → WritesClaim g (l ∷ ls) ms
  writes_after plain_rule g hs e ls ms w = writes_plain g.known g.bunch g.term g.result hs e ls ms w
  writes_after (rule_at p) g hs e ls ms w = writes_by p g.known g.bunch g.term g.result hs e ls ms w
  writes_after (step_at v p) g hs e ls ms w =
      let m = mapped (λ h. claim g.known h g.term g.result ∷ []) (rearranged v p g.bunch) hs e in
      let s = step_of_rearranged v p g.bunch m.0 m.1 in
      line_of_step s.2 s.3 (one_of (claim g.known m.0 g.term g.result) ls ms (subst (λ l. WritesAll l ls ms) (sym m.2) w))
