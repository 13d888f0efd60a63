-- A let whose name is taken apart and put together again, by tests.
use Rattle.std.proofs.Common.{◌≡◌, ℕ, Bool, true, false, true≢false, not, eqb, ap, refl, subst, sym}
use Rattle.std.proofs.lemmas.Bool.{eqb-true}
use Rattle.stream_type.specs.StreamType.{StreamType, null_of}
use Rattle.core_term.specs.CoreTerm.{CoreTerm, var_term}
use Rattle.core_term.specs.Parts.{cat_first}
use Rattle.delta_state.specs.StateTree.{LaterTree, StateTree, cat_state, let_state, let_cat_state}
use Rattle.state_rewriting.specs.MarksAtOnce.{marks_at_once}
use Rattle.state_rewriting.specs.Rewriting.{as_it_is, one_more, here, Rewritten, row, SimplerBy}
use Rattle.template_state.specs.Rows.{is_term_name, is_name, is_row, repeats_row}
use Rattle.template_state.proofs.Putting.{named_state}
use Rattle.template_state.proofs.Joining.{kept_at_all}
use Rattle.bunch.proofs.Tests.{and_first, and_second}

-- a term that passes the test is the name
named : (e : CoreTerm) (y : ℕ) → is_term_name e y ≡ true → e ≡ var_term y
named (var_term u) y h = ap var_term (eqb-true u y h)
named _ y h = absurd (true≢false (sym h))

module _ (q s : StreamType) (w : ℕ) (a : StateTree) (n : null_of (cat_first s) ≡ false) (m : marks_at_once a ≡ true) where
  -- so the rewriting is told by the tests, from the parts to the whole
  of_parts : (p : StateTree) (l : LaterTree) (x y : ℕ) → is_name p x ≡ true → is_term_name l.term y ≡ true → Rewritten q (let_state w s a (let_cat_state x y w (cat_state p l))) a
  of_parts p l x y h k = subst (λ o. Rewritten q (let_state w s a (let_cat_state x y w (cat_state o l))) a) (sym (named_state p x h)) (row (named l.term y k) n m)

  of_row : (b : StateTree) (x y : ℕ) → is_row b x y ≡ true → Rewritten q (let_state w s a (let_cat_state x y w b)) a
  of_row (cat_state p l) x y h = of_parts p l x y (and_first (is_name p x) (is_term_name l.term y) h) (and_second (is_name p x) (is_term_name l.term y) h)
  of_row _ x y h = absurd (true≢false (sym h))

  of_let : (b : StateTree) → repeats_row b w ≡ true → Rewritten q (let_state w s a b) a
  of_let (let_cat_state x y z b) h = subst (λ u. Rewritten q (let_state w s a (let_cat_state x y u b)) a) (sym (eqb-true z w (and_first (eqb z w) (is_row b x y) h))) (of_row b x y (and_second (eqb z w) (is_row b x y) h))
  of_let _ h = absurd (true≢false (sym h))

-- a test that isn't passed
is_not : (b : Bool) → true ≡ not b → b ≡ false
is_not true h = absurd (true≢false h)
is_not false h = refl

pub row_at_all : {w : ℕ} {s : StreamType} {a b : StateTree} → true ≡ repeats_row b w → true ≡ not (null_of (cat_first s)) → true ≡ marks_at_once a → (q : StreamType) → SimplerBy q (let_state w s a b) a
row_at_all {w = w} {s = s} {a = a} {b = b} e n m q = one_more as_it_is (here (of_let q s w a (is_not (null_of (cat_first s)) n) (sym m) b (sym e)))

pub ruleset repeating = (kept_at_all, row_at_all)
