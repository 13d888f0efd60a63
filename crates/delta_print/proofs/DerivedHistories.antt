-- The grammar derives the tokens of each historical expression, at each place where it may stand.
use Rattle.std.proofs.Common.{◌≡◌, ℕ, Bool, true, false, List, [], ◌∷◌, ◌++◌, refl, subst, append_assoc}
use Rattle.std.specs.Prelude.{ℤ, pos, negsuc, suc, ◌==◌, if◌then◌else◌}
use Rattle.std.proofs.lemmas.List.{append-nil}
use Rattle.grammar.specs.Rules.{thing, list, pair, token, part, both}
use Rattle.hist_value.specs.declared.expr.Op.TheVariants.{Add, Sub, Mul, Div, Less as LessOp, Same}
use Rattle.hist_value.specs.HistExpr.{HistExpr, variable, literal, unit_expr, reckoned, pair_expr, first_expr, second_expr, left_expr, right_expr, choice, nil_expr, cons_expr, fold_expr}
use Rattle.delta_tree.specs.SyntaxTree.{WrittenHist}
use Rattle.delta_parse.specs.declared.terminal.Terminal.{Terminal}
use Rattle.delta_parse.specs.declared.terminal.Terminal.TheVariants.{CaseWord, OfWord, InlWord, InrWord, NilWord, FoldWord, FromWord, WithWord, FstWord, SndWord, OneToken, NumberToken, Open, Close, OpenBrace, CloseBrace, Comma, Colons, Equals, Arrow, Bar, Plus, Minus as MinusSign, Times, Slash, Less, Dot}
use Rattle.delta_parse.specs.Terminals.{Tok, is_kind}
use Rattle.delta_parse.specs.Parts.{history_thing, branch_thing, a_history, a_comparison, a_sum, more_summands, a_product, more_factors, a_unary, a_history_atom}
use Rattle.delta_parse.specs.Rules.{is_comparison, is_sum, is_product, is_prefix, is_number, branch_rule, sign}
use Rattle.delta_parse.specs.Actions.{hist_with, to_left, operator, prefixed_expr}
use Rattle.delta_print.specs.declared.chunk.Chunk.{Chunk}
use Rattle.delta_print.specs.declared.chunk.Chunk.TheVariants.{Fixed, Digits, Minus}
use Rattle.delta_print.specs.declared.place.HistPlace.TheVariants as hists
use Rattle.delta_print.specs.Chunks.{named}
use Rattle.delta_print.specs.Rows.{hist_row, hist_row_at, number_row, arm_row, two_row, case_row, sum_arms_row, step_row}
use Rattle.delta_print.specs.Printable.{chunk_kind, chunk_token}
use Rattle.delta_print.proofs.Deriving.{From, token_from, part_from, both_from, alone_from, left_from, right_from, none_from, some_from, placed_from, make_from, sign_from}
use Rattle.delta_print.proofs.DerivedTypes.{brackets}

-- operands behind a part, each with its sign
abbrev Operands : Type 0
Operands = List (Tok × WrittenHist)

no_factors : From {s = list (pair token (thing history_thing))} (part more_factors) [] []
no_factors = part_from more_factors (make_from none_from)

no_summands : From {s = list (pair token (thing history_thing))} (part more_summands) [] []
no_summands = part_from more_summands (make_from none_from)

factors_from : (k : Terminal) → is_product k ≡ true → (u w : List Chunk) (h : WrittenHist) (more : Operands)
    → From {s = thing history_thing} (part a_unary) u h → From {s = list (pair token (thing history_thing))} (part more_factors) w more
    → From {s = list (pair token (thing history_thing))} (part more_factors) (Fixed k ∷ (u ++ w)) ((chunk_token (Fixed k), h) ∷ more)
factors_from k is u w h more d e = part_from more_factors (make_from (some_from (both_from (both_from (token_from (Fixed k) is) d) e)))

summands_from : (k : Terminal) → is_sum k ≡ true → (u w : List Chunk) (h : WrittenHist) (more : Operands)
    → From {s = thing history_thing} (part a_product) u h → From {s = list (pair token (thing history_thing))} (part more_summands) w more
    → From {s = list (pair token (thing history_thing))} (part more_summands) (Fixed k ∷ (u ++ w)) ((chunk_token (Fixed k), h) ∷ more)
summands_from k is u w h more d e = part_from more_summands (make_from (some_from (both_from (both_from (token_from (Fixed k) is) d) e)))

-- a product with whatever factors follow, and a sum with whatever summands follow
pub record WithFactors (u : List Chunk) (h : WrittenHist) : Type 0 where
  pub behind : (w : List Chunk) (more : Operands) → From {s = list (pair token (thing history_thing))} (part more_factors) w more → From {s = thing history_thing} (part a_product) (u ++ w) (to_left 0 h more)

pub record WithSummands (u : List Chunk) (h : WrittenHist) : Type 0 where
  pub behind : (w : List Chunk) (more : Operands) → From {s = list (pair token (thing history_thing))} (part more_summands) w more → From {s = thing history_thing} (part a_sum) (u ++ w) (to_left 0 h more)

-- an expression, derived as a whole and at each place, by the rows that stand there
pub record HistStands (e : HistExpr) (whole comparison sum product unary : List Chunk) : Type 0 where
  pub is_history : From {s = thing history_thing} (part a_history) whole (hist_with 0 e)
  pub is_comparison : From {s = thing history_thing} (part a_comparison) comparison (hist_with 0 e)
  pub is_sum : WithSummands sum (hist_with 0 e)
  pub is_product : WithFactors product (hist_with 0 e)
  pub is_unary : From {s = thing history_thing} (part a_unary) unary (hist_with 0 e)

product_alone : (u : List Chunk) (h : WrittenHist) → WithFactors u h → From {s = thing history_thing} (part a_product) u h
product_alone u h d =
    let P : List Chunk → Type 0 = λ w. From {s = thing history_thing} (part a_product) w h in
    subst P (append-nil u) (d.behind [] [] no_factors)

sum_alone : (u : List Chunk) (h : WrittenHist) → WithSummands u h → From {s = thing history_thing} (part a_sum) u h
sum_alone u h d =
    let P : List Chunk → Type 0 = λ w. From {s = thing history_thing} (part a_sum) w h in
    subst P (append-nil u) (d.behind [] [] no_summands)

product_of_unary : (u : List Chunk) (h : WrittenHist) → From {s = thing history_thing} (part a_unary) u h → WithFactors u h
product_of_unary u h d = record { behind = λ w more e. part_from a_product (make_from (placed_from (both_from d e))) }

sum_of_product : (u : List Chunk) (h : WrittenHist) → WithFactors u h → WithSummands u h
sum_of_product u h d = record { behind = λ w more e. part_from a_sum (make_from (placed_from (both_from (product_alone u h d) e))) }

comparison_of_sum : (u : List Chunk) (h : WrittenHist) → WithSummands u h → From {s = thing history_thing} (part a_comparison) u h
comparison_of_sum u h d = part_from a_comparison (make_from (placed_from (alone_from (sum_alone u h d) none_from)))

history_of_comparison : (u : List Chunk) (h : WrittenHist) → From {s = thing history_thing} (part a_comparison) u h → From {s = thing history_thing} (part a_history) u h
history_of_comparison u h d = part_from a_history (right_from (right_from (make_from (placed_from (alone_from d none_from)))))

unary_of_atom : (u : List Chunk) (h : WrittenHist) → From {s = thing history_thing} (part a_history_atom) u h → From {s = thing history_thing} (part a_unary) u h
unary_of_atom u h d = part_from a_unary (right_from d)

-- what stands bare everywhere
at_unary : (u : List Chunk) (e : HistExpr) → From {s = thing history_thing} (part a_unary) u (hist_with 0 e) → HistStands e u u u u u
at_unary u e d =
    let p : WithFactors u (hist_with 0 e) = product_of_unary u _ d in
    let s : WithSummands u (hist_with 0 e) = sum_of_product u _ p in
    let c : From {s = thing history_thing} (part a_comparison) u (hist_with 0 e) = comparison_of_sum u _ s in
    record { is_history = history_of_comparison u _ c; is_comparison = c; is_sum = s; is_product = p; is_unary = d }

at_atom : (u : List Chunk) (e : HistExpr) → From {s = thing history_thing} (part a_history_atom) u (hist_with 0 e) → HistStands e u u u u u
at_atom u e d = at_unary u e (unary_of_atom u _ d)

-- in brackets it stands everywhere
in_brackets : (u : List Chunk) (e : HistExpr) → From {s = thing history_thing} (part a_history) u (hist_with 0 e) → HistStands e (brackets u) (brackets u) (brackets u) (brackets u) (brackets u)
in_brackets u e d = at_atom (brackets u) e (part_from a_history_atom (right_from (right_from (right_from (right_from (make_from (both_from (sign_from Open refl)
    (right_from (make_from (both_from d (both_from none_from (sign_from Close refl))))))))))))

at_product : (u : List Chunk) (e : HistExpr) → WithFactors u (hist_with 0 e) → HistStands e u u u u (brackets u)
at_product u e p =
    let s : WithSummands u (hist_with 0 e) = sum_of_product u _ p in
    let c : From {s = thing history_thing} (part a_comparison) u (hist_with 0 e) = comparison_of_sum u _ s in
    let h : From {s = thing history_thing} (part a_history) u (hist_with 0 e) = history_of_comparison u _ c in
    record { is_history = h; is_comparison = c; is_sum = s; is_product = p; is_unary = (in_brackets u e h).is_unary }

at_sum : (u : List Chunk) (e : HistExpr) → WithSummands u (hist_with 0 e) → HistStands e u u u (brackets u) (brackets u)
at_sum u e s =
    let c : From {s = thing history_thing} (part a_comparison) u (hist_with 0 e) = comparison_of_sum u _ s in
    let h : From {s = thing history_thing} (part a_history) u (hist_with 0 e) = history_of_comparison u _ c in
    record { is_history = h; is_comparison = c; is_sum = s; is_product = (in_brackets u e h).is_product; is_unary = (in_brackets u e h).is_unary }

at_comparison : (u : List Chunk) (e : HistExpr) → From {s = thing history_thing} (part a_comparison) u (hist_with 0 e) → HistStands e u u (brackets u) (brackets u) (brackets u)
at_comparison u e c =
    let h : From {s = thing history_thing} (part a_history) u (hist_with 0 e) = history_of_comparison u _ c in
    record { is_history = h; is_comparison = c; is_sum = (in_brackets u e h).is_sum; is_product = (in_brackets u e h).is_product; is_unary = (in_brackets u e h).is_unary }

at_history : (u : List Chunk) (e : HistExpr) → From {s = thing history_thing} (part a_history) u (hist_with 0 e) → HistStands e u (brackets u) (brackets u) (brackets u) (brackets u)
at_history u e h =
    record { is_history = h; is_comparison = (in_brackets u e h).is_comparison; is_sum = (in_brackets u e h).is_sum; is_product = (in_brackets u e h).is_product; is_unary = (in_brackets u e h).is_unary }

-- an operation of each level
reckoned_product : (k : Terminal) → is_product k ≡ true → (u w : List Chunk) (a b : HistExpr)
    → WithFactors u (hist_with 0 a) → From {s = thing history_thing} (part a_unary) w (hist_with 0 b) → WithFactors (u ++ Fixed k ∷ w) (hist_with 0 (reckoned (operator k) a b))
reckoned_product k is u w a b d e = record { behind = λ more ms f. rw append_assoc (d.behind (Fixed k ∷ (w ++ more)) _ (factors_from k is w more (hist_with 0 b) ms e f)) }

reckoned_sum : (k : Terminal) → is_sum k ≡ true → (u w : List Chunk) (a b : HistExpr)
    → WithSummands u (hist_with 0 a) → WithFactors w (hist_with 0 b) → WithSummands (u ++ Fixed k ∷ w) (hist_with 0 (reckoned (operator k) a b))
reckoned_sum k is u w a b d e = record { behind = λ more ms f. rw append_assoc (d.behind (Fixed k ∷ (w ++ more)) _ (summands_from k is w more (hist_with 0 b) ms (product_alone w _ e) f)) }

reckoned_comparison : (k : Terminal) → is_comparison k ≡ true → (u w : List Chunk) (a b : HistExpr)
    → WithSummands u (hist_with 0 a) → WithSummands w (hist_with 0 b) → From {s = thing history_thing} (part a_comparison) (u ++ Fixed k ∷ w) (hist_with 0 (reckoned (operator k) a b))
reckoned_comparison k is u w a b d e =
    part_from a_comparison (make_from (placed_from (both_from (sum_alone u _ d) (some_from (both_from (token_from (Fixed k) is) (sum_alone w _ e))))))

prefixed_from : (k : Terminal) → is_prefix k ≡ true → (u : List Chunk) (a : HistExpr) → From {s = thing history_thing} (part a_unary) u (hist_with 0 a)
    → From {s = thing history_thing} (part a_unary) (Fixed k ∷ u) (hist_with 0 (prefixed_expr k a))
prefixed_from k is u a d = part_from a_unary (left_from (make_from (both_from (token_from (Fixed k) is) d)))

-- a number is a number whether it is 1 or not
digits_kind : (n : ℕ) → is_number (chunk_kind (Digits n)) ≡ true
digits_kind n = let P : Bool → Type 0 = λ b. is_number (if b then OneToken else NumberToken) ≡ true in
    elim (n == 1) as P [ true ↦ refl | false ↦ refl ]

number_from : (n : ℤ) → From {s = thing history_thing} (part a_history_atom) (number_row n) (hist_with 0 (literal n))
number_from (pos n) = part_from a_history_atom (right_from (left_from (make_from (token_from (Digits n) (digits_kind n)))))
number_from (negsuc n) = part_from a_history_atom (right_from (right_from (left_from (make_from (both_from (token_from Minus refl) (token_from (Digits (suc n)) (digits_kind (suc n))))))))

pair_from : (u w : List Chunk) (a b : HistExpr) → From {s = thing history_thing} (part a_history) u (hist_with 0 a) → From {s = thing history_thing} (part a_history) w (hist_with 0 b)
    → From {s = thing history_thing} (part a_history_atom) (two_row Comma u w) (hist_with 0 (pair_expr a b))
pair_from u w a b d e =
    part_from a_history_atom (right_from (right_from (right_from (right_from (make_from (both_from (sign_from Open refl)
    (right_from (make_from (both_from d (both_from (some_from (both_from (sign_from Comma refl) e)) (sign_from Close refl)))))))))))

branch_from : (k : Terminal) → is_kind k k ≡ true → (x : ℕ) (u : List Chunk) (a : HistExpr) → From {s = thing history_thing} (part a_history) u (hist_with 0 a)
    → From {s = thing branch_thing} (branch_rule k) (Fixed k ∷ arm_row x u) (x, hist_with 0 a)
branch_from k h x u a d = make_from (both_from (sign_from k h) (both_from (token_from (named x) refl) (both_from (sign_from Arrow refl) d)))

branches_from : (w v : List Chunk) (x y : ℕ) (b c : HistExpr) → From {s = thing history_thing} (part a_history) w (hist_with 0 b) → From {s = thing history_thing} (part a_history) v (hist_with 0 c)
    → From {s = pair (thing branch_thing) (pair token (pair (thing branch_thing) token))} (both (branch_rule InlWord) (both (sign Bar) (both (branch_rule InrWord) (sign CloseBrace))))
    (sum_arms_row x w y v ++ Fixed CloseBrace ∷ []) ((x, hist_with 0 b), (chunk_token (Fixed Bar), ((y, hist_with 0 c), chunk_token (Fixed CloseBrace))))
branches_from w v x y b c e f =
    rw append_assoc (both_from (branch_from InlWord refl x w b e) (both_from (sign_from Bar refl) (both_from (branch_from InrWord refl y v c f) (sign_from CloseBrace refl))))

choice_from : (u w v : List Chunk) (x y : ℕ) (a b c : HistExpr) → From {s = thing history_thing} (part a_history) u (hist_with 0 a)
    → From {s = thing history_thing} (part a_history) w (hist_with 0 b) → From {s = thing history_thing} (part a_history) v (hist_with 0 c)
    → From {s = thing history_thing} (part a_history) (case_row u (sum_arms_row x w y v)) (hist_with 0 (choice a x b y c))
choice_from u w v x y a b c d e f =
    part_from a_history (right_from (left_from (make_from (both_from (sign_from CaseWord refl) (both_from d (both_from (sign_from OfWord refl) (both_from (sign_from OpenBrace refl)
    (branches_from w v x y b c e f))))))))

fold_from : (u w v : List Chunk) (x y : ℕ) (a s b : HistExpr) → From {s = thing history_thing} (part a_history) u (hist_with 0 a)
    → From {s = thing history_thing} (part a_history) w (hist_with 0 s) → From {s = thing history_thing} (part a_history) v (hist_with 0 b)
    → From {s = thing history_thing} (part a_history) (Fixed FoldWord ∷ (u ++ (Fixed FromWord ∷ (w ++ step_row x y v)))) (hist_with 0 (fold_expr a s x y b))
fold_from u w v x y a s b d e f =
    part_from a_history (left_from (make_from (both_from (sign_from FoldWord refl) (both_from d (both_from (sign_from FromWord refl) (both_from e
    (both_from (sign_from WithWord refl) (both_from (token_from (named x) refl) (both_from (sign_from Comma refl) (both_from (token_from (named y) refl) (both_from (sign_from Dot refl) f)))))))))))

cons_from : (u w : List Chunk) (a b : HistExpr) → From {s = thing history_thing} (part a_comparison) u (hist_with 0 a) → From {s = thing history_thing} (part a_history) w (hist_with 0 b)
    → From {s = thing history_thing} (part a_history) (u ++ Fixed Colons ∷ w) (hist_with 0 (cons_expr a b))
cons_from u w a b d e = part_from a_history (right_from (right_from (make_from (placed_from (both_from d (some_from (both_from (sign_from Colons refl) e)))))))

-- the tokens of each historical expression are derived
pub hist_stands : (e : HistExpr) → HistStands e (hist_row e) (hist_row_at hists.Comparison e) (hist_row_at hists.Sum e) (hist_row_at hists.Product e) (hist_row_at hists.Unary e)
hist_stands (variable x) = at_atom _ _ (part_from a_history_atom (left_from (make_from (token_from (named x) refl))))
hist_stands (literal n) = at_atom _ _ (number_from n)
hist_stands unit_expr = at_atom _ _ (part_from a_history_atom (right_from (right_from (right_from (right_from (make_from (both_from (sign_from Open refl) (left_from (make_from (sign_from Close refl))))))))))
hist_stands (reckoned Add a b) = at_sum _ _ (reckoned_sum Plus refl _ _ a b (hist_stands a).is_sum (hist_stands b).is_product)
hist_stands (reckoned Sub a b) = at_sum _ _ (reckoned_sum MinusSign refl _ _ a b (hist_stands a).is_sum (hist_stands b).is_product)
hist_stands (reckoned Mul a b) = at_product _ _ (reckoned_product Times refl _ _ a b (hist_stands a).is_product (hist_stands b).is_unary)
hist_stands (reckoned Div a b) = at_product _ _ (reckoned_product Slash refl _ _ a b (hist_stands a).is_product (hist_stands b).is_unary)
hist_stands (reckoned LessOp a b) = at_comparison _ _ (reckoned_comparison Less refl _ _ a b (hist_stands a).is_sum (hist_stands b).is_sum)
hist_stands (reckoned Same a b) = at_comparison _ _ (reckoned_comparison Equals refl _ _ a b (hist_stands a).is_sum (hist_stands b).is_sum)
hist_stands (pair_expr a b) = at_atom _ _ (pair_from _ _ a b (hist_stands a).is_history (hist_stands b).is_history)
hist_stands (first_expr a) = at_unary _ _ (prefixed_from FstWord refl _ a (hist_stands a).is_unary)
hist_stands (second_expr a) = at_unary _ _ (prefixed_from SndWord refl _ a (hist_stands a).is_unary)
hist_stands (left_expr a) = at_unary _ _ (prefixed_from InlWord refl _ a (hist_stands a).is_unary)
hist_stands (right_expr a) = at_unary _ _ (prefixed_from InrWord refl _ a (hist_stands a).is_unary)
hist_stands (choice a x b y c) = at_history _ _ (choice_from _ _ _ x y a b c (hist_stands a).is_history (hist_stands b).is_history (hist_stands c).is_history)
hist_stands nil_expr = at_atom _ _ (part_from a_history_atom (right_from (right_from (right_from (left_from (make_from (sign_from NilWord refl)))))))
hist_stands (cons_expr a b) = at_history _ _ (cons_from _ _ a b (hist_stands a).is_comparison (hist_stands b).is_history)
hist_stands (fold_expr a s x y b) = at_history _ _ (fold_from _ _ _ x y a s b (hist_stands a).is_history (hist_stands s).is_history (hist_stands b).is_history)
