-- The sizes of numbers that are put out in turn.
use Rattle.std.proofs.Common.{◌≡◌, ◌∙◌, ◌<◌, ◌≤◌, ◌+◌, ℕ, List, [], ◌∷◌, ◌++◌, map, length, take, get_or, ap, sym, subst, arith, length-append}
use Rattle.std.specs.Prelude.{⊤}
use Rattle.std.specs.List.{AllByRecursion, concat}
use Rattle.std.proofs.lemmas.List.{map-append, take_all, take_more, map-id}
use Rattle.stream_type.specs.StreamType.{eps, one, int, cat, par, sum, star}
use Rattle.stream_prefix.specs.StreamPrefix.{eps_emp, one_emp, one_full, int_emp, int_full, par_both, cat_fst, cat_both, sum_emp, in_left, in_right, star_emp, star_done, star_first, star_rest}
use Rattle.hist_value.specs.HistValue.{unit_value, number, pair_of, left_of, right_of, no_items, item_before}
use Rattle.hist_value.specs.HistExpr.{variable, literal, unit_expr, reckoned, pair_expr, first_expr, second_expr, left_expr, right_expr, choice, nil_expr, cons_expr, fold_expr}
use Rattle.kept_state.specs.KeptBytes.{short_bytes, list_bytes, bool_bytes, type_bytes, prefix_bytes, value_bytes, expr_bytes, known_bytes, held_name_bytes}
use Rattle.kept_state.specs.KeptSizes.{FitsShort}
use Rattle.delta_keep.specs.declared.output.Output.{Output}
use Rattle.delta_keep.specs.Putting.{Puts, IsCounted}
use Rattle.delta_keep.specs.Reads.{FitsList}
use Rattle.delta_keep.specs.Written.{written_node, written_argument}
use Rattle.delta_keep.proofs.Lists.{items_bytes}
use Rattle.delta_keep.proofs.PutInTurn.{puts_more}
use Rattle.delta_keep.proofs.ReadLists.{all_more}

-- what was put out before can be counted too,
pub before : {o0 o1 : Output} {a : List ℕ} → Puts o0 o1 a → IsCounted o1 → IsCounted o0
before {o0} {o1} {a} p n =
    record { whole = p.begun n.whole; few = let e = ap length (p.put n.whole) ∙ length-append o0.bytes.items a in omega (arith, e, n.few) }

-- so what holds where it can be holds with what holds where all of it can
pub both : {F G : Type 0} {o0 o1 : Output} {a : List ℕ} → (IsCounted o0 → F) → Puts o0 o1 a → (IsCounted o1 → G) → IsCounted o1 → F × G
both f p g n = (f (before p n), g n)

-- and what holds of a value holds of what is the same
pub fits_as : {A : Type 0} (Fits : A → Type 0) {o : Output} {x y : A} → x ≡ y → (IsCounted o → Fits y) → IsCounted o → Fits x
fits_as Fits q f n = subst Fits (sym q) (f n)

-- there is a byte
abbrev pub HasByte : List ℕ → Type 0
HasByte [] = ⊥
HasByte (b ∷ bs) = ⊤

one_byte : (bs : List ℕ) → HasByte bs → 1 ≤ length bs
one_byte [] h = absurd h
one_byte (b ∷ bs) h = omega arith

-- each item has a byte at least
abbrev pub Filled : {B : Type 0} → (B → List ℕ) → Type 0
Filled {B} f = (y : B) → HasByte (f y)

pub bool_filled : Filled bool_bytes
bool_filled b = tt

pub type_filled : Filled type_bytes
type_filled eps = tt
type_filled one = tt
type_filled int = tt
type_filled (cat a b) = tt
type_filled (par a b) = tt
type_filled (sum a b) = tt
type_filled (star a) = tt

pub prefix_filled : Filled prefix_bytes
prefix_filled eps_emp = tt
prefix_filled one_emp = tt
prefix_filled one_full = tt
prefix_filled int_emp = tt
prefix_filled (int_full n) = tt
prefix_filled (par_both p q) = tt
prefix_filled (cat_fst p) = tt
prefix_filled (cat_both p q) = tt
prefix_filled sum_emp = tt
prefix_filled (in_left p) = tt
prefix_filled (in_right p) = tt
prefix_filled star_emp = tt
prefix_filled star_done = tt
prefix_filled (star_first p) = tt
prefix_filled (star_rest p q) = tt

pub value_filled : Filled value_bytes
value_filled unit_value = tt
value_filled (number n) = tt
value_filled (pair_of v w) = tt
value_filled (left_of v) = tt
value_filled (right_of v) = tt
value_filled no_items = tt
value_filled (item_before v w) = tt

pub expr_filled : Filled expr_bytes
expr_filled (variable x) = tt
expr_filled (literal n) = tt
expr_filled unit_expr = tt
expr_filled (reckoned o a b) = tt
expr_filled (pair_expr a b) = tt
expr_filled (first_expr a) = tt
expr_filled (second_expr a) = tt
expr_filled (left_expr a) = tt
expr_filled (right_expr a) = tt
expr_filled (choice a x b y c) = tt
expr_filled nil_expr = tt
expr_filled (cons_expr a b) = tt
expr_filled (fold_expr a s x y b) = tt

pub known_filled : Filled known_bytes
known_filled e = tt

pub held_filled : Filled held_name_bytes
held_filled h = tt

pub node_filled : Filled written_node
node_filled n = tt

pub argument_filled : Filled written_argument
argument_filled a = tt

-- so there are no more items than bytes
items_within : {B : Type 0} (f : B → List ℕ) → Filled f → (ys : List B) → length ys ≤ length (concat (map f ys))
items_within f h [] = omega arith
items_within f h (y ∷ ys) = let e = one_byte (f y) (h y) in let k = items_within f h ys in let l = length-append (f y) (concat (map f ys)) in omega (arith, e, k, l)

-- the items of a list that was put out can be counted,
pub count_fits : {B : Type 0} (f : B → List ℕ) (ys : List B) {o0 o1 : Output} → Filled f → Puts o0 o1 (concat (map f ys)) → IsCounted o1 → FitsShort (length ys)
count_fits f ys {o0} {o1} h p n =
    let e = ap length (p.put n.whole) ∙ length-append o0.bytes.items (concat (map f ys)) in
    let k = items_within f h ys in
    omega (arith, e, k, n.few)

-- also where their number stands before them
pub list_fits_count : {B : Type 0} (f : B → List ℕ) (ys : List B) {o0 o1 : Output} → Filled f → Puts o0 o1 (list_bytes f ys) → IsCounted o1 → FitsShort (length ys)
list_fits_count f ys {o0} {o1} h p n =
    let e = ap length (p.put n.whole) ∙ length-append o0.bytes.items (list_bytes f ys) in
    let l = length-append (short_bytes (length ys)) (concat (map f ys)) in
    let k = items_within f h ys in
    omega (arith, e, l, k, n.few)

-- some items were put out, and the numbers in them have their sizes
pub record PutSome {A B : Type 0} (f : B → List ℕ) (g : A → B) (Fits : B → Type 0) (start out : Output) (xs : List A) : Type 0 where
  pub puts : Puts start out (items_bytes f g xs)
  pub sizes : IsCounted out → AllByRecursion Fits (map g xs)

-- then one more,
pub some_more : {A B : Type 0} (f : B → List ℕ) (g : A → B) (Fits : B → Type 0) (xs : List A) (i : ℕ) (x : A) {start out next : Output} → i < length xs → x ≡ get_or xs i x
    → PutSome f g Fits start out (take i xs) → Puts out next (f (g x)) → (IsCounted next → Fits (g x)) → PutSome f g Fits start next (take (i + 1) xs)
some_more f g Fits xs i x {start} {out} {next} h is p q s = record {
  puts = puts_more f g xs i x h is p.puts q;
  sizes =
      λ n. subst (AllByRecursion Fits) (sym (map-append g (take i xs) (x ∷ [])) ∙ ap (map g) (ap (λ y. take i xs ++ y ∷ []) is ∙ sym (take_more xs i x h)))
      (all_more Fits (map g (take i xs)) (g x) (p.sizes (before q n)) (s n));
}

-- and then all, and they can be counted
pub some_all : {A B : Type 0} (f : B → List ℕ) (g : A → B) (Fits : B → Type 0) (xs : List A) (i : ℕ) {start out : Output} → Filled f → length xs ≤ i → PutSome f g Fits start out (take i xs) → IsCounted out
    → FitsList Fits (map g xs)
some_all f g Fits xs i {start} {out} h l p n =
    let all : take i xs ≡ xs = take_all i xs l in
    let these : PutSome f g Fits start out xs = subst (λ ys. PutSome f g Fits start out ys) all p in
    (count_fits f (map g xs) h these.puts n, these.sizes n)

-- the same where the items stand for themselves
pub all_themselves : {A : Type 0} (f : A → List ℕ) (Fits : A → Type 0) (xs : List A) (i : ℕ) {start out : Output} → Filled f → length xs ≤ i → PutSome f (λ x. x) Fits start out (take i xs) → IsCounted out
    → FitsList Fits xs
all_themselves f Fits xs i h l p n = subst (FitsList Fits) (map-id xs) (some_all f (λ x. x) Fits xs i h l p n)
