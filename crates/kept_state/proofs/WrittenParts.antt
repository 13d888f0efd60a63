-- What is written of each part of a kept state fills what is awaited there.
use Rattle.std.proofs.Common.{◌≡◌, ◌∙◌, ◌≤◌, ◌+◌, ℕ, suc, Bool, true, false, List, [], ◌∷◌, ◌++◌, length, drop, ap, refl, subst, sym, arith, append_assoc}
use Rattle.std.specs.Prelude.{Some}
use Rattle.stream_type.specs.StreamType.{StreamType, eps, one, int, cat, par, sum, star}
use Rattle.stream_prefix.specs.StreamPrefix.{StreamPrefix, eps_emp, one_emp, one_full, int_emp, int_full, par_both, cat_fst, cat_both, sum_emp, in_left, in_right, star_emp, star_done, star_first, star_rest}
use Rattle.hist_value.specs.declared.expr.Op.{Op}
use Rattle.hist_value.specs.declared.expr.Op.TheVariants.{Add, Sub, Mul, Div, Less, Same}
use Rattle.hist_value.specs.HistValue.{HistValue, unit_value, number, pair_of, left_of, right_of, no_items, item_before}
use Rattle.hist_value.specs.HistExpr.{HistExpr, variable, literal, unit_expr, reckoned, pair_expr, first_expr, second_expr, left_expr, right_expr, choice, nil_expr, cons_expr, fold_expr}
use Rattle.core_term.specs.CoreTerm.{CoreTerm, CoreTerms, var_term, eps_term, unit_term, nil_term, past_term, par_term, cat_term, cons_term, inl_term, inr_term, let_term, let_par_term, let_cat_term, case_sum_term, case_star_term, wait_term, call_term, no_terms, term_before, term_count}
use Rattle.delta_state.specs.StateTree.{Known, HeldName, LaterTree, StateTree, ArgumentTrees, sink, var_state, par_state, cat_state, let_state, let_par_state, let_cat_state, sum_state, star_state, wait_state, frame_state, no_arguments, argument_before, argument_names}
use Rattle.kept_state.specs.KeptBytes.{short_bytes, long_bytes, int_bytes, list_bytes, bool_bytes, type_bytes, whole_items, prefix_bytes, rest_bytes, item_count, value_bytes, items_bytes, op_byte, expr_bytes, places_behind, node_bytes, inside, term_bytes, terms_bytes, known_bytes, held_name_bytes, later_bytes, nodes_in_state, nodes_in_arguments, state_bytes, arguments_bytes}
use Rattle.kept_state.specs.KeptForm.{Kind, bool_kind, type_kind, prefix_kind, end_kind, value_kind, op_kind, expr_kind, term_kind, state_kind, bool_item, type_item, prefix_item, value_item, expr_item, node_item, known_item, held_item, argument_item, Part, any, form, form_at, forms_of, list_part, node_parts, later_parts}
use Rattle.kept_state.proofs.FilledParts.{Fills, FillItems, fills_nil, fills_both, fills_form, fills_any, fill_no_items, fill_more_items, fills_counted, fills_list}

-- what fills a form has a byte
some : (kind : Kind) (bs : List ℕ) → Fills (form kind ∷ []) bs → 1 ≤ length bs
some kind [] h = absurd (let clash = h.at (omega arith) [] 0 [] in cc clash)
some kind (b ∷ bs) h = omega arith

-- a form without fields
alone : (kind : Kind) (byte : ℕ) (h : form_at (forms_of kind) byte ≡ Some []) → Fills (form kind ∷ []) (byte ∷ [])
alone kind byte h = fills_form kind byte [] [] h fills_nil

-- two parts of one kind
two : (kind : Kind) (a b : List ℕ) → Fills (form kind ∷ []) a → Fills (form kind ∷ []) b → Fills (form kind ∷ form kind ∷ []) (a ++ b)
two kind a b h k = fills_both (form kind ∷ []) (form kind ∷ []) a b h k

-- a part, and others behind it
form_before : (kind : Kind) (qs : List Part) (a bs : List ℕ) → Fills (form kind ∷ []) a → Fills qs bs → Fills (form kind ∷ qs) (a ++ bs)
form_before kind qs a bs h k = fills_both (form kind ∷ []) qs a bs h k

-- a name, or the number of a function, and others behind it
name_before : (qs : List Part) (x : ℕ) (bs : List ℕ) → Fills qs bs → Fills (any 4 ∷ qs) (short_bytes x ++ bs)
name_before qs x bs k = fills_both (any 4 ∷ []) qs (short_bytes x) bs (fills_any (short_bytes x)) k

-- types
pub type_fills : (t : StreamType) → Fills (form type_kind ∷ []) (type_bytes t)
type_fills eps = alone type_kind 0 refl
type_fills one = alone type_kind 1 refl
type_fills int = alone type_kind 2 refl
type_fills (cat a b) = fills_form type_kind 3 _ _ refl (two type_kind _ _ (type_fills a) (type_fills b))
type_fills (par a b) = fills_form type_kind 4 _ _ refl (two type_kind _ _ (type_fills a) (type_fills b))
type_fills (sum a b) = fills_form type_kind 5 _ _ refl (two type_kind _ _ (type_fills a) (type_fills b))
type_fills (star a) = fills_form type_kind 6 _ _ refl (type_fills a)

-- the types left of main's parameters
pub types_fill : (ts : List StreamType) → Fills (list_part type_item ∷ []) (list_bytes type_bytes ts)
types_fill ts = fills_list type_item type_bytes type_fills (λ t. some type_kind (type_bytes t) (type_fills t)) ts

-- a mark
bool_fills : (b : Bool) → Fills (form bool_kind ∷ []) (bool_bytes b)
bool_fills true = alone bool_kind 1 refl
bool_fills false = alone bool_kind 0 refl

-- the marks of the semicolons
pub bools_fill : (bs : List Bool) → Fills (list_part bool_item ∷ []) (list_bytes bool_bytes bs)
bools_fill bs = fills_list bool_item bool_bytes bool_fills (λ b. omega arith) bs

-- the bytes of what follows the first item of a star: its whole items, and what stands after them
record RestFills (q : StreamPrefix) : Type 0 where
  whole : List ℕ
  last : List ℕ
  is_both : rest_bytes q ≡ whole ++ last
  whole_fills : FillItems (whole_items q) prefix_item whole
  last_fills : Fills (form end_kind ∷ []) last

-- there are no whole items
no_whole : (q : StreamPrefix) (last : List ℕ) → rest_bytes q ≡ last → whole_items q ≡ 0 → Fills (form end_kind ∷ []) last → RestFills q
no_whole q last e z h = record { whole = []; last = last; is_both = e; whole_fills = subst (λ k. FillItems k prefix_item []) (sym z) (fill_no_items prefix_item); last_fills = h }

-- nor anything after them
nothing : (q : StreamPrefix) → rest_bytes q ≡ 0 ∷ [] → whole_items q ≡ 0 → RestFills q
nothing q e z = no_whole q (0 ∷ []) e z (alone end_kind 0 refl)

-- a star of which no item is whole
star_fills : (last : List ℕ) → Fills (form end_kind ∷ []) last → Fills (form prefix_kind ∷ []) (11 ∷ short_bytes 0 ++ last)
star_fills last h = fills_form prefix_kind 11 _ _ refl (fills_both (list_part prefix_item ∷ []) (form end_kind ∷ []) (short_bytes 0) last (fills_counted prefix_item 0 [] (fill_no_items prefix_item)) h)

-- a whole item in front
whole_before : (p q : StreamPrefix) → Fills (form prefix_kind ∷ []) (prefix_bytes p) → RestFills q → RestFills (star_rest p q)
whole_before p q h r = record {
  whole = prefix_bytes p ++ r.whole;
  last = r.last;
  is_both = ap (λ w. prefix_bytes p ++ w) r.is_both ∙ sym (append_assoc (prefix_bytes p) r.whole r.last);
  whole_fills = fill_more_items prefix_item (whole_items q) (prefix_bytes p) r.whole h (some prefix_kind (prefix_bytes p) h) r.whole_fills;
  last_fills = r.last_fills;
}

-- a star with a whole item in front
items_fill : (p q : StreamPrefix) → RestFills (star_rest p q) → Fills (form prefix_kind ∷ []) (prefix_bytes (star_rest p q))
items_fill p q r =
    let count = short_bytes (suc (whole_items q)) in
    let same : (count ++ r.whole) ++ r.last ≡ count ++ (prefix_bytes p ++ rest_bytes q) = append_assoc count r.whole r.last ∙ ap (λ w. count ++ w) (sym r.is_both) in
    fills_form prefix_kind 11 (list_part prefix_item ∷ form end_kind ∷ []) (count ++ (prefix_bytes p ++ rest_bytes q)) refl
    (subst (Fills (list_part prefix_item ∷ form end_kind ∷ [])) same
    (fills_both (list_part prefix_item ∷ []) (form end_kind ∷ []) (count ++ r.whole) r.last (fills_counted prefix_item (suc (whole_items q)) r.whole r.whole_fills) r.last_fills))

mutual
  -- prefixes
  pub prefix_fills : (p : StreamPrefix) → Fills (form prefix_kind ∷ []) (prefix_bytes p)
  prefix_fills eps_emp = alone prefix_kind 0 refl
  prefix_fills one_emp = alone prefix_kind 1 refl
  prefix_fills one_full = alone prefix_kind 2 refl
  prefix_fills int_emp = alone prefix_kind 3 refl
  prefix_fills (int_full n) = fills_form prefix_kind 4 _ _ refl (fills_any (int_bytes n))
  prefix_fills (par_both p q) = fills_form prefix_kind 5 _ _ refl (two prefix_kind _ _ (prefix_fills p) (prefix_fills q))
  prefix_fills (cat_fst p) = fills_form prefix_kind 6 _ _ refl (prefix_fills p)
  prefix_fills (cat_both p q) = fills_form prefix_kind 7 _ _ refl (two prefix_kind _ _ (prefix_fills p) (prefix_fills q))
  prefix_fills sum_emp = alone prefix_kind 8 refl
  prefix_fills (in_left p) = fills_form prefix_kind 9 _ _ refl (prefix_fills p)
  prefix_fills (in_right p) = fills_form prefix_kind 10 _ _ refl (prefix_fills p)
  prefix_fills star_emp = star_fills (0 ∷ []) (alone end_kind 0 refl)
  prefix_fills star_done = star_fills (1 ∷ []) (alone end_kind 1 refl)
  prefix_fills (star_first p) = star_fills (2 ∷ prefix_bytes p) (fills_form end_kind 2 _ _ refl (prefix_fills p))
  prefix_fills (star_rest p q) = items_fill p q (whole_before p q (prefix_fills p) (rest_fills q))

  -- what follows a first item
  rest_fills : (q : StreamPrefix) → RestFills q
  rest_fills (star_rest p q) = whole_before p q (prefix_fills p) (rest_fills q)
  rest_fills star_done = no_whole star_done (1 ∷ []) refl refl (alone end_kind 1 refl)
  rest_fills (star_first p) = no_whole (star_first p) (2 ∷ prefix_bytes p) refl refl (fills_form end_kind 2 _ _ refl (prefix_fills p))
  rest_fills eps_emp = nothing eps_emp refl refl
  rest_fills one_emp = nothing one_emp refl refl
  rest_fills one_full = nothing one_full refl refl
  rest_fills int_emp = nothing int_emp refl refl
  rest_fills (int_full n) = nothing (int_full n) refl refl
  rest_fills (par_both p q) = nothing (par_both p q) refl refl
  rest_fills (cat_fst p) = nothing (cat_fst p) refl refl
  rest_fills (cat_both p q) = nothing (cat_both p q) refl refl
  rest_fills sum_emp = nothing sum_emp refl refl
  rest_fills (in_left p) = nothing (in_left p) refl refl
  rest_fills (in_right p) = nothing (in_right p) refl refl
  rest_fills star_emp = nothing star_emp refl refl

-- an item in front of others
value_before : (v w : HistValue) → Fills (form value_kind ∷ []) (value_bytes v) → FillItems (item_count w) value_item (items_bytes w) → FillItems (suc (item_count w)) value_item (value_bytes v ++ items_bytes w)
value_before v w h k = fill_more_items value_item (item_count w) (value_bytes v) (items_bytes w) h (some value_kind (value_bytes v) h) k

mutual
  -- values
  pub value_fills : (v : HistValue) → Fills (form value_kind ∷ []) (value_bytes v)
  value_fills unit_value = alone value_kind 0 refl
  value_fills (number n) = fills_form value_kind 1 _ _ refl (fills_any (int_bytes n))
  value_fills (pair_of v w) = fills_form value_kind 2 _ _ refl (two value_kind _ _ (value_fills v) (value_fills w))
  value_fills (left_of v) = fills_form value_kind 3 _ _ refl (value_fills v)
  value_fills (right_of v) = fills_form value_kind 4 _ _ refl (value_fills v)
  value_fills no_items = fills_form value_kind 5 _ _ refl (fills_counted value_item 0 [] (fill_no_items value_item))
  value_fills (item_before v w) = fills_form value_kind 5 _ _ refl (fills_counted value_item (suc (item_count w)) (value_bytes v ++ items_bytes w) (value_before v w (value_fills v) (values_fill w)))

  -- the items of a value that is a list
  values_fill : (w : HistValue) → FillItems (item_count w) value_item (items_bytes w)
  values_fill (item_before v w) = value_before v w (value_fills v) (values_fill w)
  values_fill unit_value = fill_no_items value_item
  values_fill (number n) = fill_no_items value_item
  values_fill (pair_of v w) = fill_no_items value_item
  values_fill (left_of v) = fill_no_items value_item
  values_fill (right_of v) = fill_no_items value_item
  values_fill no_items = fill_no_items value_item

-- operations
op_fills : (o : Op) → Fills (form op_kind ∷ []) (op_byte o ∷ [])
op_fills Add = alone op_kind 0 refl
op_fills Sub = alone op_kind 1 refl
op_fills Mul = alone op_kind 2 refl
op_fills Div = alone op_kind 3 refl
op_fills Less = alone op_kind 4 refl
op_fills Same = alone op_kind 5 refl

-- historical expressions
pub expr_fills : (m : HistExpr) → Fills (form expr_kind ∷ []) (expr_bytes m)
expr_fills (variable x) = fills_form expr_kind 0 _ _ refl (fills_any (short_bytes x))
expr_fills (literal n) = fills_form expr_kind 1 _ _ refl (fills_any (int_bytes n))
expr_fills unit_expr = alone expr_kind 2 refl
expr_fills (reckoned o a b) = fills_form expr_kind 3 _ _ refl (form_before op_kind _ _ _ (op_fills o) (two expr_kind _ _ (expr_fills a) (expr_fills b)))
expr_fills (pair_expr a b) = fills_form expr_kind 4 _ _ refl (two expr_kind _ _ (expr_fills a) (expr_fills b))
expr_fills (first_expr a) = fills_form expr_kind 5 _ _ refl (expr_fills a)
expr_fills (second_expr a) = fills_form expr_kind 6 _ _ refl (expr_fills a)
expr_fills (left_expr a) = fills_form expr_kind 7 _ _ refl (expr_fills a)
expr_fills (right_expr a) = fills_form expr_kind 8 _ _ refl (expr_fills a)
expr_fills (choice a x b y c) = fills_form expr_kind 9 _ _ refl (form_before expr_kind _ _ _ (expr_fills a) (name_before _ x _ (form_before expr_kind _ _ _ (expr_fills b) (name_before _ y _ (expr_fills c)))))
expr_fills nil_expr = alone expr_kind 10 refl
expr_fills (cons_expr a b) = fills_form expr_kind 11 _ _ refl (two expr_kind _ _ (expr_fills a) (expr_fills b))
expr_fills (fold_expr a s x y b) = fills_form expr_kind 12 _ _ refl (form_before expr_kind _ _ _ (expr_fills a) (form_before expr_kind _ _ _ (expr_fills s) (name_before _ x _ (name_before _ y _ (expr_fills b)))))

-- lists of historical expressions
exprs_fill : (ms : List HistExpr) → Fills (list_part expr_item ∷ []) (list_bytes expr_bytes ms)
exprs_fill ms = fills_list expr_item expr_bytes expr_fills (λ m. some expr_kind (expr_bytes m) (expr_fills m)) ms

-- a node
node_fills : (places term : List ℕ) → Fills (form term_kind ∷ []) term → Fills node_parts (node_bytes places term)
node_fills places term h = name_before (form term_kind ∷ []) _ term h

-- two nodes
two_nodes : (places others a b : List ℕ) → Fills (form term_kind ∷ []) a → Fills (form term_kind ∷ []) b → Fills (node_parts ++ node_parts) (node_bytes places a ++ node_bytes others b)
two_nodes places others a b h k = fills_both node_parts node_parts _ _ (node_fills places a h) (node_fills others b k)

-- a node, and other parts behind it
node_before : (qs : List Part) (a bs : List ℕ) → Fills node_parts a → Fills qs bs → Fills (node_parts ++ qs) (a ++ bs)
node_before qs a bs h k = fills_both node_parts qs a bs h k

-- a type and other parts behind it
type_before : (qs : List Part) (t : StreamType) (bs : List ℕ) → Fills qs bs → Fills (form type_kind ∷ qs) (type_bytes t ++ bs)
type_before qs t bs k = form_before type_kind qs (type_bytes t) bs (type_fills t) k

mutual
  -- terms
  pub term_fills : (e : CoreTerm) (places : List ℕ) → Fills (form term_kind ∷ []) (term_bytes e places)
  term_fills (var_term x) places = fills_form term_kind 0 _ _ refl (fills_any (short_bytes x))
  term_fills eps_term places = alone term_kind 1 refl
  term_fills unit_term places = alone term_kind 2 refl
  term_fills (past_term m) places = fills_form term_kind 3 _ _ refl (expr_fills m)
  term_fills (par_term a b) places = fills_form term_kind 4 _ _ refl (two_nodes places (places_behind a places) _ _ (term_fills a (inside places)) (term_fills b (inside (places_behind a places))))
  term_fills (cat_term a b) places = fills_form term_kind 5 _ _ refl (two_nodes places (places_behind a places) _ _ (term_fills a (inside places)) (term_fills b (inside (places_behind a places))))
  term_fills (inl_term a) places = fills_form term_kind 6 _ _ refl (node_fills places _ (term_fills a (inside places)))
  term_fills (inr_term a) places = fills_form term_kind 7 _ _ refl (node_fills places _ (term_fills a (inside places)))
  term_fills nil_term places = alone term_kind 8 refl
  term_fills (cons_term a b) places = fills_form term_kind 9 _ _ refl (two_nodes places (places_behind a places) _ _ (term_fills a (inside places)) (term_fills b (inside (places_behind a places))))
  term_fills (let_term x s a b) places = fills_form term_kind 10 _ _ refl (name_before _ x _ (type_before _ s _ (two_nodes places (places_behind a places) _ _ (term_fills a (inside places)) (term_fills b (inside (places_behind a places))))))
  term_fills (let_par_term x y z a) places = fills_form term_kind 11 _ _ refl (name_before _ x _ (name_before _ y _ (name_before _ z _ (node_fills places _ (term_fills a (inside places))))))
  term_fills (let_cat_term x y z a) places = fills_form term_kind 12 _ _ refl (name_before _ x _ (name_before _ y _ (name_before _ z _ (node_fills places _ (term_fills a (inside places))))))
  term_fills (case_sum_term z t x a y b) places =
      fills_form term_kind 13 _ _ refl (name_before _ z _ (type_before _ t _ (name_before _ x _ (node_before _ _ _ (node_fills places _ (term_fills a (inside places))) (name_before _ y _ (node_fills (places_behind a places) _ (term_fills b (inside (places_behind a places)))))))))
  term_fills (case_star_term z t a y ys b) places =
      fills_form term_kind 14 _ _ refl (name_before _ z _ (type_before _ t _ (node_before _ _ _ (node_fills places _ (term_fills a (inside places))) (name_before _ y _ (name_before _ ys _ (node_fills (places_behind a places) _ (term_fills b (inside (places_behind a places)))))))))
  term_fills (wait_term x t a) places = fills_form term_kind 15 _ _ refl (name_before _ x _ (type_before _ t _ (node_fills places _ (term_fills a (inside places)))))
  term_fills (call_term f ms es) places =
      fills_form term_kind 16 _ _ refl
      (name_before _ f _ (fills_both (list_part expr_item ∷ []) (list_part node_item ∷ []) _ _ (exprs_fill ms) (fills_counted node_item (term_count es) (terms_bytes es places) (terms_fill es places))))

  -- the terms of a call
  pub terms_fill : (es : CoreTerms) (places : List ℕ) → FillItems (term_count es) node_item (terms_bytes es places)
  terms_fill no_terms places = fill_no_items node_item
  terms_fill (term_before e es) places =
      subst (λ k. FillItems k node_item (terms_bytes (term_before e es) places)) (let e : suc (term_count es) ≡ 1 + term_count es = omega arith in e)
      (fill_more_items node_item (term_count es) (node_bytes places (term_bytes e (inside places))) (terms_bytes es (places_behind e places)) (node_fills places _ (term_fills e (inside places))) (omega arith) (terms_fill es (places_behind e places)))

-- the names that have values
known_fill : (es : List Known) → Fills (list_part known_item ∷ []) (list_bytes known_bytes es)
known_fill es = fills_list known_item known_bytes (λ e. name_before _ e.name _ (type_before _ e.type _ (value_fills e.value))) (λ e. omega arith) es

-- what is held
held_fill : (held : List HeldName) → Fills (list_part held_item ∷ []) (list_bytes held_name_bytes held)
held_fill held = fills_list held_item held_name_bytes (λ h. name_before _ h.name _ (type_before _ h.type _ (prefix_fills h.prefix))) (λ h. omega arith) held

-- code that isn't reached
later_fills : (l : LaterTree) (places : List ℕ) → Fills later_parts (later_bytes l places)
later_fills l places = node_before _ _ _ (node_fills places _ (term_fills l.term (inside places))) (fills_both (list_part known_item ∷ []) (any 8 ∷ []) _ _ (known_fill l.past) (fills_any (long_bytes l.depth)))

-- code that isn't reached, and other parts behind it
later_before : (qs : List Part) (l : LaterTree) (places bs : List ℕ) → Fills qs bs → Fills (later_parts ++ qs) (later_bytes l places ++ bs)
later_before qs l places bs k = fills_both later_parts qs (later_bytes l places) bs (later_fills l places) k

-- what is held, and other parts behind it
held_before : (qs : List Part) (held : List HeldName) (bs : List ℕ) → Fills qs bs → Fills (list_part held_item ∷ qs) (list_bytes held_name_bytes held ++ bs)
held_before qs held bs k = fills_both (list_part held_item ∷ []) qs (list_bytes held_name_bytes held) bs (held_fill held) k

mutual
  -- states
  pub state_fills : (s : StateTree) (places : List ℕ) → Fills (form state_kind ∷ []) (state_bytes s places)
  state_fills (sink t) places = fills_form state_kind 0 _ _ refl (type_fills t)
  state_fills (var_state x) places = fills_form state_kind 1 _ _ refl (fills_any (short_bytes x))
  state_fills (par_state a b) places = fills_form state_kind 2 _ _ refl (two state_kind _ _ (state_fills a places) (state_fills b (drop (nodes_in_state a) places)))
  state_fills (cat_state a l) places = fills_form state_kind 3 _ _ refl (form_before state_kind _ _ _ (state_fills a places) (later_fills l (drop (nodes_in_state a) places)))
  state_fills (let_state x s a b) places = fills_form state_kind 4 _ _ refl (name_before _ x _ (type_before _ s _ (two state_kind _ _ (state_fills a places) (state_fills b (drop (nodes_in_state a) places)))))
  state_fills (let_par_state x y z a) places = fills_form state_kind 5 _ _ refl (name_before _ x _ (name_before _ y _ (name_before _ z _ (state_fills a places))))
  state_fills (let_cat_state x y z a) places = fills_form state_kind 6 _ _ refl (name_before _ x _ (name_before _ y _ (name_before _ z _ (state_fills a places))))
  state_fills (sum_state z t held x l y m) places =
      fills_form state_kind 7 _ _ refl (name_before _ z _ (type_before _ t _ (held_before _ held _ (name_before _ x _ (later_before _ l places _ (name_before _ y _ (later_fills m (places_behind l.term places))))))))
  state_fills (star_state z t held l y ys m) places =
      fills_form state_kind 8 _ _ refl (name_before _ z _ (type_before _ t _ (held_before _ held _ (later_before _ l places _ (name_before _ y _ (name_before _ ys _ (later_fills m (places_behind l.term places))))))))
  state_fills (wait_state x t held l) places = fills_form state_kind 9 _ _ refl (name_before _ x _ (type_before _ t _ (held_before _ held _ (later_fills l places))))
  state_fills (frame_state args s) places =
      fills_form state_kind 10 _ _ refl
      (fills_both (list_part argument_item ∷ []) (form state_kind ∷ []) _ _ (fills_counted argument_item (length (argument_names args)) (arguments_bytes args places) (arguments_fill args places)) (state_fills s (drop (nodes_in_arguments args) places)))

  -- the arguments of a frame
  pub arguments_fill : (args : ArgumentTrees) (places : List ℕ) → FillItems (length (argument_names args)) argument_item (arguments_bytes args places)
  arguments_fill no_arguments places = fill_no_items argument_item
  arguments_fill (argument_before x t s args) places =
      fill_more_items argument_item (length (argument_names args)) (short_bytes x ++ (type_bytes t ++ state_bytes s places)) (arguments_bytes args (drop (nodes_in_state s) places))
      (name_before _ x _ (type_before _ t _ (state_fills s places))) (omega arith) (arguments_fill args (drop (nodes_in_state s) places))
