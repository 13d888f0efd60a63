-- Which kept states their bytes tell: no two of them have the same.
--
-- Choices that are not obvious:
-- - A number is written at the size of its type, so a number that is too large for it would be written as another.
--   Trees of the program hold none.
-- - What stands after the first item of a prefix of a star is a prefix of a star too, and what stands behind an item
--   of a value is a list. Of another thing there is nothing in the bytes. What is a prefix, or a value, of some type
--   is of this shape, and so is what a tree of the program stands for.
use Rattle.std.specs.Prelude.{ℕ, ℤ, ◌<◌, ◌^◌, ⊤, List, length, FitsSigned}
use Rattle.std.specs.Int.{w64}
use Rattle.std.specs.List.{AllByRecursion}
use Rattle.stream_prefix.specs.StreamPrefix.{StreamPrefix, eps_emp, one_emp, one_full, int_emp, int_full, par_both, cat_fst, cat_both, sum_emp, in_left, in_right, star_emp, star_done, star_first, star_rest}
use Rattle.hist_value.specs.HistValue.{HistValue, unit_value, number, pair_of, left_of, right_of, no_items, item_before}
use Rattle.hist_value.specs.HistExpr.{HistExpr, variable, literal, unit_expr, reckoned, pair_expr, first_expr, second_expr, left_expr, right_expr, choice, nil_expr, cons_expr, fold_expr}
use Rattle.core_term.specs.CoreTerm.{CoreTerm, CoreTerms, var_term, eps_term, unit_term, nil_term, past_term, par_term, cat_term, cons_term, inl_term, inr_term, let_term, let_par_term, let_cat_term, case_sum_term, case_star_term, wait_term, call_term, no_terms, term_before, term_count}
use Rattle.delta_state.specs.StateTree.{Known, HeldName, LaterTree, StateTree, ArgumentTrees, sink, var_state, par_state, cat_state, let_state, let_par_state, let_cat_state, sum_state, star_state, wait_state, frame_state, no_arguments, argument_before, argument_names}
use Rattle.kept_state.specs.KeptBytes.{whole_items, item_count}
use Rattle.kept_state.specs.KeptTree.{KeptTree}

-- a name, the number of a function, or a count
abbrev pub FitsShort : ℕ → Type 0
FitsShort n = n < 2 ^ 32

-- a number of events, or a depth
abbrev pub FitsLong : ℕ → Type 0
FitsLong n = n < 2 ^ 64

-- a number with a sign
abbrev pub FitsInt : ℤ → Type 0
FitsInt n = FitsSigned w64 n

-- the numbers of a prefix
abbrev pub FitsPrefix : StreamPrefix → Type 0
FitsPrefix eps_emp = ⊤
FitsPrefix one_emp = ⊤
FitsPrefix one_full = ⊤
FitsPrefix int_emp = ⊤
FitsPrefix (int_full n) = FitsInt n
FitsPrefix (par_both p q) = FitsPrefix p × FitsPrefix q
FitsPrefix (cat_fst p) = FitsPrefix p
FitsPrefix (cat_both p q) = FitsPrefix p × FitsPrefix q
FitsPrefix sum_emp = ⊤
FitsPrefix (in_left p) = FitsPrefix p
FitsPrefix (in_right p) = FitsPrefix p
FitsPrefix star_emp = ⊤
FitsPrefix star_done = ⊤
FitsPrefix (star_first p) = FitsPrefix p
FitsPrefix (star_rest p q) = FitsPrefix p × FitsPrefix q × FitsShort (whole_items (star_rest p q))

-- the numbers of a value
abbrev pub FitsValue : HistValue → Type 0
FitsValue unit_value = ⊤
FitsValue (number n) = FitsInt n
FitsValue (pair_of v w) = FitsValue v × FitsValue w
FitsValue (left_of v) = FitsValue v
FitsValue (right_of v) = FitsValue v
FitsValue no_items = ⊤
FitsValue (item_before v w) = FitsValue v × FitsValue w × FitsShort (item_count (item_before v w))

-- the names and numbers of a historical expression
abbrev pub FitsExpr : HistExpr → Type 0
FitsExpr (variable x) = FitsShort x
FitsExpr (literal n) = FitsInt n
FitsExpr unit_expr = ⊤
FitsExpr (reckoned o a b) = FitsExpr a × FitsExpr b
FitsExpr (pair_expr a b) = FitsExpr a × FitsExpr b
FitsExpr (first_expr a) = FitsExpr a
FitsExpr (second_expr a) = FitsExpr a
FitsExpr (left_expr a) = FitsExpr a
FitsExpr (right_expr a) = FitsExpr a
FitsExpr (choice a x b y c) = FitsExpr a × FitsShort x × FitsExpr b × FitsShort y × FitsExpr c
FitsExpr nil_expr = ⊤
FitsExpr (cons_expr a b) = FitsExpr a × FitsExpr b
FitsExpr (fold_expr a s x y b) = FitsExpr a × FitsExpr s × FitsShort x × FitsShort y × FitsExpr b

-- those of some historical expressions
abbrev pub FitsExprs : List HistExpr → Type 0
FitsExprs ms = FitsShort (length ms) × AllByRecursion FitsExpr ms

abbrev mutual
  -- the names and numbers of a term
  pub FitsTerm : CoreTerm → Type 0
  FitsTerm (var_term x) = FitsShort x
  FitsTerm eps_term = ⊤
  FitsTerm unit_term = ⊤
  FitsTerm nil_term = ⊤
  FitsTerm (past_term m) = FitsExpr m
  FitsTerm (par_term a b) = FitsTerm a × FitsTerm b
  FitsTerm (cat_term a b) = FitsTerm a × FitsTerm b
  FitsTerm (cons_term a b) = FitsTerm a × FitsTerm b
  FitsTerm (inl_term a) = FitsTerm a
  FitsTerm (inr_term a) = FitsTerm a
  FitsTerm (let_term x s a b) = FitsShort x × FitsTerm a × FitsTerm b
  FitsTerm (let_par_term x y z a) = FitsShort x × FitsShort y × FitsShort z × FitsTerm a
  FitsTerm (let_cat_term x y z a) = FitsShort x × FitsShort y × FitsShort z × FitsTerm a
  FitsTerm (case_sum_term z t x a y b) = FitsShort z × FitsShort x × FitsTerm a × FitsShort y × FitsTerm b
  FitsTerm (case_star_term z t a y ys b) = FitsShort z × FitsTerm a × FitsShort y × FitsShort ys × FitsTerm b
  FitsTerm (wait_term x t a) = FitsShort x × FitsTerm a
  FitsTerm (call_term f ms es) = FitsShort f × FitsExprs ms × FitsShort (term_count es) × FitsTerms es

  -- those of the terms of a call
  pub FitsTerms : CoreTerms → Type 0
  FitsTerms no_terms = ⊤
  FitsTerms (term_before e es) = FitsTerm e × FitsTerms es

-- the name and the value of a name that has one
abbrev pub FitsKnown : Known → Type 0
FitsKnown e = FitsShort e.name × FitsValue e.value

-- the name and the prefix of a name of which something is held
abbrev pub FitsHeldName : HeldName → Type 0
FitsHeldName h = FitsShort h.name × FitsPrefix h.prefix

-- what a form holds
abbrev pub FitsHeld : List HeldName → Type 0
FitsHeld held = FitsShort (length held) × AllByRecursion FitsHeldName held

-- code that isn't reached
abbrev pub FitsLater : LaterTree → Type 0
FitsLater l = FitsTerm l.term × FitsShort (length l.past) × AllByRecursion FitsKnown l.past × FitsLong l.depth

abbrev mutual
  -- the names and numbers of a state
  pub FitsState : StateTree → Type 0
  FitsState (sink t) = ⊤
  FitsState (var_state x) = FitsShort x
  FitsState (par_state a b) = FitsState a × FitsState b
  FitsState (cat_state a l) = FitsState a × FitsLater l
  FitsState (let_state x s a b) = FitsShort x × FitsState a × FitsState b
  FitsState (let_par_state x y z a) = FitsShort x × FitsShort y × FitsShort z × FitsState a
  FitsState (let_cat_state x y z a) = FitsShort x × FitsShort y × FitsShort z × FitsState a
  FitsState (sum_state z t held x l y m) = FitsShort z × FitsHeld held × FitsShort x × FitsLater l × FitsShort y × FitsLater m
  FitsState (star_state z t held l y ys m) = FitsShort z × FitsHeld held × FitsLater l × FitsShort y × FitsShort ys × FitsLater m
  FitsState (wait_state x t held l) = FitsShort x × FitsHeld held × FitsLater l
  FitsState (frame_state args s) = FitsShort (length (argument_names args)) × FitsArguments args × FitsState s

  -- those of the arguments of a frame
  pub FitsArguments : ArgumentTrees → Type 0
  FitsArguments no_arguments = ⊤
  FitsArguments (argument_before x t s args) = FitsShort x × FitsState s × FitsArguments args

-- each number of the kept state has its size
pub record HasSizes (k : KeptTree) : Type 0 where
  pub events : FitsLong k.events
  pub types : FitsShort (length k.ins)
  pub cuts : FitsShort (length k.cuts)
  pub state : FitsState k.state

-- a prefix whose first byte is that of a star's
abbrev pub IsOfStar : StreamPrefix → Type 0
IsOfStar star_emp = ⊤
IsOfStar star_done = ⊤
IsOfStar (star_first p) = ⊤
IsOfStar (star_rest p q) = ⊤
IsOfStar _ = ⊥

-- what stands after each item of a prefix is of the star
abbrev pub IsShaped : StreamPrefix → Type 0
IsShaped (par_both p q) = IsShaped p × IsShaped q
IsShaped (cat_fst p) = IsShaped p
IsShaped (cat_both p q) = IsShaped p × IsShaped q
IsShaped (in_left p) = IsShaped p
IsShaped (in_right p) = IsShaped p
IsShaped (star_first p) = IsShaped p
IsShaped (star_rest p q) = IsShaped p × IsOfStar q × IsShaped q
IsShaped _ = ⊤

-- a value that is a list
abbrev pub IsOfList : HistValue → Type 0
IsOfList no_items = ⊤
IsOfList (item_before v w) = ⊤
IsOfList _ = ⊥

-- what stands behind each item of a value is a list
abbrev pub IsShapedValue : HistValue → Type 0
IsShapedValue (pair_of v w) = IsShapedValue v × IsShapedValue w
IsShapedValue (left_of v) = IsShapedValue v
IsShapedValue (right_of v) = IsShapedValue v
IsShapedValue (item_before v w) = IsShapedValue v × IsOfList w × IsShapedValue w
IsShapedValue _ = ⊤

-- so it is of what a form holds,
abbrev pub AreShaped : List HeldName → Type 0
AreShaped held = AllByRecursion (λ h. IsShaped h.prefix) held

-- of the values of code that isn't reached,
abbrev pub IsShapedLater : LaterTree → Type 0
IsShapedLater l = AllByRecursion (λ e. IsShapedValue e.value) l.past

abbrev mutual
  -- and of all of these in a state
  pub IsShapedState : StateTree → Type 0
  IsShapedState (sink t) = ⊤
  IsShapedState (var_state x) = ⊤
  IsShapedState (par_state a b) = IsShapedState a × IsShapedState b
  IsShapedState (cat_state a l) = IsShapedState a × IsShapedLater l
  IsShapedState (let_state x s a b) = IsShapedState a × IsShapedState b
  IsShapedState (let_par_state x y z a) = IsShapedState a
  IsShapedState (let_cat_state x y z a) = IsShapedState a
  IsShapedState (sum_state z t held x l y m) = AreShaped held × IsShapedLater l × IsShapedLater m
  IsShapedState (star_state z t held l y ys m) = AreShaped held × IsShapedLater l × IsShapedLater m
  IsShapedState (wait_state x t held l) = AreShaped held × IsShapedLater l
  IsShapedState (frame_state args s) = AreShapedArguments args × IsShapedState s

  -- in the arguments of a frame
  pub AreShapedArguments : ArgumentTrees → Type 0
  AreShapedArguments no_arguments = ⊤
  AreShapedArguments (argument_before x t s args) = IsShapedState s × AreShapedArguments args
