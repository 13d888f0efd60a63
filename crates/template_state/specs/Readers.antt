-- What templates and states over them stand for.
use Rattle.std.specs.Prelude.{List, [], ◌∷◌, map}
use Rattle.std.specs.declared.rc.Rc.{Rc}
use Rattle.std.specs.declared.alloc.Global.{Global}
use Rattle.stream_type.specs.StreamType.{type_of}
use Rattle.hist_value.specs.HistExpr.{expr_of}
use Rattle.hist_value.specs.HistValue.{hist_value_of}
use Rattle.core_term.specs.CoreTerm.{CoreTerm, CoreTerms, var_term, eps_term, unit_term, nil_term, past_term, par_term, cat_term, cons_term, inl_term, inr_term, let_term, let_par_term, let_cat_term, case_sum_term, case_star_term, wait_term, call_term, no_terms, term_before}
use Rattle.delta_state.specs.StateTree.{Known, HeldName, LaterTree, StateTree, ArgumentTrees, sink, var_state, par_state, cat_state, let_state, let_par_state, let_cat_state, sum_state, star_state, wait_state, frame_state, no_arguments, argument_before}
use Rattle.machine_parts.specs.declared.entry.Entry.{Entry}
use Rattle.machine_parts.specs.Entry.{entry_in}
use Rattle.template_state.specs.declared.code.Op.{Op}
use Rattle.template_state.specs.declared.code.Op.TheVariants.{Var, Eps, Unit as IsUnit, Past, Par', Cat', Inl', Inr', Nil, Cons', Let', LetPar', LetCat', CaseSum', CaseStar', Wait', Call'}
use Rattle.template_state.specs.declared.code.Operands.{Operands}
use Rattle.template_state.specs.declared.code.Operands.TheVariants.{None as NoMore, Before'}
use Rattle.template_state.specs.declared.live.Past.{Past as PastRow}
use Rattle.template_state.specs.declared.live.Past.TheVariants.{None as Nothing, Known'}
use Rattle.template_state.specs.declared.live.Later.{Later}
use Rattle.template_state.specs.declared.live.Live.{Live}
use Rattle.template_state.specs.declared.live.Live.TheVariants.{Sink, Var as IsVar, Par' as Both, Cat' as Row, Let' as Binds, LetPar' as TakesPar, LetCat' as TakesCat, CaseSum, CaseStar, Wait, Frame'}
use Rattle.template_state.specs.declared.live.Arguments.{Arguments}
use Rattle.template_state.specs.declared.live.Arguments.TheVariants.{None as NoArguments, Before' as ArgumentBefore'}

abbrev mutual
  -- the term that a template stands for
  pub op_term : Op → CoreTerm
  op_term (Var x) = var_term x.0
  op_term Eps = eps_term
  op_term IsUnit = unit_term
  op_term (Past m) = past_term (expr_of m)
  op_term (Par' p a q b) = par_term (op_term a) (op_term b)
  op_term (Cat' p a q b) = cat_term (op_term a) (op_term b)
  op_term (Inl' p a) = inl_term (op_term a)
  op_term (Inr' p a) = inr_term (op_term a)
  op_term Nil = nil_term
  op_term (Cons' p a q b) = cons_term (op_term a) (op_term b)
  op_term (Let' x s p a q b) = let_term x.0 (type_of s) (op_term a) (op_term b)
  op_term (LetPar' x y z p a) = let_par_term x.0 y.0 z.0 (op_term a)
  op_term (LetCat' x y z p a) = let_cat_term x.0 y.0 z.0 (op_term a)
  op_term (CaseSum' z t x p a y q b) = case_sum_term z.0 (type_of t) x.0 (op_term a) y.0 (op_term b)
  op_term (CaseStar' z t p a y ys q b) = case_star_term z.0 (type_of t) (op_term a) y.0 ys.0 (op_term b)
  op_term (Wait' x t p a) = wait_term x.0 (type_of t) (op_term a)
  op_term (Call' f ms p es) = call_term f (map expr_of ms.items) (operand_terms es)

  pub operand_terms : Operands → CoreTerms
  operand_terms NoMore = no_terms
  operand_terms (Before' p a q es) = term_before (op_term a) (operand_terms es)

-- that of a template which may be shared
abbrev pub shared_term : Rc Op Global → CoreTerm
shared_term op = op_term op.value

-- the historical names that code sees
abbrev pub known_in : PastRow → List Known
known_in Nothing = []
known_in (Known' x t v p rest) = record { name = x.0; type = type_of t; value = hist_value_of v.value } ∷ known_in rest

-- the code that a place in a template stands for
abbrev pub later_in : Later → LaterTree
later_in l = record { term = op_term l.code.value; past = known_in l.past.value; depth = l.depth }

-- what is held
abbrev pub held_in : List Entry → List HeldName
held_in held = map entry_in held

abbrev mutual
  -- the state that a tree of a machine stands for
  pub state_in : Live → StateTree
  state_in (Sink t) = sink (type_of t)
  state_in (IsVar x) = var_state x.0
  state_in (Both p a q b) = par_state (state_in a) (state_in b)
  state_in (Row p a l) = cat_state (state_in a) (later_in l)
  state_in (Binds x t p a q b) = let_state x.0 (type_of t) (state_in a) (state_in b)
  state_in (TakesPar x y z p a) = let_par_state x.0 y.0 z.0 (state_in a)
  state_in (TakesCat x y z p a) = let_cat_state x.0 y.0 z.0 (state_in a)
  state_in (CaseSum z t held x l y m) = sum_state z.0 (type_of t) (held_in held.items) x.0 (later_in l) y.0 (later_in m)
  state_in (CaseStar z t held l y ys m) = star_state z.0 (type_of t) (held_in held.items) (later_in l) y.0 ys.0 (later_in m)
  state_in (Wait x t held l) = wait_state x.0 (type_of t) (held_in held.items) (later_in l)
  state_in (Frame' p args q a) = frame_state (arguments_in args) (state_in a)

  pub arguments_in : Arguments → ArgumentTrees
  arguments_in NoArguments = no_arguments
  arguments_in (ArgumentBefore' x t p s q args) = argument_before x.0 (type_of t) (state_in s) (arguments_in args)
