-- What trees stand for has its shape: what stands after an item of a star is of the star, and what stands behind an
-- item of a value is a list. So of two kept states that are read, only those that are the same have the same bytes.
use Rattle.std.proofs.Common.{List, [], ◌∷◌, map}
use Rattle.std.specs.List.{AllByRecursion}
use Rattle.stream_prefix.specs.StreamPrefix.{StreamPrefix}
use Rattle.stream_prefix.specs.declared.prefix.Prefix.{Prefix, Row_of-Prefix, end_of-Prefix, more_of-Prefix}
use Rattle.stream_prefix.specs.declared.prefix.Prefix.TheVariants.{EpsEmp, OneEmp, OneFull, IntEmp, IntFull, Par', CatFst', CatBoth', SumEmp, Inl', Inr', Star'}
use Rattle.stream_prefix.specs.declared.prefix.StarEnd.{StarEnd}
use Rattle.stream_prefix.specs.declared.prefix.StarEnd.TheVariants.{Emp, Done, First'}
use Rattle.stream_prefix.specs.Tree.{prefix_of, end_of, star_of, row_of}
use Rattle.hist_value.specs.declared.history.Value.{Value, Row_of-Value, end_of-Value, more_of-Value}
use Rattle.hist_value.specs.declared.history.Value.TheVariants.{Unit as IsUnit, Int, Pair', Inl' as InlValue', Inr' as InrValue', List' as ListValue'}
use Rattle.hist_value.specs.HistValue.{HistValue, hist_value_of, list_of, row_of as values_of}
use Rattle.kept_state.specs.KeptSizes.{IsOfStar, IsShaped, IsOfList, IsShapedValue, AreShaped, IsShapedLater, IsShapedState, AreShapedArguments}
use Rattle.delta_keep.specs.declared.kept.Known.{Known}
use Rattle.delta_keep.specs.declared.kept.HeldName.{HeldName}
use Rattle.delta_keep.specs.declared.kept.Waiting.{Waiting}
use Rattle.delta_keep.specs.declared.kept.KeptState.{KeptState, Row_of-Argument, end_of-Argument, more_of-Argument}
use Rattle.delta_keep.specs.declared.kept.KeptState.TheVariants.{Sink, Var, Par' as ParState', Cat' as CatState', Let' as LetState', LetPar' as LetParState', LetCat' as LetCatState', CaseSum as SumState, CaseStar as StarState, Wait as WaitState, Frame'}
use Rattle.delta_keep.specs.KeptView.{known_of, held_of, later_of, state_of, arguments_of}

-- items before what is of a star
of-star_of : (ps : List StreamPrefix) (q : StreamPrefix) → IsOfStar q → IsOfStar (star_of ps q)
of-star_of [] q h = h
of-star_of (p ∷ ps) q h = tt

shaped-star_of : (ps : List StreamPrefix) (q : StreamPrefix) → AllByRecursion IsShaped ps → IsOfStar q → IsShaped q → IsShaped (star_of ps q)
shaped-star_of [] q h of k = k
shaped-star_of (p ∷ ps) q (h, hs) of k = (h, of-star_of ps q of, shaped-star_of ps q hs of k)

of-end_of : (e : StarEnd) → IsOfStar (end_of e)
of-end_of Emp = tt
of-end_of Done = tt
of-end_of (First' x p) = tt

mutual
  -- a prefix
  pub shaped_prefix : (p : Prefix) → IsShaped (prefix_of p)
  shaped_prefix EpsEmp = tt
  shaped_prefix OneEmp = tt
  shaped_prefix OneFull = tt
  shaped_prefix IntEmp = tt
  shaped_prefix (IntFull n) = tt
  shaped_prefix (Par' x p y q) = (shaped_prefix p, shaped_prefix q)
  shaped_prefix (CatFst' x p) = shaped_prefix p
  shaped_prefix (CatBoth' x p y q) = (shaped_prefix p, shaped_prefix q)
  shaped_prefix SumEmp = tt
  shaped_prefix (Inl' x p) = shaped_prefix p
  shaped_prefix (Inr' x p) = shaped_prefix p
  shaped_prefix (Star' shape items end) = shaped-star_of (row_of items) (end_of end) (shaped_row items) (of-end_of end) (shaped_end end)

  shaped_end : (e : StarEnd) → IsShaped (end_of e)
  shaped_end Emp = tt
  shaped_end Done = tt
  shaped_end (First' x p) = shaped_prefix p

  shaped_row : {m : _} → (k : Row_of-Prefix m) → AllByRecursion IsShaped (row_of k)
  shaped_row end_of-Prefix = tt
  shaped_row (more_of-Prefix p k) = (shaped_prefix p, shaped_row k)

-- a list
of-list_of : (vs : List HistValue) → IsOfList (list_of vs)
of-list_of [] = tt
of-list_of (v ∷ vs) = tt

shaped-list_of : (vs : List HistValue) → AllByRecursion IsShapedValue vs → IsShapedValue (list_of vs)
shaped-list_of [] h = tt
shaped-list_of (v ∷ vs) (h, hs) = (h, of-list_of vs, shaped-list_of vs hs)

mutual
  -- a value
  pub shaped_value : (v : Value) → IsShapedValue (hist_value_of v)
  shaped_value IsUnit = tt
  shaped_value (Int n) = tt
  shaped_value (Pair' x v y w) = (shaped_value v, shaped_value w)
  shaped_value (InlValue' x v) = shaped_value v
  shaped_value (InrValue' x v) = shaped_value v
  shaped_value (ListValue' shape items) = shaped-list_of (values_of items) (shaped_values items)

  shaped_values : {m : _} → (k : Row_of-Value m) → AllByRecursion IsShapedValue (values_of k)
  shaped_values end_of-Value = tt
  shaped_values (more_of-Value v k) = (shaped_value v, shaped_values k)

-- what a form holds, and the values of code
shaped_held : (held : List HeldName) → AreShaped (map held_of held)
shaped_held [] = tt
shaped_held (h ∷ held) = (shaped_prefix h.prefix.value, shaped_held held)

shaped_past : (past : List Known) → AllByRecursion (λ e. IsShapedValue e.value) (map known_of past)
shaped_past [] = tt
shaped_past (k ∷ past) = (shaped_value k.value.value, shaped_past past)

shaped_later : (l : Waiting) → IsShapedLater (later_of l)
shaped_later l = shaped_past l.past.items

mutual
  -- a state
  pub shaped_state : (s : KeptState) → IsShapedState (state_of s)
  shaped_state (Sink t) = tt
  shaped_state (Var x) = tt
  shaped_state (ParState' p a q b) = (shaped_state a, shaped_state b)
  shaped_state (CatState' p a l) = (shaped_state a, shaped_later l.value)
  shaped_state (LetState' x t p a q b) = (shaped_state a, shaped_state b)
  shaped_state (LetParState' x y z p a) = shaped_state a
  shaped_state (LetCatState' x y z p a) = shaped_state a
  shaped_state (SumState z t held x l y m) = (shaped_held held.items, shaped_later l.value, shaped_later m.value)
  shaped_state (StarState z t held l y ys m) = (shaped_held held.items, shaped_later l.value, shaped_later m.value)
  shaped_state (WaitState x t held l) = (shaped_held held.items, shaped_later l.value)
  shaped_state (Frame' shape args p s) = (shaped_arguments args, shaped_state s)

  shaped_arguments : {m : _} → (k : Row_of-Argument m) → AreShapedArguments (arguments_of k)
  shaped_arguments end_of-Argument = tt
  shaped_arguments (more_of-Argument x t p s k) = (shaped_state s, shaped_arguments k)
