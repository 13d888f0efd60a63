-- Which states are settled: what could go on with what came has gone on.
use Rattle.std.specs.Prelude.{Bool, true, false, ◌&&◌, not}
use Rattle.stream_type.specs.StreamType.{StreamType, null_of}
use Rattle.stream_prefix.specs.StreamPrefix.{StreamPrefix, in_left, in_right, star_done, star_first, star_rest, is_maximal}
use Rattle.core_term.specs.Parts.{par_left, par_right, cat_first}
use Rattle.delta_state.specs.StateTree.{StateTree, ArgumentTrees, sink, var_state, par_state, cat_state, let_state, let_par_state, let_cat_state, sum_state, star_state, wait_state, frame_state, no_arguments, argument_before}
use Rattle.delta_state.specs.StateMeaning.{prefixes_held}

-- whether a prefix of a sum has its side, or one of a star an item or the end
abbrev pub has_tag : StreamPrefix → Bool
has_tag (in_left p) = true
has_tag (in_right p) = true
has_tag star_done = true
has_tag (star_first p) = true
has_tag (star_rest p q) = true
has_tag _ = false

abbrev mutual
  -- whether a state of this type is settled: no first part of a sequence has a null type, no case holds
  -- the tag of its subject, and no wait holds its subject whole
  pub is_settled : StateTree → StreamType → Bool
  is_settled (sink t) r = true
  is_settled (var_state x) r = true
  is_settled (par_state a b) r = is_settled a (par_left r) && is_settled b (par_right r)
  is_settled (cat_state a l) r = is_settled a (cat_first r) && not (null_of (cat_first r))
  is_settled (let_state x s a b) r = is_settled a s && is_settled b r
  is_settled (let_par_state x y z a) r = is_settled a r
  is_settled (let_cat_state x y z a) r = is_settled a r
  is_settled (sum_state z t held x l y m) r = not (has_tag (prefixes_held held z))
  is_settled (star_state z t held l y ys m) r = not (has_tag (prefixes_held held z))
  is_settled (wait_state x t held l) r = not (is_maximal (prefixes_held held x))
  is_settled (frame_state args s) r = are_settled args && is_settled s r

  -- whether all arguments are
  pub are_settled : ArgumentTrees → Bool
  are_settled no_arguments = true
  are_settled (argument_before x t s args) = is_settled s t && are_settled args
