-- Which states give the mark between the parts of a sequence at once: as soon as the first part is whole, the mark
-- has come too.
--
-- Choices that are not obvious:
-- - It is read off the form. What puts two parts together, one after the other, gives the mark with the end of the
--   first; so does what ends in such a form, in each branch. A name doesn't, since the mark may come on it later,
--   nor does a call, whose body isn't looked at.
-- - Nothing is asked of what is bound before the form, or of arguments: the form alone gives the mark.
use Rattle.std.specs.Prelude.{Bool, true, false, ◌&&◌}
use Rattle.core_term.specs.CoreTerm.{CoreTerm, cat_term, let_term, let_par_term, let_cat_term, case_sum_term, case_star_term, wait_term}
use Rattle.delta_state.specs.StateTree.{StateTree, cat_state, let_state, let_par_state, let_cat_state, sum_state, star_state, wait_state, frame_state}

-- whether a term gives its mark at once
abbrev pub term_marks_at_once : CoreTerm → Bool
term_marks_at_once (cat_term a b) = true
term_marks_at_once (let_term x s a b) = term_marks_at_once b
term_marks_at_once (let_par_term x y z a) = term_marks_at_once a
term_marks_at_once (let_cat_term x y z a) = term_marks_at_once a
term_marks_at_once (case_sum_term z t x a y b) = term_marks_at_once a && term_marks_at_once b
term_marks_at_once (case_star_term z t a y ys b) = term_marks_at_once a && term_marks_at_once b
term_marks_at_once (wait_term x t a) = term_marks_at_once a
term_marks_at_once _ = false

-- whether a state does
abbrev pub marks_at_once : StateTree → Bool
marks_at_once (cat_state a l) = true
marks_at_once (let_state x s a b) = marks_at_once b
marks_at_once (let_par_state x y z a) = marks_at_once a
marks_at_once (let_cat_state x y z a) = marks_at_once a
marks_at_once (sum_state z t held x l y m) = term_marks_at_once l.term && term_marks_at_once m.term
marks_at_once (star_state z t held l y ys m) = term_marks_at_once l.term && term_marks_at_once m.term
marks_at_once (wait_state x t held l) = term_marks_at_once l.term
marks_at_once (frame_state args s) = marks_at_once s
marks_at_once _ = false
