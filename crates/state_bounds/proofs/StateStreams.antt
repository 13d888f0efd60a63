-- The free stream names of a typed state are stream variables of its context.
use Rattle.std.proofs.Common.{◌≡◌, ◌∙◌, ℕ, Bool, true, false, true≢false, List, [], ap, sym}
use Rattle.std.specs.Prelude.{Some, is_some}
use Rattle.stream_type.specs.StreamType.{StreamType, cat, par}
use Rattle.stream_prefix.specs.StreamPrefix.{der}
use Rattle.bunch.specs.Facts.{place_like}
use Rattle.core_term.specs.CoreTerm.{CoreBody}
use Rattle.core_term.specs.FreeNames.{without, free_names}
use Rattle.core_term.specs.Typing.{Context}
use Rattle.core_term.proofs.TypedRuns.{AreStreams, streams_both, streams_more, streams_without, free_are_streams}
use Rattle.delta_state.specs.StateTree.{HeldName, StateTree, ArgumentTrees, sink, var_state, par_state, cat_state, let_state, let_par_state, let_cat_state, sum_state, star_state, wait_state, frame_state, no_arguments, argument_before, free_in_state, free_in_arguments, free_in_sum, free_in_star, free_in_wait}
use Rattle.delta_state.specs.StateTyping.{HasStateType, HaveArgumentTypes, IsHeld, with_past}
use Rattle.delta_state.proofs.HeldNames.{held_at}
use Rattle.state_steps.proofs.KnownNames.{past_types-same}

-- in the empty list each name is a stream name
streams_none : (c : Context) → AreStreams c []
streams_none c = record { at = λ y m. absurd (true≢false (sym m)) }

-- the free names of a form that holds them are stream names
streams_held : (c : Context) (free : List ℕ) (held : List HeldName) → IsHeld c free held → AreStreams c free
streams_held c free held h = record { at = λ x m. ap is_some (held_at (λ x t p. c.types x ≡ Some (der p t)) held h.are_left x (h.are_free x ∙ m)) }

module _ (funs : List CoreBody) (counts : ℕ → Bool) where
  mutual
    -- and so are those of each typed state,
    pub state_streams : (s : StateTree) (c : Context) (r : StreamType) → HasStateType funs counts c s r → AreStreams c (free_in_state s)
    state_streams (sink t) c r h = streams_none c
    state_streams (var_state x) c r h = streams_more c x r [] h (streams_none c)
    state_streams (par_state a b) c (par s t) h = streams_both c (free_in_state a) (free_in_state b) (state_streams a c s h.0) (state_streams b c t h.1)
    state_streams (par_state a b) c _ h = absurd h
    state_streams (cat_state a l) c (cat s t) h =
        streams_both c (free_in_state a) (free_names l.term) (state_streams a c s h.0)
        (record { at = λ x m. ap (λ g. is_some (g x)) (sym (past_types-same l.past c)) ∙ (free_are_streams funs counts l.term (with_past l.past c) t h.1.has_type).at x m })
    state_streams (cat_state a l) c _ h = absurd h
    state_streams (let_state x s a b) c r h = streams_both c (free_in_state a) (without x (free_in_state b)) (state_streams a c s h.0) (streams_without c x s _ (free_in_state b) (state_streams b _ r h.1))
    state_streams (let_par_state x y z a) c r h =
        streams_more c z _ (without x (without y (free_in_state a))) h.1 (streams_without c x _ (place_like x z c.order) (without y (free_in_state a)) (streams_without _ y _ _ (free_in_state a) (state_streams a _ r h.2)))
    state_streams (let_cat_state x y z a) c r h =
        let i = state_streams a _ r h.2 in
        streams_more c z _ (without x (without y (free_in_state a))) h.1
        (streams_without c x _ (place_like x z c.order) (without y (free_in_state a)) (streams_without _ y _ (place_like y z (place_like x z c.order)) (free_in_state a) (record { at = i.at })))
    state_streams (sum_state z t held x l y m) c r h = streams_held c (free_in_sum z x l y m) held h.1
    state_streams (star_state z t held l y ys m) c r h = streams_held c (free_in_star z l y ys m) held h.1
    state_streams (wait_state x t held l) c r h = streams_held c (free_in_wait x l) held h.1
    state_streams (frame_state args s) c r h = arguments_streams args c h.0

    -- and of the arguments of a frame
    pub arguments_streams : (args : ArgumentTrees) (c : Context) → HaveArgumentTypes funs counts c args → AreStreams c (free_in_arguments args)
    arguments_streams no_arguments c h = streams_none c
    arguments_streams (argument_before x t s args) c h = streams_both c (free_in_state s) (free_in_arguments args) (state_streams s c t h.0) (arguments_streams args c h.1)
