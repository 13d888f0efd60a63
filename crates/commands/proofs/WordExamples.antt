-- The definitions at single programs and words: each answer was worked out by hand, and the check computes it.
use Rattle.std.proofs.Common.{◌≡◌, ◌<◌, ◌+◌, List, [], ◌∷◌, ◌++◌, length, take, inl, inr, refl, sym, ap, subst, ◌∙◌, arith}
use Rattle.std.proofs.Math.Seq.{take-append_seam}
use Rattle.stream_type.specs.StreamType.{one, sum}
use Rattle.event_word.specs.declared.event.Step.TheVariants.{First}
use Rattle.event_word.specs.declared.event.Leaf.TheVariants.{One, Inr, Cut}
use Rattle.event_word.specs.StreamEvent.{StreamEvent, leaf_of, under}
use Rattle.event_word.specs.Word.{IsWord}
use Rattle.bunch.specs.BunchTree.{leaf, semi}
use Rattle.core_term.specs.CoreTerm.{CoreBody, CoreTerm, CoreProgram, var_term, unit_term, let_term, case_sum_term, call_term, no_terms, term_before}
use Rattle.core_term.specs.Meaning.{call_at, horizon, calls_of, level_of}
use Rattle.delta_state.specs.MachineView.{input_of, IsCostly}
use Rattle.delta_state.specs.Stands.{input_type}
use Rattle.commands.specs.Stopping.{StopsForCallsAt, StopsForLevelAt}

-- `fun same(u : 1) : 1 = u`, and a call of it
abbrev same : CoreBody
same = record { past = []; params = leaf 0 one; result = one; body = var_term 0 }

abbrev same_of : CoreTerm → CoreTerm
same_of e = call_term 0 [] (term_before e no_terms)

-- `main(w : 1; x : 1 + 1) : 1 = case x of { inl a => () | inr b => let y = same(b) in y }`, in the order of their
-- names w is 0, x 1, a 2, b 3 and y 4
abbrev late : CoreProgram
late = record {
  funs = same ∷ [];
  main = record { past = []; params = semi (leaf 0 one) (leaf 1 (sum one one)); result = one; body = case_sum_term 1 one 2 unit_term 3 (let_term 4 one (same_of (var_term 3)) (var_term 4)) };
  texts = [];
}

-- w comes, the mark after it, the side of x, and what is there
abbrev w_comes : StreamEvent
w_comes = under First (leaf_of One)

abbrev mark : StreamEvent
mark = leaf_of Cut

abbrev side : StreamEvent
side = leaf_of Inr

abbrev x_comes : StreamEvent
x_comes = leaf_of One

abbrev all : List StreamEvent
all = w_comes ∷ mark ∷ side ∷ x_comes ∷ []

all_is_word : IsWord (input_type late) all
all_is_word = (tt, (refl, (tt, (tt, tt))))

-- the call is made once the side is told
no_call : calls_of late (input_of late []) ≡ 0
unfolding call_at horizon
no_call = refl

none_before : calls_of late (input_of late (w_comes ∷ mark ∷ [])) ≡ 0
unfolding call_at horizon
none_before = refl

one_with : calls_of late (input_of late (w_comes ∷ mark ∷ side ∷ [])) ≡ 1
unfolding call_at horizon
one_with = refl

one_after : calls_of late (input_of late all) ≡ 1
unfolding call_at horizon
one_after = refl

-- so without calls it is stopped at the third event, whose number is 2
stops_at_side : StopsForCallsAt late 0 all 2
stops_at_side = inr (record {
  before = w_comes ∷ mark ∷ [];
  event = side;
  rest = x_comes ∷ [];
  split = refl;
  number = refl;
  why = (let without = none_before in let with = one_with in omega (arith, without, with));
})

-- and not at the fourth, which makes no call of its own
goes_past_it : StopsForCallsAt late 0 all 3 → ⊥
goes_past_it (inl (first, more)) = cc
goes_past_it (inr met) = no_more (subst (λ (v : List StreamEvent). IsCostly late 0 v met.event) up_to met.why)
  where
    up_to : met.before ≡ w_comes ∷ mark ∷ side ∷ []
    up_to = sym (take-append_seam met.before (met.event ∷ met.rest)) ∙ ap (take (length met.before)) (sym met.split) ∙ ap (λ n. take n all) met.number

    last : (w_comes ∷ mark ∷ side ∷ []) ++ met.event ∷ met.rest ≡ all
    last = ap (λ (v : List StreamEvent). v ++ met.event ∷ met.rest) (sym up_to) ∙ sym met.split

    event_is : met.event ≡ x_comes
    event_is = let is = last in cc is

    no_more : IsCostly late 0 (w_comes ∷ mark ∷ side ∷ []) met.event → ⊥
    no_more costly =
        let more : calls_of late (input_of late (w_comes ∷ mark ∷ side ∷ [])) + 0 < calls_of late (input_of late all) = subst (λ (x : StreamEvent). IsCostly late 0 (w_comes ∷ mark ∷ side ∷ []) x) event_is costly in
        let with = one_with in
        let after = one_after in
        omega (arith, more, with, after)

-- the call stands at level 1
level_with : level_of late (input_of late (w_comes ∷ mark ∷ side ∷ [])) ≡ 1
unfolding call_at horizon
level_with = refl

too_deep_at_side : StopsForLevelAt late 0 all 2
too_deep_at_side = inr (record {
  before = w_comes ∷ mark ∷ [];
  event = side;
  rest = x_comes ∷ [];
  split = refl;
  number = refl;
  why = (let with = level_with in omega (arith, with));
})

-- `main(w : 1) : 1 = same(())` makes its call before any event, so without calls it is stopped there, also where
-- no event comes, and not at the event
abbrev early : CoreProgram
early = record { funs = same ∷ []; main = record { past = []; params = leaf 0 one; result = one; body = same_of unit_term }; texts = [] }

one_first : calls_of early (input_of early []) ≡ 1
unfolding call_at horizon
one_first = refl

stops_first : StopsForCallsAt early 0 [] 0
stops_first = inl (refl, (let first = one_first in omega (arith, first)))
