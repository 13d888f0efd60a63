-- The load's program on the load.
use Rattle.std.proofs.Common.{◌≡◌, ℕ, zero, suc, pred, max, ◌+◌, ◌<◌, ◌≤◌, List, [], ◌∷◌, ◌++◌, length, take, refl, ap, sym, subst, ◌∙◌, append_assoc, append-nil, arith}
use Rattle.std.proofs.Math.Seq.{take-append_seam, take-append-add}
use Rattle.stream_prefix.specs.StreamPrefix.{StreamPrefix}
use Rattle.stream_prefix.specs.Increment.{increment}
use Rattle.event_word.specs.StreamEvent.{StreamEvent}
use Rattle.event_word.specs.Word.{pre}
use Rattle.event_word.specs.Canon.{canon}
use Rattle.core_term.specs.Meaning.{horizon, calls_of, level_of}
use Rattle.delta_state.specs.MachineView.{input_of}
use Rattle.delta_session.specs.OneShot.{OneShot, said}
use Rattle.delta_output.specs.Spoken.{spoken_after}
use Rattle.delta_session.specs.Programs.{one_shot}
use Rattle.delta_load.specs.Load.{load_type, load}
use Rattle.delta_load.specs.LoadCore.{load_core}
use Rattle.delta_load.specs.ProgramLaws.{LoadIsLight, LoadIsAnswered, CoreFitsLoad}
use Rattle.delta_load.proofs.Runs.{over_run, nothing_out, nothing_calls}
use Rattle.delta_load.proofs.Fronts.{one_more, flat}
use Rattle.delta_load.proofs.Spoken.{along, along_same, along_load}

pub fits_load : CoreFitsLoad
fits_load = record { input = refl; fits = refl }

calls_are : (p : StreamPrefix) → calls_of load_core p ≡ (over_run horizon p).calls
calls_are p = omega arith

level_is : (p : StreamPrefix) → (over_run horizon p).level ≤ 1 → level_of load_core p ≡ 0
level_is p low = at_most ((over_run horizon p).level) low
  where
    at_most : (l : ℕ) → l ≤ 1 → pred (max 1 (max 0 l)) ≡ 0
    at_most zero h = refl
    at_most (suc zero) h = refl
    at_most (suc (suc l)) h = absurd (omega (arith, h))

deep_enough : (items : ℕ) → items ≤ 10000000 → items < horizon
unfolding horizon
deep_enough items h = omega (arith, h)

-- a word up to a place
up_to : (word before rest : List StreamEvent) → word ≡ before ++ rest → take (length before) word ≡ before
up_to word before rest is = ap (take (length before)) is ∙ take-append_seam before rest

up_to_next : (word before rest : List StreamEvent) (x : StreamEvent) → word ≡ before ++ x ∷ rest → take (suc (length before)) word ≡ before ++ x ∷ []
up_to_next word before rest x is =
    let next : suc (length before) ≡ length before + 1 = omega arith in
    ap (λ (n : ℕ). take n word) next ∙ ap (take (length before + 1)) is ∙ take-append-add before (x ∷ rest) 1

pub load_is_light : LoadIsLight
load_is_light start items few = record {
  first = (let none = nothing_calls horizon in let are = calls_are (input_of load_core []) in omega (arith, none, are));
  one_more = λ before rest x is.
      let n = length before in
      let more = one_more horizon start 0 items n (deep_enough items few) in
      let now = calls_are (input_of load_core before) in
      let next = calls_are (input_of load_core (before ++ x ∷ [])) in
      let here = ap (λ (w : List StreamEvent). (over_run horizon (pre load_type w)).calls) (up_to (load start items) before (x ∷ rest) is) in
      let there = ap (λ (w : List StreamEvent). (over_run horizon (pre load_type w)).calls) (up_to_next (load start items) before rest x is) in
      omega (arith, more, now, next, here, there);
  flat = λ before rest is.
      level_is (input_of load_core before)
      (subst (λ (w : List StreamEvent). (over_run horizon (pre load_type w)).level ≤ 1) (up_to (load start items) before rest is) (flat horizon start 0 items (length before)));
}

-- what a program says event by event, told by what it says to each front
spoken_along : (P : OneShot) (before word : List StreamEvent) → spoken_after P before word ≡ along (λ v. said P (before ++ v)) word
spoken_along P before [] = refl
spoken_along P before (x ∷ word) =
    ap (λ (b : List StreamEvent). canon (increment (said P b) (said P (before ++ x ∷ []))) ++ spoken_after P (before ++ x ∷ []) word) (sym (append-nil before))
    ∙ ap (λ (w : List StreamEvent). canon (increment (said P (before ++ [])) (said P (before ++ x ∷ []))) ++ w)
    (spoken_along P (before ++ x ∷ []) word ∙ along_same (λ v. said P ((before ++ x ∷ []) ++ v)) (λ v. said P (before ++ x ∷ v)) (λ v. ap (said P) (append_assoc before (x ∷ []) v)) word)

pub load_is_answered : LoadIsAnswered
load_is_answered start items few =
    ap (λ (w : List StreamEvent). w ++ spoken_after (one_shot load_core) [] (load start items)) (ap canon (nothing_out horizon))
    ∙ spoken_along (one_shot load_core) [] (load start items)
    ∙ along_load horizon start 0 items (deep_enough items few)
