-- The load's program isn't stopped on the load, and its output isn't long.
use Rattle.std.proofs.Common.{◌≡◌, ℕ, zero, suc, ◌+◌, ◌*◌, ◌≤◌, Bool, true, false, nat_lt, List, [], ◌∷◌, ◌++◌, length, inl, inr, if◌then◌else◌, refl, ap, sym, subst, ◌∙◌, append_assoc, arith}
use Rattle.event_word.specs.StreamEvent.{StreamEvent}
use Rattle.event_frame.specs.declared.version.Version.TheVariants.{V1}
use Rattle.event_frame.specs.Frames.{frames}
use Rattle.core_term.specs.CoreTerm.{CoreProgram}
use Rattle.delta_output.specs.Spoken.{spoken}
use Rattle.delta_session.specs.Programs.{one_shot}
use Rattle.delta_load.specs.Load.{value_of, load}
use Rattle.delta_load.specs.Counting.{stream_bytes, IsLong}
use Rattle.delta_load.specs.Stopping.{StopsForCalls, StopsForLevel}
use Rattle.delta_load.specs.LoadCore.{load_core}
use Rattle.delta_load.specs.LoadOutput.{key_events, kept_from}
use Rattle.delta_load.proofs.Loads.{load_is_light, load_is_answered}

pub not_costly : (c : CoreProgram) (start items : ℕ) → c ≡ load_core → items ≤ 10000000 → StopsForCalls c 1000000 (load start items) → ⊥
not_costly c start items is few stops = at_core (subst (λ (d : CoreProgram). StopsForCalls d 1000000 (load start items)) is stops)
  where
    at_core : StopsForCalls load_core 1000000 (load start items) → ⊥
    at_core (inl first) = (let light = (load_is_light start items few).first in omega (arith, light, first))
    at_core (inr met) = (let light = (load_is_light start items few).one_more met.before met.rest met.event met.split in let why = met.why in omega (arith, light, why))

pub not_deep : (c : CoreProgram) (start items : ℕ) → c ≡ load_core → items ≤ 10000000 → StopsForLevel c 1000 (load start items) → ⊥
not_deep c start items is few stops = at_core (subst (λ (d : CoreProgram). StopsForLevel d 1000 (load start items)) is stops)
  where
    at_core : StopsForLevel load_core 1000 (load start items) → ⊥
    at_core (inl first) = (let flat = (load_is_light start items few).flat [] (load start items) refl in omega (arith, flat, first))
    at_core (inr met) =
        let split : load start items ≡ (met.before ++ met.event ∷ []) ++ met.rest = met.split ∙ sym (append_assoc met.before (met.event ∷ []) met.rest) in
        let flat = (load_is_light start items few).flat (met.before ++ met.event ∷ []) met.rest split in
        let why = met.why in
        omega (arith, flat, why)

-- a key has fifteen bytes
key_bytes : (key : ℕ) (word : List StreamEvent) (b : Bool) → length (frames V1 ((if b then key_events key else []) ++ word)) ≤ 15 + length (frames V1 word)
key_bytes key word true = omega arith
key_bytes key word false = omega arith

kept_bytes : (start key items : ℕ) → length (frames V1 (kept_from start key items)) ≤ 15 * items + 2
kept_bytes start key zero = omega arith
kept_bytes start key (suc items) =
    let rest = kept_bytes start (key + 1) items in
    let one = key_bytes key (kept_from start (key + 1) items) (nat_lt 500 (value_of start key)) in
    omega (arith, rest, one)

pub not_long : (c : CoreProgram) (start items : ℕ) → c ≡ load_core → items ≤ 10000000 → IsLong (spoken (one_shot c) (load start items)) → ⊥
not_long c start items is few long =
    let bytes = kept_bytes start 0 items in
    let same = ap stream_bytes (ap (λ (d : CoreProgram). spoken (one_shot d) (load start items)) is ∙ load_is_answered start items few) in
    omega (arith, bytes, same, long, few)
