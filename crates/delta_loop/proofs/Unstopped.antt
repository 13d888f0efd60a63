-- A program that makes no call isn't stopped.
use Rattle.std.proofs.Common.{◌≡◌, ◌⊎◌, inl, inr, ℕ, List, [], ◌∷◌, ◌++◌, arith}
use Rattle.event_word.specs.StreamEvent.{StreamEvent}
use Rattle.delta_loop.specs.Meaning.{Meaning, StartsCostly, StartsDeep, IsCostly, IsDeep}
use Rattle.delta_loop.specs.Return.{StopsFirst, StopsAt}
use Rattle.delta_loop.specs.Answer.{IsCheap}

pub record MakesNoCalls (P : Meaning) : Type 0 where
  pub calls : (word : List StreamEvent) → P.calls word ≡ 0
  pub level : (word : List StreamEvent) → P.level word ≡ 0

module _ (P : Meaning) (none : MakesNoCalls P) where
  pub no_costly : (input written : List ℕ) (at : ℕ) → StopsFirst P (StartsCostly P) input written at ⊎ StopsAt P (IsCostly P) input written at → ⊥
  no_costly input written at (inl stop) = omega (arith, stop.why, none.calls [])
  no_costly input written at (inr stop) = omega (arith, stop.why, none.calls (stop.word ++ stop.event ∷ []))

  pub no_deep : (input written : List ℕ) (at : ℕ) → StopsFirst P (StartsDeep P) input written at ⊎ StopsAt P (IsDeep P) input written at → ⊥
  no_deep input written at (inl stop) = omega (arith, stop.why, none.level [])
  no_deep input written at (inr stop) = omega (arith, stop.why, none.level (stop.word ++ stop.event ∷ []))

  pub none_is_cheap : (word : List StreamEvent) → IsCheap P word
  none_is_cheap word = record {
    start_calls = omega (arith, none.calls []);
    start_level = omega (arith, none.level []);
    calls = λ before after x is. omega (arith, none.calls (before ++ x ∷ []));
    level = λ before after x is. omega (arith, none.level (before ++ x ∷ []));
  }
