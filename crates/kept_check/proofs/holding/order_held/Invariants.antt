-- With the facts of the names left, those so far are all.
use Rattle.std.proofs.Common.{◌≡◌, ◌||◌, ◌&&◌, ℕ, drop, map}
use Rattle.bunch.specs.Names.{numbers_of, holds}
use Rattle.delta_check.specs.Scopes.{context_in, facts_given}
use Rattle.delta_state.specs.StateTyping.{facts_held}
use Rattle.delta_keep.specs.KeptView.{held_of}
use Rattle.kept_check.specs.Holding.{stays_before}
use Rattle.kept_check.proofs.holding.order_held.Given as goal

abbrev pub invariant-loop-name : goal.invariant-loop-name
invariant-loop-name l =
    (u v : ℕ)
    → (facts_given l.facts.items u v || (holds u (numbers_of (drop l.name-index l.names)) && (holds v (numbers_of l.names) && stays_before (map held_of l.held) (context_in l.scope).order u v)))
    ≡ facts_held (map held_of l.held) (context_in l.scope).order u v
