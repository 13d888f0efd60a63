-- With the facts of the names left, those so far are all.
use Rattle.std.proofs.Common.{◌≡◌, ◌||◌, ◌&&◌, eqb, ℕ, drop, map}
use Rattle.bunch.specs.Names.{numbers_of, holds}
use Rattle.delta_check.specs.Scopes.{context_in, facts_given}
use Rattle.delta_keep.specs.KeptView.{held_of}
use Rattle.kept_check.specs.Holding.{stays_before}
use Rattle.kept_check.proofs.holding.add_facts.Given as goal

abbrev pub invariant-loop-name : goal.invariant-loop-name
invariant-loop-name l =
    (u v : ℕ)
    → (facts_given l.facts.items u v || (eqb u l.x.0 && (holds v (numbers_of (drop l.name-index l.names)) && stays_before (map held_of l.held) (context_in l.scope).order l.x.0 v)))
    ≡ (facts_given l.fn.facts.items u v || (eqb u l.x.0 && (holds v (numbers_of l.names) && stays_before (map held_of l.held) (context_in l.scope).order l.x.0 v)))
