-- A fact more, or none.
use Rattle.std.proofs.Common.{◌∙◌, eqb, map, sym}
use Rattle.delta_check.specs.Scopes.{context_in, facts_given}
use Rattle.delta_keep.specs.KeptView.{held_of}
use Rattle.kept_check.specs.Holding.{stays_before}
use Rattle.kept_check.proofs.HeldFacts.{one_more, no_more}
use Rattle.kept_check.proofs.holding.add_fact.Goals as goal

pub returns-then-not-is_kept : goal.returns-then-not-is_kept
returns-then-not-is_kept c = λ u v.
    no_more (facts_given c.args.facts.now.items u v) (eqb u c.args.x.0) (eqb v c.args.y.0) (stays_before (map held_of c.args.held.now) (context_in c.args.scope.now).order c.args.x.0 c.args.y.0)
    (sym c.is_kept.ensures ∙ c.if-not-is_kept.true)

pub returns : goal.returns
returns c = λ u v.
    one_more c.args.facts.now.items c.push.new.self.items c.args.x c.args.y u v (stays_before (map held_of c.args.held.now) (context_in c.args.scope.now).order c.args.x.0 c.args.y.0)
    c.in_ok-push.ensures.items (sym c.is_kept.ensures ∙ c.if-not-is_kept.false)
