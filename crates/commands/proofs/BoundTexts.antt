-- From what `bound` answers for the core of an accepted text to what is told of the text.
use Rattle.std.proofs.Common.{◌≡◌, ◌∙◌, ℕ, List, ap, sym, refl}
use Rattle.std.specs.Prelude.{slice_get}
use Rattle.bunch.specs.declared.name.Name.{Name}
use Rattle.core_term.specs.declared.program.Core.{Core}
use Rattle.core_term.specs.CoreTerm.{core_of, core_places}
use Rattle.delta_tree.specs.SyntaxTree.{ProgramTree}
use Rattle.delta_meaning.specs.NodePlaces.{program_places}
use Rattle.delta_end.specs.declared.objection.BoundName.TheVariants as name
use Rattle.checked_program.specs.Acceptance.{IsAcceptedAs}
use Rattle.delta_bound.specs.declared.refusal.BoundRefusal.TheVariants.{Unbounded, Cycle, Large}
use Rattle.delta_bound.specs.Refusals.{HasBound, Refuses}
use Rattle.delta_bound.specs.Unsized.{program_unsized}
use Rattle.commands.specs.Unsized.{core_unsized, bodies_at}
use Rattle.commands.specs.Bounding.{IsBounded, IsUnbounded}
use Rattle.commands.proofs.ReadOff.{core_reads_off, places_read_off}

module _ (text : List ℕ) (p : ProgramTree) (c : Core) (accepted : IsAcceptedAs text p (core_of c)) (places : core_places c ≡ program_places p) where
  unsized : core_unsized (program_places p) (core_of c) ≡ program_unsized c
  unsized = ap (λ (ps : List ℕ). core_unsized ps (core_of c)) (sym places) ∙ core_reads_off c

  pub bounded : (n : ℕ) → HasBound c n → IsBounded text n
  bounded n has = record {
    program = p;
    core = core_of c;
    accepted = accepted;
    bound = record { sized = unsized ∙ has.sized; settled = has.settled; is_bound = has.is_bound; is_small = has.is_small };
  }

  pub unbounded : (x : Name) (at : ℕ) → Refuses (Unbounded x at) c → IsUnbounded text name.Unbounded at
  unbounded x at refuses = record { program = p; core = core_of c; accepted = accepted; no_bound = (x.0, unsized ∙ refuses) }

  pub cyclic : (f at : ℕ) → Refuses (Cycle f at) c → IsUnbounded text name.Cycle at
  cyclic f at refuses = record {
    program = p;
    core = core_of c;
    accepted = accepted;
    no_bound = (
      unsized ∙ refuses.0,
      f,
      refuses.1,
      ap (λ (ps : List ℕ). slice_get (bodies_at ps (core_of c).funs) f) (sym places) ∙ ap (λ (ps : List ℕ). slice_get ps f) (places_read_off c) ∙ refuses.2,
    );
  }

  pub large : Refuses Large c → IsUnbounded text name.Large 0
  large refuses = record { program = p; core = core_of c; accepted = accepted; no_bound = (unsized ∙ refuses.0, refuses.1, refuses.2, refl) }
