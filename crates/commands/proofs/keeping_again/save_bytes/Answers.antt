-- The run is that of the state that was read, and what is told has a small place.
use Rattle.core_term.specs.CoreTerm.{core_of}
use Rattle.delta_keep.specs.KeptView.{kept_of, places_kept}
use Rattle.commands.proofs.Ends.{is_small}
use Rattle.commands.proofs.SaveTexts.{saves_bytes}
use Rattle.commands.proofs.keeping_again.save_bytes.Goals as goal

pub fault_end-requires : goal.fault_end-requires
fault_end-requires g c = is_small (core_of c.args.c.now) c.args.bytes.now c.in-Err.fault c.in-Err.ensures.fault

pub returns-in-Ok-clause-saved : goal.returns-in-Ok-clause-saved
returns-in-Ok-clause-saved g c =
    saves_bytes (core_of c.args.c.now) c.args.budget c.args.version c.args.bytes.now c.args.name.now _ _ c.save_again-end.result (kept_of c.in-Ok.k)
    (record { places = places_kept c.in-Ok.k; has_form = c.in-Ok.ensures.fault; has_bytes = c.in-Ok.ensures.bytes; sizes = c.in-Ok.ensures.sizes; typed = c.in-Ok.ensures.typed })
    c.save_again-end.ensures.saved
