-- The run is that of the state that was read, and what is told has a small place.
use Rattle.core_term.specs.CoreTerm.{core_of}
use Rattle.delta_keep.specs.KeptView.{kept_of, places_kept}
use Rattle.commands.proofs.Ends.{is_small, goes_on, resumes_reads, resumes_takes, resumes_usage}
use Rattle.commands.proofs.resuming.resume_bytes.Goals as goal

pub fault_end-requires : goal.fault_end-requires
fault_end-requires g c = is_small (core_of c.args.c.now) c.args.bytes.now c.in-Err.fault c.in-Err.ensures.fault

pub returns-in-Ok-clause-resumed : goal.returns-in-Ok-clause-resumed
returns-in-Ok-clause-resumed g c =
    goes_on (core_of c.args.c.now) c.args.budget c.args.version c.args.bytes.now (g.L.Link.log c.args.link.now) (g.L.Link.log c.run_kept-end.new.link)
    (g.L.Link.left c.args.link.now) (g.L.Link.left c.run_kept-end.new.link) c.run_kept-end.result
    (record {
      kept = kept_of c.in-Ok.k;
      typed = record { places = places_kept c.in-Ok.k; has_form = c.in-Ok.ensures.fault; has_bytes = c.in-Ok.ensures.bytes; sizes = c.in-Ok.ensures.sizes; typed = c.in-Ok.ensures.typed };
      ran = c.run_kept-end.ensures.ran;
    })

pub returns-in-Ok-clause-reads : goal.returns-in-Ok-clause-reads
returns-in-Ok-clause-reads g c =
    resumes_reads (core_of c.args.c.now) c.args.budget c.args.version c.args.bytes.now _ _ _ _ c.run_kept-end.result (returns-in-Ok-clause-resumed g c)

pub returns-in-Ok-clause-resumes : goal.returns-in-Ok-clause-resumes
returns-in-Ok-clause-resumes g c =
    resumes_usage (core_of c.args.c.now) c.args.budget c.args.version c.args.bytes.now _ _ _ _ c.run_kept-end.result (returns-in-Ok-clause-resumed g c)

pub returns-in-Ok-clause-taken : goal.returns-in-Ok-clause-taken
returns-in-Ok-clause-taken g c =
    resumes_takes (core_of c.args.c.now) c.args.budget c.args.version c.args.bytes.now _ _ _ _ c.run_kept-end.result (returns-in-Ok-clause-resumed g c)
