-- Calls on other numbers go along at each depth, and so do terms and whole programs.
use Rattle.std.proofs.Common.{ℕ, zero, suc, ℤ, List, map, ap, refl, sym}
use Rattle.stream_type.specs.StreamType.{StreamType}
use Rattle.stream_prefix.specs.StreamPrefix.{StreamPrefix, eps_emp}
use Rattle.bunch.specs.Names.{value_at}
use Rattle.bunch.specs.BunchTree.{leaf_names}
use Rattle.hist_value.specs.HistValue.{HistValue, unit_value}
use Rattle.core_term.specs.CoreTerm.{CoreTerm, CoreBody, CoreProgram, past_names, fun_at}
use Rattle.core_term.specs.Environment.{Environment, NameTypes}
use Rattle.core_term.specs.Agreement.{types_in}
use Rattle.core_term.specs.Split.{split}
use Rattle.core_term.specs.Meaning.{Past, no_past, call_at, run_at, main_run, program_run, horizon}
use Rattle.other_numbers.specs.Numbers.{exchanged, exchanged_value}
use Rattle.other_numbers.specs.Asked.{call_asked_at, asked_at, main_asked, program_asked}
use Rattle.other_numbers.specs.Commutes.{AllCommute}
use Rattle.other_numbers.proofs.PrefixNumbers.{emp_stays}
use Rattle.other_numbers.proofs.NameNumbers.{Along, along_values, along_split}
use Rattle.other_numbers.proofs.RunNumbers.{Goes, one_call_goes}
use Rattle.other_numbers.proofs.TermRuns.{CallsGo, term_goes}

module _ (f : ℤ → ℤ) where
  -- the parameters of a body on other numbers
  pub along_params : (names : List ℕ) (ps : List StreamPrefix) → Along (exchanged f) (value_at eps_emp names ps) (value_at eps_emp names (map (exchanged f) ps))
  along_params names ps = along_values (exchanged f) eps_emp refl names ps

  -- and its historical parameters
  pub along_pasts : (names : List ℕ) (vs : List HistValue) → Along (exchanged_value f) (value_at unit_value names vs) (value_at unit_value names (map (exchanged_value f) vs))
  along_pasts names vs = along_values (exchanged_value f) unit_value refl names vs

module _ (f : ℤ → ℤ) (funs : ℕ → CoreBody) where
  -- at depth 0 a call gives nothing, and else the body goes along at the depth below
  pub calls_go_at : (k : ℕ) → CallsGo f (call_at funs k) (call_asked_at funs k)
  unfolding call_at call_asked_at
  calls_go_at zero = record { goes = λ j vs ps h. record { same_run = ap (λ p. record { out = p; calls = 1; level = 0 }) (sym (emp_stays f (funs j).result)); same_asks = refl } }
  calls_go_at (suc k) = record {
    goes = λ j vs ps h.
        one_call_goes f
        (term_goes f funs (call_at funs k) (call_asked_at funs k) (calls_go_at k) (funs j).body (types_in (funs j).params) (funs j).result _ _ _ _
        (along_params f (leaf_names (funs j).params) ps) (along_pasts f (past_names (funs j)) vs) h);
  }

  -- a term at its depth
  pub deep_term_goes : (k : ℕ) (e : CoreTerm) (T : NameTypes) (r : StreamType) (d d' : Environment) (p p' : Past) → Along (exchanged f) d d' → Along (exchanged_value f) p p' → AllCommute f (asked_at funs k e T r d p)
      → Goes f (run_at funs k e T r d p) (run_at funs k e T r d' p') (asked_at funs k e T r d p) (asked_at funs k e T r d' p')
  deep_term_goes k = term_goes f funs (call_at funs k) (call_asked_at funs k) (calls_go_at k)

  -- a main program at its depth
  pub main_goes : (k : ℕ) (main : CoreBody) (p : StreamPrefix) → AllCommute f (main_asked funs k main p)
      → Goes f (main_run funs k main p) (main_run funs k main (exchanged f p)) (main_asked funs k main p) (main_asked funs k main (exchanged f p))
  main_goes k main p h =
      deep_term_goes k main.body (types_in main.params) main.result (split main.params p) (split main.params (exchanged f p)) no_past no_past (along_split f main.params p) (record { at = λ x. refl }) h

-- a program
pub program_goes : (f : ℤ → ℤ) (c : CoreProgram) (p : StreamPrefix) → AllCommute f (program_asked c p)
    → Goes f (program_run c p) (program_run c (exchanged f p)) (program_asked c p) (program_asked c (exchanged f p))
program_goes f c p h = main_goes f (fun_at c.funs) horizon c.main p h
