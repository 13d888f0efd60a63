-- The core of a program runs as the program does.
use Rattle.std.proofs.Common.{◌≡◌, ℕ, zero, suc, ◌+◌, ◌<◌, Bool, true, List, [], ◌∷◌, length, get_or, refl, sym, ap, ◌∙◌, subst, arith, Ok, Err}
use Rattle.std.proofs.lemmas.List.{length-map}
use Rattle.std.specs.List.{All}
use Rattle.bunch.proofs.Tables.{place_in-within, value_at-place}
use Rattle.delta_tree.specs.SyntaxTree.{Declaration, alias_declared, function_declared, ProgramTree}
use Rattle.core_term.specs.CoreTerm.{CoreBody, CoreProgram, no_body, fun_at}
use Rattle.core_term.specs.Meaning.{no_past, horizon, call_at, body_run, run_at, main_run}
use Rattle.core_term.specs.Agreement.{types_in}
use Rattle.core_term.specs.Typing.{IsTypedBody, IsTypedCore}
use Rattle.delta_meaning.specs.TypeNames.{TypeNames, no_type_names, names_below}
use Rattle.delta_meaning.specs.SourceBody.{SourceBody, body_meant, names_below_all, functions_among, functions_of, main_of, function_names, no_function, function_named, number_named, is_function}
use Rattle.delta_meaning.specs.SourceMeaning.{source_run, source_call_at, source_body_run, source_main_run}
use Rattle.delta_meaning.specs.NewNames.{new_in_body, new_in_bodies}
use Rattle.delta_meaning.specs.Elaboration.{core_body, core_bodies}
use Rattle.delta_meaning.specs.Faults.{Fault, type_faults, params_faults, past_faults, faults_in, bound_at_first, function_faults, where_none, unknown_in_params, main_faults, declaration_faults, faults}
use Rattle.delta_meaning.specs.Elaborated.{core_of_tree, unless_wrong, elaborate}
use Rattle.delta_meaning.specs.Laws.{ElaboratesWhereFine, RefusedAtFirst, CoreKeepsMeaning, CoreKeepsRun, CoreKeepsArguments, CoreKeepsEnvironment, CoreKeepsCalls}
use Rattle.delta_meaning.proofs.Keeping.{none_first, none_second}
use Rattle.delta_meaning.proofs.Bodies.{core_reads, IsElaborated, calls_keep, bodies_keep, main_keeps, environments_keep}

-- what an elaboration that isn't refused says
pub record IsFine (p : ProgramTree) (c : CoreProgram) : Type 0 where
  pub fine : faults p ≡ []
  pub is : core_of_tree p ≡ c

fine_of : (xs : List Fault) (a c : CoreProgram) → unless_wrong xs a ≡ Ok c → (xs ≡ []) × (a ≡ c)
fine_of [] a c h = (refl, cc h)
fine_of (x ∷ xs) a c h = absurd (cc h)

pub is_fine : (p : ProgramTree) (c : CoreProgram) → elaborate p ≡ Ok c → IsFine p c
is_fine p c h = let e = fine_of (faults p) (core_of_tree p) c h in record { fine = e.0; is = e.1 }

wrong_of : (xs : List Fault) (a : CoreProgram) (x : Fault) → unless_wrong xs a ≡ Err x → (ys : List Fault) × (xs ≡ x ∷ ys)
wrong_of [] a x h = absurd (cc h)
wrong_of (y ∷ ys) a x h = (ys, cc h)

pub elaborates_where_fine : ElaboratesWhereFine
elaborates_where_fine p c = (fine_of (faults p) (core_of_tree p) c, λ h. ap (λ xs. unless_wrong xs (core_of_tree p)) h.0 ∙ ap Ok h.1)

pub refused_at_first : RefusedAtFirst
refused_at_first p x = (wrong_of (faults p) (core_of_tree p) x, λ h. ap (λ xs. unless_wrong xs (core_of_tree p)) h.1)

-- nothing is wrong with the names of a body
abbrev BodyIsFine : (ℕ → Bool) → SourceBody → Type 0
BodyIsFine is_there b = faults_in is_there b.type_names b.body (bound_at_first b) ≡ []

-- what is wrong with a function's body is wrong with it
body_is_fine : (is_there : ℕ → Bool) (names : TypeNames) (f : _) → function_faults is_there names f ≡ [] → BodyIsFine is_there (body_meant names f)
body_is_fine is_there names f h =
    let params = none_second (past_faults names f.past) _ h in
    let result = none_second (params_faults names f.context) _ params in
    none_second (type_faults names f.result) _ result

functions_are_fine : (is_there : ℕ → Bool) (names : TypeNames) (ds : List Declaration) → declaration_faults is_there names ds ≡ [] → All (BodyIsFine is_there) (functions_among names ds)
functions_are_fine is_there names [] h k d lt = absurd (omega (arith, lt))
functions_are_fine is_there names (alias_declared a ∷ ds) h k d lt =
    functions_are_fine is_there (names_below names (alias_declared a)) ds (none_second (type_faults names a.type) _ h) k d lt
functions_are_fine is_there names (function_declared f ∷ ds) h zero d lt = body_is_fine is_there names f (none_first (function_faults is_there names f) _ h)
functions_are_fine is_there names (function_declared f ∷ ds) h (suc k) d lt =
    functions_are_fine is_there names ds (none_second (function_faults is_there names f) _ h) k d (omega (arith, lt))

module _ (functions : ℕ → SourceBody) (number : ℕ → ℕ) where
  -- the core of the function in a place
  pub record CoreAt (bs : List SourceBody) (n i : ℕ) : Type 0 where
    pub first : ℕ
    pub is : get_or (core_bodies functions number bs n) i no_body ≡ core_body functions number (get_or bs i no_function) first

  pub core_in_place : (bs : List SourceBody) (n i : ℕ) → i < length bs → CoreAt bs n i
  core_in_place [] n i lt = absurd (omega (arith, lt))
  core_in_place (b ∷ bs) n zero lt = record { first = n; is = refl }
  core_in_place (b ∷ bs) n (suc i) lt = let r = core_in_place bs (n + length (new_in_body b)) i (omega (arith, lt)) in record { first = r.first; is = r.is }

  pub length-core_bodies : (bs : List SourceBody) (n : ℕ) → length (core_bodies functions number bs n) ≡ length bs
  length-core_bodies [] n = refl
  length-core_bodies (b ∷ bs) n = ap suc (length-core_bodies bs (n + length (new_in_body b)))

module _ (p : ProgramTree) where
  abbrev functions : ℕ → SourceBody
  functions = function_named (functions_of p)

  abbrev number : ℕ → ℕ
  number = number_named (functions_of p)

  abbrev is_there : ℕ → Bool
  is_there = is_function (functions_of p)

  abbrev core : CoreProgram
  core = core_of_tree p

  abbrev funs : ℕ → CoreBody
  funs = fun_at core.funs

  pub place_below : (f : ℕ) → is_there f ≡ true → number f < length (functions_of p)
  place_below f h = let l = length-map (functions_of p) (λ b. SourceBody.name b) in let w = place_in-within f (function_names (functions_of p)) h in omega (arith, l, w)

  pub named_in_place : (f : ℕ) → functions f ≡ get_or (functions_of p) (number f) no_function
  named_in_place f = value_at-place no_function (function_names (functions_of p)) (functions_of p) f (sym (length-map (functions_of p) (λ b. SourceBody.name b)))

  module _ (fine : faults p ≡ []) (typed : IsTypedCore core) where
    functions_fine : All (BodyIsFine is_there) (functions_of p)
    functions_fine = functions_are_fine is_there no_type_names p.declarations (none_first _ (main_faults is_there (names_below_all no_type_names p.declarations) p.main) fine)

    function_elaborates : (f : ℕ) → is_there f ≡ true → IsElaborated functions number is_there (functions f) (funs (number f))
    function_elaborates f h =
        let lt = place_below f h in
        let at = core_in_place functions number (functions_of p) 0 (number f) lt in
        let e = at.is ∙ ap (λ b. core_body functions number b at.first) (sym (named_in_place f)) in
        let l = length-core_bodies functions number (functions_of p) 0 in
        record {
          first = at.first;
          is = e;
          fine = subst (BodyIsFine is_there) (sym (named_in_place f)) (functions_fine (number f) no_function lt);
          reads = core_reads functions number core.funs (functions f) at.first (subst (IsTypedBody core.funs) e (typed.funs_typed (number f) no_body (omega (arith, lt, l))));
        }

    main_elaborates : IsElaborated functions number is_there (main_of p) core.main
    main_elaborates =
        let names = names_below_all no_type_names p.declarations in
        let wrong = none_second (declaration_faults is_there no_type_names p.declarations) _ fine in
        record {
          first = length (new_in_bodies (functions_of p));
          is = refl;
          fine = body_is_fine is_there names (record p.main { past = [] }) (none_second (where_none (unknown_in_params names p.main.context) _) _ wrong);
          reads = core_reads functions number core.funs (main_of p) (length (new_in_bodies (functions_of p))) typed.main_typed;
        }

-- what holds of a fine program's core, if it is typed, holds of what the program elaborates to
of_elaborated : (p : ProgramTree) (P : CoreProgram → Type 0) → (faults p ≡ [] → IsTypedCore (core_of_tree p) → P (core_of_tree p)) → (c : CoreProgram) → elaborate p ≡ Ok c → IsTypedCore c → P c
of_elaborated p P k c h typed = let e = is_fine p c h in subst P e.is (k e.fine (subst IsTypedCore (sym e.is) typed))

pub core_keeps_run : CoreKeepsRun
core_keeps_run p c h typed k q =
    of_elaborated p (λ c. main_run (fun_at (CoreProgram.funs c)) k c.main q ≡ source_main_run (functions p) k (main_of p) q)
    (λ fine t. main_keeps (functions p) (number p) (is_there p) (funs p) (function_elaborates p fine t) k (main_of p) (core p).main (main_elaborates p fine t) refl q) c h typed

pub core_keeps_meaning : CoreKeepsMeaning
core_keeps_meaning p c h typed q = core_keeps_run p c h typed horizon q

pub core_keeps_arguments : CoreKeepsArguments
core_keeps_arguments p c h typed k ps =
    of_elaborated p (λ c. body_run (fun_at (CoreProgram.funs c)) (call_at (fun_at c.funs) k) c.main [] ps ≡ source_body_run (functions p) (source_call_at (functions p) k) (main_of p) [] ps)
    (λ fine t. bodies_keep (functions p) (number p) (is_there p) (funs p) (function_elaborates p fine t) k (main_of p) (core p).main (main_elaborates p fine t) [] ps) c h typed

pub core_keeps_environment : CoreKeepsEnvironment
unfolding main_elaborates
core_keeps_environment p c h typed k env core_env same =
    of_elaborated p (λ c. run_at (fun_at (CoreProgram.funs c)) k (CoreBody.body c.main) (types_in (CoreBody.params c.main)) (CoreBody.result c.main) core_env no_past
    ≡ source_run (functions p) (source_call_at (functions p) k) (main_of p).type_names (main_of p).body (types_in (main_of p).params) (main_of p).result env no_past)
    (λ fine t. environments_keep (functions p) (number p) (is_there p) (funs p) (function_elaborates p fine t) k (main_of p) (core p).main (main_elaborates p fine t) refl env core_env same) c h typed

pub core_keeps_calls : CoreKeepsCalls
core_keeps_calls p c h typed k f vs ps there =
    of_elaborated p (λ c. call_at (fun_at (CoreProgram.funs c)) k (number p f) vs ps ≡ source_call_at (functions p) k f vs ps)
    (λ fine t. calls_keep (functions p) (number p) (is_there p) (funs p) (function_elaborates p fine t) k f vs ps there) c h typed
