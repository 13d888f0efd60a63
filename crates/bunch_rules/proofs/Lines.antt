-- What lines write is a derivation.
use Rattle.std.proofs.Common.{ℕ, Bool, List}
use Rattle.std.specs.List.{All}
use Rattle.std.proofs.lemmas.List.Elements.{All-nil, All-cons}
use Rattle.stream_type.specs.StreamType.{StreamType}
use Rattle.bunch.specs.BunchTree.{BunchTree}
use Rattle.core_term.specs.CoreTerm.{CoreTerm, CoreTerms, CoreBody}
use Rattle.core_term.specs.Inert.{is_inert_fun}
use Rattle.bunch_rules.specs.Derivation.{Known, Derives, Passes, Shares, nothing_passed, shared, empty_shared, leaf_shared, comma_shared, semi_shared, IsDerivedBody, rearranged, var_rule, eps_rule, unit_rule, nil_rule, past_rule, par_rule, inl_rule, inr_rule, cat_rule, cons_rule, let_rule, let_par_rule, let_cat_rule, case_sum_rule, case_star_rule, wait_rule, call_rule}
use Rattle.bunch_rules.specs.Written.{Line, Writes, WritesPassed, WritesShared, nothing_written, shared_lines, empty_lines, leaf_lines, comma_lines, semi_lines, WritesBodies, no_bodies, body_first, line_of_step, var_line, eps_line, unit_line, nil_line, past_line, par_line, inl_line, inr_line, cat_line, cons_line, let_line, let_par_line, let_cat_line, case_sum_line, case_star_line, wait_line, call_line}
use Rattle.bunch_rules.specs.Laws.{WrittenIsDerived, WrittenProgramIsTyped}
use Rattle.bunch_rules.proofs.Programs.{derived_program_is_typed}

module _ (funs : List CoreBody) (counts : ℕ → Bool) where
  mutual
    derivation_of : {known : Known} {g : BunchTree} {e : CoreTerm} {r : StreamType} {ls ms : List Line} → Writes funs counts known g e r ls ms → Derives funs counts known g e r
    derivation_of (line_of_step a b c) = rearranged a b (derivation_of c)
    derivation_of (var_line a) = var_rule a
    derivation_of eps_line = eps_rule
    derivation_of unit_line = unit_rule
    derivation_of nil_line = nil_rule
    derivation_of (past_line a) = past_rule a
    derivation_of (par_line a b) = par_rule (derivation_of a) (derivation_of b)
    derivation_of (inl_line a) = inl_rule (derivation_of a)
    derivation_of (inr_line a) = inr_rule (derivation_of a)
    derivation_of (cat_line a b) = cat_rule (derivation_of a) (derivation_of b)
    derivation_of (cons_line a b) = cons_rule (derivation_of a) (derivation_of b)
    derivation_of (let_line a b c d) = let_rule a b (derivation_of c) (derivation_of d)
    derivation_of (let_par_line a b) = let_par_rule a (derivation_of b)
    derivation_of (let_cat_line a b) = let_cat_rule a (derivation_of b)
    derivation_of (case_sum_line a b c d) = case_sum_rule a (derivation_of b) c (derivation_of d)
    derivation_of (case_star_line a b c) = case_star_rule (derivation_of a) b (derivation_of c)
    derivation_of (wait_line a b c) = wait_rule a b (derivation_of c)
    derivation_of (call_line a b c d e) = call_rule a b c (passing_of d) e

    passing_of : {known : Known} {params g : BunchTree} {es : CoreTerms} {ls ms : List Line} → WritesPassed funs counts known params g es ls ms → Passes funs counts known params g es
    passing_of nothing_written = nothing_passed
    passing_of (shared_lines a) = shared (sharing_of a)

    sharing_of : {known : Known} {params g : BunchTree} {es fs : CoreTerms} {ls ms : List Line} → WritesShared funs counts known params g es fs ls ms → Shares funs counts known params g es fs
    sharing_of empty_lines = empty_shared
    sharing_of (leaf_lines a) = leaf_shared (derivation_of a)
    sharing_of (comma_lines a b) = comma_shared (sharing_of a) (sharing_of b)
    sharing_of (semi_lines a b) = semi_shared (sharing_of a) (sharing_of b)

bodies_of : (funs : List CoreBody) {bs : List CoreBody} {ls ms : List Line} → WritesBodies funs bs ls ms → All (IsDerivedBody funs) bs
bodies_of funs no_bodies = All-nil (IsDerivedBody funs)
bodies_of funs (body_first {b = b} {bs = bs} a k) = All-cons (IsDerivedBody funs) b bs (derivation_of funs (is_inert_fun funs) a) (bodies_of funs k)

pub written_is_derived : WrittenIsDerived
written_is_derived c ls w = record { funs_derived = bodies_of c.funs w.funs_written; main_derived = derivation_of c.funs (is_inert_fun c.funs) w.main_written }

pub written_program_is_typed : WrittenProgramIsTyped
written_program_is_typed c ls core w = derived_program_is_typed c core (written_is_derived c ls w)
