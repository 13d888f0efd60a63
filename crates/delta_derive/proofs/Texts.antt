-- A text has no fault exactly where its lines write a derivation.
use Rattle.std.proofs.Common.{◌≡◌, ◌∙◌, ℕ, suc, Bool, List, [], ◌∷◌, ◌++◌, length, map, ap, refl, sym, subst}
use Rattle.std.specs.Prelude.{Option, Some, None}
use Rattle.std.specs.List.{All}
use Rattle.std.proofs.lemmas.List.Elements.{All-head, All-tail}
use Rattle.bunch.specs.BunchTree.{leaf_names}
use Rattle.core_term.specs.CoreTerm.{CoreBody, past_names}
use Rattle.core_term.specs.FreeNames.{bound_names, IsBoundOnce}
use Rattle.core_term.specs.Inert.{is_inert_fun}
use Rattle.core_term.proofs.BoundOnce.{distinct_right, parts_apart}
use Rattle.bunch_rules.specs.Laws.{BindsNew}
use Rattle.bunch_rules.specs.Written.{Line, WritesBody, WritesBodies, no_bodies, body_first}
use Rattle.bunch_rules.proofs.Programs.{distinct_params}
use Rattle.delta_derive.specs.declared.fault.DeriveFault.{DeriveFault}
use Rattle.delta_derive.specs.LineText.{lines_in}
use Rattle.delta_derive.specs.Claims.{Claim, body_claim, body_claims, program_claims}
use Rattle.delta_derive.specs.FirstFault.{TextLines, after, fault_at, judged, first_from}
use Rattle.delta_derive.specs.Laws.{FaultlessIsValid, ValidIsFaultless}
use Rattle.delta_derive.proofs.Options.{none_some}
use Rattle.delta_derive.proofs.Written.{WritesAll, all_of_both, writes_after}
use Rattle.delta_derive.proofs.Faultless.{Passes, goes}

not_some : {A B : Type 0} {a : A} → Some a ≡ None → B
not_some h = none_some (sym h)

rest_is_good : (f : DeriveFault) (o : Option (List Claim)) (rest : List Claim → Option DeriveFault) → judged f o rest ≡ None → (hs : List Claim) × (o ≡ Some hs) × (rest hs ≡ None)
rest_is_good f None rest e = not_some e
rest_is_good f (Some hs) rest e = (hs, refl, e)

module _ (funs : List CoreBody) (counts : ℕ → Bool) where
  -- lines without a fault write all claims
  written : (ls : TextLines) (n : ℕ) (gs : List Claim) → first_from funs counts n gs ls ≡ None → (ms : List Line) × (ls ≡ map (λ l. Some l) ms) × WritesAll funs counts gs ms []
  written [] n [] e = ([], refl, refl)
  written [] n (g ∷ gs) e = not_some e
  written (None ∷ ls) n [] e = not_some e
  written (None ∷ ls) n (g ∷ gs) e = not_some e
  written (Some l ∷ ls) n [] e = not_some e
  written (Some l ∷ ls) n (g ∷ gs) e =
      let r = rest_is_good (fault_at n l) (after funs counts l g) (λ hs. first_from funs counts (suc n) (hs ++ gs) ls) e in
      let w = written ls (suc n) (r.0 ++ gs) r.2 in
      let s = all_of_both funs counts r.0 gs w.0 [] w.2 in
      (l ∷ w.0, ap (λ k. Some l ∷ k) w.1, (s.0, writes_after funs counts l g r.0 r.1 w.0 s.0 s.1, s.2))

  -- lines that write all claims of the bodies of a program
  bodies_of : (bs : List CoreBody) (ls ms : List Line) → WritesAll funs (is_inert_fun funs) (body_claims bs) ls ms → WritesBodies funs bs ls ms
  bodies_of [] ls ms w = subst (λ k. WritesBodies funs [] ls k) w no_bodies
  bodies_of (b ∷ bs) ls ms w = body_first w.1 (bodies_of bs w.0 ms w.2)

pub faultless_is_valid : FaultlessIsValid
faultless_is_valid c text e =
    let w = written c.funs (is_inert_fun c.funs) (lines_in text) 0 (program_claims c) e in
    let s = all_of_both c.funs (is_inert_fun c.funs) (body_claims c.funs) (body_claim c.main ∷ []) w.0 [] w.2 in
    (w.0, w.1, record { main_lines = s.0; funs_written = bodies_of c.funs (is_inert_fun c.funs) c.funs w.0 s.0 s.1; main_written = subst (λ k. WritesBody c.funs c.main s.0 k) s.2.2 s.2.1 })

-- a body binds no name of its parameters
binds_in_body : (texts : ℕ) (b : CoreBody) → IsBoundOnce texts b → BindsNew (bound_names b.body) b.params
binds_in_body texts b o =
    let once = distinct_right (past_names b) (leaf_names b.params ++ bound_names b.body) o.is_once in
    record { once = distinct_right (leaf_names b.params) (bound_names b.body) once; new = parts_apart (leaf_names b.params) (bound_names b.body) once }

body_goes : (texts : ℕ) (funs : List CoreBody) (b : CoreBody) → IsBoundOnce texts b → (ls ms : List Line) → WritesBody funs b ls ms → (gs : List Claim) → Passes funs (is_inert_fun funs) gs ms → Passes funs (is_inert_fun funs) (body_claim b ∷ gs) ls
body_goes texts funs b o ls ms w gs q = goes funs (is_inert_fun funs) w (distinct_params texts b o) (binds_in_body texts b o) gs q

bodies_go : (texts : ℕ) (funs : List CoreBody) {bs : List CoreBody} {ls ms : List Line} → All (IsBoundOnce texts) bs → WritesBodies funs bs ls ms → (gs : List Claim) → Passes funs (is_inert_fun funs) gs ms → Passes funs (is_inert_fun funs) (body_claims bs ++ gs) ls
bodies_go texts funs h no_bodies gs q = q
bodies_go texts funs h (body_first {b = b} {bs = bs} {ls = ls} {ms = ms} a k) gs q = body_goes texts funs b (All-head (IsBoundOnce texts) b bs h) ls ms a (body_claims bs ++ gs) (bodies_go texts funs (All-tail (IsBoundOnce texts) b bs h) k gs q)

pub valid_is_faultless : ValidIsFaultless
valid_is_faultless c text core v =
    ap (λ l. first_from c.funs (is_inert_fun c.funs) 0 (program_claims c) l) v.1
    ∙ bodies_go (length c.texts) c.funs core.funs_once v.2.funs_written (body_claim c.main ∷ [])
    (body_goes (length c.texts) c.funs c.main core.main_once v.2.main_lines [] v.2.main_written [] (λ n. refl)) 0
