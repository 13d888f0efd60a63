-- The claims of open terms, of which the last is next.
use mathlib.Core.Path.{fun_ext}
use Rattle.std.proofs.Common.{◌≡◌, ◌∙◌, ◌<◌, ◌+◌, ℕ, Bool, List, [], ◌∷◌, ◌++◌, length, map, take, get_or, reverse, append_assoc, ap, ap₂, refl, sym}
use Rattle.std.specs.Prelude.{Option, Some, None, Result, Ok, Err, IfOk, ◌==◌, if◌then◌else◌}
use Rattle.std.proofs.lemmas.List.{take_more, reverse-reverse, reverse-append}
use Rattle.stream_type.specs.StreamType.{type_of}
use Rattle.stream_type.specs.declared.ty.Ty.{Ty}
use Rattle.bunch.specs.declared.name.Name.{Name}
use Rattle.hist_value.specs.declared.hist_type.HTy.{HTy}
use Rattle.hist_value.specs.HistType.{HistType, hist_type_of, past}
use Rattle.hist_value.specs.Environment.{types_of}
use Rattle.core_term.specs.declared.program.Body.{Body}
use Rattle.core_term.specs.CoreTerm.{CoreBody, typed_names_of, core_body_of}
use Rattle.core_term.specs.TypeFaults.{found_where}
use Rattle.core_term.specs.Typing.{past_params}
use Rattle.delta_check.proofs.Entries.{types_of-push}
use Rattle.delta_derive.specs.declared.open.OpenTerm.{OpenTerm}
use Rattle.delta_derive.specs.Claims.{Claim, body_claim, body_claims}
use Rattle.delta_derive.specs.OpenTerms.{claim_of, claims_in}
use Rattle.delta_derive.proofs.Options.{found}

pub claims_joined : (os ps : List OpenTerm) → map claim_of (os ++ ps) ≡ map claim_of os ++ map claim_of ps
claims_joined [] ps = refl
claims_joined (o ∷ os) ps = ap (λ l. claim_of o ∷ l) (claims_joined os ps)

-- the last one is next
pub claims_last : (os : List OpenTerm) (o : OpenTerm) → claims_in (os ++ o ∷ []) ≡ claim_of o ∷ claims_in os
claims_last os o = ap (map claim_of) (reverse-append os (o ∷ []))

-- a part is moved to the end
pub moved : (parts rest goals : List OpenTerm) (o : OpenTerm) → parts ≡ rest ++ o ∷ [] → map claim_of rest ++ claims_in (goals ++ o ∷ []) ≡ map claim_of parts ++ claims_in goals
moved parts rest goals o h =
    ap (λ l. map claim_of rest ++ l) (claims_last goals o) ∙ sym (append_assoc (map claim_of rest) (claim_of o ∷ []) (claims_in goals))
    ∙ ap (λ l. l ++ claims_in goals) (sym (claims_joined rest (o ∷ []))) ∙ ap (λ l. map claim_of l ++ claims_in goals) (sym h)

-- turned round they stand in the order of their claims
pub claims_reversed : (os : List OpenTerm) → claims_in (reverse os) ≡ map claim_of os
claims_reversed os = ap (map claim_of) (reverse-reverse os)

bodies_joined : (bs cs : List Body) → body_claims (map core_body_of (bs ++ cs)) ≡ body_claims (map core_body_of bs) ++ body_claims (map core_body_of cs)
bodies_joined [] cs = refl
bodies_joined (b ∷ bs) cs = ap (λ l. body_claim (core_body_of b) ∷ l) (bodies_joined bs cs)

-- the claim of one body more
pub bodies-next : (old : List Claim) (bs : List Body) (i : ℕ) (b : Body) (mid new : List Claim) (v : Bool) → i < length bs → b ≡ get_or bs i b → found_where v new ≡ Some (mid ++ body_claim (core_body_of b) ∷ []) → mid ≡ old ++ body_claims (map core_body_of (take i bs))
    → new ≡ old ++ body_claims (map core_body_of (take (i + 1) bs))
bodies-next old bs i b mid new v lt at same h =
    (found v new (mid ++ body_claim (core_body_of b) ∷ []) same).1 ∙ ap (λ l. l ++ body_claim (core_body_of b) ∷ []) h
    ∙ append_assoc old (body_claims (map core_body_of (take i bs))) (body_claim (core_body_of b) ∷ [])
    ∙ ap (λ l. old ++ l) (sym (ap (λ l. body_claims (map core_body_of l)) (take_more bs i b lt) ∙ bodies_joined (take i bs) (get_or bs i b ∷ []) ∙ ap (λ c. body_claims (map core_body_of (take i bs)) ++ body_claim (core_body_of c) ∷ []) (sym at)))

-- main's body comes last
pub main-last : {E : Type 0} (r : Result Bool E) (old mid new : List Claim) (funs : List CoreBody) (b : CoreBody) → mid ≡ old ++ body_claims funs → IfOk r (λ v. found_where v new ≡ Some (mid ++ body_claim b ∷ [])) → IfOk r (λ _. new ≡ old ++ (body_claims funs ++ body_claim b ∷ []))
main-last (Ok v) old mid new funs b h same = (found v new (mid ++ body_claim b ∷ []) same).1 ∙ ap (λ l. l ++ body_claim b ∷ []) h ∙ append_assoc old (body_claims funs) (body_claim b ∷ [])
main-last (Err e) old mid new funs b h same = tt

-- the entries of historical parameters, in turn
abbrev pub entry_of : Name × HTy → ℕ × HistType
entry_of e = (e.0.0, hist_type_of e.1)

abbrev pub param_of : Name × Ty → ℕ × HistType
param_of p = (p.0.0, past (type_of p.1))

entries_joined : (es fs : List (Name × HTy)) → map entry_of (es ++ fs) ≡ map entry_of es ++ map entry_of fs
entries_joined [] fs = refl
entries_joined (e ∷ es) fs = ap (λ l. entry_of e ∷ l) (entries_joined es fs)

params_joined : (ps qs : List (Name × Ty)) → map param_of (ps ++ qs) ≡ map param_of ps ++ map param_of qs
params_joined [] qs = refl
params_joined (p ∷ ps) qs = ap (λ l. param_of p ∷ l) (params_joined ps qs)

pub params-next : (ps : List (Name × Ty)) (i : ℕ) (p : Name × Ty) (es : List (Name × HTy)) (t : HTy) → i < length ps → p ≡ get_or ps i p → hist_type_of t ≡ past (type_of p.1) → map entry_of es ≡ map param_of (take i ps)
    → map entry_of (es ++ (p.0, t) ∷ []) ≡ map param_of (take (i + 1) ps)
params-next ps i p es t lt at same h =
    entries_joined es ((p.0, t) ∷ []) ∙ ap₂ (λ l s. l ++ (p.0.0, s) ∷ []) h same
    ∙ sym (ap (map param_of) (take_more ps i p lt) ∙ params_joined (take i ps) (get_or ps i p ∷ []) ∙ ap (λ q. map param_of (take i ps) ++ param_of q ∷ []) (sym at))

-- the first entry of a list
abbrev first_entry : List (ℕ × HistType) → ℕ → Option HistType
first_entry [] x = None
first_entry (e ∷ es) x = if x == e.0 then Some e.1 else first_entry es x

last_is_first : (es : List (Name × HTy)) (x : ℕ) → types_of (reverse es) x ≡ first_entry (map entry_of es) x
last_is_first [] x = refl
last_is_first (e ∷ es) x = ap (λ l. types_of l x) (reverse-append (e ∷ []) es) ∙ types_of-push (reverse es) e x ∙ ap (λ o. if x == e.0.0 then Some (hist_type_of e.1) else o) (last_is_first es x)

first_param : (ps : List (Name × Ty)) (x : ℕ) → first_entry (map param_of ps) x ≡ past_params (typed_names_of ps) x
first_param [] x = refl
first_param (p ∷ ps) x = ap (λ o. if x == p.0.0 then Some (past (type_of p.1)) else o) (first_param ps x)

pub known_reversed : (ps : List (Name × Ty)) (es : List (Name × HTy)) → map entry_of es ≡ map param_of ps → types_of (reverse es) ≡ past_params (typed_names_of ps)
known_reversed ps es h = fun_ext (λ x. last_is_first es x ∙ ap (λ l. first_entry l x) h ∙ first_param ps x)

pub ruleset fronts = (claims_joined, claims_last, moved, claims_reversed, bodies-next, params-next, known_reversed)
