-- A rule on a subject, and on equal types, by what the program finds.
use Rattle.std.proofs.Common.{◌≡◌, ◌<◌, ◌≤◌, ℕ, Bool, true, false, refl, ap, ap₂, sym, subst, ◌∙◌, ◌+◌, List, [], ◌∷◌, map, drop, get_or, length}
use Rattle.std.specs.Prelude.{Option, Some, None, option_map, nat_lt, if◌then◌else◌}
use Rattle.stream_type.specs.StreamType.{StreamType, type_of}
use Rattle.hist_value.specs.HistType.{HistType, past}
use Rattle.hist_value.specs.Refusal.{HistRefusal}
use Rattle.core_term.specs.Parts.{is_same_type}
use Rattle.core_term.specs.Typing.{Context}
use Rattle.core_term.specs.TypeFaults.{Cause, cause_number, lower, of_subject, of_stream, first_some, of_pasts, history_fault}
use Rattle.std.proofs.lemmas.Bool.{lt-ltb, le-ltb, ltb-true}
use Rattle.std.proofs.lemmas.List.{at_drop_more}
use Rattle.stream_type.specs.declared.ty.Ty.{Ty}
use Rattle.bunch.specs.declared.name.Name.{Name}
use Rattle.hist_value.specs.declared.expr.Expr.{Expr}
use Rattle.hist_value.specs.HistExpr.{expr_of}
use Rattle.core_term.specs.CoreTerm.{typed_names_of}
use Rattle.core_term.specs.TypeFaults.{expr_refusal}
use Rattle.delta_check.specs.declared.fault.TypeCause.{TypeCause}
use Rattle.delta_check.specs.Faults.{cause_of, Tells}
use Rattle.delta_check.specs.Forms.{missing}
use Rattle.core_term.proofs.Causes.{is_same_type-same, is_same_type-true}

no_stream : (x : ℕ) (rule : StreamType → Option (Cause HistRefusal)) (h : Option HistType) → of_stream x rule None h ≡ Some (missing x h)
no_stream x rule (Some t) = refl
no_stream x rule None = refl

pub subject_none : (c : Context) (x : ℕ) (rule : StreamType → Option (Cause HistRefusal)) → c.types x ≡ None → of_subject c x rule ≡ Some (missing x (c.past x))
subject_none c x rule h = ap (λ o. of_stream x rule o (c.past x)) h ∙ no_stream x rule (c.past x)

pub subject_some : (c : Context) (x : ℕ) (rule : StreamType → Option (Cause HistRefusal)) (t : StreamType) → c.types x ≡ Some t → of_subject c x rule ≡ rule t
subject_some c x rule t h = ap (λ o. of_stream x rule o (c.past x)) h

-- equal types pass the test
pub is_same : (s t : StreamType) → s ≡ t → is_same_type s t ≡ true
is_same s t e = cc (is_same_type-same s, e)

pub differs : (s t : StreamType) → (s ≡ t → ⊥) → is_same_type s t ≡ false
differs s t h = go (is_same_type s t) refl
  where
    go : (b : Bool) → is_same_type s t ≡ b → is_same_type s t ≡ false
    go true e = absurd (h (is_same_type-true s t e))
    go false e = e

pub ruleset rules = (subject_none, subject_some, is_same, differs)

-- of two causes the one with the lower number
abbrev pub HasNumber : TypeCause → ℕ → Type 0
HasNumber a n = (k : Cause HistRefusal) → cause_of a ≡ Some k → n ≡ cause_number k

told : (a : TypeCause) (p : Option (Cause HistRefusal)) (o : Option TypeCause) → o ≡ Some a → Tells o p → {P : Type 0} → ((k : Cause HistRefusal) → cause_of a ≡ Some k → p ≡ Some k → P) → P
told a None o e h f = absurd (cc (sym (ap (λ v. option_map cause_of v) e) ∙ h))
told a (Some k) o e h f = f k (cc (sym (ap (λ v. option_map cause_of v) e) ∙ h)) refl

by_number : (j k : Cause HistRefusal) (b : Bool) → nat_lt (cause_number k) (cause_number j) ≡ b → lower (Some j) (Some k) ≡ (if b then Some k else Some j)
by_number j k b h = ap (λ d. if d then Some k else Some j) h

pub lower_then : (a b : TypeCause) (p q : Option (Cause HistRefusal)) (o u : Option TypeCause) (m n : ℕ) → o ≡ Some a → u ≡ Some b → Tells o p → Tells u q → HasNumber a m → HasNumber b n → n < m
    → Tells (Some b) (lower p q)
lower_then a b p q o u m n e f h k ha hb lt =
    told a p o e h (λ i ci pi. told b q u f k (λ j cj qj.
    let less : nat_lt (cause_number j) (cause_number i) ≡ true = lt-ltb (cause_number j) (cause_number i) (subst (λ z. z < cause_number i) (hb j cj) (subst (λ z. n < z) (ha i ci) lt)) in
    let low : lower p q ≡ Some j = cc (ap₂ lower pi qj, by_number i j true less) in
    ap Some cj ∙ ap (option_map Some) (sym low)))

pub lower_else : (a b : TypeCause) (p q : Option (Cause HistRefusal)) (o u : Option TypeCause) (m n : ℕ) → o ≡ Some a → u ≡ Some b → Tells o p → Tells u q → HasNumber a m → HasNumber b n → m ≤ n
    → Tells (Some a) (lower p q)
lower_else a b p q o u m n e f h k ha hb le =
    told a p o e h (λ i ci pi. told b q u f k (λ j cj qj.
    let less : nat_lt (cause_number j) (cause_number i) ≡ false = le-ltb (cause_number j) (cause_number i) (subst (λ z. cause_number i ≤ z) (hb j cj) (subst (λ z. z ≤ n) (ha i ci) le)) in
    let low : lower p q ≡ Some i = cc (ap₂ lower pi qj, by_number i j false less) in
    ap Some ci ∙ ap (option_map Some) (sym low)))

-- what is told of the first of two is told of both
pub tells_first : (a : TypeCause) (p q : Option (Cause HistRefusal)) → Tells (Some a) p → Tells (Some a) (first_some p q)
tells_first a None q h = absurd (cc h)
tells_first a (Some k) q h = h

abbrev pub pasts_of : (ℕ → Option HistType) → List Expr → List (Name × Ty) → Option (Cause HistRefusal)
pasts_of env ms ps = of_pasts [] (λ _. false) expr_refusal env (map expr_of ms) (map (λ e. e.1) (typed_names_of ps))

-- the next historical argument decides first
pub pasts_of-next : (env : ℕ → Option HistType) (ms : List Expr) (ps : List (Name × Ty)) (i : ℕ) (m : Expr) (p : Name × Ty) → i < length ms → true ≡ nat_lt i (length ps) → m ≡ get_or ms i m → p ≡ get_or ps i p
    → pasts_of env (drop i ms) (drop i ps) ≡ first_some (option_map history_fault (expr_refusal env (expr_of m) (past (type_of p.1)))) (pasts_of env (drop (i + 1) ms) (drop (i + 1) ps))
pasts_of-next env ms ps i m p h k em ep =
    let rest = pasts_of env (drop (i + 1) ms) (drop (i + 1) ps) in
    at_drop_more (λ l. pasts_of env l (drop i ps)) ms i m h
    ∙ at_drop_more (λ l. pasts_of env (get_or ms i m ∷ drop (i + 1) ms) l) ps i p (ltb-true i (length ps) (sym k))
    ∙ ap (λ v. first_some (option_map history_fault (expr_refusal env (expr_of v) (past (type_of (get_or ps i p).1)))) rest) (sym em)
    ∙ ap (λ v. first_some (option_map history_fault (expr_refusal env (expr_of m) (past (type_of v.1)))) rest) (sym ep)

pub none_told : (p : Option (Cause HistRefusal)) (o : Option TypeCause) → o ≡ None → Tells o p → p ≡ None
none_told None o e h = refl
none_told (Some k) o e h = absurd (cc (sym (ap (λ v. option_map cause_of v) e) ∙ h))
