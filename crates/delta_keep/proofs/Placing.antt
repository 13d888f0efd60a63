-- What is left behind what was read, by where it starts.
use Rattle.std.proofs.Common.{◌≡◌, ◌∙◌, ◌-◌, ℕ, suc, List, [], ◌∷◌, ◌++◌, length, take, drop, ap, sym, subst, arith, append_assoc, length-append}
use Rattle.std.proofs.lemmas.List.{take-append-drop, drop_at}
use Rattle.std.specs.Prelude.{None, Result, Ok, Err}
use Rattle.kept_state.specs.KeptForm.{Kind, Part, form, settle, after_byte}
use Rattle.delta_keep.specs.declared.halt.Halt.{Halt}
use Rattle.delta_keep.specs.declared.halt.Halt.TheVariants.{At}
use Rattle.delta_keep.specs.Walking.{walk, walk_on}
use Rattle.delta_keep.specs.Reads.{Read, Stops, Reads}
use Rattle.delta_keep.specs.Placing.{Places}

-- what stands behind, by how many bytes there are
rest_placed : (start : ℕ) (bytes w rest : List ℕ) → drop start bytes ≡ w ++ rest → drop (length bytes - length rest) bytes ≡ rest
rest_placed start bytes w rest e =
    let whole = append_assoc (take start bytes) w rest ∙ (ap (λ bs. take start bytes ++ bs) (sym e) ∙ take-append-drop start bytes) in
    let long = sym (length-append (take start bytes ++ w) rest) ∙ ap length whole in
    let before : length (take start bytes ++ w) ≡ length bytes - length rest = omega (arith, long) in
    ap (λ bs. drop (length bytes - length rest) bs) (sym whole) ∙ drop_at (take start bytes ++ w) rest (length bytes - length rest) before

-- what was read, with where that starts
pub placed_read : {V S : Type 0} (ps : List Part) (start : ℕ) (bytes : List ℕ) (left : S → List ℕ) (w : V → List ℕ) (F : V → Type 0) (r : Result (V × S) Halt) (s : Result (V × ℕ) Halt) → Places left bytes r s
    → Reads ps (drop start bytes) (λ x. w x.0) (λ x. left x.1) (λ x. F x.0) r → Reads ps (drop start bytes) (λ x. w x.0) (λ x. drop x.1 bytes) (λ x. F x.0) s
placed_read {V} {S} ps start bytes left w F (Ok v) (Ok u) (p, q) h = rw (p, q) (subst (λ rest. Read ps (drop start bytes) (w v.0) rest (F v.0)) (sym (rest_placed start bytes (w v.0) (left v.1) h.spelled)) h)
placed_read ps start bytes left w F (Ok v) (Err e) p h = absurd p
placed_read ps start bytes left w F (Err e) (Ok u) p h = absurd p
placed_read {V} {S} ps start bytes left w F (Err e) (Err f) p h = subst (λ (x : Halt). Stops ps (drop start bytes) x) (sym p) h

-- where a byte is that of no form, a reader stops before it
pub stops_at : (k : Kind) {b : ℕ} {bytes rest : List ℕ} {e : Halt} → after_byte (form k ∷ []) b ≡ None → bytes ≡ b ∷ rest → e ≡ At (length bytes) → Stops (form k ∷ []) bytes e
stops_at k {b} {bytes} {rest} a h q = rw (q, h) (ap (λ o. walk_on o (suc (length rest)) (λ next. walk (settle next) rest)) a)
