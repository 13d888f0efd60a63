-- The line, with the counts of the load worked out.
use Rattle.std.proofs.Common.{◌≡◌, ℕ, ◌+◌, ◌*◌, List, length, Result, Ok, Err, IfOk, ap, sym, ◌∙◌}
use Rattle.delta_load.specs.Load.{load}
use Rattle.delta_load.proofs.Places.{length-load}
use Rattle.delta_load.proofs.Words.{length-stream}
use Rattle.delta_load.specs.declared.totals.Totals.{Totals}
use Rattle.delta_load.specs.Counting.{stream_bytes}
use Rattle.delta_load.specs.Summary.{counts_told, last_told, totals_line, summary_of}

-- what is told of the load
load_told : (start items : ℕ) → counts_told (5 * items + 1) (4 + 30 * items + 2) ≡ counts_told (length (load start items)) (stream_bytes (load start items))
load_told start items =
    ap (λ (n : ℕ). counts_told n (4 + 30 * items + 2)) (sym (length-load start 0 items))
    ∙ ap (λ (n : ℕ). counts_told (length (load start items)) n) (sym (length-stream start 0 items))

pub told : (start items : ℕ) (out : Totals) (line came said last : List ℕ) → line ≡ totals_line items came said last
    → came ≡ counts_told (5 * items + 1) (4 + 30 * items + 2) → said ≡ counts_told out.events out.bytes → last ≡ last_told out.last → line ≡ summary_of start items out
told start items out line came said last whole first second third =
    whole ∙ ap (λ (w : List ℕ). totals_line items w said last) (first ∙ load_told start items)
    ∙ ap (λ (w : List ℕ). totals_line items (counts_told (length (load start items)) (stream_bytes (load start items))) w last) second
    ∙ ap (λ (w : List ℕ). totals_line items (counts_told (length (load start items)) (stream_bytes (load start items))) (counts_told out.events out.bytes) w) third

pub if_ok : {A E : Type 0} (r : Result A E) {P Q : A → Type 0} → IfOk r P → ((a : A) → P a → Q a) → IfOk r Q
if_ok (Ok a) h f = f a h
if_ok (Err e) h f = tt
