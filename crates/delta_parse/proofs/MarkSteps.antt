-- One more token of a count of marks.
use Rattle.std.proofs.Common.{◌≡◌, ℕ, zero, suc, ◌+◌, ◌<◌, List, [], ◌∷◌, refl, length, take, get_or, arith, add-one}
use Rattle.delta_parse.specs.declared.plain.Plain.{Plain}
use Rattle.delta_parse.specs.Terminals.{plains}
use Rattle.delta_parse.specs.Marks.{Opened, after_token, opened}

opened_suc : (s : Opened) (ts : List Plain) (i : ℕ) (d : Plain) → i < length ts
    → opened s (take (suc i) (plains ts)) ≡ after_token (opened s (take i (plains ts))) (get_or ts i d).kind
opened_suc s [] i d h = absurd (omega arith)
opened_suc s (t ∷ ts) zero d h = refl
opened_suc s (t ∷ ts) (suc i) d h = opened_suc (after_token s t.kind) ts i d (omega arith)

pub opened_next : (s : Opened) (ts : List Plain) (i : ℕ) (d : Plain) → i < length ts
    → opened s (take (i + 1) (plains ts)) ≡ after_token (opened s (take i (plains ts))) (get_or ts i d).kind
opened_next s ts i d h = rw add-one (opened_suc s ts i d h)
