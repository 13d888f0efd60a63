-- The first byte and the bytes of the rest are those of the path.
use Rattle.std.proofs.Common.{◌≡◌, ◌+◌, ◌*◌, ◌++◌, ◌∷◌, [], List, ℕ, length, drop, ◌∙◌, ap, sym, append_assoc}
use Rattle.std.proofs.lemmas.Bool.{eq-eqb}
use Rattle.std.proofs.lemmas.List.{take_rest}
use Rattle.std.specs.Prelude.{min}
use Rattle.event_word.specs.declared.event.Step.{Step}
use Rattle.event_frame.specs.Frames.{packed}
use Rattle.event_frame.proofs.Writing.{code_at, packed_first}
use Rattle.event_frame.proofs.write.+write_packed.Goals as goal

pub returns-clause-items : goal.returns-clause-items
returns-clause-items t c =
    let path : List Step = c.args.path.now in
    let some : length path ≡ 0 → ⊥ = λ (e : length path ≡ 0). (let clash = c.if-is_empty.ensures ∙ eq-eqb (length path) 0 e in let none : ⊥ = cc in none) in
    let byte : 64 * c.code_at.result + 16 * c.code_at-2.result + 4 * c.code_at-3.result + c.code_at-4.result
    ≡ 64 * code_at path 0 + 16 * code_at path 1 + 4 * code_at path 2 + code_at path 3
    = cc (c.code_at.ensures.code, c.code_at-2.ensures.code, c.code_at-3.ensures.code, c.code_at-4.ensures.code) in
    c.write_packed.ensures.items
    ∙ ap (λ (p : List Step). c.push_reserved.new.self.items ++ packed p) (take_rest path c.min.result ∙ ap (λ (n : ℕ). drop n path) c.min.ensures)
    ∙ ap (λ (bs : List ℕ). bs ++ packed (drop (min (length path) 4) path)) (c.push_reserved.ensures.items ∙ ap (λ (n : ℕ). c.args.out.now.items ++ n ∷ []) byte)
    ∙ append_assoc c.args.out.now.items (_ ∷ []) (packed (drop (min (length path) 4) path))
    ∙ sym (ap (λ (bs : List ℕ). c.args.out.now.items ++ bs) (packed_first path some))
