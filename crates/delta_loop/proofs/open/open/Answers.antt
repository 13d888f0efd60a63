use Rattle.std.proofs.Common.{◌≡◌, ◌++◌, ◌∙◌, sym, ap, refl, append_assoc, append-nil, List, ℕ}
use Rattle.delta_loop.specs.Output.{opening}
use Rattle.delta_loop.proofs.Opening.{writes-append}
use Rattle.delta_loop.proofs.open.open.Goals as goal

pub returns-in-Ok-clause-sent : goal.returns-in-Ok-clause-sent
returns-in-Ok-clause-sent g c =
    let first = c.in-Ok.ensures.sent in
    let more = c.send-in-Ok.ensures.sent in
    let all : opening c.args.version ≡ first.0 = sym c.opening_of.ensures ∙ first.2 ∙ ap (λ (bs : List ℕ). first.0 ++ bs) (first.3 refl) ∙ append-nil first.0 in
    (first.0 ++ more.0, more.1, ap (λ (bs : List ℕ). bs ++ c.args.first.now) all ∙ ap (λ (bs : List ℕ). first.0 ++ bs) more.2 ∙ sym (append_assoc first.0 more.0 more.1), more.3, writes-append _ _ _ first.0 more.0 first.4 more.4)

pub returns-in-Err-clause-sent : goal.returns-in-Err-clause-sent
returns-in-Err-clause-sent g c =
    let first = c.in-Err.ensures.sent in
    (first.0, first.1 ++ c.args.first.now, ap (λ (bs : List ℕ). bs ++ c.args.first.now) (sym c.opening_of.ensures ∙ first.2) ∙ append_assoc first.0 first.1 c.args.first.now, λ never. cc, first.4)
