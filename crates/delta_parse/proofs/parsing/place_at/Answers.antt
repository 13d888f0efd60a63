use Rattle.std.proofs.Common.{◌≡◌, ◌∙◌, sym, length, arith}
use Rattle.std.proofs.lemmas.Bool.{eqb-false}
use Rattle.delta_parse.proofs.Numbers.{place_inside, place_last}
use Rattle.delta_parse.proofs.Shorts.{within_at}
use Rattle.delta_parse.proofs.parsing.place_at.Goals as goal

pub returns-then-n-tokens : goal.returns-then-n-tokens
returns-then-n-tokens c = sym (place_inside 0 c.args.tokens.now c.args.n _ (omega arith))

pub end_of-requires : goal.end_of-requires
end_of-requires c =
    let some : length c.args.tokens.now ≡ 0 → ⊥ = eqb-false (length c.args.tokens.now) 0 (sym c.if-is_empty.ensures) in
    within_at c.args.tokens.now _ _ c.requires.within (omega arith)

pub returns : goal.returns
returns c =
    let some : length c.args.tokens.now ≡ 0 → ⊥ = eqb-false (length c.args.tokens.now) 0 (sym c.if-is_empty.ensures) in
    c.end_of.ensures ∙ sym (place_last c.args.tokens.now c.args.n _ some (omega arith))
