-- Rows of tokens that the grammar derives: one combinator for each way in which a rule derives.
--
-- All tokens of a row have the place 0, and so what is derived has no places.
use Rattle.std.proofs.Common.{◌≡◌, ℕ, Bool, true, List, [], ◌∷◌, ◌++◌, Some, None, refl, sym, subst, append_assoc}
use Rattle.std.proofs.lemmas.List.{map-append, append-nil}
use Rattle.grammar.specs.Rules.{Sort, token, place, pair, option, one_of, part, both, either, maybe, placed, make}
use Rattle.grammar.specs.Grammar.{Derives, by_token, by_part, by_both, by_left, by_right, by_none, by_some, by_placed, by_make, place_of}
use Rattle.delta_parse.specs.declared.terminal.Terminal.{Terminal}
use Rattle.delta_parse.specs.Terminals.{Tok, is_kind}
use Rattle.delta_parse.specs.Parts.{Thing, Part, stands_for, delta, Meant, RuleFor}
use Rattle.delta_parse.specs.Rules.{rule_of, sign}
use Rattle.delta_parse.specs.Tables.{delta_grammar}
use Rattle.delta_print.specs.declared.chunk.Chunk.{Chunk}
use Rattle.delta_print.specs.declared.chunk.Chunk.TheVariants.{Fixed}
use Rattle.delta_print.specs.Printable.{chunk_kind, chunk_token, row_tokens}

-- the rule derives the row's tokens, and they stand for the value
pub record From {s : Sort Thing} (a : RuleFor s) (u : List Chunk) (x : Meant s) : Type 0 where
  pub given : Derives delta delta_grammar s a (row_tokens u) x

-- a row's tokens have the place 0
pub place_of-row : (u : List Chunk) → place_of (row_tokens u) ≡ 0
place_of-row [] = refl
place_of-row (c ∷ u) = refl

pub token_from : {is : Terminal → Bool} (c : Chunk) → is (chunk_kind c) ≡ true → From {s = token} (one_of is) (c ∷ []) (chunk_token c)
token_from c h = record { given = by_token h }

pub part_from : (p : Part) {u : List Chunk} {v : Meant (stands_for p)} → From {s = stands_for p} (rule_of p) u v → From {s = stands_for p} (part p) u v
part_from p d = record { given = by_part d.given }

pub both_from : {s t : Sort Thing} {a : RuleFor s} {b : RuleFor t} {u w : List Chunk} {x : Meant s} {y : Meant t} → From a u x → From b w y → From {s = pair s t} (both a b) (u ++ w) (x, y)
both_from {s = s} {t = t} {a = a} {b = b} {u = u} {w = w} {x = x} {y = y} d e =
    let P : List Tok → Type 0 = λ ts. Derives delta delta_grammar (pair s t) (both a b) ts (x, y) in
    record { given = subst P (sym (map-append chunk_token u w)) (by_both d.given e.given) }

-- where nothing stands behind
pub alone_from : {s t : Sort Thing} {a : RuleFor s} {b : RuleFor t} {u : List Chunk} {x : Meant s} {y : Meant t} → From a u x → From b [] y → From {s = pair s t} (both a b) u (x, y)
alone_from {s = s} {t = t} {a = a} {b = b} {u = u} {x = x} {y = y} d e =
    let P : List Chunk → Type 0 = λ w. From {s = pair s t} (both a b) w (x, y) in
    subst P (append-nil u) (both_from d e)

pub left_from : {s : Sort Thing} {a b : RuleFor s} {u : List Chunk} {x : Meant s} → From a u x → From (either a b) u x
left_from d = record { given = by_left d.given }

pub right_from : {s : Sort Thing} {a b : RuleFor s} {u : List Chunk} {x : Meant s} → From b u x → From (either a b) u x
right_from d = record { given = by_right d.given }

pub none_from : {s : Sort Thing} {a : RuleFor s} → From {s = option s} (maybe a) [] None
none_from = record { given = by_none }

pub some_from : {s : Sort Thing} {a : RuleFor s} {u : List Chunk} {x : Meant s} → From a u x → From {s = option s} (maybe a) u (Some x)
some_from d = record { given = by_some d.given }

pub placed_from : {s : Sort Thing} {a : RuleFor s} {u : List Chunk} {x : Meant s} → From a u x → From {s = pair place s} (placed a) u (0, x)
placed_from {s = s} {a = a} {u = u} {x = x} d =
    let P : ℕ → Type 0 = λ n. Derives delta delta_grammar (pair place s) (placed a) (row_tokens u) (n, x) in
    record { given = subst P (place_of-row u) (by_placed d.given) }

pub make_from : {s t : Sort Thing} {f : Meant s → Meant t} {a : RuleFor s} {u : List Chunk} {x : Meant s} → From a u x → From (make f a) u (f x)
make_from d = record { given = by_make d.given }

-- a word or a sign
pub sign_from : (k : Terminal) → is_kind k k ≡ true → From {s = token} (sign k) (Fixed k ∷ []) (chunk_token (Fixed k))
sign_from k h = token_from (Fixed k) h

-- a row whose front stands for more than its first part
pub grouped_from : {s : Sort Thing} {a : RuleFor s} (u w v : List Chunk) {x : Meant s} → From a ((u ++ w) ++ v) x → From a (u ++ (w ++ v)) x
grouped_from {s = s} {a = a} u w v {x = x} d = let P : List Chunk → Type 0 = λ r. From {s = s} a r x in subst P (append_assoc u w v) d
