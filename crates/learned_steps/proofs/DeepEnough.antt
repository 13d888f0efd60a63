-- All code of a machine's state is deep enough for the calls of an event.
use Rattle.std.proofs.Common.{ℕ, ◌-◌, ◌*◌, ◌^◌, ◌<◌, ◌≤◌, sym, subst, arith}
use Rattle.std.specs.List.{All}
use Rattle.std.proofs.lemmas.List.Elements.{All-weaker}
use Rattle.delta_state.specs.StateTree.{LaterTree, laters_of}
use Rattle.delta_state.specs.Stands.{depth_after}
use Rattle.learned_steps.specs.Laws.{DeepEnough, DeepEnoughSince}

-- a million for each event that may still come
deep_after : (events : ℕ) → events < 2 ^ 42 → 1000000 ≤ depth_after events
deep_after events h = more (2 ^ 42 - events) (omega (arith, h))
  where
    more : (n : ℕ) → 0 < n → 1000000 ≤ n * 1000000
    more n k = omega (arith, k)

enough : (n budget events : ℕ) → events < 2 ^ 42 → n ≤ budget → budget ≤ 1000000 → (l : LaterTree) → depth_after events ≤ l.depth → n ≤ l.depth
enough n budget events room few limit l h = let deep : 1000000 ≤ depth_after events = deep_after events room in most n budget (depth_after events) l.depth few limit deep h
  where
    most : (n budget m d : ℕ) → n ≤ budget → budget ≤ 1000000 → 1000000 ≤ m → m ≤ d → n ≤ d
    most n budget m d a b e k = omega (arith, a, b, e, k)

pub deep_enough : DeepEnough
deep_enough c budget s a input output events spent word n k room few =
    All-weaker (λ l. depth_after events ≤ l.depth) (λ l. n ≤ l.depth) (enough n budget events room few k.below.keeps.in_limit) (laters_of s) k.below.keeps.keeps.stands_for.is_deep

pub deep_enough_since : DeepEnoughSince
deep_enough_since c budget s a input output events spent k word n keeps room few =
    All-weaker (λ l. depth_after events ≤ l.depth) (λ l. n ≤ l.depth) (enough n budget events room few keeps.in_limit) (laters_of s)
    (subst (λ m. All (λ l. depth_after m ≤ l.depth) (laters_of s)) (sym keeps.is_count) keeps.stands_for.is_deep)
