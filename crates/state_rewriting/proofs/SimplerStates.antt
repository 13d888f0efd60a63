-- The laws of rewritings.
use Rattle.std.proofs.Common.{◌≡◌, ◌∙◌, ◌≤◌, ℕ, Bool, true, List, [], ap, refl, subst, sym, arith}
use Rattle.std.specs.List.{All}
use Rattle.stream_type.specs.StreamType.{StreamType}
use Rattle.stream_prefix.specs.StreamPrefix.{StreamPrefix, der, join, IsPrefix}
use Rattle.stream_prefix.proofs.Derivations.{Derives, derives, is_prefix}
use Rattle.event_word.proofs.Words.{word_derives}
use Rattle.core_term.specs.CoreTerm.{CoreBody, CoreProgram}
use Rattle.core_term.specs.Environment.{Environment, NameTypes, left_at}
use Rattle.core_term.specs.Agreement.{types_in}
use Rattle.core_term.specs.Split.{split, split_after}
use Rattle.core_term.specs.Inert.{is_inert_fun}
use Rattle.core_term.specs.Meaning.{mean}
use Rattle.core_term.specs.Typing.{Context, types_of, IsTypedBody}
use Rattle.core_term.proofs.TypedTerms.{Extends}
use Rattle.core_term.proofs.GrowingRuns.{Streams, Continues, continues_same}
use Rattle.core_term.proofs.Splits.{split_after_derives}
use Rattle.delta_state.specs.StateTree.{StateTree, is_var_state}
use Rattle.delta_state.specs.StateTyping.{HasStateType, no_pasts}
use Rattle.delta_state.specs.Settled.{is_settled}
use Rattle.delta_state.specs.Stands.{StandsFor, input_type, output_left, context_after, rest_run, depth_after}
use Rattle.delta_state.specs.MachineView.{input_of}
use Rattle.delta_state.proofs.GrowingStates.{extends_free, streams_of}
use Rattle.state_steps.proofs.SplitInputs.{first_is_part}
use Rattle.state_steps.proofs.SourceSteps.{le_trans, pred_le}
use Rattle.state_steps.proofs.ProgramSteps.{extends_after}
use Rattle.state_rewriting.specs.Rewriting.{Rewritten, finished, unused, unused_pair, unused_row, unused_argument, alias, pair, renamed, frames, returned, Simpler, SimplerBy, as_it_is, one_more, row}
use Rattle.state_rewriting.specs.Laws.{SimplerKeepsType, SimplerKeepsRun, SimplerKeepsDepth, SimplerStandsFor, SimplerStandsAfter}
use Rattle.state_rewriting.proofs.FittingParts.{Fits, FitsLocally, fits}
use Rattle.state_rewriting.proofs.LighterParts.{Lighter, LighterState, LightensLocally, lightens}
use Rattle.state_rewriting.proofs.BindingsLeftOut.{NoOther, finished_fits, unused_fits, unused_pair_fits, unused_row_fits, renamed_fits, finished_lighter, unused_lighter, unused_pair_lighter, unused_row_lighter, renamed_lighter}
use Rattle.state_rewriting.proofs.RowsLeftOut.{row_fits, row_lighter}
use Rattle.state_rewriting.proofs.AliasPutIn.{alias_fits, alias_lighter}
use Rattle.state_rewriting.proofs.PairPutIn.{pair_fits, pair_lighter}
use Rattle.state_rewriting.proofs.ArgumentsLeftOut.{dropped_fits, dropped_lighter}
use Rattle.state_rewriting.proofs.FramesJoined.{frames_fit, frames_lighter}
use Rattle.state_rewriting.proofs.ArgumentsReturned.{returned_fits, returned_lighter}
use Rattle.state_rewriting.proofs.CodeKept.{replaced_laters, rewritten_laters}

module _ (funs : List CoreBody) (counts : ℕ → Bool) where
  -- what each rewriting puts in fits, whatever is known of the context
  pub rewritten_fits : (r : StreamType) (a b : StateTree) → Rewritten r a b → (c : Context) → Unit {0} → HasStateType funs counts c a r → is_settled a r ≡ true → Fits funs counts NoOther c r a b
  rewritten_fits r a b (finished n) c k t i = finished_fits funs counts c r a n
  rewritten_fits r a b (unused {s = s} {x = x} {a = q} n) c k t i = unused_fits funs counts c r s x q b n t i
  rewritten_fits r a b (unused_pair {x = x} {y = y} {z = z} n m) c k t i = unused_pair_fits funs counts c r x y z b n m t i
  rewritten_fits r a b (unused_row {x = x} {y = y} {z = z} n m) c k t i = unused_row_fits funs counts c r x y z b n m t i
  rewritten_fits r a b (unused_argument {args = args} {a = q} u n) c k t i = dropped_fits funs counts c r args q u n t i
  rewritten_fits r a b (alias {s = s} {y = y} {z = z} {a = p} {b = q} h) c k t i = alias_fits funs counts y z c r s p q h t i
  rewritten_fits r a b (pair {x = x} {y = y} {z = z} {a = p} {b = q} n m h) c k t i = pair_fits funs counts x y z c r p q n m h t i
  rewritten_fits r a b (renamed {s = s} {x = x}) c k t i = renamed_fits funs counts c r s x b t i
  rewritten_fits r a b (row {s = s} {w = w} {x = x} {y = y} {l = l} e n m) c k t i = row_fits funs counts c r s w x y b l e t i
  rewritten_fits r a b (frames {args = args} {inner = inner} {a = q} p o) c k t i = frames_fit funs counts c r args inner q p t i
  rewritten_fits r a b (returned {args = args} {u = u} m) c k t i = returned_fits funs counts c r args u t i

  -- so the rewritings fit locally, without names
  pub rewritings_fit : FitsLocally funs counts [] Rewritten NoOther (λ c. Unit {0})
  rewritings_fit = record {
    named = λ w v n. absurd n;
    serves = λ c k w v n. absurd n;
    known_let = λ c x s us k n. tt;
    known_parts = λ c x y z s t k n m o. tt;
    known_fact = λ c x y k n m. tt;
    known_body = λ c args e k. tt;
    local = rewritten_fits;
  }

  -- so a simpler state fits
  simpler_fits : {r : StreamType} {a b : StateTree} → Simpler r a b → (c : Context) → HasStateType funs counts c a r → is_settled a r ≡ true → Fits funs counts NoOther c r a b
  simpler_fits h c t i = fits rewritings_fit h c tt t i

module _ (funs : List CoreBody) (typed : All (IsTypedBody funs) funs) where
  -- what each rewriting puts in is lighter, whatever is known of what comes
  rewritten_lighter : (r : StreamType) (a b : StateTree) → Rewritten r a b → (c : Context) (T : NameTypes) → Extends c T no_pasts → HasStateType funs (is_inert_fun funs) c a r → (d e : Environment) → Streams T d → Continues T d e → Unit {0} → Unit {0} → LighterState funs T r d e a b
  rewritten_lighter r a b (finished n) c T w t d e s g k l = finished_lighter funs typed r a n c T w t d e s g
  rewritten_lighter r a b (unused {s = u} {x = x} {a = q} n) c T w t d e s g k l = unused_lighter funs typed r u x q b n c T w t d e s g
  rewritten_lighter r a b (unused_pair {x = x} {y = y} {z = z} n m) c T w t d e s g k l = unused_pair_lighter funs typed r x y z b n m T d e
  rewritten_lighter r a b (unused_row {x = x} {y = y} {z = z} n m) c T w t d e s g k l = unused_row_lighter funs typed r x y z b n m T d e
  rewritten_lighter r a b (unused_argument {args = args} {a = q} u n) c T w t d e s g k l = dropped_lighter funs typed r args q u n c T w t d e s g
  rewritten_lighter r a b (alias {s = u} {y = y} {z = z} {a = p} {b = q} h) c T w t d e s g k l = alias_lighter funs typed y z r u p q h c T w t d e s g
  rewritten_lighter r a b (pair {x = x} {y = y} {z = z} {a = p} {b = q} n m h) c T w t d e s g k l = pair_lighter funs typed x y z r p q n m h c T w t d e s g
  rewritten_lighter r a b (renamed {s = u} {x = x}) c T w t d e s g k l = renamed_lighter funs typed r u x b c T t d e
  rewritten_lighter r a b (row {s = u} {w = v} {x = x} {y = y} {l = q} i n m) c T w t d e s g k l = row_lighter funs typed r u v x y b q i n m c T w t d e s g
  rewritten_lighter r a b (frames {args = args} {inner = inner} {a = q} p o) c T w t d e s g k l = frames_lighter funs typed r args inner q p o c T w t d e s g
  rewritten_lighter r a b (returned {args = args} {u = u} m) c T w t d e s g k l = returned_lighter funs typed r args u c T w t d e s g

  -- so they lighten locally, without names
  rewritings_lighten : LightensLocally funs [] Rewritten (λ d. Unit {0})
  rewritings_lighten = record { known_put = λ d x p k n. tt; known_any = λ d n. tt; local = rewritten_lighter }

  -- so the runs of a simpler state are lighter
  simpler_lighter : {r : StreamType} {a b : StateTree} → Simpler r a b → (c : Context) (T : NameTypes) → Extends c T no_pasts → HasStateType funs (is_inert_fun funs) c a r → (d e : Environment) → Streams T d → Continues T d e → LighterState funs T r d e a b
  simpler_lighter h c T w t d e s g = lightens typed rewritings_lighten h c T w t d e s g tt tt

pub simpler_keeps_type : SimplerKeepsType
simpler_keeps_type funs c r a b t i h =
    let f = simpler_fits funs (is_inert_fun funs) h c t.state_typed i in
    record { typed = f.typed; settled = f.settled }

pub simpler_keeps_run : SimplerKeepsRun
simpler_keeps_run funs c r a b env other t h s g =
    let f = simpler_lighter funs t.funs_typed h c (types_of c) (extends_free c t.none_past) t.state_typed env other (streams_of c env s) (record { at = g }) in
    record { same = sym f.out; calls = f.calls; rise = f.rise; level = f.level }

pub simpler_keeps_depth : SimplerKeepsDepth
simpler_keeps_depth r a b n h k = replaced_laters (λ l. n ≤ l.depth) [] Rewritten (rewritten_laters (λ l. n ≤ l.depth)) h k

-- what stands for a program does so after one rewriting
once_simpler : (c : CoreProgram) (n : ℕ) (p : StreamPrefix) (a b : StateTree) → All (IsTypedBody c.funs) c.funs → IsPrefix (input_type c) p → StandsFor c n p a → Simpler (output_left c p) a b → StandsFor c n p b
once_simpler c n p a b typed hp st h =
    let f = simpler_fits c.funs (is_inert_fun c.funs) h (context_after c p) st.is_typed st.settled in
    record {
      is_typed = f.typed;
      settled = f.settled;
      is_deep = simpler_keeps_depth (output_left c p) a b n h st.is_deep;
      gives_rest = λ q k. st.gives_rest q k ∙ ap (join (mean c p)) (at q q k (same q k)).out;
      calls_rest = λ q k. let i = st.calls_rest q k in let l = (at q q k (same q k)).calls in omega (arith, i, l);
      calls_rise = λ q r k m. let i = st.calls_rise q r k m in let l = (at q (join q r) k (more q r k m)).rise in omega (arith, i, l);
      levels_below = λ q k. le_trans _ _ _ (pred_le _ _ (at q q k (same q k)).level) (st.levels_below q k);
    }
  where
    dp : Derives (input_type c) p
    dp = derives (input_type c) p hp

    -- what comes on main's names after p,
    streams : (q : StreamPrefix) → IsPrefix (der p (input_type c)) q → Streams (left_at (split c.main.params p) (types_in c.main.params)) (split_after c.main.params p q)
    streams q k = record { at = split_after_derives c.main.params dp (derives (der p (input_type c)) q k) }

    -- nothing more of it
    same : (q : StreamPrefix) → IsPrefix (der p (input_type c)) q → Continues (left_at (split c.main.params p) (types_in c.main.params)) (split_after c.main.params p q) (split_after c.main.params p q)
    same q k = continues_same (left_at (split c.main.params p) (types_in c.main.params)) (split_after c.main.params p q) (streams q k)

    -- and more
    more : (q r : StreamPrefix) → IsPrefix (der p (input_type c)) q → IsPrefix (der q (der p (input_type c))) r → Continues (left_at (split c.main.params p) (types_in c.main.params)) (split_after c.main.params p q) (split_after c.main.params p (join q r))
    more q r k m = record { at = first_is_part c.main.params dp (derives (der p (input_type c)) q k) (derives (der q (der p (input_type c))) r m) }

    -- on both the runs are lighter
    at : (q w : StreamPrefix) → IsPrefix (der p (input_type c)) q → Continues (left_at (split c.main.params p) (types_in c.main.params)) (split_after c.main.params p q) (split_after c.main.params p w)
        → Lighter (is_var_state a) (is_var_state b) (rest_run c p a q) (rest_run c p a w) (rest_run c p b q) (rest_run c p b w)
    at q w k g = simpler_lighter c.funs typed h (context_after c p) (left_at (split c.main.params p) (types_in c.main.params)) (extends_after c p) st.is_typed (split_after c.main.params p q) (split_after c.main.params p w) (streams q k) g

-- so it does after any number of them; the type left is kept as a variable
often_simpler : (c : CoreProgram) (n : ℕ) (p : StreamPrefix) → All (IsTypedBody c.funs) c.funs → IsPrefix (input_type c) p → {r : StreamType} {a b : StateTree} → SimplerBy r a b → r ≡ output_left c p → StandsFor c n p a → StandsFor c n p b
often_simpler c n p typed hp as_it_is e st = st
often_simpler c n p typed hp (one_more {a = a} {b = b} {e = q} h i) e st = once_simpler c n p b q typed hp (often_simpler c n p typed hp h e st) (subst (λ r. Simpler r b q) e i)

pub simpler_stands_for : SimplerStandsFor
simpler_stands_for c n p a b typed hp st h = often_simpler c n p typed hp h refl st

pub simpler_stands_after : SimplerStandsAfter
simpler_stands_after m word b h typed simpler = record {
  is_word = h.is_word;
  marked = b;
  is_state = refl;
  stands_for = simpler_stands_for m.program (depth_after m.events) (input_of m.program word) h.marked b typed (is_prefix (word_derives (input_type m.program) word h.is_word)) h.stands_for simpler;
  is_place = h.is_place;
  is_count = h.is_count;
  in_budget = h.in_budget;
  in_limit = h.in_limit;
}
