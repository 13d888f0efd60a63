-- The subject isn't null and isn't used as a stream, and what follows is good.
use Rattle.std.proofs.Common.{◌≡◌, ◌∙◌, false, true≢false, ap, sym}
use Rattle.stream_type.specs.StreamType.{type_of, null_of}
use Rattle.bunch.specs.Names.{holds}
use Rattle.core_term.specs.FreeNames.{free_names}
use Rattle.core_term.specs.Typing.{type_at}
use Rattle.delta_check.specs.Scopes.{context_in}
use Rattle.delta_keep.specs.KeptView.{later_of}
use Rattle.kept_rules.specs.StateRules.{IsGoodWait}
use Rattle.kept_check.specs.Judging.{funs_of}
use Rattle.kept_check.proofs.FreeLists.{names_once}
use Rattle.kept_check.proofs.StateForms.{fails, rest_told}
use Rattle.kept_check.proofs.rules.has_rest.Goals as goal

pub returns-then-null : goal.returns-then-null
returns-then-null c =
    let d = context_in c.args.scope.now in
    let x = c.args.x.0 in
    let test : c.null.result ≡ null_of (type_at d x) = c.null.ensures ∙ ap null_of c.type_or-t.ensures in
    fails (null_of (type_at d x) ≡ false) (IsGoodWait (funs_of c.args.judge.now) c.args.judge.now.depth d x (later_of c.args.l.now) (type_of c.args.r.now)) (λ g. g.not_null) (λ e. true≢false (sym (sym test ∙ c.if-null.true) ∙ e))

pub returns-then-is_there : goal.returns-then-is_there
returns-then-is_there c =
    let x = c.args.x.0 in
    let l = later_of c.args.l.now in
    let code = free_names l.term in
    let test : c.is_there.result ≡ holds x code = rw c.deref-2.ensures.value at c.is_there.ensures ∙ names_once c.in_ok-used.used.items code (rw c.deref.ensures at c.in_ok-used.ensures) x in
    fails (holds x code ≡ false) (IsGoodWait (funs_of c.args.judge.now) c.args.judge.now.depth (context_in c.args.scope.now) x l (type_of c.args.r.now)) (λ g. g.not_used) (λ e. true≢false (sym (sym test ∙ c.if-is_there.true) ∙ e))

pub returns : goal.returns
returns c =
    let d = context_in c.args.scope.now in
    let x = c.args.x.0 in
    let l = later_of c.args.l.now in
    let code = free_names l.term in
    let null : c.null.result ≡ null_of (type_at d x) = c.null.ensures ∙ ap null_of c.type_or-t.ensures in
    let test : c.is_there.result ≡ holds x code = rw c.deref-2.ensures.value at c.is_there.ensures ∙ names_once c.in_ok-used.used.items code (rw c.deref.ensures at c.in_ok-used.ensures) x in
    rest_told (funs_of c.args.judge.now) c.args.judge.now.depth d x c.is_good_behind.result l (type_of c.args.r.now) (sym null ∙ c.if-null.false) (sym test ∙ c.if-is_there.false) (rw c.type_or-t.ensures at c.is_good_behind.ensures)
