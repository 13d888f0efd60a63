-- A term without parts gives what it is, without a call.
use Rattle.std.proofs.Common.{◌≡◌, ap}
use Rattle.std.proofs.lemmas.Result.{IfOk-weaker}
use Rattle.hist_value.specs.HistExpr.{expr_of}
use Rattle.core_term.specs.CoreTerm.{term_of, term_in, var_term, eps_term, unit_term, nil_term, past_term}
use Rattle.core_term.specs.Run.{Run}
use Rattle.delta_step.proofs.terms_alone.reach_alone.Goals as goal

pub returns-in-Var : goal.returns-in-Var
returns-in-Var c =
    let is : term_of c.args.n.now ≡ var_term c.in-Var.x.0 = ap term_in c.in-Var.is in
    let run = c.named.ensures.run in
    record {
      run = rw is run;
      rest = rw is c.named.ensures.rest;
      none = IfOk-weaker c.named.result _ _ (λ a e. ap (λ (r : Run). r.calls) e) run;
      flat = IfOk-weaker c.named.result _ _ (λ a e. ap (λ (r : Run). r.level) e) run;
    }

pub returns-in-Eps : goal.returns-in-Eps
returns-in-Eps c =
    let is : term_of c.args.n.now ≡ eps_term = ap term_in c.in-Eps.is in
    let run = c.nothing.ensures.run in
    record {
      run = rw is run;
      rest = rw is c.nothing.ensures.rest;
      none = IfOk-weaker c.nothing.result _ _ (λ a e. ap (λ (r : Run). r.calls) e) run;
      flat = IfOk-weaker c.nothing.result _ _ (λ a e. ap (λ (r : Run). r.level) e) run;
    }

pub returns-in-Unit : goal.returns-in-Unit
returns-in-Unit c =
    let is : term_of c.args.n.now ≡ unit_term = ap term_in c.in-Unit.is in
    let run = c.unit.ensures.run in
    record {
      run = rw is run;
      rest = rw is c.unit.ensures.rest;
      none = IfOk-weaker c.unit.result _ _ (λ a e. ap (λ (r : Run). r.calls) e) run;
      flat = IfOk-weaker c.unit.result _ _ (λ a e. ap (λ (r : Run). r.level) e) run;
    }

pub returns-in-Nil : goal.returns-in-Nil
returns-in-Nil c =
    let is : term_of c.args.n.now ≡ nil_term = ap term_in c.in-Nil.is in
    let run = c.no_items.ensures.run in
    record {
      run = rw is run;
      rest = rw is c.no_items.ensures.rest;
      none = IfOk-weaker c.no_items.result _ _ (λ a e. ap (λ (r : Run). r.calls) e) run;
      flat = IfOk-weaker c.no_items.result _ _ (λ a e. ap (λ (r : Run). r.level) e) run;
    }

pub returns-in-Past : goal.returns-in-Past
returns-in-Past c =
    let is : term_of c.args.n.now ≡ past_term (expr_of c.in-Past.m) = ap term_in c.in-Past.is in
    let run = c.whole_value.ensures.run in
    record {
      run = rw is run;
      rest = rw is c.whole_value.ensures.rest;
      none = IfOk-weaker c.whole_value.result _ _ (λ a e. ap (λ (r : Run). r.calls) e) run;
      flat = IfOk-weaker c.whole_value.result _ _ (λ a e. ap (λ (r : Run). r.level) e) run;
    }
